use Rattle.std.proofs.Common.{rules}
use Rattle.moments.proofs.Meanings.{seen_partner}
use Rattle.rules.specs.Criteria.{box_meaning}
use Rattle.rules.specs.Boxing.{boxed_exchanged}
use Rattle.rules.proofs.box_rule.BoxRuleDirectRule.least_partner.Goals as goal

pub returns : goal.returns
returns c = seen_partner box_meaning boxed_exchanged c.args.direction c.args.triad c.args.partner c.least_my.result (search rules)

use Rattle.std.proofs.Common.{rules}
use Rattle.moments.proofs.Meanings.{seen_partner}
use Rattle.rules.specs.Criteria.{yield_meaning}
use Rattle.rules.specs.Yielding.{yields_exchanged}
use Rattle.rules.proofs.yield_rule.YieldDirectRule.least_partner.Goals as goal

pub returns : goal.returns
returns c = seen_partner yield_meaning yields_exchanged c.args.direction c.args.triad c.args.partner c.least_my.result (search rules)

use Rattle.std.proofs.Common.{◌∙◌, rules}
use Rattle.moments.proofs.Partners.{partner_like}
use Rattle.moments.specs.TurningLemmas.{turned_passed_at}
use Rattle.moments.specs.Pairs.{pair_along}
use Rattle.moments.proofs.turned.TurnedDirectRule.least_partner.Goals as goal

pub returns : goal.returns
returns g c =
    partner_like _ _ _ _ (λ z _. (search rules) ∙ turned_passed_at (g.R.YieldRule.meaning c.args.self.now.rule) c.in_ok-turned.turned c.args.triad c.in_ok-turned.ensures (pair_along c.args.direction z c.args.partner)) c.least_partner.ensures

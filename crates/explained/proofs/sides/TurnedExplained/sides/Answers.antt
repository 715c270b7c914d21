use Rattle.std.proofs.Common.{Bool, cond, Some, None, ap, ◌∙◌}
use Rattle.moments.specs.Meanings.{asked}
use Rattle.moments.specs.Triads.{in_limits, negated_triad}
use Rattle.moments.specs.declared.triad.Triad.{Triad}
use Rattle.moments.specs.Tests.{some_by_test}
use Rattle.moments.specs.TurningLemmas.{turned_asked}
use Rattle.explained.proofs.sides.TurnedExplained.sides.Goals as goal

pub returns : goal.returns
returns g c =
    let m = g.R.YieldRule.meaning c.args.self.now.rule in
    let q = g.R.Explained.inequalities c.args.self.now.rule in
    let t = c.args.triad in
    let x = c.args.pair.mx in
    let y = c.args.pair.my in
    let turned = (some_by_test (in_limits t) c.in_ok-turned.turned (negated_triad t) c.in_ok-turned.ensures).1 in
    c.sides.ensures
    ∙ ap (λ (s : Triad). cond (asked m s x y) (Some (q s x y)) None) turned
    ∙ ap (λ (b : Bool). cond b (Some (q (negated_triad t) x y)) None) (turned_asked m t x y)

use Rattle.std.proofs.Common.{◌≡◌, true, sym, ◌∙◌, subst}
use Rattle.std.specs.List.{AllByRecursion}
use Rattle.moments.specs.declared.pair.Pair.{Pair}
use Rattle.table.specs.Failing.{passed_by}
use Rattle.table.proofs.Lowest.{some_fails}
use Rattle.search.proofs.Failing.{fails_below, lowered_is}
use Rattle.search.proofs.question.Question.stop.Goals as goal

pub unwrap-number-requires : goal.unwrap-number-requires
unwrap-number-requires g c =
    let q = c.args.self.now in
    let m = g.R.YieldRule.meaning q.rule.now in
    let w = c.if-moment.false in
    let is = lowered_is c.args.direction c.across.result c.args.best c.along-lower.result c.moment-moment.result c.moment-2.result c.along-lower.ensures c.moment-moment.ensures c.moment-2.ensures c.across.ensures in
    some_fails _ q.lines.now c.first_failing.result (c.first_failing.ensures.lowest c.requires.rising)
    (λ all.
    fails_below m q.lines.now q.floor c.args.best c.args.direction c.requires.least
    (λ e. w (c.moment-moment.ensures ∙ e ∙ sym c.moment.ensures))
    (subst (λ (p : Pair). AllByRecursion (λ l. passed_by m p l ≡ true) q.lines.now) is all))

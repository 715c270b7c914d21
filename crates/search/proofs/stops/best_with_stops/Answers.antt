use Rattle.std.proofs.Common.{sym, rules}
use Rattle.moments.proofs.Meanings.{up_to_ceiling}
use Rattle.moments.specs.Pairs.{pair_along}
use Rattle.moments.specs.declared.pair.Direction.TheVariants.{X}
use Rattle.table.proofs.Orders.{all_limited}
use Rattle.search.specs.Existence.{Posed}
use Rattle.search.proofs.Ranked.{best_given, given_best, best_only, best_least_sum}
use Rattle.search.proofs.Skips.{summit_safe}
use Rattle.search.proofs.stops.best_with_stops.Goals as goal

pub unwrap-pair-requires : goal.unwrap-pair-requires
unwrap-pair-requires g c =
    let m = g.R.YieldRule.meaning c.args.rule.now in
    let ls = c.standing-lines.result.now in
    let posed : Posed m ls c.args.floor = record { limited = all_limited ls c.standing-lines.ensures.ranged; low = up_to_ceiling m c.args.floor (sym c.if-above_ceiling.ensures) } in
    best_given _ _ c.best.result c.best.ensures (pair_along X m.ceiling m.ceiling) (summit_safe m ls c.args.floor (g.met.R.YieldRule.lawful c.args.rule.now) posed)

pub stop-mx_stop-requires-clause-least : goal.stop-mx_stop-requires-clause-least
stop-mx_stop-requires-clause-least g c =
    best_least_sum _ (g.met.K.Ranking.ranks c.args.ranking.now) _ _ (given_best _ _ _ _ c.best.ensures c.unwrap-pair.ensures)

pub stop-my_stop-requires-clause-least : goal.stop-my_stop-requires-clause-least
stop-my_stop-requires-clause-least g c =
    best_least_sum _ (g.met.K.Ranking.ranks c.args.ranking.now) _ _ (given_best _ _ _ _ c.best.ensures c.unwrap-pair.ensures)

pub returns : goal.returns
returns g c =
    rw (← c.standing-lines.ensures.value) (
      search rules,
      record {
        best = best_only _ (g.met.K.Ranking.ranks c.args.ranking.now) _ _ (given_best _ _ _ _ c.best.ensures c.unwrap-pair.ensures);
        mx_stop = c.stop-mx_stop.ensures;
        my_stop = c.stop-my_stop.ensures;
      },
    )

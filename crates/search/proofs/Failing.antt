-- Below a pair of the least sum some line fails. Assumes nothing.
use Rattle.std.proofs.Common.{◌≡◌, ℕ, ◌-◌, true, T, List, sym, ap, ◌∙◌, subst, arith}
use Rattle.std.specs.List.{AllByRecursion}
use Rattle.std.proofs.ByRecursion.{All-weaker}
use Rattle.moments.specs.Meanings.{Meaning}
use Rattle.moments.specs.Pairs.{crossing, moment_in, pair_along, lowered}
use Rattle.moments.specs.declared.pair.Direction.{Direction}
use Rattle.moments.specs.declared.pair.Pair.{Pair}
use Rattle.moments.proofs.Pairs.{sum-along, sum_split}
use Rattle.table.specs.Failing.{passed_by}
use Rattle.table.specs.declared.line.Line.{Line}
use Rattle.search.specs.Best.{Safe, LeastSum}
use Rattle.search.proofs.Along.{meets_safe}

pub fails_below : (m : Meaning) (lines : List Line) (floor p : Pair) (d : Direction) → LeastSum (Safe m lines floor) p
    → (moment_in d p ≡ moment_in d floor → ⊥) → AllByRecursion (λ l. passed_by m (lowered d p) l ≡ true) lines → ⊥
fails_below m lines floor p d least ne pass =
    let s = least.belongs in
    let z = moment_in d p - 1 in
    let k = moment_in (crossing d) p in
    let low = s.above d in
    let high = s.below d in
    let safe : Safe m lines floor (lowered d p) =
    meets_safe m lines floor d k z (s.above (crossing d)) (s.below (crossing d))
    (record { from = omega arith; upto = omega arith; passed = All-weaker _ (λ l. T (passed_by m (lowered d p) l)) (λ l e. subst T (sym e) tt) lines pass }) in
    let h = least.smallest (lowered d p) safe in
    let u = sum-along d z k in
    let v = sum_split d p in
    omega arith

-- the pair one unit less, as it is made of its parts
pub lowered_is : (d e : Direction) (p low : Pair) (z k : ℕ) → low ≡ pair_along d (z - 1) k → z ≡ moment_in d p → k ≡ moment_in e p → e ≡ crossing d
    → low ≡ lowered d p
lowered_is d e p low z k is a b c = is ∙ ap (λ (n : ℕ). pair_along d (n - 1) k) a ∙ ap (pair_along d (moment_in d p - 1)) (b ∙ ap (λ (f : Direction). moment_in f p) c)

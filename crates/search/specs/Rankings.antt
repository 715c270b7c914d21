-- What a ranking of pairs is, and the one in use. Assumes nothing.
use Rattle.std.specs.Prelude.{◌<◌, Bool, ◌&&◌, ◌||◌, T, ◌⊎◌, ◌==◌, ◌≢◌, nat_lt}
use Rattle.moments.specs.Pairs.{sum}
use Rattle.moments.specs.declared.pair.Pair.{Pair}

-- `ahead p q`: p is preferred to q. A ranking is a strict total order of all pairs that never prefers a larger sum
pub record Ranks (ahead : Pair → Pair → Bool) : Type 0 where
  pub by_sum : (p q : Pair) → sum p < sum q → T (ahead p q)
  pub total : (p q : Pair) → (p ≢ q) → T (ahead p q) ⊎ T (ahead q p)
  pub transitive : (p q r : Pair) → T (ahead p q) → T (ahead q r) → T (ahead p r)
  pub irreflexive : (p : Pair) → T (ahead p p) → ⊥

-- the smaller sum first, and among pairs of one sum the smaller mx
abbrev pub least_mx : Pair → Pair → Bool
least_mx p q = nat_lt (sum p) (sum q) || (sum p == sum q && nat_lt p.mx q.mx)

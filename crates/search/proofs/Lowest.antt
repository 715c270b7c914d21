-- The lowest pair of a column, from the least moment in it. Assumes nothing.
use Rattle.std.proofs.Common.{◌≡◌, ℕ, Some, None, Option, refl, subst}
use Rattle.moments.specs.Pairs.{pair_along}
use Rattle.moments.specs.declared.pair.Direction.TheVariants.{Y}
use Rattle.moments.specs.declared.pair.Pair.{Pair}
use Rattle.moments.proofs.Pairs.{same_pair}
use Rattle.search.specs.Steps.{Smallest, Lowest, LowestIfAny, SomeOfThem}

module _ (S : Pair → Type 0) (column : ℕ) where
  pub on_column : (q : Pair) → S q → q.mx ≡ column → S (pair_along Y q.my column)
  on_column q s e = subst S (same_pair q (pair_along Y q.my column) e refl) s

  pub lowest_at : (y : ℕ) → Smallest (λ z. S (pair_along Y z column)) y → Lowest S column (pair_along Y y column)
  lowest_at y s = record { belongs = s.holds; there = refl; least = λ q t e. s.least q.my (on_column q t e) }

  pub lowest_none : ((z : ℕ) → S (pair_along Y z column) → ⊥) → LowestIfAny S column None
  lowest_none never q s e = never q.my (on_column q s e)

-- the lowest pair of a column that has a pair of S wherever one has
pub some_at_last : (S : Pair → Type 0) (last : ℕ) → ((q : Pair) → S q → S (pair_along Y q.my last))
    → (o : Option Pair) → LowestIfAny S last o → SomeOfThem S o
some_at_last S last outward (Some p) low = low.belongs
some_at_last S last outward None none = λ q s. none (pair_along Y q.my last) (outward q s) refl

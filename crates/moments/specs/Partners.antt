-- The least partner of a moment. Assumes nothing.
use Rattle.std.specs.Prelude.{◌≡◌, ℕ, ◌≤◌, Bool, T, Some, None, Option}
use Rattle.moments.specs.Meanings.{Meaning, passed, passed_at}
use Rattle.moments.specs.Pairs.{pair_along}
use Rattle.moments.specs.declared.pair.Direction.{Direction}
use Rattle.moments.specs.declared.triad.Triad.{Triad}

-- y is the least number from 0 to top of which P holds
pub record Least (top : ℕ) (P : ℕ → Bool) (y : ℕ) : Type 0 where
  pub within : y ≤ top
  pub holds : T (P y)
  pub least : (z : ℕ) → z ≤ top → T (P z) → y ≤ z

-- the least such number, or none exactly where there is none
abbrev pub Partner : ℕ → (ℕ → Bool) → Option ℕ → Type 0
Partner top P (Some y) = Least top P y
Partner top P None = (z : ℕ) → z ≤ top → T (P z) → ⊥

-- the least my that the rule passes together with mx = x
abbrev pub LeastMy : Meaning → Triad → ℕ → Option ℕ → Type 0
LeastMy m t x r = Partner m.ceiling (λ y. passed m t x y) r

-- the least mx that the rule passes together with my = y
abbrev pub LeastMx : Meaning → Triad → ℕ → Option ℕ → Type 0
LeastMx m t y r = Partner m.ceiling (λ x. passed m t x y) r

-- the least moment in a direction that the rule passes together with k across it
abbrev pub LeastAlong : Meaning → Triad → Direction → ℕ → Option ℕ → Type 0
LeastAlong m t d k r = Partner m.ceiling (λ z. passed_at m t (pair_along d z k)) r

-- these have one answer
abbrev pub OnePartner : Type 0
OnePartner = (top : ℕ) (P : ℕ → Bool) (r s : Option ℕ) → Partner top P r → Partner top P s → r ≡ s

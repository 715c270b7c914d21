-- What a yield rule means, the laws that it keeps, and what it answers. Assumes nothing.
use Rattle.std.specs.Prelude.{ℕ, ◌≤◌, Bool, ◌&&◌, ◌||◌, T, nat_le, nat_lt}
use Rattle.moments.specs.Limits.{ceiling_limit}
use Rattle.moments.specs.Triads.{in_limits}
use Rattle.moments.specs.declared.pair.Pair.{Pair}
use Rattle.moments.specs.declared.triad.Triad.{Triad}

-- a ceiling, and for each triad the pairs that it passes
pub record Meaning : Type 0 where
  pub ceiling : ℕ
  pub passing : Triad → ℕ → ℕ → Bool

-- the laws speak of triads within the limits and of moments from 0 to the ceiling
pub record Lawful (m : Meaning) : Type 0 where
  pub bounded : m.ceiling ≤ ceiling_limit
  -- where a pair is passed, every pair at least as large in both moments is passed
  pub growth : (t : Triad) (x y u v : ℕ) → T (in_limits t) → x ≤ u → y ≤ v → u ≤ m.ceiling → v ≤ m.ceiling → T (m.passing t x y) → T (m.passing t u v)
  -- the pair (ceiling, ceiling) is passed
  pub summit : (t : Triad) → T (in_limits t) → T (m.passing t m.ceiling m.ceiling)

-- the triads and pairs that a rule is asked about: within the limits, and up to the ceiling
abbrev pub asked : Meaning → Triad → ℕ → ℕ → Bool
asked m t x y = in_limits t && (nat_le x m.ceiling && nat_le y m.ceiling)

-- what a rule answers: no for any other triad or pair
abbrev pub passed : Meaning → Triad → ℕ → ℕ → Bool
passed m t x y = asked m t x y && m.passing t x y

-- the same of a pair
abbrev pub passed_at : Meaning → Triad → Pair → Bool
passed_at m t p = passed m t p.mx p.my

-- a moment of the pair is above the ceiling
abbrev pub above_ceiling : Meaning → Pair → Bool
above_ceiling m p = nat_lt m.ceiling p.mx || nat_lt m.ceiling p.my

-- Each test of a delivered rule comes out true exactly where its inequalities hold. Assumes nothing.
use Rattle.std.specs.Prelude.{ℕ, Decides}
use Rattle.moments.specs.declared.triad.Triad.{Triad}
use Rattle.rules.specs.Criteria.{yields_at, boxed_at, Yields, Boxed}

-- each test and its inequalities, for all triads and pairs
pub record Readings : Type 0 where
  pub yield_says : (t : Triad) (x y : ℕ) → Decides (yields_at t x y) (Yields t x y)
  pub box_says : (t : Triad) (x y : ℕ) → Decides (boxed_at t x y) (Boxed t x y)

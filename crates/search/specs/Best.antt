-- The safe pairs of a face, and the best of them by a ranking. Assumes nothing.
use Rattle.std.specs.Prelude.{◌≤◌, Bool, T, List, Some, None, Option, ◌≢◌}
use Rattle.std.specs.List.{AllByRecursion}
use Rattle.moments.specs.Meanings.{Meaning}
use Rattle.moments.specs.Pairs.{moment_in, sum}
use Rattle.moments.specs.declared.pair.Direction.{Direction}
use Rattle.moments.specs.declared.pair.Pair.{Pair}
use Rattle.table.specs.Failing.{passed_by}
use Rattle.table.specs.declared.line.Line.{Line}

-- a pair is safe where each moment is at least its floor and at most the ceiling, and every line passes it
pub record Safe (m : Meaning) (lines : List Line) (floor p : Pair) : Type 0 where
  pub above : (d : Direction) → moment_in d floor ≤ moment_in d p
  pub below : (d : Direction) → moment_in d p ≤ m.ceiling
  pub passed : AllByRecursion (λ l. T (passed_by m p l)) lines

-- p is one of the pairs S, and it is preferred to every other pair of S
pub record Best (ahead : Pair → Pair → Bool) (S : Pair → Type 0) (p : Pair) : Type 0 where
  pub belongs : S p
  pub first : (q : Pair) → S q → (q ≢ p) → T (ahead p q)

-- the best pair of S, or none exactly where S has no pair
abbrev pub BestIfAny : (Pair → Pair → Bool) → (Pair → Type 0) → Option Pair → Type 0
BestIfAny ahead S (Some p) = Best ahead S p
BestIfAny ahead S None = (q : Pair) → S q → ⊥

-- p is one of the pairs S, and no pair of S has a smaller sum
pub record LeastSum (S : Pair → Type 0) (p : Pair) : Type 0 where
  pub belongs : S p
  pub smallest : (q : Pair) → S q → sum p ≤ sum q

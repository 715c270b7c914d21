-- There is exactly one best pair. Assumes nothing.
use Rattle.std.specs.Prelude.{◌≡◌, ◌≤◌, Bool, T, List}
use Rattle.std.specs.List.{AllByRecursion}
use Rattle.moments.specs.Meanings.{Meaning, Lawful}
use Rattle.moments.specs.Pairs.{moment_in}
use Rattle.moments.specs.Triads.{in_limits}
use Rattle.moments.specs.declared.pair.Direction.{Direction}
use Rattle.moments.specs.declared.pair.Pair.{Pair}
use Rattle.table.specs.declared.line.Line.{Line}
use Rattle.search.specs.Best.{Safe, Best}
use Rattle.search.specs.Rankings.{Ranks}

-- a question that has an answer: every triad is within its limits, and no floor is above the ceiling
pub record Posed (m : Meaning) (lines : List Line) (floor : Pair) : Type 0 where
  pub limited : AllByRecursion (λ l. T (in_limits l.triad)) lines
  pub low : (d : Direction) → moment_in d floor ≤ m.ceiling

-- by every ranking and for every lawful rule, each such question has a best pair
abbrev pub BestExists : Type 0
BestExists =
    (ahead : Pair → Pair → Bool) (m : Meaning) (lines : List Line) (floor : Pair)
    → Ranks ahead → Lawful m → Posed m lines floor → (p : Pair) × Best ahead (Safe m lines floor) p

-- and no second one
abbrev pub OneBest : Type 0
OneBest =
    (ahead : Pair → Pair → Bool) (m : Meaning) (lines : List Line) (floor p q : Pair)
    → Ranks ahead → Best ahead (Safe m lines floor) p → Best ahead (Safe m lines floor) q → p ≡ q

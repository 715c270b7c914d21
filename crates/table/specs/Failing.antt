-- Which line fails a pair. Assumes nothing.
use Rattle.std.specs.Prelude.{◌≡◌, ℕ, ◌<◌, Bool, true, false, cond, ◌⊎◌, List, [], ◌∷◌, Some, None, Option}
use Rattle.std.specs.List.{AllByRecursion}
use Rattle.moments.specs.Meanings.{Meaning, passed_at}
use Rattle.moments.specs.declared.pair.Pair.{Pair}
use Rattle.table.specs.declared.line.Line.{Line}

-- what a rule answers for a line's moments at a pair
abbrev pub passed_by : Meaning → Pair → Line → Bool
passed_by m p l = passed_at m l.triad p

-- the number of the first line that fails the test
abbrev pub first_failing : (Line → Bool) → List Line → Option ℕ
first_failing test [] = None
first_failing test (l ∷ ls) = cond (test l) (first_failing test ls) (Some l.number)

-- some line of the list has P
abbrev pub Any : (Line → Type 0) → List Line → Type 0
Any P [] = ⊥
Any P (l ∷ ls) = P l ⊎ Any P ls

-- a line of the number n fails the test, and every line of a lower number passes it
pub record LowestFailing (test : Line → Bool) (ls : List Line) (n : ℕ) : Type 0 where
  pub fails : Any (λ l. (l.number ≡ n) × (test l ≡ false)) ls
  pub lower : AllByRecursion (λ l. l.number < n → test l ≡ true) ls

-- the lowest number of a line that fails, or none exactly where every line passes
abbrev pub FirstToFail : (Line → Bool) → List Line → Option ℕ → Type 0
FirstToFail test ls None = AllByRecursion (λ l. test l ≡ true) ls
FirstToFail test ls (Some n) = LowestFailing test ls n

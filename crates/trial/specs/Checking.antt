-- Which case fails a trial pair. Assumes nothing.
use Rattle.std.specs.Prelude.{ℕ, cond, List, Ok, Err, Option, Result}
use Rattle.moments.specs.Meanings.{Meaning, above_ceiling}
use Rattle.moments.specs.declared.pair.Pair.{Pair}
use Rattle.moments.specs.declared.refusal.Refusal.{Refusal}
use Rattle.moments.specs.declared.refusal.Refusal.TheVariants.{TrialAboveCeiling}
use Rattle.table.specs.Failing.{passed_by, first_failing, FirstToFail}
use Rattle.table.specs.declared.line.Line.{Line}

-- what a check answers: a trial moment above the ceiling is refused
abbrev pub checked : Meaning → Pair → List Line → Result (Option ℕ) Refusal
checked m p cs = cond (above_ceiling m p) (Err TrialAboveCeiling) (Ok (first_failing (passed_by m p) cs))

-- the case that a check names is the lowest that fails, and it names none exactly where all pass
abbrev pub LowestNamed : Meaning → Pair → List Line → Result (Option ℕ) Refusal → Type 0
LowestNamed m p cs (Ok o) = FirstToFail (passed_by m p) cs o
LowestNamed m p cs (Err e) = Unit {0}

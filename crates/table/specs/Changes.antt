-- When a change is refused, and which lines stand after it. Assumes nothing.
use Rattle.std.specs.Prelude.{◌≡◌, ℕ, Bool, cond, not, List, [], ◌∷◌, ◌++◌, length, is_some, Some, None, Ok, Err, Option, Result, nat_le}
use Rattle.moments.specs.Limits.{most_lines}
use Rattle.moments.specs.Refusals.{first_refusal, first_due}
use Rattle.moments.specs.Triads.{in_limits}
use Rattle.moments.specs.declared.refusal.Refusal.{Refusal}
use Rattle.moments.specs.declared.refusal.Refusal.TheVariants.{CaseNumber, Moment, Standing, NotStanding, Full}
use Rattle.moments.specs.declared.triad.Triad.{Triad}
use Rattle.table.specs.declared.line.Line.{Line}
use Rattle.table.specs.Lines.{is_number, line_of, stands, entered, withdrawn}
use Rattle.table.specs.Places.{FitsAt}

-- the tests of a line that is entered, however many lines stand, and the refusal that each gives
abbrev pub entry_rows : ℕ → Triad → List Line → List (Bool × Refusal)
entry_rows n t ls = (not (is_number n), CaseNumber) ∷ (not (in_limits t), Moment) ∷ (stands n ls, Standing) ∷ []

-- the refusal due then
abbrev pub line_due : ℕ → Triad → List Line → Option Refusal
line_due n t ls = first_refusal (entry_rows n t ls)

-- the place of a line that may be entered, or the refusal due
abbrev pub Admits : ℕ → Triad → List Line → Result ℕ Refusal → Type 0
Admits n t ls (Ok at) = (line_due n t ls ≡ None) × FitsAt n ls at
Admits n t ls (Err e) = line_due n t ls ≡ Some e

-- the one more test of a line that is entered into a table
abbrev pub room_rows : List Line → List (Bool × Refusal)
room_rows ls = (nat_le most_lines (length ls), Full) ∷ []

-- the number of the refusal due then
abbrev pub enter_due : ℕ → Triad → List Line → Option ℕ
enter_due n t ls = first_due (entry_rows n t ls ++ room_rows ls)

-- the lines after that: a refusal changes nothing
abbrev pub after_enter : ℕ → Triad → List Line → List Line
after_enter n t ls = cond (is_some (enter_due n t ls)) ls (entered (line_of n t) ls)

-- the refusal due where the line of a number is withdrawn
abbrev pub withdraw_due : ℕ → List Line → Option ℕ
withdraw_due n ls = first_due ((not (is_number n), CaseNumber) ∷ (not (stands n ls), NotStanding) ∷ [])

-- the lines after that: a refusal changes nothing
abbrev pub after_withdraw : ℕ → List Line → List Line
after_withdraw n ls = cond (is_some (withdraw_due n ls)) ls (withdrawn n ls)

-- When a case is refused, and what entering one leaves. Assumes nothing.
use Rattle.std.specs.Prelude.{◌≡◌, ℕ, true, List, Some, None, Ok, Err, Result}
use Rattle.moments.specs.declared.triad.Triad.{Triad}
use Rattle.table.specs.Changes.{line_due}
use Rattle.table.specs.Lines.{climbing, all_sound, line_of, entered}
use Rattle.table.specs.declared.line.Line.{Line}
use Rattle.trial.specs.declared.trouble.Trouble.{Trouble}
use Rattle.trial.specs.declared.trouble.Trouble.TheVariants.{Refused, NoMemory}

-- the case numbers rise strictly, and every number and moment is within its limits
pub record InOrder (cs : List Line) : Type 0 where
  pub rising : climbing cs ≡ true
  pub ranged : all_sound cs ≡ true

-- the answer, and the cases before and after: a case is in its place where no refusal was due and there was memory
abbrev pub Entering : ℕ → Triad → List Line → Result (Unit {0}) Trouble → List Line → Type 0
Entering n t cs (Ok _) ds = (line_due n t cs ≡ None) × (ds ≡ entered (line_of n t) cs)
Entering n t cs (Err (Refused e)) ds = (line_due n t cs ≡ Some e) × (ds ≡ cs)
Entering n t cs (Err NoMemory) ds = (line_due n t cs ≡ None) × (ds ≡ cs)

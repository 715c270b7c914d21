-- What a session holds, and what each line of a script does to it. Assumes nothing.
use Rattle.std.specs.Prelude.{◌≡◌, ℕ, List, [], Some, None, Ok, Err, Option, Result}
use Rattle.moments.specs.Meanings.{Meaning}
use Rattle.moments.specs.Triads.{negated_triad}
use Rattle.moments.specs.Turning.{turned_over}
use Rattle.moments.specs.declared.pair.Face.{Face}
use Rattle.moments.specs.declared.pair.Face.TheVariants.{Bottom, Top}
use Rattle.moments.specs.declared.pair.Pair.{Pair}
use Rattle.moments.specs.declared.triad.Triad.{Triad}
use Rattle.explained.specs.Inequalities.{chosen_meaning, chosen_sides}
use Rattle.explained.specs.declared.chosen.Chosen.TheVariants as chosen
use Rattle.explained.specs.declared.sides.Sides.{Sides}
use Rattle.script.specs.declared.command.Rules.{Rules}
use Rattle.script.specs.declared.command.Command.{Command}
use Rattle.script.specs.declared.command.Command.TheVariants as command
use Rattle.script.specs.declared.unreadable.Unreadable.{Unreadable}
use Rattle.table.specs.declared.line.Line.{Line}
use Rattle.trial.specs.Checking.{checked, LowestNamed}
use Rattle.trial.specs.Entering.{Entering}
use Rattle.trial.specs.declared.reply.Reply.{Reply}
use Rattle.trial.specs.declared.reply.Reply.TheVariants as reply
use Rattle.trial.specs.declared.trouble.Trouble.{Trouble}

-- the rule chosen for each face, and the cases in rising order of their numbers
pub record Held : Type 0 where
  pub rules : Rules
  pub cases : List Line

-- the yield rule on both faces, and no case
abbrev pub start : Held
start = record { rules = record { bottom = chosen.Yield; top = chosen.Yield }; cases = [] }

-- what the rule of a face means: a top face takes its rule turned over
abbrev pub face_meaning : Held → Face → Meaning
face_meaning h Bottom = chosen_meaning h.rules.bottom
face_meaning h Top = turned_over (chosen_meaning h.rules.top)

-- and its inequalities
abbrev pub face_sides : Held → Face → Triad → ℕ → ℕ → Sides
face_sides h Bottom t = chosen_sides h.rules.bottom t
face_sides h Top t = chosen_sides h.rules.top (negated_triad t)

-- a case is entered or not, and the rules stay
pub record EnteredInto (h : Held) (n : ℕ) (t : Triad) (r : Result (Unit {0}) Trouble) (k : Held) : Type 0 where
  pub entering : Entering n t h.cases r k.cases
  pub rules_stay : k.rules ≡ h.rules

-- a check replies by the face's rule, and the case that it names is the lowest that fails
pub record Answered (m : Meaning) (cs : List Line) (f : Face) (p : Pair) (r : Reply) : Type 0 where
  pub value : r ≡ reply.Checked f p (checked m p cs)
  pub lowest : LowestNamed m p cs (checked m p cs)

-- what a command replies, and what the session holds before and after
abbrev pub Done : Held → Command → Reply → Held → Type 0
Done h (command.Rules w) r k = (r ≡ reply.Ruled w) × (k ≡ record { rules = w; cases = h.cases })
Done h (command.Enter n t) r k = (o : Result (Unit {0}) Trouble) × (r ≡ reply.Entered n t o) × EnteredInto h n t o k
Done h (command.Check f p) r k = Answered (face_meaning h f) h.cases f p r × (k ≡ h)

-- the same of a line, by what is read in it
abbrev pub Obeyed : Held → Result (Option Command) Unreadable → Reply → Held → Type 0
Obeyed h (Ok (Some c)) r k = Done h c r k
Obeyed h (Ok None) r k = (r ≡ reply.Nothing) × (k ≡ h)
Obeyed h (Err u) r k = (r ≡ reply.Unreadable u) × (k ≡ h)

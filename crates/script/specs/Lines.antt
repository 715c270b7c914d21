-- A script, line by line. Assumes nothing.
use Rattle.std.specs.Prelude.{ℕ, ◌-◌, cond, List, [], ◌∷◌, length, Ok, Err, Option, Result}
use Rattle.std.specs.List.{before_first, after_first, onto_first}
use Rattle.script.specs.declared.command.Command.{Command}
use Rattle.script.specs.declared.unreadable.Unreadable.{Unreadable}
use Rattle.script.specs.Runs.{is_comment_sign, is_line_feed}
use Rattle.script.specs.Reading.{Read}
use Rattle.script.specs.Commands.{line_at}

-- what was read of a text of n bytes; a fault with its place counted from the front
abbrev pub placed : {X : Type 0} → ℕ → Read X → Result X Unreadable
placed n (Ok p) = Ok p.0
placed n (Err s) = Err (record { place = n - s.left; why = s.why })

-- a line up to its comment
abbrev pub text_of : List ℕ → List ℕ
text_of bs = before_first is_comment_sign bs

-- what a line asks for
abbrev pub command_of : List ℕ → Result (Option Command) Unreadable
command_of bs = placed (length (text_of bs)) (line_at (text_of bs))

-- a script up to its first line feed
abbrev pub first_line : List ℕ → List ℕ
first_line bs = before_first is_line_feed bs

-- what follows the first line feed
abbrev pub after_line : List ℕ → List ℕ
after_line bs = after_first is_line_feed bs

-- the lines of a script: a line feed ends a line, and so does the script's end where a byte stands before it
abbrev pub lines_of : List ℕ → List (List ℕ)
lines_of [] = []
lines_of (b ∷ bs) = cond (is_line_feed b) ([] ∷ lines_of bs) (onto_first b (lines_of bs))

-- How a fault in a line is said. Assumes nothing.
use Rattle.std.specs.Prelude.{ℕ, ◌+◌, ◌^◌, ◌-◌, List, ◌++◌, codes, decimal, min}
use Rattle.script.specs.declared.unreadable.Unreadable.{Unreadable}
use Rattle.script.specs.declared.unreadable.Why.{Why}
use Rattle.script.specs.declared.unreadable.Why.TheVariants.{UnknownCommand, MissingWord, NotAWhole, NotASigned, UnknownRule, UnknownFace, TooManyWords}

-- what is wrong
abbrev pub wrong : Why → List ℕ
wrong UnknownCommand = codes "no command; write rules, enter or check"
wrong MissingWord = codes "a word is missing"
wrong NotAWhole = codes "no whole number, or too large"
wrong NotASigned = codes "no signed whole number, or too large"
wrong UnknownRule = codes "no rule; write yield or box"
wrong UnknownFace = codes "no face; write bottom or top"
wrong TooManyWords = codes "a word too many"

-- the column of a fault, counted from 1; the last that the code can hold where the line is longer
abbrev pub column : Unreadable → ℕ
column u = min (u.place + 1) (2 ^ 64 - 1)

-- the column and what is wrong there
abbrev pub fault : Unreadable → List ℕ
fault u = codes "can't be read at column " ++ (decimal (column u) ++ (codes ": " ++ wrong u.why))

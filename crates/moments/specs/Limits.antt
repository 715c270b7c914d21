-- The limits, in units of 0.01 kNm per m, and the case numbers. Assumes nothing.
use Rattle.std.specs.Prelude.{ℕ}

-- the largest moment of a load case, either way
abbrev pub moment_limit : ℕ
moment_limit = 100000

-- the largest ceiling of a yield rule, and the largest floor
abbrev pub ceiling_limit : ℕ
ceiling_limit = 20000000

-- case numbers go from 1 to this
abbrev pub last_case : ℕ
last_case = 9999

-- how many load cases stand at a time, at most
abbrev pub most_lines : ℕ
most_lines = 96

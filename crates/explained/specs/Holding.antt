-- When the inequalities of a rule hold. Assumes nothing.
use Rattle.std.specs.Prelude.{Bool, true, ◌&&◌, ℤ, Some, None, Option, int_le}
use Rattle.explained.specs.declared.sides.Side.{Side}
use Rattle.explained.specs.declared.sides.Sides.{Sides}

-- an inequality by its two sides
abbrev pub inequality : ℤ → ℤ → Side
inequality g n = record { given = g; needed = n }

-- what is given is at least what is needed
abbrev pub holds : Side → Bool
holds s = int_le s.needed s.given

-- an inequality that a rule may lack
abbrev pub holds_if_there : Option Side → Bool
holds_if_there (Some s) = holds s
holds_if_there None = true

-- each inequality holds
abbrev pub all_hold : Sides → Bool
all_hold s = holds s.mx && (holds s.my && holds_if_there s.product)

-- What is written for rules chosen by name and for both sides of their inequalities. Assumes nothing.
use Rattle.std.specs.Prelude.{ℕ, Bool, true, false, List, [], ◌++◌, codes, Some, None, Option}
use Rattle.std.specs.Fmt.{signed_decimal}
use Rattle.explained.specs.Holding.{holds}
use Rattle.explained.specs.declared.chosen.Chosen.{Chosen}
use Rattle.explained.specs.declared.chosen.Chosen.TheVariants as chosen
use Rattle.explained.specs.declared.sides.Side.{Side}
use Rattle.explained.specs.declared.sides.Sides.{Sides}

-- a rule by its name
abbrev pub chosen_text : Chosen → List ℕ
chosen_text chosen.Yield = codes "the yield rule"
chosen_text chosen.Box = codes "the box rule"

-- whether an inequality holds
abbrev pub sign : Bool → List ℕ
sign true = codes ">="
sign false = codes "<"

-- what is given against what is needed
abbrev pub side_text : Side → List ℕ
side_text s = signed_decimal s.given ++ (codes " " ++ (sign (holds s) ++ (codes " " ++ signed_decimal s.needed)))

-- the inequality on a product, where a rule has one
abbrev pub product_text : Option Side → List ℕ
product_text (Some s) = codes ", product of both margins against Mxy squared " ++ side_text s
product_text None = []

-- every inequality
abbrev pub sides_text : Sides → List ℕ
sides_text s = codes "mx " ++ (side_text s.mx ++ (codes ", my " ++ (side_text s.my ++ product_text s.product)))

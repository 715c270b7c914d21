-- Both sides of each inequality of the delivered rules. Assumes nothing.
use Rattle.std.specs.Prelude.{ℕ, pos, ◌+ℤ◌, ◌-ℤ◌, ◌*ℤ◌, Some, None, unsigned_abs}
use Rattle.moments.specs.Meanings.{Meaning}
use Rattle.moments.specs.declared.triad.Triad.{Triad}
use Rattle.rules.specs.Criteria.{yield_meaning, box_meaning}
use Rattle.explained.specs.Holding.{inequality}
use Rattle.explained.specs.declared.chosen.Chosen.{Chosen}
use Rattle.explained.specs.declared.chosen.Chosen.TheVariants as chosen
use Rattle.explained.specs.declared.sides.Side.{Side}
use Rattle.explained.specs.declared.sides.Sides.{Sides}

-- the product of both margins against the square of the twisting moment
abbrev pub product_side : Triad → ℕ → ℕ → Side
product_side t x y = inequality ((pos x -ℤ t.mx) *ℤ (pos y -ℤ t.my)) (t.mxy *ℤ t.mxy)

-- the yield rule: both side conditions and the product
abbrev pub yield_sides : Triad → ℕ → ℕ → Sides
yield_sides t x y = record { mx = inequality (pos x) t.mx; my = inequality (pos y) t.my; product = Some (product_side t x y) }

-- the box: in each direction the bending moment with the size of the twisting moment on top
abbrev pub box_sides : Triad → ℕ → ℕ → Sides
box_sides t x y = record { mx = inequality (pos x) (t.mx +ℤ pos (unsigned_abs t.mxy)); my = inequality (pos y) (t.my +ℤ pos (unsigned_abs t.mxy)); product = None }

-- a rule that is chosen by name means what the rule of that name means
abbrev pub chosen_meaning : Chosen → Meaning
chosen_meaning chosen.Yield = yield_meaning
chosen_meaning chosen.Box = box_meaning

-- and it has its inequalities
abbrev pub chosen_sides : Chosen → Triad → ℕ → ℕ → Sides
chosen_sides chosen.Yield = yield_sides
chosen_sides chosen.Box = box_sides

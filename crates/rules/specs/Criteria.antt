-- The delivered rules: each criterion as a test over the integers, and as the inequalities that a reader expects. Assumes nothing.
use Rattle.std.specs.Prelude.{ℕ, ◌*◌, Bool, ◌&&◌, pos, ◌+ℤ◌, ◌-ℤ◌, ◌*ℤ◌, ◌≤ℤ◌, int_le, unsigned_abs}
use Rattle.moments.specs.Limits.{moment_limit}
use Rattle.moments.specs.Meanings.{Meaning}
use Rattle.moments.specs.declared.triad.Triad.{Triad}

-- the ceiling of both rules: twice the largest moment of a load case
abbrev pub delivered_ceiling : ℕ
delivered_ceiling = 2 * moment_limit

-- Kemp's yield criterion: (mx - Mx)(my - My) is at least Mxy squared, on the positive side of both asymptotes
abbrev pub yields_at : Triad → ℕ → ℕ → Bool
yields_at t x y = int_le t.mx (pos x) && (int_le t.my (pos y) && int_le (t.mxy *ℤ t.mxy) ((pos x -ℤ t.mx) *ℤ (pos y -ℤ t.my)))

-- the same as inequalities: both side conditions and the product
pub record Yields (t : Triad) (x y : ℕ) : Type 0 where
  pub x_side : t.mx ≤ℤ pos x
  pub y_side : t.my ≤ℤ pos y
  pub product : (t.mxy *ℤ t.mxy) ≤ℤ ((pos x -ℤ t.mx) *ℤ (pos y -ℤ t.my))

-- the yield rule
abbrev pub yield_meaning : Meaning
yield_meaning = record { ceiling = delivered_ceiling; passing = yields_at }

-- the Wood-Armer box: each yield moment reaches its bending moment with the size of the twisting moment on top
abbrev pub boxed_at : Triad → ℕ → ℕ → Bool
boxed_at t x y = int_le (t.mx +ℤ pos (unsigned_abs t.mxy)) (pos x) && int_le (t.my +ℤ pos (unsigned_abs t.mxy)) (pos y)

-- the same as inequalities
pub record Boxed (t : Triad) (x y : ℕ) : Type 0 where
  pub x_side : (t.mx +ℤ pos (unsigned_abs t.mxy)) ≤ℤ pos x
  pub y_side : (t.my +ℤ pos (unsigned_abs t.mxy)) ≤ℤ pos y

-- the box rule
abbrev pub box_meaning : Meaning
box_meaning = record { ceiling = delivered_ceiling; passing = boxed_at }

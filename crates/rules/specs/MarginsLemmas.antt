-- A yield moment that is not below a bending moment is that bending moment and a natural margin. Assumes nothing.
use Rattle.std.specs.Prelude.{◌≡◌, ℕ, ◌*◌, ◌≤◌, T, ℤ, pos, negsuc, ◌+ℤ◌, ◌-ℤ◌, ◌*ℤ◌, int_le, unsigned_abs, refl}
use Rattle.std.proofs.Common.{arith}
use Rattle.std.proofs.lemmas.Int.{ints}
use Rattle.moments.specs.Limits.{moment_limit}
use Rattle.moments.specs.Triads.{in_range}
use Rattle.moments.specs.TriadsLemmas.{ends}

pub margin_of : (z : ℤ) (x : ℕ) → T (int_le z (pos x)) → (a : ℕ) × (pos x ≡ z +ℤ pos a)
margin_of z x h = (unsigned_abs (pos x -ℤ z), omega (arith, ints))

pub margin_side : (z : ℤ) (x a : ℕ) → pos x ≡ z +ℤ pos a → T (int_le z (pos x))
margin_side z x a e = omega (arith, ints)

pub margin_is : (z : ℤ) (x a : ℕ) → pos x ≡ z +ℤ pos a → pos x -ℤ z ≡ pos a
margin_is z x a e = omega (arith, ints)

-- a larger moment has a larger margin
pub margin_more : (z : ℤ) (x u a : ℕ) → x ≤ u → pos x ≡ z +ℤ pos a → (c : ℕ) × (pos u ≡ z +ℤ pos c) × (a ≤ c)
margin_more z x u a h e = (unsigned_abs (pos u -ℤ z), omega (arith, ints), omega (arith, ints))

pub square_is : (z : ℤ) → z *ℤ z ≡ pos (unsigned_abs z * unsigned_abs z)
square_is (pos n) = refl
square_is (negsuc n) = refl

pub at_most_size : (z : ℤ) → T (in_range z) → unsigned_abs z ≤ moment_limit
at_most_size z h = let e = ends z h in omega (arith, ints)

-- Lemmas on triads: their limits, and what turning one keeps. Assumes nothing.
use Rattle.std.specs.Prelude.{◌≡◌, T, ℤ, pos, ◌-ℤ◌, neg_ℤ, ◌≤ℤ◌, int_le}
use Rattle.std.proofs.Common.{ap, ◌∙◌, arith, to_z, of_z}
use Rattle.std.specs.Int.Signed.{le_z_yes}
use Rattle.std.specs.Int.{w32}
use Rattle.std.proofs.lemmas.Int.{ints}
use Rattle.moments.specs.Limits.{moment_limit}
use Rattle.moments.specs.Tests.{both, join, and_swap, same_test}
use Rattle.moments.specs.Triads.{triad_of, in_range, in_limits, negated_triad, exchanged_triad}
use Rattle.moments.specs.declared.triad.Triad.{Triad}

-- both ends of the range, and back
pub ends : (m : ℤ) → T (in_range m) → (neg_ℤ (pos moment_limit) ≤ℤ m) × (m ≤ℤ pos moment_limit)
ends m h = let p : T (int_le (neg_ℤ (pos moment_limit)) m) × T (int_le m (pos moment_limit)) = both _ _ h in (le_z_yes p.0, le_z_yes p.1)

between : (m : ℤ) → neg_ℤ (pos moment_limit) ≤ℤ m → m ≤ℤ pos moment_limit → T (in_range m)
between m h k = join _ _ h.le k.le

pub in_range_negated : (m : ℤ) → in_range (neg_ℤ m) ≡ in_range m
in_range_negated m =
    same_test (in_range (neg_ℤ m)) (in_range m)
    (λ h. let e = ends (neg_ℤ m) h in between m (omega (arith, ints)) (omega (arith, ints)))
    (λ h. let e = ends m h in between (neg_ℤ m) (omega (arith, ints)) (omega (arith, ints)))

-- the limits are the same both ways
pub in_limits_negated : (t : Triad) → in_limits (negated_triad t) ≡ in_limits t
in_limits_negated t = rw (in_range_negated t.mx, in_range_negated t.my, in_range_negated t.mxy)

pub in_limits_exchanged : (t : Triad) → in_limits (exchanged_triad t) ≡ in_limits t
in_limits_exchanged t = and_swap (in_range t.my) (in_range t.mx) (in_range t.mxy)

-- a moment in range, negated at 32 bits
pub negated_bits : (m : ℤ) → T (in_range m) → to_z w32 (of_z w32 (pos 0 -ℤ to_z w32 (of_z w32 m))) ≡ neg_ℤ m
negated_bits m h = let e = ends m h in omega (arith, ints)

pub same_triad : (s t : Triad) → s.mx ≡ t.mx → s.my ≡ t.my → s.mxy ≡ t.mxy → s ≡ t
same_triad s t e f g = ap (λ (x : ℤ). triad_of x s.my s.mxy) e ∙ (ap (λ (y : ℤ). triad_of t.mx y s.mxy) f ∙ ap (λ (z : ℤ). triad_of t.mx t.my z) g)

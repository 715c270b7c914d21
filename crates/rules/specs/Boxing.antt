-- The box: its laws, and its least partners. Assumes nothing.
use Rattle.std.specs.Prelude.{◌≡◌, ℕ, ◌≤◌, false, T, ℤ, pos, ◌+ℤ◌, int_le, unsigned_abs}
use Rattle.std.proofs.Common.{sym, subst, ◌∙◌, arith, lit≤}
use Rattle.std.proofs.lemmas.Int.{ints}
use Rattle.moments.specs.Meanings.{Lawful, passed}
use Rattle.moments.specs.Triads.{in_range, in_limits, exchanged_triad}
use Rattle.moments.specs.declared.triad.Triad.{Triad}
use Rattle.moments.specs.Tests.{both, join, and_yes, and_comm}
use Rattle.moments.specs.TriadsLemmas.{ends}
use Rattle.moments.proofs.Meanings.{passed_within, passing_of}
use Rattle.rules.specs.Criteria.{delivered_ceiling, boxed_at, box_meaning}
use Rattle.rules.specs.MarginsLemmas.{at_most_size}

-- what one direction must reach
abbrev pub corner : ℤ → ℤ → ℤ
corner z xy = z +ℤ pos (unsigned_abs xy)

reach_growth : (z : ℤ) (x u : ℕ) → x ≤ u → T (int_le z (pos x)) → T (int_le z (pos u))
reach_growth z x u h t = omega (arith, ints)

reach_summit : (z xy : ℤ) → T (in_range z) → T (in_range xy) → T (int_le (corner z xy) (pos delivered_ceiling))
reach_summit z xy h k = let e = ends z h in let s = at_most_size xy k in omega (arith, ints)

pub box_lawful : Lawful box_meaning
box_lawful = record { bounded = lit≤ tt; growth = growth; summit = summit }
  where
    growth : (t : Triad) (x y u v : ℕ) → T (in_limits t) → x ≤ u → y ≤ v → u ≤ delivered_ceiling → v ≤ delivered_ceiling → T (boxed_at t x y) → T (boxed_at t u v)
    growth t x y u v _ h k _ _ p =
        let q : T (int_le (corner t.mx t.mxy) (pos x)) × T (int_le (corner t.my t.mxy) (pos y)) = both _ _ p in
        join _ _ (reach_growth _ x u h q.0) (reach_growth _ y v k q.1)

    summit : (t : Triad) → T (in_limits t) → T (boxed_at t delivered_ceiling delivered_ceiling)
    summit t i =
        let p : T (in_range t.mx) × T _ = both _ _ i in
        let q : T (in_range t.my) × T (in_range t.mxy) = both _ _ p.1 in
        join _ _ (reach_summit t.mx t.mxy p.0 q.1) (reach_summit t.my t.mxy q.0 q.1)

pub boxed_exchanged : (t : Triad) (x y : ℕ) → boxed_at (exchanged_triad t) y x ≡ boxed_at t x y
boxed_exchanged t x y = and_comm (int_le (corner t.my t.mxy) (pos y)) (int_le (corner t.mx t.mxy) (pos x))

-- no partner for a moment that does not reach Mx with the twisting moment on top
pub boxed_below : (t : Triad) (x y : ℕ) → false ≡ int_le (corner t.mx t.mxy) (pos x) → T (passed box_meaning t x y) → ⊥
boxed_below t x y e p = subst T (sym e) (both (int_le (corner t.mx t.mxy) (pos x)) _ (passing_of box_meaning t x y p)).0

-- the partners are the moments that reach My with the twisting moment on top
pub boxed_reaching : (t : Triad) (x : ℕ) → T (in_limits t) → x ≤ delivered_ceiling → T (int_le (corner t.mx t.mxy) (pos x)) → (y : ℕ) → y ≤ delivered_ceiling → int_le (corner t.my t.mxy) (pos y) ≡ passed box_meaning t x y
boxed_reaching t x i h r y k = sym (passed_within box_meaning t x y i h k ∙ and_yes (int_le (corner t.mx t.mxy) (pos x)) _ r)

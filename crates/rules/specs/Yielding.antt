-- The yield criterion: on naturals, its laws, and its least partners. Assumes nothing.
use Rattle.std.specs.Prelude.{◌≡◌, ℕ, ◌*◌, ◌≤◌, false, ◌&&◌, T, ℤ, pos, ◌+ℤ◌, ◌-ℤ◌, ◌*ℤ◌, ◌<ℤ◌, int_le, nat_le, unsigned_abs}
use Rattle.std.proofs.Common.{sym, ap, subst, ◌∙◌, le_trans, mul-le-mul, mul-le-mul_left, arith, leb→le, le→leb, lit≤}
use Rattle.std.proofs.Math.IntN.{*ℤ_comm}
use Rattle.std.proofs.lemmas.Int.{ints}
use Rattle.moments.specs.Limits.{moment_limit}
use Rattle.moments.specs.Meanings.{Lawful, passed}
use Rattle.moments.specs.Triads.{in_range, in_limits, exchanged_triad}
use Rattle.moments.specs.declared.triad.Triad.{Triad}
use Rattle.moments.specs.Tests.{both, and_yes, and_swap, same_test}
use Rattle.moments.specs.TriadsLemmas.{ends}
use Rattle.moments.proofs.Meanings.{passed_within, passing_of}
use Rattle.rules.specs.Criteria.{delivered_ceiling, yields_at, yield_meaning}
use Rattle.rules.specs.MarginsLemmas.{margin_of, margin_side, margin_is, margin_more, square_is, at_most_size}

-- the square of the twisting moment
abbrev pub twist² : Triad → ℕ
twist² t = unsigned_abs t.mxy * unsigned_abs t.mxy

-- a and b are the margins of x and y
module _ (t : Triad) (x y a b : ℕ) (e : pos x ≡ t.mx +ℤ pos a) (f : pos y ≡ t.my +ℤ pos b) where
  product_is : int_le (t.mxy *ℤ t.mxy) ((pos x -ℤ t.mx) *ℤ (pos y -ℤ t.my)) ≡ nat_le (twist² t) (a * b)
  product_is = simp (square_is t.mxy, margin_is t.mx x a e, margin_is t.my y b f)

  pub yields_by : yields_at t x y ≡ nat_le (twist² t) (a * b)
  yields_by =
      and_yes (int_le t.mx (pos x)) _ (margin_side t.mx x a e) ∙ (and_yes (int_le t.my (pos y)) _ (margin_side t.my y b f) ∙ product_is)

  pub yields_from : twist² t ≤ a * b → T (yields_at t x y)
  yields_from h = subst T (sym yields_by) (le→leb _ _ h)

  pub yields_gives : T (yields_at t x y) → twist² t ≤ a * b
  yields_gives h = leb→le _ _ (subst T yields_by h)

-- the margins of a pair that passes
pub record Margins (t : Triad) (x y : ℕ) : Type 0 where
  pub a : ℕ
  pub b : ℕ
  pub x_is : pos x ≡ t.mx +ℤ pos a
  pub y_is : pos y ≡ t.my +ℤ pos b
  pub enough : twist² t ≤ a * b

pub margins : (t : Triad) (x y : ℕ) → T (yields_at t x y) → Margins t x y
margins t x y h =
    let p : T (int_le t.mx (pos x)) × T _ = both _ _ h in
    let q : T (int_le t.my (pos y)) × T _ = both _ _ p.1 in
    let m = margin_of t.mx x p.0 in
    let n = margin_of t.my y q.0 in
    record { a = m.0; b = n.0; x_is = m.1; y_is = n.1; enough = yields_gives t x y m.0 n.0 m.1 n.1 h }

pub yields_growth : (t : Triad) (x y u v : ℕ) → x ≤ u → y ≤ v → T (yields_at t x y) → T (yields_at t u v)
yields_growth t x y u v h k p =
    let m = margins t x y p in
    let c = margin_more t.mx x u m.a h m.x_is in
    let d = margin_more t.my y v m.b k m.y_is in
    yields_from t u v c.0 d.0 c.1 d.1 (le_trans m.enough (mul-le-mul c.2 d.2))

-- at the ceiling a margin is at least the largest twisting moment
at_summit : (z : ℤ) → T (in_range z) → (a : ℕ) × (pos delivered_ceiling ≡ z +ℤ pos a) × (moment_limit ≤ a)
at_summit z h = let e = ends z h in (unsigned_abs (pos delivered_ceiling -ℤ z), omega (arith, ints), omega (arith, ints))

pub yields_summit : (t : Triad) → T (in_limits t) → T (yields_at t delivered_ceiling delivered_ceiling)
yields_summit t i =
    let p : T (in_range t.mx) × T _ = both _ _ i in
    let q : T (in_range t.my) × T (in_range t.mxy) = both _ _ p.1 in
    let m = at_summit t.mx p.0 in
    let n = at_summit t.my q.0 in
    let s = at_most_size t.mxy q.1 in
    yields_from t delivered_ceiling delivered_ceiling m.0 n.0 m.1 n.1 (mul-le-mul (le_trans s m.2) (le_trans s n.2))

pub yield_lawful : Lawful yield_meaning
yield_lawful = record { bounded = lit≤ tt; growth = λ t x y u v _ h k _ _ p. yields_growth t x y u v h k p; summit = yields_summit }

pub yields_exchanged : (t : Triad) (x y : ℕ) → yields_at (exchanged_triad t) y x ≡ yields_at t x y
yields_exchanged t x y =
    and_swap (int_le t.my (pos y)) (int_le t.mx (pos x)) _ ∙ ap (λ (z : ℤ). int_le t.mx (pos x) && (int_le t.my (pos y) && int_le (t.mxy *ℤ t.mxy) z)) (*ℤ_comm (pos y -ℤ t.my) (pos x -ℤ t.mx))

-- a moment below its bending moment fails the test, in either direction
pub yields_not : (t : Triad) (x y : ℕ) → pos x <ℤ t.mx → false ≡ yields_at t x y
yields_not t x y h = same_test false (yields_at t x y) (λ f. absurd f) (λ p. omega (arith, ints, (margins t x y p).x_is))

pub yields_not_across : (t : Triad) (x y : ℕ) → pos y <ℤ t.my → false ≡ yields_at t x y
yields_not_across t x y h = yields_not (exchanged_triad t) y x h ∙ yields_exchanged t x y

-- no partner below the bending moment
pub yields_below : (t : Triad) (x y : ℕ) → pos x <ℤ t.mx → T (passed yield_meaning t x y) → ⊥
yields_below t x y h p = let m = margins t x y (passing_of yield_meaning t x y p) in omega (arith, ints, m.x_is)

module _ (t : Triad) (x a : ℕ) (e : pos x ≡ t.mx +ℤ pos a) where
  -- no partner where no factor makes up the square
  pub yields_never : ((z : ℕ) → twist² t ≤ a * z → ⊥) → (y : ℕ) → T (passed yield_meaning t x y) → ⊥
  yields_never f y p =
      let q = passing_of yield_meaning t x y p in
      let m = margins t x y q in
      f m.b (yields_gives t x y a m.b e m.y_is q)

  -- the partners are the moments that reach My with the least factor on top
  pub yields_reaching : (b : ℕ) → twist² t ≤ a * b → ((z : ℕ) → twist² t ≤ a * z → b ≤ z) → T (in_limits t) → x ≤ delivered_ceiling → (y : ℕ) → y ≤ delivered_ceiling → int_le (t.my +ℤ pos b) (pos y) ≡ passed yield_meaning t x y
  yields_reaching b enough least i h y k = same_test _ _ there back ∙ sym (passed_within yield_meaning t x y i h k)
    where
      there : T (int_le (t.my +ℤ pos b) (pos y)) → T (yields_at t x y)
      there r =
          let s : T (int_le t.my (pos y)) = omega (arith, ints) in
          let n = margin_of t.my y s in
          let l : b ≤ n.0 = omega (arith, ints, n.1) in
          yields_from t x y a n.0 e n.1 (le_trans enough (mul-le-mul_left a l))

      back : T (yields_at t x y) → T (int_le (t.my +ℤ pos b) (pos y))
      back q =
          let m = margins t x y q in
          let l = least m.b (yields_gives t x y a m.b e m.y_is q) in
          omega (arith, ints, m.y_is)

-- What follows from a rule's answer and from its laws, and the two bar directions exchanged. Assumes nothing.
use Rattle.std.proofs.Common.{◌≡◌, ℕ, ◌≤◌, Bool, false, ◌&&◌, T, Option, ltb, leb, ap, le_refl, le→leb}
use Rattle.std.proofs.lemmas.Bool.{or_parts, ltb-false}
use Rattle.moments.specs.Meanings.{Meaning, Lawful, asked, passed, passed_at, above_ceiling}
use Rattle.moments.specs.Pairs.{moment_in}
use Rattle.moments.specs.declared.pair.Direction.{Direction}
use Rattle.moments.specs.declared.pair.Direction.TheVariants.{X, Y}
use Rattle.moments.specs.declared.pair.Pair.{Pair}
use Rattle.moments.specs.Triads.{in_limits, exchanged_triad, seen_along}
use Rattle.moments.specs.declared.triad.Triad.{Triad}
use Rattle.moments.specs.Tests.{both, join, and_yes, and_comm}
use Rattle.moments.proofs.Pairs.{both_ways}
use Rattle.moments.specs.TriadsLemmas.{in_limits_exchanged}
use Rattle.moments.specs.Partners.{LeastMy, LeastAlong}
use Rattle.moments.proofs.Partners.{partner_like}

-- within the limits and up to the ceiling a rule answers by its meaning alone
pub passed_within : (m : Meaning) (t : Triad) (x y : ℕ) → T (in_limits t) → x ≤ m.ceiling → y ≤ m.ceiling → passed m t x y ≡ m.passing t x y
passed_within m t x y i h k = and_yes (asked m t x y) _ (join _ _ i (join _ _ (le→leb x _ h) (le→leb y _ k)))

-- a rule that treats both directions alike answers alike for the exchanged triad and pair
pub exchanged_passed : (m : Meaning) → ((t : Triad) (x y : ℕ) → m.passing (exchanged_triad t) y x ≡ m.passing t x y) → (t : Triad) (x y : ℕ) → passed m (exchanged_triad t) y x ≡ passed m t x y
exchanged_passed m e t x y = simp (in_limits_exchanged, e) (ap (λ (b : Bool). (in_limits t && b) && m.passing t x y) (and_comm (leb y m.ceiling) (leb x m.ceiling)))

-- and its least my for the triad as seen along a direction is its least partner in that direction
pub seen_partner : (m : Meaning) → ((t : Triad) (x y : ℕ) → m.passing (exchanged_triad t) y x ≡ m.passing t x y) → (d : Direction) (t : Triad) (k : ℕ) (r : Option ℕ) → LeastMy m (seen_along d t) k r → LeastAlong m t d k r
seen_partner m e X t k r h = partner_like _ _ _ _ (λ x _. exchanged_passed m e t x k) h
seen_partner m e Y t k r h = h

-- what a rule passes is passed by its meaning
pub passing_of : (m : Meaning) (t : Triad) (x y : ℕ) → T (passed m t x y) → T (m.passing t x y)
passing_of m t x y p = (both (asked m t x y) (m.passing t x y) p).1

-- what a rule answers yes to, it answers yes to for every larger pair up to the ceiling
pub passed_grows : (m : Meaning) → Lawful m → (t : Triad) (p q : Pair) → p.mx ≤ q.mx → p.my ≤ q.my → q.mx ≤ m.ceiling → q.my ≤ m.ceiling → T (passed_at m t p) → T (passed_at m t q)
passed_grows m lawful t p q hx hy kx ky h =
    let parts = both (asked m t p.mx p.my) _ h in
    let limits = (both (in_limits t) _ parts.0).0 in
    join _ _ (join _ _ limits (join _ _ (le→leb _ _ kx) (le→leb _ _ ky))) (lawful.growth t p.mx p.my q.mx q.my limits hx hy kx ky parts.1)

-- the pair at the ceiling is passed
pub passed_summit : (m : Meaning) → Lawful m → (t : Triad) → T (in_limits t) → T (passed m t m.ceiling m.ceiling)
passed_summit m lawful t limits =
    let c = le→leb m.ceiling m.ceiling (le_refl m.ceiling) in
    join _ _ (join _ _ limits (join _ _ c c)) (lawful.summit t limits)

-- a pair with no moment above the ceiling
pub up_to_ceiling : (m : Meaning) (p : Pair) → above_ceiling m p ≡ false → (d : Direction) → moment_in d p ≤ m.ceiling
up_to_ceiling m p e =
    let parts = or_parts (ltb m.ceiling p.mx) (ltb m.ceiling p.my) e in
    both_ways (λ d. moment_in d p ≤ m.ceiling) X (ltb-false _ _ parts.0) (ltb-false _ _ parts.1)

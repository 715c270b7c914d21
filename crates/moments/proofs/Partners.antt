-- Lemmas on least partners. Assumes nothing.
use Rattle.std.proofs.Common.{◌≡◌, ℕ, ◌≤◌, Bool, T, Some, None, Option, sym, subst}
use Rattle.moments.specs.Partners.{Partner}

-- two tests that answer alike up to the top have the same least partner
pub partner_like : (top : ℕ) (P Q : ℕ → Bool) (r : Option ℕ) → ((n : ℕ) → n ≤ top → P n ≡ Q n) → Partner top P r → Partner top Q r
partner_like top P Q (Some y) e h = record { within = h.within; holds = subst T (e y h.within) h.holds; least = λ z w t. h.least z w (subst T (sym (e z w)) t) }
partner_like top P Q None e h = λ z w t. h z w (subst T (sym (e z w)) t)

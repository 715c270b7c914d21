-- Lemmas on pairs and their two directions. Assumes nothing.
use Rattle.std.proofs.Common.{◌≡◌, ℕ, ◌+◌, ◌⊎◌, refl, ap, ◌∙◌, inl, inr, ⊎_elim, add_comm}
use Rattle.std.proofs.lemmas.Bool.{cases_eq}
use Rattle.moments.specs.Pairs.{crossing, moment_in, pair_along, sum}
use Rattle.moments.specs.declared.pair.Direction.{Direction}
use Rattle.moments.specs.declared.pair.Direction.TheVariants.{X, Y}
use Rattle.moments.specs.declared.pair.Pair.{Pair}

pub same_pair : (p q : Pair) → p.mx ≡ q.mx → p.my ≡ q.my → p ≡ q
same_pair p q e f = ap (λ (x : ℕ). pair_along X x p.my) e ∙ ap (λ (y : ℕ). pair_along X q.mx y) f

pub same_or_not : (p q : Pair) → (p ≡ q) ⊎ (p ≡ q → ⊥)
same_or_not p q =
    ⊎_elim
    (λ e. ⊎_elim (λ f. inl (same_pair p q e f)) (λ n. inr (λ s. n (ap (λ (r : Pair). r.my) s))) (cases_eq p.my q.my))
    (λ n. inr (λ s. n (ap (λ (r : Pair). r.mx) s)))
    (cases_eq p.mx q.mx)

-- what holds in a direction and across it holds in both
pub both_ways : (P : Direction → Type 0) (d : Direction) → P d → P (crossing d) → (e : Direction) → P e
both_ways P X p q X = p
both_ways P X p q Y = q
both_ways P Y p q X = q
both_ways P Y p q Y = p

pub moment_along : (d : Direction) (z k : ℕ) → moment_in d (pair_along d z k) ≡ z
moment_along X z k = refl
moment_along Y z k = refl

pub moment_across : (d : Direction) (z k : ℕ) → moment_in (crossing d) (pair_along d z k) ≡ k
moment_across X z k = refl
moment_across Y z k = refl

-- both moments together, by a direction and the one across it
pub sum-along : (d : Direction) (z k : ℕ) → sum (pair_along d z k) ≡ z + k
sum-along X z k = refl
sum-along Y z k = add_comm k z

pub sum_split : (d : Direction) (p : Pair) → sum p ≡ moment_in d p + moment_in (crossing d) p
sum_split X p = refl
sum_split Y p = add_comm p.mx p.my

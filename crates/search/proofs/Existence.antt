-- A finite set of pairs that can be decided and has a pair has a best pair; so have the safe pairs of a face. Assumes nothing.
use Rattle.std.proofs.Common.{◌≡◌, ℕ, zero, suc, ◌<◌, ◌≤◌, Bool, true, false, T, ◌⊎◌, List, [], ◌∷◌, ◌++◌, sym, refl, subst, inl, inr, ⊎_elim, arith}
use Rattle.std.specs.List.{AllByRecursion}
use Rattle.std.proofs.ByRecursion.{All-weaker}
use Rattle.std.proofs.lemmas.Bool.{cases_lt}
use Rattle.moments.specs.Meanings.{Meaning}
use Rattle.moments.specs.Pairs.{moment_in, pair_along}
use Rattle.moments.specs.declared.pair.Direction.{Direction}
use Rattle.moments.specs.declared.pair.Direction.TheVariants.{X, Y}
use Rattle.moments.specs.declared.pair.Pair.{Pair}
use Rattle.moments.proofs.Pairs.{same_or_not, both_ways}
use Rattle.table.specs.Failing.{passed_by}
use Rattle.table.specs.declared.line.Line.{Line}
use Rattle.search.specs.Best.{Safe}
use Rattle.search.specs.Existence.{BestExists}
use Rattle.search.specs.Rankings.{Ranks}
use Rattle.search.proofs.Skips.{summit_safe}

abbrev Decided : Type 0 → Type 0
Decided P = P ⊎ (P → ⊥)

module _ (ahead : Pair → Pair → Bool) (S : Pair → Type 0) (ranks : Ranks ahead) (decided : (p : Pair) → Decided (S p)) where
  -- p is preferred to q, if q is another pair of S
  abbrev Leads : Pair → Pair → Type 0
  Leads p q = S q → (q ≡ p → ⊥) → T (ahead p q)

  -- p is one of S, and leads every pair of the list
  record Leader (ps : List Pair) : Type 0 where
    p : Pair
    belongs : S p
    leads : AllByRecursion (Leads p) ps

  -- what leads a leader leads whatever it leads
  overtakes : (x p q : Pair) → T (ahead x p) → Leads p q → Leads x q
  overtakes x p q h l s _ =
      ⊎_elim (λ e. subst (λ (r : Pair). T (ahead x r)) (sym e) h) (λ ne. ranks.transitive x p q h (l s ne)) (same_or_not q p)

  challenge : (x : Pair) (ps : List Pair) → S x → Leader ps → Leader (x ∷ ps)
  challenge x ps s l =
      ⊎_elim (λ e. record { p = l.p; belongs = l.belongs; leads = (λ _ ne. absurd (ne e), l.leads) })
      (λ ne.
      ⊎_elim
      (λ h. record { p = x; belongs = s; leads = (λ _ ne'. absurd (ne' refl), All-weaker (Leads l.p) (Leads x) (λ q k. overtakes x l.p q h k) ps l.leads) })
      (λ h. record { p = l.p; belongs = l.belongs; leads = (λ _ _. h, l.leads) })
      (ranks.total x l.p ne))
      (same_or_not x l.p)

  leader : (ps : List Pair) → Leader ps ⊎ AllByRecursion (λ q. S q → ⊥) ps
  leader [] = inr tt
  leader (x ∷ ps) =
      ⊎_elim
      (λ s.
      inl (⊎_elim (challenge x ps s)
      (λ none. record { p = x; belongs = s; leads = (λ _ ne. absurd (ne refl), All-weaker (λ q. S q → ⊥) (Leads x) (λ q n t _. absurd (n t)) ps none) })
      (leader ps)))
      (λ n. ⊎_elim (λ l. inl (record { p = l.p; belongs = l.belongs; leads = (λ t _. absurd (n t), l.leads) })) (λ none. inr (n, none)) (leader ps))
      (decided x)

-- all pairs with mx = x and my below n, and with mx below k too
column : ℕ → ℕ → List Pair
column x zero = []
column x (suc n) = pair_along X x n ∷ column x n

grid : ℕ → ℕ → List Pair
grid zero n = []
grid (suc k) n = column k n ++ grid k n

module _ (P : Pair → Type 0) where
  parted : (ps qs : List Pair) → AllByRecursion P (ps ++ qs) → AllByRecursion P ps × AllByRecursion P qs
  parted [] qs a = (tt, a)
  parted (p ∷ ps) qs a = let r = parted ps qs a.1 in ((a.0, r.0), r.1)

  -- what holds below n and at n holds below n + 1
  one_more : (Q : ℕ → Type 0) (n u : ℕ) → u < suc n → (u < n → Q u) → Q n → Q u
  one_more Q n u h below here = ⊎_elim below (λ le. let e : n ≡ u = omega arith in subst Q e here) (cases_lt u n)

  in_column : (x n y : ℕ) → y < n → AllByRecursion P (column x n) → P (pair_along X x y)
  unfolding column
  in_column x zero y h a = absurd (omega arith)
  in_column x (suc n) y h a = one_more (λ z. P (pair_along X x z)) n y h (λ lt. in_column x n y lt a.1) a.0

  in_grid : (k n x y : ℕ) → x < k → y < n → AllByRecursion P (grid k n) → P (pair_along X x y)
  unfolding grid
  in_grid zero n x y h j a = absurd (omega arith)
  in_grid (suc k) n x y h j a =
      let r = parted (column k n) (grid k n) a in
      one_more (λ z. P (pair_along X z y)) k x h (λ lt. in_grid k n x y lt j r.1) (in_column k n y j r.0)

decided_both : (P Q : Type 0) → Decided P → Decided Q → Decided (P × Q)
decided_both P Q (inl p) (inl q) = inl (p, q)
decided_both P Q (inl p) (inr n) = inr (λ b. n b.1)
decided_both P Q (inr n) q = inr (λ b. n b.0)

decided_like : (P Q : Type 0) → (P → Q) → (Q → P) → Decided P → Decided Q
decided_like P Q f g = ⊎_elim (λ p. inl (f p)) (λ n. inr (λ q. n (g q)))

decided_test : (b : Bool) → Decided (T b)
decided_test true = inl tt
decided_test false = inr (λ t. t)

decided_le : (a b : ℕ) → Decided (a ≤ b)
decided_le a b = ⊎_elim (λ lt. inr (λ le. omega arith)) inl (cases_lt b a)

decided_each : (P : Direction → Type 0) → ((d : Direction) → Decided (P d)) → Decided ((d : Direction) → P d)
decided_each P f = decided_like (P X × P Y) ((d : Direction) → P d) (λ b. both_ways P X b.0 b.1) (λ h. (h X, h Y)) (decided_both (P X) (P Y) (f X) (f Y))

decided_all : (p : Line → Bool) (ls : List Line) → Decided (AllByRecursion (λ l. T (p l)) ls)
decided_all p [] = inl tt
decided_all p (l ∷ ls) = decided_both (T (p l)) (AllByRecursion (λ k. T (p k)) ls) (decided_test (p l)) (decided_all p ls)

decided_safe : (m : Meaning) (lines : List Line) (floor p : Pair) → Decided (Safe m lines floor p)
decided_safe m lines floor p =
    decided_like _ (Safe m lines floor p) (λ h. record { above = h.0; below = h.1.0; passed = h.1.1 }) (λ s. (s.above, (s.below, s.passed)))
    (decided_both _ _ (decided_each _ (λ d. decided_le (moment_in d floor) (moment_in d p)))
    (decided_both _ _ (decided_each _ (λ d. decided_le (moment_in d p) m.ceiling)) (decided_all (passed_by m p) lines)))

pub best_exists : BestExists
best_exists ahead m lines floor ranks lawful posed =
    let S : Pair → Type 0 = Safe m lines floor in
    let n = suc m.ceiling in
    let inside : (q : Pair) → S q → (q.mx < n) × (q.my < n) = λ q s. let bx = s.below X in let by = s.below Y in (omega arith, omega arith) in
    ⊎_elim
    (λ l. (
      l.p,
      record {
        belongs = l.belongs;
        first = λ q s. in_grid (Leads ahead S ranks (decided_safe m lines floor) l.p) n n q.mx q.my (inside q s).0 (inside q s).1 l.leads s;
      },
    ))
    (λ none.
    let top = summit_safe m lines floor lawful posed in
    absurd (in_grid (λ q. S q → ⊥) n n m.ceiling m.ceiling (omega arith) (omega arith) none top))
    (leader ahead S ranks (decided_safe m lines floor) (grid n n))

-- What the laws of a ranking give: there is one best pair at most, and how a search keeps it. Assumes nothing.
use Rattle.std.proofs.Common.{◌≡◌, ℕ, ◌+◌, ◌-◌, ◌<◌, ◌≤◌, Bool, T, ◌↔◌, Some, None, Option, IsSome, sym, refl, subst, ⊎_elim, arith}
use Rattle.std.proofs.lemmas.Bool.{cases_lt}
use Rattle.std.specs.Option.{SomeIff}
use Rattle.moments.specs.Pairs.{pair_along, sum}
use Rattle.moments.specs.declared.pair.Direction.TheVariants.{X, Y}
use Rattle.moments.specs.declared.pair.Pair.{Pair}
use Rattle.moments.proofs.Pairs.{same_pair, same_or_not}
use Rattle.search.specs.Best.{Best, BestIfAny, LeastSum}
use Rattle.search.specs.Rankings.{Ranks}
use Rattle.search.specs.Steps.{PreferredUpTo, NextColumn, Lowest, Improved}
use Rattle.search.proofs.Lowest.{on_column}

-- where S has a pair, a best one is given
pub best_given : (ahead : Pair → Pair → Bool) (S : Pair → Type 0) (o : Option Pair) → BestIfAny ahead S o → (p : Pair) → S p → IsSome o
best_given ahead S None none p s = absurd (none p s)
best_given ahead S (Some best) given p s = refl

-- the pair that is given is the best
pub given_best : (ahead : Pair → Pair → Bool) (S : Pair → Type 0) (o : Option Pair) (p : Pair) → BestIfAny ahead S o → o ≡ Some p → Best ahead S p
given_best ahead S o p given e = subst (BestIfAny ahead S) e given

-- no pair of S in the columns before `from` is preferred to `best`
abbrev pub Unbeaten : (Pair → Pair → Bool) → (Pair → Type 0) → Pair → ℕ → Type 0
Unbeaten ahead S best from = (q : Pair) → S q → q.mx < from → T (ahead q best) → ⊥

module _ (ahead : Pair → Pair → Bool) (ranks : Ranks ahead) where
  -- what is preferred to a pair has no larger sum
  pub no_larger : (p q : Pair) → T (ahead p q) → sum p ≤ sum q
  no_larger p q h =
      ⊎_elim (λ lt. absurd (ranks.irreflexive p (ranks.transitive p q p h (ranks.by_sum q p lt)))) (λ le. le) (cases_lt (sum q) (sum p))

  module _ (S : Pair → Type 0) where
    -- a set of pairs has one best pair at most
    pub best_unique : (p q : Pair) → Best ahead S p → Best ahead S q → p ≡ q
    best_unique p q a b =
        ⊎_elim (λ same. same)
        (λ other. absurd (ranks.irreflexive p (ranks.transitive p q p (a.first q b.belongs (λ e. other (sym e))) (b.first p a.belongs other))))
        (same_or_not p q)

    -- a rival is equal to the best pair exactly where it is best
    pub best_only : (p : Pair) → Best ahead S p → (q : Pair) → (p ≡ q) ↔ Best ahead S q
    best_only p b q = (λ e. subst (λ (r : Pair). Best ahead S r) e b, λ d. best_unique p q b d)

    -- the pair of S that no pair of S comes before is the best
    pub best_unbeaten : (p : Pair) → S p → ((q : Pair) → S q → T (ahead q p) → ⊥) → Best ahead S p
    best_unbeaten p s unbeaten =
        record { belongs = s; first = λ q t other. ⊎_elim (λ h. absurd (unbeaten q t h)) (λ h. h) (ranks.total q p other) }

    -- no pair has a smaller sum than the best
    pub best_least_sum : (p : Pair) → Best ahead S p → LeastSum S p
    best_least_sum p best =
        record {
          belongs = best.belongs;
          smallest = λ q s. ⊎_elim (λ same. let P : Pair → Type 0 = λ r. sum p ≤ sum r in subst P (sym same) (omega arith)) (λ other. no_larger p q (best.first q s other)) (same_or_not q p);
        }

    -- one column of S, and its lowest pair
    module _ (column : ℕ) (best : Pair) where
      module _ (low : Pair) (lowest : Lowest S column low) where
        -- a pair of the column that has no larger sum than the lowest is the lowest
        is_lowest : (q : Pair) → S q → q.mx ≡ column → q.my ≤ low.my → q ≡ low
        is_lowest q s e le = let ge = lowest.least q s e in let at = lowest.there in same_pair q low (omega arith) (omega arith)

        -- it is preferred to the best so far
        pub improved_new : T (ahead low best) → Improved ahead S best column low
        improved_new h =
            record {
              belongs = lowest.belongs;
              no_later = λ q k. ranks.transitive q low best k h;
              unbeaten = λ q s e k.
                  let le : sum q ≤ sum low = no_larger q low k in
                  let at = lowest.there in
                  ranks.irreflexive low (subst (λ (r : Pair). T (ahead r low)) (is_lowest q s e (omega arith)) k);
            }

        -- it is not, and so no pair of the column is
        pub improved_old : S best → (T (ahead low best) → ⊥) → Improved ahead S best column best
        improved_old belongs h =
            record {
              belongs = belongs;
              no_later = λ q k. k;
              unbeaten = λ q s e k.
                  let at = lowest.there in
                  ⊎_elim (λ lt. h (ranks.transitive low q best (ranks.by_sum low q (omega arith)) k))
                  (λ le. h (subst (λ (r : Pair). T (ahead r best)) (is_lowest q s e le) k))
                  (cases_lt low.my q.my);
            }

      -- the column is empty
      pub improved_none : S best → ((z : ℕ) → S (pair_along Y z column) → ⊥) → Improved ahead S best column best
      improved_none belongs never =
          record { belongs = belongs; no_later = λ q k. k; unbeaten = λ q s e k. never q.my (on_column S column q s e) }

    -- columns that are passed over
    pub unbeaten_skip : (best : Pair) (ceiling from column : ℕ) → Unbeaten ahead S best from → NextColumn ahead S best ceiling from column → Unbeaten ahead S best column
    unbeaten_skip best ceiling from column old next q s lt h =
        ⊎_elim (λ passed. old q s passed h) (λ on. next.skipped q s on lt h) (cases_lt q.mx from)

    -- a column that is asked
    pub unbeaten_more : (best r : Pair) (column : ℕ) → Unbeaten ahead S best column → Improved ahead S best column r → Unbeaten ahead S r (column + 1)
    unbeaten_more best r column old new q s lt h =
        ⊎_elim (λ passed. old q s passed (new.no_later q h)) (λ on. new.unbeaten q s (omega arith) h) (cases_lt q.mx column)

    pub best_at_end : (best : Pair) (from : ℕ) → S best → Unbeaten ahead S best from → ((q : Pair) → S q → from ≤ q.mx → T (ahead q best) → ⊥) → Best ahead S best
    best_at_end best from belongs old beyond =
        best_unbeaten best belongs (λ q s h. ⊎_elim (λ passed. old q s passed h) (λ on. beyond q s on h) (cases_lt q.mx from))

  -- the largest my with which a pair can be preferred, from a column on
  module _ (best : Pair) (from : ℕ) where
    -- the sum is too small already
    pub none_past : sum best < from → PreferredUpTo ahead best from None
    none_past past q on h = let le = no_larger q best h in omega arith

    module _ (my : ℕ) (is : my ≡ sum best - from) (reached : from ≤ sum best) where
      abbrev tie : Pair
      tie = pair_along X from my

      pub up_to_tie : PreferredUpTo ahead best from (Some my)
      up_to_tie q on h = let le = no_larger q best h in omega arith

      -- a pair of the same sum in that column is not preferred: a smaller sum is needed there, and further on there is less room anyway
      below_tie : (T (ahead tie best) → ⊥) → (q : Pair) → from ≤ q.mx → T (ahead q best) → q.my < my
      below_tie ne q on h =
          let le = no_larger q best h in
          ⊎_elim (λ lt. lt)
          (λ ge. absurd (ne (subst (λ (r : Pair). T (ahead r best)) (same_pair q tie (omega arith) (omega arith)) h)))
          (cases_lt q.my my)

      pub up_to_less : (T (ahead tie best) → ⊥) → (o : Option ℕ) → SomeIff o (1 ≤ my) (my - 1) → PreferredUpTo ahead best from o
      up_to_less ne (Some h) less = λ q on k. let lt = below_tie ne q on k in let e = less.1 in omega arith
      up_to_less ne None less = λ q on k. let lt = below_tie ne q on k in less (omega arith)

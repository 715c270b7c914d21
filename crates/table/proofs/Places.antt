-- Where a line of a number stands in lines that rise, and where one fits. Assumes nothing.
use Rattle.std.proofs.Common.{◌≡◌, ℕ, zero, suc, ◌<◌, true, false, ◌||◌, cond, eqb, ltb, List, [], ◌∷◌, length, get_or, Some, Result, Ok, Err, sym, refl, ap, ◌∙◌, subst, ⊎_elim, arith}
use Rattle.std.specs.List.{insert, remove}
use Rattle.std.specs.List.Sorted.{IsSearchInRange, IsBinarySearchResult, IsNonDecreasingBy}
use Rattle.std.specs.Ordering.{nat_cmp, ordering_index}
use Rattle.std.proofs.ByRecursion.{All-get_or}
use Rattle.std.proofs.lemmas.Cmp.{ranked}
use Rattle.std.proofs.lemmas.Bool.{lt-ltb, le-ltb, eq-eqb, ne_eqb, and_parts, or_left, or_right, not_from_false, not_from_true, cond-true, cond-false, false≢true, cases_order}
use Rattle.std.proofs.lemmas.Bool.Decides.{nat_tests}
use Rattle.table.specs.declared.line.Line.{Line}
use Rattle.table.specs.Lines.{leads, climbing, stands, triad_under, entered, withdrawn, rank}
use Rattle.table.specs.Places.{StandsAt, FitsAt, Placed}
use Rattle.table.proofs.Lowest.{all_above}

-- the numbers of lines that rise don't fall
pub numbers_rise : (ls : List Line) → climbing ls ≡ true → IsNonDecreasingBy (λ l. l.number) ls
numbers_rise [] c i j d le lt = absurd (omega arith)
numbers_rise (l ∷ ls) c zero zero d le lt = omega arith
numbers_rise (l ∷ ls) c zero (suc j) d le lt =
    let p = and_parts (leads l.number ls) (climbing ls) c in
    let h = All-get_or _ ls j d (omega arith) (all_above l.number ls p.0 p.1) in
    omega arith
numbers_rise (l ∷ ls) c (suc i) zero d le lt = absurd (omega arith)
numbers_rise (l ∷ ls) c (suc i) (suc j) d le lt = numbers_rise ls (and_parts (leads l.number ls) (climbing ls) c).1 i j d (omega arith) (omega arith)

-- a number below all others does not stand, and there is nothing to withdraw
pub fits_nowhere : (n : ℕ) (ls : List Line) → ((k : ℕ) (d : Line) → k < length ls → n < (get_or ls k d).number) → (stands n ls ≡ false) × (withdrawn n ls ≡ ls)
fits_nowhere n [] above = (refl, refl)
fits_nowhere n (l ∷ ls) above =
    let lt = above 0 l (omega arith) in
    let ne = ne_eqb l.number n (λ e. omega arith) in
    let later = fits_nowhere n ls (λ k d h. above (suc k) d (omega arith)) in
    (ap (λ b. b || stands n ls) ne ∙ later.0, cond-true _ _ _ (not_from_false _ ne) ∙ ap (λ xs. l ∷ xs) later.1)

-- past the first line
fits_later : (n : ℕ) (l : Line) (ls : List Line) (at : ℕ) → FitsAt n (l ∷ ls) (suc at) → FitsAt n ls at
fits_later n l ls at f =
    record {
      within = let w = f.within in omega arith;
      lower = λ i d le h. f.lower (suc i) d (omega arith) (omega arith);
      higher = λ i d le h. f.higher (suc i) d (omega arith) (omega arith);
    }

-- a number does not stand where its line would fit
pub fits_absent : (n : ℕ) (ls : List Line) (at : ℕ) → FitsAt n ls at → stands n ls ≡ false
fits_absent n ls zero f = (fits_nowhere n ls (λ k d h. f.higher k d (omega arith) h)).0
fits_absent n [] (suc at) f = refl
fits_absent n (l ∷ ls) (suc at) f =
    let lt = f.lower 0 l (omega arith) (omega arith) in
    ap (λ b. b || stands n ls) (ne_eqb l.number n (λ e. omega arith)) ∙ fits_absent n ls at (fits_later n l ls at f)

-- and all lines before that place, and no more, have lower numbers
fits_ranked : (n : ℕ) (ls : List Line) (at : ℕ) → FitsAt n ls at → rank n ls ≡ at
fits_ranked n [] zero f = refl
fits_ranked n [] (suc at) f = absurd (let w = f.within in omega arith)
fits_ranked n (l ∷ ls) zero f =
    let lt = f.higher 0 l (omega arith) (omega arith) in
    cond-false _ _ _ (le-ltb l.number n (omega arith))
fits_ranked n (l ∷ ls) (suc at) f =
    let lt = f.lower 0 l (omega arith) (omega arith) in
    cond-true _ _ _ (lt-ltb l.number n lt) ∙ ap suc (fits_ranked n ls at (fits_later n l ls at f))

-- a line enters past the lower numbers that lead, whatever the order
pub entered_ranked : (k : Line) (ls : List Line) → entered k ls ≡ insert ls (rank k.number ls) k
entered_ranked k [] = refl
entered_ranked k (l ∷ ls) =
    elim (ltb l.number k.number)
    as (λ b. cond b (l ∷ entered k ls) (k ∷ (l ∷ ls)) ≡ insert (l ∷ ls) (cond b (suc (rank k.number ls)) 0) k)
    [ true ↦ ap (λ xs. l ∷ xs) (entered_ranked k ls) | false ↦ refl ]

-- and where it fits, it enters there
pub entered_inserted : (k : Line) (ls : List Line) (at : ℕ) → FitsAt k.number ls at → entered k ls ≡ insert ls at k
entered_inserted k ls at f = entered_ranked k ls ∙ ap (λ i. insert ls i k) (fits_ranked k.number ls at f)

-- a line that has the number stands, whatever the order
pub stands_at : (n : ℕ) (ls : List Line) (k : ℕ) (d : Line) → k < length ls → (get_or ls k d).number ≡ n → stands n ls ≡ true
stands_at n [] k d h e = absurd (omega arith)
stands_at n (l ∷ ls) zero d h e = or_left _ (stands n ls) (eq-eqb _ _ e)
stands_at n (l ∷ ls) (suc k) d h e = or_right (eqb l.number n) _ (stands_at n ls k d (omega arith) e)

-- in lines that rise, the line of a number that stands is past the lower numbers
pub stands_ranked : (n : ℕ) (ls : List Line) → climbing ls ≡ true → stands n ls ≡ true → StandsAt n ls (rank n ls)
stands_ranked n [] c s = absurd (false≢true s)
stands_ranked n (l ∷ ls) c s =
    let p = and_parts (leads l.number ls) (climbing ls) c in
    let higher = all_above l.number ls p.0 p.1 in
    ⊎_elim
    (λ e. subst (StandsAt n (l ∷ ls)) (sym (cond-false _ _ _ (le-ltb l.number n (omega arith)))) (record { within = omega arith; numbered = λ d. e }))
    (⊎_elim
    (λ lt.
    let ne = ne_eqb l.number n (λ e. omega arith) in
    let later = stands_ranked n ls p.1 (ap (λ b. b || stands n ls) (sym ne) ∙ s) in
    subst (StandsAt n (l ∷ ls)) (sym (cond-true _ _ _ (lt-ltb _ _ lt))) (record { within = let w = later.within in omega arith; numbered = later.numbered }))
    (λ gt.
    let ne = ne_eqb l.number n (λ e. omega arith) in
    let none = (fits_nowhere n ls (λ k d h. let g = All-get_or _ ls k d h higher in omega arith)).0 in
    absurd (false≢true (sym (ap (λ b. b || stands n ls) ne ∙ none) ∙ s))))
    (cases_order l.number n)

-- the number stands with the moments of the line at its place, and withdrawing it takes that line
pub record Leaves (n : ℕ) (ls : List Line) (at : ℕ) : Type 0 where
  pub there : stands n ls ≡ true
  pub moments : (d : Line) → triad_under n ls ≡ Some (get_or ls at d).triad
  pub gone : withdrawn n ls ≡ remove ls at

pub leaves : (n : ℕ) (ls : List Line) (at : ℕ) → climbing ls ≡ true → StandsAt n ls at → Leaves n ls at
leaves n [] at c s = absurd (let w = s.within in omega arith)
leaves n (l ∷ ls) zero c s =
    let p = and_parts (leads l.number ls) (climbing ls) c in
    let e = s.numbered l in
    let t = eq-eqb l.number n e in
    let higher = all_above l.number ls p.0 p.1 in
    record {
      there = or_left _ (stands n ls) t;
      moments = λ d. cond-true _ _ _ t;
      gone = cond-false _ _ _ (not_from_true _ t) ∙ (fits_nowhere n ls (λ k d h. let g = All-get_or _ ls k d h higher in omega arith)).1;
    }
leaves n (l ∷ ls) (suc at) c s =
    let p = and_parts (leads l.number ls) (climbing ls) c in
    let w = s.within in
    let h = All-get_or _ ls at l (omega arith) (all_above l.number ls p.0 p.1) in
    let e = s.numbered l in
    let ne = ne_eqb l.number n (λ e'. omega arith) in
    let later = leaves n ls at p.1 (record { within = omega arith; numbered = s.numbered }) in
    record {
      there = or_right (eqb l.number n) _ later.there;
      moments = λ d. cond-false _ _ _ ne ∙ later.moments d;
      gone = cond-true _ _ _ (not_from_false _ ne) ∙ ap (λ xs. l ∷ xs) later.gone;
    }

module _ (ls : List Line) (rising : climbing ls ≡ true) (n : ℕ) where
  -- their comparisons with n rise, as a binary search asks
  comparisons_rise : IsNonDecreasingBy (λ l. ordering_index (nat_cmp l.number n)) ls
  comparisons_rise i j d le lt = let r = numbers_rise ls rising i j d le lt in grind (arith, nat_tests)

  -- a binary search by number ends at the line of the number, or where one would fit
  pub searched : (r : Result ℕ ℕ) → IsSearchInRange r (length ls) → IsBinarySearchResult (λ l. nat_cmp l.number n) ls r
      → Placed n ls r
  searched (Ok at) within equal =
      let s : StandsAt n ls at = record { within = within; numbered = λ d. ranked _ n _ (sym (equal d)) } in
      record { found = s; absent = tt; stands = sym (leaves n ls at rising s).there }
  searched (Err at) within parted =
      let f : FitsAt n ls at = record {
        within = within;
        lower = λ k d le lt. ranked _ n _ (sym ((parted comparisons_rise).0 k d le lt));
        higher = λ k d le lt. ranked _ n _ (sym ((parted comparisons_rise).1 k d le lt));
      } in
      record { found = tt; absent = f; stands = sym (fits_absent n ls at f) }

-- The moments under each number once a line is entered or withdrawn. Assumes nothing.
use Rattle.std.proofs.Common.{◌≡◌, ℕ, false, cond, eqb, List, [], ◌∷◌, Some, None, sym, refl, ap, ◌∙◌, inl, inr, ⊎_elim, arith}
use Rattle.std.proofs.lemmas.Bool.{eq-eqb, ne_eqb, cases_eq, cond-true, cond-false, or_parts}
use Rattle.std.proofs.lemmas.Bool.Decides.{nat_tests}
use Rattle.moments.specs.declared.triad.Triad.{Triad}
use Rattle.table.specs.declared.line.Line.{Line}
use Rattle.table.specs.Laws.{OneMore, OneLess}
use Rattle.table.specs.Lines.{line_of, stands, triad_under, entered, withdrawn}

triad_entered : (k : ℕ) (e : Line) (ls : List Line) → triad_under k (entered e ls) ≡ cond (eqb e.number k) (Some e.triad) (triad_under k ls)
triad_entered k e [] = refl
triad_entered k e (l ∷ ls) = let ih = triad_entered k e ls in grind (arith, nat_tests)

triad_withdrawn : (k n : ℕ) (ls : List Line) → triad_under k (withdrawn n ls) ≡ cond (eqb n k) None (triad_under k ls)
triad_withdrawn k n [] = grind (arith, nat_tests)
triad_withdrawn k n (l ∷ ls) = let ih = triad_withdrawn k n ls in grind (arith, nat_tests)

-- a number that does not stand has no moments
none_under : (n : ℕ) (ls : List Line) → stands n ls ≡ false → triad_under n ls ≡ None
none_under n [] s = refl
none_under n (l ∷ ls) s = let p = or_parts (eqb l.number n) (stands n ls) s in cond-false _ _ _ p.0 ∙ none_under n ls p.1

pub one_more : (n : ℕ) (t : Triad) (ls : List Line) → stands n ls ≡ false → OneMore n t ls (entered (line_of n t) ls)
one_more n t ls s k u =
    let e = triad_entered k (line_of n t) ls in
    let o = none_under n ls s in
    ⊎_elim
    (λ (same : n ≡ k).
    let c = cond-true _ (Some t) (triad_under k ls) (eq-eqb n k same) in
    let z : triad_under k ls ≡ None = ap (λ i. triad_under i ls) (sym same) ∙ o in (
      λ h. inr (sym same, cc),
      ⊎_elim (λ h. let z : ◌≡◌ {A = ℕ} 0 1 = cc in absurd (omega arith)) (λ h. let w = h.1 in cc),
    ))
    (λ other.
    let c = cond-false _ (Some t) (triad_under k ls) (ne_eqb n k other) in (
      λ h. inl (sym c ∙ sym e ∙ h),
      ⊎_elim (λ h. e ∙ c ∙ h) (λ h. absurd (other (sym h.0))),
    ))
    (cases_eq n k)

pub one_less : (n : ℕ) (ls : List Line) → OneLess n ls (withdrawn n ls)
one_less n ls k u =
    let e = triad_withdrawn k n ls in
    ⊎_elim
    (λ (same : n ≡ k).
    let c = cond-true _ None (triad_under k ls) (eq-eqb n k same) in (
      λ h. let z : ◌≡◌ {A = ℕ} 0 1 = cc in absurd (omega arith),
      λ h. absurd (h.1 (sym same)),
    ))
    (λ other.
    let c = cond-false _ None (triad_under k ls) (ne_eqb n k other) in (
      λ h. (sym c ∙ sym e ∙ h, λ k'. other (sym k')),
      λ h. e ∙ c ∙ h.0,
    ))
    (cases_eq n k)

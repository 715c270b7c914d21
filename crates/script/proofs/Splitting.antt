-- The lines of a script are its first line and those of what follows. Assumes nothing.
use Rattle.std.proofs.Common.{◌≡◌, ℕ, ◌+◌, Bool, true, false, cond, not, List, [], ◌∷◌, length, drop, refl, sym, ap, ◌∙◌, suc, arith}
use Rattle.std.specs.List.{position_or_len, after_first, onto_first}
use Rattle.script.specs.Runs.{is_line_feed}
use Rattle.script.specs.Lines.{first_line, after_line, lines_of}
use Rattle.script.proofs.Cutting.{before_first-cons}

after_first-cons : (p : ℕ → Bool) (b : ℕ) (bs : List ℕ) → after_first p (b ∷ bs) ≡ cond (p b) bs (after_first p bs)
after_first-cons p b bs =
    let later : 1 + position_or_len p bs + 1 ≡ suc (position_or_len p bs + 1) = omega arith in
    elim (p b) as (λ v. drop (cond (not v) (1 + position_or_len p bs) 0 + 1) (b ∷ bs) ≡ cond v bs (after_first p bs)) [ true ↦ refl | false ↦ ap (λ (n : ℕ). drop n (b ∷ bs)) later ]

lines_after : (b : ℕ) (bs : List ℕ) → onto_first b (lines_of bs) ≡ (b ∷ first_line bs) ∷ lines_of (after_line bs) → lines_of (b ∷ bs) ≡ first_line (b ∷ bs) ∷ lines_of (after_line (b ∷ bs))
lines_after b bs onto =
    elim (is_line_feed b) as (λ v. cond v ([] ∷ lines_of bs) (onto_first b (lines_of bs)) ≡ cond v [] (b ∷ first_line bs) ∷ lines_of (cond v bs (after_line bs))) [ true ↦ refl | false ↦ onto ]
    ∙ (λ i. sym (before_first-cons is_line_feed b bs) i ∷ lines_of (sym (after_first-cons is_line_feed b bs) i))

lines_from : (b : ℕ) (bs : List ℕ) → lines_of (b ∷ bs) ≡ first_line (b ∷ bs) ∷ lines_of (after_line (b ∷ bs))
lines_from b [] = lines_after b [] refl
lines_from b (c ∷ cs) = lines_after b (c ∷ cs) (ap (onto_first b) (lines_from c cs))

pub lines_of-some : (bs : List ℕ) → (length bs ≡ 0 → ⊥) → lines_of bs ≡ first_line bs ∷ lines_of (after_line bs)
lines_of-some [] some = absurd (some refl)
lines_of-some (b ∷ bs) some = lines_from b bs

-- A whole number, read digit by digit. Assumes nothing.
use Rattle.std.proofs.Common.{◌≡◌, ℕ, ◌+◌, ◌-◌, ◌*◌, ◌≤◌, leb, List, [], ◌∷◌, length, Some, None, Option, IfSome, MatchOption, Bor, sym, refl, ap, ◌∙◌}
use Rattle.std.specs.Option.{option_and_then}
use Rattle.std.specs.Char.{is_ascii_digit}
use Rattle.std.specs.Fn.{Mut, Called}
use Rattle.std.specs.Iterator.{Yields, TryFoldTurn}
use Rattle.std.specs.List.{FoldsTo}
use Rattle.std.specs.ControlFlow.{continue_value}
use Rattle.std.specs.declared.slice.Iter.{Iter}
use Rattle.std.specs.Slice.Iter.{iter_rest, iter_steps}
use Rattle.std.proofs.lemmas.Bool.{cond_both, leb-true}
use Rattle.std.proofs.lemmas.List.{nil_from_length}
use Rattle.script.specs.Numbers.{largest, up_to_largest, with_digit, read_on, whole_of}

-- one or more digits
pub whole_some : (bs : List ℕ) → (length bs ≡ 0 → ⊥) → read_on 0 bs ≡ whole_of bs
whole_some [] some = absurd (some refl)
whole_some (b ∷ bs) some = refl

-- no number that is read passes the largest
pub read_within : (bs : List ℕ) (n : ℕ) → n ≤ largest → IfSome (read_on n bs) (λ m. m ≤ largest)
read_within [] n small = small
read_within (b ∷ bs) n small =
    cond_both (is_ascii_digit b) (up_to_largest (n * 10 + (b - 48))) None (λ o. IfSome (option_and_then (λ m. read_on m bs) o) (λ m. m ≤ largest))
    (λ _. cond_both (leb (n * 10 + (b - 48)) largest) (Some (n * 10 + (b - 48))) None (λ o. IfSome (option_and_then (λ m. read_on m bs) o) (λ m. m ≤ largest)) (λ e. read_within bs _ (leb-true _ _ e)) (λ _. tt))
    (λ _. tt)

-- the digits of a slice, one call after another
module _ {F : Type 0} (E : Type 0) (g : Mut F (ℕ × (Bor ℕ × Unit {0})) (Option ℕ)) (adds : (f : F) (n : ℕ) (x : Bor ℕ) (v : Option ℕ) (h : F) → Called g f (n, (x, tt)) v h → v ≡ with_digit n x.now) where
  -- the bytes are all read, or the next one breaks off
  abbrev Ends : F → ℕ → Option ℕ → Option (Bor ℕ) → Type 0
  Ends f n r o = MatchOption o (r ≡ Some n) (λ x. (v : Option ℕ) × (h : F) × (e : E) × Called g f (n, (x, tt)) v h × (v ≡ None) × (r ≡ None))

  pub read_by_calls : (xs : List (Bor ℕ)) (s t u : Iter ℕ) (p q : F × ℕ) (r : Option ℕ) (o : Option (Bor ℕ)) → Yields iter_steps s xs t → iter_steps t o u → FoldsTo {P = F × ℕ} (TryFoldTurn g (λ v c. v ≡ continue_value {B = E} c)) p xs q → Ends q.0 q.1 r o → r ≡ read_on p.1 (iter_rest s)
  read_by_calls [] s t u p q r None yields last turns end = end ∙ ap (λ (q : F × ℕ). Some q.1) (sym turns) ∙ sym (ap (read_on p.1) (ap iter_rest yields ∙ nil_from_length (iter_rest t) last.0))
  read_by_calls [] s t u p q r (Some x) yields last turns end =
      end.5
      ∙ ap (option_and_then (λ m. read_on m (iter_rest u))) (sym end.4 ∙ adds q.0 q.1 x _ _ end.3 ∙ ap (λ (q : F × ℕ). with_digit q.1 x.now) (sym turns))
      ∙ sym (ap (read_on p.1) (ap iter_rest yields ∙ last))
  read_by_calls (x ∷ xs) s t u p q r o yields last turns end =
      read_by_calls xs yields.0 t u turns.0 q r o yields.2 last turns.2 end
      ∙ ap (option_and_then (λ m. read_on m (iter_rest yields.0))) (sym turns.1.2 ∙ adds p.0 p.1 x _ _ turns.1.1)
      ∙ sym (ap (read_on p.1) yields.1)

-- Which refusal is due, from the tests in their order. Assumes nothing.
use Rattle.std.proofs.Common.{◌≡◌, ℕ, ◌<◌, Bool, true, false, cond, not, List, [], ◌∷◌, ◌++◌, length, is_some, Some, None, Option, nat_le, sym, refl, ap, ◌∙◌, arith}
use Rattle.std.proofs.lemmas.Bool.{and_from, not-false, not_from_true, leb-false, cond-false}
use Rattle.moments.specs.Limits.{most_lines}
use Rattle.moments.specs.Refusals.{number_of, first_refusal, first_due}
use Rattle.moments.specs.Triads.{in_limits}
use Rattle.moments.specs.declared.refusal.Refusal.{Refusal}
use Rattle.moments.specs.declared.triad.Triad.{Triad}
use Rattle.table.specs.declared.line.Line.{Line}
use Rattle.table.specs.Lines.{is_number, line_of, sound, stands}
use Rattle.table.specs.Changes.{entry_rows, line_due, room_rows, enter_due, withdraw_due}

-- where no row is due, its test fails and no later row is due
pub not_due : {A : Type 0} (b : Bool) (a : A) (o : Option A) → cond b (Some a) o ≡ None → (b ≡ false) × (o ≡ None)
not_due true a o h = let z : ◌≡◌ {A = ℕ} 0 1 = cc in absurd (omega arith)
not_due false a o h = (refl, h)

-- a line that is not refused, however many stand
module _ (n : ℕ) (t : Triad) (ls : List Line) (due : line_due n t ls ≡ None) where
  -- no test gives a refusal
  tests : (not (is_number n) ≡ false) × (not (in_limits t) ≡ false) × (stands n ls ≡ false)
  tests =
      let p = not_due (not (is_number n)) _ _ due in
      let q = not_due (not (in_limits t)) _ _ p.1 in
      (p.0, q.0, (not_due (stands n ls) _ _ q.1).0)

  -- it is within its limits
  pub line_fits : sound (line_of n t) ≡ true
  line_fits = and_from _ _ (not-false _ tests.0) (not-false _ tests.1)

  -- and its number does not stand
  pub line_fresh : stands n ls ≡ false
  line_fresh = tests.2

-- a refusal due by the first rows is due whatever rows follow
pub due_first : (rows more : List (Bool × Refusal)) (e : Refusal) → first_refusal rows ≡ Some e → Some (number_of e) ≡ first_due (rows ++ more)
due_first [] more e h = let z : ◌≡◌ {A = ℕ} 0 1 = cc in absurd (omega arith)
due_first ((true, r) ∷ rows) more e h = cc
due_first ((false, r) ∷ rows) more e h = due_first rows more e h

-- where those rows have none due, the rows that follow tell
pub due_later : (rows more : List (Bool × Refusal)) → first_refusal rows ≡ None → first_due more ≡ first_due (rows ++ more)
due_later [] more h = refl
due_later ((true, r) ∷ rows) more h = let z : ◌≡◌ {A = ℕ} 0 1 = cc in absurd (omega arith)
due_later ((false, r) ∷ rows) more h = due_later rows more h

-- where none of all rows is due, none of the first is
none_due : (rows more : List (Bool × Refusal)) → first_due (rows ++ more) ≡ None → first_refusal rows ≡ None
none_due [] more h = refl
none_due ((true, r) ∷ rows) more h = let z : ◌≡◌ {A = ℕ} 0 1 = cc in absurd (omega arith)
none_due ((false, r) ∷ rows) more h = none_due rows more h

-- what holds where a line may be entered
pub record Free (n : ℕ) (t : Triad) (ls : List Line) : Type 0 where
  pub fit : sound (line_of n t) ≡ true
  pub fresh : stands n ls ≡ false
  pub room : length ls < most_lines

pub enter_free : (n : ℕ) (t : Triad) (ls : List Line) → enter_due n t ls ≡ None → Free n t ls
enter_free n t ls due =
    let h = none_due (entry_rows n t ls) (room_rows ls) due in
    let full = not_due (nat_le most_lines (length ls)) _ _ (due_later (entry_rows n t ls) (room_rows ls) h ∙ due) in
    record { fit = line_fits n t ls h; fresh = line_fresh n t ls h; room = leb-false _ _ full.0 }

-- a number that may be withdrawn
pub withdraw_goes : (n : ℕ) (ls : List Line) → is_number n ≡ true → stands n ls ≡ true → withdraw_due n ls ≡ None
withdraw_goes n ls a s = cond-false _ _ _ (not_from_true _ a) ∙ cond-false _ _ _ (not_from_true _ s)

-- where nothing is due, the change is made
pub goes_through : {X : Type 0} (o : Option ℕ) (before after : X) → o ≡ None → after ≡ cond (is_some o) before after
goes_through o before after e = ap (λ p. cond (is_some p) before after) (sym e)

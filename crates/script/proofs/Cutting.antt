-- Bytes before the first that passes a test, and from there on. Assumes nothing.
use Rattle.std.proofs.Common.{◌≡◌, ℕ, ◌+◌, ◌<◌, Bool, true, false, not, cond, List, [], ◌∷◌, ◌++◌, length, take, drop, refl, sym, ap, ◌∙◌, one-add, arith}
use Rattle.std.proofs.lemmas.Bool.{cond-true, cond-false}
use Rattle.std.specs.List.{before_first, position_or_len, AllByRecursion}
use Rattle.script.specs.Runs.{from_first}

module _ (p : ℕ → Bool) where
  -- how many bytes stand before the first that passes
  pub stops_here : (b : ℕ) (bs : List ℕ) → true ≡ p b → position_or_len p (b ∷ bs) ≡ 0
  stops_here b bs passes = ap (λ v. cond (not v) (1 + position_or_len p bs) 0) (sym passes)

  pub stops_later : (b : ℕ) (bs : List ℕ) → false ≡ p b → position_or_len p (b ∷ bs) ≡ position_or_len p bs + 1
  stops_later b bs fails = ap (λ v. cond (not v) (1 + position_or_len p bs) 0) (sym fails) ∙ omega arith

  -- both by the first byte
  pub before_first-cons : (b : ℕ) (bs : List ℕ) → before_first p (b ∷ bs) ≡ cond (p b) [] (b ∷ before_first p bs)
  before_first-cons b bs = elim (p b) as (λ v. take (cond (not v) (1 + position_or_len p bs) 0) (b ∷ bs) ≡ cond v [] (b ∷ before_first p bs)) [ true ↦ refl | false ↦ rw one-add refl ]

  pub from_first-cons : (b : ℕ) (bs : List ℕ) → from_first p (b ∷ bs) ≡ cond (p b) (b ∷ bs) (from_first p bs)
  from_first-cons b bs = elim (p b) as (λ v. drop (cond (not v) (1 + position_or_len p bs) 0) (b ∷ bs) ≡ cond v (b ∷ bs) (from_first p bs)) [ true ↦ refl | false ↦ rw one-add refl ]

  -- a byte that passes ends what stands before
  pub before_stops : (bs cs : List ℕ) (c : ℕ) → p c ≡ true → before_first p (bs ++ c ∷ cs) ≡ before_first p bs
  before_stops [] cs c passes = before_first-cons c cs ∙ cond-true (p c) _ _ passes
  before_stops (b ∷ bs) cs c passes = before_first-cons b (bs ++ c ∷ cs) ∙ ap (λ (f : List ℕ). cond (p b) [] (b ∷ f)) (before_stops bs cs c passes) ∙ sym (before_first-cons b bs)

  -- after bytes that all fail, and after some that pass
  pub before_through : (bs cs : List ℕ) → AllByRecursion (λ b. p b ≡ false) bs → before_first p (bs ++ cs) ≡ bs ++ before_first p cs
  before_through [] cs all = refl
  before_through (b ∷ bs) cs all = before_first-cons b (bs ++ cs) ∙ cond-false (p b) _ _ all.0 ∙ ap (λ (t : List ℕ). b ∷ t) (before_through bs cs all.1)

  pub from_through : (bs cs : List ℕ) → AllByRecursion (λ b. p b ≡ false) bs → from_first p (bs ++ cs) ≡ from_first p cs
  from_through [] cs all = refl
  from_through (b ∷ bs) cs all = from_first-cons b (bs ++ cs) ∙ cond-false (p b) _ _ all.0 ∙ from_through bs cs all.1

  pub from_none : (bs cs : List ℕ) → 0 < length bs → AllByRecursion (λ b. p b ≡ true) bs → from_first p (bs ++ cs) ≡ bs ++ cs
  from_none [] cs some all = absurd (omega arith)
  from_none (b ∷ bs) cs some all = from_first-cons b (bs ++ cs) ∙ cond-true (p b) _ _ all.0

-- In lines that rise, the first that fails has the lowest number of those that fail. Assumes nothing.
use Rattle.std.proofs.Common.{◌≡◌, ℕ, ◌<◌, Bool, true, List, [], ◌∷◌, Some, None, Option, IsSome, refl, inl, inr, arith}
use Rattle.std.proofs.ByRecursion.{All-weaker}
use Rattle.std.proofs.lemmas.Bool.{ltb-true, and_parts, cond_both}
use Rattle.std.specs.List.{AllByRecursion}
use Rattle.table.specs.Failing.{first_failing, FirstToFail}
use Rattle.table.specs.Lines.{leads, climbing}
use Rattle.table.specs.declared.line.Line.{Line}

-- every line of a list that rises from n on has a higher number
pub all_above : (n : ℕ) (ls : List Line) → leads n ls ≡ true → climbing ls ≡ true → AllByRecursion (λ l. n < l.number) ls
all_above n [] h c = tt
all_above n (l ∷ ls) h c =
    let p = and_parts (leads l.number ls) (climbing ls) c in
    let lt = ltb-true n l.number h in
    (lt, All-weaker _ _ (λ k q. omega arith) ls (all_above l.number ls p.0 p.1))

-- one more line in front, which passes
passed_over : (test : Line → Bool) (l : Line) (ls : List Line) (o : Option ℕ) → test l ≡ true → FirstToFail test ls o → FirstToFail test (l ∷ ls) o
passed_over test l ls None e f = (e, f)
passed_over test l ls (Some n) e f = record { fails = inr f.fails; lower = (λ _. e, f.lower) }

pub first_to_fail : (test : Line → Bool) (ls : List Line) → climbing ls ≡ true → FirstToFail test ls (first_failing test ls)
first_to_fail test [] c = tt
first_to_fail test (l ∷ ls) c =
    let p = and_parts (leads l.number ls) (climbing ls) c in
    cond_both (test l) _ _ (λ o. FirstToFail test (l ∷ ls) o)
    (λ e. passed_over test l ls _ e (first_to_fail test ls p.1))
    (λ e.
    record {
      fails = inl (refl, e);
      lower = (λ k. absurd (omega arith), All-weaker _ _ (λ d k q. absurd (omega arith)) ls (all_above l.number ls p.0 p.1));
    })

-- where not every line passes, one is named
pub some_fails : (test : Line → Bool) (ls : List Line) (o : Option ℕ) → FirstToFail test ls o → (AllByRecursion (λ l. test l ≡ true) ls → ⊥) → IsSome o
some_fails test ls None all not_all = absurd (not_all all)
some_fails test ls (Some n) f not_all = refl

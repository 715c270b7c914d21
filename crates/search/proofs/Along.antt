-- The least moment in a direction that every line of a list passes together with one partner. Assumes nothing.
use Rattle.std.proofs.Common.{ℕ, ◌+◌, ◌<◌, ◌≤◌, max, Bool, T, List, length, get_or, take, sym, subst, le_refl, arith, length-take-le, get_or-take, take-take}
use native.Mathlib.Nat.{le-max_left, le-max_right, max-le}
use Rattle.std.specs.List.{AllByRecursion}
use Rattle.std.proofs.ByRecursion.{All-get_or, All-more, All-take, All-weaker}
use Rattle.moments.specs.Meanings.{Meaning, Lawful}
use Rattle.moments.specs.Pairs.{crossing, moment_in, pair_along}
use Rattle.moments.specs.Partners.{Least}
use Rattle.moments.specs.declared.pair.Direction.{Direction}
use Rattle.moments.specs.declared.pair.Direction.TheVariants.{X, Y}
use Rattle.moments.specs.declared.pair.Pair.{Pair}
use Rattle.moments.proofs.Meanings.{passed_grows}
use Rattle.moments.proofs.Pairs.{both_ways, moment_along, moment_across}
use Rattle.table.specs.Failing.{passed_by}
use Rattle.table.specs.declared.line.Line.{Line}
use Rattle.search.specs.Best.{Safe}
use Rattle.search.specs.Steps.{Smallest}

-- what holds of one more element holds of those before it, and of that one
all_fewer : {X : Type 0} (P : X → Type 0) (xs : List X) (i : ℕ) → AllByRecursion P (take (i + 1) xs) → AllByRecursion P (take i xs)
all_fewer P xs i h = let le : i ≤ i + 1 = omega arith in rw take-take at (All-take P i (take (i + 1) xs) h)

all_last : {X : Type 0} (P : X → Type 0) (xs : List X) (i : ℕ) (d : X) → i < length xs → AllByRecursion P (take (i + 1) xs) → P (get_or xs i d)
all_last P xs i d inside h =
    let lt : i < i + 1 = omega arith in
    let more : i + 1 ≤ length xs = omega arith in
    let within : i < length (take (i + 1) xs) = rw length-take-le (omega arith) in
    rw get_or-take at (All-get_or P (take (i + 1) xs) i d within h)

-- z lies from low to ceiling, and each of the lines passes it
pub record Meets (p : Line → ℕ → Bool) (low ceiling : ℕ) (lines : List Line) (z : ℕ) : Type 0 where
  pub from : low ≤ z
  pub upto : z ≤ ceiling
  pub passed : AllByRecursion (λ l. T (p l z)) lines

-- before the first line only the bounds count
pub meets_none : (p : Line → ℕ → Bool) (low ceiling : ℕ) (lines : List Line) → low ≤ ceiling → Smallest (Meets p low ceiling (take 0 lines)) low
meets_none p low ceiling lines h = record { holds = record { from = le_refl low; upto = h; passed = tt }; least = λ z m. m.from }

module _ (p : Line → ℕ → Bool) (low ceiling : ℕ) (lines : List Line) (i : ℕ) (d : Line) (inside : i < length lines) where
  -- one more line, whose own least number is k, where what a line passes grows
  pub meets_more : (n k : ℕ) → ((l : Line) (a b : ℕ) → a ≤ b → b ≤ ceiling → T (p l a) → T (p l b))
      → Smallest (Meets p low ceiling (take i lines)) n → Least ceiling (p (get_or lines i d)) k
      → Smallest (Meets p low ceiling (take (i + 1) lines)) (max n k)
  meets_more n k grows known own =
      let up_n : n ≤ max n k = le-max_left n k in
      let up_k : k ≤ max n k = le-max_right n k in
      let upto : max n k ≤ ceiling = max-le known.holds.upto own.within in
      let before : AllByRecursion (λ x. T (p x (max n k))) (take i lines) =
      All-weaker (λ x. T (p x n)) (λ x. T (p x (max n k))) (λ x h. grows x n (max n k) up_n upto h) (take i lines) known.holds.passed in
      let new : T (p (get_or lines i d) (max n k)) = grows (get_or lines i d) k (max n k) up_k upto own.holds in
      let from : low ≤ n = known.holds.from in
      record {
        holds = record { from = omega arith; upto = upto; passed = All-more (λ x. T (p x (max n k))) lines i d inside before new };
        least = λ z w.
            max-le (known.least z (record { from = w.from; upto = w.upto; passed = all_fewer (λ x. T (p x z)) lines i w.passed }))
            (own.least z w.upto (all_last (λ x. T (p x z)) lines i d inside w.passed));
      }

  -- where one line passes no number, there is none that all pass
  pub meets_stop : ((z : ℕ) → z ≤ ceiling → T (p (get_or lines i d) z) → ⊥) → (z : ℕ) → Meets p low ceiling lines z → ⊥
  meets_stop never z m = never z m.upto (All-get_or (λ l. T (p l z)) lines i d inside m.passed)

-- what a line passes along a direction, with k across it
abbrev pub along : Meaning → Direction → ℕ → Line → ℕ → Bool
along m d k l z = passed_by m (pair_along d z k) l

pub along_grows : (m : Meaning) (d : Direction) (k : ℕ) → Lawful m → k ≤ m.ceiling
    → (l : Line) (a b : ℕ) → a ≤ b → b ≤ m.ceiling → T (along m d k l a) → T (along m d k l b)
along_grows m X k lawful high l a b le upto = passed_grows m lawful l.triad (pair_along X a k) (pair_along X b k) le (le_refl k) upto high
along_grows m Y k lawful high l a b le upto = passed_grows m lawful l.triad (pair_along Y a k) (pair_along Y b k) (le_refl k) le high upto

-- the safe pairs there
module _ (m : Meaning) (lines : List Line) (floor : Pair) (d : Direction) (k : ℕ) where
  pub safe_meets : (z : ℕ) → Safe m lines floor (pair_along d z k) → Meets (along m d k) (moment_in d floor) m.ceiling lines z
  safe_meets z s =
      let e = moment_along d z k in
      record { from = subst (λ (n : ℕ). moment_in d floor ≤ n) e (s.above d); upto = subst (λ (n : ℕ). n ≤ m.ceiling) e (s.below d); passed = s.passed }

  pub meets_safe : (z : ℕ) → moment_in (crossing d) floor ≤ k → k ≤ m.ceiling → Meets (along m d k) (moment_in d floor) m.ceiling lines z
      → Safe m lines floor (pair_along d z k)
  meets_safe z low high h =
      let e = sym (moment_along d z k) in
      let f = sym (moment_across d z k) in
      record {
        above = both_ways (λ c. moment_in c floor ≤ moment_in c (pair_along d z k)) d
            (subst (λ (n : ℕ). moment_in d floor ≤ n) e h.from) (subst (λ (n : ℕ). moment_in (crossing d) floor ≤ n) f low);
        below = both_ways (λ c. moment_in c (pair_along d z k) ≤ m.ceiling) d
            (subst (λ (n : ℕ). n ≤ m.ceiling) e h.upto) (subst (λ (n : ℕ). n ≤ m.ceiling) f high);
        passed = h.passed;
      }

  -- the least number that all lines pass makes the least safe pair
  pub least_along : (z : ℕ) → moment_in (crossing d) floor ≤ k → k ≤ m.ceiling
      → Smallest (Meets (along m d k) (moment_in d floor) m.ceiling lines) z → Smallest (λ y. Safe m lines floor (pair_along d y k)) z
  least_along z low high s = record { holds = meets_safe z low high s.holds; least = λ y h. s.least y (safe_meets y h) }

-- What the steps of the search for the best pair promise. Assumes nothing.
use Rattle.std.specs.Prelude.{◌≡◌, ℕ, ◌<◌, ◌≤◌, Bool, T, Some, None, Option}
use Rattle.moments.specs.declared.pair.Pair.{Pair}

-- y is the least number of which P holds
pub record Smallest (P : ℕ → Type 0) (y : ℕ) : Type 0 where
  pub holds : P y
  pub least : (z : ℕ) → P z → y ≤ z

-- the least number of which P holds, or none exactly where there is none
abbrev pub SmallestIfAny : (ℕ → Type 0) → Option ℕ → Type 0
SmallestIfAny P (Some y) = Smallest P y
SmallestIfAny P None = (z : ℕ) → P z → ⊥

-- p is one of the pairs S, in a column, and none of S in that column has a smaller my
pub record Lowest (S : Pair → Type 0) (column : ℕ) (p : Pair) : Type 0 where
  pub belongs : S p
  pub there : p.mx ≡ column
  pub least : (q : Pair) → S q → q.mx ≡ column → p.my ≤ q.my

-- such a pair, or none exactly where S has no pair in the column
abbrev pub LowestIfAny : (Pair → Type 0) → ℕ → Option Pair → Type 0
LowestIfAny S column (Some p) = Lowest S column p
LowestIfAny S column None = (q : Pair) → S q → q.mx ≡ column → ⊥

-- one of the pairs S, or none exactly where S has no pair
abbrev pub SomeOfThem : (Pair → Type 0) → Option Pair → Type 0
SomeOfThem S (Some p) = S p
SomeOfThem S None = (q : Pair) → S q → ⊥

-- from a column on no pair with a larger my than h is preferred to `best`; none where no pair at all is
abbrev pub PreferredUpTo : (Pair → Pair → Bool) → Pair → ℕ → Option ℕ → Type 0
PreferredUpTo ahead best from (Some h) = (q : Pair) → from ≤ q.mx → T (ahead q best) → q.my ≤ h
PreferredUpTo ahead best from None = (q : Pair) → from ≤ q.mx → T (ahead q best) → ⊥

-- a column at or after `from`, such that no pair of S before it, from `from` on, is preferred to `best`
pub record NextColumn (ahead : Pair → Pair → Bool) (S : Pair → Type 0) (best : Pair) (ceiling from column : ℕ) : Type 0 where
  pub onward : from ≤ column
  pub within : column ≤ ceiling
  pub skipped : (q : Pair) → S q → from ≤ q.mx → q.mx < column → T (ahead q best) → ⊥

-- such a column, or none only where no pair of S from there on is preferred to `best`
abbrev pub NextIfAny : (Pair → Pair → Bool) → (Pair → Type 0) → Pair → ℕ → ℕ → Option ℕ → Type 0
NextIfAny ahead S best ceiling from (Some column) = NextColumn ahead S best ceiling from column
NextIfAny ahead S best ceiling from None = (q : Pair) → S q → from ≤ q.mx → T (ahead q best) → ⊥

-- a pair of S that comes no later than `best`, nor later than any pair of S in the column
pub record Improved (ahead : Pair → Pair → Bool) (S : Pair → Type 0) (best : Pair) (column : ℕ) (r : Pair) : Type 0 where
  pub belongs : S r
  pub no_later : (q : Pair) → T (ahead q r) → T (ahead q best)
  pub unbeaten : (q : Pair) → S q → q.mx ≡ column → T (ahead q r) → ⊥

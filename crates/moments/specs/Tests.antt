-- Lemmas on tests joined by `&&`. Assumes nothing.
use Rattle.std.specs.Prelude.{◌≡◌, ℕ, Bool, true, false, cond, ◌&&◌, T, Some, None, Decides, ◌≢◌, refl}
use Rattle.std.proofs.Common.{sym, subst, arith}

-- both parts of a test that passed, and back
pub both : (a b : Bool) → T (a && b) → T a × T b
both true true t = (tt, tt)
both true false t = absurd t
both false b t = absurd t

pub join : (a b : Bool) → T a → T b → T (a && b)
join true true s t = tt
join true false s t = t
join false b s t = s

-- tests that pass together are the same
pub same_test : (a b : Bool) → (T a → T b) → (T b → T a) → a ≡ b
same_test true true f g = refl
same_test true false f g = absurd (f tt)
same_test false true f g = absurd (g tt)
same_test false false f g = refl

-- a part that passed is of no account
pub and_yes : (a b : Bool) → T a → (a && b) ≡ b
and_yes true b t = refl
and_yes false b t = absurd t

pub and-true : (b : Bool) → (b && true) ≡ b
and-true true = refl
and-true false = refl

pub and_swap : (a b c : Bool) → (a && (b && c)) ≡ (b && (a && c))
and_swap true true c = refl
and_swap true false c = refl
and_swap false true c = refl
and_swap false false c = refl

pub and_comm : (a b : Bool) → (a && b) ≡ (b && a)
and_comm true b = sym (and-true b)
and_comm false true = refl
and_comm false false = refl

-- what comes out of a test's yes came by that yes
pub some_by_test : {A : Type 0} (b : Bool) (s t : A) → Some s ≡ cond b (Some t) None → (b ≡ true) × (s ≡ t)
some_by_test true s t e = (refl, cc)
some_by_test false s t e = let z : ◌≡◌ {A = ℕ} 0 1 = cc in absurd (omega arith)

-- nothing comes out only of a test's no
pub none_by_test : {A : Type 0} (b : Bool) (t : A) → None ≡ cond b (Some t) None → false ≡ b
none_by_test true t e = let z : ◌≡◌ {A = ℕ} 0 1 = cc in absurd (omega arith)
none_by_test false t e = refl

-- a test that passes exactly where P holds
pub decides_test : {P : Type 0} (b : Bool) → (T b → P) → (P → T b) → Decides b P
decides_test true f g = (λ _. f tt, λ _. refl)
decides_test false f g = (λ e. absurd (subst T (sym e) tt), λ p. absurd (g p))

-- a test that can't pass fails
pub not_so : (b : Bool) → (b ≢ true) → b ≡ false
not_so true f = absurd (f refl)
not_so false f = refl

-- A rule turned over keeps the laws and answers by the rule's own answers. Assumes nothing.
use Rattle.std.specs.Prelude.{◌≡◌, ℕ, Bool, false, cond, ◌&&◌, T, Some, None, Option, MatchOption, nat_le}
use Rattle.std.proofs.Common.{sym, subst, ap, ◌∙◌}
use Rattle.moments.specs.Meanings.{Meaning, Lawful, asked, passed, passed_at}
use Rattle.moments.specs.Triads.{in_limits, negated_triad}
use Rattle.moments.specs.Turning.{turned_over}
use Rattle.moments.specs.declared.pair.Pair.{Pair}
use Rattle.moments.specs.declared.triad.Triad.{Triad}
use Rattle.moments.specs.Tests.{some_by_test, none_by_test}
use Rattle.moments.specs.TriadsLemmas.{in_limits_negated}

-- the rule is asked about the negated triad exactly where the turned rule is asked about the triad
pub turned_asked : (m : Meaning) (t : Triad) (x y : ℕ) → asked m (negated_triad t) x y ≡ asked (turned_over m) t x y
turned_asked m t x y = ap (λ (b : Bool). b && (nat_le x m.ceiling && nat_le y m.ceiling)) (in_limits_negated t)

at_negated : (m : Meaning) (t : Triad) (x y : ℕ) → passed m (negated_triad t) x y ≡ passed (turned_over m) t x y
at_negated m t x y = ap (λ (b : Bool). b && m.passing (negated_triad t) x y) (turned_asked m t x y)

-- what the rule answers for the triad that `Triad::negated` gave
pub turned_passed_at : (m : Meaning) (s t : Triad) → Some s ≡ cond (in_limits t) (Some (negated_triad t)) None → (p : Pair) → passed_at m s p ≡ passed_at (turned_over m) t p
turned_passed_at m s t e p = ap (λ (u : Triad). passed_at m u p) (some_by_test (in_limits t) s (negated_triad t) e).1 ∙ at_negated m t p.mx p.my

-- what is answered by the rule for the negated triad, or no where there is none, is the turned rule's answer
pub turned_answer : (m : Meaning) (t : Triad) (p : Pair) (o : Option Triad) (r : Bool) → o ≡ cond (in_limits t) (Some (negated_triad t)) None → MatchOption o (r ≡ false) (λ s. r ≡ passed_at m s p) → r ≡ passed_at (turned_over m) t p
turned_answer m t p (Some s) r e h = h ∙ turned_passed_at m s t e p
turned_answer m t p None r e h = h ∙ ap (λ (b : Bool). (b && (nat_le p.mx m.ceiling && nat_le p.my m.ceiling)) && m.passing (negated_triad t) p.mx p.my) (none_by_test (in_limits t) (negated_triad t) e)

pub turned_lawful : (m : Meaning) → Lawful m → Lawful (turned_over m)
turned_lawful m l = record { bounded = l.bounded; growth = λ t x y u v i. l.growth (negated_triad t) x y u v (within t i); summit = λ t i. l.summit (negated_triad t) (within t i) }
  where
    within : (t : Triad) → T (in_limits t) → T (in_limits (negated_triad t))
    within t i = subst T (sym (in_limits_negated t)) i

use Rattle.std.proofs.Common.{◌≡◌, ℕ, Bool, true, false, length, take, drop, refl, ap, sym, ◌∙◌, rules, tests, of_calls}
use Rattle.std.proofs.lemmas.Fn.{says_at}
use Rattle.std.proofs.lemmas.Iterator.{YieldsList-from_slice, IsFirst-from_position, index_from_first}
use Rattle.std.specs.List.{position_or_len}
use Rattle.std.specs.Option.{unwrap_or}
use Rattle.script.specs.Runs.{Computes}
use Rattle.script.proofs.Cutting.{stops_here, stops_later}
use Rattle.script.proofs.runs.cut.Goals as goal

-- the cut is at the first byte that passes
end_is : (g : _) (c : goal.After-split_at g) (p : ℕ → Bool) → Computes g.P.Fn p c.args.stop → position_or_len p c.args.bytes.now ≡ unwrap_or c.position.result (length c.args.bytes.now)
end_is g c p test =
    index_from_first (position_or_len p) (λ b. true ≡ p b) (λ b. false ≡ p b) refl (stops_here p) (stops_later p) _ _
    (IsFirst-from_position _ _ _ _ _ c.position.ensures.ran (YieldsList-from_slice _ c.iter.ensures.rest)
    (λ x q k. test x.now true (says_at g.P.Fn {y = x} (search of_calls) refl))
    (λ x q k. (search (rules, tests), test x.now false (says_at g.P.Fn {y = x} (search of_calls) refl))))

pub returns : goal.returns
returns g c =
    record {
      before = λ p test. c.split_at.ensures.front ∙ ap (λ (n : ℕ). take n c.args.bytes.now) (c.unwrap_or-end.ensures ∙ sym (end_is g c p test));
      rest = λ p test. c.split_at.ensures.back ∙ ap (λ (n : ℕ). drop n c.args.bytes.now) (c.unwrap_or-end.ensures ∙ sym (end_is g c p test));
    }

use Rattle.std.proofs.Common.{◌≡◌, ℕ, true, List, Ok, sym, ap, ◌∙◌, subst, arith}
use Rattle.std.specs.List.{insert}
use Rattle.moments.specs.declared.triad.Triad.{Triad}
use Rattle.table.specs.Changes.{Admits}
use Rattle.table.specs.Lines.{climbing, all_sound, line_of, entered}
use Rattle.table.specs.declared.line.Line.{Line}
use Rattle.table.proofs.Dues.{line_fits}
use Rattle.table.proofs.Orders.{climbing-entered, sound-entered}
use Rattle.table.proofs.Places.{entered_inserted, fits_absent}
use Rattle.trial.specs.Entering.{InOrder}
use Rattle.trial.proofs.cases.Cases.enter.Goals as goal

-- a case that is admitted goes to its place, and the order and the ranges stay
module _ (n : ℕ) (t : Triad) (cs : List Line) (at place : ℕ) (order : InOrder cs) (admitted : Admits n t cs (Ok at)) (same : place ≡ at) where
  in_place : insert cs place (line_of n t) ≡ entered (line_of n t) cs
  in_place = ap (λ i. insert cs i (line_of n t)) same ∙ sym (entered_inserted (line_of n t) cs at admitted.1)

  in_order : InOrder (insert cs place (line_of n t))
  in_order =
      record {
        rising = ap climbing in_place ∙ climbing-entered (line_of n t) cs order.rising (fits_absent n cs at admitted.1);
        ranged = ap all_sound in_place ∙ sound-entered (line_of n t) cs (line_fits n t cs admitted.0) order.ranged;
      }

-- what was admitted to the slice, by a number that is equal, is admitted to the list
admitted_to : (m n : ℕ) (t : Triad) (at : ℕ) (xs cs : List Line) → xs ≡ cs → InOrder cs → (climbing xs ≡ true → Admits m t xs (Ok at)) → m ≡ n → Admits n t cs (Ok at)
admitted_to m n t at xs cs e order a same =
    subst (λ (i : ℕ). Admits i t cs (Ok at)) same (subst (λ (ls : List Line). Admits m t ls (Ok at)) e (a (ap climbing e ∙ order.rising)))

pub invariant_of-self-2 : goal.invariant_of-self-2
invariant_of-self-2 c =
    let cs = c.self.inside.list.items in
    let a = admitted_to _ c.args.number c.args.triad c.in_ok-at.at _ cs c.as_slice.ensures.value c.self.invariant c.in_ok-at.ensures (grind (arith)) in
    rw c.in_ok-insert.ensures.items (in_order c.args.number c.args.triad cs c.in_ok-at.at _ c.self.invariant a (omega arith))

pub returns : goal.returns
returns c =
    let cs = c.self.inside.list.items in
    let a = admitted_to _ c.args.number c.args.triad c.in_ok-at.at _ cs c.as_slice.ensures.value c.self.invariant c.in_ok-at.ensures (grind (arith)) in
    rw (← c.self.view_is) (a.0, c.in_ok-insert.ensures.items ∙ in_place c.args.number c.args.triad cs c.in_ok-at.at _ c.self.invariant a (omega arith))

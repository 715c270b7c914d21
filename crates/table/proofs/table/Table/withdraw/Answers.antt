use Rattle.std.proofs.Common.{◌≡◌, ℕ, true, List, Some, Ok, sym, ap, ◌∙◌, subst, arith}
use Rattle.std.proofs.lemmas.List.{get_or-take}
use Rattle.table.specs.declared.line.Line.{Line}
use Rattle.table.specs.declared.table.Table.{Table}
use Rattle.table.specs.Laws.{OneLess}
use Rattle.table.specs.Lines.{climbing}
use Rattle.table.specs.Places.{StandsAt, Placed}
use Rattle.table.specs.Standing.{standing}
use Rattle.table.proofs.Counted.{length-standing}
use Rattle.table.proofs.Dues.{withdraw_goes, goes_through}
use Rattle.table.proofs.Looked.{one_less}
use Rattle.table.proofs.Places.{leaves}
use Rattle.table.proofs.table.Table.withdraw.Goals as goal

-- a line that was looked up stands on the table
looked_up : (t : Table) (n at : ℕ) (ls : List Line) → ls ≡ standing t → (climbing ls ≡ true → Placed n ls (Ok at)) → StandsAt n (standing t) at
looked_up t n at ls e p = subst (λ (xs : List Line). StandsAt n xs at) e (p (ap climbing e ∙ t.rising)).found

pub returns-clause-answer : goal.returns-clause-answer
returns-clause-answer c =
    let t = c.args.self.now in
    let found = looked_up t c.args.number c.in-Ok.at _ c.standing.ensures.value c.in-Ok.ensures in
    (leaves c.args.number (standing t) c.in-Ok.at t.rising found).moments _
    ∙ ap (λ (l : Line). Some l.triad) (get_or-take t.count t.lines c.in-Ok.at _ (let w = found.within in let l = length-standing t in omega arith))

pub returns-clause-lines : goal.returns-clause-lines
returns-clause-lines c =
    let t = c.args.self.now in
    let found = looked_up t c.args.number c.in-Ok.at _ c.standing.ensures.value c.in-Ok.ensures in
    let n = c.args.number in
    let f = leaves n (standing t) c.in-Ok.at t.rising found in
    c.remove.ensures ∙ sym f.gone ∙ goes_through _ (standing t) _ (withdraw_goes n (standing t) (sym c.if-not-is_case_number.ensures) f.there)

pub returns-clause-law : goal.returns-clause-law
returns-clause-law c =
    let t = c.args.self.now in
    let found = looked_up t c.args.number c.in-Ok.at _ c.standing.ensures.value c.in-Ok.ensures in
    let n = c.args.number in
    let f = leaves n (standing t) c.in-Ok.at t.rising found in
    subst (λ (xs : List Line). OneLess n (standing t) xs) (sym (c.remove.ensures ∙ sym f.gone)) (one_less n (standing t))

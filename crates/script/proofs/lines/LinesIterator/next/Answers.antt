use Rattle.std.proofs.Common.{sym, ap, ◌∙◌, length, ◌∷◌, arith}
use Rattle.std.proofs.lemmas.Bool.{eqb-false}
use Rattle.script.specs.Lines.{lines_of}
use Rattle.script.proofs.Splitting.{lines_of-some}
use Rattle.script.proofs.lines.LinesIterator.next.Goals as goal

pub returns-clause-steps : goal.returns-clause-steps
returns-clause-steps c =
    sym c.self.view_is
    ∙ lines_of-some c.self.inside.rest.now (eqb-false _ _ (sym c.if-is_empty.ensures))
    ∙ (λ i. sym c.split_line.ensures.line i ∷ lines_of (sym c.split_line.ensures.rest i))

pub returns-clause-goes : goal.returns-clause-goes
returns-clause-goes c = record { on = λ _. (tt, tt, omega (arith, ap length (returns-clause-steps c))); keeps = tt; rests = λ _. tt }

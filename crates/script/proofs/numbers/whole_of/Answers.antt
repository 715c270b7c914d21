use Rattle.std.proofs.Common.{sym, ◌∙◌, ap, arith, rules}
use Rattle.std.proofs.lemmas.Bool.{eqb-false}
use Rattle.script.specs.Numbers.{read_on}
use Rattle.script.proofs.Digits.{whole_some, read_by_calls, read_within}
use Rattle.script.proofs.numbers.whole_of.Goals as goal

pub returns : goal.returns
returns c =
    let ran = c.try_fold.ensures.ran in
    let read = read_by_calls _ _ (λ f n x v h k. search rules) ran.0 _ ran.4.0 _ _ _ _ ran.1 ran.4.1 ran.4.2 ran.5 ran.6 ∙ ap (read_on 0) c.iter.ensures.rest in
    rw read (record { value = whole_some c.args.bytes.now (eqb-false _ _ (sym c.if-is_empty.ensures)); within = read_within c.args.bytes.now 0 (omega arith) })

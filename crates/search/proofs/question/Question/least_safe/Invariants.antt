use Rattle.std.proofs.Common.{take}
use Rattle.search.specs.Steps.{Smallest}
use Rattle.search.proofs.Along.{Meets, along}
use Rattle.search.proofs.question.Question.least_safe.Given as goal

-- `need` is the least that the lines so far pass
abbrev pub invariant-loop-line : goal.invariant-loop-line
invariant-loop-line g l =
    let m = g.R.YieldRule.meaning l.rule in
    Smallest (Meets (along m l.direction l.partner) l.low m.ceiling (take l.line-index l.lines)) l.need

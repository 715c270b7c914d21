use Rattle.std.proofs.Common.{◌≡◌, drop}
use Rattle.table.specs.Failing.{first_failing, passed_by}
use Rattle.table.proofs.lines.first_failing.Given as goal

-- what is left gives the answer
abbrev pub invariant-loop-line : goal.invariant-loop-line
invariant-loop-line g l =
    let test = passed_by (g.R.YieldRule.meaning l.rule) l.pair in
    first_failing test (drop l.line-index l.lines) ≡ first_failing test l.lines

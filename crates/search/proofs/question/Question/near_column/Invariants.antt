use Rattle.std.proofs.Common.{◌-◌, ◌≤◌}
use Rattle.search.proofs.question.Question.near_column.Given as goal

abbrev pub invariant-loop-low : goal.invariant-loop-low
invariant-loop-low g l = l.high ≤ (g.R.YieldRule.meaning l.self.rule.now).ceiling

abbrev pub decreases-loop-low : goal.decreases-loop-low
decreases-loop-low g l = l.high - l.low

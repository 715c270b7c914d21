use Rattle.std.proofs.Common.{◌+◌, ◌-◌}
use Rattle.search.specs.Questions.{SafeFor}
use Rattle.search.proofs.Ranked.{Unbeaten}
use Rattle.search.proofs.question.Question.walk.Given as goal

-- `best` is safe, and no safe pair in the columns before `from` is preferred to it
abbrev pub invariant-loop-column : goal.invariant-loop-column
invariant-loop-column g l =
    let S = SafeFor g.R.YieldRule.meaning l.self in
    S l.best × Unbeaten (g.K.Ranking.ahead l.ranking) S l.best l.from

abbrev pub decreases-loop-column : goal.decreases-loop-column
decreases-loop-column g l = (g.R.YieldRule.meaning l.self.rule.now).ceiling + 1 - l.from

use Rattle.search.specs.Questions.{SafeFor}
use Rattle.search.proofs.Ranked.{improved_new, improved_old}
use Rattle.search.proofs.question.Question.with_column.Goals as goal

pub returns-in-Some : goal.returns-in-Some
returns-in-Some g c =
    improved_new _ (g.met.K.Ranking.ranks c.args.ranking.now) (SafeFor g.R.YieldRule.meaning c.args.self.now) c.args.mx c.args.best c.in-Some.pair
    c.in-Some.ensures (rw (← c.if-prefers.ensures) tt)

pub returns-in_default : goal.returns-in_default
returns-in_default g c =
    improved_old _ (g.met.K.Ranking.ranks c.args.ranking.now) (SafeFor g.R.YieldRule.meaning c.args.self.now) c.args.mx c.args.best c.in-Some.pair
    c.in-Some.ensures c.requires (rw (← c.if-prefers.ensures) (λ h. h))

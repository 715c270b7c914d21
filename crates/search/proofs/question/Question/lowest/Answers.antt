use Rattle.search.specs.Questions.{SafeFor}
use Rattle.search.proofs.Lowest.{lowest_at, lowest_none}
use Rattle.search.proofs.question.Question.lowest.Goals as goal

pub returns-in_err-my : goal.returns-in_err-my
returns-in_err-my g c = rw c.from_residual.ensures (lowest_none (SafeFor g.R.YieldRule.meaning c.args.self.now) c.args.mx c.in_err-my.ensures)

pub returns : goal.returns
returns g c = lowest_at (SafeFor g.R.YieldRule.meaning c.args.self.now) c.args.mx c.in_ok-my.my c.in_ok-my.ensures

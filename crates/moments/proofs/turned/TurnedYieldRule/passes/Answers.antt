use Rattle.std.proofs.Common.{rules}
use Rattle.moments.specs.TurningLemmas.{turned_answer}
use Rattle.moments.proofs.turned.TurnedYieldRule.passes.Goals as goal

pub returns : goal.returns
returns g c = turned_answer (g.R.YieldRule.meaning c.args.self.now.rule) c.args.triad c.args.pair c.negated.result _ c.negated.ensures (search rules)

use Rattle.search.specs.Questions.{SafeFor}
use Rattle.search.proofs.Lowest.{some_at_last}
use Rattle.search.proofs.Skips.{safe_outward}
use Rattle.search.proofs.question.Question.seed.Goals as goal

pub returns-in-None : goal.returns-in-None
returns-in-None g c =
    let q = c.args.self.now in
    let m = g.R.YieldRule.meaning q.rule.now in
    let outward = safe_outward m q.lines.now q.floor (g.met.R.YieldRule.lawful q.rule.now) in
    some_at_last (SafeFor g.R.YieldRule.meaning q) c.ceiling.result (λ p s. rw c.ceiling.ensures (outward p s)) c.lowest-in-None.result c.lowest-in-None.ensures

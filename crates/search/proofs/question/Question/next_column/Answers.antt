use Rattle.std.proofs.Common.{arith}
use Rattle.moments.specs.declared.pair.Direction.TheVariants.{X, Y}
use Rattle.search.proofs.Skips.{skips_all, skips_to}
use Rattle.search.proofs.question.Question.next_column.Goals as goal

pub returns-then-ceiling-from : goal.returns-then-ceiling-from
returns-then-ceiling-from g c = λ q s on preferred. let high = s.below X in let e = c.ceiling-ceiling.ensures in absurd (omega arith)

pub highest_preferred-requires : goal.highest_preferred-requires
highest_preferred-requires g c =
    let bx = c.requires.below X in
    let by = c.requires.below Y in
    let b = (g.met.R.YieldRule.lawful c.args.self.now.rule.now).bounded in
    omega arith

pub returns-in_err-least_safe : goal.returns-in_err-least_safe
returns-in_err-least_safe g c =
    rw c.from_residual-in_err-least_safe.ensures
    (skips_all (g.R.YieldRule.meaning c.args.self.now.rule.now) c.args.self.now.lines.now c.args.self.now.floor (g.met.R.YieldRule.lawful c.args.self.now.rule.now)
    (g.K.Ranking.ahead c.args.ranking.now) c.args.best c.args.from c.in_ok-highest_preferred.field-0 c.min-row.result c.in_ok-highest_preferred.ensures (omega arith) c.in_err-least_safe.ensures)

pub returns : goal.returns
returns g c =
    rw c.max.ensures
    (skips_to (g.R.YieldRule.meaning c.args.self.now.rule.now) c.args.self.now.lines.now c.args.self.now.floor (g.met.R.YieldRule.lawful c.args.self.now.rule.now)
    (g.K.Ranking.ahead c.args.ranking.now) c.args.best c.args.from c.in_ok-highest_preferred.field-0 c.min-row.result c.in_ok-highest_preferred.ensures (omega arith)
    c.in_ok-least_safe.field-0 (omega arith) c.in_ok-least_safe.ensures)

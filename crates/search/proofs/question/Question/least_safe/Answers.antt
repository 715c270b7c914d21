use Rattle.std.proofs.Common.{ℕ, ◌≤◌, List, subst, arith}
use Rattle.std.proofs.lemmas.List.{take_all}
use Rattle.moments.specs.Pairs.{crossing, moment_in}
use Rattle.moments.specs.declared.pair.Direction.{Direction}
use Rattle.table.specs.declared.line.Line.{Line}
use Rattle.search.specs.Steps.{Smallest}
use Rattle.search.proofs.Along.{Meets, along, meets_more, along_grows, least_along}
use Rattle.search.proofs.question.Question.least_safe.Goals as goal

pub loop-line-preserved : goal.loop-line-preserved
loop-line-preserved g c =
    let m = g.R.YieldRule.meaning c.args.self.now.rule.now in
    let high : c.args.partner ≤ m.ceiling = omega arith in
    rw c.max-need.ensures
    (meets_more (along m c.args.direction c.args.partner) _ m.ceiling c.args.self.now.lines.now c.loop-line.line-index _ c.loop-line-test.true _ _
    (along_grows m c.args.direction c.args.partner (g.met.R.YieldRule.lawful c.args.self.now.rule.now) high) c.loop-line.invariant c.in_ok-least_partner.ensures)

pub returns : goal.returns
returns g c =
    let m = g.R.YieldRule.meaning c.args.self.now.rule.now in
    let d = c.args.direction in
    let k = c.args.partner in
    let across : moment_in (crossing d) c.args.self.now.floor ≤ k =
    subst (λ (e : Direction). moment_in e c.args.self.now.floor ≤ k) c.across.ensures (let e = c.moment.ensures in omega arith) in
    let all : Smallest (Meets (along m d k) c.moment-low.result m.ceiling c.args.self.now.lines.now) c.loop-line.need =
    subst (λ (ls : List Line). Smallest (Meets (along m d k) c.moment-low.result m.ceiling ls) c.loop-line.need) (take_all _ c.args.self.now.lines.now c.loop-line-test.false) c.loop-line.invariant in
    least_along m c.args.self.now.lines.now c.args.self.now.floor d k c.loop-line.need across (omega arith)
    (subst (λ (low : ℕ). Smallest (Meets (along m d k) low m.ceiling c.args.self.now.lines.now) c.loop-line.need) c.moment-low.ensures all)

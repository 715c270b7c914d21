use Rattle.std.proofs.Common.{◌≡◌, Bool, ◌&&◌, sym, ap, ◌∙◌}
use Rattle.moments.specs.Meanings.{asked}
use Rattle.moments.specs.Tests.{some_by_test}
use Rattle.explained.specs.Holding.{all_hold}
use Rattle.trial.proofs.tried.try_pair.Goals as goal

pub returns : goal.returns
returns g c =
    let rule = c.args.rule.now in
    let m = g.R.YieldRule.meaning rule in
    let t = c.args.triad in
    let x = c.args.pair.mx in
    let y = c.args.pair.my in
    let some = some_by_test (asked m t x y) c.in_ok-sides.sides (g.R.Explained.inequalities rule t x y) c.in_ok-sides.ensures in
    let passes : c.passes.result ≡ m.passing t x y = c.passes.ensures ∙ ap (λ (b : Bool). b && m.passing t x y) some.0 in
    record {
      within = some.0;
      passes = passes;
      sides = some.1;
      decides = passes ∙ sym (g.met.R.Explained.decides rule t x y) ∙ sym (ap all_hold some.1);
      my_partner = c.least_my.ensures;
      mx_partner = c.least_mx.ensures;
    }

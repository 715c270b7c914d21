use Rattle.std.proofs.Common.{◌≡◌, ℕ, ◌<◌, Bool, true, false, List, length, get_or, drop, Some, None, Option, sym, ◌∙◌, subst, arith}
use Rattle.std.proofs.lemmas.Bool.{cond-false}
use Rattle.std.proofs.lemmas.Grind.{common_steps}
use Rattle.std.proofs.lemmas.List.{at_drop_more}
use Rattle.table.specs.declared.line.Line.{Line}
use Rattle.table.specs.Failing.{first_failing, passed_by, FirstToFail, LowestFailing}
use Rattle.table.specs.Lines.{climbing}
use Rattle.table.proofs.Lowest.{first_to_fail}
use Rattle.table.proofs.lines.first_failing.Goals as goal

module _ (test : Line → Bool) (ls : List Line) (rising : climbing ls ≡ true) where
  -- the first that fails is the lowest that fails
  lowest : (o : Option ℕ) → o ≡ first_failing test ls → FirstToFail test ls o
  lowest o e = subst (λ (r : Option ℕ). FirstToFail test ls r) (sym e) (first_to_fail test ls rising)

  -- so it is the line at hand where that fails and all before it pass
  lowest_at : (i : ℕ) (d : Line) → i < length ls → test (get_or ls i d) ≡ false → first_failing test (drop i ls) ≡ first_failing test ls → LowestFailing test ls (get_or ls i d).number
  lowest_at i d h fails left = lowest (Some (get_or ls i d).number) (sym (at_drop_more (first_failing test) ls i d h ∙ cond-false _ _ _ fails) ∙ left)

pub returns-then-not-passes-clause-lowest : goal.returns-then-not-passes-clause-lowest
returns-then-not-passes-clause-lowest g c rising =
    lowest_at (passed_by (g.R.YieldRule.meaning c.args.rule.now) c.args.pair) c.args.lines.now rising _ _ c.loop-line-test.true
    (sym c.if-not-passes.ensures) c.loop-line.invariant

pub returns-clause-lowest : goal.returns-clause-lowest
returns-clause-lowest g c rising =
    lowest (passed_by (g.R.YieldRule.meaning c.args.rule.now) c.args.pair) c.args.lines.now rising None (grind (arith, common_steps))

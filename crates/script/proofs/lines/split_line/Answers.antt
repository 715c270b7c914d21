use Rattle.std.proofs.Common.{length, ap, arith, rules}
use Rattle.std.proofs.lemmas.List.{take_rest, length-drop}
use Rattle.std.specs.List.{position_or_len}
use Rattle.script.specs.Runs.{is_line_feed}
use Rattle.script.proofs.lines.split_line.Goals as goal

pub returns-else-is_empty-clause-shorter : goal.returns-else-is_empty-clause-shorter
returns-else-is_empty-clause-shorter c = λ some.
    let rest = c.cut.result.1.now in
    omega (arith, ap length (take_rest rest 1), length-drop 1 rest, ap length (c.cut.ensures.rest is_line_feed (search rules)), length-drop (position_or_len is_line_feed c.args.script.now) c.args.script.now)

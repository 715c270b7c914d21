use Rattle.std.proofs.Common.{rules}
use Rattle.table.specs.Changes.{entry_rows, room_rows}
use Rattle.table.proofs.Dues.{due_first}
use Rattle.table.proofs.table.Table.admit.Goals as goal

pub returns-in_err-at-clause-refusal : goal.returns-in_err-at-clause-refusal
returns-in_err-at-clause-refusal c =
    let ls = c.standing.result.now in
    let due = due_first (entry_rows c.args.number c.args.triad ls) (room_rows ls) _ (c.in_err-at.ensures c.standing.ensures.rising) in
    search rules

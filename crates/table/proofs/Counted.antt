-- How many lines stand in a table. Assumes nothing.
use Rattle.std.proofs.Common.{◌≡◌, length, arith}
use Rattle.std.proofs.lemmas.List.{length-take-le}
use Rattle.table.specs.declared.table.Table.{Table}
use Rattle.table.specs.Standing.{standing}

pub length-standing : (t : Table) → length (standing t) ≡ t.count
length-standing t = let s = t.sized in let f = t.few in length-take-le t.count t.lines (omega arith)

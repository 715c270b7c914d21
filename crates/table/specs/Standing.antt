-- What stands in a table. Assumes nothing.
use Rattle.std.specs.Prelude.{List, take}
use Rattle.table.specs.declared.line.Line.{Line}
use Rattle.table.specs.declared.table.Table.{Table}

-- the lines that stand, in their order
abbrev pub standing : Table → List Line
standing t = take t.count t.lines

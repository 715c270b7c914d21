use Rattle.std.proofs.Common.{List, sym, subst}
use Rattle.table.specs.declared.line.Line.{Line}
use Rattle.table.specs.Laws.{OneMore}
use Rattle.table.specs.Standing.{standing}
use Rattle.table.proofs.Looked.{one_more}
use Rattle.table.proofs.Places.{fits_absent}
use Rattle.table.proofs.table.Table.enter.Goals as goal

pub returns-clause-law : goal.returns-clause-law
returns-clause-law c =
    let n = c.args.number in
    let t = c.args.triad in
    let ls = standing c.args.self.now in
    subst (λ (xs : List Line). OneMore n t ls xs) (sym c.insert.ensures) (one_more n t ls (fits_absent n ls c.in_ok-at.at c.in_ok-at.ensures.place))

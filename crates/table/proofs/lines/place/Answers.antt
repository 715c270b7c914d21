use Rattle.std.proofs.Common.{rules}
use Rattle.std.proofs.lemmas.List.Sorted.{answers_always}
use Rattle.table.proofs.Places.{searched}
use Rattle.table.proofs.lines.place.Goals as goal

-- the closure gives a line's number
pub returns : goal.returns
returns c rising =
    let facts = c.binary_search_by_key.ensures in
    searched c.args.lines.now rising c.args.number _ facts.bound (facts.position (λ l. l.number) (answers_always _ _ _ (λ f a r g called. search rules)))

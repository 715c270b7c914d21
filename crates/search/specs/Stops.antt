-- What stops a moment of a pair. Assumes nothing.
use Rattle.std.specs.Prelude.{◌≡◌, List, ◌≢◌}
use Rattle.moments.specs.Meanings.{Meaning}
use Rattle.moments.specs.Pairs.{moment_in, lowered}
use Rattle.moments.specs.declared.pair.Direction.{Direction}
use Rattle.moments.specs.declared.pair.Pair.{Pair}
use Rattle.table.specs.Failing.{passed_by, LowestFailing}
use Rattle.table.specs.declared.line.Line.{Line}
use Rattle.search.specs.declared.stop.Stop.{Stop}
use Rattle.search.specs.declared.stop.Stop.TheVariants.{Floor, Case}

-- the stop of the moment in a direction: its floor where it equals that,
-- otherwise the lowest case number that does not pass the pair with that moment one unit less
abbrev pub Stopped : Meaning → List Line → Pair → Pair → Direction → Stop → Type 0
Stopped m lines floor p d Floor = moment_in d p ≡ moment_in d floor
Stopped m lines floor p d (Case n) = (moment_in d p ≢ moment_in d floor) × LowestFailing (passed_by m (lowered d p)) lines n

-- What is written for faces, directions, pairs, triads and refusals. Assumes nothing.
use Rattle.std.specs.Prelude.{ℕ, List, ◌++◌, codes, decimal}
use Rattle.std.specs.Fmt.{signed_decimal}
use Rattle.moments.specs.Refusals.{number_of}
use Rattle.moments.specs.declared.pair.Direction.{Direction}
use Rattle.moments.specs.declared.pair.Direction.TheVariants.{X, Y}
use Rattle.moments.specs.declared.pair.Face.{Face}
use Rattle.moments.specs.declared.pair.Face.TheVariants.{Bottom, Top}
use Rattle.moments.specs.declared.pair.Pair.{Pair}
use Rattle.moments.specs.declared.refusal.Refusal.{Refusal}
use Rattle.moments.specs.declared.refusal.Refusal.TheVariants.{InputEnds, BadNumber, UnknownKind, NoPoint, PointNumber, AfterEnd, FileTooLong, CaseNumber, Moment, Standing, NotStanding, Full, FloorLimit, FloorAboveCeiling, TrialAboveCeiling, ShortLine}
use Rattle.moments.specs.declared.triad.Triad.{Triad}

-- a face by its name
abbrev pub face_text : Face → List ℕ
face_text Bottom = codes "bottom"
face_text Top = codes "top"

-- a direction by the yield moment in it
abbrev pub direction_text : Direction → List ℕ
direction_text X = codes "mx"
direction_text Y = codes "my"

-- both yield moments
abbrev pub pair_text : Pair → List ℕ
pair_text p = codes "mx " ++ (decimal p.mx ++ (codes ", my " ++ decimal p.my))

-- the three moments of a load case
abbrev pub triad_text : Triad → List ℕ
triad_text t = codes "(Mx " ++ (signed_decimal t.mx ++ (codes ", My " ++ (signed_decimal t.my ++ (codes ", Mxy " ++ (signed_decimal t.mxy ++ codes ")")))))

-- what is wrong where a call is refused
abbrev pub why_refused : Refusal → List ℕ
why_refused InputEnds = codes "the input ends too early"
why_refused BadNumber = codes "a stored number is too long, or not in its shortest form"
why_refused UnknownKind = codes "the kind of an entry is unknown"
why_refused NoPoint = codes "an entry comes before any point"
why_refused PointNumber = codes "the point number is out of range or does not rise"
why_refused AfterEnd = codes "a byte follows the end"
why_refused FileTooLong = codes "the file is too long"
why_refused CaseNumber = codes "its case number is out of range"
why_refused Moment = codes "a moment is outside its limits"
why_refused Standing = codes "a case of this number stands already"
why_refused NotStanding = codes "no case of this number stands"
why_refused Full = codes "as many cases stand as can"
why_refused FloorLimit = codes "a floor is above its limit"
why_refused FloorAboveCeiling = codes "a floor lies above the ceiling"
why_refused TrialAboveCeiling = codes "a trial moment lies above the ceiling"
why_refused ShortLine = codes "the line buffer is too short"

-- a refusal by its number and what is wrong
abbrev pub refusal_text : Refusal → List ℕ
refusal_text e = codes "refused (" ++ (decimal (number_of e) ++ (codes "): " ++ why_refused e))

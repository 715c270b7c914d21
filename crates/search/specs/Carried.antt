-- What is answered for a face. Assumes nothing.
use Rattle.std.specs.Prelude.{◌≡◌, ℕ, Bool, ◌↔◌, List, [], ◌∷◌, Some, None, Ok, Err, Option, Result}
use Rattle.moments.specs.Meanings.{Meaning, above_ceiling}
use Rattle.moments.specs.Refusals.{first_due, number_of}
use Rattle.moments.specs.declared.pair.Direction.TheVariants.{X, Y}
use Rattle.moments.specs.declared.pair.Pair.{Pair}
use Rattle.moments.specs.declared.refusal.Refusal.{Refusal}
use Rattle.moments.specs.declared.refusal.Refusal.TheVariants.{FloorAboveCeiling}
use Rattle.table.specs.declared.line.Line.{Line}
use Rattle.search.specs.declared.stop.Carried.{Carried}
use Rattle.search.specs.Best.{Safe, Best}
use Rattle.search.specs.Stops.{Stopped}

-- a pair that is equal to a rival exactly where the rival is best, and the stop of each of its moments
pub record Carries (ahead : Pair → Pair → Bool) (m : Meaning) (lines : List Line) (floor : Pair) (c : Carried) : Type 0 where
  pub best : (rival : Pair) → (c.pair ≡ rival) ↔ Best ahead (Safe m lines floor) rival
  pub mx_stop : Stopped m lines floor c.pair X c.mx_stop
  pub my_stop : Stopped m lines floor c.pair Y c.my_stop

-- the refusal due: a floor is above the ceiling
abbrev pub floor_due : Meaning → Pair → Option ℕ
floor_due m floor = first_due ((above_ceiling m floor, FloorAboveCeiling) ∷ [])

-- the refusal that is due, or else the best pair with its stops
abbrev pub Answered : (Pair → Pair → Bool) → Meaning → List Line → Pair → Result Carried Refusal → Type 0
Answered ahead m lines floor (Ok c) = (floor_due m floor ≡ None) × Carries ahead m lines floor c
Answered ahead m lines floor (Err e) = floor_due m floor ≡ Some (number_of e)

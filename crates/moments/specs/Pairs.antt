-- Pairs by their two bar directions, so that one definition serves both. Assumes nothing.
use Rattle.std.specs.Prelude.{ℕ, Bool, ◌&&◌, ◌+◌, ◌-◌, nat_le}
use Rattle.moments.specs.declared.pair.Direction.{Direction}
use Rattle.moments.specs.declared.pair.Direction.TheVariants.{X, Y}
use Rattle.moments.specs.declared.pair.Pair.{Pair}

-- the direction across one
abbrev pub crossing : Direction → Direction
crossing X = Y
crossing Y = X

-- the moment of a pair in a direction
abbrev pub moment_in : Direction → Pair → ℕ
moment_in X p = p.mx
moment_in Y p = p.my

-- the pair with one moment in a direction and another, its partner, across it
abbrev pub pair_along : Direction → ℕ → ℕ → Pair
pair_along X moment partner = record { mx = moment; my = partner }
pair_along Y moment partner = record { mx = partner; my = moment }

-- both moments together: what a pair costs
abbrev pub sum : Pair → ℕ
sum p = p.mx + p.my

-- the pair with the moment in a direction one unit less
abbrev pub lowered : Direction → Pair → Pair
lowered d p = pair_along d (moment_in d p - 1) (moment_in (crossing d) p)

-- both moments are at most a ceiling
abbrev pub within : ℕ → Pair → Bool
within ceiling p = nat_le p.mx ceiling && nat_le p.my ceiling

-- What one load case says to a trial pair. Assumes nothing.
use Rattle.std.specs.Prelude.{◌≡◌, ℕ, true, false, Some, None, Option}
use Rattle.moments.specs.Meanings.{Meaning, asked}
use Rattle.moments.specs.Partners.{LeastMy, LeastMx}
use Rattle.moments.specs.declared.pair.Pair.{Pair}
use Rattle.moments.specs.declared.triad.Triad.{Triad}
use Rattle.explained.specs.Holding.{all_hold}
use Rattle.explained.specs.declared.sides.Sides.{Sides}
use Rattle.trial.specs.declared.tried.Trial.{Trial}

-- by the rule's meaning and its inequalities: both say the same of passing
pub record Told (m : Meaning) (sides_of : Triad → ℕ → ℕ → Sides) (t : Triad) (p : Pair) (r : Trial) : Type 0 where
  pub within : asked m t p.mx p.my ≡ true
  pub passes : r.passed ≡ m.passing t p.mx p.my
  pub sides : r.sides ≡ sides_of t p.mx p.my
  pub decides : r.passed ≡ all_hold r.sides
  pub my_partner : LeastMy m t p.mx r.least_my
  pub mx_partner : LeastMx m t p.my r.least_mx

-- nothing is said exactly where the rule is not asked
abbrev pub Tried : Meaning → (Triad → ℕ → ℕ → Sides) → Triad → Pair → Option Trial → Type 0
Tried m s t p (Some r) = Told m s t p r
Tried m s t p None = asked m t p.mx p.my ≡ false

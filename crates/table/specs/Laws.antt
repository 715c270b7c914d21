-- What entering and withdrawing a case mean, case by case. Assumes nothing.
use Rattle.std.specs.Prelude.{◌≡◌, ℕ, ◌⊎◌, ◌↔◌, List, Some, ◌≢◌}
use Rattle.moments.specs.declared.triad.Triad.{Triad}
use Rattle.table.specs.declared.line.Line.{Line}
use Rattle.table.specs.Lines.{triad_under}

-- a case of that number stands, with those moments
abbrev pub Stands : List Line → ℕ → Triad → Type 0
Stands ls n t = triad_under n ls ≡ Some t

-- a case stands exactly if it stood before or is the one entered
abbrev pub OneMore : ℕ → Triad → List Line → List Line → Type 0
OneMore n t before after = (k : ℕ) (u : Triad) → Stands after k u ↔ (Stands before k u ⊎ ((k ≡ n) × (u ≡ t)))

-- a case stands exactly if it stood before and has another number than the one withdrawn
abbrev pub OneLess : ℕ → List Line → List Line → Type 0
OneLess n before after = (k : ℕ) (u : Triad) → Stands after k u ↔ (Stands before k u × (k ≢ n))

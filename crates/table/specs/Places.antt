-- Where a line stands in lines that rise, or would stand. Assumes nothing.
use Rattle.std.specs.Prelude.{◌≡◌, ℕ, ◌<◌, ◌≤◌, List, length, get_or, Result, is_ok, IfOk, IfErr}
use Rattle.std.specs.List.{AllWithin}
use Rattle.table.specs.declared.line.Line.{Line}
use Rattle.table.specs.Lines.{stands}

-- the line at a place has the number n
pub record StandsAt (n : ℕ) (ls : List Line) (at : ℕ) : Type 0 where
  pub within : at < length ls
  pub numbered : (d : Line) → (get_or ls at d).number ≡ n

-- every line before a place has a number below n, and every line from there on one above it
pub record FitsAt (n : ℕ) (ls : List Line) (at : ℕ) : Type 0 where
  pub within : at ≤ length ls
  pub lower : AllWithin (λ l. l.number < n) ls 0 at
  pub higher : AllWithin (λ l. n < l.number) ls at (length ls)

-- where the line of the number n stands, or where it fits
pub record Placed (n : ℕ) (ls : List Line) (r : Result ℕ ℕ) : Type 0 where
  pub found : IfOk r (StandsAt n ls)
  pub absent : IfErr r (FitsAt n ls)
  pub stands : is_ok r ≡ stands n ls

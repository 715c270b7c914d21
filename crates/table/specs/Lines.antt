-- Lists of load cases, as a table holds them. Assumes nothing.
use Rattle.std.specs.Prelude.{ℕ, suc, Bool, true, cond, not, ◌&&◌, List, [], ◌∷◌, Some, None, Option, ◌==◌, nat_le, nat_lt}
use Rattle.std.specs.List.{list_all, list_any, filter}
use Rattle.moments.specs.Limits.{last_case}
use Rattle.moments.specs.Triads.{in_limits}
use Rattle.moments.specs.declared.triad.Triad.{Triad}
use Rattle.table.specs.declared.line.Line.{Line}

-- case numbers go from 1 to the last
abbrev pub is_number : ℕ → Bool
is_number n = nat_le 1 n && nat_le n last_case

-- a line by its number and its moments
abbrev pub line_of : ℕ → Triad → Line
line_of n t = record { number = n; triad = t }

-- a line with its number and its moments within their limits
abbrev pub sound : Line → Bool
sound l = is_number l.number && in_limits l.triad

-- every line is so
abbrev pub all_sound : List Line → Bool
all_sound = list_all sound

-- n is below the number of the first line, if there is one
abbrev pub leads : ℕ → List Line → Bool
leads n [] = true
leads n (l ∷ ls) = nat_lt n l.number

-- the case numbers rise strictly
abbrev pub climbing : List Line → Bool
climbing [] = true
climbing (l ∷ ls) = leads l.number ls && climbing ls

-- a line of that number is there
abbrev pub stands : ℕ → List Line → Bool
stands n = list_any (λ l. l.number == n)

-- the moments under a number: those of its line, or none where no line of that number is there
abbrev pub triad_under : ℕ → List Line → Option Triad
triad_under n [] = None
triad_under n (l ∷ ls) = cond (l.number == n) (Some l.triad) (triad_under n ls)

-- the lines with one more, before the first that has not a lower number
abbrev pub entered : Line → List Line → List Line
entered k [] = k ∷ []
entered k (l ∷ ls) = cond (nat_lt l.number k.number) (l ∷ entered k ls) (k ∷ (l ∷ ls))

-- the lines without that of the number n
abbrev pub withdrawn : ℕ → List Line → List Line
withdrawn n = filter (λ l. not (l.number == n))

-- how many lines, from the first on, have a number below n; only proofs speak of it
abbrev pub rank : ℕ → List Line → ℕ
rank n [] = 0
rank n (l ∷ ls) = cond (nat_lt l.number n) (suc (rank n ls)) 0

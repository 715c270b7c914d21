-- The numbers of a script. Assumes nothing.
use Rattle.std.specs.Prelude.{ℕ, ◌+◌, ◌-◌, ◌*◌, cond, List, [], ◌∷◌, drop, ℤ, pos, neg_ℤ, Some, None, Option, ◌==◌, nat_le, slice_index}
use Rattle.std.specs.Option.{option_map, option_and_then}
use Rattle.std.specs.Char.{is_ascii_digit}

-- the largest whole number of a script
abbrev pub largest : ℕ
largest = 999999999

-- a number that is not too large
abbrev pub up_to_largest : ℕ → Option ℕ
up_to_largest n = cond (nat_le n largest) (Some n) None

-- a number with one decimal digit more, 48 being `0`
abbrev pub with_digit : ℕ → ℕ → Option ℕ
with_digit n b = cond (is_ascii_digit b) (up_to_largest (n * 10 + (b - 48))) None

-- a number with further digits; none where a byte is no digit or the number passes the largest
abbrev pub read_on : ℕ → List ℕ → Option ℕ
read_on n [] = Some n
read_on n (b ∷ bs) = option_and_then (λ m. read_on m bs) (with_digit n b)

-- a whole number: one or more digits, which zeros may begin
abbrev pub whole_of : List ℕ → Option ℕ
whole_of [] = None
whole_of (b ∷ bs) = read_on 0 (b ∷ bs)

-- a signed number: a whole number, or a `-`, which is 45, and a whole number, so that `-0` is 0; no `+`
abbrev pub signed_of : List ℕ → Option ℤ
signed_of bs = cond (slice_index bs 0 == 45) (option_map (λ n. neg_ℤ (pos n)) (whole_of (drop 1 bs))) (option_map pos (whole_of bs))

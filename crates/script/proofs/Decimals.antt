-- A number that is written down is read. Assumes nothing.
use Rattle.std.proofs.Common.{◌≡◌, ℕ, suc, ◌+◌, ◌-◌, ◌*◌, ◌/◌, ◌%◌, ◌^◌, ◌<◌, ◌≤◌, false, eqb, leb, List, [], ◌∷◌, ◌++◌, get_or, ℤ, pos, negsuc, neg_ℤ, nat_abs, Some, None, decimal, sym, refl, ap, ◌∙◌, arith}
use Rattle.std.specs.Option.{option_map, option_and_then}
use Rattle.std.specs.Char.{is_ascii_digit, IsAsciiDigit}
use Rattle.std.specs.Fmt.{signed_decimal}
use Rattle.std.specs.List.{AllByRecursion}
use Rattle.std.proofs.lemmas.Fmt.{decimal_nonempty, decimal_by_steps, digits_decimal}
use Rattle.std.proofs.ByRecursion.{All-get_or, All-weaker}
use Rattle.std.proofs.lemmas.Str.Parse.{IsDigitsTest, numerals_by_value}
use Rattle.std.proofs.lemmas.Bool.{cond-true, cond-false, ne_eqb, le-leb}
use Rattle.std.proofs.lemmas.Bool.Decides.{nat_tests}
use Rattle.script.specs.Numbers.{largest, with_digit, read_on, whole_of, signed_of}
use Rattle.script.proofs.Digits.{whole_some}
use Rattle.script.proofs.Spelling.{Plain, Reads}

read_on-append : (v : ℕ) (bs cs : List ℕ) → read_on v (bs ++ cs) ≡ option_and_then (λ m. read_on m cs) (read_on v bs)
read_on-append v [] cs = refl
read_on-append v (b ∷ bs) cs =
    elim (with_digit v b) as (λ o. option_and_then (λ m. read_on m (bs ++ cs)) o ≡ option_and_then (λ m. read_on m cs) (option_and_then (λ m. read_on m bs) o)) [
      | Some m ↦ read_on-append m bs cs
      | None ↦ refl
    ]

with_digit_is : (v d n : ℕ) → d < 10 → v * 10 + d ≡ n → n ≤ largest → with_digit v (48 + d) ≡ Some n
with_digit_is v d n digit is small =
    let e : v * 10 + (48 + d - 48) ≡ n = omega arith in
    cond-true (is_ascii_digit (48 + d)) _ _ (grind (arith, nat_tests))
    ∙ cond-true (leb (v * 10 + (48 + d - 48)) largest) _ _ (le-leb _ _ (omega arith))
    ∙ ap (λ (m : ℕ). Some m) e

-- digits that are read as n
abbrev Back : ℕ → List ℕ → Type 0
Back n ds = n ≤ largest → read_on 0 ds ≡ Some n

last_digit : (v d n : ℕ) → d < 10 → v * 10 + d ≡ n → n ≤ largest → read_on v ((48 + d) ∷ []) ≡ Some n
last_digit v d n digit is small = ap (option_and_then (λ m. Some m)) (with_digit_is v d n digit is small)

back : (n : ℕ) → n < 2 ^ 64 → Back n (decimal n)
back =
    decimal_by_steps Back
    (λ n digit small. last_digit 0 n n digit (omega arith) small)
    (λ n ds more so_far small.
    read_on-append 0 ds ((48 + n % 10) ∷ [])
    ∙ ap (option_and_then (λ m. read_on m ((48 + n % 10) ∷ []))) (so_far (omega arith))
    ∙ last_digit (n / 10) (n % 10) n (omega arith) (omega arith) small)

-- digits are no blanks, and begin no comment
tells_all : IsDigitsTest (AllByRecursion IsAsciiDigit)
tells_all = record { empty = tt; parts = λ c cs h. h; more = λ c cs a b. (a, b) }

module _ (n : ℕ) (small : n ≤ largest) where
  fits : n < 2 ^ 64
  fits = omega arith

  digits : AllByRecursion IsAsciiDigit (decimal n)
  digits = digits_decimal (numerals_by_value (AllByRecursion IsAsciiDigit) tells_all) n fits

  plain_digits : AllByRecursion Plain (decimal n)
  plain_digits = All-weaker IsAsciiDigit Plain (λ b h. (grind (arith, nat_tests), grind (arith, nat_tests))) (decimal n) digits

  pub reads_whole : Reads whole_of (decimal n) n
  reads_whole = record {
    spelt = record { some = decimal_nonempty n fits; plain = plain_digits };
    value = sym (whole_some (decimal n) (λ none. omega (arith, decimal_nonempty n fits))) ∙ back n fits small;
  }

  no_minus : eqb (get_or (decimal n) 0 0) 45 ≡ false
  no_minus = ne_eqb _ _ (λ minus. omega (arith, minus, All-get_or IsAsciiDigit (decimal n) 0 0 (decimal_nonempty n fits) digits))

pub reads_signed : (z : ℤ) → nat_abs z ≤ largest → Reads signed_of (signed_decimal z) z
reads_signed (pos n) small = record {
  spelt = (reads_whole n small).spelt;
  value = cond-false (eqb (get_or (decimal n) 0 0) 45) _ _ (no_minus n small) ∙ ap (option_map pos) (reads_whole n small).value;
}
reads_signed (negsuc n) small = record {
  spelt = record { some = omega arith; plain = ((refl, refl), plain_digits (suc n) small) };
  value = ap (option_map (λ m. neg_ℤ (pos m))) (reads_whole (suc n) small).value;
}

-- A word that stands in a text is read. Assumes nothing.
use Rattle.std.proofs.Common.{◌≡◌, ℕ, ◌<◌, Bool, true, false, not, ◌&&◌, eqb, List, [], ◌∷◌, ◌++◌, length, Some, Ok, Option, refl, ap, ◌∙◌, arith, length-append}
use Rattle.std.specs.Option.{ok_or}
use Rattle.std.specs.List.{before_first, AllByRecursion}
use Rattle.std.proofs.ByRecursion.{All-weaker}
use Rattle.std.proofs.lemmas.List.{append-nil}
use Rattle.std.proofs.lemmas.Bool.{cond-false, ne_eqb, not-true, and_parts}
use Rattle.script.specs.declared.command.Command.{Command}
use Rattle.script.specs.declared.keywords.Name.{Name}
use Rattle.script.specs.declared.unreadable.Why.{Why}
use Rattle.script.specs.Runs.{is_blank, is_no_blank, is_comment_sign, from_first}
use Rattle.script.specs.Keywords.{name_of}
use Rattle.script.specs.Reading.{Read, leaving, next, word_from, word_at, meant}
use Rattle.script.specs.Commands.{body_at, command_at, line_from, line_at}
use Rattle.script.specs.Lines.{placed, text_of, command_of}
use Rattle.script.specs.Laws.{spaced}
use Rattle.script.proofs.Cutting.{before_first-cons, from_first-cons, before_through, from_through, from_none}

-- a word: no blank and no comment sign in it
abbrev pub Plain : ℕ → Type 0
Plain b = (is_blank b ≡ false) × (is_comment_sign b ≡ false)

pub record Spelt (w : List ℕ) : Type 0 where
  pub some : 0 < length w
  pub plain : AllByRecursion Plain w

-- a word that stands for x
pub record Reads {X : Type 0} (f : List ℕ → Option X) (w : List ℕ) (x : X) : Type 0 where
  pub spelt : Spelt w
  pub value : f w ≡ Some x

-- the same as a test, for words that are written out
abbrev pub all_plain : List ℕ → Bool
all_plain [] = true
all_plain (b ∷ bs) = (not (is_blank b) && not (is_comment_sign b)) && all_plain bs

plain_from : (w : List ℕ) → all_plain w ≡ true → AllByRecursion Plain w
plain_from [] e = tt
plain_from (b ∷ bs) e =
    let h = and_parts (not (is_blank b) && not (is_comment_sign b)) (all_plain bs) e in
    let k = and_parts (not (is_blank b)) (not (is_comment_sign b)) h.0 in
    ((not-true (is_blank b) k.0, not-true (is_comment_sign b) k.1), plain_from bs h.1)

pub reads_keyword : {X : Type 0} {f : List ℕ → Option X} (w : List ℕ) {x : X} → 0 < length w → all_plain w ≡ true → f w ≡ Some x → Reads f w x
reads_keyword w some plain value = record { spelt = record { some = some; plain = plain_from w plain }; value = value }

before-spaced : (ws : List (List ℕ)) → before_first is_blank (spaced ws) ≡ []
before-spaced [] = refl
before-spaced (w ∷ ws) = refl

from-spaced : (ws : List (List ℕ)) → from_first is_blank (spaced ws) ≡ spaced ws
from-spaced [] = refl
from-spaced (w ∷ ws) = refl

module _ {w : List ℕ} (s : Spelt w) (ws : List (List ℕ)) where
  some_left : eqb (length (w ++ spaced ws)) 0 ≡ false
  some_left = ne_eqb _ 0 (λ none. omega (arith, s.some, none, length-append w (spaced ws)))

  no_blank : from_first is_no_blank (w ++ spaced ws) ≡ w ++ spaced ws
  no_blank = from_none is_no_blank w (spaced ws) s.some (All-weaker Plain _ (λ b h. ap not h.0) w s.plain)

  in_word : AllByRecursion (λ b. is_blank b ≡ false) w
  in_word = All-weaker Plain _ (λ b h. h.0) w s.plain

  after_space : from_first is_no_blank (spaced (w ∷ ws)) ≡ w ++ spaced ws
  after_space = from_first-cons is_no_blank 32 (w ++ spaced ws) ∙ no_blank

  word_read : (bs : List ℕ) → from_first is_no_blank bs ≡ w ++ spaced ws → word_at bs ≡ Ok (record { bytes = w; left = length (w ++ spaced ws) }, spaced ws)
  word_read bs e =
      ap word_from e
      ∙ cond-false (eqb (length (w ++ spaced ws)) 0) _ _ some_left
      ∙ (λ i. Ok (record { bytes = (before_through is_blank w (spaced ws) in_word ∙ ap (λ (t : List ℕ). w ++ t) (before-spaced ws) ∙ append-nil w) i; left = length (w ++ spaced ws) }, (from_through is_blank w (spaced ws) in_word ∙ from-spaced ws) i))

-- one reading after another, where the first is known
pub step : {X Y : Type 0} (f : X → List ℕ → Read Y) {r : Read X} {x : X} {bs : List ℕ} {q : Read Y} → r ≡ Ok (x, bs) → f x bs ≡ q → next r f ≡ q
step {X} f e g = ap (λ (r : Read X). next r f) e ∙ g

meant_at : {X : Type 0} {f : List ℕ → Option X} {w : List ℕ} {x : X} → Reads f w x → (y : Why) (ws : List (List ℕ)) (bs : List ℕ) → from_first is_no_blank bs ≡ w ++ spaced ws → meant f y bs ≡ Ok (x, spaced ws)
meant_at {X} {w = w} h y ws bs e = step _ (word_read h.spelt ws bs e) (ap (λ (o : Option X). leaving (ok_or o (record { left = length (w ++ spaced ws); why = y })) (spaced ws)) h.value)

-- a word that the text begins with
pub meant_first : {X : Type 0} {f : List ℕ → Option X} {w : List ℕ} {x : X} → Reads f w x → (y : Why) (ws : List (List ℕ)) → meant f y (w ++ spaced ws) ≡ Ok (x, spaced ws)
meant_first {w = w} h y ws = meant_at h y ws (w ++ spaced ws) (no_blank h.spelt ws)

-- a word after a space
pub meant_read : {X : Type 0} {f : List ℕ → Option X} {w : List ℕ} {x : X} → Reads f w x → (y : Why) (ws : List (List ℕ)) → meant f y (spaced (w ∷ ws)) ≡ Ok (x, spaced ws)
meant_read {w = w} h y ws = meant_at h y ws (spaced (w ∷ ws)) (after_space h.spelt ws)

-- no comment begins in words
text_through : {w : List ℕ} → Spelt w → (bs : List ℕ) → text_of bs ≡ bs → text_of (w ++ bs) ≡ w ++ bs
text_through {w} s bs e = before_through is_comment_sign w bs (All-weaker Plain _ (λ b h. h.1) w s.plain) ∙ ap (λ (t : List ℕ). w ++ t) e

text_spaced : (ws : List (List ℕ)) → AllByRecursion Spelt ws → text_of (spaced ws) ≡ spaced ws
text_spaced [] all = refl
text_spaced (w ∷ ws) all = before_first-cons is_comment_sign 32 (w ++ spaced ws) ∙ ap (λ (t : List ℕ). 32 ∷ t) (text_through all.0 (spaced ws) (text_spaced ws all.1))

-- a whole line: a command's name, and words that are read as what follows it
pub line_read : (w : List ℕ) (ws : List (List ℕ)) {k : Name} {c : Command} → Reads name_of w k → AllByRecursion Spelt ws → body_at k (spaced ws) ≡ Ok (c, []) → command_of (w ++ spaced ws) ≡ Ok (Some c)
line_read w ws {k} {c} h all body =
    let text = text_through h.spelt (spaced ws) (text_spaced ws all) in
    let command : command_at (w ++ spaced ws) ≡ Ok (c, []) = step _ (meant_first h _ ws) (step _ body refl) in
    let line : line_at (w ++ spaced ws) ≡ Ok (Some c, []) = ap line_from (no_blank h.spelt ws) ∙ cond-false (eqb (length (w ++ spaced ws)) 0) _ _ (some_left h.spelt ws) ∙ step _ command refl in
    ap (λ (t : List ℕ). placed (length t) (line_at t)) text ∙ ap (placed (length (w ++ spaced ws))) line

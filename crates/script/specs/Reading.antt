-- Reading a line's text word by word. Assumes nothing.
use Rattle.std.specs.Prelude.{ℕ, cond, List, length, ℤ, Ok, Err, Option, Result, ◌==◌}
use Rattle.std.specs.List.{before_first}
use Rattle.std.specs.Option.{ok_or}
use Rattle.moments.specs.declared.pair.Face.{Face}
use Rattle.explained.specs.declared.chosen.Chosen.{Chosen}
use Rattle.script.specs.declared.words.Stuck.{Stuck}
use Rattle.script.specs.declared.unreadable.Why.{Why}
use Rattle.script.specs.declared.unreadable.Why.TheVariants.{MissingWord, NotAWhole, NotASigned, UnknownRule, UnknownFace, TooManyWords}
use Rattle.script.specs.Runs.{is_blank, is_no_blank, from_first}
use Rattle.script.specs.Numbers.{whole_of, signed_of}
use Rattle.script.specs.Keywords.{rule_of, face_of}

-- a word, and how many bytes of the text are left where it begins
pub record Found : Type 0 where
  pub bytes : List ℕ
  pub left : ℕ

-- what was read and what is left of the text then, or where the reading is stuck
abbrev pub Read : Type 0 → Type 0
Read X = Result (X × List ℕ) Stuck

-- a call's result with what it leaves
abbrev pub leaving : {X : Type 0} → Result X Stuck → List ℕ → Read X
leaving (Ok x) bs = Ok (x, bs)
leaving (Err s) bs = Err s

-- one reading after another
abbrev pub next : {X Y : Type 0} → Read X → (X → List ℕ → Read Y) → Read Y
next (Ok p) f = f p.0 p.1
next (Err s) f = Err s

-- a word that cannot be read
abbrev pub stuck_at : Found → Why → Stuck
stuck_at w y = record { left = w.left; why = y }

-- a word at the front, if anything is left
abbrev pub word_from : List ℕ → Read Found
word_from bs =
    cond (length bs == 0)
    (Err (record { left = 0; why = MissingWord }))
    (Ok (record { bytes = before_first is_blank bs; left = length bs }, from_first is_blank bs))

-- the next word
abbrev pub word_at : List ℕ → Read Found
word_at bs = word_from (from_first is_no_blank bs)

-- no further word
abbrev pub end_from : List ℕ → Read (Unit {0})
end_from bs = cond (length bs == 0) (Ok (tt, bs)) (Err (record { left = length bs; why = TooManyWords }))

-- the same past blanks
abbrev pub end_at : List ℕ → Read (Unit {0})
end_at bs = end_from (from_first is_no_blank bs)

-- the next word, where it stands for something
abbrev pub meant : {X : Type 0} → (List ℕ → Option X) → Why → List ℕ → Read X
meant f y bs = next (word_at bs) (λ w bs. leaving (ok_or (f w.bytes) (stuck_at w y)) bs)

-- a word that is a whole number
abbrev pub whole_at : List ℕ → Read ℕ
whole_at bs = meant whole_of NotAWhole bs

-- a word that is a signed number
abbrev pub signed_at : List ℕ → Read ℤ
signed_at bs = meant signed_of NotASigned bs

-- a word that names a rule
abbrev pub rule_at : List ℕ → Read Chosen
rule_at bs = meant rule_of UnknownRule bs

-- a word that names a face
abbrev pub face_at : List ℕ → Read Face
face_at bs = meant face_of UnknownFace bs

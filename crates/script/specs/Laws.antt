-- What holds of every script. Assumes nothing.
use Rattle.std.specs.Prelude.{◌≡◌, ℕ, ◌≤◌, List, [], ◌∷◌, ◌++◌, Some, Ok, codes, decimal, unsigned_abs}
use Rattle.std.specs.Fmt.{signed_decimal}
use Rattle.std.specs.List.{flat_map}
use Rattle.moments.specs.declared.pair.Face.{Face}
use Rattle.moments.specs.declared.pair.Face.TheVariants as face
use Rattle.explained.specs.declared.chosen.Chosen.{Chosen}
use Rattle.explained.specs.declared.chosen.Chosen.TheVariants as chosen
use Rattle.script.specs.declared.command.Command.{Command}
use Rattle.script.specs.declared.command.Command.TheVariants as command
use Rattle.script.specs.Numbers.{largest}
use Rattle.script.specs.Lines.{command_of}

-- a comment, which 35 begins, changes nothing
abbrev pub CommentsDoNotCount : Type 0
CommentsDoNotCount = (bs cs : List ℕ) → command_of (bs ++ 35 ∷ cs) ≡ command_of bs

-- the word for a rule
abbrev pub rule_word : Chosen → List ℕ
rule_word chosen.Yield = codes "yield"
rule_word chosen.Box = codes "box"

-- the word for a face
abbrev pub face_word : Face → List ℕ
face_word face.Bottom = codes "bottom"
face_word face.Top = codes "top"

-- words, each after one space
abbrev pub spaced : List (List ℕ) → List ℕ
spaced ws = flat_map (λ w. 32 ∷ w) ws

-- a command's words
abbrev pub written : Command → List ℕ
written (command.Rules r) = codes "rules" ++ spaced (rule_word r.bottom ∷ rule_word r.top ∷ [])
written (command.Enter n t) = codes "enter" ++ spaced (decimal n ∷ signed_decimal t.mx ∷ signed_decimal t.my ∷ signed_decimal t.mxy ∷ [])
written (command.Check f p) = codes "check" ++ spaced (face_word f ∷ decimal p.mx ∷ decimal p.my ∷ [])

-- a command whose numbers a script can hold
abbrev pub Within : Command → Type 0
Within (command.Rules r) = Unit {0}
Within (command.Enter n t) = (n ≤ largest) × (unsigned_abs t.mx ≤ largest) × (unsigned_abs t.my ≤ largest) × (unsigned_abs t.mxy ≤ largest)
Within (command.Check f p) = (p.mx ≤ largest) × (p.my ≤ largest)

-- a command that is written down is read back
abbrev pub WrittenIsRead : Type 0
WrittenIsRead = (c : Command) → Within c → command_of (written c) ≡ Ok (Some c)

-- The words that a script is written with, in small letters only. Assumes nothing.
use Rattle.std.specs.Prelude.{ℕ, cond, List, [], ◌∷◌, Some, None, codes, Option}
use Rattle.std.specs.Str.{bytes_eq}
use Rattle.moments.specs.declared.pair.Face.{Face}
use Rattle.moments.specs.declared.pair.Face.TheVariants as face
use Rattle.explained.specs.declared.chosen.Chosen.{Chosen}
use Rattle.explained.specs.declared.chosen.Chosen.TheVariants as chosen
use Rattle.script.specs.declared.keywords.Name.{Name}
use Rattle.script.specs.declared.keywords.Name.TheVariants as name

-- what a word stands for in a table of words
abbrev pub named : {X : Type 0} → List (List ℕ × X) → List ℕ → Option X
named [] w = None
named (row ∷ rows) w = cond (bytes_eq w row.0) (Some row.1) (named rows w)

-- commands
abbrev pub name_of : List ℕ → Option Name
name_of w = named ((codes "rules", name.Rules) ∷ (codes "enter", name.Enter) ∷ (codes "check", name.Check) ∷ []) w

-- yield rules
abbrev pub rule_of : List ℕ → Option Chosen
rule_of w = named ((codes "yield", chosen.Yield) ∷ (codes "box", chosen.Box) ∷ []) w

-- faces
abbrev pub face_of : List ℕ → Option Face
face_of w = named ((codes "bottom", face.Bottom) ∷ (codes "top", face.Top) ∷ []) w

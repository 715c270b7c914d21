-- The commands of a script. Assumes nothing.
use Rattle.std.specs.Prelude.{ℕ, cond, List, length, Some, None, Ok, Option, ◌==◌}
use Rattle.moments.specs.declared.pair.Face.{Face}
use Rattle.moments.specs.declared.pair.Face.TheVariants.{Bottom, Top}
use Rattle.explained.specs.declared.chosen.Chosen.{Chosen}
use Rattle.script.specs.declared.command.Command.{Command}
use Rattle.script.specs.declared.command.Command.TheVariants as command
use Rattle.script.specs.declared.command.Rules.{Rules}
use Rattle.script.specs.declared.keywords.Name.{Name}
use Rattle.script.specs.declared.keywords.Name.TheVariants as name
use Rattle.script.specs.declared.unreadable.Why.TheVariants.{UnknownCommand}
use Rattle.script.specs.Runs.{is_no_blank, from_first}
use Rattle.script.specs.Keywords.{name_of}
use Rattle.script.specs.Reading.{Read, next, meant, end_at, whole_at, signed_at, rule_at, face_at}

-- the rule of a face
abbrev pub rule_for : Rules → Face → Chosen
rule_for r Bottom = r.bottom
rule_for r Top = r.top

-- rules BOTTOM TOP
abbrev pub rules_at : List ℕ → Read Command
rules_at bs = next (rule_at bs) (λ b bs. next (rule_at bs) (λ t bs. Ok (command.Rules (record { bottom = b; top = t }), bs)))

-- enter NUMBER MX MY MXY
abbrev pub enter_at : List ℕ → Read Command
enter_at bs =
    next (whole_at bs) (λ n bs. next (signed_at bs) (λ x bs. next (signed_at bs) (λ y bs. next (signed_at bs) (λ z bs.
    Ok (command.Enter n (record { mx = x; my = y; mxy = z }), bs)))))

-- check FACE MX MY
abbrev pub check_at : List ℕ → Read Command
check_at bs =
    next (face_at bs) (λ f bs. next (whole_at bs) (λ x bs. next (whole_at bs) (λ y bs.
    Ok (command.Check f (record { mx = x; my = y }), bs))))

-- what follows a command's name
abbrev pub body_at : Name → List ℕ → Read Command
body_at name.Rules bs = rules_at bs
body_at name.Enter bs = enter_at bs
body_at name.Check bs = check_at bs

-- a command's name and what follows it, and no word more
abbrev pub command_at : List ℕ → Read Command
command_at bs = next (meant name_of UnknownCommand bs) (λ k bs. next (body_at k bs) (λ c bs. next (end_at bs) (λ _ bs. Ok (c, bs))))

-- a command, if anything is left
abbrev pub line_from : List ℕ → Read (Option Command)
line_from bs = cond (length bs == 0) (Ok (None, bs)) (next (command_at bs) (λ c bs. Ok (Some c, bs)))

-- the same from the first word on
abbrev pub line_at : List ℕ → Read (Option Command)
line_at bs = line_from (from_first is_no_blank bs)

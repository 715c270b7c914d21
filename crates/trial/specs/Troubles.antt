-- How it is said why a case is not entered. Assumes nothing.
use Rattle.std.specs.Prelude.{ℕ, List, codes}
use Rattle.moments.specs.Texts.{refusal_text}
use Rattle.trial.specs.declared.trouble.Trouble.{Trouble}
use Rattle.trial.specs.declared.trouble.Trouble.TheVariants.{Refused, NoMemory}

-- the refusal, or that memory is wanting
abbrev pub trouble_text : Trouble → List ℕ
trouble_text (Refused e) = refusal_text e
trouble_text NoMemory = codes "not entered: no memory"

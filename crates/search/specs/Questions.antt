-- What is asked of a face. Assumes nothing.
use Rattle.moments.specs.Meanings.{Meaning}
use Rattle.moments.specs.declared.pair.Pair.{Pair}
use Rattle.search.specs.declared.question.Question.{Question}
use Rattle.search.specs.Best.{Safe}

-- the safe pairs of a question, by what its rule means
abbrev pub SafeFor : {R : Type 0} → (R → Meaning) → Question R → Pair → Type 0
SafeFor meaning q = Safe (meaning q.rule.now) q.lines.now q.floor

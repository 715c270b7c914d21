use Rattle.std.proofs.Common.{arith}
use Rattle.moments.specs.declared.pair.Direction.TheVariants.{X}
use Rattle.search.proofs.question.Question.walk.Goals as goal

pub loop-column-init : goal.loop-column-init
loop-column-init g c = (c.requires, λ q s lt h. let a = s.above X in omega arith)

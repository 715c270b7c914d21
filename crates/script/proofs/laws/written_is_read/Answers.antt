use Rattle.script.proofs.Writing.{written_is_read}
use Rattle.script.proofs.laws.written_is_read.Goals as goal

pub returns : goal.returns
returns c = written_is_read

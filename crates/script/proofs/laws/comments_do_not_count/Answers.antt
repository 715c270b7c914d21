use Rattle.script.proofs.Comments.{comments_do_not_count}
use Rattle.script.proofs.laws.comments_do_not_count.Goals as goal

pub returns : goal.returns
returns c = comments_do_not_count

-- A comment changes nothing. Assumes nothing.
use Rattle.std.proofs.Common.{ℕ, List, length, refl, ap}
use Rattle.script.specs.Runs.{is_comment_sign}
use Rattle.script.specs.Commands.{line_at}
use Rattle.script.specs.Lines.{placed}
use Rattle.script.specs.Laws.{CommentsDoNotCount}
use Rattle.script.proofs.Cutting.{before_stops}

pub comments_do_not_count : CommentsDoNotCount
comments_do_not_count bs cs = ap (λ (t : List ℕ). placed (length t) (line_at t)) (before_stops is_comment_sign bs cs 35 refl)

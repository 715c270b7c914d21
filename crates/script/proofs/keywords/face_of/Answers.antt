use Rattle.std.proofs.Common.{refl, codes, arith}
use Rattle.std.proofs.lemmas.Slice.Eq.{text_from_reads}
use Rattle.script.proofs.keywords.face_of.Goals as goal

pub returns-in-bottom : goal.returns-in-bottom
returns-in-bottom c = rw (text_from_reads c.args.word.now (codes "bottom") (omega arith) (omega arith, (omega arith, (omega arith, (omega arith, (omega arith, (omega arith, tt))))))) refl

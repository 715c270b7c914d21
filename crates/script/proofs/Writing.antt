-- A command that is written down is read back. Assumes nothing.
use Rattle.std.proofs.Common.{[], ◌∷◌, drop, codes, decimal, refl, lit<}
use Rattle.std.specs.Fmt.{signed_decimal}
use Rattle.moments.specs.declared.pair.Face.{Face}
use Rattle.moments.specs.declared.pair.Face.TheVariants as face
use Rattle.explained.specs.declared.chosen.Chosen.{Chosen}
use Rattle.explained.specs.declared.chosen.Chosen.TheVariants as chosen
use Rattle.script.specs.declared.command.Command.TheVariants as command
use Rattle.script.specs.Keywords.{rule_of, face_of}
use Rattle.script.specs.Laws.{rule_word, face_word, WrittenIsRead}
use Rattle.script.proofs.Spelling.{Reads, reads_keyword, step, meant_read, line_read}
use Rattle.script.proofs.Decimals.{reads_whole, reads_signed}

reads_rule : (r : Chosen) → Reads rule_of (rule_word r) r
reads_rule chosen.Yield = reads_keyword (rule_word chosen.Yield) (lit< tt) refl refl
reads_rule chosen.Box = reads_keyword (rule_word chosen.Box) (lit< tt) refl refl

reads_face : (f : Face) → Reads face_of (face_word f) f
reads_face face.Bottom = reads_keyword (face_word face.Bottom) (lit< tt) refl refl
reads_face face.Top = reads_keyword (face_word face.Top) (lit< tt) refl refl

pub written_is_read : WrittenIsRead
written_is_read (command.Rules r) h =
    let rb = reads_rule r.bottom in
    let rt = reads_rule r.top in
    line_read (codes "rules") (rule_word r.bottom ∷ rule_word r.top ∷ []) (reads_keyword (codes "rules") (lit< tt) refl refl) (rb.spelt, (rt.spelt, tt))
    (step _ (meant_read rb _ (rule_word r.top ∷ [])) (step _ (meant_read rt _ []) refl))
written_is_read (command.Enter n t) h =
    let rn = reads_whole n h.0 in
    let rx = reads_signed t.mx h.1 in
    let ry = reads_signed t.my h.2 in
    let rz = reads_signed t.mxy h.3 in
    let ws = signed_decimal t.mx ∷ signed_decimal t.my ∷ signed_decimal t.mxy ∷ [] in
    line_read (codes "enter") (decimal n ∷ ws) (reads_keyword (codes "enter") (lit< tt) refl refl) (rn.spelt, (rx.spelt, (ry.spelt, (rz.spelt, tt))))
    (step _ (meant_read rn _ ws) (step _ (meant_read rx _ (drop 1 ws)) (step _ (meant_read ry _ (drop 2 ws)) (step _ (meant_read rz _ []) refl))))
written_is_read (command.Check f p) h =
    let rf = reads_face f in
    let rx = reads_whole p.mx h.0 in
    let ry = reads_whole p.my h.1 in
    let ws = decimal p.mx ∷ decimal p.my ∷ [] in
    line_read (codes "check") (face_word f ∷ ws) (reads_keyword (codes "check") (lit< tt) refl refl) (rf.spelt, (rx.spelt, (ry.spelt, tt)))
    (step _ (meant_read rf _ ws) (step _ (meant_read rx _ (drop 1 ws)) (step _ (meant_read ry _ []) refl)))

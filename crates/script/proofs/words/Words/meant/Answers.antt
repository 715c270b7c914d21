use Rattle.std.proofs.Common.{◌≡◌, refl, ap, ◌∙◌}
use Rattle.std.proofs.lemmas.Fn.{says_at}
use Rattle.script.specs.Reading.{Found}
use Rattle.script.proofs.words.Words.meant.Goals as goal

pub returns : goal.returns
returns g c = λ f says.
    let said : c.meaning.result ≡ f c.in_ok-word.word.bytes = says _ _ (says_at g.F.Fn c.meaning.ensures refl) ∙ ap (λ (w : Found). f w.bytes) c.word-2.view_is in
    rw (c.ok_or.ensures.value, said, c.stuck.ensures, ← c.in_ok-word.ensures) refl

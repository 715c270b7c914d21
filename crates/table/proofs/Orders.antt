-- Lists of lines that rise: what entering and withdrawing a line leave. Assumes nothing.
use Rattle.std.proofs.Common.{◌≡◌, ℕ, zero, suc, ◌<◌, true, false, T, eqb, ltb, List, [], ◌∷◌, sym, refl, subst, arith}
use Rattle.std.specs.List.{remove, AllByRecursion}
use Rattle.moments.specs.Triads.{in_limits}
use Rattle.std.proofs.lemmas.Bool.{ltb-true, ltb-false, eqb-false, lt-ltb, and_parts, and_from, or_parts, cond_both}
use Rattle.table.specs.declared.line.Line.{Line}
use Rattle.table.specs.Lines.{is_number, sound, all_sound, leads, climbing, stands, entered}

pub leads_entered : (n : ℕ) (k : Line) (ls : List Line) → n < k.number → leads n ls ≡ true → leads n (entered k ls) ≡ true
leads_entered n k [] lt h = lt-ltb _ _ lt
leads_entered n k (l ∷ ls) lt h =
    cond_both (ltb l.number k.number) _ _ (λ xs. leads n xs ≡ true) (λ _. h) (λ _. lt-ltb _ _ lt)

pub climbing-entered : (k : Line) (ls : List Line) → climbing ls ≡ true → stands k.number ls ≡ false → climbing (entered k ls) ≡ true
climbing-entered k [] h s = refl
climbing-entered k (l ∷ ls) h s =
    let p = and_parts (leads l.number ls) (climbing ls) h in
    let q = or_parts (eqb l.number k.number) (stands k.number ls) s in
    let ne = eqb-false l.number k.number q.0 in
    cond_both (ltb l.number k.number) _ _ (λ xs. climbing xs ≡ true)
    (λ e. and_from _ _ (leads_entered l.number k ls (ltb-true _ _ e) p.0) (climbing-entered k ls p.1 q.1))
    (λ e. and_from _ _ (lt-ltb _ _ (let le = ltb-false _ _ e in omega arith)) h)

pub sound-entered : (k : Line) (ls : List Line) → sound k ≡ true → all_sound ls ≡ true → all_sound (entered k ls) ≡ true
sound-entered k [] s h = and_from (sound k) true s refl
sound-entered k (l ∷ ls) s h =
    let p = and_parts (sound l) (all_sound ls) h in
    cond_both (ltb l.number k.number) _ _ (λ xs. all_sound xs ≡ true)
    (λ _. and_from (sound l) _ p.0 (sound-entered k ls s p.1))
    (λ _. and_from (sound k) _ s h)

pub leads_removed : (n : ℕ) (ls : List Line) (i : ℕ) → leads n ls ≡ true → climbing ls ≡ true → leads n (remove ls i) ≡ true
leads_removed n [] zero h c = refl
leads_removed n [] (suc i) h c = refl
leads_removed n (l ∷ []) zero h c = refl
leads_removed n (l ∷ (m ∷ ls)) zero h c =
    let p = and_parts (ltb l.number m.number) (climbing (m ∷ ls)) c in
    let x = ltb-true _ _ h in
    let y = ltb-true _ _ p.0 in
    lt-ltb _ _ (omega arith)
leads_removed n (l ∷ ls) (suc i) h c = h

pub climbing_removed : (ls : List Line) (i : ℕ) → climbing ls ≡ true → climbing (remove ls i) ≡ true
climbing_removed [] zero c = refl
climbing_removed [] (suc i) c = refl
climbing_removed (l ∷ ls) zero c = (and_parts (leads l.number ls) (climbing ls) c).1
climbing_removed (l ∷ ls) (suc i) c =
    let p = and_parts (leads l.number ls) (climbing ls) c in
    and_from _ _ (leads_removed l.number ls i p.0 p.1) (climbing_removed ls i p.1)

pub sound_removed : (ls : List Line) (i : ℕ) → all_sound ls ≡ true → all_sound (remove ls i) ≡ true
sound_removed [] zero c = refl
sound_removed [] (suc i) c = refl
sound_removed (l ∷ ls) zero c = (and_parts (sound l) (all_sound ls) c).1
sound_removed (l ∷ ls) (suc i) c =
    let p = and_parts (sound l) (all_sound ls) c in and_from (sound l) _ p.0 (sound_removed ls i p.1)

-- the moments of lines within their limits
pub all_limited : (ls : List Line) → all_sound ls ≡ true → AllByRecursion (λ l. T (in_limits l.triad)) ls
all_limited [] h = tt
all_limited (l ∷ ls) h =
    let p = and_parts (sound l) (all_sound ls) h in
    (subst T (sym (and_parts (is_number l.number) _ p.0).1) tt, all_limited ls p.1)

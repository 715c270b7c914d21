use Rattle.std.proofs.Common.{◌≡◌, ℕ, ◌+◌, ◌-◌, ◌<◌, ◌≤◌, List, length, take, drop, set, None, sym, ap, ◌∙◌, arith, length-set}
use lib.Seq.{paste}
use Rattle.table.specs.declared.line.Line.{Line}
use Rattle.table.specs.declared.table.Table.{Table}
use Rattle.table.specs.Changes.{enter_due}
use Rattle.table.specs.Lines.{climbing, all_sound, entered}
use Rattle.table.specs.Places.{FitsAt}
use Rattle.table.specs.Standing.{standing}
use Rattle.table.proofs.Counted.{length-standing}
use Rattle.table.proofs.Dues.{enter_free}
use Rattle.table.proofs.Orders.{climbing-entered, sound-entered}
use Rattle.table.proofs.Places.{entered_inserted}
use Rattle.table.proofs.Shifts.{take-opened}
use Rattle.table.proofs.table.Table.insert.Goals as goal

module _ (t : Table) (k : Line) (at : ℕ) (due : enter_due k.number k.triad (standing t) ≡ None) (fits : FitsAt k.number (standing t) at) where
  -- there is room for one more line
  room : record { before : at ≤ t.count; more : t.count < length t.lines }
  room =
      let s = t.sized in
      let n = length-standing t in
      let r = (enter_free k.number k.triad (standing t) due).room in
      let w = fits.within in
      record { before = omega arith; more = omega arith }

  -- the lines that stand once the later ones have moved up
  placed : (ls : List Line) → ls ≡ paste t.lines (at + 1) (drop at t.lines) (t.count - at) → take (t.count + 1) (set ls at k) ≡ entered k (standing t)
  placed ls p =
      ap (λ xs. take (t.count + 1) (set xs at k)) p ∙ take-opened t.lines at t.count k room.before room.more
      ∙ sym (entered_inserted k (standing t) at fits)

pub invariant_of-self : goal.invariant_of-self
invariant_of-self c =
    let t = c.args.self.now in
    let k = c.args.line in
    let s = t.sized in
    let f = enter_free k.number k.triad (standing t) c.requires.free in
    let m = (room t k c.args.at c.requires.free c.requires.fits).more in
    let l = length-set c.copy_within.new.self c.args.at k in
    let m' = c.copy_within.ensures.len in
    let e = placed t k _ c.requires.free c.requires.fits _ c.copy_within.ensures.after in
    record {
      sized = omega arith;
      few = omega arith;
      rising = ap climbing e ∙ climbing-entered k (standing t) t.rising f.fresh;
      ranged = ap all_sound e ∙ sound-entered k (standing t) f.fit t.ranged;
    }

pub returns : goal.returns
returns c = placed c.args.self.now c.args.line _ c.requires.free c.requires.fits _ c.copy_within.ensures.after

-- The safe pairs grow upwards, so a row tells which columns can be passed over. Assumes nothing.
use Rattle.std.proofs.Common.{◌≡◌, ℕ, ◌≤◌, min, max, Bool, T, List, Some, None, le_refl, arith}
use Rattle.std.proofs.ByRecursion.{All-weaker}
use Rattle.moments.specs.Meanings.{Meaning, Lawful}
use Rattle.moments.specs.Pairs.{moment_in, pair_along}
use Rattle.moments.specs.declared.pair.Direction.TheVariants.{X, Y}
use Rattle.moments.specs.declared.pair.Pair.{Pair}
use Rattle.moments.proofs.Meanings.{passed_grows, passed_summit}
use Rattle.moments.proofs.Pairs.{both_ways}
use Rattle.table.specs.Failing.{passed_by}
use Rattle.table.specs.declared.line.Line.{Line}
use Rattle.search.specs.Best.{Safe}
use Rattle.search.specs.Existence.{Posed}
use Rattle.search.specs.Steps.{Smallest, PreferredUpTo, NextColumn, NextIfAny}

module _ (m : Meaning) (lines : List Line) (floor : Pair) (lawful : Lawful m) where
  -- where a pair is safe, every pair at least as large in both moments is safe
  pub safe_grows : (p q : Pair) → p.mx ≤ q.mx → p.my ≤ q.my → q.mx ≤ m.ceiling → q.my ≤ m.ceiling
      → Safe m lines floor p → Safe m lines floor q
  safe_grows p q hx hy kx ky s =
      let ax : floor.mx ≤ p.mx = s.above X in
      let ay : floor.my ≤ p.my = s.above Y in
      record {
        above = both_ways (λ d. moment_in d floor ≤ moment_in d q) X (omega arith) (omega arith);
        below = both_ways (λ d. moment_in d q ≤ m.ceiling) X kx ky;
        passed = All-weaker (λ l. T (passed_by m p l)) (λ l. T (passed_by m q l)) (λ l h. passed_grows m lawful l.triad p q hx hy kx ky h) lines s.passed;
      }

  -- a safe pair makes its row safe at the ceiling
  pub safe_outward : (q : Pair) → Safe m lines floor q → Safe m lines floor (pair_along X m.ceiling q.my)
  safe_outward q s = safe_grows q (pair_along X m.ceiling q.my) (s.below X) (le_refl q.my) (le_refl m.ceiling) (s.below Y) s

  -- a row so high that every pair preferred to `best` from the column `from` on lies at or below it, up to the ceiling
  module _ (ahead : Pair → Pair → Bool) (best : Pair) (from high row : ℕ) (up_to_lem : PreferredUpTo ahead best from (Some high)) (is : row ≡ min high m.ceiling) where
    -- such a pair, where it is safe, makes its column safe at that row
    reaches_row : (q : Pair) → from ≤ q.mx → T (ahead q best) → Safe m lines floor q → Safe m lines floor (pair_along X q.mx row)
    reaches_row q on preferred s =
        let below : q.my ≤ m.ceiling = s.below Y in
        let lower : q.my ≤ high = up_to_lem q on preferred in
        safe_grows q (pair_along X q.mx row) (le_refl q.mx) (omega arith) (s.below X) (omega arith) s

    -- no column is safe at that row
    pub skips_all : ((x : ℕ) → Safe m lines floor (pair_along X x row) → ⊥) → NextIfAny ahead (Safe m lines floor) best m.ceiling from None
    skips_all never q s on preferred = never q.mx (reaches_row q on preferred s)

    -- the least column that is safe at that row
    pub skips_to : (next : ℕ) → from ≤ m.ceiling → Smallest (λ x. Safe m lines floor (pair_along X x row)) next
        → NextColumn ahead (Safe m lines floor) best m.ceiling from (max next from)
    skips_to next within least =
        let far : next ≤ m.ceiling = least.holds.below X in
        record {
          onward = omega arith;
          within = omega arith;
          skipped = λ q s on before preferred. let h : next ≤ q.mx = least.least q.mx (reaches_row q on preferred s) in omega arith;
        }

  -- the pair at the ceiling is safe
  pub summit_safe : Posed m lines floor → Safe m lines floor (pair_along X m.ceiling m.ceiling)
  summit_safe posed =
      record {
        above = both_ways (λ d. moment_in d floor ≤ moment_in d (pair_along X m.ceiling m.ceiling)) X (posed.low X) (posed.low Y);
        below = both_ways (λ d. moment_in d (pair_along X m.ceiling m.ceiling) ≤ m.ceiling) X (le_refl m.ceiling) (le_refl m.ceiling);
        passed = All-weaker _ (λ l. T (passed_by m (pair_along X m.ceiling m.ceiling) l)) (λ l h. passed_summit m lawful l.triad h) lines posed.limited;
      }

use Rattle.std.proofs.Common.{◌≡◌, ℕ, ◌≤◌, inl, inr, get_or, subst, sym, arith}
use Rattle.std.proofs.lemmas.Bool.{cases_lt}
use Rattle.convoy_starts.proofs.Loops.{there}
use Rattle.convoy_starts.proofs.changes.least.Goals as goal

pub loop-tick-preserved : goal.loop-tick-preserved
loop-tick-preserved c =
    let i : ℕ = c.loop-tick.tick-index in
    let now : c.min-first.result ≤ c.loop-tick.first = omega (arith, c.min-first.ensures) in
    let here : c.min-first.result ≤ get_or c.args.ticks.now i 0 = omega (arith, c.min-first.ensures) in
    record {
      within = omega (arith, now, c.loop-tick.invariant.within);
      least = λ k l. elim (cases_lt k i) [
        | inl before ↦ let old = c.loop-tick.invariant.least k before in omega (arith, now, old)
        | inr after ↦ let same : i ≡ k = omega arith in subst (λ (j : ℕ). c.min-first.result ≤ get_or c.args.ticks.now j 0) same here
      ];
      low = λ low m all.
          let old = c.loop-tick.invariant.low low m (λ k l. all k (omega arith)) in
          let new = all i (omega arith) in
          omega (arith, old, new, c.min-first.ensures);
    }

pub returns-clause-least : goal.returns-clause-least
returns-clause-least c k d l =
    subst (λ (n : ℕ). c.loop-tick.first ≤ n) (sym (there c.args.ticks.now k d 0 l)) (c.loop-tick.invariant.least k (omega (arith, l, c.loop-tick-test.false)))

pub returns-clause-low : goal.returns-clause-low
returns-clause-low c low m all =
    c.loop-tick.invariant.low low m (λ k l. all k 0 (omega (arith, l, c.loop-tick.auto.tick-index-end)))

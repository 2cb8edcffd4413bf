use Rattle.std.proofs.Common.{rules, ◌≡◌, ℕ, ◌+◌, ◌-◌, ◌≤◌, suc, ◌∷◌, List, length, get_or, max, map, drop, All, sym, ap, subst, ◌∙◌, arith}
use Rattle.convoy_sim.specs.Times.{greatest}
use Rattle.convoy_sim.proofs.Ranges.{refilled}
use Rattle.convoy_sure.specs.Windows.{tables_by}
use Rattle.convoy_sure.specs.SureLeads.{lead_at}
use Rattle.convoy_starts.specs.Starts.{Start, clock_alone, clock_from, window}
use Rattle.convoy_starts.proofs.LowStarts.{none_yet, one_more}
use Rattle.convoy_starts.proofs.setting.Setting.clocks_high.Goals as goal

pub loop-place-init : goal.loop-place-init
loop-place-init c =
    let scenario = c.args.self.now.scenario.now in
    let tables = (tables_by c.args.self.now.windows.now).times in
    let sure = c.args.self.now.sure.now in
    record {
      long = search rules;
      counted = search rules;
      few = search rules;
      small = search rules;
      so_far = λ k l.
          c.level-clocks.ensures.value.each k l
          ∙ c.window.ensures.value
          ∙ ap (λ (zs : List ℕ). window sure.time (λ z. lead_at sure.leads z c.args.group) zs 0) c.arrivals_since-arrivals.ensures
          ∙ sym (none_yet (clock_from scenario tables sure (get_or c.args.self.now.bars.now k 0) c.args.q c.args.group c.args.tick)
          (clock_alone scenario tables sure c.args.q c.args.group c.args.tick) c.args.starts.now (length c.args.starts.now - 0) (omega arith));
    }

pub loop-place-preserved : goal.loop-place-preserved
loop-place-preserved c =
    let scenario = c.args.self.now.scenario.now in
    let tables = (tables_by c.args.self.now.windows.now).times in
    let sure = c.args.self.now.sure.now in
    let starts : List Start = c.args.starts.now in
    let old : List ℕ = c.loop-place.clocks.items in
    let risen : List ℕ = c.raise_clocks.new.clocks in
    let last : ℕ = length starts - 1 - c.loop-place.place in
    let start : Start = c.index-starts-starts.result in
    let alone : ℕ = clock_alone scenario tables sure c.args.q c.args.group c.args.tick in
    let long : length risen ≡ length old = omega (arith, c.raise_clocks.auto.clocks, ap length c.as_mut_slice.ensures.value) in
    let left : length starts - c.loop-place.place ≡ suc last = omega (arith, c.loop-place-test.true) in
    let next : last ≡ length starts - (c.loop-place.place + 1) = omega (arith, c.loop-place-test.true) in
    let same = refilled (length old) old risen long in
    record {
      long = ap length same ∙ long ∙ c.loop-place.invariant.long;
      counted = c.loop-place.invariant.counted;
      few = c.loop-place.invariant.few;
      small = subst (λ (xs : List ℕ). All (λ n. n ≤ 65551) xs) (sym same) c.raise_clocks.ensures.small;
      so_far = λ k l.
          let f : Start → ℕ = clock_from scenario tables sure (get_or c.args.self.now.bars.now k 0) c.args.q c.args.group c.args.tick in
          ap (λ (xs : List ℕ). get_or xs k 0) same
          ∙ c.raise_clocks.ensures.value k (omega (arith, ap length c.as_mut_slice.ensures.value, c.loop-place.invariant.long))
          ∙ ap (λ (n : ℕ). max n (f start))
          (ap (λ (xs : List ℕ). get_or xs k 0) c.as_mut_slice.ensures.value
          ∙ c.loop-place.invariant.so_far k l
          ∙ ap (λ (n : ℕ). greatest (alone ∷ map f (drop n starts))) left)
          ∙ ap (λ (s : Start). max (greatest (alone ∷ map f (drop (suc last) starts))) (f s)) c.index-starts-starts.is
          ∙ sym (one_more f alone starts last start (omega (arith, c.loop-place-test.true)))
          ∙ ap (λ (n : ℕ). greatest (alone ∷ map f (drop n starts))) next;
    }

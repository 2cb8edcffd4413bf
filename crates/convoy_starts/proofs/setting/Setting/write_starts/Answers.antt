use Rattle.std.proofs.Common.{◌≡◌, ℕ, ◌+◌, ◌<◌, ◌≤◌, suc, [], List, All, length, get_or, fold, sym, ap, subst, ◌∙◌, arith}
use Rattle.std.specs.List.{refill}
use Rattle.std.proofs.lemmas.Bool.{both_ways}
use Rattle.convoy_sim.proofs.Ranges.{refilled}
use Rattle.convoy_stamps.specs.declared.pair.Pair.{Pair}
use Rattle.convoy_stamps.specs.Reach.{pairs_of}
use Rattle.convoy_sure.specs.Windows.{tables_by}
use Rattle.convoy_starts.specs.Starts.{Start, add_start, may_commit, starts_before}
use Rattle.convoy_starts.specs.Mosts.{AreCurrent, Memo}
use Rattle.convoy_starts.specs.Changes.{AreCovered, IsCovered}
use Rattle.convoy_starts.proofs.CoveredTicks.{starts_until}
use Rattle.convoy_starts.proofs.MostLaws.{current_first, current_later}
use Rattle.convoy_starts.proofs.setting.Setting.write_starts.Goals as goal

pub loop-tick-init : goal.loop-tick-init
loop-tick-init c =
    let scenario = c.args.self.now.scenario.now in
    let tables = tables_by c.args.self.now.windows.now in
    let sure = c.args.self.now.sure.now in
    let barring = c.args.self.now.barring in
    let pairs : List Pair = c.args.pairs.now in
    let nexts : List ℕ = c.write_first_commits.new.nexts.items in
    let first : ℕ = c.least-tick.result in
    let idle : (ss : List Start) (k : ℕ) (pair : Pair) (tick : ℕ) → k < length pairs → tick < get_or nexts k 0 → IsCovered scenario tables sure barring ss tick (get_or pairs k pair) =
    λ ss k pair tick l m may.
    absurd (both_ways (may_commit scenario tables.times tick (get_or pairs k pair)) (c.in_ok-write_first_commits.ensures.idle k pair tick l m) may) in
    let least : All (λ n. first ≤ n) nexts = subst (λ (ns : List ℕ). All (λ n. first ≤ n) ns) c.deref.ensures.value c.least-tick.ensures.least in
    record {
      within = c.least-tick.ensures.within;
      current = current_first scenario tables.times sure c.args.self.now.bars.now c.clear.new.self.items first c.write_nothing.new.memos.items c.in_ok-write_nothing.ensures.nothing;
      places = c.in_ok-write_nothing.ensures.long ∙ (omega (arith, c.message_count.ensures.value));
      long = c.in_ok-write_first_commits.ensures.long;
      covered = λ k pair later l m n. idle c.clear.new.self.items k pair later l n;
      so_far = c.clear.ensures.items
          ∙ sym (starts_until scenario tables sure barring 0 first (omega arith)
          (λ tick l m. subst (λ (ps : List Pair). All (IsCovered scenario tables sure barring [] tick) ps) c.requires.pairs
          (λ k d n. idle [] k d tick n
          (let low : first ≤ get_or nexts k 0 = least k 0 (omega (arith, n, c.in_ok-write_first_commits.ensures.long)) in omega (arith, m, low)))));
    }

pub loop-tick-smaller : goal.loop-tick-smaller
loop-tick-smaller c =
    let tick : ℕ = c.loop-tick.tick in
    let next : ℕ = c.least-tick-in-loop-tick.result in
    let new : List ℕ = c.add_starts.new.nexts in
    let long : length new ≡ c.loop-tick.nexts.len = omega (arith, c.add_starts.auto.nexts, c.as_mut_slice.ensures.len, c.as_mut_slice-in-loop-tick.ensures.len) in
    let is : c.deref-in-loop-tick.result.now ≡ new = c.deref-in-loop-tick.ensures.value ∙ refilled c.loop-tick.nexts.len c.loop-tick.nexts.items new long in
    let past : All (λ n. tick + 1 ≤ n) new = λ k d l. let here = c.in_ok-add_starts.ensures.past k d l in omega (arith, here) in
    let later : tick + 1 ≤ next =
    c.least-tick-in-loop-tick.ensures.low (tick + 1) (omega (arith, c.loop-tick-test.true)) (subst (λ (ns : List ℕ). All (λ n. tick + 1 ≤ n) ns) (sym is) past) in
    omega (arith, later, c.loop-tick-test.true)

pub loop-tick-preserved : goal.loop-tick-preserved
loop-tick-preserved c =
    let scenario = c.args.self.now.scenario.now in
    let tables = tables_by c.args.self.now.windows.now in
    let sure = c.args.self.now.sure.now in
    let bars = c.args.self.now.bars.now in
    let barring = c.args.self.now.barring in
    let pairs : List Pair = c.args.pairs.now in
    let tick : ℕ = c.loop-tick.tick in
    let next : ℕ = c.least-tick-in-loop-tick.result in
    let new : List Memo = c.add_starts.new.memos in
    let nexts : List ℕ = c.add_starts.new.nexts in
    let starts : List Start = c.add_starts.new.starts.items in
    let add : ℕ → List Start → Pair → List Start = λ at. add_start scenario tables sure barring at in
    let following : suc tick ≡ tick + 1 = omega arith in
    let long : length new ≡ c.loop-tick.memos.len = omega (arith, c.add_starts.auto.memos, c.as_mut_slice.ensures.len, c.as_mut_slice-in-loop-tick.ensures.len) in
    let is : refill c.loop-tick.memos.len c.loop-tick.memos.items new ≡ new = refilled c.loop-tick.memos.len c.loop-tick.memos.items new long in
    let many : length nexts ≡ c.loop-tick.nexts.len = omega (arith, c.add_starts.auto.nexts, c.as_mut_slice.ensures.len, c.as_mut_slice-in-loop-tick.ensures.len) in
    let are : refill c.loop-tick.nexts.len c.loop-tick.nexts.items nexts ≡ nexts = refilled c.loop-tick.nexts.len c.loop-tick.nexts.items nexts many in
    let seen : c.deref-in-loop-tick.result.now ≡ nexts = c.deref-in-loop-tick.ensures.value ∙ are in
    let least : All (λ n. next ≤ n) nexts = subst (λ (ns : List ℕ). All (λ n. next ≤ n) ns) seen c.least-tick-in-loop-tick.ensures.least in
    let past : All (λ n. tick + 1 ≤ n) nexts = λ k d l. let here = c.in_ok-add_starts.ensures.past k d l in omega (arith, here) in
    let later : tick + 1 ≤ next =
    c.least-tick-in-loop-tick.ensures.low (tick + 1) (omega (arith, c.loop-tick-test.true)) (subst (λ (ns : List ℕ). All (λ n. tick + 1 ≤ n) ns) (sym seen) past) in
    let places : length nexts ≡ length pairs = c.add_starts.auto.nexts ∙ (omega (arith, c.loop-tick.invariant.long, c.as_mut_slice.ensures.len, c.as_mut_slice-in-loop-tick.ensures.len)) in
    let after : starts ≡ starts_before scenario tables sure barring (tick + 1) =
    c.in_ok-add_starts.ensures.value
    ∙ ap (λ (ss : List Start). fold (add tick) ss pairs) c.loop-tick.invariant.so_far
    ∙ ap (λ (ps : List Pair). fold (add tick) (starts_before scenario tables sure barring tick) ps) c.requires.pairs
    ∙ ap (starts_before scenario tables sure barring) following in
    record {
      within = c.least-tick-in-loop-tick.ensures.within;
      current = subst (λ (ts : List Memo). AreCurrent scenario tables.times sure bars starts next ts) (sym is)
          (current_later scenario tables.times sure bars starts tick next new (omega (arith, later)) c.in_ok-add_starts.ensures.current);
      places = ap length is ∙ c.add_starts.auto.memos ∙ ap length c.as_mut_slice.ensures.value ∙ c.loop-tick.invariant.places;
      long = ap length are ∙ places;
      covered = subst (λ (ns : List ℕ). AreCovered scenario tables sure barring starts next ns pairs) (sym are)
          (λ k pair at l m n. c.in_ok-add_starts.ensures.covered k pair at l (omega (arith, later, m)) n);
      so_far = after
          ∙ sym (starts_until scenario tables sure barring (tick + 1) next later
          (λ at l m. subst (λ (ss : List Start). All (IsCovered scenario tables sure barring ss at) (pairs_of scenario)) after
          (subst (λ (ps : List Pair). All (IsCovered scenario tables sure barring starts at) ps) c.requires.pairs
          (λ k d n. c.in_ok-add_starts.ensures.covered k d at n (omega (arith, l))
          (let low : next ≤ get_or nexts k 0 = least k 0 (omega (arith, n, places)) in omega (arith, m, low))))));
    }

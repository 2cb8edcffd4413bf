use Rattle.std.proofs.Common.{◌≡◌, ℕ, ◌<◌, ◌==◌, not, nat_lt, true, false, List, length, get_or, max, map, take, sym, ap, ap₂, subst, ◌∙◌, arith}
use Rattle.std.proofs.Math.Nat.{max-zero}
use Rattle.std.proofs.lemmas.Bool.{and_parts, cond-false, cond-true, ltb-true}
use Rattle.arrayvec.specs.ArrayVec.{ArrayVec}
use Rattle.convoy_sim.proofs.Ranges.{refilled}
use Rattle.convoy_sim.specs.Times.{greatest}
use Rattle.convoy_sim.specs.Moments.{next_arrival}
use Rattle.convoy_sure.specs.Windows.{tables_by}
use Rattle.convoy_starts.specs.Starts.{arrives_by, may_have_come, stamp_for, stamp_high}
use Rattle.convoy_starts.specs.Mosts.{AreCurrent, Memo}
use Rattle.convoy_starts.proofs.Loops.{greatest_more}
use Rattle.convoy_starts.proofs.Times.{next_no_sooner}
use Rattle.convoy_starts.proofs.setting.Setting.raises_high.Goals as goal
use Rattle.convoy_starts.proofs.setting.Setting.raises_high.Goals.{then-may_have_come, else-may_have_come}

pub loop-from-preserved : goal.loop-from-preserved
loop-from-preserved c =
    let scenario = c.args.self.now.scenario.now in
    let tables = tables_by c.args.self.now.windows.now in
    let sure = c.args.self.now.sure.now in
    let bars : List ℕ = c.args.self.now.bars.now in
    let groups : List ℕ = c.destinations-from-items.result.now in
    let i : ℕ = c.loop-from.from-index in
    let from : ℕ = get_or groups i 0 in
    let f : ℕ → ℕ → ℕ = λ bar. stamp_for scenario tables sure c.args.starts.now c.args.tick bar c.args.c c.args.group in
    let most : ℕ → ℕ → ℕ = λ bar by. stamp_high scenario tables.times sure c.args.starts.now bar c.args.c from by in
    let holds : List Memo → Type 0 = AreCurrent scenario tables.times sure bars c.args.starts.now c.args.tick in
    let items : ArrayVec ℕ → List ℕ = λ m. m.items in
    elim c.if-may_have_come.branch [
      | then-may_have_come w ↦
          let test : may_have_come c.args.tick from c.args.group ≡ true = sym c.may_have_come.ensures ∙ w.if-may_have_come.true in
          let some : 0 < c.args.tick = ltb-true 0 c.args.tick (and_parts (not (from == c.args.group)) (nat_lt 0 c.args.tick) test).1 in
          let late = next_no_sooner scenario.time c.args.tick in
          let soon : w.arrives_by-by.result < next_arrival scenario.time c.args.tick = omega (arith, w.arrives_by-by.ensures) in
          let lent : w.as_mut_slice.result.now ≡ c.loop-from.mosts.items = w.as_mut_slice.ensures.value in
          let long : length w.raise_by_stamps.new.mosts ≡ length c.loop-from.mosts.items = w.raise_by_stamps.auto.mosts ∙ ap length lent in
          let is : c.if-may_have_come.mosts.items ≡ w.raise_by_stamps.new.mosts =
          ap items w.mosts-is ∙ refilled (length c.loop-from.mosts.items) c.loop-from.mosts.items w.raise_by_stamps.new.mosts long in
          record {
            current = subst holds (sym w.memos-is) (w.raise_by_stamps.ensures.current c.args.tick soon c.loop-from.invariant.current);
            long = ap length is ∙ long ∙ c.loop-from.invariant.long;
            so_far = λ k l.
                let bar : ℕ = get_or bars k 0 in
                let by : most bar w.arrives_by-by.result ≡ f bar from =
                ap (most bar) w.arrives_by-by.ensures
                ∙ sym (cond-true (may_have_come c.args.tick from c.args.group) (most bar (arrives_by tables c.args.tick c.args.c c.args.group from)) 0 test) in
                ap (λ (xs : List ℕ). get_or xs k 0) is
                ∙ w.raise_by_stamps.ensures.value c.args.tick soon c.loop-from.invariant.current k (omega (arith, l, c.loop-from.invariant.long, ap length lent))
                ∙ ap₂ max (ap (λ (xs : List ℕ). get_or xs k 0) lent ∙ c.loop-from.invariant.so_far k l) by
                ∙ sym (greatest_more (f bar) groups i c.loop-from-test.true);
          }
      | else-may_have_come w ↦
          let test : may_have_come c.args.tick from c.args.group ≡ false = sym c.may_have_come.ensures ∙ w.if-may_have_come.false in
          record {
            current = subst holds (sym w.memos-is) c.loop-from.invariant.current;
            long = ap (λ (m : ArrayVec ℕ). length m.items) w.mosts-is ∙ c.loop-from.invariant.long;
            so_far = λ k l.
                let bar : ℕ = get_or bars k 0 in
                let before : ℕ = greatest (map (f bar) (take i groups)) in
                let none : f bar from ≡ 0 = cond-false (may_have_come c.args.tick from c.args.group) (most bar (arrives_by tables c.args.tick c.args.c c.args.group from)) 0 test in
                ap (λ (m : ArrayVec ℕ). get_or m.items k 0) w.mosts-is
                ∙ c.loop-from.invariant.so_far k l
                ∙ sym (max-zero before)
                ∙ ap (max before) (sym none)
                ∙ sym (greatest_more (f bar) groups i c.loop-from-test.true);
          }
    ]

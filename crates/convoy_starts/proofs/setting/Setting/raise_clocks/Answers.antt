use Rattle.std.proofs.Common.{◌≡◌, ℕ, ◌<◌, ◌≤◌, ◌==◌, true, false, List, length, get_or, max, set, All, sym, ap, ap₂, subst, ◌∙◌, eq-eqb, arith}
use Rattle.std.proofs.Math.Nat.{max-zero}
use Rattle.std.proofs.lemmas.Bool.{ne_eqb}
use Rattle.std.proofs.lemmas.List.{set-get_or}
use Rattle.std.proofs.lemmas.List.Elements.{All-set}
use Rattle.convoy_draft.specs.declared.time.Time.{Time}
use Rattle.convoy_sure.specs.SureLeads.{lead_at}
use Rattle.convoy_sure.specs.Windows.{tables_by}
use Rattle.convoy_starts.specs.Starts.{clock_from, value_for, window}
use Rattle.convoy_starts.specs.Mosts.{may_precede}
use Rattle.convoy_starts.proofs.LowStarts.{clock_low}
use Rattle.convoy_starts.proofs.MostLaws.{clock_barred, clock_passing, one_done, one_left}
use Rattle.convoy_starts.proofs.setting.Setting.raise_clocks.Goals as goal
use Rattle.convoy_starts.proofs.setting.Setting.raise_clocks.Goals.{then-self-k, else-self-k}

pub loop-k-preserved : goal.loop-k-preserved
loop-k-preserved c =
    let scenario = c.args.self.now.scenario.now in
    let tables = (tables_by c.args.self.now.windows.now).times in
    let sure = c.args.self.now.sure.now in
    let start = c.args.start.now in
    let old : List ℕ = c.args.clocks.now in
    let now : List ℕ = c.loop-k.clocks in
    let new : List ℕ = c.if-self-k.clocks in
    let k : ℕ = c.loop-k.k in
    let x : ℕ = get_or c.args.self.now.bars.now k 0 in
    let clock : ℕ → ℕ = λ bar. clock_from scenario tables sure bar c.args.q c.args.group c.args.tick start in
    let f : ℕ → ℕ = λ j. max (get_or old j 0) (clock (get_or c.args.self.now.bars.now j 0)) in
    let may : may_precede scenario.time c.args.q c.args.group c.args.tick start ≡ true =
    ap (λ (t : Time). may_precede t c.args.q c.args.group c.args.tick start) (sym c.args.self.now.kind) ∙ sym c.may_precede.ensures ∙ c.if-not-may_precede.false in
    let within : k < length now = omega arith in
    let here : get_or now k 0 ≡ get_or old k 0 = c.loop-k.invariant.left k (omega arith) in
    elim c.if-self-k.branch [
      | then-self-k w ↦
          let other : (start.message == x) ≡ false = ne_eqb start.message x (λ e. w.if-self-k.true (sym e ∙ sym c.message.ensures)) in
          let by : w.clock_by-clock.result ≡ clock x =
          w.clock_by-clock.ensures.value
          ∙ ap (λ (zs : List ℕ). window sure.time (λ z. lead_at sure.leads z c.args.group) zs (value_for start x c.args.q)) c.rise-rise.ensures.others
          ∙ sym (clock_passing scenario tables sure c.args.q c.args.group c.args.tick start x may other) in
          let is : new ≡ set now k (f k) = w.clocks-is ∙ ap (set now k) (w.max.ensures ∙ ap₂ max here by) in
          let low : w.max.result ≤ 65551 = omega (arith, w.max.ensures, c.loop-k.invariant.small k 0 within, w.clock_by-clock.ensures.small) in
          record {
            small = subst (λ (xs : List ℕ). All (λ n. n ≤ 65551) xs) (sym w.clocks-is) (All-set (λ n. n ≤ 65551) now k w.max.result low c.loop-k.invariant.small);
            done = one_done old now new f k is within c.loop-k.invariant.done;
            left = one_left old now new f k is within c.loop-k.invariant.left;
          }
      | else-self-k w ↦
          let same : (start.message == x) ≡ true = eq-eqb start.message x (sym c.message.ensures ∙ sym w.if-self-k.false) in
          let none : clock x ≡ 0 = clock_barred scenario tables sure c.args.q c.args.group c.args.tick start x may same in
          let kept : get_or now k 0 ≡ f k = here ∙ sym (max-zero (get_or old k 0)) ∙ ap (max (get_or old k 0)) (sym none) in
          let is : new ≡ set now k (f k) = w.clocks-is ∙ sym (set-get_or now k 0) ∙ ap (set now k) kept in
          record {
            small = subst (λ (xs : List ℕ). All (λ n. n ≤ 65551) xs) (sym w.clocks-is) c.loop-k.invariant.small;
            done = one_done old now new f k is within c.loop-k.invariant.done;
            left = one_left old now new f k is within c.loop-k.invariant.left;
          }
    ]

pub returns-then-not-may_raise-clause-value : goal.returns-then-not-may_raise-clause-value
returns-then-not-may_raise-clause-value c k within =
    sym (clock_low c.args.self.now.scenario.now (tables_by c.args.self.now.windows.now).times c.args.self.now.sure.now (get_or c.args.self.now.bars.now k 0) c.args.q c.args.group c.args.tick
    c.args.start.now c.args.many (get_or c.args.clocks.now k 0) c.requires.many
    (λ other. c.may_raise.ensures c.if-not-may_raise.true k within other))

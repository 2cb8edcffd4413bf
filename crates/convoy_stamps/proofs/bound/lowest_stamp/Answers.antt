use Rattle.std.proofs.Common.{◌≡◌, ℕ, ◌+◌, ◌==◌, ◌&&◌, not, nat_lt, true, false, List, length, filter, sym, ap, ap₂, ◌∙◌, arith}
use Rattle.std.specs.List.{range_with_len}
use Rattle.convoy_scenario.specs.Scenario.{Scenario, message_at, message_numbers, is_addressed}
use Rattle.convoy_sim.specs.declared.timestamp.Timestamp.{Timestamp}
use Rattle.convoy_stamps.specs.Spans.{Boxed, tables_in, is_sure_before}
use Rattle.convoy_stamps.proofs.Loops.{count_more, filter_filter}
use Rattle.convoy_stamps.proofs.bound.lowest_stamp.Goals as goal
use Rattle.convoy_stamps.proofs.bound.lowest_stamp.Goals.{then-is_sure_before, else-is_sure_before}

pub loop-other-preserved : goal.loop-other-preserved
loop-other-preserved c =
    let more = count_more (is_sure_before c.args.spans.now c.args.message) c.loop-other.other in
    elim c.if-is_sure_before.branch [
      | then-is_sure_before w ↦
          let next = more true (sym c.is_sure_before.ensures ∙ w.if-is_sure_before.true) in
          record { count = omega arith; few = omega arith }
      | else-is_sure_before w ↦
          let next = more false (sym c.is_sure_before.ensures ∙ w.if-is_sure_before.false) in
          record { count = omega arith; few = omega arith }
    ]

pub returns : goal.returns
returns c =
    let boxed : Boxed = c.args.spans.now in
    let n : ℕ = c.args.message in
    let group : ℕ = boxed.scenario.target_group in
    let stamp : ℕ → ℕ → Timestamp = λ t g. record { time = t; group = g } in
    let goes = λ (q : ℕ). is_addressed (message_at boxed.scenario q) group in
    let sure = λ (q : ℕ). not (q == n) && nat_lt ((tables_in boxed).greatest_arrival q group) ((tables_in boxed).least_arrival n group) in
    let count = c.message_count-other-end.ensures.value ∙ ap (λ (s : Scenario). length s.multicasts) c.scenario.ensures.value in
    let all : c.loop-other.other ≡ length boxed.scenario.multicasts = omega arith in
    ap₂ stamp
    (c.loop-other.invariant.count
    ∙ ap (λ (k : ℕ). 1 + length (filter (is_sure_before boxed n) (range_with_len 0 k))) all
    ∙ ap (λ (ns : List ℕ). 1 + length ns) (sym (filter_filter goes sure (message_numbers boxed.scenario))))
    (c.target_group.ensures.value ∙ ap (λ (s : Scenario). s.target_group) c.scenario-2.ensures.value)

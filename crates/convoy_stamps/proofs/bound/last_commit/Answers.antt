use Rattle.std.proofs.Common.{◌≡◌, ℕ, max, true, false, map, filter, fold, length, sym, ap, ap₂, ◌∙◌, arith}
use Rattle.std.specs.List.{range_with_len}
use Rattle.convoy_scenario.specs.Scenario.{Scenario}
use Rattle.convoy_intervals.specs.declared.spans.Span.{Span}
use Rattle.convoy_stamps.specs.Spans.{Boxed, may_hold_back}
use Rattle.convoy_stamps.proofs.Loops.{greatest_more}
use Rattle.convoy_stamps.proofs.LastCommits.{target_settling, last_commit_is}
use Rattle.convoy_stamps.proofs.bound.last_commit.Goals as goal
use Rattle.convoy_stamps.proofs.bound.last_commit.Goals.{then-may_hold_back, else-may_hold_back}

pub loop-message-preserved : goal.loop-message-preserved
loop-message-preserved c =
    let boxed : Boxed = c.args.spans.now in
    let committed : ℕ = c.target_span-target.result.settling.1 in
    let more = greatest_more committed (target_settling boxed) (may_hold_back boxed committed c.args.highest) c.loop-message.message in
    let so_far : c.loop-message.last ≡ fold max committed (map (target_settling boxed) (filter (may_hold_back boxed committed c.args.highest) (range_with_len 0 c.loop-message.message))) =
    c.loop-message.invariant in
    elim c.if-may_hold_back.branch [
      | then-may_hold_back w ↦
          w.last-is ∙ w.max-last.ensures
          ∙ ap₂ max so_far (ap (λ (s : Span). s.settling.1) w.target_span.ensures)
          ∙ sym (more true (sym c.may_hold_back.ensures ∙ w.if-may_hold_back.true))
      | else-may_hold_back w ↦ w.last-is ∙ so_far ∙ sym (more false (sym c.may_hold_back.ensures ∙ w.if-may_hold_back.false))
    ]

pub returns : goal.returns
returns c =
    let boxed : Boxed = c.args.spans.now in
    let committed : ℕ = c.target_span-target.result.settling.1 in
    let count = c.message_count-message-end.ensures.value ∙ ap (λ (s : Scenario). length s.multicasts) c.scenario-scenario.ensures.value in
    let target = c.target_message.ensures.value ∙ ap (λ (s : Scenario). s.target_message) c.scenario-scenario.ensures.value in
    let all : c.loop-message.message ≡ length boxed.scenario.multicasts = omega arith in
    last_commit_is boxed c.args.highest committed c.loop-message.last
    (ap (λ (s : Span). s.settling.1) c.target_span-target.ensures ∙ ap (target_settling boxed) target)
    (c.loop-message.invariant ∙ ap (λ (k : ℕ). fold max committed (map (target_settling boxed) (filter (may_hold_back boxed committed c.args.highest) (range_with_len 0 k)))) all)

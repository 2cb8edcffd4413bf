use Rattle.std.proofs.Common.{◌++◌, ◌∙◌, ℕ, List, None, Option, ap, slice_index_or, sym}
use Rattle.convoy_workflows.specs.Rules.{DraftCause, draft_cause}
use Rattle.convoy_workflows.specs.Shape.{WrittenCause}
use Rattle.convoy_workflows.proofs.Loops.{flat_map_range_more}
use Rattle.convoy_workflows.proofs.rules.draft_causes.Goals as goal

pub loop-message-preserved : goal.loop-message-preserved
loop-message-preserved c =
    let m : ℕ = c.loop-message.message in
    let by : ℕ → Option WrittenCause → List DraftCause = draft_cause c.args.draft.now.groups c.args.draft.now.messages in
    let of : ℕ → List DraftCause = λ k. by k (slice_index_or c.args.causes.now k None) in
    c.in_ok-push_cause.ensures
    ∙ ap (λ (cause : Option WrittenCause). c.loop-message.numbered.items ++ by m cause) c.cause_at.ensures
    ∙ ap (λ (done : List DraftCause). done ++ of m) c.loop-message.invariant
    ∙ sym (flat_map_range_more of m)

use Rattle.std.proofs.Common.{◌++◌, ◌∙◌, ◌∷◌, [], ℕ, List, ap, arith, slice_index_or, sym, vec_len}
use Rattle.std.proofs.lemmas.List.{length_push}
use Rattle.convoy_draft.specs.Draft.{DraftMessage}
use Rattle.convoy_workflows.specs.Windows.{message_within, own_window}
use Rattle.convoy_workflows.proofs.Loops.{within_more}
use Rattle.convoy_workflows.proofs.windows.messages_within.Goals as goal

pub loop-multicast-preserved : goal.loop-multicast-preserved
loop-multicast-preserved c =
    let next : DraftMessage = c.in-Some.multicast in
    let done : List DraftMessage = c.loop-multicast.within.items in
    let before = c.loop-multicast.invariant in (
      c.in_ok-push.ensures.items
          ∙ ap (λ (message : DraftMessage). done ++ message ∷ [])
          (c.message_within.ensures ∙ ap (λ (number : ℕ). message_within (slice_index_or c.args.windows.now number (own_window next)) next) c.len-number.ensures)
          ∙ sym (within_more c.args.windows.now c.loop-multicast.yielded done (vec_len c.loop-multicast.within) next before.0 before.1),
      omega (arith, c.in_ok-push.ensures.len, before.1, length_push c.loop-multicast.yielded next),
    )

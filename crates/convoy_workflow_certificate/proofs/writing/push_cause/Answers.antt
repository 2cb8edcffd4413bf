use Rattle.std.proofs.Common.{List, ℕ, ◌≡◌, ◌++◌, ap, ◌∙◌, codes, decimal}
use Rattle.convoy_lines.specs.Texts.{spaced}
use Rattle.convoy_causes.specs.declared.cause.Cause.{Cause}
use Rattle.convoy_workflow_certificate.specs.WorkflowTexts.{event_word}
use Rattle.convoy_workflow_certificate.proofs.SixWords.{six_words}
use Rattle.convoy_workflow_certificate.proofs.writing.push_cause.Goals as goal

pub returns : goal.returns
returns c =
    let cause : Cause = c.args.cause.now in
    let word : c.push_further_word.new.text.items ≡ c.push_further_number-2.new.text.items ++ spaced (event_word cause.event) =
    c.in_ok-push_further_word.ensures ∙ ap (λ (w : List ℕ). c.push_further_number-2.new.text.items ++ spaced w) c.event_word.ensures in
    six_words c.args.text.now.items (codes "follow") (spaced (decimal cause.effect)) (spaced (decimal cause.message)) (spaced (event_word cause.event))
    (spaced (decimal cause.group)) (spaced (decimal cause.least)) (spaced (decimal cause.most)) _ _ _ _ _ _ _ _ _ c.in_ok-extend_from_slice.ensures.items
    c.in_ok-push_further_number.ensures c.in_ok-push_further_number-2.ensures word c.in_ok-push_further_number-3.ensures c.in_ok-push_further_number-4.ensures
    c.in_ok-push_further_number-5.ensures c.in_ok-push.ensures.items

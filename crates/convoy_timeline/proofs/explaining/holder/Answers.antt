use Rattle.std.proofs.Common.{◌∙◌, ◌<◌, length, sym}
use Rattle.std.proofs.lemmas.Bool.{cond-false, ne_eqb}
use Rattle.convoy_timeline.specs.ExplanationWords.{holder_told, is_last_ahead_told}
use Rattle.convoy_timeline.proofs.Finding.{find-after, find-here}
use Rattle.convoy_timeline.proofs.explaining.holder.Goals as goal

pub returns-then-is_last_ahead-clause-value : goal.returns-then-is_last_ahead-clause-value
unfolding holder_told
returns-then-is_last_ahead-clause-value c =
    let less : c.loop-other.other < length c.args.scenario.now.multicasts = rw c.message_count-other-end.ensures.value at c.loop-other-test.true in
    let found = find-here (is_last_ahead_told c.args.scenario.now c.args.run.now c.args.message c.args.group)
    c.loop-other.other (length c.args.scenario.now.multicasts) less (sym c.is_last_ahead.ensures ∙ c.if-is_last_ahead.true) in
    let apart = rw (c.committed.ensures, c.delivered.ensures) at c.if-committed-delivered.false in
    rw (cond-false _ _ _ (ne_eqb _ _ apart)) (sym found ∙ c.loop-other.invariant)

pub loop-other-preserved : goal.loop-other-preserved
loop-other-preserved c =
    let less : c.loop-other.other < length c.args.scenario.now.multicasts = rw c.message_count-other-end.ensures.value at c.loop-other-test.true in
    sym (find-after (is_last_ahead_told c.args.scenario.now c.args.run.now c.args.message c.args.group)
    c.loop-other.other (length c.args.scenario.now.multicasts) less (sym c.is_last_ahead.ensures ∙ c.if-is_last_ahead.false)) ∙ c.loop-other.invariant

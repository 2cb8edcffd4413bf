use Rattle.std.proofs.Common.{◌∙◌, ◌<◌, length, sym}
use Rattle.convoy_timeline.specs.ExplanationWords.{tied_before_told, is_tied_before_told}
use Rattle.convoy_timeline.proofs.Finding.{find-after, find-here}
use Rattle.convoy_timeline.proofs.explaining.tied_before.Goals as goal

pub returns-then-is_tied_before : goal.returns-then-is_tied_before
unfolding tied_before_told
returns-then-is_tied_before c =
    let less : c.loop-other.other < length c.args.scenario.now.multicasts = rw c.message_count-other-end.ensures.value at c.loop-other-test.true in
    let found = find-here (is_tied_before_told c.args.scenario.now c.args.run.now c.args.message c.args.group)
    c.loop-other.other (length c.args.scenario.now.multicasts) less (sym c.is_tied_before.ensures ∙ c.if-is_tied_before.true) in
    sym found ∙ c.loop-other.invariant

pub loop-other-preserved : goal.loop-other-preserved
loop-other-preserved c =
    let less : c.loop-other.other < length c.args.scenario.now.multicasts = rw c.message_count-other-end.ensures.value at c.loop-other-test.true in
    sym (find-after (is_tied_before_told c.args.scenario.now c.args.run.now c.args.message c.args.group)
    c.loop-other.other (length c.args.scenario.now.multicasts) less (sym c.is_tied_before.ensures ∙ c.if-is_tied_before.false)) ∙ c.loop-other.invariant

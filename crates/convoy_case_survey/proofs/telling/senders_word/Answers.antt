use Rattle.std.proofs.Common.{◌≡◌, ◌<◌, ℕ, length, subst, arith, rules}
use Rattle.convoy_case_survey.proofs.MoreCases.{more_sent}
use Rattle.convoy_case_survey.proofs.telling.senders_word.Goals as goal

pub sent_by-requires : goal.sent_by-requires
sent_by-requires c = omega (arith, c.message_count-count.ensures.lawful.multicasts_low)

pub loop-message-preserved : goal.loop-message-preserved
loop-message-preserved c =
    let less : c.loop-message.message < length c.args.scenario.now.multicasts = omega (arith, c.message_count-count.ensures.value, c.loop-message-test.true) in
    more_sent c.args.scenario.now c.loop-message.message (length c.args.scenario.now.multicasts) _ _ _ _ _ less
    c.in_ok-push_str.ensures.bytes c.in_ok-push_str-2.ensures.bytes (search rules) c.loop-message.invariant

use Rattle.std.proofs.Common.{◌≡◌, ◌<◌, ℕ, length, rules}
use Rattle.convoy_finishes.specs.Finishes.{way_at}
use Rattle.convoy_finish_replies.proofs.InTurn.{one_more}
use Rattle.convoy_finish_replies.proofs.comparing.are_same_ways.Goals as goal

pub loop-message-preserved : goal.loop-message-preserved
loop-message-preserved c =
    one_more (λ (m : ℕ). (k : ℕ) → k < length c.args.accepted.now.scenario.groups → way_at c.args.certificate.now.ways m k ≡ way_at c.args.accepted.now.ways m k)
    c.loop-message.message c.loop-message.invariant
    (c.are_same_of.ensures.0 c.if-not-are_same_of.false)

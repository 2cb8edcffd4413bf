use Rattle.std.proofs.Common.{◌≡◌, ℕ, rules}
use Rattle.convoy_finishes.specs.Finishes.{way_at}
use Rattle.convoy_finish_replies.proofs.InTurn.{one_more}
use Rattle.convoy_finish_replies.proofs.comparing.are_same_of.Goals as goal

pub loop-group-preserved : goal.loop-group-preserved
loop-group-preserved c =
    one_more (λ (k : ℕ). way_at c.args.certificate.now.ways c.args.message k ≡ way_at c.args.accepted.now.ways c.args.message k) c.loop-group.group c.loop-group.invariant
    (search rules)

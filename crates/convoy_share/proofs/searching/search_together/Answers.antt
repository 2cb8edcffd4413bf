use Rattle.std.proofs.Common.{◌-◌, length}
use Rattle.std.proofs.lemmas.Result.{IfOk-weaker}
use Rattle.convoy_shares.specs.Shares.{whole}
use Rattle.convoy_share.specs.Common.{common_of}
use Rattle.convoy_share.specs.declared.ending.Ended.{Ended}
use Rattle.convoy_share.specs.Ended.{IsEnded}
use Rattle.convoy_share.proofs.Closings.{IsEnded-opened}
use Rattle.convoy_share.proofs.searching.search_together.Goals as goal

pub returns : goal.returns
returns g c =
    let shared = common_of c.args.shared.now in
    let workers = c.args.shared.now.workers in
    let least = c.args.hand.seen in
    let owner = c.in_ok-owner.owner in
    let joined = c.in_ok-owner-2.owner in
    IfOk-weaker c.finish.result (λ (ended : Ended). IsEnded shared joined.means.hand.share joined.means.clerk.share (length joined.drawn_by_thieves.items) joined.means.hand.seen ended) (λ (ended : Ended). IsEnded shared whole whole (workers - 1) least ended) (λ ended is. IsEnded-opened shared workers least owner joined c.in_ok-owner.thieves.items ended c.in_ok-owner.ensures c.in_ok-owner-2.ensures is) c.finish.ensures

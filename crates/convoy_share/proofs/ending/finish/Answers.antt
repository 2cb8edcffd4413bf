use Rattle.std.proofs.Common.{refl, reverse}
use Rattle.convoy_share.specs.Common.{common_of}
use Rattle.convoy_share.specs.declared.ending.Ended.{Ended}
use Rattle.convoy_share.specs.Means.{drawn}
use Rattle.convoy_share.proofs.Closings.{IsEnded-finished, IsFinishing-start, can_fill}
use Rattle.convoy_share.proofs.ending.finish.Goals as goal

pub search_left-requires-clause-filling : goal.search_left-requires-clause-filling
search_left-requires-clause-filling g c =
    let shared = common_of c.args.shared.now in
    let worker = c.drain.new.worker in
    let put = worker.end.put in
    let filling = c.in_ok-filling.filling in
    let told = c.in_ok-filling.ensures in
    let can = can_fill shared c.args.worker worker c.put_count.result c.in_ok-drain.ensures.owner c.in_ok-drain.ensures.all c.put_count.ensures in
    let start = told.filling shared.bounds shared.scenario worker.means.hand.seen (drawn worker.means) put worker.end.taken can in
    (put, IsFinishing-start shared put worker.means filling.done.items (reverse filling.rest.items) filling.slots.items told.done start)

pub returns : goal.returns
returns g c =
    let shared = common_of c.args.shared.now in
    let worker = c.drain.new.worker in
    let put = worker.end.put in
    let filling = c.in_ok-filling.filling in
    let told = c.in_ok-filling.ensures in
    let can = can_fill shared c.args.worker worker c.put_count.result c.in_ok-drain.ensures.owner c.in_ok-drain.ensures.all c.put_count.ensures in
    let start = told.filling shared.bounds shared.scenario worker.means.hand.seen (drawn worker.means) put worker.end.taken can in
    let finishing = IsFinishing-start shared put worker.means filling.done.items (reverse filling.rest.items) filling.slots.items told.done start in
    let after = c.search_left.new.means in
    let done = c.search_left.new.filling.done in
    let searched = c.in_ok-search_left.ensures in
    let ended : Ended = record { hand = after.hand; clerk = after.clerk; pieces = done; drawn_by_thieves = worker.drawn_by_thieves } in
    IsEnded-finished shared c.args.worker worker after done.items c.search_left.new.filling.slots.items ended c.in_ok-drain.ensures.owner searched.later searched.drawn (searched.finished put finishing) refl refl refl refl

use Rattle.std.proofs.Common.{◌≡◌, ℕ, List, map, max, ap, ◌∙◌, arith}
use Rattle.std.specs.List.{fold}
use Rattle.convoy_scenario.specs.Scenario.{Scenario, message_at}
use Rattle.convoy_packets.specs.Order.{rank_at}
use Rattle.convoy_sim.specs.Scheduled.{Scheduled}
use Rattle.convoy_sim.specs.Times.{settle}
use Rattle.convoy_sim.specs.Moments.{commit_rank, rank_in, rank_then}
use Rattle.convoy_sim.proofs.timetable.TimetableTicks.commit_rank.Goals as goal

from_zero : (n : ℕ) → n ≡ max 0 n
from_zero n = omega arith

pub loop-from-init : goal.loop-from-init
unfolding commit_rank
loop-from-init c =
    let times : Scheduled = c.args.self.now in
    let then : ℕ → List ℕ → ℕ = λ tick xs. fold max c.given_rank-rank.result (map (rank_then times.scenario times.schedule c.args.message tick) xs) in
    ap (λ t. then t c.destinations-from-items.result.now) c.settling-tick.ensures
    ∙ ap (then (settle times.scenario times.schedule c.args.message c.args.group))
    (c.destinations-from-items.ensures.value ∙ ap (λ (p : Scenario). (message_at p c.args.message).destinations) c.scenario.ensures.value)
    ∙ ap (λ r. fold max r (map (rank_then times.scenario times.schedule c.args.message (settle times.scenario times.schedule c.args.message c.args.group)) (message_at times.scenario c.args.message).destinations))
    (c.given_rank-rank.ensures ∙ from_self)
  where
    from_self : rank_in c.self.inside.times.scenario.time (rank_at c.self.inside.times.schedule.order.commits c.args.message c.args.group)
        ≡ max 0 (rank_in c.args.self.now.scenario.time (rank_at c.args.self.now.schedule.order.commits c.args.message c.args.group))
    from_self =
        ap (λ (t : Scheduled). rank_in t.scenario.time (rank_at t.schedule.order.commits c.args.message c.args.group)) c.self.view_is
        ∙ from_zero (rank_in c.args.self.now.scenario.time (rank_at c.args.self.now.schedule.order.commits c.args.message c.args.group))

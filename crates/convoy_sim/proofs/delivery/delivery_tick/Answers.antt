use Rattle.std.proofs.Common.{ℕ, ◌+◌, ◌-◌, ◌<◌, max, Bool, List, length, map, filter, fold, sym, ap, ◌∙◌, arith}
use Rattle.std.specs.List.{range_with_len}
use Rattle.convoy_scenario.specs.Scenario.{Scenario}
use Rattle.convoy_packets.specs.Assignment.{Schedule}
use Rattle.convoy_sim.specs.Times.{settle}
use Rattle.convoy_sim.specs.StampTables.{is_ahead}
use Rattle.convoy_sim.proofs.Addressed.{number_of_goes}
use Rattle.convoy_sim.proofs.Destinations.{group_known, group_below}
use Rattle.convoy_sim.proofs.Delivered.{ahead_more, ahead_not_more, ahead_end, delivered_from}
use Rattle.convoy_sim.proofs.delivery.delivery_tick.Goals as goal
use Rattle.convoy_sim.proofs.delivery.delivery_tick.Goals.{then-is_ahead, else-is_ahead}

pub greatest-last-requires : goal.greatest-last-requires
greatest-last-requires over c =
    let known = number_of_goes (over.T.Ticks.scheduled c.args.times.now).scenario c.args.message c.args.group c.requires.goes in
    let most = c.scenario.ensures.lawful.multicasts_high in
    omega arith

pub settling-tick-requires-clause-message : goal.settling-tick-requires-clause-message
settling-tick-requires-clause-message over c = number_of_goes (over.T.Ticks.scheduled c.args.times.now).scenario c.args.message c.args.group c.requires.goes

pub settling-tick-requires-clause-group : goal.settling-tick-requires-clause-group
settling-tick-requires-clause-group over c = group_known (over.T.Ticks.scheduled c.args.times.now).scenario c.scenario.ensures.lawful c.args.message c.args.group c.requires.goes

pub is_ahead-requires-clause-group : goal.is_ahead-requires-clause-group
is_ahead-requires-clause-group over c = group_below (over.T.Ticks.scheduled c.args.times.now).scenario c.scenario.ensures.lawful c.args.message c.args.group c.requires.goes

pub settling-requires-clause-group : goal.settling-requires-clause-group
settling-requires-clause-group over c = group_known (over.T.Ticks.scheduled c.args.times.now).scenario c.scenario.ensures.lawful c.args.message c.args.group c.requires.goes

pub loop-other-preserved : goal.loop-other-preserved
loop-other-preserved over c =
    let plan : Scenario = (over.T.Ticks.scheduled c.args.times.now).scenario in
    let settles : ℕ → ℕ = λ n. settle plan (over.T.Ticks.scheduled c.args.times.now).schedule n c.args.group in
    let ahead : ℕ → Bool = is_ahead c.args.stamps.now c.args.group c.greatest-last.result in
    let i : ℕ = c.loop-other.other in
    let n : ℕ = length plan.multicasts in
    let rest : List ℕ = map settles (filter ahead (range_with_len (i + 1) (n - (i + 1)))) in
    let count = c.message_count-messages.ensures.value ∙ ap (λ (p : Scenario). length p.multicasts) c.scenario.ensures.value in
    let in_range : i < n = omega arith in
    elim c.if-is_ahead.branch [
      | then-is_ahead w ↦
          ap (λ t. fold max t rest) (w.tick-is ∙ w.max-tick.ensures ∙ ap (max c.loop-other.tick) w.settling.ensures)
          ∙ ahead_more settles ahead c.loop-other.tick i n in_range (sym c.is_ahead.ensures ∙ w.if-is_ahead.true)
          ∙ c.loop-other.invariant
      | else-is_ahead w ↦
          ap (λ t. fold max t rest) w.tick-is
          ∙ ahead_not_more settles ahead c.loop-other.tick i n in_range (sym c.is_ahead.ensures ∙ w.if-is_ahead.false)
          ∙ c.loop-other.invariant
    ]

pub returns : goal.returns
returns over c =
    let plan : Scenario = (over.T.Ticks.scheduled c.args.times.now).scenario in
    let schedule : Schedule = (over.T.Ticks.scheduled c.args.times.now).schedule in
    let m : ℕ = c.args.message in
    let g : ℕ = c.args.group in
    let settles : ℕ → ℕ = λ n. settle plan schedule n g in
    let count = c.message_count-messages.ensures.value ∙ ap (λ (p : Scenario). length p.multicasts) c.scenario.ensures.value in
    let final = c.greatest-last.ensures ∙ c.requires.told.final in
    ahead_end settles (is_ahead c.args.stamps.now g c.greatest-last.result) c.loop-other.tick c.loop-other.other (length plan.multicasts) (omega arith)
    ∙ c.loop-other.invariant
    ∙ ap (λ last. fold max (settle plan schedule m g) (map settles (filter (is_ahead c.args.stamps.now g last) (range_with_len 0 (length plan.multicasts))))) final
    ∙ delivered_from plan schedule c.scenario.ensures.lawful m g c.requires.goes c.args.stamps.now c.requires.told

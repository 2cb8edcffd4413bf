use Rattle.std.proofs.Common.{◌≡◌, ℕ, ◌+◌, List, map, max, get_or, drop, sym, ap, ap₂, subst, ◌∙◌, arith}
use Rattle.std.specs.List.{fold}
use Rattle.std.proofs.lemmas.List.{at_drop_more}
use Rattle.convoy_scenario.specs.Scenario.{Scenario, message_at}
use Rattle.convoy_scenario.specs.WellFormed.{IsScenario}
use Rattle.convoy_sim.specs.Times.{arrive, propose_arrive, settle}
use Rattle.convoy_sim.proofs.Destinations.{item_known, item_below, comes_soon}
use Rattle.convoy_sim.proofs.timetable.settling.Goals as goal
use Rattle.convoy_sim.proofs.timetable.settling.Goals.{After-scenario, In-loop-from, After-place, After-proposal_delay}

pub loop-from-init : goal.loop-from-init
unfolding settle
loop-from-init c =
    ap (λ xs. fold max 0 (map (propose_arrive c.args.times.now.scenario c.args.times.now.schedule c.args.message c.args.group) xs))
    (c.destinations-from-items.ensures.value ∙ ap (λ (p : Scenario). (message_at p c.args.message).destinations) c.scenario.ensures)

pub place-requires-clause-group : goal.place-requires-clause-group
place-requires-clause-group c =
    item_below c.args.times.now.scenario (subst IsScenario c.scenario.ensures c.destinations-from-items.ensures.lawful) c.args.message c.requires.message
    c.destinations-from-items.result.now
    (c.destinations-from-items.ensures.value ∙ ap (λ (p : Scenario). (message_at p c.args.message).destinations) c.scenario.ensures)
    c.loop-from.from-index c.loop-from-test.true

-- what stands for a destination is the tick at which the message comes there
come_is : (c : After-proposal_delay)
    → get_or c.args.arrivals.now c.place.result 0 ≡ arrive c.args.times.now.scenario c.args.times.now.schedule c.args.message (get_or c.destinations-from-items.result.now c.loop-from.from-index 0)
come_is c =
    ap (λ k. get_or c.args.arrivals.now k 0) c.place.ensures.value
    ∙ c.requires.arrivals (get_or c.destinations-from-items.result.now c.loop-from.from-index 0)
    (item_known c.args.times.now.scenario (subst IsScenario c.scenario.ensures c.destinations-from-items.ensures.lawful) c.args.message c.requires.message
    c.destinations-from-items.result.now
    (c.destinations-from-items.ensures.value ∙ ap (λ (p : Scenario). (message_at p c.args.message).destinations) c.scenario.ensures)
    c.loop-from.from-index c.loop-from-test.true)

pub overflow_add-come : goal.overflow_add-come
overflow_add-come c =
    let is = come_is c in
    let soon = comes_soon c.args.times.now.scenario (subst IsScenario c.scenario.ensures c.destinations-from-items.ensures.lawful) c.args.times.now.schedule
    c.requires.assignment c.args.message (get_or c.destinations-from-items.result.now c.loop-from.from-index 0) c.requires.message in
    let short = c.proposal_delay.ensures.short in
    omega arith

pub loop-from-preserved : goal.loop-from-preserved
loop-from-preserved c =
    let items : List ℕ = c.destinations-from-items.result.now in
    let i : ℕ = c.loop-from.from-index in
    let last : ℕ = c.loop-from.last in
    let from : ℕ = get_or items i 0 in
    let arrives = λ (h : ℕ). propose_arrive c.args.times.now.scenario c.args.times.now.schedule c.args.message c.args.group h in
    let here : get_or c.args.arrivals.now c.place.result 0 + c.proposal_delay.result ≡ arrives from =
    ap₂ ◌+◌ (come_is (goal.at.loop-from-preserved c).After-proposal_delay) c.proposal_delay.ensures.value in
    let is : c.max-last.result ≡ max last (arrives from) = c.max-last.ensures ∙ ap (max last) here in
    ap (λ t. fold max t (map arrives (drop (i + 1) items))) is
    ∙ sym (at_drop_more (λ xs. fold max last (map arrives xs)) items i 0 c.loop-from-test.true)
    ∙ c.loop-from.invariant

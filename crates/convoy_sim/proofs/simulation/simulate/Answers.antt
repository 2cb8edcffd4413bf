use Rattle.std.proofs.Common.{◌-◌, ◌*◌, ◌<◌, ◌≤◌, sym, ap, subst, ◌∙◌}
use Rattle.std.specs.List.{All}
use Rattle.convoy_sim.specs.Delivery.{latency_of}
use Rattle.convoy_sim.specs.Run.{Run}
use Rattle.convoy_sim.proofs.LatencyBounds.{target_within_four, lone_within_two}
use Rattle.convoy_sim.proofs.StampsTold.{all_within}
use Rattle.convoy_sim.proofs.TargetOf.{IsTarget, target_well, target_issued, target_latency}
use Rattle.convoy_sim.proofs.TargetRun.{stamps_are, all_told, target_told, run_tabled, run_told}
use Rattle.convoy_sim.proofs.WholeRun.{end}
use Rattle.convoy_sim.proofs.simulation.simulate.Goals as goal
use Rattle.convoy_sim.proofs.simulation.simulate.Goals.{After-of-times}

is_target : (c : After-of-times)
    → IsTarget c.args.instance.now c.args.schedule.now c.of-times.result c.target_message-message.result c.target_group-group.result
is_target c = record {
  same = c.of-times.ensures ∙ c.new.ensures;
  well = c.target_message-message.ensures.lawful;
  message = c.target_message-message.ensures.value;
  group = c.target_group-group.ensures.value;
}

pub of-stamps-requires : goal.of-stamps-requires
of-stamps-requires c =
    let is = is_target (goal.at.of-stamps-requires c).After-of-times in
    subst (λ ms. All (λ x. (x.message < 16) × (x.group < 8)) ms) (sym c.fill.ensures)
    (all_within c.of-times.result.scenario (target_well _ _ _ _ _ is) c.of-times.result.schedule end)

pub delivery_tick-delivered-requires-clause-told : goal.delivery_tick-delivered-requires-clause-told
delivery_tick-delivered-requires-clause-told c =
    let is = is_target (goal.at.delivery_tick-delivered-requires-clause-told c).After-of-times in
    target_told _ _ _ _ _ is c.requires.assignment _ (stamps_are _ _ _ _ _ is c.requires.assignment _ _ c.of-stamps.ensures c.fill.ensures)

pub list_progress-requires : goal.list_progress-requires
list_progress-requires c =
    let is = is_target (goal.at.list_progress-requires c).After-of-times in
    all_told _ _ _ _ _ is c.requires.assignment _ (stamps_are _ _ _ _ _ is c.requires.assignment _ _ c.of-stamps.ensures c.fill.ensures)

pub overflow_sub-delivered : goal.overflow_sub-delivered
overflow_sub-delivered c =
    target_issued _ _ _ _ _ (is_target (goal.at.overflow_sub-delivered c).After-of-times)
    c.issue.result c.delivery_tick-delivered.result c.issue.ensures c.delivery_tick-delivered.ensures

pub new-requires-2 : goal.new-requires-2
new-requires-2 c =
    let is = is_target (goal.at.new-requires-2 c).After-of-times in
    let read = stamps_are _ _ _ _ _ is c.requires.assignment _ _ c.of-stamps.ensures c.fill.ensures in
    run_tabled _ _ _ _ _ is c.requires.assignment _ read c.in_ok-finals.finals.items c.in_ok-progress.progress.items c.message_count.result
    (record { number = c.message_count.ensures.value; finals_are = c.in_ok-finals.ensures; progress_is = c.in_ok-progress.ensures })

pub returns-clause-run : goal.returns-clause-run
returns-clause-run c =
    let is = is_target (goal.at.returns-clause-run c).After-of-times in
    let read = stamps_are _ _ _ _ _ is c.requires.assignment _ _ c.of-stamps.ensures c.fill.ensures in
    run_told _ _ _ _ _ is c.requires.assignment _ read c.in_ok-finals.finals.items c.in_ok-progress.progress.items c.message_count.result
    (record { number = c.message_count.ensures.value; finals_are = c.in_ok-finals.ensures; progress_is = c.in_ok-progress.ensures })
    (c.delivery_tick-delivered.result - c.issue.result) c.new-2.result c.new-2.ensures
    (target_latency _ _ _ _ _ is c.issue.result c.delivery_tick-delivered.result c.issue.ensures c.delivery_tick-delivered.ensures)

pub returns-clause-latency : goal.returns-clause-latency
returns-clause-latency c =
    ap (λ (r : Run). r.latency) c.new-2.ensures
    ∙ target_latency _ _ _ _ _ (is_target (goal.at.returns-clause-latency c).After-of-times)
    c.issue.result c.delivery_tick-delivered.result c.issue.ensures c.delivery_tick-delivered.ensures

pub returns-clause-four_delays : goal.returns-clause-four_delays
returns-clause-four_delays c =
    subst (λ latency. latency ≤ 4 * c.args.instance.now.delay) (sym (returns-clause-latency c))
    (target_within_four c.args.instance.now c.args.schedule.now c.target_message-message.ensures.lawful c.requires.assignment)

pub returns-clause-two_delays : goal.returns-clause-two_delays
unfolding latency_of
returns-clause-two_delays c alone =
    let well = c.target_message-message.ensures.lawful in
    subst (λ latency. latency ≤ 2 * c.args.instance.now.delay) (sym (returns-clause-latency c))
    (lone_within_two c.args.instance.now c.args.schedule.now well c.requires.assignment _ _ well.addressed alone)

pub returns-clause-laws : goal.returns-clause-laws
returns-clause-laws c =
    c.runs_keep_the_laws.ensures c.args.instance.now c.args.schedule.now _ c.target_message-message.ensures.lawful c.requires.assignment (returns-clause-run c)

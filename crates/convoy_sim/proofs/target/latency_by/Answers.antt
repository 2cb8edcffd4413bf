use Rattle.std.proofs.Common.{◌≡◌, ℕ, ◌<◌, length, refl, sym, ap, ap₂, subst, ◌∙◌}
use Rattle.std.specs.List.{All}
use Rattle.convoy_scenario.specs.Scenario.{Scenario}
use Rattle.convoy_sim.specs.Scheduled.{Scheduled}
use Rattle.convoy_sim.specs.declared.moment.Moment.{Moment}
use Rattle.convoy_sim.specs.declared.moment.MomentKind.TheVariants.{Commit}
use Rattle.convoy_sim.specs.Moments.{moments_of}
use Rattle.convoy_sim.specs.Moments.{commit_of}
use Rattle.convoy_sim.specs.Agenda.{before}
use Rattle.convoy_sim.specs.StampTables.{no_stamps, with_moments}
use Rattle.convoy_sim.specs.Deliveries.{TellsAhead}
use Rattle.convoy_sim.proofs.Destinations.{group_known}
use Rattle.convoy_sim.proofs.Addressed.{number_of_goes}
use Rattle.convoy_sim.proofs.StampsTold.{told_enough, enough_by_commit, all_within}
use Rattle.convoy_sim.proofs.TargetOf.{IsTarget, target_well, target_goes, target_issued, target_latency}
use Rattle.convoy_sim.proofs.target.latency_by.Given as given
use Rattle.convoy_sim.proofs.target.latency_by.Goals as goal
use Rattle.convoy_sim.proofs.target.latency_by.Goals.{After-target_group-group, After-fill}

is_target : (over : given.Over) (c : After-target_group-group over)
    → IsTarget (over.T.Ticks.scheduled c.args.times.now).scenario (over.T.Ticks.scheduled c.args.times.now).schedule (over.T.Ticks.scheduled c.args.times.now) c.target_message-message.result c.target_group-group.result
is_target over c = record {
  same = refl;
  well = c.scenario-scenario.ensures.lawful;
  message = c.target_message-message.ensures.value ∙ ap (λ (p : Scenario). p.target_message) c.scenario-scenario.ensures.value;
  group = c.target_group-group.ensures.value ∙ ap (λ (p : Scenario). p.target_group) c.scenario-scenario.ensures.value;
}

-- the moments that are read are those before the commit of the target
agenda_is : (over : given.Over) (c : After-fill over)
    → c.fill.new.self
    ≡ before (commit_of (over.T.Ticks.scheduled c.args.times.now).scenario (over.T.Ticks.scheduled c.args.times.now).schedule c.target_message-message.result c.target_group-group.result)
    (moments_of (over.T.Ticks.scheduled c.args.times.now).scenario (over.T.Ticks.scheduled c.args.times.now).schedule)
agenda_is over c =
    let times : Scheduled = over.T.Ticks.scheduled c.args.times.now in
    let last : ℕ → ℕ → Moment = λ t r. record { tick = t; rank = r; kind = Commit; message = c.target_message-message.result; group = c.target_group-group.result } in
    c.fill.ensures ∙ ap₂ (λ t r. before (last t r) (moments_of times.scenario times.schedule)) c.settling.ensures c.commit_rank.ensures

target_known : (over : given.Over) (c : After-target_group-group over)
    → c.target_message-message.result < length (over.T.Ticks.scheduled c.args.times.now).scenario.multicasts
target_known over c =
    number_of_goes (over.T.Ticks.scheduled c.args.times.now).scenario c.target_message-message.result c.target_group-group.result
    (target_goes _ _ _ _ _ (is_target over c))

pub settling-requires-clause-message : goal.settling-requires-clause-message
settling-requires-clause-message over c = target_known over (goal.at.settling-requires-clause-message over c).After-target_group-group

pub settling-requires-clause-group : goal.settling-requires-clause-group
settling-requires-clause-group over c =
    let is = is_target over (goal.at.settling-requires-clause-group over c).After-target_group-group in
    group_known _ (target_well _ _ _ _ _ is) c.target_message-message.result c.target_group-group.result (target_goes _ _ _ _ _ is)

pub commit_rank-requires-clause-message : goal.commit_rank-requires-clause-message
commit_rank-requires-clause-message over c = target_known over (goal.at.commit_rank-requires-clause-message over c).After-target_group-group

pub commit_rank-requires-clause-group : goal.commit_rank-requires-clause-group
commit_rank-requires-clause-group over c =
    let is = is_target over (goal.at.commit_rank-requires-clause-group over c).After-target_group-group in
    group_known _ (target_well _ _ _ _ _ is) c.target_message-message.result c.target_group-group.result (target_goes _ _ _ _ _ is)

pub of-stamps-requires : goal.of-stamps-requires
of-stamps-requires over c =
    let is = is_target over (goal.at.of-stamps-requires over c).After-target_group-group in
    subst (λ ms. All (λ x. (x.message < 16) × (x.group < 8)) ms) (sym (agenda_is over (goal.at.of-stamps-requires over c).After-fill))
    (all_within _ (target_well _ _ _ _ _ is) _ _)

pub delivery_tick-requires-clause-told : goal.delivery_tick-requires-clause-told
delivery_tick-requires-clause-told over c =
    let is = is_target over (goal.at.delivery_tick-requires-clause-told over c).After-target_group-group in
    let agenda = agenda_is over (goal.at.delivery_tick-requires-clause-told over c).After-fill in
    let well = target_well _ _ _ _ _ is in
    let goes = target_goes _ _ _ _ _ is in
    let times : Scheduled = over.T.Ticks.scheduled c.args.times.now in
    let m : ℕ = c.target_message-message.result in
    let g : ℕ = c.target_group-group.result in
    subst (TellsAhead times.scenario times.schedule m g) (sym (c.of-stamps.ensures ∙ ap (with_moments no_stamps) agenda))
    (told_enough times.scenario well times.schedule (commit_of times.scenario times.schedule m g) m g goes (enough_by_commit times.scenario well times.schedule m g goes))

pub overflow_sub-result : goal.overflow_sub-result
overflow_sub-result over c =
    target_issued _ _ _ _ _ (is_target over (goal.at.overflow_sub-result over c).After-target_group-group)
    c.issue.result c.delivery_tick.result c.issue.ensures c.delivery_tick.ensures

pub returns : goal.returns
returns over c =
    target_latency _ _ _ _ _ (is_target over (goal.at.returns over c).After-target_group-group)
    c.issue.result c.delivery_tick.result c.issue.ensures c.delivery_tick.ensures

pub issue-requires : goal.issue-requires
issue-requires over c = target_known over (goal.at.issue-requires over c).After-target_group-group

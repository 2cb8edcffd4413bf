-- Worked rows of the machine, computed from the definitions alone.
use Rattle.std.proofs.Common.{◌≡◌, ℕ, List, [], ◌∷◌, replicate, refl}
use Rattle.std.specs.Prelude.{Result, Ok, Err}
use Rattle.convoy_scenario.specs.Scenario.{Scenario}
use Rattle.convoy_scenario.proofs.RowScenarios.{message, base_with, swapped, tied}
use Rattle.convoy_draft.specs.declared.time.Time.{Time}
use Rattle.convoy_draft.specs.declared.time.Time.TheVariants.{Ticks, Real}
use Rattle.convoy_packets.specs.Order.{no_order}
use Rattle.convoy_packets.specs.Packets.{packets_of}
use Rattle.convoy_packets.specs.Assignment.{delay_of, in_fixed_order, ranges_of}
use Rattle.convoy_sim.specs.Times.{arrive, settle}
use Rattle.convoy_sim.specs.Moments.{arrival_rank, commit_rank, moments_of}
use Rattle.convoy_sim.specs.Stamps.{clocks_of, local_stamp, final_stamp}
use Rattle.convoy_sim.specs.Delivery.{holds_back, deliver, latency_at, latency_of}
use Rattle.convoy_sim.specs.Record.{Record, attained_by}
use Rattle.convoy_intervals.specs.Bounds.{plain_bound}
use Rattle.convoy_regions.specs.Stages.{stages_of}
use Rattle.convoy_stamps.specs.Reach.{reach_of}
use Rattle.convoy_stamps.specs.StampBounds.{stamp_bound}
use Rattle.convoy_sure.specs.SureLeads.{leads_of, sure_time}
use Rattle.convoy_leads.specs.Leads.{is_led}
use Rattle.convoy_leads.specs.Closing.{closes_by_leads}
use Rattle.convoy_narrowing.specs.Narrowing.{closes_region}
use Rattle.convoy_scenario.specs.Widened.{widened}
use Rattle.convoy_origin.specs.WidenedBoxes.{range_in, widened_box}
use Rattle.convoy_origin.specs.FromOrigin.{closes_from_origin, plain_from_origin, stamp_from_origin}
use Rattle.convoy_machine.specs.declared.event.Event.TheVariants.{Look, Publish, Draw, Put, Take, Split, Close}
use Rattle.convoy_machine.specs.declared.replaying.ReplayFault.{ReplayFault}
use Rattle.convoy_machine.specs.declared.replaying.ReplayFault.TheVariants.{Unlawful}
use Rattle.convoy_machine.specs.Machine.{Core, replayed, worker_at}
use Rattle.convoy_machine.specs.Replays.{left_of}

base_in : Time → Scenario
base_in time = record (base_with 3 6) { time = time }

base : Scenario
base = base_in Ticks

-- the record of eight delays 3, whose latency is 12
threes : Record
threes = attained_by base (in_fixed_order (replicate 8 3))

-- the best latency, how many branches are left, and the tickets that workers 0 and 1 have spent
told : Result Core ReplayFault → Result (List ℕ) ReplayFault
told (Ok core) =
    Ok (core.best.latency ∷ left_of core ∷ (worker_at core.workers 0).spent ∷ (worker_at core.workers 1).spent ∷ [])
told (Err fault) = Err fault

closed_by_what_was_published : told (replayed base (Draw 0 ∷ Publish 0 threes ∷ Close 0 0 ∷ [])) ≡ Ok (12 ∷ 0 ∷ 1 ∷ 0 ∷ [])
unfolding told threes base base_in base_with message packets_of ranges_of delay_of arrive settle arrival_rank commit_rank no_order moments_of clocks_of local_stamp final_stamp holds_back deliver latency_at latency_of plain_bound widened widened_box range_in plain_from_origin replayed
closed_by_what_was_published = refl

closed_too_soon : told (replayed base (Draw 0 ∷ Close 0 0 ∷ [])) ≡ Err (Unlawful 1)
unfolding told threes base base_in base_with message packets_of ranges_of delay_of arrive settle arrival_rank commit_rank no_order moments_of clocks_of local_stamp final_stamp holds_back deliver latency_at latency_of plain_bound reach_of stamp_bound leads_of sure_time is_led closes_by_leads closes_region widened widened_box range_in plain_from_origin stamp_from_origin closes_from_origin replayed
closed_too_soon = refl

closed_without_ticket : told (replayed base (Publish 0 threes ∷ Close 0 0 ∷ [])) ≡ Err (Unlawful 1)
unfolding told threes base base_in base_with message packets_of ranges_of delay_of arrive settle arrival_rank commit_rank no_order moments_of clocks_of local_stamp final_stamp holds_back deliver latency_at latency_of plain_bound widened widened_box range_in plain_from_origin replayed
closed_without_ticket = refl

closed_unseen : told (replayed base (Publish 1 threes ∷ Draw 0 ∷ Close 0 0 ∷ [])) ≡ Err (Unlawful 2)
unfolding told threes base base_in base_with message packets_of ranges_of delay_of arrive settle arrival_rank commit_rank no_order moments_of clocks_of local_stamp final_stamp holds_back deliver latency_at latency_of plain_bound reach_of stamp_bound leads_of sure_time is_led closes_by_leads closes_region widened widened_box range_in plain_from_origin stamp_from_origin closes_from_origin replayed
closed_unseen = refl

closed_once_seen : told (replayed base (Publish 1 threes ∷ Look 0 ∷ Draw 0 ∷ Close 0 0 ∷ [])) ≡ Ok (12 ∷ 0 ∷ 1 ∷ 0 ∷ [])
unfolding told threes base base_in base_with message packets_of ranges_of delay_of arrive settle arrival_rank commit_rank no_order moments_of clocks_of local_stamp final_stamp holds_back deliver latency_at latency_of plain_bound widened widened_box range_in plain_from_origin replayed
closed_once_seen = refl

shared : told (replayed base (Draw 0 ∷ Split 0 0 4 1 ∷ Put 0 1 ∷ Take 1 1 ∷ Publish 0 threes ∷ Look 1 ∷ Draw 1 ∷ Close 1 1 ∷ Draw 0 ∷ Close 0 2 ∷ [])) ≡ Ok (12 ∷ 0 ∷ 2 ∷ 1 ∷ [])
unfolding told threes base base_in base_with message packets_of ranges_of delay_of arrive settle arrival_rank commit_rank no_order moments_of clocks_of local_stamp final_stamp holds_back deliver latency_at latency_of plain_bound widened widened_box range_in plain_from_origin replayed
shared = refl

shared_unseen : told (replayed base (Draw 0 ∷ Split 0 0 4 1 ∷ Put 0 1 ∷ Take 1 1 ∷ Publish 0 threes ∷ Draw 1 ∷ Close 1 1 ∷ Draw 0 ∷ Close 0 2 ∷ [])) ≡ Err (Unlawful 6)
unfolding told threes base base_in base_with message packets_of ranges_of delay_of arrive settle arrival_rank commit_rank no_order moments_of clocks_of local_stamp final_stamp holds_back deliver latency_at latency_of plain_bound reach_of stamp_bound leads_of sure_time is_led closes_by_leads closes_region widened widened_box range_in plain_from_origin stamp_from_origin closes_from_origin replayed
shared_unseen = refl

-- a worker past the last one, a branch that is not there, and a branch that was closed
no_such_worker : told (replayed base (Draw 15 ∷ Draw 16 ∷ [])) ≡ Err (Unlawful 1)
unfolding told threes base base_in base_with message packets_of ranges_of delay_of arrive settle arrival_rank commit_rank no_order moments_of clocks_of local_stamp final_stamp holds_back deliver latency_at latency_of plain_bound widened widened_box range_in plain_from_origin replayed
no_such_worker = refl

no_such_branch : told (replayed base (Draw 0 ∷ Put 0 1 ∷ [])) ≡ Err (Unlawful 1)
unfolding told threes base base_in base_with message packets_of ranges_of delay_of arrive settle arrival_rank commit_rank no_order moments_of clocks_of local_stamp final_stamp holds_back deliver latency_at latency_of plain_bound widened widened_box range_in plain_from_origin replayed
no_such_branch = refl

closed_twice : told (replayed base (Draw 0 ∷ Draw 0 ∷ Publish 0 threes ∷ Close 0 0 ∷ Close 0 0 ∷ [])) ≡ Err (Unlawful 4)
unfolding told threes base base_in base_with message packets_of ranges_of delay_of arrive settle arrival_rank commit_rank no_order moments_of clocks_of local_stamp final_stamp holds_back deliver latency_at latency_of plain_bound widened widened_box range_in plain_from_origin replayed
closed_twice = refl

-- the record of eight delays 3 where the groups are the other way round, whose latency is 6: the plain bound is 12
swapped_in : Time → Scenario
swapped_in time = record swapped { time = time }

sixes : Time → Record
sixes time = attained_by (swapped_in time) (in_fixed_order (replicate 8 3))

closed_by_stamps : told (replayed (swapped_in Ticks) (Draw 0 ∷ Publish 0 (sixes Ticks) ∷ Close 0 0 ∷ [])) ≡ Ok (6 ∷ 0 ∷ 1 ∷ 0 ∷ [])
unfolding told sixes swapped_in swapped message packets_of ranges_of delay_of arrive settle arrival_rank commit_rank no_order moments_of clocks_of local_stamp final_stamp holds_back deliver latency_at latency_of plain_bound reach_of stamp_bound leads_of sure_time is_led closes_by_leads closes_region widened widened_box range_in plain_from_origin stamp_from_origin closes_from_origin replayed
closed_by_stamps = refl

-- in real time stamps bound nothing, and leads close the same box
closed_by_leads : told (replayed (swapped_in Real) (Draw 0 ∷ Publish 0 (sixes Real) ∷ Close 0 0 ∷ [])) ≡ Ok (6 ∷ 0 ∷ 1 ∷ 0 ∷ [])
unfolding told sixes swapped_in swapped message packets_of ranges_of delay_of arrive settle arrival_rank commit_rank no_order moments_of clocks_of local_stamp final_stamp holds_back deliver latency_at latency_of plain_bound reach_of stamp_bound leads_of sure_time is_led closes_by_leads closes_region widened widened_box range_in plain_from_origin stamp_from_origin closes_from_origin replayed
closed_by_leads = refl

-- a worker that has not seen the latency for which they do
leads_too_soon : told (replayed (swapped_in Real) (Draw 0 ∷ Publish 1 (sixes Real) ∷ Close 0 0 ∷ [])) ≡ Err (Unlawful 2)
unfolding told sixes swapped_in swapped message packets_of ranges_of delay_of arrive settle arrival_rank commit_rank no_order moments_of clocks_of local_stamp final_stamp holds_back deliver latency_at latency_of plain_bound reach_of stamp_bound leads_of sure_time is_led closes_by_leads closes_region widened widened_box range_in plain_from_origin stamp_from_origin closes_from_origin replayed
leads_too_soon = refl

-- Each packet takes one tick, so the root is a point. t and x come to b in one tick, and y comes to a in the tick of t's commit there: its plain bound is 4 ticks, and its latency 2 where ties fall in the fixed order.
tied_in : Time → Scenario
tied_in time = record tied { time = time }

closed_as_point : told (replayed (tied_in Ticks) (Draw 0 ∷ Close 0 0 ∷ [])) ≡ Ok (2 ∷ 0 ∷ 1 ∷ 0 ∷ [])
unfolding told tied_in tied message packets_of ranges_of delay_of arrive settle arrival_rank commit_rank no_order moments_of clocks_of local_stamp final_stamp holds_back deliver latency_at latency_of plain_bound reach_of stamp_bound leads_of sure_time is_led closes_by_leads closes_region widened widened_box range_in plain_from_origin stamp_from_origin closes_from_origin replayed
closed_as_point = refl

-- in real time the point has more runs than one, as ties are open
not_closed_as_point : told (replayed (tied_in Real) (Draw 0 ∷ Close 0 0 ∷ [])) ≡ Err (Unlawful 1)
unfolding told tied_in tied message packets_of ranges_of delay_of arrive settle arrival_rank commit_rank no_order moments_of clocks_of local_stamp final_stamp holds_back deliver latency_at latency_of plain_bound reach_of stamp_bound leads_of sure_time is_led closes_by_leads closes_region widened widened_box range_in plain_from_origin stamp_from_origin closes_from_origin stages_of replayed
not_closed_as_point = refl

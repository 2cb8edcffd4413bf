-- Why the target of a scenario is delivered when it is: what holds it back up to then, the last proposal for that, and what raised clocks to the time of its stamp.
use Rattle.std.specs.Prelude.{ℕ, zero, suc, ◌==◌, Bool, true, false, ◌&&◌, List, [], ◌∷◌, map, Option, None, Some, find, unwrap_or, slice_index, if◌then◌else◌}
use Rattle.std.specs.Option.{option_map}
use Rattle.convoy_scenario.specs.Scenario.{Scenario, message_at, message_numbers, is_addressed}
use Rattle.convoy_draft.specs.declared.time.Time.{Time}
use Rattle.convoy_draft.specs.declared.time.Time.TheVariants.{Ticks, Real}
use Rattle.convoy_packets.specs.declared.packet.Packet.{Packet}
use Rattle.convoy_packets.specs.declared.packet.Packet.TheVariants.{Multicast, Propose}
use Rattle.convoy_packets.specs.Packets.{packets_of, place_of}
use Rattle.convoy_packets.specs.Assignment.{Schedule}
use Rattle.convoy_sim.specs.declared.moment.Moment.{Moment}
use Rattle.convoy_sim.specs.declared.moment.MomentKind.{MomentKind}
use Rattle.convoy_sim.specs.declared.moment.MomentKind.TheVariants.{Arrival, Commit}
use Rattle.convoy_sim.specs.declared.run.Proposal.{Proposal}
use Rattle.convoy_sim.specs.Moments.{moments_of}
use Rattle.convoy_sim.specs.Times.{issue, arrive, settle, propose_arrive}
use Rattle.convoy_sim.specs.Stamps.{is_less, local_stamp, final_stamp}
use Rattle.convoy_sim.specs.Delivery.{deliver, latency_of}
use Rattle.convoy_timeline.specs.declared.explanation.Explanation.{Explanation}
use Rattle.convoy_timeline.specs.declared.explanation.Flight.{Flight}
use Rattle.convoy_timeline.specs.declared.explanation.Holder.{Holder}
use Rattle.convoy_timeline.specs.declared.explanation.LastProposal.{LastProposal}
use Rattle.convoy_timeline.specs.declared.explanation.Rise.{Rise}

-- time is real
abbrev pub is_real : Time → Bool
is_real Ticks = false
is_real Real = true

-- message n is ahead of message m at group g, and is committed there as m is delivered
abbrev pub is_last_ahead : Scenario → Schedule → ℕ → ℕ → ℕ → Bool
is_last_ahead scenario schedule m g n =
    is_addressed (message_at scenario n) g
    && is_less (local_stamp scenario schedule n g) (final_stamp scenario schedule m)
    && (settle scenario schedule n g == deliver scenario schedule m g)

-- the message that holds message m back at group g up to its delivery, the first where there are several; none where m is delivered as it is committed
unfoldable pub holder_of : Scenario → Schedule → ℕ → ℕ → Option ℕ
holder_of scenario schedule m g =
    if settle scenario schedule m g == deliver scenario schedule m g then None
    else find (is_last_ahead scenario schedule m g) (message_numbers scenario)

-- the message at whose commit at group g message m is delivered there: the one that holds it back, or m itself
abbrev pub awaited : Scenario → Schedule → ℕ → ℕ → ℕ
awaited scenario schedule m g = unwrap_or (holder_of scenario schedule m g) m

-- the group whose proposal for message n comes last to group g, the first where several come in that tick
unfoldable pub last_proposer : Scenario → Schedule → ℕ → ℕ → ℕ
last_proposer scenario schedule n g =
    unwrap_or (find (λ h. propose_arrive scenario schedule n g h == settle scenario schedule n g) (message_at scenario n).destinations) g

-- a packet and its delay, where it is among those that are sent
abbrev pub flight_in : List Packet → List ℕ → Packet → Option Flight
flight_in packets delays packet =
    option_map (λ i. record { packet = i; delay = slice_index delays i }) (place_of packet packets)

-- a packet and its delay, where the scenario sends it: a group sends itself no stamp, and a message only by a link to itself
abbrev pub flight_of : Scenario → Schedule → Packet → Option Flight
flight_of scenario schedule packet = flight_in (packets_of scenario) schedule.delays packet

-- what group h proposes for message n, as n comes to it
abbrev pub proposal_of : Scenario → Schedule → ℕ → ℕ → Proposal
proposal_of scenario schedule n h =
    record { tick = arrive scenario schedule n h; stamp = local_stamp scenario schedule n h }

-- how the last proposal for message n comes to group g: n is issued and goes to the group h, which proposes a stamp to g
abbrev pub last_proposal_of : Scenario → Schedule → ℕ → ℕ → LastProposal
last_proposal_of scenario schedule n g =
    let h = last_proposer scenario schedule n g in
    record {
      message = n;
      issued = issue scenario schedule n;
      from = h;
      sent = flight_of scenario schedule (Multicast n h);
      proposal = proposal_of scenario schedule n h;
      answered = flight_of scenario schedule (Propose n h g);
      committed = settle scenario schedule n g;
    }

-- a message that holds another back, with what was proposed for it
abbrev pub holder_with : ℕ → Proposal → Holder
holder_with n proposal = record { message = n; proposal = proposal }

-- the message that holds message m back at group g, with what g proposed for it
abbrev pub holder_at : Scenario → Schedule → ℕ → ℕ → Option Holder
holder_at scenario schedule m g =
    option_map (λ n. holder_with n (proposal_of scenario schedule n g)) (holder_of scenario schedule m g)

-- the final stamp of message m, and the tick at which its group gave it
abbrev pub stamped_of : Scenario → Schedule → ℕ → Proposal
stamped_of scenario schedule m =
    let stamp = final_stamp scenario schedule m in
    record { tick = arrive scenario schedule m stamp.group; stamp = stamp }

-- message n comes to group g in the tick in which message m does, and before it
abbrev pub is_tied_before : Scenario → Schedule → ℕ → ℕ → ℕ → Bool
is_tied_before scenario schedule m g n =
    is_addressed (message_at scenario n) g
    && (arrive scenario schedule n g == arrive scenario schedule m g)
    && is_less (local_stamp scenario schedule n g) (local_stamp scenario schedule m g)

-- the message that comes to group g in the tick in which message m does and before it, the first where there are several
unfoldable pub tied_before : Scenario → Schedule → ℕ → ℕ → Option ℕ
tied_before scenario schedule m g = find (is_tied_before scenario schedule m g) (message_numbers scenario)

-- why message m is delivered at group g when it is
abbrev pub explanation_at : Scenario → Schedule → ℕ → ℕ → Explanation
explanation_at scenario schedule m g = record {
  latency = latency_of scenario schedule;
  delivered = deliver scenario schedule m g;
  committed = settle scenario schedule m g;
  stamped = stamped_of scenario schedule m;
  tied = tied_before scenario schedule m (final_stamp scenario schedule m).group;
  holder = holder_at scenario schedule m g;
  last = last_proposal_of scenario schedule (awaited scenario schedule m g) g;
}

-- why the target of the scenario is delivered when it is
unfoldable pub explanation_of : Scenario → Schedule → Explanation
explanation_of scenario schedule = explanation_at scenario schedule scenario.target_message scenario.target_group

-- the stamp of message m as it comes to group g, or as it is committed there, and the tick at which it was given
abbrev pub stamped_at : Scenario → Schedule → MomentKind → ℕ → ℕ → Proposal
stamped_at scenario schedule Arrival m g = proposal_of scenario schedule m g
stamped_at scenario schedule Commit m g = stamped_of scenario schedule m

-- a moment with its stamp
abbrev pub rise_at : Scenario → Schedule → Moment → Rise
rise_at scenario schedule moment =
    record { moment = moment; stamped = stamped_at scenario schedule moment.kind moment.message moment.group }

-- all moments with their stamps, in their order
unfoldable pub moments_stamped : Scenario → Schedule → List Rise
moments_stamped scenario schedule = map (rise_at scenario schedule) (moments_of scenario schedule)

-- a moment at group g with a stamp of that time
abbrev pub is_rise_to : ℕ → ℕ → Rise → Bool
is_rise_to time g rise = (rise.moment.group == g) && (rise.stamped.stamp.time == time)

-- what raised the clock of group g to that time: the first of these moments that is there with a stamp of that time
abbrev pub rise_to : List Rise → ℕ → ℕ → Option Rise
rise_to rises time g = find (is_rise_to time g) rises

-- a rise, if there is one, and those before its stamp
abbrev pub rise_and : (ℕ → List Rise) → Option Rise → List Rise
rise_and before None = []
rise_and before (Some rise) = rise ∷ before rise.stamped.stamp.group

-- why a stamp of group g has that time, latest first: what raised the clock of g to the time before that, and why the stamp of that one has its time
abbrev pub rises_before : List Rise → ℕ → ℕ → List Rise
rises_before rises zero g = []
rises_before rises (suc time) g = rise_and (rises_before rises time) (rise_to rises time g)

-- why the final stamp of message m has its time
abbrev pub rises_of : Scenario → Schedule → ℕ → List Rise
rises_of scenario schedule m =
    let final = final_stamp scenario schedule m in
    rises_before (moments_stamped scenario schedule) final.time final.group

-- why the final stamp of the target has its time
unfoldable pub stamp_explained : Scenario → Schedule → List Rise
stamp_explained scenario schedule = rises_of scenario schedule scenario.target_message

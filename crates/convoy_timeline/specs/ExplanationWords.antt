-- Why the target is delivered when it is, as a run tells it.
use Rattle.std.specs.Prelude.{ℕ, ◌+◌, ◌==◌, Bool, ◌&&◌, List, Option, None, find, unwrap_or, if◌then◌else◌}
use Rattle.std.specs.Option.{option_map}
use Rattle.convoy_scenario.specs.Scenario.{Scenario, message_at, message_numbers, is_addressed}
use Rattle.convoy_packets.specs.declared.packet.Packet.{Packet}
use Rattle.convoy_packets.specs.declared.packet.Packet.TheVariants.{Wait, Multicast, Propose}
use Rattle.convoy_packets.specs.Assignment.{Schedule, delay_in}
use Rattle.convoy_sim.specs.Run.{Run}
use Rattle.convoy_sim.specs.Stamps.{is_less}
use Rattle.convoy_timeline.specs.Causes.{flight_in, holder_with}
use Rattle.convoy_timeline.specs.RunWords.{committed_told, delivered_told, final_told, proposal_told, stamped_told}
use Rattle.convoy_timeline.specs.declared.explanation.Explanation.{Explanation}
use Rattle.convoy_timeline.specs.declared.explanation.Holder.{Holder}
use Rattle.convoy_timeline.specs.declared.explanation.LastProposal.{LastProposal}

-- message n is ahead of message m at group g, and is committed there as m is delivered
abbrev pub is_last_ahead_told : Scenario → Run → ℕ → ℕ → ℕ → Bool
is_last_ahead_told scenario run m g n =
    is_addressed (message_at scenario n) g
    && is_less (proposal_told run n g).stamp (final_told run m)
    && (committed_told run n g == delivered_told run m g)

-- the message that holds message m back at group g up to its delivery
unfoldable pub holder_told : Scenario → Run → ℕ → ℕ → Option ℕ
holder_told scenario run m g =
    if committed_told run m g == delivered_told run m g then None
    else find (is_last_ahead_told scenario run m g) (message_numbers scenario)

-- the tick at which the proposal of group h for message n comes to group g
abbrev pub propose_told : List Packet → Schedule → Run → ℕ → ℕ → ℕ → ℕ
propose_told packets schedule run n g h = (proposal_told run n h).tick + delay_in packets schedule.delays (Propose n h g)

-- the group whose proposal for message n comes last to group g
unfoldable pub last_proposer_told : Scenario → List Packet → Schedule → Run → ℕ → ℕ → ℕ
last_proposer_told scenario packets schedule run n g =
    unwrap_or (find (λ h. propose_told packets schedule run n g h == committed_told run n g) (message_at scenario n).destinations) g

-- the tick at which message n is issued
abbrev pub issue_told : Scenario → List Packet → Schedule → ℕ → ℕ
issue_told scenario packets schedule n = (message_at scenario n).at + delay_in packets schedule.delays (Wait n)

-- how the last proposal for message n comes to group g
abbrev pub last_proposal_told : Scenario → List Packet → Schedule → Run → ℕ → ℕ → LastProposal
last_proposal_told scenario packets schedule run n g =
    let h = last_proposer_told scenario packets schedule run n g in
    record {
      message = n;
      issued = issue_told scenario packets schedule n;
      from = h;
      sent = flight_in packets schedule.delays (Multicast n h);
      proposal = proposal_told run n h;
      answered = flight_in packets schedule.delays (Propose n h g);
      committed = committed_told run n g;
    }

-- the message that holds message m back at group g, with what g proposed for it
abbrev pub holder_told_at : Scenario → Run → ℕ → ℕ → Option Holder
holder_told_at scenario run m g =
    option_map (λ n. holder_with n (proposal_told run n g)) (holder_told scenario run m g)

-- message n comes to group g in the tick in which message m does, and before it
abbrev pub is_tied_before_told : Scenario → Run → ℕ → ℕ → ℕ → Bool
is_tied_before_told scenario run m g n =
    is_addressed (message_at scenario n) g
    && ((proposal_told run n g).tick == (proposal_told run m g).tick)
    && is_less (proposal_told run n g).stamp (proposal_told run m g).stamp

-- the message that comes to group g in the tick in which message m does and before it
unfoldable pub tied_before_told : Scenario → Run → ℕ → ℕ → Option ℕ
tied_before_told scenario run m g = find (is_tied_before_told scenario run m g) (message_numbers scenario)

-- why message m is delivered at group g when it is
abbrev pub explanation_told_at : Scenario → List Packet → Schedule → Run → ℕ → ℕ → Explanation
explanation_told_at scenario packets schedule run m g = record {
  latency = run.latency;
  delivered = delivered_told run m g;
  committed = committed_told run m g;
  stamped = stamped_told run m;
  tied = tied_before_told scenario run m (final_told run m).group;
  holder = holder_told_at scenario run m g;
  last = last_proposal_told scenario packets schedule run (unwrap_or (holder_told scenario run m g) m) g;
}

-- why the target of the scenario is delivered when it is
unfoldable pub explanation_told : Scenario → List Packet → Schedule → Run → Explanation
explanation_told scenario packets schedule run =
    explanation_told_at scenario packets schedule run scenario.target_message scenario.target_group

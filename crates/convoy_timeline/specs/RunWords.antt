-- What a run tells, and what stands for it where it tells nothing.
use Rattle.std.specs.Prelude.{ℕ, unwrap_or}
use Rattle.convoy_sim.specs.declared.run.Proposal.{Proposal}
use Rattle.convoy_sim.specs.declared.timestamp.Timestamp.{Timestamp}
use Rattle.convoy_sim.specs.Run.{Run, proposed_of, committed_of, delivered_of, final_stamp_of}
use Rattle.convoy_sim.specs.Stamps.{no_stamp}

-- what stands for a proposal where none is told
abbrev pub no_proposal : Proposal
no_proposal = record { tick = 0; stamp = no_stamp }

abbrev pub proposal_told : Run → ℕ → ℕ → Proposal
proposal_told run m g = unwrap_or (proposed_of run m g) no_proposal

abbrev pub committed_told : Run → ℕ → ℕ → ℕ
committed_told run m g = unwrap_or (committed_of run m g) 0

abbrev pub delivered_told : Run → ℕ → ℕ → ℕ
delivered_told run m g = unwrap_or (delivered_of run m g) 0

abbrev pub final_told : Run → ℕ → Timestamp
final_told run m = unwrap_or (final_stamp_of run m) no_stamp

-- the final stamp of message m, and the tick at which its group gave it
abbrev pub stamped_told : Run → ℕ → Proposal
stamped_told run m =
    let stamp = final_told run m in
    record { tick = (proposal_told run m stamp.group).tick; stamp = stamp }

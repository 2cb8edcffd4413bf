-- By which moments clocks rose to the time of a stamp, as a run tells it.
use Rattle.std.specs.Prelude.{ℕ, zero, suc, ◌==◌, List, [], ◌∷◌, map, Option, None, if◌then◌else◌}
use Rattle.std.specs.List.{fold, flat_map}
use Rattle.convoy_scenario.specs.Scenario.{Scenario, message_at, message_numbers}
use Rattle.convoy_packets.specs.Assignment.{Schedule}
use Rattle.convoy_packets.specs.Order.{rank_at}
use Rattle.convoy_sim.specs.declared.moment.Moment.{Moment}
use Rattle.convoy_sim.specs.declared.moment.MomentKind.{MomentKind}
use Rattle.convoy_sim.specs.declared.moment.MomentKind.TheVariants.{Arrival, Commit}
use Rattle.convoy_sim.specs.declared.run.Proposal.{Proposal}
use Rattle.convoy_sim.specs.Moments.{arrival_rank, insert_moment, rank_in}
use Rattle.convoy_sim.specs.Run.{Run}
use Rattle.convoy_sim.specs.Times.{Tick, greatest}
use Rattle.convoy_timeline.specs.Causes.{rise_to, rises_before}
use Rattle.convoy_timeline.specs.RunWords.{committed_told, final_told, proposal_told, stamped_told}
use Rattle.convoy_timeline.specs.declared.explanation.Rise.{Rise}

-- the moment at which message m comes to group g
abbrev pub arrival_told : Scenario → Schedule → Run → ℕ → ℕ → Moment
arrival_told scenario schedule run m g =
    record { tick = (proposal_told run m g).tick; rank = arrival_rank scenario schedule m g; kind = Arrival; message = m; group = g }

-- the rank of the arrival of message m at group g if it is in that tick, else 0
abbrev pub rank_told_then : Scenario → Schedule → Run → ℕ → Tick → ℕ → ℕ
rank_told_then scenario schedule run m tick g = if (proposal_told run m g).tick == tick then arrival_rank scenario schedule m g else 0

-- the rank of the commit of message m at group g
abbrev pub commit_rank_told : Scenario → Schedule → Run → ℕ → ℕ → ℕ
commit_rank_told scenario schedule run m g =
    greatest (rank_in scenario.time (rank_at schedule.order.commits m g)
    ∷ map (rank_told_then scenario schedule run m (committed_told run m g)) (message_at scenario m).destinations)

-- the moment at which message m is committed at group g
abbrev pub commit_told : Scenario → Schedule → Run → ℕ → ℕ → Moment
commit_told scenario schedule run m g =
    record { tick = committed_told run m g; rank = commit_rank_told scenario schedule run m g; kind = Commit; message = m; group = g }

-- the moments of message m at group g
abbrev pub moments_told_at : Scenario → Schedule → Run → ℕ → ℕ → List Moment
moments_told_at scenario schedule run m g = arrival_told scenario schedule run m g ∷ commit_told scenario schedule run m g ∷ []

-- the moments of all messages at their destinations, in their order
unfoldable pub moments_told : Scenario → Schedule → Run → List Moment
moments_told scenario schedule run =
    fold insert_moment [] (flat_map (λ m. flat_map (moments_told_at scenario schedule run m) (message_at scenario m).destinations) (message_numbers scenario))

-- the stamp of message m as it comes to group g, or as it is committed there, and the tick at which it was given
abbrev pub stamped_told_at : Run → MomentKind → ℕ → ℕ → Proposal
stamped_told_at run Arrival m g = proposal_told run m g
stamped_told_at run Commit m g = stamped_told run m

-- a moment with its stamp
abbrev pub rise_told : Run → Moment → Rise
rise_told run moment = record { moment = moment; stamped = stamped_told_at run moment.kind moment.message moment.group }

-- what raised the clock of group g to the time before that one
abbrev pub rise_before : List Rise → ℕ → ℕ → Option Rise
rise_before rises zero g = None
rise_before rises (suc time) g = rise_to rises time g

-- the rises of clocks up to the time of the final stamp of message m, latest first
unfoldable pub rises_told : Scenario → Schedule → Run → ℕ → List Rise
rises_told scenario schedule run m =
    let final = final_told run m in
    rises_before (map (rise_told run) (moments_told scenario schedule run)) final.time final.group

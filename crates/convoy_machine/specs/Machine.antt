-- The search of many workers as a machine of its own, with no threads: a list of events, in any order that the rules allow.
use Rattle.std.specs.Prelude.{ℕ, ◌+◌, ◌<◌, ◌==◌, nat_lt, Bool, true, false, ◌&&◌, if◌then◌else◌, List, [], ◌∷◌, ◌++◌, length, replicate, slice_get, slice_index_or, slice_set, Result, Ok, Err}
use Rattle.std.specs.List.{list_any}
use Rattle.std.specs.Option.{is_none, option_map_or}
use Rattle.convoy_scenario.specs.Scenario.{Scenario}
use Rattle.convoy_packets.specs.Assignment.{ranges_of}
use Rattle.convoy_packets.specs.Table.{least_of}
use Rattle.convoy_sim.specs.Record.{Record, attained_by}
use Rattle.convoy_intervals.specs.Boxes.{Box, CanSplit, can_split, root_of, lower_half, upper_half}
use Rattle.convoy_regions.specs.Regions.{any_order}
use Rattle.convoy_certificate.specs.declared.node.Node.{Node}
use Rattle.convoy_certificate.specs.declared.node.Node.TheVariants as nodes
use Rattle.convoy_checker.specs.Checks.{node_fault}
use Rattle.convoy_machine.specs.declared.parts.TheConstants.{WORKERS}
use Rattle.convoy_machine.specs.declared.parts.Worker.{Worker}
use Rattle.convoy_machine.specs.declared.parts.Branch.{Branch}
use Rattle.convoy_machine.specs.declared.parts.BranchState.{BranchState}
use Rattle.convoy_machine.specs.declared.parts.BranchState.TheVariants as states
use Rattle.convoy_machine.specs.declared.event.Event.{Event}
use Rattle.convoy_machine.specs.declared.event.Event.TheVariants.{Look, Publish, Draw, Put, Take, Split, Close}
use Rattle.convoy_machine.specs.declared.replaying.ReplayFault.{ReplayFault}
use Rattle.convoy_machine.specs.declared.replaying.ReplayFault.TheVariants.{Unlawful}

-- the best record, the workers by number, and the branches by number
pub record Core : Type 0 where
  pub best : Record
  pub workers : List Worker
  pub branches : List Branch

-- a branch that a worker has
abbrev pub taken : ℕ → Box → Branch
taken worker box = record { delay_box = box; state = states.Taken worker }

-- At the start the record of all least delays is the best, every worker has seen its latency, and worker 0 has the root box.
abbrev pub start : Scenario → Core
start scenario =
    let best = attained_by scenario (least_of (ranges_of scenario)) in
    record {
      best = best;
      workers = replicate WORKERS (record { seen = best.latency; drawn = 0; spent = 0 });
      branches = taken 0 (root_of scenario) ∷ [];
    }

-- ---- Which events are lawful

-- the worker that does it
abbrev pub worker_of : Event → ℕ
worker_of (Look worker) = worker
worker_of (Publish worker found) = worker
worker_of (Draw worker) = worker
worker_of (Put worker branch) = worker
worker_of (Take worker branch) = worker
worker_of (Split worker branch packet at) = worker
worker_of (Close worker branch) = worker

-- the worker and the branch of a number
abbrev pub worker_at : List Worker → ℕ → Worker
worker_at workers number = slice_index_or workers number (record { seen = 0; drawn = 0; spent = 0 })

abbrev pub branch_at : List Branch → ℕ → Branch
branch_at branches number = slice_index_or branches number (record { delay_box = []; state = states.Closed })

-- whether a branch is free, the worker has it, or it is left to be searched, by whichever worker
abbrev pub is_free : BranchState → Bool
is_free states.Free = true
is_free state = false

abbrev pub is_with : ℕ → BranchState → Bool
is_with worker (states.Taken holder) = holder == worker
is_with worker state = false

abbrev pub is_left : BranchState → Bool
is_left states.Free = true
is_left (states.Taken holder) = true
is_left state = false

-- whether there is a branch of that number whose state passes the test
abbrev pub stands : (BranchState → Bool) → List Branch → ℕ → Bool
stands test branches number = option_map_or (λ branch. test branch.state) (slice_get branches number) false

-- whether the worker has a ticket that it has not spent
abbrev pub has_ticket : Worker → Bool
has_ticket worker = nat_lt worker.spent worker.drawn

-- the leaves that may close a box for a latency, one of each kind
abbrev pub leaves_for : ℕ → List Node
leaves_for latency = nodes.Bound ∷ nodes.Point ∷ nodes.Stamp ∷ nodes.Lead latency ∷ []

-- whether the box is closed for that latency: in a certificate that states it, one of these leaves would have no fault over the box, whatever order ties fall in
abbrev pub closes : Scenario → ℕ → Box → Bool
closes scenario latency box = list_any (λ leaf. is_none (node_fault scenario latency 0 leaf (any_order box))) (leaves_for latency)

-- whether the state allows the event, where there is a worker of its number
abbrev pub allows : Scenario → Core → Event → Bool
allows scenario core (Put worker branch) = stands (is_with worker) core.branches branch
allows scenario core (Take worker branch) = stands is_free core.branches branch
allows scenario core (Split worker branch packet at) =
    stands (is_with worker) core.branches branch
    && has_ticket (worker_at core.workers worker)
    && can_split (branch_at core.branches branch).delay_box packet at
allows scenario core (Close worker branch) =
    let doer = worker_at core.workers worker in
    stands (is_with worker) core.branches branch
    && has_ticket doer
    && closes scenario doer.seen (branch_at core.branches branch).delay_box
allows scenario core event = true

abbrev pub is_lawful : Scenario → Core → Event → Bool
is_lawful scenario core event = nat_lt (worker_of event) WORKERS && allows scenario core event

-- the branch of an event is there, and can be split where the event splits it
abbrev pub HasBranch : List Branch → Event → Type 0
HasBranch branches (Put worker branch) = branch < length branches
HasBranch branches (Take worker branch) = branch < length branches
HasBranch branches (Split worker branch packet at) =
    (branch < length branches) × CanSplit (branch_at branches branch).delay_box packet at
HasBranch branches (Close worker branch) = branch < length branches
HasBranch branches event = Unit {0}

-- ---- What becomes of the state

-- the best record after an event
abbrev pub best_after : Record → Event → Record
best_after best (Publish worker found) = if nat_lt best.latency found.latency then found else best
best_after best event = best

-- the worker of an event after it, where the best latency is then that one
abbrev pub worker_after : ℕ → Worker → Event → Worker
worker_after latency before (Look worker) = record before { seen = latency }
worker_after latency before (Publish worker found) = record before { seen = latency }
worker_after latency before (Draw worker) = record before { drawn = before.drawn + 1 }
worker_after latency before (Split worker branch packet at) = record before { spent = before.spent + 1 }
worker_after latency before (Close worker branch) = record before { spent = before.spent + 1 }
worker_after latency before event = before

-- the branches, of which one has another state
abbrev pub turned : List Branch → ℕ → BranchState → List Branch
turned branches number state = slice_set branches number (record (branch_at branches number) { state = state })

-- the halves of a box, which the worker has
abbrev pub halves_taken : ℕ → Box → ℕ → ℕ → List Branch
halves_taken worker box packet at = taken worker (lower_half box packet at) ∷ taken worker (upper_half box packet at) ∷ []

-- the branches after an event; the halves of a split have the next two numbers
abbrev pub branches_after : List Branch → Event → List Branch
branches_after branches (Put worker branch) = turned branches branch states.Free
branches_after branches (Take worker branch) = turned branches branch (states.Taken worker)
branches_after branches (Split worker branch packet at) =
    turned branches branch states.Split ++ halves_taken worker (branch_at branches branch).delay_box packet at
branches_after branches (Close worker branch) = turned branches branch states.Closed
branches_after branches event = branches

abbrev pub after : Core → Event → Core
after core event =
    let best = best_after core.best event in
    let worker = worker_of event in
    record {
      best = best;
      workers = slice_set core.workers worker (worker_after best.latency (worker_at core.workers worker) event);
      branches = branches_after core.branches event;
    }

-- ---- Lists of events

-- the state after the events from that place on, or the place of the first unlawful one
abbrev pub run : Scenario → ℕ → Core → List Event → Result Core ReplayFault
run scenario place core [] = Ok core
run scenario place core (event ∷ events) =
    if is_lawful scenario core event then run scenario (place + 1) (after core event) events else Err (Unlawful place)

-- The state after the events from the start, or the place of the first unlawful one.
unfoldable pub replayed : Scenario → List Event → Result Core ReplayFault
replayed scenario events = run scenario 0 (start scenario) events

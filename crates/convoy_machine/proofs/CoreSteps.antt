-- What holds of each state that lawful events lead to, step by step.
use Rattle.std.specs.Prelude.{◌≡◌, ◌⊎◌, ℕ, ◌+◌, ◌≤◌, ◌<◌, nat_lt, Bool, true, false, IsTrue, if◌then◌else◌, List, [], ◌∷◌, length, slice_index_or}
use Rattle.std.specs.List.{All, count_by}
use Rattle.std.proofs.Common.{arith, refl, ◌∙◌, inl, inr}
use Rattle.std.proofs.lemmas.Bool.{cases_lt, ltb-true}
use Rattle.std.proofs.lemmas.List.{length-set, length-replicate}
use Rattle.std.proofs.lemmas.List.Elements.{All-nil, All-cons, All-append, All-get_or, All-replicate, All-set, All-weaker}
use Rattle.std.proofs.lemmas.List.Quantifiers.{any-set}
use Rattle.std.proofs.lemmas.List.Sums.{sum_by-append, sum_by-set}
use Rattle.convoy_scenario.specs.Scenario.{Scenario}
use Rattle.convoy_scenario.specs.WellFormed.{IsScenario}
use Rattle.convoy_packets.specs.Assignment.{Schedule, IsAssignment}
use Rattle.convoy_packets.specs.Order.{IsOrder}
use Rattle.convoy_sim.specs.Delivery.{latency_of}
use Rattle.convoy_sim.specs.Record.{Record, IsAttained}
use Rattle.convoy_intervals.specs.Boxes.{CanSplit, IsBox, IsIn, root_of, lower_half, upper_half}
use Rattle.convoy_intervals.specs.BoxLaws.{HalvesAreBoxes, HalvesPartition, RootHoldsAll, RootIsBox}
use Rattle.convoy_machine.specs.declared.parts.TheConstants.{WORKERS}
use Rattle.convoy_machine.specs.declared.parts.Worker.{Worker}
use Rattle.convoy_machine.specs.declared.parts.Branch.{Branch}
use Rattle.convoy_machine.specs.declared.parts.BranchState.{BranchState}
use Rattle.convoy_machine.specs.declared.parts.BranchState.TheVariants as states
use Rattle.convoy_machine.specs.declared.event.Event.{Event}
use Rattle.convoy_machine.specs.declared.event.Event.TheVariants.{Look, Publish, Draw, Put, Take, Split, Close}
use Rattle.convoy_machine.specs.Machine.{Core, after, allows, best_after, branch_at, branches_after, halves_taken, is_left, start, taken, turned, worker_after, worker_at, worker_of}
use Rattle.convoy_machine.specs.Replays.{IsEventOf, IsFound, IsLeftIn, is_done, tickets_spent}
use Rattle.convoy_machine.proofs.BranchLists.{Any-append_left, Any-append_right, Any-set_cases, count_done-turned}
use Rattle.convoy_machine.proofs.Closing.{LeafGrounds, closed_covers}
use Rattle.convoy_machine.proofs.LawfulEvents.{close_told, free_is_open, held_is_open, split_told}

-- what the machine rests on
pub record Grounds : Type 0 where
  pub root : RootIsBox
  pub all : RootHoldsAll
  pub halves : HalvesAreBoxes
  pub part : HalvesPartition
  pub leaves : LeafGrounds

-- a worker has seen no latency above the best, and spent no ticket that it did not draw
pub record IsWorker (latency : ℕ) (worker : Worker) : Type 0 where
  pub seen : worker.seen ≤ latency
  pub spent : worker.spent ≤ worker.drawn

-- the schedule is in a branch that is left
abbrev pub IsLeftWith : Schedule → Branch → Type 0
IsLeftWith schedule branch = IsTrue (is_left branch.state) × IsIn branch.delay_box schedule

-- how many branches are done
abbrev pub done_in : List Branch → ℕ
done_in branches = count_by (λ branch. is_done branch.state) branches

-- what holds of each state
pub record IsSound (plan : Scenario) (core : Core) : Type 0 where
  pub of_scenario : core.best.scenario ≡ plan
  pub attained : IsAttained core.best
  pub workers : length core.workers ≡ WORKERS
  pub each : All (IsWorker core.best.latency) core.workers
  pub boxes : All (λ branch. IsBox plan branch.delay_box) core.branches
  pub covered : (schedule : Schedule) → IsAssignment plan schedule → (latency_of plan schedule ≤ core.best.latency) ⊎ IsLeftIn schedule core.branches
  pub spent : done_in core.branches ≡ tickets_spent core

-- how many tickets an event spends
abbrev pub cost : Event → ℕ
cost (Split worker branch packet at) = 1
cost (Close worker branch) = 1
cost event = 0

-- ---- The best record

record IsRaised (plan : Scenario) (before now : Record) : Type 0 where
  of_scenario : now.scenario ≡ plan
  attained : IsAttained now
  above : before.latency ≤ now.latency

raised_by : (plan : Scenario) (best found : Record) (greater : Bool) → nat_lt best.latency found.latency ≡ greater → best.scenario ≡ plan → found.scenario ≡ plan → IsAttained best → IsAttained found → IsRaised plan best (if greater then found else best)
raised_by plan best found true is of_best of_found of_best' of_found' =
    let below = ltb-true best.latency found.latency is in
    record { of_scenario = of_found; attained = of_found'; above = omega (arith, below) }
raised_by plan best found false is of_best of_found of_best' of_found' =
    record { of_scenario = of_best; attained = of_best'; above = omega arith }

best_is_raised : (plan : Scenario) (best : Record) (event : Event) → best.scenario ≡ plan → IsAttained best → IsEventOf plan event → IsFound event → IsRaised plan best (best_after best event)
best_is_raised plan best (Publish worker found) of_best attained of_event is_found =
    raised_by plan best found (nat_lt best.latency found.latency) refl of_best of_event attained is_found
best_is_raised plan best (Look worker) of_best attained of_event is_found =
    record { of_scenario = of_best; attained = attained; above = omega arith }
best_is_raised plan best (Draw worker) of_best attained of_event is_found =
    record { of_scenario = of_best; attained = attained; above = omega arith }
best_is_raised plan best (Put worker branch) of_best attained of_event is_found =
    record { of_scenario = of_best; attained = attained; above = omega arith }
best_is_raised plan best (Take worker branch) of_best attained of_event is_found =
    record { of_scenario = of_best; attained = attained; above = omega arith }
best_is_raised plan best (Split worker branch packet at) of_best attained of_event is_found =
    record { of_scenario = of_best; attained = attained; above = omega arith }
best_is_raised plan best (Close worker branch) of_best attained of_event is_found =
    record { of_scenario = of_best; attained = attained; above = omega arith }

-- ---- The workers

worker_is_kept : (plan : Scenario) (core : Core) (latency : ℕ) (event : Event) → allows plan core event ≡ true → core.best.latency ≤ latency → IsWorker core.best.latency (worker_at core.workers (worker_of event)) → IsWorker latency (worker_after latency (worker_at core.workers (worker_of event)) event)
worker_is_kept plan core latency (Look worker) allowed above is =
    record { seen = omega arith; spent = is.spent }
worker_is_kept plan core latency (Publish worker found) allowed above is =
    record { seen = omega arith; spent = is.spent }
worker_is_kept plan core latency (Draw worker) allowed above is =
    record { seen = omega (arith, is.seen); spent = omega (arith, is.spent) }
worker_is_kept plan core latency (Put worker branch) allowed above is =
    record { seen = omega (arith, is.seen); spent = is.spent }
worker_is_kept plan core latency (Take worker branch) allowed above is =
    record { seen = omega (arith, is.seen); spent = is.spent }
worker_is_kept plan core latency (Split worker branch packet at) allowed above is =
    let told = split_told plan core worker branch packet at allowed in
    record { seen = omega (arith, is.seen); spent = omega (arith, told.ticket) }
worker_is_kept plan core latency (Close worker branch) allowed above is =
    let told = close_told plan core worker branch allowed in
    record { seen = omega (arith, is.seen); spent = omega (arith, told.ticket) }

spent_by : (latency : ℕ) (before : Worker) (event : Event) → (worker_after latency before event).spent ≡ before.spent + cost event
spent_by latency before (Look worker) = omega arith
spent_by latency before (Publish worker found) = omega arith
spent_by latency before (Draw worker) = omega arith
spent_by latency before (Put worker branch) = omega arith
spent_by latency before (Take worker branch) = omega arith
spent_by latency before (Split worker branch packet at) = refl
spent_by latency before (Close worker branch) = refl

-- ---- The branches

done-branches_after : (plan : Scenario) (core : Core) (event : Event) → allows plan core event ≡ true → done_in (branches_after core.branches event) ≡ done_in core.branches + cost event
done-branches_after plan core (Look worker) allowed = omega arith
done-branches_after plan core (Publish worker found) allowed = omega arith
done-branches_after plan core (Draw worker) allowed = omega arith
done-branches_after plan core (Put worker branch) allowed =
    let is = held_is_open worker core.branches branch allowed in
    count_done-turned core.branches branch states.Free is.within is.left
done-branches_after plan core (Take worker branch) allowed =
    let is = free_is_open core.branches branch allowed in
    count_done-turned core.branches branch (states.Taken worker) is.within is.left
done-branches_after plan core (Split worker branch packet at) allowed =
    let told = split_told plan core worker branch packet at allowed in
    let box = (branch_at core.branches branch).delay_box in
    let weight : Branch → ℕ = λ b. if is_done b.state then 1 else 0 in
    let joined = sum_by-append weight (turned core.branches branch states.Split) (halves_taken worker box packet at) in
    omega (arith, joined, count_done-turned core.branches branch states.Split told.is_open.within told.is_open.left)
done-branches_after plan core (Close worker branch) allowed =
    let told = close_told plan core worker branch allowed in
    count_done-turned core.branches branch states.Closed told.is_open.within told.is_open.left

-- a branch that is turned keeps its box
turned_are_boxes : (plan : Scenario) (branches : List Branch) (number : ℕ) (state : BranchState) → number < length branches → All (λ branch. IsBox plan branch.delay_box) branches → All (λ branch. IsBox plan branch.delay_box) (turned branches number state)
turned_are_boxes plan branches number state within boxes =
    let Boxed : Branch → Type 0 = λ b. IsBox plan b.delay_box in
    let here = All-get_or Boxed branches number (record { delay_box = []; state = states.Closed }) within boxes in
    All-set Boxed branches number (record (branch_at branches number) { state = state }) here boxes

boxes_after : (plan : Scenario) (core : Core) (event : Event) → HalvesAreBoxes → allows plan core event ≡ true → All (λ branch. IsBox plan branch.delay_box) core.branches → All (λ branch. IsBox plan branch.delay_box) (branches_after core.branches event)
boxes_after plan core (Look worker) halves allowed boxes = boxes
boxes_after plan core (Publish worker found) halves allowed boxes = boxes
boxes_after plan core (Draw worker) halves allowed boxes = boxes
boxes_after plan core (Put worker branch) halves allowed boxes =
    turned_are_boxes plan core.branches branch states.Free (held_is_open worker core.branches branch allowed).within boxes
boxes_after plan core (Take worker branch) halves allowed boxes =
    turned_are_boxes plan core.branches branch (states.Taken worker) (free_is_open core.branches branch allowed).within boxes
boxes_after plan core (Split worker branch packet at) halves allowed boxes =
    let Boxed : Branch → Type 0 = λ b. IsBox plan b.delay_box in
    let told = split_told plan core worker branch packet at allowed in
    let box = (branch_at core.branches branch).delay_box in
    let here = All-get_or Boxed core.branches branch (record { delay_box = []; state = states.Closed }) told.is_open.within boxes in
    let both = halves plan box packet at here told.part in
    let lower = taken worker (lower_half box packet at) in
    let upper = taken worker (upper_half box packet at) in
    All-append Boxed (turned core.branches branch states.Split) (lower ∷ upper ∷ []) (turned_are_boxes plan core.branches branch states.Split told.is_open.within boxes) (All-cons Boxed lower (upper ∷ []) both.0 (All-cons Boxed upper [] both.1 (All-nil Boxed)))
boxes_after plan core (Close worker branch) halves allowed boxes =
    turned_are_boxes plan core.branches branch states.Closed (close_told plan core worker branch allowed).is_open.within boxes

-- a schedule that is left stays left where its branch is given or taken
left_turned : (schedule : Schedule) (branches : List Branch) (number : ℕ) (state : BranchState) → number < length branches → is_left state ≡ true → IsLeftIn schedule branches → IsLeftIn schedule (turned branches number state)
left_turned schedule branches number state within left is =
    let P = IsLeftWith schedule in
    let next : Branch = record (branch_at branches number) { state = state } in
    elim (Any-set_cases P branches number next (record { delay_box = []; state = states.Closed }) is) [
      | inl here ↦ any-set P branches number next within (left, here.1)
      | inr rest ↦ rest
    ]

-- where its branch is split, it is in one of the halves
left_split : (schedule : Schedule) (worker : ℕ) (branches : List Branch) (number packet at : ℕ) → HalvesPartition → CanSplit (branch_at branches number).delay_box packet at → IsLeftIn schedule branches → IsLeftIn schedule (branches_after branches (Split worker number packet at))
left_split schedule worker branches number packet at partition part is =
    let P = IsLeftWith schedule in
    let box = (branch_at branches number).delay_box in
    let next : Branch = record (branch_at branches number) { state = states.Split } in
    let first = turned branches number states.Split in
    let halves = halves_taken worker box packet at in
    let lower = taken worker (lower_half box packet at) in
    let upper = taken worker (upper_half box packet at) in
    let parts = partition box packet at schedule part in
    elim (Any-set_cases P branches number next (record { delay_box = []; state = states.Closed }) is) [
      | inl here ↦ Any-append_right P first halves (elim (cases_lt at (slice_index_or schedule.delays packet 0)) [
        | inl above ↦ (1, upper, omega arith, refl, (refl, parts.1.1 (here.1, above)))
        | inr within ↦ (0, lower, omega arith, refl, (refl, parts.0.1 (here.1, within)))
      ])
      | inr rest ↦ Any-append_left P first halves rest
    ]

-- where its branch is closed, it is no slower than what the worker has seen
left_closed : (plan : Scenario) (schedule : Schedule) (branches : List Branch) (number best : ℕ) → (IsIn (branch_at branches number).delay_box schedule → latency_of plan schedule ≤ best) → IsLeftIn schedule branches → (latency_of plan schedule ≤ best) ⊎ IsLeftIn schedule (turned branches number states.Closed)
left_closed plan schedule branches number best covers is =
    let P = IsLeftWith schedule in
    let next : Branch = record (branch_at branches number) { state = states.Closed } in
    elim (Any-set_cases P branches number next (record { delay_box = []; state = states.Closed }) is) [
      | inl here ↦ inl (covers here.1)
      | inr rest ↦ inr rest
    ]

covered_after : (plan : Scenario) (core : Core) (event : Event) (schedule : Schedule) → Grounds → IsScenario plan → IsOrder plan schedule.order → IsSound plan core → allows plan core event ≡ true → worker_of event < WORKERS → core.best.latency ≤ (best_after core.best event).latency → IsLeftIn schedule core.branches → (latency_of plan schedule ≤ (best_after core.best event).latency) ⊎ IsLeftIn schedule (branches_after core.branches event)
covered_after plan core (Look worker) schedule grounds lawful order sound allowed known above is = inr is
covered_after plan core (Publish worker found) schedule grounds lawful order sound allowed known above is = inr is
covered_after plan core (Draw worker) schedule grounds lawful order sound allowed known above is = inr is
covered_after plan core (Put worker branch) schedule grounds lawful order sound allowed known above is =
    let told = held_is_open worker core.branches branch allowed in
    inr (left_turned schedule core.branches branch states.Free told.within refl is)
covered_after plan core (Take worker branch) schedule grounds lawful order sound allowed known above is =
    let told = free_is_open core.branches branch allowed in
    inr (left_turned schedule core.branches branch (states.Taken worker) told.within refl is)
covered_after plan core (Split worker branch packet at) schedule grounds lawful order sound allowed known above is =
    let told = split_told plan core worker branch packet at allowed in
    inr (left_split schedule worker core.branches branch packet at grounds.part told.part is)
covered_after plan core (Close worker branch) schedule grounds lawful order sound allowed known above is =
    let told = close_told plan core worker branch allowed in
    let doer = worker_at core.workers worker in
    let box = (branch_at core.branches branch).delay_box in
    let Boxed : Branch → Type 0 = λ b. IsBox plan b.delay_box in
    let inside : IsBox plan box = All-get_or Boxed core.branches branch (record { delay_box = []; state = states.Closed }) told.is_open.within sound.boxes in
    let seen : IsWorker core.best.latency doer = All-get_or (IsWorker core.best.latency) core.workers worker (record { seen = 0; drawn = 0; spent = 0 }) (omega (arith, known, sound.workers)) sound.each in
    left_closed plan schedule core.branches branch core.best.latency (λ member. omega (arith, seen.seen, closed_covers plan doer.seen box schedule grounds.leaves lawful inside told.closed member order)) is

-- ---- The whole state

pub IsSound-start : (plan : Scenario) → Grounds → IsScenario plan → IsAttained (start plan).best → IsSound plan (start plan)
IsSound-start plan grounds lawful attained =
    let best = (start plan).best in
    let worker : Worker = record { seen = best.latency; drawn = 0; spent = 0 } in
    let root = taken 0 (root_of plan) in
    let Boxed : Branch → Type 0 = λ b. IsBox plan b.delay_box in
    record {
      of_scenario = refl;
      attained = attained;
      workers = length-replicate WORKERS worker;
      each = All-replicate (IsWorker best.latency) WORKERS worker (record { seen = omega arith; spent = omega arith });
      boxes = All-cons Boxed root [] (grounds.root plan lawful) (All-nil Boxed);
      covered = λ schedule is. inr (0, root, omega arith, refl, (refl, ((grounds.all plan schedule).0 is).0));
      spent = refl;
    }

pub IsSound-after : (plan : Scenario) (core : Core) (event : Event) → Grounds → IsScenario plan → IsEventOf plan event → IsFound event → worker_of event < WORKERS → allows plan core event ≡ true → IsSound plan core → IsSound plan (after core event)
IsSound-after plan core event grounds lawful of_event is_found known allowed sound =
    let best = best_after core.best event in
    let before = worker_at core.workers (worker_of event) in
    let next = worker_after best.latency before event in
    let raised = best_is_raised plan core.best event sound.of_scenario sound.attained of_event is_found in
    let above : core.best.latency ≤ best.latency = raised.above in
    let within : worker_of event < length core.workers = omega (arith, known, sound.workers) in
    let no_worker : Worker = record { seen = 0; drawn = 0; spent = 0 } in
    let here : IsWorker core.best.latency before = All-get_or (IsWorker core.best.latency) core.workers (worker_of event) no_worker within sound.each in
    let others = All-weaker (IsWorker core.best.latency) (IsWorker best.latency) (λ worker is. record { seen = omega (arith, is.seen); spent = is.spent }) core.workers sound.each in
    let weight : Worker → ℕ = λ worker. worker.spent in
    record {
      of_scenario = raised.of_scenario;
      attained = raised.attained;
      workers = length-set core.workers (worker_of event) next ∙ sound.workers;
      each = All-set (IsWorker best.latency) core.workers (worker_of event) next (worker_is_kept plan core best.latency event allowed above here) others;
      boxes = boxes_after plan core event grounds.halves allowed sound.boxes;
      covered = λ schedule is. elim (sound.covered schedule is) [
        | inl low ↦ inl (omega (arith, low))
        | inr left ↦ covered_after plan core event schedule grounds lawful is.order sound allowed known above left
      ];
      spent = omega (arith, done-branches_after plan core event allowed, sound.spent, spent_by best.latency before event, sum_by-set weight core.workers (worker_of event) next no_worker within);
    }

-- The replay of a list of events, event by event, and what holds at its end.
use Rattle.std.specs.Prelude.{◌≡◌, ℕ, ◌+◌, ◌≤◌, ◌<◌, true, List, [], ◌∷◌, length, take, drop, Result}
use Rattle.std.specs.List.{All, count_by, sum_by}
use Rattle.std.proofs.Common.{arith, refl, sym, ap, subst, ◌∙◌, inl, inr, get_or, zero, suc}
use Rattle.std.proofs.lemmas.Bool.{cond-true}
use Rattle.std.proofs.lemmas.List.{at_drop_more, take_all}
use Rattle.std.proofs.lemmas.List.Elements.{All-get_or, All-head, All-replicate, All-set, All-tail, All-weaker}
use Rattle.std.proofs.lemmas.List.Sums.{get_or-le-sum_by, sum_by-cons, sum_by_more}
use Rattle.convoy_scenario.specs.Scenario.{Scenario}
use Rattle.convoy_scenario.specs.WellFormed.{IsScenario}
use Rattle.convoy_packets.specs.Assignment.{IsAssignment, Schedule}
use Rattle.convoy_sim.specs.Delivery.{latency_of}
use Rattle.convoy_sim.specs.Record.{IsAttained}
use Rattle.convoy_machine.specs.declared.parts.TheConstants.{WORKERS}
use Rattle.convoy_machine.specs.declared.parts.Worker.{Worker}
use Rattle.convoy_machine.specs.declared.parts.Branch.{Branch}
use Rattle.convoy_machine.specs.declared.event.Event.{Event}
use Rattle.convoy_machine.specs.declared.event.Event.TheVariants.{Look, Publish, Draw, Put, Take, Split, Close}
use Rattle.convoy_machine.specs.declared.replaying.ReplayFault.{ReplayFault}
use Rattle.convoy_machine.specs.Machine.{Core, after, best_after, is_lawful, is_left, replayed, run, stands, start, worker_after, worker_at, worker_of}
use Rattle.convoy_machine.specs.Replays.{IsEventOf, IsFound, IsLeftIn, IsReplayed, ends, is_done}
use Rattle.convoy_machine.proofs.CoreSteps.{Grounds, IsSound, IsSound-after, IsSound-start, IsWorker}
use Rattle.convoy_machine.proofs.Endings.{done-after, flag}
use Rattle.convoy_machine.proofs.LawfulEvents.{lawful_parts}

-- ---- The run, from a place on

pub run-goes : (plan : Scenario) (core : Core) (events : List Event) (place : ℕ) (event : Event) → place < length events → event ≡ get_or events place event → is_lawful plan core event ≡ true → run plan place core (drop place events) ≡ run plan (place + 1) (after core event) (drop (place + 1) events)
run-goes plan core events place event within is lawful =
    let next = get_or events place event in
    let same : is_lawful plan core next ≡ true = subst (λ (e : Event). is_lawful plan core e ≡ true) is lawful in
    let F : List Event → Result Core ReplayFault = λ es. run plan place core es in
    at_drop_more F events place event within
    ∙ (cond-true (is_lawful plan core next) _ _ same
    ∙ ap (λ (e : Event). run plan (place + 1) (after core e) (drop (place + 1) events)) (sym is))

-- ---- What holds after the first events

pub record IsReached (plan : Scenario) (events : List Event) (place : ℕ) (core : Core) : Type 0 where
  pub sound : IsSound plan core
  pub once : (branch : ℕ) → count_by (ends branch) (take place events) ≡ flag (stands is_done core.branches branch)
  pub counts : All (λ worker. worker.drawn ≤ place) core.workers

drawn-after : (latency place : ℕ) (before : Worker) (event : Event) → before.drawn ≤ place → (worker_after latency before event).drawn ≤ place + 1
drawn-after latency place before (Look worker) few = omega arith
drawn-after latency place before (Publish worker found) few = omega arith
drawn-after latency place before (Draw worker) few = omega arith
drawn-after latency place before (Put worker branch) few = omega arith
drawn-after latency place before (Take worker branch) few = omega arith
drawn-after latency place before (Split worker branch packet at) few = omega arith
drawn-after latency place before (Close worker branch) few = omega arith

pub IsReached-after : (plan : Scenario) (events : List Event) (place : ℕ) (core : Core) (event : Event) → Grounds → All (IsEventOf plan) events → place < length events → event ≡ get_or events place event → IsFound event → is_lawful plan core event ≡ true → IsReached plan events place core → IsReached plan events (place + 1) (after core event)
IsReached-after plan events place core event grounds of_plan within is is_found lawful reached =
    let sound = reached.sound in
    let parts = lawful_parts plan core event lawful in
    let scenario : IsScenario plan = subst IsScenario sound.of_scenario sound.attained.scenario in
    let of_event : IsEventOf plan event = subst (IsEventOf plan) (sym is) (All-get_or (IsEventOf plan) events place event within of_plan) in
    let known : worker_of event < length core.workers = omega (arith, parts.0, sound.workers) in
    let no_worker : Worker = record { seen = 0; drawn = 0; spent = 0 } in
    let Few : Worker → Type 0 = λ worker. worker.drawn ≤ place in
    let More : Worker → Type 0 = λ worker. worker.drawn ≤ place + 1 in
    let before = worker_at core.workers (worker_of event) in
    let latency = (best_after core.best event).latency in
    let here : before.drawn ≤ place = All-get_or Few core.workers (worker_of event) no_worker known reached.counts in
    record {
      sound = IsSound-after plan core event grounds scenario of_event is_found parts.0 parts.1 sound;
      once = λ branch. (
          let weight : Event → ℕ = λ e. flag (ends branch e) in
          let more = sum_by_more weight events place event within in
          let this : weight event ≡ weight (get_or events place event) = ap weight is in
          omega (arith, more, this, reached.once branch, done-after plan core event branch parts.1)
          );
      counts = All-set More core.workers (worker_of event) (worker_after latency before event) (drawn-after latency place before event here) (All-weaker Few More (λ worker few. omega (arith, few)) core.workers reached.counts);
    }

-- where replaying stands: the run from here on is the whole run, and the state is one that the events before lead to
pub record IsReplaying (plan : Scenario) (events : List Event) (place : ℕ) (core : Core) : Type 0 where
  pub so_far : run plan place core (drop place events) ≡ replayed plan events
  pub reached : IsReached plan events place core

pub IsReplaying-start : (plan : Scenario) (events : List Event) (core : Core) → Grounds → core ≡ start plan → IsAttained core.best → IsReplaying plan events 0 core
unfolding replayed
IsReplaying-start plan events core grounds is attained =
    let at_start : IsAttained (start plan).best = subst (λ (m : Core). IsAttained m.best) is attained in
    let worker : Worker = record { seen = (start plan).best.latency; drawn = 0; spent = 0 } in
    let first : IsReplaying plan events 0 (start plan) = record {
      so_far = refl;
      reached = record {
        sound = IsSound-start plan grounds at_start.scenario at_start;
        once = not_yet;
        counts = All-replicate (λ w. w.drawn ≤ 0) WORKERS worker (omega arith);
      };
    } in
    subst (IsReplaying plan events 0) (sym is) first where
      not_yet : (branch : ℕ) → 0 ≡ flag (stands is_done (start plan).branches branch)
      not_yet zero = refl
      not_yet (suc branch) = refl

pub IsReplaying-after : (plan : Scenario) (events : List Event) (place : ℕ) (core next : Core) (event : Event) → Grounds → All (IsEventOf plan) events → place < length events → event ≡ get_or events place event → IsFound event → is_lawful plan core event ≡ true → next ≡ after core event → IsReplaying plan events place core → IsReplaying plan events (place + 1) next
IsReplaying-after plan events place core next event grounds of_plan within is is_found lawful next_is replaying =
    let here : IsReplaying plan events (place + 1) (after core event) = record {
      so_far = sym (run-goes plan core events place event within is lawful) ∙ replaying.so_far;
      reached = IsReached-after plan events place core event grounds of_plan within is is_found lawful replaying.reached;
    } in
    subst (IsReplaying plan events (place + 1)) (sym next_is) here

-- ---- The end

spent-le-drawn : (latency : ℕ) (workers : List Worker) → All (IsWorker latency) workers → sum_by (λ worker. worker.spent) workers ≤ sum_by (λ worker. worker.drawn) workers
spent-le-drawn latency [] each = omega arith
spent-le-drawn latency (worker ∷ workers) each =
    let first = All-head (IsWorker latency) worker workers each in
    let rest = spent-le-drawn latency workers (All-tail (IsWorker latency) worker workers each) in
    omega (arith, first.spent, rest, sum_by-cons (λ (w : Worker). w.spent) worker workers, sum_by-cons (λ (w : Worker). w.drawn) worker workers)

-- a branch that is left counts
left_counts : (schedule : Schedule) (branches : List Branch) → IsLeftIn schedule branches → count_by (λ branch. is_left branch.state) branches ≡ 0 → ⊥
left_counts schedule branches is none =
    let weight : Branch → ℕ = λ branch. flag (is_left branch.state) in
    let at : weight (get_or branches is.0 is.1) ≡ 1 = ap weight is.3 ∙ ap flag is.4.0 in
    omega (arith, at, none, get_or-le-sum_by weight branches is.0 is.1 is.2)

pub IsReplayed-end : (plan : Scenario) (events : List Event) (place : ℕ) (core : Core) → length events ≤ place → IsReached plan events place core → IsReplayed plan events core
IsReplayed-end plan events place core past reached =
    let sound = reached.sound in
    record {
      of_scenario = sound.of_scenario;
      attained = sound.attained;
      covered = sound.covered;
      greatest = λ none. record {
        reached = subst (λ (scenario : Scenario). (schedule : Schedule) × IsAssignment scenario schedule × (latency_of scenario schedule ≡ core.best.latency)) sound.of_scenario (core.best.schedule, sound.attained.assignment, sym sound.attained.latency);
        upper = λ schedule is. elim (sound.covered schedule is) [
          | inl low ↦ low
          | inr left ↦ absurd (left_counts schedule core.branches left none)
        ];
      };
      once = λ branch. subst (λ (es : List Event). count_by (ends branch) es ≡ flag (stands is_done core.branches branch)) (take_all place events past) (reached.once branch);
      spent = sound.spent;
      own = All-weaker (IsWorker core.best.latency) (λ worker. worker.spent ≤ worker.drawn) (λ worker is. is.spent) core.workers sound.each;
      drawn = spent-le-drawn core.best.latency core.workers sound.each;
    }

-- What a search answers at its end.
use Rattle.std.specs.Prelude.{◌≡◌, ◌≢◌, ℕ, ◌≤◌, ◌<◌, Bool, false, List, [], ◌∷◌, ◌++◌, length, map, reverse}
use Rattle.std.specs.List.{list_any, sum}
use Rattle.std.proofs.Common.{arith, refl, sym, ap, subst, ◌∙◌, length-append}
use Rattle.std.proofs.lemmas.List.{map_push}
use Rattle.convoy_scenario.specs.Scenario.{Scenario}
use Rattle.convoy_branch.specs.declared.bounds.Bounds.{Bounds}
use Rattle.convoy_branch.specs.declared.bounds.Bounds.TheVariants.{Plain, Lead}
use Rattle.convoy_branch.specs.Uppers.{IsUpperOf}
use Rattle.convoy_scenario.specs.WellFormed.{IsScenario}
use Rattle.convoy_packets.specs.Assignment.{IsAssignment, Schedule}
use Rattle.convoy_sim.specs.Delivery.{latency_of}
use Rattle.convoy_sim.specs.Record.{Record, IsAttained}
use Rattle.convoy_certificate.specs.Certificate.{Certificate}
use Rattle.convoy_certificate.specs.Text.{is_lead, is_stamp}
use Rattle.convoy_certificate.specs.declared.node.Node.{Node}
use Rattle.convoy_regions.specs.Branches as regions
use Rattle.convoy_regions.specs.Regions.{Region, root_region}
use Rattle.convoy_checker.specs.TreeLaws.{TreesCover}
use Rattle.convoy_checker.specs.Validity.{IsValid}
use Rattle.convoy_branch.specs.declared.search.Work.{Work}
use Rattle.convoy_branch.specs.declared.search.Work.TheVariants.{Branch}
use Rattle.convoy_branch.specs.Fronts.{AreFronts, FrontNode, Left, Spent, IsFront, left_in}
use Rattle.convoy_branch.specs.FrontLaws.{FrontsBound}
use Rattle.convoy_branch.specs.Outcomes.{AreTicketsByWorker, IsProved, IsOpen}
use Rattle.convoy_branch.specs.Searching.{IsSearching, front_of, front_nodes}
use Rattle.convoy_branch.proofs.FrontTrees.{AreTrees-spent, no_leads-spent, no_stamps-spent}
use Rattle.convoy_branch.proofs.Readable.{AreReadable-spent}
use Rattle.convoy_branch.proofs.FrontCounts.{spent_in-spent, left_in-append, left_in-append_spent}

-- the schedule of the best record is an assignment of the scenario, and has its latency there
pub best_assigned : (plan : Scenario) (best : Record) → best.scenario ≡ plan → IsAttained best → IsAssignment plan best.schedule
best_assigned plan best scenario attained =
    subst (λ (p : Scenario). IsAssignment p best.schedule) scenario attained.assignment

best_latency : (plan : Scenario) (best : Record) → best.scenario ≡ plan → IsAttained best → latency_of plan best.schedule ≡ best.latency
best_latency plan best scenario attained =
    ap (λ (p : Scenario). latency_of p best.schedule) (sym scenario) ∙ sym attained.latency

-- with no work left the nodes are the tree of a valid certificate
abbrev certificate_of : Scenario → Record → List Node → Certificate
certificate_of plan best nodes =
    record { scenario = plan; latency = best.latency; schedule = best.schedule; nodes = reverse nodes }

valid : (bounds : Bounds) (plan : Scenario) (best : Record) (nodes : List Node) (tickets : ℕ) → IsAttained best → IsSearching bounds plan best [] nodes tickets → IsValid (certificate_of plan best nodes)
valid bounds plan best nodes tickets attained searching = record {
  latency = best_latency plan best searching.of_scenario attained;
  tree = AreTrees-spent bounds plan best.latency (reverse nodes) (root_region plan ∷ []) searching.tree;
}

no_stamps : (bounds : Bounds) (plan : Scenario) (best : Record) (nodes : List Node) (tickets : ℕ) → IsSearching bounds plan best [] nodes tickets → bounds ≡ Plain → list_any is_stamp (reverse nodes) ≡ false
no_stamps bounds plan best nodes tickets searching plain =
    no_stamps-spent plan best.latency (reverse nodes) (root_region plan ∷ []) (subst (λ (b : Bounds). AreFronts b plan best.latency (root_region plan ∷ []) (map Spent (reverse nodes))) plain searching.tree)

no_leads : (bounds : Bounds) (plan : Scenario) (best : Record) (nodes : List Node) (tickets : ℕ) → IsSearching bounds plan best [] nodes tickets → bounds ≢ Lead → list_any is_lead (reverse nodes) ≡ false
no_leads bounds plan best nodes tickets searching other =
    no_leads-spent bounds plan best.latency (reverse nodes) (root_region plan ∷ []) other searching.tree

-- the tickets of one worker are all
one_share : (tickets : ℕ) (by_worker : List ℕ) → by_worker ≡ tickets ∷ [] → AreTicketsByWorker 1 tickets by_worker
one_share tickets by_worker workers =
    record { each = ap (λ (ts : List ℕ). length ts) workers; all = ap (λ (ts : List ℕ). sum ts) workers ∙ omega arith }

-- the nodes that are written are as many as the tickets
nodes_spent : (bounds : Bounds) (plan : Scenario) (best : Record) (nodes : List Node) (tickets : ℕ) → IsSearching bounds plan best [] nodes tickets → length (reverse nodes) ≡ tickets
nodes_spent bounds plan best nodes tickets searching = ap length (sym (spent_in-spent (reverse nodes))) ∙ searching.spent

IsProved-certificate : (bounds : Bounds) (plan : Scenario) (best : Record) (nodes : List Node) (tickets limit : ℕ) (by_worker : List ℕ) → TreesCover → IsScenario plan → IsAttained best → IsSearching bounds plan best [] nodes tickets → by_worker ≡ tickets ∷ [] → tickets ≤ limit → IsProved bounds plan 1 limit (certificate_of plan best nodes) tickets by_worker
IsProved-certificate bounds plan best nodes tickets limit by_worker cover lawful attained searching workers few =
    let is_valid = valid bounds plan best nodes tickets attained searching in
    let spent = nodes_spent bounds plan best nodes tickets searching in
    record {
      of_scenario = refl;
      valid = is_valid;
      greatest = record {
        reached = (best.schedule, best_assigned plan best searching.of_scenario attained, best_latency plan best searching.of_scenario attained);
        upper = cover plan best.latency (reverse nodes) lawful is_valid.tree;
      };
      nodes = spent;
      plain = no_stamps bounds plan best nodes tickets searching;
      no_leads = no_leads bounds plan best nodes tickets searching;
      few = few;
      readable = λ within. AreReadable-spent bounds plan best.latency (reverse nodes) (root_region plan ∷ []) searching.tree (omega (arith, spent, few, within));
      shares = one_share tickets by_worker workers;
    }

pub IsProved-done : (bounds : Bounds) (plan : Scenario) (best : Record) (nodes : List Node) (tickets limit latency : ℕ) (schedule : Schedule) (scenario : Scenario) (turned : List Node) (certificate : Certificate) (by_worker : List ℕ) → TreesCover → IsScenario plan → IsAttained best → IsSearching bounds plan best [] nodes tickets → certificate ≡ record { scenario = scenario; latency = latency; schedule = schedule; nodes = turned } → scenario ≡ plan → latency ≡ best.latency → schedule ≡ best.schedule → turned ≡ reverse nodes → by_worker ≡ tickets ∷ [] → tickets ≤ limit → IsProved bounds plan 1 limit certificate tickets by_worker
IsProved-done bounds plan best nodes tickets limit latency schedule scenario turned certificate by_worker cover lawful attained searching is same_scenario same_latency same_delays same_nodes workers few =
    let whole : certificate ≡ certificate_of plan best nodes = cc in
    subst (λ (c : Certificate). IsProved bounds plan 1 limit c tickets by_worker) (sym whole) (IsProved-certificate bounds plan best nodes tickets limit by_worker cover lawful attained searching workers few)

-- with a region left the front is open
left : (work : List Work) (branch : regions.Branch) (tried : Bool) (nodes : List Node) → left_in (front_nodes (work ++ Branch branch tried ∷ []) nodes) ≡ left_in (map front_of (work ++ Branch branch tried ∷ []))
left work branch tried nodes = left_in-append_spent (map front_of (work ++ Branch branch tried ∷ [])) (reverse nodes)

last_of : (work : List Work) (branch : regions.Branch) (tried : Bool) → left_in (map front_of (work ++ Branch branch tried ∷ [])) ≡ left_in (map front_of work) ++ branch.region ∷ []
last_of work branch tried =
    ap (λ (front : List FrontNode). left_in front) (map_push front_of work (Branch branch tried)) ∙ left_in-append (map front_of work) (Left branch.region ∷ [])

some_left : (work : List Work) (branch : regions.Branch) (tried : Bool) (nodes : List Node) → 0 < length (left_in (front_nodes (work ++ Branch branch tried ∷ []) nodes))
some_left work branch tried nodes =
    omega (arith, ap length (left work branch tried nodes ∙ last_of work branch tried), length-append (left_in (map front_of work)) (branch.region ∷ []))

front_left : (bounds : Bounds) (plan : Scenario) (best : Record) (work pushed : List Work) (branch : regions.Branch) (tried : Bool) (nodes : List Node) (tickets latency upper : ℕ) → IsAttained best → IsSearching bounds plan best (work ++ Branch branch tried ∷ []) nodes tickets → pushed ≡ work ++ Branch branch tried ∷ [] → latency ≡ best.latency → IsUpperOf bounds plan latency (left_in (map front_of pushed)) upper → IsFront bounds plan best.latency upper tickets
front_left bounds plan best work pushed branch tried nodes tickets latency upper attained searching pushed_is latency_is upper_is =
    let same : left_in (map front_of pushed) ≡ left_in (front_nodes (work ++ Branch branch tried ∷ []) nodes) = ap (λ (w : List Work). left_in (map front_of w)) pushed_is ∙ sym (left work branch tried nodes) in
    let over_best : IsUpperOf bounds plan best.latency (left_in (map front_of pushed)) upper = subst (λ (n : ℕ). IsUpperOf bounds plan n (left_in (map front_of pushed)) upper) latency_is upper_is in
    record {
      nodes = front_nodes (work ++ Branch branch tried ∷ []) nodes;
      tree = searching.tree;
      spent = searching.spent;
      left = some_left work branch tried nodes;
      reached = (best.schedule, best_assigned plan best searching.of_scenario attained, best_latency plan best searching.of_scenario attained);
      least = searching.least;
      upper_is = subst (λ (rs : List Region). IsUpperOf bounds plan best.latency rs upper) same over_best;
    }

pub IsOpen-left : (bounds : Bounds) (plan : Scenario) (best : Record) (work pushed : List Work) (branch : regions.Branch) (tried : Bool) (nodes : List Node) (tickets latency upper : ℕ) (by_worker : List ℕ) → FrontsBound → IsScenario plan → IsAttained best → IsSearching bounds plan best (work ++ Branch branch tried ∷ []) nodes tickets → pushed ≡ work ++ Branch branch tried ∷ [] → latency ≡ best.latency → IsUpperOf bounds plan latency (left_in (map front_of pushed)) upper → by_worker ≡ tickets ∷ [] → IsOpen bounds plan 1 tickets best upper tickets by_worker
IsOpen-left bounds plan best work pushed branch tried nodes tickets latency upper by_worker bound lawful attained searching pushed_is latency_is upper_is workers =
    let front = front_left bounds plan best work pushed branch tried nodes tickets latency upper attained searching pushed_is latency_is upper_is in
    record {
      of_scenario = searching.of_scenario;
      reached = front.reached;
      none_greater = bound bounds plan best.latency upper tickets lawful front;
      front = front;
      all = refl;
      shares = one_share tickets by_worker workers;
    }

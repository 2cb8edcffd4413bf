-- How far a search has come after each of its steps.
use Rattle.std.specs.Prelude.{◌≡◌, ℕ, ◌+◌, ◌≤◌, Bool, false, List, [], ◌∷◌, ◌++◌, length, map, reverse, Option, Some, Result, Ok, Err, OnOk, unwrap_or}
use Rattle.std.specs.List.{All}
use Rattle.std.proofs.Common.{arith, refl, sym, ap, subst, ◌∙◌, append_assoc}
use Rattle.std.proofs.lemmas.List.{map_push, reverse-append, length_push}
use Rattle.std.proofs.lemmas.Bool.{false≢true}
use Rattle.std.proofs.lemmas.List.Elements.{All-cons, All-head, All-nil, All-pop, All-push, All-tail, All-weaker}
use Rattle.convoy_scenario.specs.Scenario.{Scenario}
use Rattle.convoy_branch.specs.declared.bounds.Bounds.{Bounds}
use Rattle.convoy_packets.specs.Table.{IsTable, table_of}
use Rattle.convoy_sim.specs.Delivery.{latency_of}
use Rattle.convoy_sim.specs.Record.{Record}
use Rattle.convoy_certificate.specs.Certificate.{IsNode}
use Rattle.convoy_certificate.specs.declared.node.Node.{Node}
use Rattle.convoy_certificate.specs.declared.node.Node.TheVariants.{Split, Order, Bound, Point, Stamp, Lead}
use Rattle.convoy_regions.specs.Branches as regions
use Rattle.convoy_regions.specs.Regions.{Region, IsRegion, root_region, run_of}
use Rattle.convoy_regions.specs.RegionLaws.{HalvesAreRegions}
use Rattle.convoy_checker.specs.Trees.{regions_below}
use Rattle.convoy_branch.specs.declared.search.Search.{Search}
use Rattle.convoy_branch.specs.declared.search.Work.{Work}
use Rattle.convoy_branch.specs.declared.search.Work.TheVariants.{Branch, Write}
use Rattle.convoy_branch.specs.declared.step.Turn.{Turn}
use Rattle.convoy_branch.specs.declared.step.Turn.TheVariants.{Closed, Halves}
use Rattle.convoy_branch.specs.Fronts.{AreFronts, FrontNode, Spent, Left, front_after, spent_in}
use Rattle.convoy_branch.specs.Steps.{AreHalves, IsFound, IsSplitOf, IsTurn, known_after}
use Rattle.convoy_branch.specs.Searching.{HasTurned, IsSearching, IsWork, front_of, front_nodes, work_after, nodes_after}
use Rattle.convoy_branch.proofs.FrontTrees.{AreFronts-better, AreFronts-filled, AreFronts-turned}
use Rattle.convoy_branch.proofs.FrontCounts.{spent_in-turned}
use Rattle.convoy_branch.proofs.BetterRecords.{IsNoWorse-found}
use Rattle.convoy_branch.proofs.SplitNodes.{leaf_node, split_node}

-- the front, with the last piece of work or the last node apart
abbrev done : List Node → List FrontNode
done nodes = map Spent (reverse nodes)

front-pushed : (work : List Work) (piece : Work) (rest : List FrontNode) → map front_of (work ++ piece ∷ []) ++ rest ≡ map front_of work ++ front_of piece ∷ rest
front-pushed work piece rest =
    ap (λ (front : List FrontNode). front ++ rest) (map_push front_of work piece) ∙ append_assoc (map front_of work) (front_of piece ∷ []) rest

front-written : (work : List Work) (node : Node) (nodes : List Node) → front_nodes work (nodes ++ node ∷ []) ≡ map front_of work ++ Spent node ∷ done nodes
front-written work node nodes =
    ap (λ (ns : List Node). map front_of work ++ map Spent ns) (reverse-append nodes (node ∷ []))

front-halved : (work : List Work) (first second third : Work) (rest : List FrontNode) → map front_of (((work ++ first ∷ []) ++ second ∷ []) ++ third ∷ []) ++ rest ≡ map front_of work ++ front_of first ∷ front_of second ∷ front_of third ∷ rest
front-halved work first second third rest =
    front-pushed ((work ++ first ∷ []) ++ second ∷ []) third rest ∙ front-pushed (work ++ first ∷ []) second (front_of third ∷ rest) ∙ front-pushed work first (front_of second ∷ front_of third ∷ rest)

-- the last piece of work, and the rest
All-front : {X : Type 0} (P : X → Type 0) (xs : List X) (x : X) → All P (xs ++ x ∷ []) → All P xs × P x
All-front P xs x all = All-pop P (xs ++ x ∷ []) xs (Some x) refl all

All-two : {X : Type 0} (P : X → Type 0) {x y : X} → P x → P y → All P (x ∷ y ∷ [])
All-two P {x} {y} first second = All-cons P x (y ∷ []) first (All-cons P y [] second (All-nil P))

-- a front of that many nodes that is right for a latency
abbrev IsFrontOf : Bounds → Scenario → ℕ → ℕ → List FrontNode → Type 0
IsFrontOf bounds plan latency tickets front =
    AreFronts bounds plan latency (root_region plan ∷ []) front × (length (spent_in front) ≡ tickets)

-- a better record leaves what waits as it is
IsWork-better : (plan : Scenario) (best better : ℕ) (piece : Work) → best ≤ better → IsWork plan best piece → IsWork plan better piece
IsWork-better plan best better (Branch branch tried) above is =
    (is.0, λ told. (let known : latency_of plan (run_of plan branch.region) ≤ best = is.1 told in omega arith), is.2)
IsWork-better plan best better (Write node) above is = is

-- a search with a better record
better : (bounds : Bounds) (plan : Scenario) (best next : Record) (work : List Work) (nodes : List Node) (tickets : ℕ) → next.scenario ≡ plan → best.latency ≤ next.latency → IsSearching bounds plan best work nodes tickets → IsSearching bounds plan next work nodes tickets
better bounds plan best next work nodes tickets scenario above searching = record {
  of_scenario = scenario;
  least = omega (arith, searching.least);
  tree = AreFronts-better bounds plan best.latency next.latency (front_nodes work nodes) (root_region plan ∷ []) above searching.tree;
  spent = searching.spent;
  all_work = All-weaker (IsWork plan best.latency) (IsWork plan next.latency) (λ piece is. IsWork-better plan best.latency next.latency piece above is) work searching.all_work;
  all_nodes = searching.all_nodes;
}

-- the next piece of work is a node: it is written
pub IsSearching-written : (bounds : Bounds) (plan : Scenario) (best : Record) (work : List Work) (nodes : List Node) (tickets : ℕ) (node : Node) → IsSearching bounds plan best (work ++ Write node ∷ []) nodes tickets → IsSearching bounds plan best work (nodes ++ node ∷ []) tickets
IsSearching-written bounds plan best work nodes tickets node searching =
    let same : front_nodes (work ++ Write node ∷ []) nodes ≡ front_nodes work (nodes ++ node ∷ []) = front-pushed work (Write node) (done nodes) ∙ sym (front-written work node nodes) in
    let front : IsFrontOf bounds plan best.latency tickets (front_nodes work (nodes ++ node ∷ [])) = subst (λ (f : List FrontNode). IsFrontOf bounds plan best.latency tickets f) same (searching.tree, searching.spent) in
    let parts = All-front (IsWork plan best.latency) work (Write node) searching.all_work in
    record {
      of_scenario = searching.of_scenario;
      least = searching.least;
      tree = front.0;
      spent = front.1;
      all_work = parts.0;
      all_nodes = All-push (IsNode plan) nodes node searching.all_nodes parts.1;
    }

-- the same by what the program makes of its two lists
pub IsSearching-popped : (bounds : Bounds) (plan : Scenario) (best : Record) (work rest : List Work) (nodes next : List Node) (tickets : ℕ) (piece : Work) (node : Node) → work ≡ rest ++ piece ∷ [] → piece ≡ Write node → next ≡ nodes ++ node ∷ [] → IsSearching bounds plan best work nodes tickets → IsSearching bounds plan best rest next tickets
IsSearching-popped bounds plan best work rest nodes next tickets piece node popped is written searching =
    let whole : work ≡ rest ++ Write node ∷ [] = popped ∙ ap (λ (w : Work). rest ++ w ∷ []) is in
    let last = subst (λ (ws : List Work). IsSearching bounds plan best ws nodes tickets) whole searching in
    subst (λ (ns : List Node). IsSearching bounds plan best rest ns tickets) (sym written) (IsSearching-written bounds plan best rest nodes tickets node last)

-- the front of a search that takes up a region
taken : (bounds : Bounds) (plan : Scenario) (best : Record) (work : List Work) (nodes : List Node) (tickets : ℕ) (branch : regions.Branch) (tried : Bool) → IsSearching bounds plan best (work ++ Branch branch tried ∷ []) nodes tickets → IsFrontOf bounds plan best.latency tickets (map front_of work ++ Left branch.region ∷ done nodes)
taken bounds plan best work nodes tickets branch tried searching =
    subst (λ (f : List FrontNode). IsFrontOf bounds plan best.latency tickets f) (front-pushed work (Branch branch tried) (done nodes)) (searching.tree, searching.spent)

-- what became of a region takes its place in the front
front_turned : (work : List Work) (nodes : List Node) (turn : Turn) → front_nodes (work_after work turn) (nodes_after nodes turn) ≡ map front_of work ++ (front_after turn ++ done nodes)
front_turned work nodes (Closed node) = front-written work node nodes
front_turned work nodes (Halves split first second tried) =
    front-halved work (Write split) (Branch first false) (Branch second tried) (done nodes)

nodes_turned : (bounds : Bounds) (plan : Scenario) (known : ℕ) (nodes : List Node) (region : Region) (turn : Turn) → IsTurn bounds plan region known turn → All (IsNode plan) nodes → All (IsNode plan) (nodes_after nodes turn)
nodes_turned bounds plan known nodes region (Closed node) turn all =
    All-push (IsNode plan) nodes node all (leaf_node bounds plan known region node turn)
nodes_turned bounds plan known nodes region (Halves split first second tried) turn all = all

-- what is below a split of a region are regions
below_are_regions : (plan : Scenario) (split : Node) (region : Region) → HalvesAreRegions → IsRegion plan region → IsSplitOf plan split region → All (IsRegion plan) (regions_below plan split region)
below_are_regions plan (Split packet at) region law lawful part =
    let halves = (law plan region lawful).0 packet at part in All-two (IsRegion plan) halves.0 halves.1
below_are_regions plan (Order first second) region law lawful part =
    let halves = (law plan region lawful).1 first second part.1 in All-two (IsRegion plan) halves.0 halves.1
below_are_regions plan Bound region law lawful part = absurd part
below_are_regions plan Point region law lawful part = absurd part
below_are_regions plan Stamp region law lawful part = absurd part
below_are_regions plan (Lead latency) region law lawful part = absurd part

-- the halves of a region wait to be taken up: both are regions of the scenario, and it is told whether the run of the second was tried
pub record HalvesWait (plan : Scenario) (known : ℕ) (first second : regions.Branch) (tried : Bool) : Type 0 where
  pub first_waits : IsWork plan known (Branch first false)
  pub second_waits : IsWork plan known (Branch second tried)

halves_wait : (bounds : Bounds) (plan : Scenario) (known : ℕ) (region : Region) (split : Node) (first second : regions.Branch) (tried : Bool) → HalvesAreRegions → IsRegion plan region → AreHalves bounds plan region known split first second tried → HalvesWait plan known first second tried
halves_wait bounds plan known region split first second tried law lawful halves =
    let below = subst (λ (rs : List Region). All (IsRegion plan) rs) halves.halves (below_are_regions plan split region law lawful halves.part) in
    let rest = All-tail (IsRegion plan) first.region (second.region ∷ []) below in
    record {
      first_waits = (All-head (IsRegion plan) first.region (second.region ∷ []) below, λ told. absurd (false≢true told), halves.first_of);
      second_waits = (All-head (IsRegion plan) second.region [] rest, halves.is_tried, halves.second_of);
    }

work_turned : (bounds : Bounds) (plan : Scenario) (known : ℕ) (work : List Work) (region : Region) (turn : Turn) → HalvesAreRegions → IsTable (table_of plan) → IsRegion plan region → IsTurn bounds plan region known turn → All (IsWork plan known) work → All (IsWork plan known) (work_after work turn)
work_turned bounds plan known work region (Closed node) law table lawful turn all = all
work_turned bounds plan known work region (Halves split first second tried) law table lawful turn all =
    let Waits = IsWork plan known in
    let halves = halves_wait bounds plan known region split first second tried law lawful turn in
    let with_split = All-push Waits work (Write split) all (split_node plan split region table lawful turn.part) in
    let with_first = All-push Waits (work ++ Write split ∷ []) (Branch first false) with_split halves.first_waits in
    All-push Waits ((work ++ Write split ∷ []) ++ Branch first false ∷ []) (Branch second tried) with_first halves.second_waits

-- a region is taken up, and what becomes of it is known
turned : (bounds : Bounds) (plan : Scenario) (best : Record) (work : List Work) (nodes : List Node) (tickets : ℕ) (branch : regions.Branch) (tried : Bool) (turn : Turn) → HalvesAreRegions → IsTable (table_of plan) → IsTurn bounds plan branch.region best.latency turn → IsSearching bounds plan best (work ++ Branch branch tried ∷ []) nodes tickets → IsSearching bounds plan best (work_after work turn) (nodes_after nodes turn) (tickets + 1)
turned bounds plan best work nodes tickets branch tried turn law table is searching =
    let old = taken bounds plan best work nodes tickets branch tried searching in
    let tree = AreFronts-filled bounds plan best.latency branch.region (front_after turn) (AreFronts-turned bounds plan best.latency branch.region turn is) (map front_of work) (done nodes) (root_region plan ∷ []) old.0 in
    let spent : length (spent_in (map front_of work ++ (front_after turn ++ done nodes))) ≡ tickets + 1 = omega (arith, spent_in-turned (map front_of work) (done nodes) branch.region turn, old.1) in
    let front = subst (λ (f : List FrontNode). IsFrontOf bounds plan best.latency (tickets + 1) f) (sym (front_turned work nodes turn)) (tree, spent) in
    let parts = All-front (IsWork plan best.latency) work (Branch branch tried) searching.all_work in
    record {
      of_scenario = searching.of_scenario;
      least = searching.least;
      tree = front.0;
      spent = front.1;
      all_work = work_turned bounds plan best.latency work branch.region turn law table parts.1.0 is parts.0;
      all_nodes = nodes_turned bounds plan best.latency nodes branch.region turn is searching.all_nodes;
    }

-- the search with the record that a step has found
found : (bounds : Bounds) (plan : Scenario) (best : Record) (work : List Work) (nodes : List Node) (tickets : ℕ) (region : Region) (noted : Option Record) → IsFound bounds plan region best.latency noted → IsSearching bounds plan best work nodes tickets → IsSearching bounds plan (unwrap_or noted best) work nodes tickets
found bounds plan best work nodes tickets region noted is searching =
    let no_worse = IsNoWorse-found bounds plan best region noted searching.of_scenario is in
    better bounds plan best (unwrap_or noted best) work nodes tickets no_worse.scenario no_worse.above searching

-- a step that spends a ticket for the region
IsSearching-step : (bounds : Bounds) (plan : Scenario) (best : Record) (work : List Work) (nodes : List Node) (tickets : ℕ) (branch : regions.Branch) (tried : Bool) (noted : Option Record) (turn : Turn) → HalvesAreRegions → IsTable (table_of plan) → IsFound bounds plan branch.region best.latency noted → IsTurn bounds plan branch.region (known_after best.latency noted) turn → IsSearching bounds plan best (work ++ Branch branch tried ∷ []) nodes tickets → IsSearching bounds plan (unwrap_or noted best) (work_after work turn) (nodes_after nodes turn) (tickets + 1)
IsSearching-step bounds plan best work nodes tickets branch tried noted turn law table is_found is searching =
    let next = unwrap_or noted best in
    let no_worse = IsNoWorse-found bounds plan best branch.region noted searching.of_scenario is_found in
    let turn_is : IsTurn bounds plan branch.region next.latency turn = subst (λ (n : ℕ). IsTurn bounds plan branch.region n turn) no_worse.known is in
    turned bounds plan next work nodes tickets branch tried turn law table turn_is (found bounds plan best (work ++ Branch branch tried ∷ []) nodes tickets branch.region noted is_found searching)

-- a turn adds three pieces of work at most
pub length-work_after : (work : List Work) (turn : Turn) → length (work_after work turn) ≤ length work + 3
length-work_after work (Closed node) = omega arith
length-work_after work (Halves split first second tried) =
    omega (arith, length_push ((work ++ Write split ∷ []) ++ Branch first false ∷ []) (Branch second tried), length_push (work ++ Write split ∷ []) (Branch first false), length_push work (Write split))

-- the same by what the program makes of its parts
pub HasTurned-taken : (bounds : Bounds) (plan : Scenario) (old new : Search) (seen : ℕ) (branch : regions.Branch) (tried : Bool) (noted : Option Record) (turn : Turn) → HalvesAreRegions → IsTable (table_of plan) → seen ≡ old.best.latency → IsFound bounds plan branch.region seen noted → IsTurn bounds plan branch.region (known_after seen noted) turn → new.best ≡ unwrap_or noted old.best → new.work.items ≡ work_after old.work.items turn → new.nodes.items ≡ nodes_after old.nodes.items turn → new.tickets ≡ old.tickets + 1 → IsSearching bounds plan old.best (old.work.items ++ Branch branch tried ∷ []) old.nodes.items old.tickets → HasTurned bounds plan old new
HasTurned-taken bounds plan old new seen branch tried noted turn law table seen_is found_is is best_is work_is nodes_is tickets_is searching =
    let found_is' : IsFound bounds plan branch.region old.best.latency noted = subst (λ (n : ℕ). IsFound bounds plan branch.region n noted) seen_is found_is in
    let is' : IsTurn bounds plan branch.region (known_after old.best.latency noted) turn = subst (λ (n : ℕ). IsTurn bounds plan branch.region (known_after n noted) turn) seen_is is in
    record {
      searching = rw (best_is, work_is, nodes_is, tickets_is) (IsSearching-step bounds plan old.best old.work.items old.nodes.items old.tickets branch tried noted turn law table found_is' is' searching);
      ticket = tickets_is;
      few = omega (arith, ap length work_is, length-work_after old.work.items turn);
    }

-- the region that is next is one of the scenario, and it is known whether its run was tried
pub next_is : (bounds : Bounds) (plan : Scenario) (best : Record) (work : List Work) (nodes : List Node) (tickets : ℕ) (branch : regions.Branch) (tried : Bool) → IsSearching bounds plan best (work ++ Branch branch tried ∷ []) nodes tickets → IsWork plan best.latency (Branch branch tried)
next_is bounds plan best work nodes tickets branch tried searching = (All-front (IsWork plan best.latency) work (Branch branch tried) searching.all_work).1

-- what follows from four facts that hold where all went well
pub on_ok_all : {X E : Type 0} (result : Result X E) {A B C D Q : Type 0} → OnOk result A → OnOk result B → OnOk result C → OnOk result D → (A → B → C → D → Q) → OnOk result Q
on_ok_all (Ok x) a b c d all = all a b c d
on_ok_all (Err error) a b c d all = tt

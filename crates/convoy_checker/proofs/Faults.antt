-- There is no fault just where all is right: of a node, of trees over regions, and of a certificate.
use Rattle.std.specs.Prelude.{◌≡◌, ◌↔◌, ℕ, ◌+◌, ◌==◌, ◌≤◌, nat_le, ◌&&◌, Bool, true, false, if◌then◌else◌, List, [], ◌∷◌, ◌++◌, Option, Some, None, Result, Ok, Err}
use Rattle.std.specs.Bool.{Decides}
use Rattle.std.specs.Option.{option_or}
use Rattle.std.proofs.Common.{refl}
use Rattle.std.proofs.lemmas.Bool.{leb-true, le-leb}
use Rattle.std.proofs.lemmas.Bool.Decides.{Decides-and, Decides-eqb}
use Rattle.convoy_draft.specs.declared.time.Time.{Time}
use Rattle.convoy_draft.specs.declared.time.Time.TheVariants.{Ticks, Real}
use Rattle.convoy_scenario.specs.Scenario.{Scenario}
use Rattle.convoy_sim.specs.Delivery.{latency_of}
use Rattle.convoy_intervals.specs.Boxes.{CanSplit, can_split}
use Rattle.convoy_intervals.proofs.BoxTests.{Decides-can_split}
use Rattle.convoy_origin.specs.FromOrigin.{closes_from_origin, plain_from_origin, stamp_from_origin}
use Rattle.convoy_regions.specs.Regions.{Region, can_order, is_decided, root_region, run_of}
use Rattle.convoy_certificate.specs.Certificate.{Certificate}
use Rattle.convoy_certificate.specs.declared.node.Node.{Node}
use Rattle.convoy_certificate.specs.declared.node.Node.TheVariants.{Split, Order, Bound, Point, Stamp, Lead}
use Rattle.convoy_checker.specs.declared.refused.Refused.{Refused}
use Rattle.convoy_checker.specs.declared.refused.Refused.TheVariants as refused
use Rattle.convoy_checker.specs.Checks.{fault_unless, in_ticks, node_fault, first_fault, verdict, checked}
use Rattle.convoy_checker.specs.Leaves.{ClosesByLeads, IsRight}
use Rattle.convoy_checker.specs.Trees.{AreTrees, regions_below}
use Rattle.convoy_checker.specs.Validity.{IsValid}

Decides-le : (a b : ℕ) → Decides (nat_le a b) (a ≤ b)
Decides-le a b = (leb-true a b, le-leb a b)

Decides-own : (test : Bool) → Decides test (test ≡ true)
Decides-own test = (λ holds. holds, λ holds. holds)

ticks_not_real : Real ≡ Ticks → ⊥
ticks_not_real e = cc

Decides-in_ticks : (time : Time) → Decides (in_ticks time) (time ≡ Ticks)
Decides-in_ticks Ticks = (λ yes. refl, λ is. refl)
Decides-in_ticks Real = (λ yes. absurd cc, λ is. absurd (ticks_not_real is))

-- a test has no fault just where it says yes
fault_unless_none : (fault : Refused) (test : Bool) (Holds : Type 0) → Decides test Holds → (fault_unless test fault ≡ None) ↔ Holds
fault_unless_none fault true Holds decides = (λ none. decides.0 refl, λ holds. refl)
fault_unless_none fault false Holds decides =
    (λ none. absurd cc, λ holds. let held = decides.1 holds in absurd cc)

-- a node has no fault just where it is right over its region
pub node_none : (plan : Scenario) (latency number : ℕ) (node : Node) (region : Region) → (node_fault plan latency number node region ≡ None) ↔ IsRight plan latency node region
node_none plan latency number (Split packet at) region =
    fault_unless_none (refused.Split number) (can_split region.ranges packet at) (CanSplit region.ranges packet at) (Decides-can_split region.ranges packet at)
node_none plan latency number (Order first second) region =
    let can = can_order plan region first second in
    fault_unless_none (refused.Split number) can (can ≡ true) (Decides-own can)
node_none plan latency number Bound region =
    let bound = plain_from_origin plan region.ranges in
    fault_unless_none (refused.BoundLeaf number bound) (nat_le bound latency) (bound ≤ latency) (Decides-le bound latency)
node_none plan latency number Point region =
    let decided = is_decided plan region in
    let tried = latency_of plan (run_of plan region) in
    fault_unless_none (refused.PointLeaf number) (decided && nat_le tried latency) ((decided ≡ true) × (tried ≤ latency))
    (Decides-and decided (nat_le tried latency) (Decides-own decided) (Decides-le tried latency))
node_none plan latency number Stamp region =
    let bound = stamp_from_origin plan region.ranges in
    fault_unless_none (refused.StampLeaf number bound) (in_ticks plan.time && nat_le bound latency) ((plan.time ≡ Ticks) × (bound ≤ latency))
    (Decides-and (in_ticks plan.time) (nat_le bound latency) (Decides-in_ticks plan.time) (Decides-le bound latency))
node_none plan latency number (Lead named) region =
    let low = nat_le named latency in
    let closed = closes_from_origin plan region named in
    fault_unless_none (refused.LeadLeaf number) (low && closed) ((named ≤ latency) × ClosesByLeads plan named region) (Decides-and low closed (Decides-le named latency) (Decides-own closed))

-- neither of two faults is there just where their first is not
or_none : (first second : Option Refused) → (option_or first second ≡ None) ↔ (first ≡ None) × (second ≡ None)
or_none None second = (λ none. (refl, none), λ both. both.1)
or_none (Some fault) second = (λ none. absurd cc, λ both. absurd (let none = both.0 in cc))

-- trees have no fault just where each node is right over its region
pub trees_none : (plan : Scenario) (latency number : ℕ) (regions : List Region) (nodes : List Node) → (first_fault plan latency number regions nodes ≡ None) ↔ AreTrees (regions_below plan) (IsRight plan latency) regions nodes
trees_none plan latency number [] [] = (λ none. tt, λ trees. refl)
trees_none plan latency number [] (node ∷ nodes) = (λ none. absurd cc, λ trees. absurd trees)
trees_none plan latency number (region ∷ regions) [] = (λ none. absurd cc, λ trees. absurd trees)
trees_none plan latency number (region ∷ regions) (node ∷ nodes) =
    let open_regions = regions_below plan node region ++ regions in
    let here = node_none plan latency number node region in
    let rest = trees_none plan latency (number + 1) open_regions nodes in
    let neither = or_none (node_fault plan latency number node region) (first_fault plan latency (number + 1) open_regions nodes) in (
      λ none. let both = neither.0 none in (here.0 both.0, rest.0 both.1),
      λ trees. neither.1 (here.1 trees.0, rest.1 trees.1),
    )

-- a tree's latency is answered just where it has no fault
tree_answer : (certificate : Certificate) (fault : Option Refused) → (verdict certificate fault ≡ Ok certificate.latency) ↔ (fault ≡ None)
tree_answer certificate None = (λ answer. refl, λ none. refl)
tree_answer certificate (Some fault) = (λ answer. absurd cc, λ none. absurd cc)

-- a number is answered behind a test just where the test says yes and the number is answered there
if_answer : (test : Bool) (Holds : Type 0) (answer : Result ℕ Refused) (fault : Refused) (latency : ℕ) → Decides test Holds → ((if test then answer else Err fault) ≡ Ok latency) ↔ Holds × (answer ≡ Ok latency)
if_answer true Holds answer fault latency decides = (λ answers. (decides.0 refl, answers), λ both. both.1)
if_answer false Holds answer fault latency decides =
    (λ answers. absurd cc, λ both. let held = decides.1 both.0 in absurd cc)

-- checking answers the latency just where the certificate is valid
pub checked_valid : (certificate : Certificate) → (checked certificate ≡ Ok certificate.latency) ↔ IsValid certificate
unfolding checked
checked_valid certificate =
    let plan = certificate.scenario in
    let latency = certificate.latency in
    let simulated = latency_of plan certificate.schedule in
    let fault = first_fault plan latency 0 (root_region plan ∷ []) certificate.nodes in
    let trees = trees_none plan latency 0 (root_region plan ∷ []) certificate.nodes in
    let answer = tree_answer certificate fault in
    let same = if_answer (simulated == latency) (simulated ≡ latency) (verdict certificate fault) (refused.Latency simulated) latency (Decides-eqb simulated latency) in (
      λ accepted. let both = same.0 accepted in record { latency = both.0; tree = trees.0 (answer.0 both.1) },
      λ valid. same.1 (valid.latency, answer.1 (trees.1 valid.tree)),
    )

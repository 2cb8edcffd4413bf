-- What a whole tree says: a valid certificate, or a front.
use Rattle.std.specs.Prelude.{◌≡◌, ℕ, ◌≤◌, ◌<◌, true, false, List, [], ◌∷◌, length}
use Rattle.std.specs.List.{All, list_any}
use Rattle.std.proofs.Common.{arith, refl, ap, sym, subst, ◌∙◌, inl, inr}
use Rattle.std.proofs.lemmas.List.Elements.{All-nil, All-cons, All-head, All-tail}
use Rattle.convoy_scenario.specs.Scenario.{Scenario}
use Rattle.convoy_scenario.specs.WellFormed.{IsScenario}
use Rattle.convoy_packets.specs.Assignment.{IsAssignment, Schedule, ranges_of}
use Rattle.convoy_packets.specs.Table.{least_of}
use Rattle.convoy_sim.specs.Delivery.{latency_of}
use Rattle.convoy_sim.specs.Greatest.{IsReached}
use Rattle.convoy_sim.specs.Record.{Record, IsAttained}
use Rattle.convoy_certificate.specs.Certificate.{Certificate, IsNode}
use Rattle.convoy_certificate.specs.Reading.{AreReadable}
use Rattle.convoy_certificate.specs.Text.{is_lead, is_stamp}
use Rattle.convoy_certificate.specs.declared.node.Node.{Node}
use Rattle.convoy_regions.specs.Regions.{Region, root_region}
use Rattle.convoy_checker.specs.TreeLaws.{TreesCover}
use Rattle.convoy_branch.specs.declared.bounds.Bounds.{Bounds}
use Rattle.convoy_branch.specs.declared.limit.Limit.{Limit}
use Rattle.convoy_branch.specs.Limits.{IsWithin}
use Rattle.convoy_branch.specs.SearchBounds.{most_nodes}
use Rattle.convoy_branch.specs.Uppers.{IsUpperOf}
use Rattle.convoy_branch.specs.Fronts.{left_in}
use Rattle.convoy_branch.specs.FrontLaws.{FrontsBound, OnlyLeadsHaveLeadLeaves, PlainFrontsHaveNoStamps, WholeFrontsAreReadable, WholeFrontsAreTrees}
use Rattle.convoy_branch.specs.Outcomes.{IsProved, IsOpen}
use Rattle.convoy_branch.proofs.Withins.{IsWithin-all, IsWithin-spent}
use Rattle.convoy_share.specs.declared.piece.Piece.{Piece}
use Rattle.convoy_share.specs.declared.piece.Piece.TheVariants.{Done, Todo, Pushed}
use Rattle.convoy_share.specs.declared.searching.Closed.{Closed}
use Rattle.convoy_share.specs.Ended.{IsClosed}
use Rattle.convoy_share.specs.Pieces.{IsPiece, front, is_left, left_regions, nodes_in, places_in, AreTreesOf}
use Rattle.convoy_share.proofs.Endings.{IsTree-filled, IsFront-filled, spent_nodes, whole_tree}

-- the regions that are left, where no place is
pub left_regions_in : (put : List Region) (pieces : List Piece) → places_in pieces ≡ [] → left_in (front put pieces) ≡ left_regions pieces
left_regions_in put [] none = refl
left_regions_in put (Done node ∷ pieces) none = left_regions_in put pieces none
left_regions_in put (Todo branch tried ∷ pieces) none = ap (λ (bs : List Region). branch.region ∷ bs) (left_regions_in put pieces none)
left_regions_in put (Pushed number ∷ pieces) none = absurd (cc)

pub none_left : (pieces : List Piece) → list_any is_left pieces ≡ false → left_regions pieces ≡ []
none_left [] none = refl
none_left (Done node ∷ pieces) none = none_left pieces none
none_left (Todo branch tried ∷ pieces) none = absurd (cc)
none_left (Pushed number ∷ pieces) none = none_left pieces none

some_left : (pieces : List Piece) → list_any is_left pieces ≡ true → 0 < length (left_regions pieces)
some_left [] some = absurd (cc)
some_left (Done node ∷ pieces) some = some_left pieces some
some_left (Todo branch tried ∷ pieces) some = omega arith
some_left (Pushed number ∷ pieces) some = some_left pieces some

-- the nodes may stand in a certificate
nodes_right : (scenario : Scenario) (seen : ℕ) (put : List Region) (pieces : List Piece) → All (IsPiece scenario seen put) pieces → All (IsNode scenario) (nodes_in pieces)
nodes_right scenario seen put [] each = All-nil (IsNode scenario)
nodes_right scenario seen put (Done node ∷ pieces) each =
    let P = IsPiece scenario seen put in
    All-cons (IsNode scenario) node (nodes_in pieces) (All-head P (Done node) pieces each) (nodes_right scenario seen put pieces (All-tail P (Done node) pieces each))
nodes_right scenario seen put (Todo branch tried ∷ pieces) each =
    nodes_right scenario seen put pieces (All-tail (IsPiece scenario seen put) (Todo branch tried) pieces each)
nodes_right scenario seen put (Pushed number ∷ pieces) each =
    nodes_right scenario seen put pieces (All-tail (IsPiece scenario seen put) (Pushed number) pieces each)

pub nodes_closed : (bounds : Bounds) (scenario : Scenario) (workers : ℕ) (limit : Limit) (closed : Closed) → IsClosed bounds scenario workers limit closed → All (IsNode scenario) (nodes_in closed.pieces.items)
nodes_closed bounds scenario workers limit closed is =
    nodes_right scenario closed.best.latency is.tree.whole.put closed.pieces.items is.tree.whole.filling.each_done

-- the schedule of the best record is an assignment of the scenario, and has its latency there
pub best_assigned : (scenario : Scenario) (best : Record) → best.scenario ≡ scenario → IsAttained best → IsAssignment scenario best.schedule
best_assigned scenario best same attained =
    subst (λ (s : Scenario). IsAssignment s best.schedule) same attained.assignment

best_latency : (scenario : Scenario) (best : Record) → best.scenario ≡ scenario → IsAttained best → latency_of scenario best.schedule ≡ best.latency
best_latency scenario best same attained =
    ap (λ (s : Scenario). latency_of s best.schedule) (sym same) ∙ sym attained.latency

best_lawful : (scenario : Scenario) (best : Record) → best.scenario ≡ scenario → IsAttained best → IsScenario scenario
best_lawful scenario best same attained = subst (λ (s : Scenario). IsScenario s) same attained.scenario

best_reached : (scenario : Scenario) (best : Record) → best.scenario ≡ scenario → IsAttained best → IsReached scenario best.latency
best_reached scenario best same attained =
    (best.schedule, best_assigned scenario best same attained, best_latency scenario best same attained)

abbrev pub certificate_with : Scenario → ℕ → Schedule → List Node → Certificate
certificate_with scenario latency schedule nodes =
    record { scenario = scenario; latency = latency; schedule = schedule; nodes = nodes }

-- a certificate of equal parts is the same
pub certificate_is : {scenario scenario' : Scenario} {latency latency' : ℕ} {schedule schedule' : Schedule} {nodes nodes' : List Node} → scenario ≡ scenario' → latency ≡ latency' → schedule ≡ schedule' → nodes ≡ nodes' → certificate_with scenario latency schedule nodes ≡ certificate_with scenario' latency' schedule' nodes'
certificate_is {scenario} {scenario'} {latency} {latency'} {schedule} {schedule'} {nodes} {nodes'} same_scenario same_latency same_delays same_nodes =
    ap (λ (s : Scenario). certificate_with s latency schedule nodes) same_scenario
    ∙ ap (λ (n : ℕ). certificate_with scenario' n schedule nodes) same_latency
    ∙ ap (λ (ds : Schedule). certificate_with scenario' latency' ds nodes) same_delays
    ∙ ap (λ (ns : List Node). certificate_with scenario' latency' schedule' ns) same_nodes

-- no region is left: the tree is that of a valid certificate
abbrev certificate_of : Scenario → Closed → Certificate
certificate_of scenario closed = record {
  scenario = scenario;
  latency = closed.best.latency;
  schedule = closed.best.schedule;
  nodes = nodes_in closed.pieces.items;
}

IsProved-certificate : (trees : WholeFrontsAreTrees) (cover : TreesCover) (no_stamps : PlainFrontsHaveNoStamps) (no_leads : OnlyLeadsHaveLeadLeaves) (reads : WholeFrontsAreReadable) (bounds : Bounds) (scenario : Scenario) (workers : ℕ) (limit : Limit) (closed : Closed) → list_any is_left closed.pieces.items ≡ false → IsClosed bounds scenario workers limit closed → IsProved bounds scenario workers limit.tickets (certificate_of scenario closed) closed.tickets closed.by_worker.items
IsProved-certificate trees cover no_stamps no_leads reads bounds scenario workers limit closed none is =
    let best = closed.best in
    let pieces = closed.pieces.items in
    let put = is.tree.whole.put in
    let filling = is.tree.whole.filling in
    let none_in : left_in (front put pieces) ≡ [] = left_regions_in put pieces filling.settled ∙ none_left pieces none in
    let tree = IsTree-filled trees bounds scenario best.latency closed.tickets put pieces is.tree.whole.slots none_in filling in
    let lawful = best_lawful scenario best is.of_scenario is.attained in
    let fronts = whole_tree bounds scenario best.latency closed.tickets put pieces is.tree.whole.slots filling in
    record {
      of_scenario = refl;
      valid = record { latency = best_latency scenario best is.of_scenario is.attained; tree = tree.0 };
      greatest = record {
        reached = best_reached scenario best is.of_scenario is.attained;
        upper = cover scenario best.latency (nodes_in pieces) lawful tree.0;
      };
      nodes = tree.1;
      plain = λ by_plain. subst (λ (ns : List Node). list_any is_stamp ns ≡ false) (spent_nodes put pieces) (no_stamps scenario best.latency (front put pieces) none_in (subst (λ (b : Bounds). AreTreesOf b scenario best.latency put (root_region scenario ∷ []) pieces) by_plain fronts));
      few = is.tree.few;
      no_leads = λ others. subst (λ (ns : List Node). list_any is_lead ns ≡ false) (spent_nodes put pieces) (no_leads bounds scenario best.latency (front put pieces) others none_in fronts);
      readable = λ within. subst AreReadable (spent_nodes put pieces) (reads bounds scenario best.latency (front put pieces) none_in fronts (subst (λ (ns : List Node). length ns ≤ most_nodes bounds) (sym (spent_nodes put pieces)) (omega (arith, tree.1, is.tree.few, within))));
      shares = is.tickets_by_worker;
    }

pub IsProved-closed : (trees : WholeFrontsAreTrees) (cover : TreesCover) (no_stamps : PlainFrontsHaveNoStamps) (no_leads : OnlyLeadsHaveLeadLeaves) (reads : WholeFrontsAreReadable) (bounds : Bounds) (scenario : Scenario) (workers : ℕ) (limit : Limit) (closed : Closed) (certificate : Certificate) → list_any is_left closed.pieces.items ≡ false → certificate ≡ record { scenario = scenario; latency = closed.best.latency; schedule = closed.best.schedule; nodes = nodes_in closed.pieces.items } → IsClosed bounds scenario workers limit closed → IsProved bounds scenario workers limit.tickets certificate closed.tickets closed.by_worker.items
IsProved-closed trees cover no_stamps no_leads reads bounds scenario workers limit closed certificate none same is =
    subst (λ (c : Certificate). IsProved bounds scenario workers limit.tickets c closed.tickets closed.by_worker.items) (sym same) (IsProved-certificate trees cover no_stamps no_leads reads bounds scenario workers limit closed none is)

-- a region is left, and the tree is a front
IsOpen-front : (bound : FrontsBound) (bounds : Bounds) (scenario : Scenario) (workers : ℕ) (limit : Limit) (upper spendable : ℕ) (closed : Closed) → list_any is_left closed.pieces.items ≡ true → latency_of scenario (least_of (ranges_of scenario)) ≤ closed.best.latency → IsUpperOf bounds scenario closed.best.latency (left_regions closed.pieces.items) upper → IsClosed bounds scenario workers limit closed → closed.tickets ≡ spendable → IsOpen bounds scenario workers spendable closed.best upper closed.tickets closed.by_worker.items
IsOpen-front bound bounds scenario workers limit upper spendable closed some least upper_is is all =
    let best = closed.best in
    let pieces = closed.pieces.items in
    let put = is.tree.whole.put in
    let filling = is.tree.whole.filling in
    let boxes : left_in (front put pieces) ≡ left_regions pieces = left_regions_in put pieces filling.settled in
    let left : 0 < length (left_in (front put pieces)) = subst (λ (bs : List Region). 0 < length bs) (sym boxes) (some_left pieces some) in
    let reached = best_reached scenario best is.of_scenario is.attained in
    let over = subst (λ (bs : List Region). IsUpperOf bounds scenario best.latency bs upper) (sym boxes) upper_is in
    let open_front = IsFront-filled bounds scenario best.latency closed.tickets upper put pieces is.tree.whole.slots left reached least over filling in
    record {
      of_scenario = is.of_scenario;
      reached = reached;
      none_greater = bound bounds scenario best.latency upper closed.tickets (best_lawful scenario best is.of_scenario is.attained) open_front;
      front = open_front;
      all = all;
      shares = is.tickets_by_worker;
    }

-- where the search may be stopped, no more tickets may have been spent than were
pub IsOpen-closed : (bound : FrontsBound) (bounds : Bounds) (scenario : Scenario) (workers : ℕ) (limit : Limit) (upper : ℕ) (closed : Closed) → list_any is_left closed.pieces.items ≡ true → latency_of scenario (least_of (ranges_of scenario)) ≤ closed.best.latency → IsUpperOf bounds scenario closed.best.latency (left_regions closed.pieces.items) upper → IsClosed bounds scenario workers limit closed → IsWithin limit (λ tickets. IsOpen bounds scenario workers tickets closed.best upper closed.tickets closed.by_worker.items)
IsOpen-closed bound bounds scenario workers limit upper closed some least upper_is is =
    let IsAnswer : ℕ → Type 0 = λ tickets. IsOpen bounds scenario workers tickets closed.best upper closed.tickets closed.by_worker.items in
    elim is.tree.left [
      | inl none ↦ absurd (omega (arith, some_left closed.pieces.items some, ap length none))
      | inr spent ↦ elim spent [
        | inl all ↦ IsWithin-all limit IsAnswer (IsOpen-front bound bounds scenario workers limit upper limit.tickets closed some least upper_is is all)
        | inr stops ↦ IsWithin-spent limit IsAnswer closed.tickets is.tree.few (inr stops) (IsOpen-front bound bounds scenario workers limit upper closed.tickets closed some least upper_is is refl)
      ]
    ]

-- Fronts as trees: what replaces a node of a front, and what a front says of its regions.
use Rattle.std.specs.Prelude.{◌≡◌, ◌≢◌, ℕ, ◌≤◌, Bool, true, false, ◌||◌, List, [], ◌∷◌, ◌++◌, length, map}
use Rattle.std.specs.List.{All, list_any}
use Rattle.std.proofs.Common.{arith, refl, sym, ap, subst, ◌∙◌}
use Rattle.std.proofs.lemmas.Bool.{false≢true}
use Rattle.std.proofs.lemmas.List.Elements.{All-head, All-tail}
use Rattle.convoy_scenario.specs.Scenario.{Scenario}
use Rattle.convoy_branch.specs.declared.bounds.Bounds.{Bounds}
use Rattle.convoy_branch.specs.declared.bounds.Bounds.TheVariants as bounds_of
use Rattle.convoy_certificate.specs.declared.node.Node.{Node}
use Rattle.convoy_certificate.specs.declared.node.Node.TheVariants.{Split, Order, Bound, Point, Stamp, Lead}
use Rattle.convoy_certificate.specs.Text.{is_lead, is_stamp}
use Rattle.convoy_checker.specs.Leaves.{ClosesByLeads, IsRight}
use Rattle.convoy_checker.specs.Trees.{AreTrees, regions_below}
use Rattle.convoy_checker.specs.Validity.{IsTree}
use Rattle.convoy_regions.specs.Regions.{Region, root_region}
use Rattle.convoy_checker.proofs.TreeLaws.{AreTrees-filled, AreTrees-weaker}
use Rattle.convoy_branch.specs.Fronts.{AreFronts, FrontNode, Spent, Left, front_below, IsSearched, IsSearchedSplit, IsOfFront, front_after, left_in, spent_in}
use Rattle.convoy_branch.specs.Steps.{IsTurn}
use Rattle.convoy_branch.specs.declared.step.Turn.{Turn}
use Rattle.convoy_branch.specs.declared.step.Turn.TheVariants.{Closed, Halves}

-- a better record leaves each node right
IsSearchedSplit-better : (bounds : Bounds) (plan : Scenario) (best better : ℕ) (split : Node) (region : Region) → best ≤ better → IsSearchedSplit bounds plan best split region → IsSearchedSplit bounds plan better split region
IsSearchedSplit-better bounds plan best better split region above right =
    record { part = right.part; known = right.known; open_region = right.open_region; tried = right.tried; passed = omega (arith, right.passed) }

pub IsSearched-better : (bounds : Bounds) (plan : Scenario) (best better : ℕ) (node : Node) (region : Region) → best ≤ better → IsSearched bounds plan best node region → IsSearched bounds plan better node region
IsSearched-better bounds plan best better (Split packet at) region above right = IsSearchedSplit-better bounds plan best better (Split packet at) region above right
IsSearched-better bounds plan best better (Order first second) region above right = IsSearchedSplit-better bounds plan best better (Order first second) region above right
IsSearched-better bounds plan best better Bound region above right = omega arith
IsSearched-better bounds plan best better Point region above right = (right.0, omega (arith, right.1))
IsSearched-better bounds plan best better Stamp region above right = (right.0, (right.1.0, omega (arith, right.1.1)))
IsSearched-better bounds plan best better (Lead known) region above right = (right.0, omega (arith, right.1), right.2)

pub IsOfFront-better : (bounds : Bounds) (plan : Scenario) (best better : ℕ) (node : FrontNode) (region : Region) → best ≤ better → IsOfFront bounds plan best node region → IsOfFront bounds plan better node region
IsOfFront-better bounds plan best better (Spent node) region above right = IsSearched-better bounds plan best better node region above right
IsOfFront-better bounds plan best better (Left branch) region above right = right

pub AreFronts-better : (bounds : Bounds) (plan : Scenario) (best better : ℕ) (nodes : List FrontNode) (regions : List Region) → best ≤ better → AreFronts bounds plan best regions nodes → AreFronts bounds plan better regions nodes
AreFronts-better bounds plan best better nodes regions above fronts =
    AreTrees-weaker (front_below plan) (IsOfFront bounds plan best) (IsOfFront bounds plan better) (λ node region right. IsOfFront-better bounds plan best better node region above right) regions nodes fronts

-- a front over a region may take the place of the region
pub AreFronts-filled : (bounds : Bounds) (plan : Scenario) (best : ℕ) (branch : Region) (front : List FrontNode) → AreFronts bounds plan best (branch ∷ []) front → (before after : List FrontNode) (regions : List Region) → AreFronts bounds plan best regions (before ++ Left branch ∷ after) → AreFronts bounds plan best regions (before ++ (front ++ after))
AreFronts-filled bounds plan best branch front over before after regions fronts =
    AreTrees-filled (front_below plan) (IsOfFront bounds plan best) (Left branch) branch (λ region names. names) (λ region. refl) front over before after regions fronts

-- a split that is one of a search is right over its region
IsSearched-split : (bounds : Bounds) (plan : Scenario) (best : ℕ) (split : Node) (region : Region) → IsSearchedSplit bounds plan best split region → IsSearched bounds plan best split region
IsSearched-split bounds plan best (Split packet at) region is = is
IsSearched-split bounds plan best (Order first second) region is = is
IsSearched-split bounds plan best Bound region is = absurd is.part
IsSearched-split bounds plan best Point region is = absurd is.part
IsSearched-split bounds plan best Stamp region is = absurd is.part
IsSearched-split bounds plan best (Lead known) region is = absurd is.part

-- a split, and the halves that are left, are a front over the region that it splits
AreFronts-halved : (bounds : Bounds) (plan : Scenario) (best : ℕ) (branch first second : Region) (split : Node) → IsSearchedSplit bounds plan best split branch → regions_below plan split branch ≡ first ∷ second ∷ [] → AreFronts bounds plan best (branch ∷ []) (Spent split ∷ Left first ∷ Left second ∷ [])
AreFronts-halved bounds plan best branch first second split is halves =
    let parts : AreFronts bounds plan best (first ∷ second ∷ []) (Left first ∷ Left second ∷ []) = (refl, (refl, tt)) in
    let below : AreFronts bounds plan best (regions_below plan split branch ++ []) (Left first ∷ Left second ∷ []) = subst (λ (rs : List Region). AreFronts bounds plan best (rs ++ []) (Left first ∷ Left second ∷ [])) (sym halves) parts in
    (IsSearched-split bounds plan best split branch is, below)

-- what becomes of a region is a front over it
pub AreFronts-turned : (bounds : Bounds) (plan : Scenario) (best : ℕ) (branch : Region) (turn : Turn) → IsTurn bounds plan branch best turn → AreFronts bounds plan best (branch ∷ []) (front_after turn)
AreFronts-turned bounds plan best branch (Closed (Split packet at)) turn = absurd turn
AreFronts-turned bounds plan best branch (Closed (Order first second)) turn = absurd turn
AreFronts-turned bounds plan best branch (Closed Bound) turn = (turn, tt)
AreFronts-turned bounds plan best branch (Closed Point) turn = ((turn.1, turn.0.tried), tt)
AreFronts-turned bounds plan best branch (Closed Stamp) turn = ((turn.asked, turn.stamps), tt)
AreFronts-turned bounds plan best branch (Closed (Lead known)) turn =
    ((turn.1.asked, omega (arith, turn.0), subst (λ (n : ℕ). ClosesByLeads plan n branch) (sym turn.0) turn.1.leads), tt)
AreFronts-turned bounds plan best branch (Halves split first second tried) turn =
    let is : IsSearchedSplit bounds plan best split branch = record { part = turn.part; known = best; open_region = turn.stays.not_closed; tried = turn.stays.tried; passed = omega arith } in
    AreFronts-halved bounds plan best branch first.region second.region split is turn.halves

-- a node of a search is right over its region
pub IsRight-searched : (bounds : Bounds) (plan : Scenario) (best : ℕ) (node : Node) (region : Region) → IsSearched bounds plan best node region → IsRight plan best node region
IsRight-searched bounds plan best (Split packet at) region is = is.part
IsRight-searched bounds plan best (Order first second) region is = is.part.1
IsRight-searched bounds plan best Bound region is = is
IsRight-searched bounds plan best Point region is = is
IsRight-searched bounds plan best Stamp region is = is.1
IsRight-searched bounds plan best (Lead known) region is = (is.1, is.2)

-- a front with no region left is a tree
pub AreTrees-spent : (bounds : Bounds) (plan : Scenario) (best : ℕ) (nodes : List Node) (regions : List Region) → AreFronts bounds plan best regions (map Spent nodes) → AreTrees (regions_below plan) (IsRight plan best) regions nodes
AreTrees-spent bounds plan best [] [] tree = tree
AreTrees-spent bounds plan best [] (region ∷ regions) tree = tree
AreTrees-spent bounds plan best (node ∷ nodes) [] tree = tree
AreTrees-spent bounds plan best (node ∷ nodes) (region ∷ regions) tree =
    (IsRight-searched bounds plan best node region tree.0, AreTrees-spent bounds plan best nodes (regions_below plan node region ++ regions) tree.1)

-- plain bounds are not leads
abbrev is_by_leads : Bounds → Bool
is_by_leads bounds_of.Plain = false
is_by_leads bounds_of.Stamp = false
is_by_leads bounds_of.Lead = true

plain_is_not_lead : bounds_of.Plain ≢ bounds_of.Lead
plain_is_not_lead same = false≢true (ap is_by_leads same)

-- in a search by plain bounds none of its nodes is a stamp leaf
no_stamp : (plan : Scenario) (best : ℕ) (node : Node) (region : Region) → IsSearched bounds_of.Plain plan best node region → is_stamp node ≡ false
no_stamp plan best (Split packet at) region is = refl
no_stamp plan best (Order first second) region is = refl
no_stamp plan best Bound region is = refl
no_stamp plan best Point region is = refl
no_stamp plan best Stamp region is = absurd (is.0 refl)
no_stamp plan best (Lead known) region is = refl

pub no_stamps-spent : (plan : Scenario) (best : ℕ) (nodes : List Node) (regions : List Region) → AreFronts bounds_of.Plain plan best regions (map Spent nodes) → list_any is_stamp nodes ≡ false
no_stamps-spent plan best [] regions tree = refl
no_stamps-spent plan best (node ∷ nodes) [] tree = absurd tree
no_stamps-spent plan best (node ∷ nodes) (region ∷ regions) tree =
    ap (λ (b : Bool). b || list_any is_stamp nodes) (no_stamp plan best node region tree.0)
    ∙ no_stamps-spent plan best nodes (regions_below plan node region ++ regions) tree.1

-- only in a search by leads is one of its nodes a lead leaf
no_lead : (bounds : Bounds) (plan : Scenario) (best : ℕ) (node : Node) (region : Region) → bounds ≢ bounds_of.Lead → IsSearched bounds plan best node region → is_lead node ≡ false
no_lead bounds plan best (Split packet at) region other is = refl
no_lead bounds plan best (Order first second) region other is = refl
no_lead bounds plan best Bound region other is = refl
no_lead bounds plan best Point region other is = refl
no_lead bounds plan best Stamp region other is = refl
no_lead bounds plan best (Lead known) region other is = absurd (other is.0)

pub no_leads-spent : (bounds : Bounds) (plan : Scenario) (best : ℕ) (nodes : List Node) (regions : List Region) → bounds ≢ bounds_of.Lead → AreFronts bounds plan best regions (map Spent nodes) → list_any is_lead nodes ≡ false
no_leads-spent bounds plan best [] regions other tree = refl
no_leads-spent bounds plan best (node ∷ nodes) [] other tree = absurd tree
no_leads-spent bounds plan best (node ∷ nodes) (region ∷ regions) other tree =
    ap (λ (b : Bool). b || list_any is_lead nodes) (no_lead bounds plan best node region other tree.0)
    ∙ no_leads-spent bounds plan best nodes (regions_below plan node region ++ regions) other tree.1

-- where no region is left, the nodes are all that were spent
pub all_spent : (nodes : List FrontNode) → length (left_in nodes) ≡ 0 → map Spent (spent_in nodes) ≡ nodes
all_spent [] none = refl
all_spent (Spent node ∷ nodes) none = ap (λ (ns : List FrontNode). Spent node ∷ ns) (all_spent nodes none)
all_spent (Left branch ∷ nodes) none = absurd (omega (arith, none))

pub IsTree-whole : (bounds : Bounds) (plan : Scenario) (best : ℕ) (nodes : List FrontNode) → left_in nodes ≡ [] → AreFronts bounds plan best (root_region plan ∷ []) nodes → IsTree plan best (spent_in nodes)
IsTree-whole bounds plan best nodes none fronts =
    AreTrees-spent bounds plan best (spent_in nodes) (root_region plan ∷ []) (subst (λ (ns : List FrontNode). AreFronts bounds plan best (root_region plan ∷ []) ns) (sym (all_spent nodes (ap length none))) fronts)

pub no_stamps-whole : (plan : Scenario) (best : ℕ) (nodes : List FrontNode) → left_in nodes ≡ [] → AreFronts bounds_of.Plain plan best (root_region plan ∷ []) nodes → list_any is_stamp (spent_in nodes) ≡ false
no_stamps-whole plan best nodes none fronts =
    no_stamps-spent plan best (spent_in nodes) (root_region plan ∷ []) (subst (λ (ns : List FrontNode). AreFronts bounds_of.Plain plan best (root_region plan ∷ []) ns) (sym (all_spent nodes (ap length none))) fronts)

pub no_leads-whole : (bounds : Bounds) (plan : Scenario) (best : ℕ) (nodes : List FrontNode) → bounds ≢ bounds_of.Lead → left_in nodes ≡ [] → AreFronts bounds plan best (root_region plan ∷ []) nodes → list_any is_lead (spent_in nodes) ≡ false
no_leads-whole bounds plan best nodes other none fronts =
    no_leads-spent bounds plan best (spent_in nodes) (root_region plan ∷ []) other (subst (λ (ns : List FrontNode). AreFronts bounds plan best (root_region plan ∷ []) ns) (sym (all_spent nodes (ap length none))) fronts)

-- some leaf closes the region
pub record HasLeaf (plan : Scenario) (upper : ℕ) (region : Region) : Type 0 where
  pub leaf : Node
  pub last : regions_below plan leaf region ≡ []
  pub right : IsRight plan upper leaf region

-- there is a tree over the regions that is right for a latency
pub record HasTree (plan : Scenario) (upper : ℕ) (regions : List Region) : Type 0 where
  pub nodes : List Node
  pub tree : AreTrees (regions_below plan) (IsRight plan upper) regions nodes

-- a node before a tree over the regions below it and over others
HasTree-cons : (plan : Scenario) (upper : ℕ) (node : Node) (region : Region) (regions : List Region) → IsRight plan upper node region → HasTree plan upper (regions_below plan node region ++ regions) → HasTree plan upper (region ∷ regions)
HasTree-cons plan upper node region regions right rest = record { nodes = node ∷ rest.nodes; tree = (right, rest.tree) }

HasTree-closed : (plan : Scenario) (upper : ℕ) (region : Region) (regions : List Region) → HasLeaf plan upper region → HasTree plan upper regions → HasTree plan upper (region ∷ regions)
HasTree-closed plan upper region regions closed rest =
    HasTree-cons plan upper closed.leaf region regions closed.right (subst (λ (rs : List Region). HasTree plan upper (rs ++ regions)) (sym closed.last) rest)

-- a front gives one for each latency that is no less than the best one, and for which leaves close the regions that are left
pub HasTree-front : (bounds : Bounds) (plan : Scenario) (best upper : ℕ) (nodes : List FrontNode) (regions : List Region) → best ≤ upper → All (HasLeaf plan upper) (left_in nodes) → AreFronts bounds plan best regions nodes → HasTree plan upper regions
HasTree-front bounds plan best upper [] [] above closed tree = record { nodes = []; tree = tree }
HasTree-front bounds plan best upper [] (region ∷ regions) above closed tree = absurd tree
HasTree-front bounds plan best upper (node ∷ nodes) [] above closed tree = absurd tree
HasTree-front bounds plan best upper (Spent node ∷ nodes) (region ∷ regions) above closed tree =
    let right = IsRight-searched bounds plan upper node region (IsSearched-better bounds plan best upper node region above tree.0) in
    HasTree-cons plan upper node region regions right (HasTree-front bounds plan best upper nodes (regions_below plan node region ++ regions) above closed tree.1)
HasTree-front bounds plan best upper (Left branch ∷ nodes) (region ∷ regions) above closed tree =
    let leaf = subst (λ (r : Region). HasLeaf plan upper r) tree.0 (All-head (HasLeaf plan upper) branch (left_in nodes) closed) in
    HasTree-closed plan upper region regions leaf (HasTree-front bounds plan best upper nodes regions above (All-tail (HasLeaf plan upper) branch (left_in nodes) closed) tree.1)

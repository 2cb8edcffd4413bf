-- What leads show of a region, by what they show of the windows of its box and of its own.
use Rattle.std.specs.Prelude.{◌≡◌, ℕ, ◌==◌, Bool, true, false, ◌||◌, if◌then◌else◌, List, [], ◌∷◌, length, Option, Some, None, IfSome}
use Rattle.std.proofs.Common.{arith, refl, ap, sym, subst, ◌∙◌}
use Rattle.std.proofs.lemmas.Bool.{eqb-true}
use Rattle.std.proofs.lemmas.Option.{IfSome_then}
use Rattle.convoy_scenario.specs.Scenario.{Scenario}
use Rattle.convoy_certificate.specs.declared.node.Node.{Node}
use Rattle.convoy_certificate.specs.declared.node.Node.TheVariants.{Lead}
use Rattle.convoy_intervals.specs.Boxes.{Box}
use Rattle.convoy_sure.specs.Windows.{Windows, windows_of}
use Rattle.convoy_leads.specs.Closing.{Tested, closes_by_leads, closes_over}
use Rattle.convoy_leads.specs.Openings.{IsOpening, is_closed}
use Rattle.convoy_leads.specs.declared.shown.Shown.{Shown}
use Rattle.convoy_regions.specs.Regions.{Region}
use Rattle.convoy_regions.specs.Stages.{Precedence}
use Rattle.convoy_narrowing.specs.Narrowing.{closes_narrowed, closes_region, narrowed, narrowed_over}
use Rattle.convoy_branch.specs.FromIssue.{IsLeftFromIssue}
use Rattle.convoy_branch.specs.declared.asked.Asked.{Asked}

-- ---- A region without precedences

none_in : (before : List Precedence) → length before ≡ 0 → before ≡ []
none_in [] few = refl
none_in (pair ∷ before) few = absurd (omega (arith, few))

-- it has none if the list of them is empty
pub has_none : (region : Region) (list : List Precedence) (empty : Bool) → list ≡ region.before → empty ≡ (length list == 0) → empty ≡ true → region.before ≡ []
has_none region list empty is told yes_empty =
    sym is ∙ none_in list (eqb-true (length list) 0 (sym told ∙ yes_empty))

-- its windows are those of its box
pub narrowed_by_none : (plan : Scenario) (region : Region) → region.before ≡ [] → narrowed plan region ≡ windows_of plan region.ranges
narrowed_by_none plan region none =
    ap (λ (before : List Precedence). narrowed_over plan (narrowed_over plan (windows_of plan region.ranges) before) before) none

-- ---- What a test of its box shows

-- of the windows of the box
pub box_shown : (plan : Scenario) (region : Region) (box : Box) (test : Tested) (shown : Shown) (latency : ℕ) (told : Bool) → test ≡ record { scenario = plan; windows = windows_of plan box } → box ≡ region.ranges → is_closed shown ≡ closes_over test.scenario test.windows latency → told ≡ is_closed shown → closes_over plan (windows_of plan region.ranges) latency ≡ told
box_shown plan region box test shown latency told of_box same closed told_is =
    let of_plan = subst (λ (t : Tested). is_closed shown ≡ closes_over t.scenario t.windows latency) of_box closed in
    let of_region = ap (λ (b : Box). closes_over plan (windows_of plan b) latency) same in
    sym (told_is ∙ of_plan ∙ of_region)

-- leads close the region if they close its box, and else as they close its own windows
closed_over_box : (plan : Scenario) (region : Region) (latency : ℕ) → closes_over plan (windows_of plan region.ranges) latency ≡ true → closes_region plan region latency ≡ true
unfolding closes_by_leads closes_region
closed_over_box plan region latency closed = ap (λ (b : Bool). b || closes_narrowed plan region latency) closed

pub as_narrowed : (plan : Scenario) (region : Region) (latency : ℕ) → closes_over plan (windows_of plan region.ranges) latency ≡ false → closes_region plan region latency ≡ closes_narrowed plan region latency
unfolding closes_by_leads closes_region
as_narrowed plan region latency stays = ap (λ (b : Bool). b || closes_narrowed plan region latency) stays

-- so without precedences it is open where its box is
open_by_none : (plan : Scenario) (region : Region) (latency : ℕ) → region.before ≡ [] → closes_over plan (windows_of plan region.ranges) latency ≡ false → closes_region plan region latency ≡ false
open_by_none plan region latency none stays =
    as_narrowed plan region latency stays ∙ ap (λ (windows : Windows). closes_over plan windows latency) (narrowed_by_none plan region none) ∙ stays

-- ---- What is known of it then

-- the leaf of leads, if they close it
abbrev pub lead_leaf : Bool → ℕ → Option Node
lead_leaf closed latency = if closed then Some (Lead latency) else None

pub leaf_closed : (plan : Scenario) (region : Region) (latency : ℕ) (asked : Asked) → closes_over plan (windows_of plan region.ranges) latency ≡ true → asked ≡ record { leaf = Some (Lead latency); left = None } → asked.leaf ≡ lead_leaf (closes_region plan region latency) latency
leaf_closed plan region latency asked closed is =
    ap (λ (a : Asked). a.leaf) is ∙ sym (ap (λ (b : Bool). lead_leaf b latency) (closed_over_box plan region latency closed))

pub leaf_by_none : (plan : Scenario) (region : Region) (latency : ℕ) (asked : Asked) → region.before ≡ [] → closes_over plan (windows_of plan region.ranges) latency ≡ false → asked.leaf ≡ None → asked.leaf ≡ lead_leaf (closes_region plan region latency) latency
leaf_by_none plan region latency asked none stays is =
    is ∙ sym (ap (λ (b : Bool). lead_leaf b latency) (open_by_none plan region latency none stays))

-- what is left open of its box is left open of the region, if it has no precedence
pub left_by_none : (plan : Scenario) (region : Region) (box : Box) (test : Tested) (asked : Asked) → region.before ≡ [] → test ≡ record { scenario = plan; windows = windows_of plan box } → box ≡ region.ranges → IfSome asked.left (λ left. (left.value.test ≡ test) × IfSome left.value.opening (IsOpening test.scenario)) → IfSome asked.left (λ left. IsLeftFromIssue plan region left.value)
left_by_none plan region box test asked none of_box same is =
    let over : Windows → Tested = λ windows. record { scenario = plan; windows = windows } in
    let of_region : test ≡ over (narrowed plan region) = of_box ∙ ap over (ap (λ (b : Box). windows_of plan b) same ∙ sym (narrowed_by_none plan region none)) in
    IfSome_then asked.left is (λ left parts. record { test = parts.0 ∙ of_region; opening = subst (λ (t : Tested). IfSome left.value.opening (IsOpening t.scenario)) of_region parts.1 })

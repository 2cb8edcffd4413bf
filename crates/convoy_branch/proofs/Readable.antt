-- The nodes of a whole front can be read where they are few enough for the bounds of the search.
use Rattle.std.specs.Prelude.{◌≡◌, ◌≢◌, ℕ, ◌≤◌, Bool, true, false, ◌||◌, if◌then◌else◌, List, [], ◌∷◌, length, map}
use Rattle.std.specs.List.{count_by, list_any}
use Rattle.std.proofs.Common.{arith, refl, sym, ap, subst, ◌∙◌}
use Rattle.std.proofs.lemmas.Bool.{false≢true}
use Rattle.std.proofs.lemmas.List.Sums.{count_by-le-length, sum_by-cons}
use Rattle.convoy_scenario.specs.Scenario.{Scenario}
use Rattle.convoy_certificate.specs.Reading.{AreReadable}
use Rattle.convoy_certificate.specs.Text.{is_lead}
use Rattle.convoy_certificate.specs.declared.node.Node.{Node}
use Rattle.convoy_regions.specs.Regions.{Region, root_region}
use Rattle.convoy_branch.specs.declared.bounds.Bounds.{Bounds}
use Rattle.convoy_branch.specs.declared.bounds.Bounds.TheVariants.{Plain, Stamp, Lead}
use Rattle.convoy_branch.specs.Fronts.{AreFronts, FrontNode, Spent, left_in, spent_in}
use Rattle.convoy_branch.specs.SearchBounds.{most_nodes}
use Rattle.convoy_branch.proofs.FrontTrees.{all_spent, no_leads-spent}

abbrev is_lead_kind : Bounds → Bool
is_lead_kind Plain = false
is_lead_kind Stamp = false
is_lead_kind Lead = true

other_than_lead : (bounds : Bounds) → is_lead_kind bounds ≡ false → bounds ≢ Lead
other_than_lead bounds other same = false≢true (sym other ∙ ap is_lead_kind same)

-- what an element adds to a count, by whether it passes the test
abbrev flag : Bool → ℕ
flag passes = if passes then 1 else 0

neither : (here there : Bool) → (here || there) ≡ false → (here ≡ false) × (there ≡ false)
neither true there none = absurd (false≢true (sym none))
neither false there none = (refl, none)

none_counted : {X : Type 0} (p : X → Bool) (xs : List X) → list_any p xs ≡ false → count_by p xs ≡ 0
none_counted p [] none = refl
none_counted p (x ∷ xs) none =
    let parts = neither (p x) (list_any p xs) none in
    omega (arith, sum_by-cons (λ y. flag (p y)) x xs, ap flag parts.0, none_counted p xs parts.1)

pub AreReadable-spent : (bounds : Bounds) (plan : Scenario) (best : ℕ) (nodes : List Node) (regions : List Region) → AreFronts bounds plan best regions (map Spent nodes) → length nodes ≤ most_nodes bounds → AreReadable nodes
AreReadable-spent Plain plan best nodes regions tree few =
    record { few = few; few_leads = omega (arith, none_counted is_lead nodes (no_leads-spent Plain plan best nodes regions (other_than_lead Plain refl) tree)) }
AreReadable-spent Stamp plan best nodes regions tree few =
    record { few = few; few_leads = omega (arith, none_counted is_lead nodes (no_leads-spent Stamp plan best nodes regions (other_than_lead Stamp refl) tree)) }
AreReadable-spent Lead plan best nodes regions tree few =
    record { few = omega (arith, few); few_leads = omega (arith, few, count_by-le-length is_lead nodes) }

pub AreReadable-whole : (bounds : Bounds) (plan : Scenario) (best : ℕ) (nodes : List FrontNode) → left_in nodes ≡ [] → AreFronts bounds plan best (root_region plan ∷ []) nodes → length (spent_in nodes) ≤ most_nodes bounds → AreReadable (spent_in nodes)
AreReadable-whole bounds plan best nodes none fronts few =
    AreReadable-spent bounds plan best (spent_in nodes) (root_region plan ∷ []) (subst (λ (ns : List FrontNode). AreFronts bounds plan best (root_region plan ∷ []) ns) (sym (all_spent nodes (ap length none))) fronts) few

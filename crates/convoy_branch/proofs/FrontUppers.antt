-- The upper bound of a front: no assignment has a greater latency.
use Rattle.std.specs.Prelude.{◌≡◌, ℕ, ◌≤◌, nat_le, max, Bool, true, false, ◌||◌, List, [], ◌∷◌, map, fold}
use Rattle.std.specs.List.{All}
use Rattle.std.proofs.Common.{arith, refl, sym, subst}
use Rattle.std.proofs.lemmas.Bool.Decides.{nat_tests}
use Rattle.std.proofs.lemmas.List.Elements.{All-nil, All-cons, All-weaker}
use Rattle.convoy_scenario.specs.Scenario.{Scenario}
use Rattle.convoy_draft.specs.declared.time.Time.{Time}
use Rattle.convoy_draft.specs.declared.time.Time.TheVariants.{Ticks, Real}
use Rattle.convoy_branch.specs.declared.bounds.Bounds.{Bounds}
use Rattle.convoy_branch.specs.declared.bounds.Bounds.TheVariants as bounds_of
use Rattle.convoy_scenario.specs.WellFormed.{IsScenario}
use Rattle.convoy_certificate.specs.declared.node.Node.TheVariants.{Bound, Stamp, Lead}
use Rattle.convoy_sim.specs.Times.{greatest}
use Rattle.convoy_origin.specs.FromOrigin.{closes_from_origin, plain_from_origin, stamp_from_origin}
use Rattle.convoy_regions.specs.Regions.{Region, root_region}
use Rattle.convoy_checker.specs.TreeLaws.{TreesCover}
use Rattle.convoy_sim.specs.Greatest.{IsUpper}
use Rattle.convoy_branch.specs.Fronts.{IsFront, left_in}
use Rattle.convoy_branch.specs.SearchBounds.{bound_in}
use Rattle.convoy_branch.specs.Uppers.{IsClosedWithin, IsRaised, IsUpperOf, least_over, plain_over}
use Rattle.convoy_branch.proofs.FrontTrees.{HasLeaf, HasTree-front}

-- ---- The greatest of a number and of those of regions

start_le : (start : ℕ) (xs : List ℕ) → start ≤ fold max start xs
start_le start [] = omega arith
start_le start (x ∷ xs) = omega (arith, start_le (max start x) xs)

fold_le : (low high : ℕ) (xs : List ℕ) → low ≤ high → fold max low xs ≤ fold max high xs
fold_le low high [] below = below
fold_le low high (x ∷ xs) below = fold_le (max low x) (max high x) xs (omega (arith, below))

each_le : (bound : Region → ℕ) (start : ℕ) (regions : List Region) → All (λ region. bound region ≤ fold max start (map bound regions)) regions
each_le bound start [] = All-nil (λ region. bound region ≤ start)
each_le bound start (region ∷ regions) =
    let next = max start (bound region) in
    let P : Region → Type 0 = λ b. bound b ≤ fold max next (map bound regions) in
    All-cons P region regions (omega (arith, start_le next (map bound regions))) (each_le bound next regions)

-- ---- Each region that is left has a leaf

leaf_in : (plan : Scenario) (upper : ℕ) (region : Region) (time : Time) → plan.time ≡ time → bound_in time (stamp_from_origin plan region.ranges) (plain_from_origin plan region.ranges) ≤ upper → HasLeaf plan upper region
leaf_in plan upper region Ticks is within = record { leaf = Stamp; last = refl; right = (is, within) }
leaf_in plan upper region Real is within = record { leaf = Bound; last = refl; right = within }

leaf_within : (plan : Scenario) (upper : ℕ) (region : Region) → least_over plan region ≤ upper → HasLeaf plan upper region
leaf_within plan upper region within = leaf_in plan upper region plan.time refl within

leaf_of_closed : (plan : Scenario) (upper latency : ℕ) (region : Region) (stamps : Bool) → latency ≤ upper → nat_le (least_over plan region) latency ≡ stamps → (stamps || closes_from_origin plan region latency) ≡ true → HasLeaf plan upper region
leaf_of_closed plan upper latency region true few is closes =
    let within : least_over plan region ≤ latency = grind (arith, nat_tests, is) in
    leaf_within plan upper region (omega (arith, within, few))
leaf_of_closed plan upper latency region false few is closes =
    record { leaf = Lead latency; last = refl; right = (few, closes) }

closed_within : (plan : Scenario) (upper : ℕ) (region : Region) → IsClosedWithin plan upper region → HasLeaf plan upper region
closed_within plan upper region closed =
    leaf_of_closed plan upper closed.latency region (nat_le (least_over plan region) closed.latency) closed.few refl closed.closes

leaves_left : (bounds : Bounds) (plan : Scenario) (best upper : ℕ) (regions : List Region) → IsUpperOf bounds plan best regions upper → All (HasLeaf plan upper) regions
leaves_left bounds_of.Plain plan best upper regions is =
    subst (λ (n : ℕ). All (HasLeaf plan n) regions) (sym is) (All-weaker (λ region. plain_over plan region ≤ greatest (best ∷ map (plain_over plan) regions)) (HasLeaf plan (greatest (best ∷ map (plain_over plan) regions))) (λ region within. record { leaf = Bound; last = refl; right = within }) regions (each_le (plain_over plan) (max 0 best) regions))
leaves_left bounds_of.Stamp plan best upper regions is =
    subst (λ (n : ℕ). All (HasLeaf plan n) regions) (sym is) (All-weaker (λ region. least_over plan region ≤ greatest (best ∷ map (least_over plan) regions)) (HasLeaf plan (greatest (best ∷ map (least_over plan) regions))) (λ region within. leaf_within plan (greatest (best ∷ map (least_over plan) regions)) region within) regions (each_le (least_over plan) (max 0 best) regions))
leaves_left bounds_of.Lead plan best upper regions is =
    All-weaker (IsClosedWithin plan upper) (HasLeaf plan upper) (λ region closed. closed_within plan upper region closed) regions is.closed

above_best : (bounds : Bounds) (plan : Scenario) (best upper : ℕ) (regions : List Region) → IsUpperOf bounds plan best regions upper → best ≤ upper
above_best bounds_of.Plain plan best upper regions is = omega (arith, is, start_le (max 0 best) (map (plain_over plan) regions))
above_best bounds_of.Stamp plan best upper regions is = omega (arith, is, start_le (max 0 best) (map (least_over plan) regions))
above_best bounds_of.Lead plan best upper regions is = is.above

-- with these leaves the front is a tree that is right for the upper bound
pub IsUpper-front : (bounds : Bounds) (plan : Scenario) (best upper tickets : ℕ) → TreesCover → IsScenario plan → IsFront bounds plan best upper tickets → IsUpper plan upper
IsUpper-front bounds plan best upper tickets cover lawful front =
    let regions = left_in front.nodes in
    let whole = HasTree-front bounds plan best upper front.nodes (root_region plan ∷ []) (above_best bounds plan best upper regions front.upper_is) (leaves_left bounds plan best upper regions front.upper_is) front.tree in
    cover plan upper whole.nodes lawful whole.tree

-- ---- The upper bound region by region

pub IsUpperOf-none : (bounds : Bounds) (plan : Scenario) (best : ℕ) → IsUpperOf bounds plan best [] best
IsUpperOf-none bounds_of.Plain plan best = omega arith
IsUpperOf-none bounds_of.Stamp plan best = omega arith
IsUpperOf-none bounds_of.Lead plan best =
    record { above = omega arith; closed = All-nil (IsClosedWithin plan best); within = omega arith }

raised_fold : (start raised bound : ℕ) (xs : List ℕ) → raised ≡ max start bound → fold max (max 0 raised) xs ≡ fold max (max (max 0 start) bound) xs
raised_fold start raised bound xs is =
    let same : max 0 raised ≡ max (max 0 start) bound = omega (arith, is) in rw same

pub IsUpperOf-cons : (bounds : Bounds) (plan : Scenario) (best raised : ℕ) (region : Region) (regions : List Region) (upper : ℕ) → IsRaised bounds plan region best raised → IsUpperOf bounds plan raised regions upper → IsUpperOf bounds plan best (region ∷ regions) upper
IsUpperOf-cons bounds_of.Plain plan best raised region regions upper is rest =
    omega (arith, rest, raised_fold best raised (plain_over plan region) (map (plain_over plan) regions) is)
IsUpperOf-cons bounds_of.Stamp plan best raised region regions upper is rest =
    omega (arith, rest, raised_fold best raised (least_over plan region) (map (least_over plan) regions) is)
IsUpperOf-cons bounds_of.Lead plan best raised region regions upper is rest =
    let here : IsClosedWithin plan upper region = record { latency = raised; few = rest.above; closes = is.closes } in
    let most : fold max (max 0 raised) (map (least_over plan) regions) ≤ fold max (max (max 0 best) (least_over plan region)) (map (least_over plan) regions) = fold_le (max 0 raised) (max (max 0 best) (least_over plan region)) (map (least_over plan) regions) (omega (arith, is.within)) in
    record {
      above = omega (arith, is.above, rest.above);
      closed = All-cons (IsClosedWithin plan upper) region regions here rest.closed;
      within = omega (arith, rest.within, most);
    }

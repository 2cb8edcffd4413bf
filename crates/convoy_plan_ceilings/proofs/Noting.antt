-- What is noted of a least delay from a site to a site.
use Rattle.std.proofs.Common.{◌≡◌, ◌≢◌, ℕ, ◌+◌, ◌*◌, ◌<◌, ◌≤◌, ◌==◌, nat_lt, Bool, true, false, ◌&&◌, cond, List, length, get_or, set, Option, Some, None, Ok, refl, sym, ap, subst, ◌∙◌, arith}
use Rattle.std.proofs.lemmas.Bool.{both_ways, eq-eqb, eqb-true, ltb-true}
use Rattle.std.proofs.lemmas.List.{get_or-set_other, get_or-set_same}
use Rattle.std.proofs.lemmas.Option.{same_Some}
use Rattle.convoy_scenario.specs.declared.sender.Sender.{Sender}
use Rattle.convoy_scenario.specs.Scenario.{Scenario, message_at, range_between}
use Rattle.convoy_plans.specs.declared.fault.TheConstants.{MOST_SITES}
use Rattle.convoy_plans.specs.declared.plan.Origin.{Origin}
use Rattle.convoy_plans.specs.declared.plan.Origin.TheVariants.{Group}
use Rattle.convoy_plans.specs.PlanLaws.{MessagesAreOfPlans, site_of}
use Rattle.convoy_plans.specs.Placements.{scenario_at, site_at}
use Rattle.convoy_plans.specs.Plans.{IsPlan, Plan, most_between, origin_of}
use Rattle.convoy_plans.specs.Told.{is_itself}
use Rattle.convoy_plan_ceilings.specs.CeilingChoiceLaws.{LeastsAreOfSites}
use Rattle.convoy_plan_ceilings.specs.Leasts.{AreLeasts, IsLeastBetween}

-- two pairs of sites that stand at one place are one
one_place : (a b x y : ℕ) → b < 16 → y < 16 → x * 16 + y ≡ a * 16 + b → x ≡ a
one_place a b x y here there same = omega (arith, here, there, same)

pub noted : (plan : Plan) (leasts : List (Option ℕ)) (a b least : ℕ) → b < 16 → a * MOST_SITES + b < length leasts → IsLeastBetween plan a b least
    → AreLeasts plan leasts → AreLeasts plan (set leasts (a * MOST_SITES + b) (Some least))
noted plan leasts a b least few within is are x y l known =
    by_tests (nat_lt x 16) refl (nat_lt y 16) refl known where
      other : x * 16 + y ≢ a * 16 + b → nat_lt x 16 ≡ true → nat_lt y 16 ≡ true → get_or (set leasts (a * 16 + b) (Some least)) (x * 16 + y) None ≡ Some l → IsLeastBetween plan x y l
      other apart first second at =
          are x y l
          (ap (λ (t : Bool). cond (t && nat_lt y 16) (get_or leasts (x * 16 + y) None) None) first
          ∙ ap (λ (t : Bool). cond t (get_or leasts (x * 16 + y) None) None) second
          ∙ sym (get_or-set_other leasts (a * 16 + b) (x * 16 + y) (Some least) None apart) ∙ at)

      same_pair : x * 16 + y ≡ a * 16 + b → nat_lt y 16 ≡ true → get_or (set leasts (a * 16 + b) (Some least)) (x * 16 + y) None ≡ Some l → IsLeastBetween plan x y l
      same_pair same second at =
          let below = ltb-true y 16 second in
          let first : x ≡ a = one_place a b x y few below same in
          let then : y ≡ b = omega (arith, first, same) in
          let there : get_or (set leasts (a * 16 + b) (Some least)) (a * 16 + b) None ≡ Some l = subst (λ (k : ℕ). get_or (set leasts (a * 16 + b) (Some least)) k None ≡ Some l) same at in
          let one : least ≡ l = same_Some least l (sym (get_or-set_same leasts (a * 16 + b) (Some least) None within) ∙ there) in
          subst (λ (k : ℕ). IsLeastBetween plan k y l) (sym first)
          (subst (λ (k : ℕ). IsLeastBetween plan a k l) (sym then) (subst (λ (k : ℕ). IsLeastBetween plan a b k) one is))

      by_place : (t : Bool) → (x * 16 + y == a * 16 + b) ≡ t → nat_lt x 16 ≡ true → nat_lt y 16 ≡ true → get_or (set leasts (a * 16 + b) (Some least)) (x * 16 + y) None ≡ Some l → IsLeastBetween plan x y l
      by_place true same first second at = same_pair (eqb-true (x * 16 + y) (a * 16 + b) same) second at
      by_place false apart first second at = other (λ e. both_ways _ apart (eq-eqb (x * 16 + y) (a * 16 + b) e)) first second at

      by_tests : (first : Bool) → nat_lt x 16 ≡ first → (second : Bool) → nat_lt y 16 ≡ second
          → cond (first && second) (get_or (set leasts (a * 16 + b) (Some least)) (x * 16 + y) None) None ≡ Some l → IsLeastBetween plan x y l
      by_tests true first true second at = by_place (x * 16 + y == a * 16 + b) refl first second at
      by_tests true first false second at = absurd cc
      by_tests false first second_is second at = absurd cc

-- what a message of the scenario of a placement shows
pub shown : (law : LeastsAreOfSites) (messages : MessagesAreOfPlans) (plan : Plan) (placement : List ℕ) (scenario : Scenario) (m g : ℕ) → IsPlan plan
    → scenario_at plan placement ≡ Ok scenario → m < length plan.written.messages → g < length plan.written.groups → is_itself (origin_of plan m) g ≡ false
    → 1 ≤ most_between plan (site_of placement (origin_of plan m)) (site_at placement g)
    → IsLeastBetween plan (site_of placement (origin_of plan m)) (site_at placement g) (range_between scenario (message_at scenario m).sender g).0
shown law messages plan placement scenario m g is_plan made known below away some =
    let of = messages plan placement scenario m is_plan made known in
    let apart : origin_of plan m ≢ Group g = λ e. both_ways _ away (ap (λ (o : Origin). is_itself o g) e ∙ eq-eqb g g refl) in
    subst (λ (s : Sender). IsLeastBetween plan (site_of placement (origin_of plan m)) (site_at placement g) (range_between scenario s g).0) (sym of.sender)
    (law plan placement scenario (origin_of plan m) g is_plan made of.origin below apart some)

-- the same as it is found
pub shown_by : (law : LeastsAreOfSites) (messages : MessagesAreOfPlans) (plan : Plan) (placement : List ℕ) (scenario : Scenario) (m g : ℕ) (origin : Origin) (from to : ℕ) (sender : Sender)
    (range : ℕ × ℕ) → IsPlan plan → scenario_at plan placement ≡ Ok scenario → m < length plan.written.messages → g < length plan.written.groups
    → origin ≡ origin_of plan m → is_itself origin g ≡ false → from ≡ site_of placement origin → to ≡ site_at placement g → 1 ≤ most_between plan from to
    → sender ≡ (message_at scenario m).sender → range ≡ range_between scenario sender g → IsLeastBetween plan from to range.0
shown_by law messages plan placement scenario m g origin from to sender range is_plan made known below same away from_is to_is some sent ranged =
    let a : from ≡ site_of placement (origin_of plan m) = from_is ∙ ap (site_of placement) same in
    let r : range ≡ range_between scenario (message_at scenario m).sender g = ranged ∙ ap (λ (s : Sender). range_between scenario s g) sent in
    let here = shown law messages plan placement scenario m g is_plan made known below (subst (λ (o : Origin). is_itself o g ≡ false) same away)
    (subst (λ (k : ℕ). 1 ≤ most_between plan (site_of placement (origin_of plan m)) k) to_is (subst (λ (k : ℕ). 1 ≤ most_between plan k to) a some)) in
    subst (λ (k : ℕ). IsLeastBetween plan k to range.0) (sym a)
    (subst (λ (k : ℕ). IsLeastBetween plan (site_of placement (origin_of plan m)) k range.0) (sym to_is)
    (subst (λ (k : ℕ × ℕ). IsLeastBetween plan (site_of placement (origin_of plan m)) (site_at placement g) k.0) (sym r) here))

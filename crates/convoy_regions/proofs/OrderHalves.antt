-- Splits by the order of two stages: the halves are regions, and have the members of the region.
use Rattle.std.proofs.Common.{◌≡◌, ◌↔◌, ℕ, ◌<◌, Bool, true, false, ◌&&◌, ◌==◌, not, nat_lt, inl, inr, List, [], ◌∷◌, ◌++◌, length, All, refl, sym, subst, ◌∙◌, arith}
use Rattle.std.specs.Prelude.{IsTrue, IsFalse}
use Rattle.std.proofs.lemmas.Bool.{and_parts, and_from, cases_Bool, both_ways, eqb-true, eq-eqb, ltb-true, not-true, not_from_false}
use Rattle.std.proofs.lemmas.List.{get_or_push, length_push}
use Rattle.std.proofs.lemmas.List.Elements.{All-push}
use Rattle.convoy_scenario.specs.Scenario.{Scenario}
use Rattle.convoy_packets.specs.Assignment.{Schedule}
use Rattle.convoy_sim.specs.declared.moment.MomentKind.{MomentKind}
use Rattle.convoy_sim.specs.declared.moment.MomentKind.TheVariants.{Arrival, Commit}
use Rattle.convoy_intervals.specs.Boxes.{CanSplit}
use Rattle.convoy_intervals.specs.BoxLaws.{HalvesAreBoxes}
use Rattle.convoy_regions.specs.declared.stage.Stage.{Stage}
use Rattle.convoy_regions.specs.Stages.{IsPrecedence, IsStage, Precedence, comes_before, is_same, known_before, moment_by, moment_of, stage_at, stages_of}
use Rattle.convoy_regions.specs.Regions.{IsMember, IsRegion, Region, can_order, first_half, is_commit, lower_half, may_come_either_way, second_half, upper_half}
use Rattle.convoy_regions.proofs.MomentsOrder.{before_one_way, before_total}
use Rattle.convoy_regions.proofs.Folds.{same_from_parts}
use Rattle.convoy_regions.proofs.StageLists.{stage_of_number}

-- the five parts of what may come either way
abbrev one_group : Stage → Stage → Bool
one_group a b = a.group == b.group

abbrev two_commits : Stage → Stage → Bool
two_commits a b = is_commit a.kind && is_commit b.kind

pub record MayComeEitherWay (before : List Precedence) (a b : Stage) : Type 0 where
  pub group : a.group ≡ b.group
  pub apart : is_same a b ≡ false

pub either_way : (before : List Precedence) (a b : Stage) → may_come_either_way before a b ≡ true → MayComeEitherWay before a b
either_way before a b e =
    let r = and_parts (one_group a b && not (is_same a b) && not (two_commits a b) && not (known_before before a b)) (not (known_before before b a)) e in
    let s = and_parts (one_group a b && not (is_same a b) && not (two_commits a b)) (not (known_before before a b)) r.0 in
    let t = and_parts (one_group a b && not (is_same a b)) (not (two_commits a b)) s.0 in
    let u = and_parts (one_group a b) (not (is_same a b)) t.0 in
    record { group = eqb-true a.group b.group u.0; apart = not-true (is_same a b) u.1 }

-- where neither is known to come before the other, they may come either way
pub from_unknown : (before : List Precedence) (a b : Stage) → a.group ≡ b.group → is_same a b ≡ false → two_commits a b ≡ false → known_before before a b ≡ false → known_before before b a ≡ false → may_come_either_way before a b ≡ true
from_unknown before a b group apart kinds there back =
    and_from (one_group a b && not (is_same a b) && not (two_commits a b) && not (known_before before a b)) (not (known_before before b a))
    (and_from (one_group a b && not (is_same a b) && not (two_commits a b)) (not (known_before before a b))
    (and_from (one_group a b && not (is_same a b)) (not (two_commits a b))
    (and_from (one_group a b) (not (is_same a b)) (eq-eqb a.group b.group group) (not_from_false (is_same a b) apart))
    (not_from_false (two_commits a b) kinds))
    (not_from_false (known_before before a b) there))
    (not_from_false (known_before before b a) back)

-- the parts of what may be split by the order of two stages
pub record CanOrder (plan : Scenario) (region : Region) (first second : ℕ) : Type 0 where
  pub first_below : first < length (stages_of plan)
  pub second_below : second < length (stages_of plan)
  pub either : MayComeEitherWay region.before (stage_at plan first) (stage_at plan second)

pub order_parts : (plan : Scenario) (region : Region) (first second : ℕ) → can_order plan region first second ≡ true → CanOrder plan region first second
order_parts plan region first second e =
    let r = and_parts (nat_lt first second && nat_lt second (length (stages_of plan))) (may_come_either_way region.before (stage_at plan first) (stage_at plan second)) e in
    let s = and_parts (nat_lt first second) (nat_lt second (length (stages_of plan))) r.0 in
    let low = ltb-true first second s.0 in
    let high = ltb-true second (length (stages_of plan)) s.1 in
    record { first_below = omega arith; second_below = high; either = either_way region.before (stage_at plan first) (stage_at plan second) r.1 }

-- ---- the halves are regions
pub halves_are_regions : HalvesAreBoxes → (plan : Scenario) (region : Region) → IsRegion plan region
    → ((packet at : ℕ) → CanSplit region.ranges packet at → IsRegion plan (lower_half region packet at) × IsRegion plan (upper_half region packet at))
    × ((first second : ℕ) → IsTrue (can_order plan region first second) → IsRegion plan (first_half plan region first second) × IsRegion plan (second_half plan region first second))
halves_are_regions law plan region is = (
  λ packet at can.
      let both = law plan region.ranges packet at is.inside can in
      (record { inside = both.0; within = is.within }, record { inside = both.1; within = is.within }),
  λ first second can.
      let parts = order_parts plan region first second can in
      let a : Stage = stage_at plan first in
      let b : Stage = stage_at plan second in
      let p : IsStage plan a = stage_of_number plan first parts.first_below in
      let q : IsStage plan b = stage_of_number plan second parts.second_below in
      let there : IsPrecedence plan (a, b) = record { first = p; second = q; one_group = parts.either.group } in
      let back : IsPrecedence plan (b, a) = record { first = q; second = p; one_group = sym parts.either.group } in (
        record { inside = is.inside; within = All-push (IsPrecedence plan) region.before (a, b) is.within there },
        record { inside = is.inside; within = All-push (IsPrecedence plan) region.before (b, a) is.within back },
      ),
)

-- ---- they have the members of the region
kind_of : (kind : MomentKind) (plan : Scenario) (schedule : Schedule) (m g : ℕ) → (moment_by kind plan schedule m g).kind ≡ kind
kind_of Arrival plan schedule m g = refl
kind_of Commit plan schedule m g = refl

message_of : (kind : MomentKind) (plan : Scenario) (schedule : Schedule) (m g : ℕ) → (moment_by kind plan schedule m g).message ≡ m
message_of Arrival plan schedule m g = refl
message_of Commit plan schedule m g = refl

group_of : (kind : MomentKind) (plan : Scenario) (schedule : Schedule) (m g : ℕ) → (moment_by kind plan schedule m g).group ≡ g
group_of Arrival plan schedule m g = refl
group_of Commit plan schedule m g = refl

-- of two stages one comes before the other
pub other_way : (plan : Scenario) (schedule : Schedule) (a b : Stage) → is_same a b ≡ false → comes_before plan schedule a b ≡ false → comes_before plan schedule b a ≡ true
other_way plan schedule a b apart not_first = elim (cases_Bool (comes_before plan schedule b a)) [
  | inl e ↦ e
  | inr e ↦
      let same = before_total (moment_of plan schedule a) (moment_of plan schedule b) not_first e in
      absurd (both_ways (is_same a b) apart (same_from_parts a b
      (sym (kind_of a.kind plan schedule a.message a.group) ∙ same.0 ∙ kind_of b.kind plan schedule b.message b.group)
      (sym (message_of a.kind plan schedule a.message a.group) ∙ same.1 ∙ message_of b.kind plan schedule b.message b.group)
      (sym (group_of a.kind plan schedule a.message a.group) ∙ same.2 ∙ group_of b.kind plan schedule b.message b.group)))
]

pub last_of_all : {X : Type 0} (P : X → Type 0) (xs : List X) (x : X) → All P (xs ++ x ∷ []) → P x
last_of_all P xs x all = subst P (get_or_push xs x x (length xs) refl) (all (length xs) x (let long = length_push xs x in omega arith))

pub orders_partition : (plan : Scenario) (region : Region) (first second : ℕ) (schedule : Schedule) → IsTrue (can_order plan region first second) → IsMember plan region schedule
    → (IsMember plan (first_half plan region first second) schedule ↔ IsTrue (comes_before plan schedule (stage_at plan first) (stage_at plan second)))
    × (IsMember plan (second_half plan region first second) schedule ↔ IsFalse (comes_before plan schedule (stage_at plan first) (stage_at plan second)))
orders_partition plan region first second schedule can member =
    let parts = order_parts plan region first second can in
    let a : Stage = stage_at plan first in
    let b : Stage = stage_at plan second in
    let holds : Precedence → Type 0 = λ pair. IsTrue (comes_before plan schedule pair.0 pair.1) in (
      (λ m. last_of_all holds region.before (a, b) m.1, λ t. (member.0, All-push holds region.before (a, b) member.1 t)),
      (
        λ m. before_one_way (moment_of plan schedule b) (moment_of plan schedule a) (last_of_all holds region.before (b, a) m.1),
        λ f. (member.0, All-push holds region.before (b, a) member.1 (other_way plan schedule a b parts.either.apart f)),
      ),
    )

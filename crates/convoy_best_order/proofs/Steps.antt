-- One group listed after the other.
use Rattle.std.proofs.Common.{All, ◌≡◌, ℕ, ◌<◌, Bool, true, false, not, List, [], ◌∷◌, ◌++◌, length, get_or, None, IsTrue, inl, sym, refl, ap, subst, ◌∙◌, append_assoc, arith, Option}
use Rattle.std.specs.List.{Contains, remove}
use Rattle.std.specs.List.Sorted.{IsPermutation}
use Rattle.std.proofs.lemmas.Bool.{eq-eqb}
use Rattle.std.proofs.lemmas.List.{get_or_default, length-map}
use Rattle.std.proofs.lemmas.List.Elements.{All-contains_itself, All-head, All-tail, Contains-get_or}
use Rattle.std.proofs.lemmas.List.Sorted.{All-permutation, IsPermutation-append_right, IsPermutation-filter_both, IsPermutation-remove, IsPermutation-trans}
use Rattle.convoy_scenario.specs.Scenario.{Scenario}
use Rattle.convoy_scenario.specs.WellFormed.{IsScenario}
use Rattle.convoy_sim.proofs.Membership.{IsIn, in-filter, in-range, in_of_contains, in_of_filter, list_any_in}
use Rattle.convoy_branch.specs.Options.{Settings}
use Rattle.convoy_best_order.specs.declared.best.Reason.{Reason}
use Rattle.convoy_best_order.specs.declared.target.Target.{Target}
use Rattle.convoy_best_order.specs.Best.{AreReasons, IsReason, group_of, groups_of}
use Rattle.convoy_best_order.specs.Choices.{groups_with, groups_without, with_next}
use Rattle.convoy_best_order.specs.Orders.{IsOrder, group_numbers}
use Rattle.convoy_best_order.specs.Spreads.{IsSpreadIn}
use Rattle.convoy_best_order.specs.Targets.{MayBeTarget, has_target, is_at}
use Rattle.convoy_best_order.proofs.Better.{group_known}

-- those without a target and those with one are all groups
pub parted : (targets : List Target) (scenario : Scenario) → IsOrder scenario (groups_without targets scenario ++ groups_with targets scenario)
parted targets scenario =
    IsPermutation-filter_both (λ g. not (has_target targets g)) (has_target targets) (λ g. twice (has_target targets g)) (group_numbers scenario) where
      twice : (b : Bool) → b ≡ not (not b)
      twice true = refl
      twice false = refl

-- one of the rest, taken out and put first, is the rest in another order
pub front : (left : List ℕ) (place : ℕ) → place < length left → IsPermutation left (get_or left place 0 ∷ remove left place)
front left place within = IsPermutation-remove left place (get_or left place 0) within (get_or_default left place 0 (get_or left place 0) within)

-- it is listed next
pub next_listed : (scenario : Scenario) (ahead left : List ℕ) (place : ℕ) → place < length left → IsOrder scenario (ahead ++ left) → IsOrder scenario (with_next ahead left place)
next_listed scenario ahead left place within is =
    IsPermutation-trans (group_numbers scenario) (ahead ++ left) (with_next ahead left place) is
    (IsPermutation-append_right ahead left (get_or left place 0 ∷ remove left place) (front left place within))

-- so are those that are ahead then, and those that are left
pub still_order : (scenario : Scenario) (ahead left : List ℕ) (place : ℕ) → place < length left → IsOrder scenario (ahead ++ left)
    → IsOrder scenario ((ahead ++ get_or left place 0 ∷ []) ++ remove left place)
still_order scenario ahead left place within is =
    subst (λ (gs : List ℕ). IsOrder scenario gs) (sym (append_assoc ahead (get_or left place 0 ∷ []) (remove left place)))
    (next_listed scenario ahead left place within is)

-- ---- the groups that are left
pub all_have : (targets : List Target) (scenario : Scenario) → All (λ g. IsTrue (has_target targets g)) (groups_with targets scenario)
all_have targets scenario k d l =
    let left : List ℕ = groups_with targets scenario in
    (in_of_filter (has_target targets) (get_or left k d) (group_numbers scenario) (in_of_contains (get_or left k d) left (Contains-get_or left k d l))).1

pub still_all : (P : ℕ → Type 0) (left : List ℕ) (place : ℕ) → place < length left → All P left → All P (remove left place)
still_all P left place within all =
    All-tail P (get_or left place 0) (remove left place) (All-permutation P left (get_or left place 0 ∷ remove left place) (front left place within) all)

nonempty : {X : Type 0} (x : X) (xs : List X) → IsIn x xs → 0 < length xs
nonempty x [] i = absurd i
nonempty x (y ∷ ys) i = omega arith

pub some_group : (targets : List Target) (scenario : Scenario) → IsScenario scenario → 0 < length targets → All (MayBeTarget scenario) targets
    → 0 < length (groups_with targets scenario)
some_group [] scenario well some all = absurd (omega (arith, some))
some_group (target ∷ targets) scenario well some all =
    let may = All-head (MayBeTarget scenario) target targets all in
    let g : ℕ = target.group in
    let known = group_known scenario well target.message g may.addressed in
    nonempty g (groups_with (target ∷ targets) scenario)
    (in-filter (has_target (target ∷ targets)) g (group_numbers scenario) (in-range g 0 (length scenario.groups) (omega arith) (omega (arith, known)))
    (list_any_in (is_at g) target (target ∷ targets) (inl refl) (eq-eqb g g refl)))

-- ---- reasons
pub is_reason : (settings : Settings) (span : Option ℕ) (scenario : Scenario) (targets : List Target) (ahead left : List ℕ) (place : ℕ) (reason : Reason) → place < length left
    → IsOrder scenario (ahead ++ left) → reason.order.items ≡ with_next ahead left place → group_of reason ≡ get_or left place 0
    → Contains targets reason.target → IsSpreadIn settings span scenario reason.order.items reason.target reason.spread → IsReason settings span scenario targets left reason
is_reason settings span scenario targets ahead left place reason within is order at of_target found = record {
  of_target = of_target;
  ahead = ahead;
  behind = remove left place;
  split = order ∙ ap (λ g. ahead ++ g ∷ remove left place) (sym at);
  among = still_all (Contains left) left place within (All-contains_itself left);
  is = subst (IsOrder scenario) (sym order) (next_listed scenario ahead left place within is);
  found = found;
}

pub are_reasons : (settings : Settings) (span : Option ℕ) (scenario : Scenario) (targets : List Target) (left : List ℕ) (reasons : List Reason) → 0 < length reasons
    → groups_of reasons ≡ left → All (IsReason settings span scenario targets left) reasons → AreReasons settings span scenario targets reasons
are_reasons settings span scenario targets left reasons some is all = record {
  some = some;
  all = subst (λ gs. All (IsReason settings span scenario targets gs) reasons) (sym is) all;
}

pub as_many : (left : List ℕ) (reasons : List Reason) → groups_of reasons ≡ left → length reasons ≡ length left
as_many left reasons is = sym (length-map reasons group_of) ∙ ap length is

-- one target more, at a group or not
abbrev pub no_target : Target
no_target = record { message = 0; group = 0; deadline = None }

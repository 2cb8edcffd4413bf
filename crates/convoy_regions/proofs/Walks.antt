-- Walks over numbers: places and their stages, messages, and ties by the numbers of their stages.
use Rattle.std.proofs.Common.{◌≡◌, ℕ, zero, suc, ◌+◌, ◌<◌, ◌==◌, Bool, true, false, IfNone, IfSome, List, [], ◌∷◌, ◌++◌, length, All, Option, Some, None, is_some, ap, sym, subst, ◌∙◌, inl, inr, arith, add-one, add-zero, zero-add, eqb-true, append-nil}
use Rattle.std.specs.List.{flat_map, range_with_len, sum_by, list_any}
use Rattle.std.proofs.lemmas.Bool.{and_parts, cases_lt, false≢true, or_cases}
use Rattle.std.proofs.lemmas.List.{get_or_past}
use Rattle.std.proofs.lemmas.List.Concat.{flat_map-append}
use Rattle.std.proofs.lemmas.List.Elements.{All-head, All-push, All-tail}
use Rattle.std.proofs.lemmas.List.Folds.{list_any_at, list_any_none}
use Rattle.std.proofs.lemmas.List.FromFn.{get_or-range_with_len, length-range_with_len}
use Rattle.std.proofs.lemmas.List.Sums.{sum_by_push}
use Rattle.convoy_scenario.specs.Scenario.{GoesTo, Scenario, is_addressed, message_at, no_message}
use Rattle.convoy_scenario.specs.WellFormed.{IsScenario}
use Rattle.convoy_intervals.specs.Boxes.{Box}
use Rattle.convoy_regions.specs.Stages.{IsPrecedence, Precedence, stage_at, stages_in, stages_of}
use Rattle.convoy_regions.specs.Regions.{IsRegion, Region, can_order, has_open_tie, is_open_tie}
use Rattle.convoy_regions.proofs.OrderHalves.{order_parts}
use Rattle.convoy_regions.proofs.StageLists.{stage_of_number}

-- one more number at the end of a range
range_with_len-more : (a n : ℕ) → range_with_len a (suc n) ≡ range_with_len a n ++ (a + n) ∷ []
range_with_len-more a zero = ap (λ x. x ∷ []) (sym (add-zero a))
range_with_len-more a (suc n) =
    let e : (a + 1) + n ≡ a + suc n = omega arith in
    ap (λ xs. a ∷ xs) (range_with_len-more (a + 1) n ∙ ap (λ x. range_with_len (a + 1) n ++ x ∷ []) e)

range_more : (n : ℕ) → range_with_len 0 (n + 1) ≡ range_with_len 0 n ++ n ∷ []
range_more n = ap (range_with_len 0) (add-one n) ∙ range_with_len-more 0 n ∙ ap (λ x. range_with_len 0 n ++ x ∷ []) (zero-add n)

pub sum_by_range_more : (f : ℕ → ℕ) (n : ℕ) → sum_by f (range_with_len 0 (n + 1)) ≡ sum_by f (range_with_len 0 n) + f n
sum_by_range_more f n = ap (sum_by f) (range_more n) ∙ sum_by_push f (range_with_len 0 n) n

-- the stages of the places so far, and of the next one
pub stages_more : (scenario : Scenario) (n : ℕ)
    → flat_map (stages_in scenario) (range_with_len 0 (n + 1)) ≡ flat_map (stages_in scenario) (range_with_len 0 n) ++ stages_in scenario n
stages_more scenario n =
    ap (flat_map (stages_in scenario)) (range_more n)
    ∙ flat_map-append (stages_in scenario) (range_with_len 0 n) (n ∷ [])
    ∙ ap (λ xs. flat_map (stages_in scenario) (range_with_len 0 n) ++ xs) (append-nil (stages_in scenario n))

-- a message that goes somewhere is one of the scenario's
pub message_known : (scenario : Scenario) (m g : ℕ) → GoesTo scenario m g → m < length scenario.multicasts
message_known scenario m g goes = elim (cases_lt m (length scenario.multicasts)) [
  | inl below ↦ below
  | inr above ↦ absurd (false≢true (ap (λ message. is_addressed message g) (sym (get_or_past scenario.multicasts m no_message above)) ∙ goes))
]

among : (groups g : ℕ) (xs : List ℕ) → All (λ h. h < groups) xs → list_any (λ h. h == g) xs ≡ true → g < groups
among groups g [] known found = absurd (false≢true found)
among groups g (h ∷ hs) known found = elim (or_cases (h == g) (list_any (λ h. h == g) hs) found) [
  | inl here ↦ subst (λ x. x < groups) (eqb-true h g here) (All-head (λ h. h < groups) h hs known)
  | inr later ↦ among groups g hs (All-tail (λ h. h < groups) h hs known) later
]

-- and the group that it goes to is one
pub group_known : (scenario : Scenario) (m g : ℕ) → IsScenario scenario → GoesTo scenario m g → g < length scenario.groups
group_known scenario m g well goes =
    among (length scenario.groups) g (message_at scenario m).destinations (well.messages m no_message (message_known scenario m g goes)).known goes

-- ---- Ties

-- a test that no number passes, and one that some number passes
pub none_up_to : (p : ℕ → Bool) (n : ℕ) → ((k : ℕ) → k < n → p k ≡ false) → list_any p (range_with_len 0 n) ≡ false
none_up_to p n none = list_any_none p (range_with_len 0 n)
    (λ k d below.
    let in' : k < n = subst (λ m. k < m) (length-range_with_len 0 n) below in
    ap p (get_or-range_with_len 0 n k d in' ∙ zero-add k) ∙ none k in')

some_up_to : (p : ℕ → Bool) (n k : ℕ) → k < n → p k ≡ true → list_any p (range_with_len 0 n) ≡ true
some_up_to p n k below holds =
    list_any_at p (range_with_len 0 n) k 0 (subst (λ m. k < m) (sym (length-range_with_len 0 n)) below)
    (ap p (get_or-range_with_len 0 n k 0 below ∙ zero-add k) ∙ holds)

tie_found : (plan : Scenario) (region : Region) (first second : ℕ) → is_open_tie plan region first second ≡ true → has_open_tie plan region ≡ true
tie_found plan region first second is =
    let can = order_parts plan region first second (and_parts (can_order plan region first second) _ is).0 in
    let count = length (stages_of plan) in
    some_up_to (λ k. list_any (is_open_tie plan region k) (range_with_len 0 count)) count first can.first_below
    (some_up_to (is_open_tie plan region first) count second can.second_below is)

-- there is an open tie just where one is found
pub found_or_none :
    (plan : Scenario) (region : Region) (tie : Option (ℕ × ℕ))
    → IfSome tie (λ tie. is_open_tie plan region tie.0 tie.1 ≡ true)
    → IfNone tie (has_open_tie plan region ≡ false)
    → is_some tie ≡ has_open_tie plan region
found_or_none plan region (Some tie) found none = sym (tie_found plan region tie.0 tie.1 found)
found_or_none plan region None found none = sym none

-- ---- Two stages in order

-- the two stages by whose order a region may be split make a precedence
pub pair_is_precedence :
    (own plan : Scenario) (region : Region) (first second : ℕ) (pair : Precedence)
    → own ≡ plan
    → can_order own region first second ≡ true
    → pair ≡ (stage_at plan first, stage_at plan second)
    → IsPrecedence own pair × IsPrecedence own (pair.1, pair.0)
pair_is_precedence own plan region first second pair same can is =
    let parts = order_parts own region first second can in
    let there : pair ≡ (stage_at own first, stage_at own second) = is ∙ ap (λ p. (stage_at p first, stage_at p second)) (sym same) in
    let one = stage_of_number own first parts.first_below in
    let two = stage_of_number own second parts.second_below in
    let group = parts.either.group in
    subst (λ pair. IsPrecedence own pair × IsPrecedence own (pair.1, pair.0)) (sym there)
    (record { first = one; second = two; one_group = group }, record { first = two; second = one; one_group = sym group })

-- a region stays one with such a precedence more
pub region_more :
    (plan : Scenario) (ranges : Box) (before more : List Precedence) (pair : Precedence)
    → IsRegion plan (record { ranges = ranges; before = before })
    → IsPrecedence plan pair
    → more ≡ before ++ pair ∷ []
    → IsRegion plan (record { ranges = ranges; before = more })
region_more plan ranges before more pair region is grown =
    record { inside = region.inside; within = subst (All (IsPrecedence plan)) (sym grown) (All-push (IsPrecedence plan) before pair region.within is) }

-- Rows and reasons, each made by itself.
use Rattle.std.proofs.Common.{All, ◌≡◌, ℕ, zero, suc, ◌+◌, ◌<◌, List, [], ◌∷◌, length, map, get_or, Vec, Some, Result, Ok, Err, IfOk, MatchResult, refl, ap, subst, sym, ◌∙◌, arith, Option}
use Rattle.std.specs.List.{AllZip, Contains, range_with_len, slice_get}
use Rattle.std.specs.declared.alloc.AllocError.{AllocError}
use Rattle.std.specs.declared.alloc.Global.{Global}
use Rattle.std.proofs.lemmas.List.{map-id}
use Rattle.std.proofs.lemmas.Option.{get_or_from_slice_get}
use Rattle.convoy_rows.proofs.OfKeys.{all_rows, all_zip_then, all_zip_values, keys_are}
use Rattle.convoy_scenario.specs.Scenario.{Scenario}
use Rattle.convoy_branch.specs.Options.{Settings}
use Rattle.convoy_best_order.specs.declared.best.Reason.{Reason}
use Rattle.convoy_best_order.specs.declared.best.Row.{Row}
use Rattle.convoy_best_order.specs.declared.excess.Excess.{Excess}
use Rattle.convoy_best_order.specs.declared.target.Target.{Target}
use Rattle.convoy_best_order.specs.Best.{AreRows, IsReason, IsRow, group_of, groups_of, target_of}
use Rattle.convoy_best_order.specs.Choices.{AreCosts, AreKept, IsDear, cost_at, costs_of, with_next}
use Rattle.convoy_best_order.specs.Each.{IsReasonAt, IsRowOf, MayBeReason, MayBeRow}

-- ---- rows
module _ (settings : Settings) (span : Option ℕ) (scenario : Scenario) (order : List ℕ) (targets : List Target) where
  -- the rows of the targets are all of them
  rows_are : (rows : List Row) → AllZip (IsRowOf settings span scenario order) targets rows → AreRows settings span scenario targets order rows
  rows_are rows all = record {
    of_targets = keys_are (IsRowOf settings span scenario order) (λ t. t) target_of targets rows (λ t row is. is.of_target) all ∙ map-id targets;
    all = all_rows (IsRowOf settings span scenario order) (IsRow settings span scenario order) targets rows (λ t row is. is.told) all;
  }

  -- where one result has all rows, or that memory ran out
  pub rows_told : (rows : List (Result Row AllocError)) (all : Result (Vec Row Global) AllocError) → AllZip (MayBeRow settings span scenario order) targets rows →
      MatchResult all (λ (values : Vec Row Global). rows ≡ map Ok values.items) (λ error. Contains rows (Err error)) →
      IfOk all (λ (values : Vec Row Global). AreRows settings span scenario targets order values.items)
  rows_told rows (Ok values) may is =
      rows_are values.items
      (all_zip_values (MayBeRow settings span scenario order) targets values.items
      (subst (λ (rs : List (Result Row AllocError)). AllZip (MayBeRow settings span scenario order) targets rs) is may))
  rows_told rows (Err error) may has = tt

-- ---- reasons
-- of reasons for the places of some groups these are the groups
groups_at : (P : ℕ → Reason → Type 0) (left : List ℕ) (reasons : List Reason) →
    ((place : ℕ) (reason : Reason) → P place reason → slice_get left place ≡ Some (group_of reason)) →
    AllZip P (range_with_len 0 (length left)) reasons → groups_of reasons ≡ left
groups_at P left reasons then all = over left reasons 0 (λ i reason is. then i reason (subst (λ n. P n reason) (omega arith) is)) all where
  over : (gs : List ℕ) (rs : List Reason) (from : ℕ) → ((i : ℕ) (reason : Reason) → P (from + i) reason → slice_get gs i ≡ Some (group_of reason)) →
      AllZip P (range_with_len from (length gs)) rs → groups_of rs ≡ gs
  over [] [] from then all = refl
  over [] (r ∷ rs) from then all = absurd all
  over (g ∷ gs) [] from then all = absurd all
  over (g ∷ gs) (r ∷ rs) from then all =
      let first : slice_get (g ∷ gs) 0 ≡ Some (group_of r) = then 0 r (subst (λ n. P n r) (omega arith) all.0) in
      let same : g ≡ group_of r = cc in
      ap (λ (h : ℕ). h ∷ groups_of rs) (sym same)
      ∙ ap (λ (hs : List ℕ). g ∷ hs) (over gs rs (from + 1) (λ i reason is. then (suc i) reason (subst (λ n. P n reason) (omega arith) is)) all.1)

-- what holds of the cost at each place
by_place : (P : ℕ → Excess → Type 0) (n from : ℕ) (reasons : List Reason) → AllZip (λ place (reason : Reason). P place reason.cost) (range_with_len from n) reasons
    → (place : ℕ) → place < n → P (from + place) (cost_at (costs_of reasons) place)
by_place P zero from reasons all place l = absurd (omega (arith, l))
by_place P (suc n) from [] all place l = absurd all
by_place P (suc n) from (reason ∷ reasons) all zero l = subst (λ m. P m reason.cost) (omega arith) all.0
by_place P (suc n) from (reason ∷ reasons) all (suc place) l =
    subst (λ m. P m (cost_at (costs_of reasons) place)) (omega arith) (by_place P n (from + 1) reasons all.1 place (omega (arith, l)))

module _ (settings : Settings) (span : Option ℕ) (scenario : Scenario) (targets : List Target) (ahead left : List ℕ) where
  -- each target at the group keeps that where the group at the place is listed next
  abbrev is_kept : ℕ → Excess → Type 0
  is_kept place cost = AreKept span scenario (with_next ahead left place) (get_or left place 0) cost targets

  kept_at : (reasons : List Reason) → AllZip (IsReasonAt settings span scenario targets ahead left) (range_with_len 0 (length left)) reasons
      → AllZip (λ place (reason : Reason). is_kept place reason.cost) (range_with_len 0 (length left)) reasons
  kept_at reasons all =
      all_zip_then (IsReasonAt settings span scenario targets ahead left) (λ place (reason : Reason). is_kept place reason.cost) (range_with_len 0 (length left)) reasons
      (λ place reason is.
      subst (λ g. AreKept span scenario (with_next ahead left place) g reason.cost targets) (sym (get_or_from_slice_get left place (group_of reason) 0 is.at)) is.kept)
      all

  -- the reasons for these groups are reasons for their own groups, and what they cost is kept
  reasons_are : (reasons : List Reason) → AllZip (IsReasonAt settings span scenario targets ahead left) (range_with_len 0 (length left)) reasons →
      (groups_of reasons ≡ left) × All (IsReason settings span scenario targets left) reasons
      × AreCosts span scenario targets ahead left (costs_of reasons) × All (IsDear settings span scenario targets) reasons
  reasons_are reasons all = (
    groups_at (IsReasonAt settings span scenario targets ahead left) left reasons (λ place reason is. is.at) all,
    all_rows (IsReasonAt settings span scenario targets ahead left) (IsReason settings span scenario targets left) (range_with_len 0 (length left)) reasons
        (λ place reason is. is.told) all,
    (λ place l. subst (λ n. is_kept n (cost_at (costs_of reasons) place)) (omega arith) (by_place is_kept (length left) 0 reasons (kept_at reasons all) place l)),
    all_rows (IsReasonAt settings span scenario targets ahead left) (IsDear settings span scenario targets) (range_with_len 0 (length left)) reasons
        (λ place reason is. is.dear) all,
  )

  -- where one result has all reasons, or that memory ran out
  pub reasons_told : (reasons : List (Result Reason AllocError)) (all : Result (Vec Reason Global) AllocError) →
      AllZip (MayBeReason settings span scenario targets ahead left) (range_with_len 0 (length left)) reasons →
      MatchResult all (λ (values : Vec Reason Global). reasons ≡ map Ok values.items) (λ error. Contains reasons (Err error)) →
      IfOk all (λ (values : Vec Reason Global). groups_of values.items ≡ left)
      × IfOk all (λ (values : Vec Reason Global). All (IsReason settings span scenario targets left) values.items)
      × IfOk all (λ (values : Vec Reason Global). AreCosts span scenario targets ahead left (costs_of values.items))
      × IfOk all (λ (values : Vec Reason Global). All (IsDear settings span scenario targets) values.items)
  reasons_told reasons (Ok values) may is =
      reasons_are values.items
      (all_zip_values (MayBeReason settings span scenario targets ahead left) (range_with_len 0 (length left)) values.items
      (subst (λ (rs : List (Result Reason AllocError)). AllZip (MayBeReason settings span scenario targets ahead left) (range_with_len 0 (length left)) rs) is may))
  reasons_told reasons (Err error) may has = (tt, tt, tt, tt)

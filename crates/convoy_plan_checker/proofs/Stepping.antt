-- Lists that a loop goes over, one element after the other; and what the walk over a tree says of its nodes.
use Rattle.std.proofs.Common.{All, ◌≡◌, ℕ, suc, ◌+◌, ◌<◌, ◌≤◌, ◌-◌, Bool, true, false, cond, ◌&&◌, List, [], ◌∷◌, ◌++◌, length, map, get_or, drop, drop-cons, drop_of_length-le, add-one, Option, Some, None, Result, Ok, Err, IfOk, lt-ltb, inl, inr, refl, sym, ap, ap₂, subst, ◌∙◌, arith}
use Rattle.std.specs.List.{list_all}
use Rattle.std.specs.Option.{option_or}
use Rattle.std.specs.declared.alloc.AllocError.{AllocError}
use Rattle.std.proofs.lemmas.List.{get_or_default}
use Rattle.std.proofs.lemmas.Option.{none-some}
use Rattle.convoy_scenario.specs.Memory.{IsUnlessMemory}
use Rattle.convoy_scenario.specs.Scenario.{Scenario}
use Rattle.convoy_certificate.specs.Certificate.{Certificate, IsCertificate}
use Rattle.convoy_plans.specs.Placements.{scenario_at}
use Rattle.convoy_plans.specs.Plans.{IsPlan, Plan}
use Rattle.convoy_best_order.specs.declared.excess.Excess.{Excess}
use Rattle.convoy_best_order.specs.declared.target.Target.{Target}
use Rattle.convoy_best_order.specs.declared.wanted.Wanted.{Wanted}
use Rattle.convoy_best_plan.specs.BestPlans.{targets_by}
use Rattle.convoy_best_plan.proofs.Found.{same_made}
use Rattle.convoy_plan_certificate.specs.declared.branch.Branch.{Branch}
use Rattle.convoy_plan_certificate.specs.declared.plan_certificate.PlanCertificate.{PlanCertificate}
use Rattle.convoy_plan_checker.specs.declared.plan_refused.PlanRefused.{PlanRefused}
use Rattle.convoy_plan_checker.specs.declared.plan_refused.PlanRefused.TheVariants.{Memory}
use Rattle.convoy_plan_certificate.specs.declared.branch.Witness.{Witness}
use Rattle.convoy_plan_checker.specs.Lateness.{is_late, is_late_in, is_order, no_target, target_at, witness_order}
use Rattle.convoy_plan_checker.specs.PlanCheckLaws.{IsBestChoice, ValidIsBest}
use Rattle.convoy_plan_checker.specs.PlanValidity.{AreShown, IsRightChoice, IsShown, IsValidPlan, claim_of, claim_with, excesses_of}
use Rattle.convoy_plan_checker.specs.Sites.{Sites, no_sites, sites_below}
use Rattle.convoy_plan_checker.specs.Trees.{AreTrees, Claim, fault_of, first_fault, is_right, node_fault, told_by, tree_answer}

-- ---- lists
next_at : {X : Type 0} (xs : List X) (i : ℕ) (x : X) → i < length xs → x ≡ get_or xs i x → drop i xs ≡ x ∷ drop (i + 1) xs
next_at xs i x within is = drop-cons xs i x within ∙ ap₂ (λ y n. y ∷ drop n xs) (sym is) (sym (add-one i))

module _ {X : Type 0} (p : X → Bool) (xs : List X) (i : ℕ) (x : X) (within : i < length xs) (is : x ≡ get_or xs i x) (so_far : list_all p (drop i xs) ≡ list_all p xs) where
  here : list_all p (drop i xs) ≡ (p x && list_all p (drop (i + 1) xs))
  here = ap (list_all p) (next_at xs i x within is)

  pub stops : p x ≡ false → false ≡ list_all p xs
  stops fails = sym (sym so_far ∙ here ∙ ap (λ b. b && list_all p (drop (i + 1) xs)) fails)

  pub goes_on : p x ≡ true → list_all p (drop (i + 1) xs) ≡ list_all p xs
  goes_on holds = sym (ap (λ b. b && list_all p (drop (i + 1) xs)) holds) ∙ sym here ∙ so_far

-- ---- certificates
module _ (scenario : Scenario) (order : List ℕ) where
  pub next_shown : (rest tail : List Target) (target : Target) (shown : List Certificate) (i : ℕ) (c : Certificate) → rest ≡ target ∷ tail → i < length shown
      → c ≡ get_or shown i c → AreShown scenario order rest (drop i shown)
      → IsShown scenario order target c × AreShown scenario order tail (drop (i + 1) shown)
  next_shown rest tail target shown i c split within is all =
      subst (λ (cs : List Certificate). AreShown scenario order (target ∷ tail) cs) (next_at shown i c within is)
      (subst (λ (ts : List Target). AreShown scenario order ts (drop i shown)) split all)

  pub back_shown : (rest tail : List Target) (target : Target) (shown : List Certificate) (i : ℕ) (c : Certificate) → rest ≡ target ∷ tail → i < length shown
      → c ≡ get_or shown i c → IsShown scenario order target c → AreShown scenario order tail (drop (i + 1) shown)
      → AreShown scenario order rest (drop i shown)
  back_shown rest tail target shown i c split within is one others =
      subst (λ (ts : List Target). AreShown scenario order ts (drop i shown)) (sym split)
      (subst (λ (cs : List Certificate). AreShown scenario order (target ∷ tail) cs) (sym (next_at shown i c within is)) (one, others))

  -- where no certificate is left, none is due
  pub none_due : (rest : List Target) (shown : List Certificate) (i : ℕ) → length shown ≤ i → AreShown scenario order rest (drop i shown) → length rest ≡ 0
  none_due rest shown i over all = by_rest rest (subst (λ (cs : List Certificate). AreShown scenario order rest cs) (drop_of_length-le shown over) all) where
    by_rest : (ts : List Target) → AreShown scenario order ts [] → length ts ≡ 0
    by_rest [] is = refl
    by_rest (t ∷ ts) is = absurd is

-- where no certificate is left, there is no excess
pub no_excess : (rest : List Target) (shown : List Certificate) (i : ℕ) → length shown ≤ i → excesses_of rest (drop i shown) ≡ []
no_excess rest shown i over = ap (excesses_of rest) (drop_of_length-le shown over) ∙ by_rest rest where
  by_rest : (ts : List Target) → excesses_of ts [] ≡ []
  by_rest [] = refl
  by_rest (t ∷ ts) = refl

-- ---- trees
or_none : (fault rest : Option PlanRefused) → option_or fault rest ≡ None → (fault ≡ None) × (rest ≡ None)
or_none None rest is = (refl, is)
or_none (Some fault) rest is = absurd (none-some fault (sym is))

-- no fault is found just where the nodes are trees
pub no_fault : (plan : Plan) (claim : Claim) (nodes : List Branch) (left : List Sites) (number : ℕ) → first_fault plan claim number left nodes ≡ None → AreTrees plan claim left nodes
no_fault plan claim [] [] number none = tt
no_fault plan claim [] (sites ∷ left) number none = absurd (none-some _ (sym none))
no_fault plan claim (node ∷ nodes) [] number none = absurd (none-some _ (sym none))
no_fault plan claim (node ∷ nodes) (sites ∷ left) number none =
    let parts = or_none (node_fault plan claim number node sites) _ none in
    (right (is_right plan claim node sites) refl parts.0, no_fault plan claim nodes (sites_below plan node sites ++ left) (number + 1) parts.1) where
      right : (b : Bool) → is_right plan claim node sites ≡ b → cond b None (Some (fault_of node number)) ≡ None → is_right plan claim node sites ≡ true
      right true same none = same
      right false same none = absurd (none-some _ (sym none))

pub fault_free : (plan : Plan) (claim : Claim) (nodes : List Branch) (left : List Sites) (number : ℕ) → AreTrees plan claim left nodes → first_fault plan claim number left nodes ≡ None
fault_free plan claim [] [] number trees = refl
fault_free plan claim [] (sites ∷ left) number trees = absurd trees
fault_free plan claim (node ∷ nodes) [] number trees = absurd trees
fault_free plan claim (node ∷ nodes) (sites ∷ left) number trees =
    ap (λ b. option_or (cond b None (Some (fault_of node number))) (first_fault plan claim (number + 1) (sites_below plan node sites ++ left) nodes)) trees.0
    ∙ fault_free plan claim nodes (sites_below plan node sites ++ left) (number + 1) trees.1

ok_or_memory : (found : Option PlanRefused) (result : Result (Unit {0}) PlanRefused) (x : Unit {0}) → IsUnlessMemory Memory (told_by found) result → result ≡ Ok x → found ≡ None
ok_or_memory None result x is ok = refl
ok_or_memory (Some fault) result x (inl same) ok = absurd (let e : Err fault ≡ Ok x = sym same ∙ ok in cc)
ok_or_memory (Some fault) result x (inr memory) ok = absurd (let e : Err Memory ≡ Ok x = sym memory ∙ ok in cc)

module _ (plan : Plan) (claim : Claim) (nodes : List Branch) (result : Result (Unit {0}) PlanRefused) (is : IsUnlessMemory Memory (tree_answer plan claim nodes) result) where
  pub tree_if_ok : (x : Unit {0}) → result ≡ Ok x → AreTrees plan claim (no_sites plan ∷ []) nodes
  tree_if_ok x ok = no_fault plan claim nodes (no_sites plan ∷ []) 0 (ok_or_memory (first_fault plan claim 0 (no_sites plan ∷ []) nodes) result x is ok)

  pub ok_if_tree : AreTrees plan claim (no_sites plan ∷ []) nodes → IsUnlessMemory Memory (Ok tt) result
  ok_if_tree trees =
      subst (λ (found : Option PlanRefused). IsUnlessMemory Memory (told_by found) result) (fault_free plan claim nodes (no_sites plan ∷ []) 0 trees) is

-- what holds where a result is none but the one, holds if it is that
ok_then : (P : Type 0) (result : Result (Unit {0}) PlanRefused) → ((x : Unit {0}) → result ≡ Ok x → P) → IfOk result (λ x. P)
ok_then P (Ok x) then = then x refl
ok_then P (Err fault) then = tt

module _ (wanted : Wanted) (plan : Plan) (scenario : Scenario) (certificate : PlanCertificate) (targets : List Target) (own : targets ≡ targets_by wanted plan scenario)
    (order : is_order scenario certificate.order.items ≡ true) (result : Result (Unit {0}) PlanRefused)
    (is : IsUnlessMemory Memory (tree_answer plan (claim_with wanted scenario targets certificate.shown.items) certificate.nodes.items) result) where
  answered : IsUnlessMemory Memory (tree_answer plan (claim_of wanted plan scenario certificate.shown.items) certificate.nodes.items) result
  answered =
      subst (λ (ts : List Target). IsUnlessMemory Memory (tree_answer plan (claim_with wanted scenario ts certificate.shown.items) certificate.nodes.items) result) own is

  pub right_if_ok : AreShown scenario certificate.order.items targets certificate.shown.items → IfOk result (λ x. IsRightChoice wanted plan scenario certificate)
  right_if_ok shown =
      ok_then (IsRightChoice wanted plan scenario certificate) result
      (λ x ok. record {
        order = order;
        shown = subst (λ (ts : List Target). AreShown scenario certificate.order.items ts certificate.shown.items) own shown;
        tree = tree_if_ok plan (claim_of wanted plan scenario certificate.shown.items) certificate.nodes.items result answered x ok;
      })

  pub ok_if_right : IsRightChoice wanted plan scenario certificate → IsUnlessMemory Memory (Ok tt) result
  ok_if_right right = ok_if_tree plan (claim_of wanted plan scenario certificate.shown.items) certificate.nodes.items result answered right.tree

-- a valid certificate is right with the scenario that is made
pub right_here : (wanted : Wanted) (plan : Plan) (certificate : PlanCertificate) (scenario : Scenario) → scenario_at plan certificate.placement.items ≡ Ok scenario
    → IsValidPlan wanted plan certificate → IsRightChoice wanted plan scenario certificate
right_here wanted plan certificate scenario made valid =
    subst (λ (s : Scenario). IsRightChoice wanted plan s certificate)
    (same_made (scenario_at plan certificate.placement.items) valid.scenario scenario valid.made made) valid.right

-- what is valid is the best
pub best_if_valid : ValidIsBest → (wanted : Wanted) (plan : Plan) (certificate : PlanCertificate) (result : Result (Unit {0}) PlanRefused) → IsPlan plan
    → All IsCertificate certificate.shown.items → IfOk result (λ x. IsValidPlan wanted plan certificate) → IfOk result (λ x. IsBestChoice wanted plan certificate)
best_if_valid law wanted plan certificate (Ok x) is_plan all valid = law wanted plan certificate is_plan all valid
best_if_valid law wanted plan certificate (Err fault) is_plan all valid = tt

-- the sites with one home more in front, where those behind it are in front already
pub put_next : (f : ℕ → Sites) (homes : List ℕ) (count done site : ℕ) (old new start : List Sites) → count ≡ length homes → done < count
    → site ≡ get_or homes (count - 1 - done) 0 → old ≡ map f (drop (count - done) homes) ++ start → new ≡ f site ∷ old
    → new ≡ map f (drop (count - (done + 1)) homes) ++ start
put_next f homes count done site old new start many within at before is =
    let i : ℕ = count - 1 - done in
    let same : suc i ≡ count - done = omega (arith, within) in
    let first : count - (done + 1) ≡ i = omega arith in
    let low : i < length homes = omega (arith, many, within) in
    let whole : drop (count - (done + 1)) homes ≡ site ∷ drop (count - done) homes =
    ap (λ n. drop n homes) first ∙ drop-cons homes i 0 low ∙ ap₂ (λ s n. s ∷ drop n homes) (sym at) same in
    is ∙ ap (λ ss. f site ∷ ss) before ∙ sym (ap (λ hs. map f hs ++ start) whole)

-- what a witness shows of a target, it shows of the one at its place
pub late_then : (scenario : Scenario) (targets : List Target) (least : Excess) (groups : List ℕ) (witness : Witness) (d : Target) (order : List ℕ) (result : Result Bool AllocError)
    → witness.target < length targets → order ≡ witness_order scenario groups (get_or targets witness.target d).group
    → IfOk result (λ late. late ≡ is_late_in scenario least (get_or targets witness.target d) order witness)
    → IfOk result (λ late. late ≡ is_late scenario targets least groups witness)
late_then scenario targets least groups witness d order result within is shown =
    let place : ℕ = witness.target in
    let same : get_or targets place d ≡ target_at targets place = get_or_default targets place d no_target within in
    let whole : Bool = is_late_in scenario least (target_at targets place) (witness_order scenario groups (target_at targets place).group) witness in
    subst (λ b. IfOk result (λ late. late ≡ b)) (sym (ap (λ b. b && whole) (lt-ltb place (length targets) within)))
    (subst (λ (t : Target). IfOk result (λ late. late ≡ is_late_in scenario least t (witness_order scenario groups t.group) witness)) same
    (subst (λ (o : List ℕ). IfOk result (λ late. late ≡ is_late_in scenario least (get_or targets place d) o witness)) is shown))

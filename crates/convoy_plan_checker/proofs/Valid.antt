-- A valid certificate of a plan names the best choice.
use Rattle.std.proofs.Common.{◌≡◌, ℕ, ◌<◌, All, List, [], ◌∷◌, length, get_or, fold, Option, None, inl, inr, refl, sym, ap, subst, ◌∙◌, arith}
use Rattle.std.specs.List.{AllZip}
use Rattle.std.proofs.lemmas.List.{length-replicate}
use Rattle.std.proofs.lemmas.List.Elements.{All-head, All-tail, Contains-get_or}
use Rattle.convoy_scenario.specs.Scenario.{Scenario}
use Rattle.convoy_sim.proofs.Membership.{IsIn, contains-in, in_of_contains}
use Rattle.convoy_certificate.specs.Certificate.{Certificate, IsCertificate}
use Rattle.convoy_checker.specs.TreeLaws.{ValidIsGreatest}
use Rattle.convoy_plans.specs.Plans.{IsPlan, Plan}
use Rattle.convoy_best_order.specs.declared.excess.Excess.{Excess}
use Rattle.convoy_best_order.specs.declared.target.Target.{Target}
use Rattle.convoy_best_order.specs.declared.wanted.Wanted.{Wanted}
use Rattle.convoy_best_order.specs.Excesses.{IsAtMost, IsGreatestOf, greater}
use Rattle.convoy_best_order.proofs.Measures.{at_most_after, at_most_less, at_most_of, at_most_self, greater_has, less_of}
use Rattle.convoy_best_plan.specs.BestPlans.{targets_by}
use Rattle.convoy_best_plan.proofs.Agreeing.{well_made}
use Rattle.convoy_best_plan.proofs.LastListed.{Used as OrderLaws}
use Rattle.convoy_best_plan.proofs.LateAnyhow.{Used as CommitLaws}
use Rattle.convoy_best_plan.proofs.Placing.{completes_none}
use Rattle.convoy_plan_certificate.specs.declared.plan_certificate.PlanCertificate.{PlanCertificate}
use Rattle.convoy_plan_checker.specs.PlanCheckLaws.{IsBestChoice, IsGreatestIn}
use Rattle.convoy_plan_checker.specs.PlanValidity.{AreShown, IsValidPlan, claim_of, excesses_of, greatest_of}
use Rattle.convoy_plan_checker.specs.Sites.{no_sites}
use Rattle.convoy_plan_checker.specs.Trees.{Claim}
use Rattle.convoy_plan_checker.proofs.Covering.{trees_cover}
use Rattle.convoy_plan_checker.proofs.Orders.{order_is}
use Rattle.convoy_plan_checker.proofs.Targeted.{some}

-- ---- latencies
all_greatest : ValidIsGreatest → (scenario : Scenario) (order : List ℕ) (targets : List Target) (shown : List Certificate) → All IsCertificate shown
    → AreShown scenario order targets shown → AllZip (IsGreatestIn scenario order) targets shown
all_greatest greatest scenario order [] [] all is = tt
all_greatest greatest scenario order [] (c ∷ cs) all is = absurd is
all_greatest greatest scenario order (t ∷ ts) [] all is = absurd is
all_greatest greatest scenario order (t ∷ ts) (c ∷ cs) all is = (
  record { instance = c.scenario; made = is.0.made; greatest = greatest c (All-head IsCertificate c cs all) is.0.valid },
  all_greatest greatest scenario order ts cs (All-tail IsCertificate c cs all) is.1,
)

-- ---- the greatest excess
-- it is one of them, and none is greater
record IsTop (excesses : List Excess) (greatest : Excess) : Type 0 where
  one_of : IsIn greatest excesses
  none_greater : (excess : Excess) → IsIn excess excesses → IsAtMost excess greatest

folded : (first : Excess) (rest : List Excess) → IsTop (first ∷ rest) (fold greater first rest)
folded first [] = record {
  one_of = inl refl;
  none_greater = λ e i. elim i [ inl same ↦ subst (λ (x : Excess). IsAtMost x first) same (at_most_self first) | inr none ↦ absurd none ];
}
folded first (next ∷ rest) =
    let later = folded (greater first next) rest in
    let top : Excess = fold greater (greater first next) rest in
    let low = later.none_greater (greater first next) (inl refl) in
    let both : IsAtMost first (greater first next) × IsAtMost next (greater first next) =
    greater_has (λ (g : Excess). IsAtMost first g × IsAtMost next g) first next
    (λ is. (at_most_less first next (less_of first next is), at_most_self next)) (λ is. (at_most_self first, at_most_of first next is)) in
    record {
      one_of = elim later.one_of [
        | inl same ↦ subst (λ (g : Excess). IsIn g (first ∷ next ∷ rest)) same (greater_has (λ (g : Excess). IsIn g (first ∷ next ∷ rest)) first next (λ is. inr (inl refl)) (λ is. inl refl))
        | inr i ↦ inr (inr i)
      ];
      none_greater = λ e i.
          elim i [
            | inl same ↦ subst (λ (x : Excess). IsAtMost x top) same (at_most_after first (greater first next) top both.0 low)
            | inr more ↦ elim more [
              | inl same ↦ subst (λ (x : Excess). IsAtMost x top) same (at_most_after next (greater first next) top both.1 low)
              | inr j ↦ later.none_greater e (inr j)
            ]
          ];
    }

greatest_is : (excesses : List Excess) → 0 < length excesses → IsGreatestOf excesses (greatest_of excesses)
greatest_is [] some = absurd (omega (arith, some))
greatest_is (first ∷ rest) some =
    let is = folded first rest in
    record {
      one_of = contains-in (fold greater first rest) (first ∷ rest) is.one_of;
      none_greater = λ k d l. is.none_greater (get_or (first ∷ rest) k d) (in_of_contains (get_or (first ∷ rest) k d) (first ∷ rest) (Contains-get_or (first ∷ rest) k d l));
    }

some_excess : (scenario : Scenario) (order : List ℕ) (targets : List Target) (shown : List Certificate) → 0 < length targets → AreShown scenario order targets shown
    → 0 < length (excesses_of targets shown)
some_excess scenario order [] shown some is = absurd (omega (arith, some))
some_excess scenario order (t ∷ ts) [] some is = absurd is
some_excess scenario order (t ∷ ts) (c ∷ cs) some is = omega arith

-- ---- the choice
pub best_is : ValidIsGreatest → OrderLaws → CommitLaws → (wanted : Wanted) (plan : Plan) (certificate : PlanCertificate) → IsPlan plan
    → All IsCertificate certificate.shown.items → IsValidPlan wanted plan certificate → IsBestChoice wanted plan certificate
best_is greatest orders commits wanted plan certificate is_plan all valid =
    let scenario : Scenario = valid.scenario in
    let targets : List Target = targets_by wanted plan scenario in
    let shown : List Certificate = certificate.shown.items in
    let well = well_made plan certificate.placement.items scenario valid.made orders.given in
    let claim : Claim = claim_of wanted plan scenario shown in
    let long : length (no_sites plan) ≡ length plan.housed = length-replicate {A = Option ℕ} (length plan.written.groups) None ∙ sym is_plan.housed in
    record {
      scenario = scenario;
      floor = claim.floor;
      placement = valid.placement;
      made = valid.made;
      order = order_is scenario certificate.order.items valid.right.order;
      latencies = all_greatest greatest scenario certificate.order.items targets shown all valid.right.shown;
      excess = greatest_is (excesses_of targets shown) (some_excess scenario certificate.order.items targets shown (some wanted plan scenario well) valid.right.shown);
      total = refl;
      none_below = λ other placed.
          trees_cover orders commits plan is_plan claim certificate.placement.items valid.made refl certificate.nodes.items (no_sites plan ∷ [])
          (λ sites i. elim i [ inl e ↦ ap length (sym e) ∙ long | inr none ↦ absurd none ]) valid.right.tree (no_sites plan) (inl refl) other placed
          (completes_none other (length plan.written.groups));
    }

-- The stages of a scenario by number: each is a stage of it, and each of its stages has a number.
use Rattle.std.proofs.Common.{◌≡◌, ℕ, ◌+◌, ◌*◌, ◌/◌, ◌%◌, ◌<◌, ◌≤◌, zero, suc, true, inl, inr, [], ◌∷◌, length, flat_map, All, refl, sym, ap₂, subst, ◌∙◌, arith}
use Rattle.std.specs.List.{Contains, range_with_len}
use Rattle.std.proofs.lemmas.Bool.{cases_eq, cond-true, cond_both}
use Rattle.std.proofs.lemmas.List.{get_or_default}
use Rattle.std.proofs.lemmas.List.Elements.{All-append, All-cons, All-nil, Contains-append_left, Contains-append_right}
use Rattle.convoy_scenario.specs.Scenario.{Scenario, message_at, is_addressed}
use Rattle.convoy_packets.specs.OrderLists.{has_moments}
use Rattle.convoy_sim.specs.declared.moment.MomentKind.{MomentKind}
use Rattle.convoy_sim.specs.declared.moment.MomentKind.TheVariants.{Arrival, Commit}
use Rattle.convoy_regions.specs.declared.stage.Stage.{Stage}
use Rattle.convoy_regions.specs.Stages.{IsStage, no_stage, stage_at, stage_of, stages_in, stages_of}

module _ (plan : Scenario) where
  -- ---- each is a stage
  stage_here : (kind : MomentKind) (at : ℕ) → at < 128 → has_moments plan at ≡ true → IsStage plan (stage_of kind (at / 8) (at % 8))
  stage_here kind at below has = record { goes = has; message = omega arith; group = omega arith }

  stages_here : (at : ℕ) → at < 128 → All (IsStage plan) (stages_in plan at)
  stages_here at below =
      cond_both (has_moments plan at) (stage_of Arrival (at / 8) (at % 8) ∷ stage_of Commit (at / 8) (at % 8) ∷ []) [] (All (IsStage plan))
      (λ has.
      All-cons (IsStage plan) (stage_of Arrival (at / 8) (at % 8)) (stage_of Commit (at / 8) (at % 8) ∷ []) (stage_here Arrival at below has)
      (All-cons (IsStage plan) (stage_of Commit (at / 8) (at % 8)) [] (stage_here Commit at below has) (All-nil (IsStage plan))))
      (λ none. All-nil (IsStage plan))

  stages_from : (n start : ℕ) → start + n ≤ 128 → All (IsStage plan) (flat_map (stages_in plan) (range_with_len start n))
  stages_from zero start below = All-nil (IsStage plan)
  stages_from (suc n) start below =
      All-append (IsStage plan) (stages_in plan start) (flat_map (stages_in plan) (range_with_len (start + 1) n)) (stages_here start (omega arith)) (stages_from n (start + 1) (omega arith))

  pub are_stages : All (IsStage plan) (stages_of plan)
  unfolding stages_of
  are_stages = stages_from 128 0 (omega arith)

  pub stage_of_number : (number : ℕ) → number < length (stages_of plan) → IsStage plan (stage_at plan number)
  stage_of_number number below = are_stages number no_stage below

  -- ---- each stage has a number
  found_here : (kind : MomentKind) (at : ℕ) → has_moments plan at ≡ true → Contains (stages_in plan at) (stage_of kind (at / 8) (at % 8))
  found_here kind at has =
      subst (λ xs. Contains xs (stage_of kind (at / 8) (at % 8))) (sym (cond-true (has_moments plan at) _ _ has)) (one_of kind) where
        one_of : (kind : MomentKind) → Contains (stage_of Arrival (at / 8) (at % 8) ∷ stage_of Commit (at / 8) (at % 8) ∷ []) (stage_of kind (at / 8) (at % 8))
        one_of Arrival = (0, omega arith, refl)
        one_of Commit = (1, omega arith, refl)

  found_from : (x : Stage) (at n start : ℕ) → start ≤ at → at < start + n → Contains (stages_in plan at) x → Contains (flat_map (stages_in plan) (range_with_len start n)) x
  found_from x at zero start low high here = absurd (omega arith)
  found_from x at (suc n) start low high here = elim (cases_eq start at) [
    | inl e ↦
        Contains-append_left (stages_in plan start) (flat_map (stages_in plan) (range_with_len (start + 1) n)) x
        (subst (λ k. Contains (stages_in plan k) x) (sym e) here)
    | inr d ↦
        Contains-append_right (stages_in plan start) (flat_map (stages_in plan) (range_with_len (start + 1) n)) x
        (found_from x at n (start + 1) (omega arith) (omega arith) here)
  ]

  -- the place of a stage leads back to it
  pub has_there : (m g : ℕ) → g < 8 → is_addressed (message_at plan m) g ≡ true → has_moments plan (m * 8 + g) ≡ true
  has_there m g low goes =
      let message : m ≡ (m * 8 + g) / 8 = omega arith in
      let group : g ≡ (m * 8 + g) % 8 = omega arith in
      ap₂ (λ (n k : ℕ). is_addressed (message_at plan n) k) (sym message) (sym group) ∙ goes

  pub stage_there : (kind : MomentKind) (m g : ℕ) → g < 8 → stage_of kind ((m * 8 + g) / 8) ((m * 8 + g) % 8) ≡ stage_of kind m g
  stage_there kind m g low =
      let message : (m * 8 + g) / 8 ≡ m = omega arith in
      let group : (m * 8 + g) % 8 ≡ g = omega arith in
      ap₂ (λ (n k : ℕ). stage_of kind n k) message group

  -- the number of a stage
  pub record HasNumber (stage : Stage) (number : ℕ) : Type 0 where
    pub below : number < length (stages_of plan)
    pub leads : stage_at plan number ≡ stage

  pub number_of : (stage : Stage) → IsStage plan stage → (number : ℕ) × HasNumber stage number
  unfolding stages_of
  number_of stage is =
      let at : ℕ = stage.message * 8 + stage.group in
      let message : stage.message < 16 = is.message in
      let group : stage.group < 8 = is.group in
      let found : Contains (stages_in plan at) stage =
      subst (Contains (stages_in plan at)) (stage_there stage.kind stage.message stage.group group)
      (found_here stage.kind at (has_there stage.message stage.group group is.goes)) in
      let r = found_from stage at 128 0 (omega arith) (omega arith) found in
      (r.0, record { below = r.1; leads = get_or_default (stages_of plan) r.0 no_stage stage r.1 ∙ r.2 })

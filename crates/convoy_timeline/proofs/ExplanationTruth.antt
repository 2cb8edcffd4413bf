-- Where a run tells the truth, it explains what happens as the definitions do.
use Rattle.std.proofs.Common.{◌≡◌, ℕ, ◌<◌, ◌==◌, true, false, Bool, ◌&&◌, List, [], ◌∷◌, ◌++◌, length, map, Option, Some, None, find, unwrap_or, cond, inl, inr, refl, ap, ap₂, ◌∙◌, sym, subst}
use Rattle.std.specs.List.{fold, flat_map}
use Rattle.std.specs.Option.{option_map}
use Rattle.convoy_scenario.specs.Scenario.{Scenario, GoesTo, message_at, message_numbers, is_addressed}
use Rattle.convoy_scenario.specs.WellFormed.{IsScenario}
use Rattle.convoy_packets.specs.Packets.{packets_of}
use Rattle.convoy_packets.specs.Assignment.{Schedule, delay_of}
use Rattle.convoy_sim.specs.declared.moment.Moment.{Moment}
use Rattle.convoy_sim.specs.declared.run.Proposal.{Proposal}
use Rattle.convoy_sim.specs.Moments.{arrival_of, commit_of, commit_rank, insert_moment, moments_at, moments_of, rank_then}
use Rattle.convoy_sim.specs.Run.{Run, IsRunOf}
use Rattle.convoy_sim.specs.Stamps.{is_less, final_stamp, local_stamp}
use Rattle.convoy_sim.specs.Times.{arrive, settle, propose_arrive}
use Rattle.convoy_sim.specs.Delivery.{deliver}
use Rattle.convoy_sim.specs.ProtocolLaws.{FinalStampIsLocal, LocalStampNamesGroup}
use Rattle.convoy_sim.proofs.Membership.{IsIn}
use Rattle.convoy_sim.proofs.Addressed.{goes_from_in, number_of_goes}
use Rattle.convoy_sim.proofs.ScenarioMoments.{moment_cases}
use Rattle.convoy_timeline.specs.Causes.{awaited, explanation_of, holder_of, holder_with, is_last_ahead, is_tied_before, last_proposer, moments_stamped, proposal_of, rise_at, rises_of, stamped_of, tied_before}
use Rattle.convoy_timeline.specs.ExplanationLaws.{HoldersHold, IsRightHolder, LastProposalsCommit}
use Rattle.convoy_timeline.specs.ExplanationWords.{explanation_told, holder_told, is_last_ahead_told, is_tied_before_told, last_proposer_told, propose_told, tied_before_told}
use Rattle.convoy_timeline.specs.RiseWords.{commit_rank_told, moments_told, moments_told_at, rank_told_then, rise_told, rises_told}
use Rattle.convoy_timeline.specs.RunWords.{committed_told, delivered_told, final_told, proposal_told, stamped_told}
use Rattle.convoy_timeline.specs.declared.explanation.Rise.{Rise}

-- two tests that agree on a list's elements find the same there
find_same : {X : Type 0} (p q : X → Bool) (xs : List X) → ((x : X) → IsIn x xs → p x ≡ q x) → find p xs ≡ find q xs
find_same p q [] same = refl
find_same p q (x ∷ xs) same =
    ap₂ (λ b rest. cond b (Some x) rest) (same x (inl refl)) (find_same p q xs (λ y i. same y (inr i)))

-- tests after a first one need to agree only where it holds
guarded : (b x y u v : Bool) → (b ≡ true → (x ≡ u) × (y ≡ v)) → b && x && y ≡ b && u && v
guarded true x y u v same = let r = same refl in ap₂ (λ s t. s && t) r.0 r.1
guarded false x y u v same = refl

-- two functions that agree on a list's elements make the same of each ..
map_same : {X Y : Type 0} (f h : X → Y) (xs : List X) → ((x : X) → IsIn x xs → f x ≡ h x) → map f xs ≡ map h xs
map_same f h [] same = refl
map_same f h (x ∷ xs) same = ap₂ (λ y ys. y ∷ ys) (same x (inl refl)) (map_same f h xs (λ y i. same y (inr i)))

-- .. and lead to the same lists
flat_map_same : {X Y : Type 0} (f h : X → List Y) (xs : List X) → ((x : X) → IsIn x xs → f x ≡ h x) → flat_map f xs ≡ flat_map h xs
flat_map_same f h [] same = refl
flat_map_same f h (x ∷ xs) same = ap₂ (λ ys zs. ys ++ zs) (same x (inl refl)) (flat_map_same f h xs (λ y i. same y (inr i)))

-- the group of a message's final stamp is one of its destinations
pub stamp_goes : (plan : Scenario) (schedule : Schedule) → FinalStampIsLocal → LocalStampNamesGroup → IsScenario plan → (m g : ℕ) → GoesTo plan m g
    → GoesTo plan m (final_stamp plan schedule m).group
stamp_goes plan schedule is_local names well m g goes =
    let known = number_of_goes plan m g goes in
    let one = is_local plan schedule well m known in
    let group : one.0 ≡ (final_stamp plan schedule m).group = sym (names plan schedule well m one.0 one.1) ∙ ap (λ s. s.group) one.2 in
    rw group at one.1

-- ---- what a run tells at a destination
module _ (plan : Scenario) (schedule : Schedule) (run : Run) (told : IsRunOf plan schedule run) where
  proposal-true : (m g : ℕ) → GoesTo plan m g → proposal_told run m g ≡ proposal_of plan schedule m g
  proposal-true m g goes = rw (told.proposed m g goes) refl

  committed-true : (m g : ℕ) → GoesTo plan m g → committed_told run m g ≡ settle plan schedule m g
  committed-true m g goes = rw (told.committed m g goes) refl

  delivered-true : (m g : ℕ) → GoesTo plan m g → delivered_told run m g ≡ deliver plan schedule m g
  delivered-true m g goes = rw (told.delivered m g goes) refl

  final-true : (m : ℕ) → m < length plan.multicasts → final_told run m ≡ final_stamp plan schedule m
  final-true m known = rw (told.final_stamps m known) refl

  last_ahead-true : (m g n : ℕ) → GoesTo plan m g → is_last_ahead_told plan run m g n ≡ is_last_ahead plan schedule m g n
  last_ahead-true m g n goes =
      guarded (is_addressed (message_at plan n) g)
      (is_less (proposal_told run n g).stamp (final_told run m)) (committed_told run n g == delivered_told run m g)
      (is_less (local_stamp plan schedule n g) (final_stamp plan schedule m)) (settle plan schedule n g == deliver plan schedule m g)
      (λ there. (
        rw (proposal-true n g there, final-true m (number_of_goes plan m g goes)) refl,
        rw (committed-true n g there, delivered-true m g goes) refl,
      ))

  holder-true : (m g : ℕ) → GoesTo plan m g → holder_told plan run m g ≡ holder_of plan schedule m g
  unfolding holder_told holder_of
  holder-true m g goes =
      rw (
        committed-true m g goes,
        delivered-true m g goes,
        find_same (is_last_ahead_told plan run m g) (is_last_ahead plan schedule m g) (message_numbers plan) (λ n i. last_ahead-true m g n goes),
      ) refl

  tied-true : (m g n : ℕ) → GoesTo plan m g → is_tied_before_told plan run m g n ≡ is_tied_before plan schedule m g n
  tied-true m g n goes =
      guarded (is_addressed (message_at plan n) g)
      ((proposal_told run n g).tick == (proposal_told run m g).tick) (is_less (proposal_told run n g).stamp (proposal_told run m g).stamp)
      (arrive plan schedule n g == arrive plan schedule m g) (is_less (local_stamp plan schedule n g) (local_stamp plan schedule m g))
      (λ there. (
        rw (proposal-true n g there, proposal-true m g goes) refl,
        rw (proposal-true n g there, proposal-true m g goes) refl,
      ))

  tied_before-true : (m g : ℕ) → GoesTo plan m g → tied_before_told plan run m g ≡ tied_before plan schedule m g
  unfolding tied_before_told tied_before
  tied_before-true m g goes =
      find_same (is_tied_before_told plan run m g) (is_tied_before plan schedule m g) (message_numbers plan) (λ n i. tied-true m g n goes)

  propose-true : (n g h : ℕ) → GoesTo plan n h → propose_told (packets_of plan) schedule run n g h ≡ propose_arrive plan schedule n g h
  unfolding delay_of
  propose-true n g h goes = rw (proposal-true n h goes) refl

  last_proposer-true : (n g : ℕ) → GoesTo plan n g → last_proposer_told plan (packets_of plan) schedule run n g ≡ last_proposer plan schedule n g
  unfolding last_proposer_told last_proposer
  last_proposer-true n g goes =
      ap (λ found. unwrap_or found g)
      (find_same (λ h. propose_told (packets_of plan) schedule run n g h == committed_told run n g)
      (λ h. propose_arrive plan schedule n g h == settle plan schedule n g) (message_at plan n).destinations
      (λ h i. rw (propose-true n g h (goes_from_in plan n h i), committed-true n g goes) refl))

  stamped-true : FinalStampIsLocal → LocalStampNamesGroup → IsScenario plan → (m g : ℕ) → GoesTo plan m g
      → stamped_told run m ≡ stamped_of plan schedule m
  stamped-true is_local names well m g goes =
      let known = number_of_goes plan m g goes in
      let there = stamp_goes plan schedule is_local names well m g goes in
      rw (final-true m known, proposal-true m (final_stamp plan schedule m).group there) refl

  -- ---- moments
  commit_rank-true : (m g : ℕ) → GoesTo plan m g → commit_rank_told plan schedule run m g ≡ commit_rank plan schedule m g
  unfolding commit_rank
  commit_rank-true m g goes =
      rw (
        committed-true m g goes,
        map_same (rank_told_then plan schedule run m (settle plan schedule m g)) (rank_then plan schedule m (settle plan schedule m g)) (message_at plan m).destinations
            (λ h i. rw (proposal-true m h (goes_from_in plan m h i)) refl),
      ) refl

  moments_at-true : (m g : ℕ) → GoesTo plan m g → moments_told_at plan schedule run m g ≡ moments_at plan schedule m g
  moments_at-true m g goes = rw (proposal-true m g goes, commit_rank-true m g goes, committed-true m g goes) refl

  moments-true : moments_told plan schedule run ≡ moments_of plan schedule
  unfolding moments_told moments_of
  moments-true =
      ap (λ moments. fold insert_moment [] moments)
      (flat_map_same (λ m. flat_map (moments_told_at plan schedule run m) (message_at plan m).destinations)
      (λ m. flat_map (moments_at plan schedule m) (message_at plan m).destinations) (message_numbers plan)
      (λ m i. flat_map_same (moments_told_at plan schedule run m) (moments_at plan schedule m) (message_at plan m).destinations
      (λ g j. moments_at-true m g (goes_from_in plan m g j))))

  rise-true : FinalStampIsLocal → LocalStampNamesGroup → IsScenario plan → (c : Moment) → IsIn c (moments_of plan schedule)
      → rise_told run c ≡ rise_at plan schedule c
  rise-true is_local names well c i =
      let r = moment_cases plan schedule c i in
      elim r.3 [
        | inl e ↦ subst (λ d. rise_told run d ≡ rise_at plan schedule d) e
            (ap (with_stamp (arrival_of plan schedule r.0 r.1)) (proposal-true r.0 r.1 r.2))
        | inr e ↦ subst (λ d. rise_told run d ≡ rise_at plan schedule d) e
            (ap (with_stamp (commit_of plan schedule r.0 r.1)) (stamped-true is_local names well r.0 r.1 r.2))
      ]
    where
      with_stamp : Moment → Proposal → Rise
      with_stamp moment stamped = record { moment = moment; stamped = stamped }

  pub rises-true : FinalStampIsLocal → LocalStampNamesGroup → IsScenario plan → (m : ℕ) → m < length plan.multicasts
      → rises_told plan schedule run m ≡ rises_of plan schedule m
  unfolding rises_told moments_stamped
  rises-true is_local names well m known =
      rw (
        final-true m known,
        moments-true,
        map_same (rise_told run) (rise_at plan schedule) (moments_of plan schedule) (rise-true is_local names well),
      ) refl

-- the message that is awaited goes to the group
awaited_goes : (plan : Scenario) (schedule : Schedule) (m g : ℕ) → GoesTo plan m g → (found : Option ℕ)
    → IsRightHolder plan schedule m g found → GoesTo plan (unwrap_or found m) g
awaited_goes plan schedule m g goes (Some n) right = right.goes
awaited_goes plan schedule m g goes None right = goes

-- the two say the same of the message that holds another back
holder_by : (plan : Scenario) (schedule : Schedule) (run : Run) → IsRunOf plan schedule run → (m g : ℕ) (found : Option ℕ)
    → IsRightHolder plan schedule m g found
    → option_map (λ n. holder_with n (proposal_told run n g)) found
    ≡ option_map (λ n. holder_with n (proposal_of plan schedule n g)) found
holder_by plan schedule run told m g (Some n) right = rw (proposal-true plan schedule run told n g right.goes) refl
holder_by plan schedule run told m g None right = refl

-- all that is told is as the definitions say
pub explanation-true : (plan : Scenario) (schedule : Schedule) (run : Run)
    → FinalStampIsLocal → LocalStampNamesGroup → HoldersHold → LastProposalsCommit → IsScenario plan → IsRunOf plan schedule run
    → explanation_told plan (packets_of plan) schedule run ≡ explanation_of plan schedule
unfolding explanation_told explanation_of delay_of
explanation-true plan schedule run is_local names hold commit well told =
    let m = plan.target_message in
    let g = plan.target_group in
    let goes : GoesTo plan m g = well.addressed in
    let right = hold plan schedule well m g goes in
    let n = awaited plan schedule m g in
    let there : GoesTo plan n g = awaited_goes plan schedule m g goes (holder_of plan schedule m g) right in
    let h = last_proposer plan schedule n g in
    let from : GoesTo plan n h = (commit plan schedule well n g there).0 in
    rw (
      delivered-true plan schedule run told m g goes,
      committed-true plan schedule run told m g goes,
      stamped-true plan schedule run told is_local names well m g goes,
      final-true plan schedule run told m (number_of_goes plan m g goes),
      tied_before-true plan schedule run told m (final_stamp plan schedule m).group (stamp_goes plan schedule is_local names well m g goes),
      holder-true plan schedule run told m g goes,
      holder_by plan schedule run told m g (holder_of plan schedule m g) right,
      last_proposer-true plan schedule run told n g there,
      proposal-true plan schedule run told n h from,
      committed-true plan schedule run told n g there,
      told.latency,
    ) refl

-- A run cut at a moment: what stands before it has been read, and what is before it has been.
use Rattle.std.proofs.Common.{◌≡◌, ℕ, cond, ◌==◌, inl, inr, List, [], ◌∷◌, ◌++◌, map, filter, fold, refl, sym, ap, subst, ◌∙◌, append_assoc}
use Rattle.std.proofs.lemmas.Bool.{cases_Bool, cond-true, cond-false}
use Rattle.std.proofs.lemmas.List.{map-append}
use Rattle.std.proofs.lemmas.List.Elements.{filter-append}
use Rattle.std.proofs.lemmas.List.Sums.{fold-append}
use Rattle.convoy_scenario.specs.Scenario.{Scenario}
use Rattle.convoy_scenario.specs.WellFormed.{IsScenario}
use Rattle.convoy_packets.specs.Assignment.{Schedule}
use Rattle.convoy_sim.specs.declared.moment.Moment.{Moment}
use Rattle.convoy_sim.specs.declared.timestamp.Timestamp.{Timestamp}
use Rattle.convoy_sim.specs.Moments.{moments_of}
use Rattle.convoy_sim.specs.Stamps.{GivenStamp, Clocks, later, no_stamp, greatest_in, first_clocks, after_arrival, after_moment, clocks_of, local_stamp}
use Rattle.convoy_sim.specs.Moments.{arrival_of}
use Rattle.convoy_sim.proofs.Membership.{IsIn, in-append_right}
use Rattle.convoy_sim.proofs.ClocksGrow.{read, given_at, given_stays}
use Rattle.convoy_sim.proofs.Runs.{local_of_given}
use Rattle.convoy_sim.proofs.ScenarioMoments.{moments_run, moments_once, traffic_of}

-- ---- one stamp more
-- the greatest stamp of a message with one stamp more
pub greatest_more : (s : Clocks) (m g n : ℕ)
    → greatest_in (after_arrival s m g) n ≡ cond (m == n) (later (greatest_in s n) (given_at s m g).stamp) (greatest_in s n)
greatest_more s m g n =
    let last : List GivenStamp = given_at s m g ∷ [] in
    let stamps : List GivenStamp → List Timestamp = λ xs. map (λ x. x.stamp) (filter (λ x. x.message == n) xs) in
    let cut : stamps (s.given ++ last) ≡ stamps s.given ++ stamps last =
    ap (map (λ (x : GivenStamp). x.stamp)) (filter-append (λ x. x.message == n) s.given last)
    ∙ map-append (λ (x : GivenStamp). x.stamp) (filter (λ x. x.message == n) s.given) (filter (λ x. x.message == n) last) in
    ap (fold later no_stamp) cut
    ∙ fold-append later no_stamp (stamps s.given) (stamps last)
    ∙ elim (cases_Bool (m == n)) [
      | inl e ↦ ap (λ l. fold later (greatest_in s n) (map (λ (x : GivenStamp). x.stamp) l)) (cond-true (m == n) last [] e)
          ∙ sym (cond-true (m == n) (later (greatest_in s n) (given_at s m g).stamp) (greatest_in s n) e)
      | inr e ↦ ap (λ l. fold later (greatest_in s n) (map (λ (x : GivenStamp). x.stamp) l)) (cond-false (m == n) last [] e)
          ∙ sym (cond-false (m == n) (later (greatest_in s n) (given_at s m g).stamp) (greatest_in s n) e)
    ]

module _ (plan : Scenario) (well : IsScenario plan) (schedule : Schedule) where
  -- the clocks and stamps when some moments have been read
  abbrev pub known : List Moment → Clocks
  known done = read (first_clocks plan) done

  pub known_more : (done : List Moment) (c : Moment) → known (done ++ c ∷ []) ≡ after_moment (known done) c
  known_more done c = fold-append after_moment (first_clocks plan) done (c ∷ [])

  -- ---- the run, cut at a moment
  pub record IsCut (done : List Moment) (c : Moment) (rest : List Moment) : Type 0 where
    pub whole : done ++ c ∷ rest ≡ moments_of plan schedule

  pub cut_next : (done : List Moment) (c : Moment) (rest : List Moment) → IsCut done c rest
      → (done ++ c ∷ []) ++ rest ≡ moments_of plan schedule
  cut_next done c rest cut = append_assoc done (c ∷ []) rest ∙ cut.whole

  to_whole : (done : List Moment) (c : Moment) (rest : List Moment) → IsCut done c rest
      → read (known done) (c ∷ rest) ≡ clocks_of plan schedule
  unfolding clocks_of
  to_whole done c rest cut =
      sym (fold-append after_moment (first_clocks plan) done (c ∷ rest)) ∙ ap (read (first_clocks plan)) cut.whole

  -- the local stamp that an arrival gives
  pub local_at_coming : (done : List Moment) (m g : ℕ) (rest : List Moment) → IsCut done (arrival_of plan schedule m g) rest
      → local_stamp plan schedule m g ≡ (given_at (known done) m g).stamp
  unfolding local_stamp clocks_of
  local_at_coming done m g rest cut =
      let c : Moment = arrival_of plan schedule m g in
      let there : IsIn (given_at (known done) m g) (after_moment (known done) c).given =
      in-append_right _ (known done).given _ (inl refl) in
      let stays = given_stays (after_moment (known done) c) rest _ there in
      local_of_given (first_clocks plan) (moments_of plan schedule) (moments_run plan (traffic_of plan well) schedule) (moments_once plan (traffic_of plan well) schedule)
      (given_at (known done) m g)
      (subst (λ s. IsIn (given_at (known done) m g) s.given) (to_whole done c rest cut) stays)

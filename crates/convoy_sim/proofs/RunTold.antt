-- The run that the tables of all moments make tells what the definitions say.
use Rattle.std.proofs.Common.{◌≡◌, ℕ, ◌*◌, ◌/◌, ◌%◌, ◌<◌, true, false, nat_lt, IsFalse, inl, inr, List, length, take, map, get_or, Some, sym, ap, ◌∙◌, arith}
use Rattle.std.specs.List.{range_with_len}
use Rattle.std.specs.Option.{option_map}
use Rattle.std.proofs.lemmas.Bool.{cases_lt, cond-true, cond-false, lt-ltb}
use Rattle.std.proofs.lemmas.Bool.Decides.{nat_tests}
use Rattle.std.proofs.lemmas.List.{get_or_past, get_or-take, length-take-le}
use Rattle.std.proofs.lemmas.List.FromFn.{get_or-map-range_with_len, length-map-range_with_len}
use Rattle.std.proofs.lemmas.Option.{slice_get-get_or}
use Rattle.convoy_draft.specs.declared.limits.TheConstants.{MOST_GROUPS}
use Rattle.convoy_scenario.specs.Scenario.{Scenario, message_at, is_addressed}
use Rattle.convoy_scenario.specs.WellFormed.{IsScenario}
use Rattle.convoy_packets.specs.Assignment.{Schedule, IsAssignment}
use Rattle.convoy_sim.specs.declared.timestamp.Timestamp.{Timestamp}
use Rattle.convoy_sim.specs.declared.run.Proposal.{Proposal}
use Rattle.convoy_sim.specs.declared.progress.Progress.{Progress}
use Rattle.convoy_sim.specs.Times.{arrive, settle}
use Rattle.convoy_sim.specs.Stamps.{no_stamp, local_stamp}
use Rattle.convoy_sim.specs.Delivery.{deliver, latency_of}
use Rattle.convoy_scenario.specs.Scenario.{GoesTo}
use Rattle.convoy_packets.specs.Order.{place}
use Rattle.convoy_sim.specs.Progress.{no_progress, progress_at, progress_told}
use Rattle.convoy_sim.specs.Run.{IsTabled, IsSilent, IsRunOf, progress_of}
use Rattle.convoy_sim.proofs.Addressed.{number_of_goes}
use Rattle.convoy_sim.proofs.StampLaws.{local_names}
use Rattle.convoy_sim.proofs.Destinations.{group_below}
use Rattle.convoy_sim.proofs.WholeRun.{table, tells_all, finals_at, final_count}

true_not_false : true ≡ false → ⊥
true_not_false e = cc

module _ (plan : Scenario) (well : IsScenario plan) (schedule : Schedule) (within : IsAssignment plan schedule) where
  -- the entry at each place
  told : ℕ → Progress
  told at = progress_told plan schedule (table plan well schedule within) (at / MOST_GROUPS) (at % MOST_GROUPS)

  -- the tables of the run
  pub record AreTables (finals : List Timestamp) (progress : List Progress) : Type 0 where
    pub finals_are : finals ≡ take (length plan.multicasts) (table plan well schedule within).finals
    pub progress_is : progress
        ≡ map (λ at. progress_told plan schedule (table plan well schedule within) (at / MOST_GROUPS) (at % MOST_GROUPS))
        (range_with_len 0 (length plan.multicasts * MOST_GROUPS))

  module _ (finals : List Timestamp) (progress : List Progress) (are : AreTables finals progress) where
    count : length finals ≡ length plan.multicasts
    count = ap length are.finals_are ∙ length-take-le (length plan.multicasts) (table plan well schedule within).finals (final_count plan well schedule within)

    size : length progress ≡ length plan.multicasts * MOST_GROUPS
    unfolding told
    size = ap length are.progress_is ∙ length-map-range_with_len told 0 (length plan.multicasts * MOST_GROUPS)

    pub tabled : IsTabled finals progress
    tabled =
        let messages = count in
        let entries = size in
        let most = well.multicasts_high in
        record { messages = omega arith; entries = omega arith }

    -- ---- the entry of a message at a group
    entry : (m g : ℕ) → m < length plan.multicasts → g < MOST_GROUPS
        → progress_at progress m g ≡ progress_told plan schedule (table plan well schedule within) m g
    unfolding told
    entry m g l k =
        let row : place m g / MOST_GROUPS ≡ m = omega arith in
        let column : place m g % MOST_GROUPS ≡ g = omega arith in
        ap (λ ps. progress_at ps m g) are.progress_is
        ∙ get_or-map-range_with_len told 0 (length plan.multicasts * MOST_GROUPS) (place m g) (place m g) no_progress (omega arith) (omega arith)
        ∙ (λ i. progress_told plan schedule (table plan well schedule within) (row i) (column i))

    time_at : ℕ → ℕ → ℕ
    time_at m g = get_or (table plan well schedule within).times (place m g) 0

    -- where the message goes
    arrived : (latency m g : ℕ) → GoesTo plan m g
        → progress_of (record { finals = finals; progress = progress; latency = latency }) m g
        ≡ record {
          came = Some (arrive plan schedule m g);
          stamp = (local_stamp plan schedule m g).time;
          committed = Some (settle plan schedule m g);
          delivered = Some (deliver plan schedule m g);
        }
    arrived latency m g goes =
        let below : g < MOST_GROUPS = group_below plan well m g goes in
        let full : ℕ → Progress = λ time. record {
          came = Some (arrive plan schedule m g);
          stamp = time;
          committed = Some (settle plan schedule m g);
          delivered = Some (deliver plan schedule m g);
        } in
        let time = get_or (table plan well schedule within).times (place m g) 0 in
        cond-true (nat_lt g MOST_GROUPS) (progress_at progress m g) no_progress (lt-ltb g MOST_GROUPS below)
        ∙ entry m g (number_of_goes plan m g goes) below
        ∙ cond-true (nat_lt 0 time) (full time) no_progress (lt-ltb 0 time ((tells_all plan well schedule within).given m g goes))
        ∙ ap full ((tells_all plan well schedule within).times m g goes)

    -- and where it does not
    nowhere : (latency m g : ℕ) → IsFalse (is_addressed (message_at plan m) g)
        → progress_of (record { finals = finals; progress = progress; latency = latency }) m g ≡ no_progress
    nowhere latency m g away = elim (cases_lt g MOST_GROUPS) [
      | inr past ↦ cond-false (nat_lt g MOST_GROUPS) (progress_at progress m g) no_progress (grind (arith, nat_tests, past))
      | inl below ↦
          cond-true (nat_lt g MOST_GROUPS) (progress_at progress m g) no_progress (lt-ltb g MOST_GROUPS below)
          ∙ elim (cases_lt m (length plan.multicasts)) [
            | inr past ↦ let long = size in get_or_past progress (place m g) no_progress (omega arith)
            | inl l ↦
                let time = get_or (table plan well schedule within).times (place m g) 0 in
                entry m g l below
                ∙ elim (cases_lt 0 time) [
                  | inl some ↦ absurd (true_not_false (sym ((tells_all plan well schedule within).goes m g l below some) ∙ away))
                  | inr none ↦ cond-false (nat_lt 0 time) _ no_progress (grind (arith, nat_tests, none))
                ]
          ]
    ]

    silent : (latency m g : ℕ) → IsFalse (is_addressed (message_at plan m) g)
        → IsSilent (record { finals = finals; progress = progress; latency = latency }) m g
    silent latency m g away =
        let none = nowhere latency m g away in
        record {
          proposed = ap (λ (p : Progress). option_map (λ tick. record { tick = tick; stamp = record { time = p.stamp; group = g } }) p.came) none;
          committed = ap (λ (p : Progress). p.committed) none;
          delivered = ap (λ (p : Progress). p.delivered) none;
        }

    pub run_of : (latency : ℕ) → latency ≡ latency_of plan schedule
        → IsRunOf plan schedule (record { finals = finals; progress = progress; latency = latency })
    run_of latency e = record {
      proposed = λ m g goes.
          let proposal : Timestamp → Proposal = λ stamp. record { tick = arrive plan schedule m g; stamp = stamp } in
          let named = sym (local_names plan schedule well m g goes) in
          ap (λ (p : Progress). option_map (λ tick. record { tick = tick; stamp = record { time = p.stamp; group = g } }) p.came) (arrived latency m g goes)
          ∙ ap (λ s. Some (proposal s)) (λ i. record { time = (local_stamp plan schedule m g).time; group = named i });
      committed = λ m g goes. ap (λ (p : Progress). p.committed) (arrived latency m g goes);
      delivered = λ m g goes. ap (λ (p : Progress). p.delivered) (arrived latency m g goes);
      final_stamps = λ m l.
          let messages = count in
          slice_get-get_or finals m no_stamp (omega arith)
          ∙ ap Some (ap (λ fs. get_or fs m no_stamp) are.finals_are
          ∙ get_or-take (length plan.multicasts) (table plan well schedule within).finals m no_stamp l
          ∙ finals_at plan well schedule within m l);
      elsewhere = silent latency;
      message_count = count;
      latency = e;
    }

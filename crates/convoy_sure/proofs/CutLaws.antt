-- Windows that are cut from above, or for a commit, enclose the schedules for which they are.
use Rattle.std.proofs.Common.{ℕ, ◌+◌, ◌-◌, ◌≤◌, max, min, inl, inr, List, [], ◌∷◌, fold, refl, sym, subst, arith}
use Rattle.convoy_scenario.specs.Scenario.{Scenario, message_at, GoesTo}
use Rattle.convoy_scenario.specs.WellFormed.{IsScenario}
use Rattle.convoy_packets.specs.Assignment.{Schedule}
use Rattle.convoy_packets.specs.Order.{place}
use Rattle.convoy_sim.specs.Times.{arrive, settle, propose_arrive}
use Rattle.convoy_sim.proofs.Membership.{IsIn, in_greatest}
use Rattle.convoy_sim.proofs.Addressed.{in_of_goes, goes_from_in}
use Rattle.convoy_sure.specs.Windows.{EnclosesAll, Windows, arrivals_before, arrivals_by, entry_at, lowered, tables_by, with_arrival_by, with_commit, with_commit_by, with_issue_by}
use Rattle.convoy_sure.specs.SureLaws.{CutsByArrivalEnclose, CutsByCommitEnclose, CutsForCommitEnclose}
use Rattle.convoy_sure.proofs.SureLaws.{set_cases, same_place, group_is_low}

module _ (scenario : Scenario) (schedule : Schedule) (windows : Windows) (m : ℕ) (well : IsScenario scenario) (enclosed : EnclosesAll scenario schedule (tables_by windows)) where
  -- the entries are no less than these numbers at destinations
  AreAbove : (ℕ → ℕ → ℕ) → List ℕ → Type 0
  AreAbove what entries = (n g : ℕ) → GoesTo scenario n g → what n g ≤ entry_at entries n g

  lowered_above : (what : ℕ → ℕ → ℕ) (entries : List ℕ) (n g most : ℕ) → GoesTo scenario n g → what n g ≤ most → AreAbove what entries
      → AreAbove what (lowered entries n g most)
  unfolding AreAbove
  lowered_above what entries n g most to here above i h there =
      let value : ℕ = min most (entry_at entries n g) in
      let old = above n g to in
      let low : what n g ≤ value = omega arith in
      elim (set_cases entries (place n g) (place i h) value) [
        | inr e ↦ subst (λ v. what i h ≤ v) (sym e) (above i h there)
        | inl e ↦
            let same = same_place n g i h (group_is_low scenario well n g to) (group_is_low scenario well i h there) e.0 in
            subst (λ v. what i h ≤ v) (sym e.1) (subst (λ a. what a h ≤ value) same.0 (subst (λ b. what n b ≤ value) same.1 low))
      ]

  -- a message that is issued by a tick arrives at no group later than after the greatest delay from then
  issued_above : (tick : ℕ) → ((g : ℕ) → GoesTo scenario m g → arrive scenario schedule m g ≤ tick + (tables_by windows).greatest_multicast m g)
      → (entries gs : List ℕ) → ((g : ℕ) → IsIn g gs → GoesTo scenario m g) → AreAbove (arrive scenario schedule) entries
      → AreAbove (arrive scenario schedule) (fold (with_issue_by windows m tick) entries gs)
  unfolding AreAbove
  issued_above tick by entries [] to above = above
  issued_above tick by entries (g ∷ gs) to above =
      let there = to g (inl refl) in
      issued_above tick by (lowered entries m g (tick + (tables_by windows).greatest_multicast m g)) gs (λ h i. to h (inr i))
      (lowered_above (arrive scenario schedule) entries m g (tick + (tables_by windows).greatest_multicast m g) there (by g there) above)

  comes_by : (k tick : ℕ) → GoesTo scenario m k → arrive scenario schedule m k ≤ tick → (g : ℕ) → GoesTo scenario m g
      → arrive scenario schedule m g ≤ (tick - (tables_by windows).least_multicast m k) + (tables_by windows).greatest_multicast m g
  unfolding arrive
  comes_by k tick goes soon g to =
      let low = enclosed.multicasts_low m k goes in
      let high = enclosed.multicasts_high m g to in
      omega (arith, soon)

  by_above : (k tick : ℕ) → GoesTo scenario m k → arrive scenario schedule m k ≤ tick → (entries : List ℕ) → AreAbove (arrive scenario schedule) entries
      → AreAbove (arrive scenario schedule) (arrivals_by scenario windows m k tick entries)
  by_above k tick goes soon entries above =
      lowered_above (arrive scenario schedule) (fold (with_issue_by windows m (tick - (tables_by windows).least_multicast m k)) entries (message_at scenario m).destinations) m k tick goes soon
      (issued_above (tick - (tables_by windows).least_multicast m k) (comes_by k tick goes soon) entries (message_at scenario m).destinations (λ g i. goes_from_in scenario m g i) above)

  -- a message that is committed by a tick arrives everywhere in time for its stamp
  comes_before : (k tick : ℕ) → GoesTo scenario m k → settle scenario schedule m k ≤ tick → (h : ℕ) → GoesTo scenario m h
      → arrive scenario schedule m h ≤ tick - (tables_by windows).least_proposal m h k
  unfolding settle
  comes_before k tick goes soon h to =
      let low = enclosed.proposals_low m h k to goes in
      let most = in_greatest (propose_arrive scenario schedule m k) h (message_at scenario m).destinations (in_of_goes scenario m h to) in
      omega (arith, soon)

  before_above : (k tick : ℕ) → GoesTo scenario m k → settle scenario schedule m k ≤ tick → (entries gs : List ℕ) → ((g : ℕ) → IsIn g gs → GoesTo scenario m g)
      → AreAbove (arrive scenario schedule) entries → AreAbove (arrive scenario schedule) (fold (arrivals_before scenario windows m k tick) entries gs)
  unfolding AreAbove
  before_above k tick goes soon entries [] to above = above
  before_above k tick goes soon entries (h ∷ gs) to above =
      let there = to h (inl refl) in
      before_above k tick goes soon (arrivals_before scenario windows m k tick entries h) gs (λ g i. to g (inr i))
      (by_above h (tick - (tables_by windows).least_proposal m h k) there (comes_before k tick goes soon h there) entries above)

  arrival_cut : (k tick : ℕ) → GoesTo scenario m k → arrive scenario schedule m k ≤ tick → EnclosesAll scenario schedule (tables_by (with_arrival_by scenario windows m k tick))
  unfolding AreAbove
  arrival_cut k tick goes soon = record {
    times = record {
      arrival_low = enclosed.times.arrival_low;
      arrival_high = by_above k tick goes soon windows.greatest_arrivals enclosed.times.arrival_high;
      settling_low = enclosed.times.settling_low;
      settling_high = enclosed.times.settling_high;
    };
    multicasts_low = enclosed.multicasts_low;
    multicasts_high = enclosed.multicasts_high;
    proposals_low = enclosed.proposals_low;
    proposals_high = enclosed.proposals_high;
  }

  commit_cut_by : (k tick : ℕ) → GoesTo scenario m k → settle scenario schedule m k ≤ tick → EnclosesAll scenario schedule (tables_by (with_commit_by scenario windows m k tick))
  unfolding AreAbove
  commit_cut_by k tick goes soon = record {
    times = record {
      arrival_low = enclosed.times.arrival_low;
      arrival_high = before_above k tick goes soon windows.greatest_arrivals (message_at scenario m).destinations (λ g i. goes_from_in scenario m g i) enclosed.times.arrival_high;
      settling_low = enclosed.times.settling_low;
      settling_high = lowered_above (settle scenario schedule) windows.greatest_settlings m k tick goes soon enclosed.times.settling_high;
    };
    multicasts_low = enclosed.multicasts_low;
    multicasts_high = enclosed.multicasts_high;
    proposals_low = enclosed.proposals_low;
    proposals_high = enclosed.proposals_high;
  }

  -- the least settlings with one raised
  commit_cut : (k tick : ℕ) → GoesTo scenario m k → tick ≤ settle scenario schedule m k → EnclosesAll scenario schedule (tables_by (with_commit windows m k tick))
  commit_cut k tick goes late = record {
    times = record {
      arrival_low = enclosed.times.arrival_low;
      arrival_high = enclosed.times.arrival_high;
      settling_low = λ i h there.
          let old = enclosed.times.settling_low m k goes in
          let value : ℕ = max tick (entry_at windows.least_settlings m k) in
          let low : value ≤ settle scenario schedule m k = omega arith in
          elim (set_cases windows.least_settlings (place m k) (place i h) value) [
            | inr e ↦ subst (λ v. v ≤ settle scenario schedule i h) (sym e) (enclosed.times.settling_low i h there)
            | inl e ↦
                let same = same_place m k i h (group_is_low scenario well m k goes) (group_is_low scenario well i h there) e.0 in
                subst (λ v. v ≤ settle scenario schedule i h) (sym e.1) (subst (λ a. value ≤ settle scenario schedule a h) same.0 (subst (λ b. value ≤ settle scenario schedule m b) same.1 low))
          ];
      settling_high = enclosed.times.settling_high;
    };
    multicasts_low = enclosed.multicasts_low;
    multicasts_high = enclosed.multicasts_high;
    proposals_low = enclosed.proposals_low;
    proposals_high = enclosed.proposals_high;
  }

pub cuts_by_arrival_enclose : CutsByArrivalEnclose
cuts_by_arrival_enclose scenario schedule windows m k tick well enclosed goes soon = arrival_cut scenario schedule windows m well enclosed k tick goes soon

pub cuts_for_commit_enclose : CutsForCommitEnclose
cuts_for_commit_enclose scenario schedule windows m k tick well enclosed goes late = commit_cut scenario schedule windows m well enclosed k tick goes late

pub cuts_by_commit_enclose : CutsByCommitEnclose
cuts_by_commit_enclose scenario schedule windows m k tick well enclosed goes soon = commit_cut_by scenario schedule windows m well enclosed k tick goes soon

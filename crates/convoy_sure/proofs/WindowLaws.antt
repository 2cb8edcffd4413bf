-- The windows of a box enclose its members, and those that are cut enclose the ones for which they are.
use Rattle.std.proofs.Common.{◌≡◌, ℕ, ◌+◌, ◌*◌, ◌/◌, ◌%◌, ◌≤◌, max, ◌&&◌, inl, inr, List, [], ◌∷◌, length, slice_set, fold, refl, sym, ap₂, subst, ◌∙◌, arith, cond}
use Rattle.std.proofs.lemmas.Bool.{and_from, cond-true}
use Rattle.std.proofs.lemmas.List.FromFn.{get_or-map-range_with_len}
use Rattle.convoy_draft.specs.declared.limits.TheConstants.{MOST_GROUPS}
use Rattle.convoy_scenario.specs.Scenario.{Scenario, message_at, is_addressed, GoesTo}
use Rattle.convoy_scenario.specs.WellFormed.{IsScenario}
use Rattle.convoy_packets.specs.declared.packet.Packet.{Packet}
use Rattle.convoy_packets.specs.declared.packet.Packet.TheVariants.{Multicast, Propose}
use Rattle.convoy_packets.specs.Assignment.{Schedule, delay_of}
use Rattle.convoy_packets.specs.Table.{least_of}
use Rattle.convoy_sim.specs.Times.{issue, arrive, settle, propose_arrive}
use Rattle.convoy_packets.specs.Order.{place}
use Rattle.convoy_sim.proofs.Membership.{IsIn, in_greatest}
use Rattle.convoy_sim.proofs.Addressed.{in_of_goes, goes_from_in, number_of_goes}
use Rattle.convoy_intervals.specs.Boxes.{Box, greatest_of}
use Rattle.convoy_intervals.specs.Bounds.{Encloses, tables_of}
use Rattle.convoy_intervals.specs.BoxLaws.{MembersAreEnclosed}
use Rattle.convoy_sure.specs.Windows.{EnclosesAll, Windows, entry_at, tables_by, entries_of, issued_since, proposal_delay, proposals_of, windows_of, raised, with_issue, with_arrival}
use Rattle.convoy_sure.specs.SureLaws.{WindowsAreTables, WindowsEncloseMembers, CutsEnclose}
use Rattle.convoy_sure.proofs.SureLaws.{set_cases, same_place, group_is_low}
use Rattle.convoy_sure.proofs.MemberDelays.{least_delay, greatest_delay}

-- ---- the windows of a box
-- at a destination the entry is the number
pub entry_is : (scenario : Scenario) (what : ℕ → ℕ → ℕ) → IsScenario scenario → (m g : ℕ) → GoesTo scenario m g → entry_at (entries_of scenario what) m g ≡ what m g
entry_is scenario what well m g goes =
    let low = group_is_low scenario well m g goes in
    let known = number_of_goes scenario m g goes in
    let message : place m g / MOST_GROUPS ≡ m = omega arith in
    let group : place m g % MOST_GROUPS ≡ g = omega arith in
    let one : ℕ → ℕ → ℕ = λ n h. cond (is_addressed (message_at scenario n) h) (what n h) 0 in
    get_or-map-range_with_len (λ i. one (i / MOST_GROUPS) (i % MOST_GROUPS)) 0 (length scenario.multicasts * MOST_GROUPS) (place m g) (place m g) 0 (omega arith) (omega arith)
    ∙ ap₂ one message group ∙ cond-true (is_addressed (message_at scenario m) g) (what m g) 0 goes

-- between destinations the entry is the delay of the proposal
proposal_is : (scenario : Scenario) (schedule : Schedule) → IsScenario scenario → (m h g : ℕ) → GoesTo scenario m h → GoesTo scenario m g
    → entry_at (proposals_of scenario schedule) (place m h) g ≡ delay_of scenario schedule (Propose m h g)
proposal_is scenario schedule well m h g from to =
    let low_h = group_is_low scenario well m h from in
    let low_g = group_is_low scenario well m g to in
    let known = number_of_goes scenario m h from in
    let at : ℕ = place (place m h) g in
    let rest : at / MOST_GROUPS ≡ place m h = omega arith in
    let message : place m h / MOST_GROUPS ≡ m = omega arith in
    let first : place m h % MOST_GROUPS ≡ h = omega arith in
    let second : at % MOST_GROUPS ≡ g = omega arith in
    get_or-map-range_with_len (λ i. proposal_delay scenario schedule (i / MOST_GROUPS / MOST_GROUPS) (i / MOST_GROUPS % MOST_GROUPS) (i % MOST_GROUPS))
    0 (length scenario.multicasts * MOST_GROUPS * MOST_GROUPS) at at 0 (omega arith) (omega arith)
    ∙ ap₂ (λ i k. proposal_delay scenario schedule (i / MOST_GROUPS) (i % MOST_GROUPS) k) rest second
    ∙ ap₂ (λ n k. proposal_delay scenario schedule n k g) message first
    ∙ cond-true (is_addressed (message_at scenario m) h && is_addressed (message_at scenario m) g) (delay_of scenario schedule (Propose m h g)) 0
    (and_from (is_addressed (message_at scenario m) h) (is_addressed (message_at scenario m) g) from to)

-- tables that say the same at destinations enclose the same
windows_enclose : (scenario : Scenario) (ranges : Box) (schedule : Schedule) → IsScenario scenario → Encloses scenario schedule (tables_of scenario ranges)
    → ((packet : Packet) → delay_of scenario (least_of ranges) packet ≤ delay_of scenario schedule packet)
    → ((packet : Packet) → delay_of scenario schedule packet ≤ delay_of scenario (greatest_of ranges) packet)
    → EnclosesAll scenario schedule (tables_by (windows_of scenario ranges))
windows_enclose scenario ranges schedule well enclosed low high = record {
  times = record {
    arrival_low = λ m g goes. subst (λ e. e ≤ arrive scenario schedule m g) (sym (entry_is scenario (tables_of scenario ranges).least_arrival well m g goes)) (enclosed.arrival_low m g goes);
    arrival_high = λ m g goes. subst (λ e. arrive scenario schedule m g ≤ e) (sym (entry_is scenario (tables_of scenario ranges).greatest_arrival well m g goes)) (enclosed.arrival_high m g goes);
    settling_low = λ m g goes. subst (λ e. e ≤ settle scenario schedule m g) (sym (entry_is scenario (tables_of scenario ranges).least_settling well m g goes)) (enclosed.settling_low m g goes);
    settling_high = λ m g goes. subst (λ e. settle scenario schedule m g ≤ e) (sym (entry_is scenario (tables_of scenario ranges).greatest_settling well m g goes)) (enclosed.settling_high m g goes);
  };
  multicasts_low = λ m g goes. subst (λ e. e ≤ delay_of scenario schedule (Multicast m g)) (sym (entry_is scenario (λ n h. delay_of scenario (least_of ranges) (Multicast n h)) well m g goes)) (low (Multicast m g));
  multicasts_high = λ m g goes. subst (λ e. delay_of scenario schedule (Multicast m g) ≤ e) (sym (entry_is scenario (λ n h. delay_of scenario (greatest_of ranges) (Multicast n h)) well m g goes)) (high (Multicast m g));
  proposals_low = λ m h g from to. subst (λ e. e ≤ delay_of scenario schedule (Propose m h g)) (sym (proposal_is scenario (least_of ranges) well m h g from to)) (low (Propose m h g));
  proposals_high = λ m h g from to. subst (λ e. delay_of scenario schedule (Propose m h g) ≤ e) (sym (proposal_is scenario (greatest_of ranges) well m h g from to)) (high (Propose m h g));
}

pub windows_are_tables : WindowsAreTables
windows_are_tables scenario ranges well m g goes = record {
  least_arrival = entry_is scenario (tables_of scenario ranges).least_arrival well m g goes;
  greatest_arrival = entry_is scenario (tables_of scenario ranges).greatest_arrival well m g goes;
  least_settling = entry_is scenario (tables_of scenario ranges).least_settling well m g goes;
  greatest_settling = entry_is scenario (tables_of scenario ranges).greatest_settling well m g goes;
}

pub windows_enclose_members : MembersAreEnclosed → WindowsEncloseMembers
windows_enclose_members enclosed scenario ranges schedule well member =
    windows_enclose scenario ranges schedule well (enclosed scenario ranges schedule member)
    (least_delay scenario ranges schedule member)
    (greatest_delay scenario ranges schedule member)

-- ---- cut windows
module _ (scenario : Scenario) (schedule : Schedule) (windows : Windows) (m k tick : ℕ) (well : IsScenario scenario) (enclosed : EnclosesAll scenario schedule (tables_by windows))
    (goes : GoesTo scenario m k) (late : tick ≤ arrive scenario schedule m k) where
  -- the entries are no greater than these numbers at destinations
  AreBelow : (ℕ → ℕ → ℕ) → List ℕ → Type 0
  AreBelow what entries = (n g : ℕ) → GoesTo scenario n g → entry_at entries n g ≤ what n g

  set_below : (what : ℕ → ℕ → ℕ) (entries : List ℕ) (n g value : ℕ) → GoesTo scenario n g → value ≤ what n g → AreBelow what entries
      → AreBelow what (slice_set entries (place n g) value)
  unfolding AreBelow
  set_below what entries n g value to here below i h there = elim (set_cases entries (place n g) (place i h) value) [
    | inr e ↦ subst (λ v. v ≤ what i h) (sym e) (below i h there)
    | inl e ↦
        let same = same_place n g i h (group_is_low scenario well n g to) (group_is_low scenario well i h there) e.0 in
        subst (λ v. v ≤ what i h) (sym e.1) (subst (λ a. value ≤ what a h) same.0 (subst (λ b. value ≤ what n b) same.1 here))
  ]

  -- entries stay so where they are raised, at destinations of the message, to no more than the numbers there
  raised_below : (what : ℕ → ℕ → ℕ) (least : ℕ → ℕ) → ((g : ℕ) → GoesTo scenario m g → least g ≤ what m g) → (entries : List ℕ) (gs : List ℕ)
      → ((g : ℕ) → IsIn g gs → GoesTo scenario m g) → AreBelow what entries → AreBelow what (fold (λ es g. raised es m g (least g)) entries gs)
  unfolding AreBelow
  raised_below what least low entries [] to below = below
  raised_below what least low entries (g ∷ gs) to below =
      let there = to g (inl refl) in
      let here = low g there in
      let old = below m g there in
      raised_below what least low (raised entries m g (least g)) gs (λ h i. to h (inr i))
      (set_below what entries m g (max (least g) (entry_at entries m g)) there (omega arith) below)

  by_way : (g : ℕ) → GoesTo scenario m g → tick + (tables_by windows).least_proposal m k g ≤ settle scenario schedule m g
  unfolding settle
  by_way g to =
      let low = enclosed.proposals_low m k g goes to in
      let most = in_greatest (propose_arrive scenario schedule m g) k (message_at scenario m).destinations (in_of_goes scenario m k goes) in
      omega arith

  -- the message is issued no earlier than the cut says, ..
  issued_by : issued_since windows m k tick ≤ issue scenario schedule m
  unfolding arrive
  issued_by =
      let high = enclosed.multicasts_high m k goes in
      omega (arith, late)

  -- .. and so it arrives nowhere earlier than that and the least delay to there
  comes_by : (g : ℕ) → GoesTo scenario m g → issued_since windows m k tick + (tables_by windows).least_multicast m g ≤ arrive scenario schedule m g
  unfolding arrive
  comes_by g to =
      let low = enclosed.multicasts_low m g to in
      omega (arith, issued_by)

  arrival_cut : EnclosesAll scenario schedule (tables_by (with_arrival scenario windows m k tick))
  unfolding AreBelow
  arrival_cut =
      let issued : List ℕ = fold (with_issue windows m k tick) windows.least_arrivals (message_at scenario m).destinations in
      let below = raised_below (arrive scenario schedule) (λ g. issued_since windows m k tick + (tables_by windows).least_multicast m g) comes_by windows.least_arrivals (message_at scenario m).destinations
      (λ g i. goes_from_in scenario m g i) enclosed.times.arrival_low in
      let old = below m k goes in
      record {
        times = record {
          arrival_low = set_below (arrive scenario schedule) issued m k (max tick (entry_at issued m k)) goes (omega arith) below;
          arrival_high = enclosed.times.arrival_high;
          settling_low = raised_below (settle scenario schedule) (λ g. tick + (tables_by windows).least_proposal m k g) by_way windows.least_settlings (message_at scenario m).destinations
              (λ g i. goes_from_in scenario m g i) enclosed.times.settling_low;
          settling_high = enclosed.times.settling_high;
        };
        multicasts_low = enclosed.multicasts_low;
        multicasts_high = enclosed.multicasts_high;
        proposals_low = enclosed.proposals_low;
        proposals_high = enclosed.proposals_high;
      }

pub cuts_enclose : CutsEnclose
cuts_enclose scenario schedule windows m k tick well enclosed goes late = arrival_cut scenario schedule windows m k tick well enclosed goes late

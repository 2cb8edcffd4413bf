-- The windows of a box inside another one allow no more than those of the other one, and stay so where both are cut.
use Rattle.std.proofs.Common.{◌≡◌, ℕ, zero, suc, ◌+◌, ◌-◌, ◌*◌, ◌/◌, ◌%◌, ◌≤◌, max, Bool, true, false, cond, ◌&&◌, List, [], ◌∷◌, length, map, get_or, slice_set, fold, refl, inl, inr, arith}
use Rattle.std.specs.List.{AllZip, range_with_len}
use Rattle.convoy_draft.specs.declared.limits.TheConstants.{MOST_GROUPS}
use Rattle.convoy_scenario.specs.Scenario.{Scenario, message_at, is_addressed, GoesTo}
use Rattle.convoy_scenario.specs.WellFormed.{IsScenario}
use Rattle.convoy_packets.specs.declared.packet.Packet.TheVariants.{Multicast, Propose}
use Rattle.convoy_packets.specs.Assignment.{AreWithin, Schedule, delay_of}
use Rattle.convoy_packets.specs.Order.{place}
use Rattle.convoy_packets.specs.Table.{least_of, greatest_delays}
use Rattle.convoy_sim.specs.Times.{arrive, settle, propose_arrive}
use Rattle.convoy_sim.proofs.Membership.{IsIn, in_greatest}
use Rattle.convoy_sim.proofs.Addressed.{goes_from_in, in_of_goes}
use Rattle.convoy_intervals.specs.Boxes.{Box, greatest_of}
use Rattle.convoy_intervals.specs.Bounds.{Tables, tables_of}
use Rattle.convoy_intervals.specs.BoxLaws.{MembersAreEnclosed}
use Rattle.convoy_sure.specs.Windows.{LeadTables, Windows, entry_at, entry_of, entries_of, proposal_delay, proposal_entry, proposals_of, tables_by, windows_of, issued_since, with_issue, with_settling, with_arrival}
use Rattle.convoy_sure.specs.SureLaws.{WindowsAreTables}
use Rattle.convoy_sure.proofs.MemberDelays.{least_delay, greatest_delay}
use Rattle.convoy_sure.proofs.WindowLaws.{entry_is}
use Rattle.convoy_laws.specs.Narrower.{IsInsideBox}
use Rattle.convoy_laws.specs.Monotone.{InnerTablesAreNarrower}
use Rattle.convoy_laws.proofs.InnerBoxes.{least_within, greatest_within}

-- ---- lists of numbers
-- no number of the first list is greater than the one at its place in the second
abbrev pub AreBelow : List ℕ → List ℕ → Type 0
AreBelow xs ys = AllZip (λ (x y : ℕ). x ≤ y) xs ys

pub below_at : (xs ys : List ℕ) → AreBelow xs ys → (i : ℕ) → get_or xs i 0 ≤ get_or ys i 0
below_at [] [] below i = omega arith
below_at [] (y ∷ ys) below i = absurd below
below_at (x ∷ xs) [] below i = absurd below
below_at (x ∷ xs) (y ∷ ys) below zero = below.0
below_at (x ∷ xs) (y ∷ ys) below (suc i) = below_at xs ys below.1 i

below_set : (xs ys : List ℕ) → AreBelow xs ys → (i v w : ℕ) → v ≤ w → AreBelow (slice_set xs i v) (slice_set ys i w)
below_set [] [] below i v w l = tt
below_set [] (y ∷ ys) below i v w l = absurd below
below_set (x ∷ xs) [] below i v w l = absurd below
below_set (x ∷ xs) (y ∷ ys) below zero v w l = (l, below.1)
below_set (x ∷ xs) (y ∷ ys) below (suc i) v w l = (below.0, below_set xs ys below.1 i v w l)

below_raised : (xs ys : List ℕ) → AreBelow xs ys → (i v : ℕ) → v ≤ get_or ys i 0 → AreBelow (slice_set xs i v) ys
below_raised [] [] below i v l = tt
below_raised [] (y ∷ ys) below i v l = absurd below
below_raised (x ∷ xs) [] below i v l = absurd below
below_raised (x ∷ xs) (y ∷ ys) below zero v l = (l, below.1)
below_raised (x ∷ xs) (y ∷ ys) below (suc i) v l = (below.0, below_raised xs ys below.1 i v l)

below_mapped : (f g : ℕ → ℕ) (ns : List ℕ) → ((n : ℕ) → f n ≤ g n) → AreBelow (map f ns) (map g ns)
below_mapped f g [] each = tt
below_mapped f g (n ∷ ns) each = (each n, below_mapped f g ns each)

below_if : (test : Bool) (a b : ℕ) → (test ≡ true → a ≤ b) → cond test a 0 ≤ cond test b 0
below_if true a b h = h refl
below_if false a b h = omega arith

-- ---- windows
-- the inner windows allow nothing that the outer ones do not
pub record AreTighter (outer inner : Windows) : Type 0 where
  pub least_arrivals : AreBelow outer.least_arrivals inner.least_arrivals
  pub greatest_arrivals : AreBelow inner.greatest_arrivals outer.greatest_arrivals
  pub least_settlings : AreBelow outer.least_settlings inner.least_settlings
  pub greatest_settlings : AreBelow inner.greatest_settlings outer.greatest_settlings
  pub least_multicasts : AreBelow outer.least_multicasts inner.least_multicasts
  pub greatest_multicasts : AreBelow inner.greatest_multicasts outer.greatest_multicasts
  pub least_proposals : AreBelow outer.least_proposals inner.least_proposals
  pub greatest_proposals : AreBelow inner.greatest_proposals outer.greatest_proposals

-- no message has to arrive later than it may, whichever of its destinations tells its issue, nor may arrive later than it may be committed
pub record AreOpen (scenario : Scenario) (windows : Windows) : Type 0 where
  pub arrivals : AreBelow windows.least_arrivals windows.greatest_arrivals
  pub issues : (m h g : ℕ) → GoesTo scenario m h → GoesTo scenario m g
      → (entry_at windows.greatest_arrivals m h - entry_at windows.greatest_multicasts m h) + entry_at windows.least_multicasts m g ≤ entry_at windows.greatest_arrivals m g
  pub commits : (m h g : ℕ) → GoesTo scenario m h → GoesTo scenario m g → entry_at windows.greatest_arrivals m h ≤ entry_at windows.greatest_settlings m g

-- the same of tables
pub record IsTighter (outer inner : LeadTables) : Type 0 where
  pub arrival_low : (m g : ℕ) → outer.times.least_arrival m g ≤ inner.times.least_arrival m g
  pub arrival_high : (m g : ℕ) → inner.times.greatest_arrival m g ≤ outer.times.greatest_arrival m g
  pub settling_low : (m g : ℕ) → outer.times.least_settling m g ≤ inner.times.least_settling m g
  pub settling_high : (m g : ℕ) → inner.times.greatest_settling m g ≤ outer.times.greatest_settling m g
  pub proposal_low : (m h g : ℕ) → outer.least_proposal m h g ≤ inner.least_proposal m h g
  pub proposal_high : (m h g : ℕ) → inner.greatest_proposal m h g ≤ outer.greatest_proposal m h g

pub record IsOpen (scenario : Scenario) (tables : Tables) : Type 0 where
  pub arrival : (m g : ℕ) → tables.least_arrival m g ≤ tables.greatest_arrival m g
  pub commit : (m h g : ℕ) → GoesTo scenario m h → GoesTo scenario m g → tables.greatest_arrival m h ≤ tables.greatest_settling m g

pub tighter_tables : (outer inner : Windows) → AreTighter outer inner → IsTighter (tables_by outer) (tables_by inner)
tighter_tables outer inner tight = record {
  arrival_low = λ m g. below_at outer.least_arrivals inner.least_arrivals tight.least_arrivals (place m g);
  arrival_high = λ m g. below_at inner.greatest_arrivals outer.greatest_arrivals tight.greatest_arrivals (place m g);
  settling_low = λ m g. below_at outer.least_settlings inner.least_settlings tight.least_settlings (place m g);
  settling_high = λ m g. below_at inner.greatest_settlings outer.greatest_settlings tight.greatest_settlings (place m g);
  proposal_low = λ m h g. below_at outer.least_proposals inner.least_proposals tight.least_proposals (place (place m h) g);
  proposal_high = λ m h g. below_at inner.greatest_proposals outer.greatest_proposals tight.greatest_proposals (place (place m h) g);
}

pub open_tables : (scenario : Scenario) (windows : Windows) → AreOpen scenario windows → IsOpen scenario (tables_by windows).times
open_tables scenario windows can = record {
  arrival = λ m g. below_at windows.least_arrivals windows.greatest_arrivals can.arrivals (place m g);
  commit = can.commits;
}

-- ---- cuts
module _ (scenario : Scenario) (outer inner : Windows) (m k tick later : ℕ) (tight : AreTighter outer inner) (late : tick ≤ later) where
  issued_later : issued_since outer m k tick ≤ issued_since inner m k later
  issued_later =
      let high : (tables_by inner).greatest_multicast m k ≤ (tables_by outer).greatest_multicast m k =
      below_at inner.greatest_multicasts outer.greatest_multicasts tight.greatest_multicasts (place m k) in
      omega arith

  arrivals_below : (gs xs ys : List ℕ) → AreBelow xs ys → AreBelow (fold (with_issue outer m k tick) xs gs) (fold (with_issue inner m k later) ys gs)
  arrivals_below [] xs ys below = below
  arrivals_below (g ∷ gs) xs ys below =
      let low : (tables_by outer).least_multicast m g ≤ (tables_by inner).least_multicast m g =
      below_at outer.least_multicasts inner.least_multicasts tight.least_multicasts (place m g) in
      let old : entry_at xs m g ≤ entry_at ys m g = below_at xs ys below (place m g) in
      arrivals_below gs (with_issue outer m k tick xs g) (with_issue inner m k later ys g)
      (below_set xs ys below (place m g) (max (issued_since outer m k tick + (tables_by outer).least_multicast m g) (entry_at xs m g))
      (max (issued_since inner m k later + (tables_by inner).least_multicast m g) (entry_at ys m g)) (omega (arith, issued_later)))

  settlings_below : (gs xs ys : List ℕ) → AreBelow xs ys → AreBelow (fold (with_settling outer m k tick) xs gs) (fold (with_settling inner m k later) ys gs)
  settlings_below [] xs ys below = below
  settlings_below (g ∷ gs) xs ys below =
      let low : (tables_by outer).least_proposal m k g ≤ (tables_by inner).least_proposal m k g =
      below_at outer.least_proposals inner.least_proposals tight.least_proposals (place (place m k) g) in
      let old : entry_at xs m g ≤ entry_at ys m g = below_at xs ys below (place m g) in
      settlings_below gs (with_settling outer m k tick xs g) (with_settling inner m k later ys g)
      (below_set xs ys below (place m g) (max (tick + (tables_by outer).least_proposal m k g) (entry_at xs m g))
      (max (later + (tables_by inner).least_proposal m k g) (entry_at ys m g)) (omega arith))

  pub tighter_cut : AreTighter (with_arrival scenario outer m k tick) (with_arrival scenario inner m k later)
  tighter_cut =
      let to : List ℕ = (message_at scenario m).destinations in
      let first : List ℕ = fold (with_issue outer m k tick) outer.least_arrivals to in
      let second : List ℕ = fold (with_issue inner m k later) inner.least_arrivals to in
      let below : AreBelow first second = arrivals_below to outer.least_arrivals inner.least_arrivals tight.least_arrivals in
      let old : entry_at first m k ≤ entry_at second m k = below_at first second below (place m k) in
      record {
        least_arrivals = below_set first second below (place m k) (max tick (entry_at first m k)) (max later (entry_at second m k)) (omega arith);
        greatest_arrivals = tight.greatest_arrivals;
        least_settlings = settlings_below (message_at scenario m).destinations outer.least_settlings inner.least_settlings tight.least_settlings;
        greatest_settlings = tight.greatest_settlings;
        least_multicasts = tight.least_multicasts;
        greatest_multicasts = tight.greatest_multicasts;
        least_proposals = tight.least_proposals;
        greatest_proposals = tight.greatest_proposals;
      }

-- a cut at a tick by which the message may arrive
module _ (scenario : Scenario) (windows : Windows) (m k tick : ℕ) (can : AreOpen scenario windows) (goes : GoesTo scenario m k) (soon : tick ≤ (tables_by windows).times.greatest_arrival m k) where
  open_issues : (gs xs : List ℕ) → ((g : ℕ) → IsIn g gs → GoesTo scenario m g) → AreBelow xs windows.greatest_arrivals
      → AreBelow (fold (with_issue windows m k tick) xs gs) windows.greatest_arrivals
  open_issues [] xs to below = below
  open_issues (g ∷ gs) xs to below =
      let may = can.issues m k g goes (to g (inl refl)) in
      let old : entry_at xs m g ≤ entry_at windows.greatest_arrivals m g = below_at xs windows.greatest_arrivals below (place m g) in
      open_issues gs (with_issue windows m k tick xs g) (λ h i. to h (inr i))
      (below_raised xs windows.greatest_arrivals below (place m g) (max (issued_since windows m k tick + (tables_by windows).least_multicast m g) (entry_at xs m g)) (omega arith))

  pub open_cut : AreOpen scenario (with_arrival scenario windows m k tick)
  open_cut =
      let to : List ℕ = (message_at scenario m).destinations in
      let first : List ℕ = fold (with_issue windows m k tick) windows.least_arrivals to in
      let below : AreBelow first windows.greatest_arrivals = open_issues to windows.least_arrivals (λ g i. goes_from_in scenario m g i) can.arrivals in
      let old : entry_at first m k ≤ entry_at windows.greatest_arrivals m k = below_at first windows.greatest_arrivals below (place m k) in
      record {
        arrivals = below_raised first windows.greatest_arrivals below (place m k) (max tick (entry_at first m k)) (omega arith);
        issues = can.issues;
        commits = can.commits;
      }

-- ---- the windows of boxes
entries_below : (scenario : Scenario) (low high : ℕ → ℕ → ℕ) → ((m g : ℕ) → GoesTo scenario m g → low m g ≤ high m g)
    → AreBelow (entries_of scenario low) (entries_of scenario high)
entries_below scenario low high each =
    below_mapped (entry_of scenario low) (entry_of scenario high) (range_with_len 0 (length scenario.multicasts * MOST_GROUPS)) (λ i.
    below_if (is_addressed (message_at scenario (i / MOST_GROUPS)) (i % MOST_GROUPS)) (low (i / MOST_GROUPS) (i % MOST_GROUPS)) (high (i / MOST_GROUPS) (i % MOST_GROUPS))
    (each (i / MOST_GROUPS) (i % MOST_GROUPS)))

proposals_below : (scenario : Scenario) (low high : Schedule) → ((m h g : ℕ) → delay_of scenario low (Propose m h g) ≤ delay_of scenario high (Propose m h g))
    → AreBelow (proposals_of scenario low) (proposals_of scenario high)
proposals_below scenario low high each =
    below_mapped (proposal_entry scenario low) (proposal_entry scenario high) (range_with_len 0 (length scenario.multicasts * MOST_GROUPS * MOST_GROUPS)) (λ i.
    one (i / MOST_GROUPS / MOST_GROUPS) (i / MOST_GROUPS % MOST_GROUPS) (i % MOST_GROUPS)) where
      one : (m h g : ℕ) → proposal_delay scenario low m h g ≤ proposal_delay scenario high m h g
      one m h g =
          below_if (is_addressed (message_at scenario m) h && is_addressed (message_at scenario m) g)
          (delay_of scenario low (Propose m h g)) (delay_of scenario high (Propose m h g)) (λ t. each m h g)

pub tighter_windows : InnerTablesAreNarrower → (scenario : Scenario) (outer inner : Box) → IsInsideBox outer inner
    → AreTighter (windows_of scenario outer) (windows_of scenario inner)
tighter_windows narrower scenario outer inner inside =
    let narrow = narrower scenario outer inner inside in
    record {
      least_arrivals = entries_below scenario (tables_of scenario outer).least_arrival (tables_of scenario inner).least_arrival narrow.arrival_low;
      greatest_arrivals = entries_below scenario (tables_of scenario inner).greatest_arrival (tables_of scenario outer).greatest_arrival narrow.arrival_high;
      least_settlings = entries_below scenario (tables_of scenario outer).least_settling (tables_of scenario inner).least_settling narrow.settling_low;
      greatest_settlings = entries_below scenario (tables_of scenario inner).greatest_settling (tables_of scenario outer).greatest_settling narrow.settling_high;
      least_multicasts = entries_below scenario (λ m g. delay_of scenario (least_of outer) (Multicast m g)) (λ m g. delay_of scenario (least_of inner) (Multicast m g)) (λ m g goes.
          least_delay scenario outer (least_of inner) (least_within outer inner inside) (Multicast m g));
      greatest_multicasts = entries_below scenario (λ m g. delay_of scenario (greatest_of inner) (Multicast m g)) (λ m g. delay_of scenario (greatest_of outer) (Multicast m g)) (λ m g goes.
          greatest_delay scenario outer (greatest_of inner) (greatest_within outer inner inside) (Multicast m g));
      least_proposals = proposals_below scenario (least_of outer) (least_of inner) (λ m h g.
          least_delay scenario outer (least_of inner) (least_within outer inner inside) (Propose m h g));
      greatest_proposals = proposals_below scenario (greatest_of inner) (greatest_of outer) (λ m h g.
          greatest_delay scenario outer (greatest_of inner) (greatest_within outer inner inside) (Propose m h g));
    }

-- the greatest delays of a box are those of one of its members, if each of its ranges holds a delay
greatest_inside : (outer inner : Box) → IsInsideBox outer inner → AreWithin inner (greatest_delays inner)
greatest_inside [] [] inside = tt
greatest_inside [] (r ∷ rs) inside = absurd inside
greatest_inside (o ∷ os) [] inside = absurd inside
greatest_inside (o ∷ os) (r ∷ rs) inside = ((inside.0.1, omega arith), greatest_inside os rs inside.1)

-- a message arrives no later than it is committed
arrives_by_commit : (scenario : Scenario) (schedule : Schedule) (m h g : ℕ) → GoesTo scenario m h → arrive scenario schedule m h ≤ settle scenario schedule m g
unfolding settle
arrives_by_commit scenario schedule m h g goes =
    let most = in_greatest (propose_arrive scenario schedule m g) h (message_at scenario m).destinations (in_of_goes scenario m h goes) in
    omega arith

-- over a box the greatest arrivals of a message are those of its greatest issue
issues_open : (scenario : Scenario) (inner : Box) → AreWithin inner (greatest_delays inner) → (m h g : ℕ)
    → (arrive scenario (greatest_of inner) m h - delay_of scenario (greatest_of inner) (Multicast m h)) + delay_of scenario (least_of inner) (Multicast m g)
    ≤ arrive scenario (greatest_of inner) m g
unfolding arrive
issues_open scenario inner within m h g =
    let low = least_delay scenario inner (greatest_of inner) within (Multicast m g) in
    omega arith

pub open_windows : MembersAreEnclosed → WindowsAreTables → (scenario : Scenario) (outer inner : Box) → IsScenario scenario → IsInsideBox outer inner
    → AreOpen scenario (windows_of scenario inner)
open_windows enclosed same scenario outer inner well inside =
    let member = enclosed scenario inner (greatest_of inner) (greatest_inside outer inner inside) in
    record {
      arrivals = entries_below scenario (tables_of scenario inner).least_arrival (tables_of scenario inner).greatest_arrival member.arrival_low;
      issues = λ m h g from to.
          let by = issues_open scenario inner (greatest_inside outer inner inside) m h g in
          let first = (same scenario inner well m h from).greatest_arrival in
          let last = (same scenario inner well m g to).greatest_arrival in
          let longest = entry_is scenario (λ n i. delay_of scenario (greatest_of inner) (Multicast n i)) well m h from in
          let shortest = entry_is scenario (λ n i. delay_of scenario (least_of inner) (Multicast n i)) well m g to in
          omega (arith, first, last, longest, shortest, by);
      commits = λ m h g from to.
          let first = (same scenario inner well m h from).greatest_arrival in
          let last = (same scenario inner well m g to).greatest_settling in
          let by = arrives_by_commit scenario (greatest_of inner) m h g from in
          omega (arith, first, last, by);
    }

-- The order of arrivals and commits, and the most of the times of stamps, as the laws of the crates below have them.
use Rattle.std.proofs.Common.{◌≡◌, ◌≢◌, ℕ, ◌+◌, ◌<◌, ◌≤◌, Bool, true, false, ◌==◌, ◌&&◌, not, nat_lt, inl, inr, List, [], ◌∷◌, length, filter, refl, ap, arith}
use Rattle.std.proofs.lemmas.Bool.{cases_Bool, cases_lt, and_from, or_left, or_right, both_ways, eq-eqb, eqb-true, lt-ltb, le-leb, false_from_ne_true}
use Rattle.convoy_draft.specs.declared.time.Time.{Time}
use Rattle.convoy_draft.specs.declared.time.Time.TheVariants.{Ticks, Real}
use Rattle.convoy_scenario.specs.Scenario.{Scenario, message_at, is_addressed, GoesTo, stamp_takes_time}
use Rattle.convoy_packets.proofs.Sent.{other_stamp_takes}
use Rattle.convoy_scenario.specs.WellFormed.{IsScenario}
use Rattle.convoy_packets.specs.declared.packet.Packet.TheVariants.{Propose}
use Rattle.convoy_packets.specs.Assignment.{Schedule, IsAssignment, delay_of}
use Rattle.convoy_packets.specs.ScheduleLaws.{is_sent}
use Rattle.convoy_packets.proofs.Ranges.{range_within, within_if_sent}
use Rattle.convoy_sim.specs.Times.{arrive, settle}
use Rattle.convoy_sim.specs.Moments.{is_before, arrival_of, commit_of, next_arrival}
use Rattle.convoy_sim.specs.Stamps.{local_stamp}
use Rattle.convoy_sim.proofs.Membership.{filter_keeps, filter_drops}
use Rattle.convoy_sim.proofs.MomentsOrder.{before_by_tick}
use Rattle.convoy_sim.proofs.MomentTicks.{tick_of_before}
use Rattle.convoy_intervals.specs.Bounds.{Tables, Encloses}
use Rattle.convoy_stamps.specs.Reach.{pairs_of, pair_of, follows, reach_of}
use Rattle.convoy_stamps.specs.Closures.{is_follower, reached_after}
use Rattle.convoy_stamps.proofs.Arrivals.{parts_in_ticks}
use Rattle.convoy_sure.specs.SureLeads.{may_be_earlier}
use Rattle.convoy_starts.specs.Below.{LawsBelow}
use Rattle.convoy_starts.specs.Starts.{first_past}

-- ---- kinds of time
-- a commit that an arrival may follow is before the first that is past it
pub before_first_past : (time : Time) (committed arrives end : ℕ) → next_arrival time committed ≤ arrives → first_past time arrives ≤ end → committed < end
before_first_past Ticks committed arrives end l m = omega arith
before_first_past Real committed arrives end l m = omega arith

pub first_past_rises : (time : Time) (a b : ℕ) → a ≤ b → first_past time a ≤ first_past time b
first_past_rises Ticks a b l = l
first_past_rises Real a b l = omega arith

-- what is past each arrival by a tick is no later than the next tick, ..
pub first_past_next : (time : Time) (a : ℕ) → first_past time a ≤ a + 1
first_past_next Ticks a = omega arith
first_past_next Real a = omega arith

-- .. and what may follow a commit is no earlier than that
pub next_no_sooner : (time : Time) (a : ℕ) → a ≤ next_arrival time a
next_no_sooner Ticks a = omega arith
next_no_sooner Real a = omega arith

-- ---- the order of moments at a group, by ticks and messages
-- an arrival at a tick or later that precedes another one, which is by some tick, passes the test for this
pub may_precede_by : (scenario : Scenario) (schedule : Schedule) (z q h low by : ℕ)
    → is_before (arrival_of scenario schedule z h) (arrival_of scenario schedule q h) ≡ true
    → low ≤ arrive scenario schedule z h → arrive scenario schedule q h ≤ by → may_be_earlier scenario.time low z by q ≡ true
may_precede_by scenario schedule z q h low by before late soon = by_time scenario.time refl where
  by_time : (time : Time) → scenario.time ≡ time → may_be_earlier time low z by q ≡ true
  by_time Real real =
      let no_later : arrive scenario schedule z h ≤ arrive scenario schedule q h = tick_of_before (arrival_of scenario schedule z h) (arrival_of scenario schedule q h) before in
      le-leb low by (omega arith)
  by_time Ticks whole = elim (parts_in_ticks scenario schedule z q h whole before) [
    | inl l ↦ or_left (nat_lt low by) ((low == by) && nat_lt z q) (lt-ltb low by (omega arith))
    | inr same ↦ elim (cases_lt low by) [
      | inl l ↦ or_left (nat_lt low by) ((low == by) && nat_lt z q) (lt-ltb low by l)
      | inr m ↦ or_right (nat_lt low by) ((low == by) && nat_lt z q)
          (and_from (low == by) (nat_lt z q) (eq-eqb low by (omega (arith, same.0))) (lt-ltb z q same.1))
    ]
  ]

-- an arrival that a commit does not precede is no later than that
pub no_later_than_commit : (scenario : Scenario) (schedule : Schedule) (c k q h : ℕ)
    → is_before (commit_of scenario schedule c k) (arrival_of scenario schedule q h) ≡ false → arrive scenario schedule q h ≤ settle scenario schedule c k
no_later_than_commit scenario schedule c k q h not_before = elim (cases_lt (settle scenario schedule c k) (arrive scenario schedule q h)) [
  | inl l ↦ absurd (both_ways (is_before (commit_of scenario schedule c k) (arrival_of scenario schedule q h)) not_before
      (before_by_tick (commit_of scenario schedule c k) (arrival_of scenario schedule q h) l))
  | inr l ↦ l
]

-- ---- delays
-- a proposal to another group takes time
pub proposal_takes_time : (scenario : Scenario) (schedule : Schedule) → IsScenario scenario → IsAssignment scenario schedule
    → (m h g : ℕ) → GoesTo scenario m h → GoesTo scenario m g → h ≢ g → 1 ≤ delay_of scenario schedule (Propose m h g)
proposal_takes_time scenario schedule well assigned m h g from to away =
    let goes : Bool = is_addressed (message_at scenario m) h && is_addressed (message_at scenario m) g in
    let sent : is_sent scenario (Propose m h g) ≡ true =
    and_from goes (stamp_takes_time scenario h g) (and_from (is_addressed (message_at scenario m) h) (is_addressed (message_at scenario m) g) from to)
    (other_stamp_takes scenario h g (false_from_ne_true (h == g) (λ t. away (eqb-true h g t)))) in
    let within = within_if_sent scenario schedule (Propose m h g) assigned sent in
    let range = range_within scenario (Propose m h g) well refl in
    omega (arith, within.0, range.low)

-- ---- times of stamps
module _ (below : LawsBelow) (scenario : Scenario) (schedule : Schedule) (well : IsScenario scenario) where
  -- no local stamp has a greater time than there are local stamps
  pub within_all : (tables : Tables) → Encloses scenario schedule tables → (m g : ℕ) → GoesTo scenario m g
      → (local_stamp scenario schedule m g).time ≤ length (pairs_of scenario)
  unfolding reach_of
  within_all tables enclosed m g goes =
      let reach = below.within scenario schedule tables well enclosed m g goes in
      let few = shorter (is_follower (follows scenario tables m) (reached_after (follows scenario tables m) (pairs_of scenario) (pair_of m g) (length (pairs_of scenario)))) (pairs_of scenario) in
      omega arith where
        shorter : {X : Type 0} (p : X → Bool) (xs : List X) → length (filter p xs) ≤ length xs
        shorter p [] = omega arith
        shorter p (x ∷ xs) = let rest = shorter p xs in elim (cases_Bool (p x)) [
          | inl e ↦ omega (arith, ap length (filter_keeps p x xs e))
          | inr e ↦ omega (arith, ap length (filter_drops p x xs e))
        ]

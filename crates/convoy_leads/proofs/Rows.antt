-- Worked rows of leads, computed from the definitions alone.
use Rattle.std.proofs.Common.{◌≡◌, true, false, List, [], ◌∷◌, replicate, slice_set, refl, codes}
use Rattle.convoy_scenario.specs.declared.sender.Sender.TheVariants.{Client, Group}
use Rattle.convoy_draft.specs.declared.time.Time.{Time}
use Rattle.convoy_draft.specs.declared.time.Time.TheVariants.{Ticks, Real}
use Rattle.convoy_scenario.specs.Scenario.{Link, Scenario}
use Rattle.convoy_packets.specs.Packets.{packets_of}
use Rattle.convoy_packets.specs.Assignment.{delay_of, ranges_of}
use Rattle.convoy_packets.specs.Order.{place}
use Rattle.convoy_sim.specs.Times.{arrive, settle}
use Rattle.convoy_sim.specs.Moments.{arrival_rank, commit_rank, moments_of}
use Rattle.convoy_sim.specs.Stamps.{clocks_of, local_stamp, final_stamp}
use Rattle.convoy_sim.specs.Delivery.{holds_back, deliver, latency_at, latency_of}
use Rattle.convoy_scenario.proofs.RowScenarios.{message, of_two, base_with, base, swapped, raised_twice}
use Rattle.convoy_intervals.specs.Boxes.{root_of}
use Rattle.convoy_intervals.specs.Bounds.{plain_bound}
use Rattle.convoy_sure.specs.Windows.{tables_by, windows_of}
use Rattle.convoy_sure.specs.SureLeads.{leads_of, sure_time}
use Rattle.convoy_leads.specs.Leads.{is_led}
use Rattle.convoy_leads.specs.Closing.{is_behind, closes_by_leads}

base_closes : closes_by_leads base (root_of base) 12 ≡ true
unfolding base_with message packets_of ranges_of delay_of arrive settle leads_of sure_time is_led closes_by_leads
base_closes = refl

base_stays_open : closes_by_leads base (root_of base) 11 ≡ false
unfolding base_with message packets_of ranges_of delay_of arrive settle leads_of sure_time is_led closes_by_leads
base_stays_open = refl

swapped_closes : closes_by_leads swapped (root_of swapped) 6 ≡ true
unfolding swapped message packets_of ranges_of delay_of arrive settle leads_of sure_time is_led closes_by_leads
swapped_closes = refl

swapped_stays_open : closes_by_leads swapped (root_of swapped) 5 ≡ false
unfolding swapped message packets_of ranges_of delay_of arrive settle leads_of sure_time is_led closes_by_leads
swapped_stays_open = refl

raised_twice_closes : closes_by_leads raised_twice (root_of raised_twice) 11 ≡ true
unfolding raised_twice message packets_of ranges_of delay_of arrive settle leads_of sure_time is_led closes_by_leads
raised_twice_closes = refl

raised_twice_stays_open : closes_by_leads raised_twice (root_of raised_twice) 10 ≡ false
unfolding raised_twice message packets_of ranges_of delay_of arrive settle leads_of sure_time is_led closes_by_leads
raised_twice_stays_open = refl

-- two messages that b sends to a and b. w is committed at b after t only if it arrives late at a: where it arrives early it may raise the clock there before t arrives, and where it arrives late it may not
late : List Link → Scenario
late links = record (of_two Ticks 3 (message (codes "w") (Group 1) (0 ∷ 1 ∷ []) 2 ∷ message (codes "t") (Group 1) (0 ∷ 1 ∷ []) 1 ∷ []) 1 1) { links = links }

late_plain : plain_bound (late []) (root_of (late [])) ≡ 7
unfolding late message packets_of ranges_of delay_of arrive settle plain_bound
late_plain = refl

-- in the windows of the whole box w is not shown to be behind, ..
late_is_not_behind : is_behind (late []) (tables_by (windows_of (late []) (root_of (late [])))) 0 ≡ false
unfolding late message packets_of ranges_of delay_of arrive settle leads_of sure_time is_led
late_is_not_behind = refl

-- .. but in those that are cut it is
late_closes : closes_by_leads (late []) (root_of (late [])) 6 ≡ true
unfolding late message packets_of ranges_of delay_of arrive settle leads_of sure_time is_led closes_by_leads
late_closes = refl

late_stays_open : closes_by_leads (late []) (root_of (late [])) 5 ≡ false
unfolding late message packets_of ranges_of delay_of arrive settle leads_of sure_time is_led closes_by_leads
late_stays_open = refl

-- the link from b to a, where each packet takes 3 ticks, and w arrives at a late in any case
slow : List Link
slow = record { sender = Group 1; to = 0; least = 3; most = 3; stamps = false } ∷ []

slow_is_behind : is_behind (late slow) (tables_by (windows_of (late slow) (root_of (late slow)))) 0 ≡ true
unfolding late slow message packets_of ranges_of delay_of arrive settle leads_of sure_time is_led
slow_is_behind = refl

slow_closes : closes_by_leads (late slow) (root_of (late slow)) 6 ≡ true
unfolding late slow message packets_of ranges_of delay_of arrive settle leads_of sure_time is_led closes_by_leads
slow_closes = refl

slow_stays_open : closes_by_leads (late slow) (root_of (late slow)) 5 ≡ false
unfolding late slow message packets_of ranges_of delay_of arrive settle leads_of sure_time is_led closes_by_leads
slow_stays_open = refl

-- six groups, and four messages of which the last goes to all of them
six_groups : Scenario
six_groups = record (of_two Ticks 8 (message (codes "u") (Client 0) (4 ∷ 5 ∷ []) 0 ∷ message (codes "v") (Client 0) (1 ∷ []) 3
    ∷ message (codes "t") (Group 3) (0 ∷ 2 ∷ 3 ∷ []) 4 ∷ message (codes "n") (Group 4) (0 ∷ 1 ∷ 2 ∷ 3 ∷ 4 ∷ 5 ∷ []) 5 ∷ []) 2 3) {
      groups = codes "a" ∷ codes "b" ∷ codes "c" ∷ codes "d" ∷ codes "e" ∷ codes "f" ∷ [];
    }

six_groups_closes : closes_by_leads six_groups (root_of six_groups) 16 ≡ true
unfolding six_groups message packets_of ranges_of delay_of arrive settle leads_of sure_time is_led closes_by_leads
six_groups_closes = refl

six_groups_stays_open : closes_by_leads six_groups (root_of six_groups) 15 ≡ false
unfolding six_groups message packets_of ranges_of delay_of arrive settle leads_of sure_time is_led closes_by_leads
six_groups_stays_open = refl

-- three groups, and two messages that b sends, w after t, to which a's answers come back at once. w cannot be committed at a before the very tick by which t arrives there
tied : Time → Scenario
tied time = record (of_two time 5 (message (codes "w") (Group 1) (0 ∷ 1 ∷ 2 ∷ []) 3 ∷ message (codes "t") (Group 1) (0 ∷ 1 ∷ []) 2 ∷ []) 1 1) {
  groups = codes "a" ∷ codes "b" ∷ codes "c" ∷ [];
  links = record { sender = Group 1; to = 0; least = 1; most = 3; stamps = false } ∷ record { sender = Group 0; to = 1; least = 1; most = 1; stamps = false } ∷ [];
}

-- so in whole ticks t never waits for w, ..
tied_in_ticks_closes : closes_by_leads (tied Ticks) (root_of (tied Ticks)) 4 ≡ true
unfolding tied message packets_of ranges_of delay_of arrive settle leads_of sure_time is_led closes_by_leads
tied_in_ticks_closes = refl

tied_in_ticks_stays_open : closes_by_leads (tied Ticks) (root_of (tied Ticks)) 3 ≡ false
unfolding tied message packets_of ranges_of delay_of arrive settle leads_of sure_time is_led closes_by_leads
tied_in_ticks_stays_open = refl

-- .. and in real time it may
tied_in_real_time_stays_open : closes_by_leads (tied Real) (root_of (tied Real)) 6 ≡ false
unfolding tied message packets_of ranges_of delay_of arrive settle leads_of sure_time is_led closes_by_leads
tied_in_real_time_stays_open = refl

tied_in_real_time_closes : closes_by_leads (tied Real) (root_of (tied Real)) 7 ≡ true
unfolding tied message packets_of ranges_of delay_of arrive settle leads_of sure_time is_led closes_by_leads
tied_in_real_time_closes = refl

-- where the arrival of t at a is of a later rank than the commit of w there
tied_in_real_time_attains : latency_of (tied Real) (record {
  delays = 1 ∷ 1 ∷ 1 ∷ 1 ∷ 1 ∷ 1 ∷ 1 ∷ 5 ∷ 3 ∷ 1 ∷ 1 ∷ [];
  order = record { arrivals = slice_set (replicate 128 0) (place 1 0) 1; commits = replicate 128 0 };
}) ≡ 7
unfolding tied message packets_of delay_of arrive settle arrival_rank commit_rank moments_of clocks_of local_stamp final_stamp holds_back deliver latency_at latency_of
tied_in_real_time_attains = refl

-- The stamp bound: a rival that it leaves out is not ahead of the target.
use Rattle.std.proofs.Common.{◌≡◌, ℕ, ◌+◌, ◌≤◌, true, length, map, sym, subst, arith}
use Rattle.std.proofs.lemmas.Bool.{false_from_ne_true}
use Rattle.std.proofs.lemmas.Bool.Decides.{nat_tests}
use Rattle.convoy_scenario.specs.Scenario.{Scenario, message_at}
use Rattle.convoy_scenario.specs.WellFormed.{IsScenario}
use Rattle.convoy_packets.specs.Assignment.{Schedule}
use Rattle.convoy_sim.specs.declared.timestamp.Timestamp.{Timestamp}
use Rattle.convoy_sim.specs.Stamps.{is_less, no_stamp, local_stamp}
use Rattle.convoy_sim.specs.ProtocolLaws.{FinalStampIsLocal, LocalStampNamesGroup}
use Rattle.convoy_sim.proofs.Membership.{in-map}
use Rattle.convoy_sim.proofs.Addressed.{in_of_goes}
use Rattle.convoy_intervals.specs.Bounds.{Tables, Encloses}
use Rattle.convoy_stamps.specs.Reach.{reach_of}
use Rattle.convoy_stamps.specs.StampBounds.{sure_before, lowest_stamp, highest_stamp, is_surely_behind}
use Rattle.convoy_stamps.proofs.GreatestStamps.{less_by_greatest}
use Rattle.convoy_stamps.specs.StampBoundLaws.{KeepsThoseAhead, StampsWithinReach, StampsPastSureBefore}

-- a stamp that is no less than a lower limit is not below one that is at most an upper limit, where the upper is below the lower
not_ahead : (n t : Timestamp) (low high g h : ℕ) → is_less n t ≡ true → n.group ≡ g → t.group ≡ h → t.time ≤ high → low ≤ n.time
    → is_less (record { time = high; group = h }) (record { time = low; group = g }) ≡ true → ⊥
not_ahead n t low high g h l e f a b c = grind (arith, nat_tests, l, e, f, a, b, c)

pub keeps_those_ahead : FinalStampIsLocal → LocalStampNamesGroup → StampsWithinReach → StampsPastSureBefore
    → (scenario : Scenario) (schedule : Schedule) (tables : Tables) → IsScenario scenario → Encloses scenario schedule tables
    → KeepsThoseAhead scenario schedule (is_surely_behind scenario tables)
keeps_those_ahead is_local names within past scenario schedule tables well enclosed n goes ahead =
    false_from_ne_true (is_surely_behind scenario tables n) (λ out.
    let t : ℕ = scenario.target_message in
    let g : ℕ = scenario.target_group in
    let f = is_local scenario schedule well t well.target in
    let behind = less_by_greatest no_stamp (lowest_stamp scenario tables n g) (highest_stamp scenario tables t f.0)
    (map (highest_stamp scenario tables t) (message_at scenario t).destinations) out
    (in-map (highest_stamp scenario tables t) f.0 (message_at scenario t).destinations (in_of_goes scenario t f.0 f.1)) in
    not_ahead (local_stamp scenario schedule n g) (local_stamp scenario schedule t f.0)
    (1 + length (sure_before scenario tables g n)) (length (reach_of scenario tables t f.0)) g f.0
    (subst (λ s. is_less (local_stamp scenario schedule n g) s ≡ true) (sym f.2) ahead)
    (names scenario schedule well n g goes) (names scenario schedule well t f.0 f.1)
    (within scenario schedule tables well enclosed t f.0 f.1) (past scenario schedule tables well enclosed n g goes) behind)

-- What the order of the groups does to delivery: what is listed behind a group gives way to it.
use Rattle.std.proofs.Common.{◌≡◌, ℕ, ◌<◌, ◌≤◌, true, false, max, ◌⊎◌, inl, inr, sym, ap, ◌∷◌, map, fold, ◌∙◌, arith}
use Rattle.std.proofs.lemmas.Bool.Decides.{nat_tests}
use Rattle.std.proofs.lemmas.Bool.{cases_lt}
use Rattle.convoy_scenario.specs.Scenario.{Scenario, GoesTo}
use Rattle.convoy_scenario.specs.WellFormed.{IsScenario}
use Rattle.convoy_packets.specs.Assignment.{Schedule}
use Rattle.convoy_sim.specs.declared.timestamp.Timestamp.{Timestamp}
use Rattle.convoy_sim.specs.Times.{settle}
use Rattle.convoy_sim.specs.Stamps.{is_less, local_stamp, final_stamp}
use Rattle.convoy_sim.specs.Delivery.{addressed_to, deliver, latency_at}
use Rattle.convoy_sim.specs.ProtocolLaws.{ahead_of}
use Rattle.convoy_sim.proofs.Membership.{IsIn, in-filter, in_greatest, greatest_most}
use Rattle.convoy_sim.proofs.Addressed.{in-addressed, in_of_ahead, number_of_goes}
use Rattle.convoy_orders.specs.Renumbered.{IsRenumbered}
use Rattle.convoy_orders.specs.ListedOrder.{AreSameBehind, IsSameRun, NoMoreAreBehind, RenumberedRunsAgree, FewerBehindIsNoLater, FewerBehindIsNoSlower, SameBehindIsSame}
use Rattle.convoy_orders.proofs.Used.{Packets, Stamps, Deliveries}
use Rattle.convoy_orders.proofs.SameParts.{goes_there, goes_here, goes_back, turned}
use Rattle.convoy_orders.proofs.Backwards.{run_here, is_assignment}
use Rattle.convoy_orders.proofs.SameTimes.{issues, arrives, settles, in_step}
use Rattle.convoy_orders.proofs.StampTimes.{same_stamps}

-- a run and the one that belongs to it
pub same_run : Packets → Stamps → (renumber back : ℕ → ℕ) (plan other : Scenario) (run : Schedule)
    → IsScenario plan → IsScenario other → IsRenumbered renumber back plan other
    → IsSameRun renumber plan (run_here renumber plan other run) other run
same_run packets stamps renumber back plan other run well well_too is = record {
  issues = issues packets renumber back plan other is run;
  arrives = arrives packets renumber back plan other is run;
  settles = settles packets renumber back plan other is run;
  stamps = same_stamps stamps renumber back plan other is well well_too (run_here renumber plan other run) run (in_step packets renumber back plan other is run well);
}

pub runs_agree : Packets → Stamps → RenumberedRunsAgree
runs_agree packets stamps renumber back plan other run well well_too is given = (
  run_here renumber plan other run,
  is_assignment packets renumber back plan other is run given,
  same_run packets stamps renumber back plan other run well well_too is,
)

-- ---- what is ahead
-- a stamp below another that is no greater than a third
less_before : (a b c : Timestamp) → is_less a b ≡ true → is_less c b ≡ false → is_less a c ≡ true
less_before a b c h i = grind (arith, nat_tests)

-- stamps of the same times, by groups that are listed so if the others are
less_too : (a b c d : Timestamp) → a.time ≡ c.time → b.time ≡ d.time → (c.group < d.group → a.group < b.group) → is_less c d ≡ true → is_less a b ≡ true
less_too a b c d e f behind h = by_cases (cases_lt c.time d.time) where
  by_cases : (c.time < d.time) ⊎ (d.time ≤ c.time) → is_less a b ≡ true
  by_cases (inl l) = grind (arith, nat_tests)
  by_cases (inr l) =
      let group : c.group < d.group = grind (arith, nat_tests) in
      let mine = behind group in
      grind (arith, nat_tests)

module _ (used : Deliveries) (renumber back : ℕ → ℕ) (plan other : Scenario) (schedule run : Schedule) (m g : ℕ)
    (well : IsScenario plan) (well_too : IsScenario other) (is : IsRenumbered renumber back plan other) (same : IsSameRun renumber plan schedule other run)
    (goes : GoesTo plan m g) (fewer : NoMoreAreBehind renumber plan m g) where
  ahead_too : (n : ℕ) → GoesTo plan n g → is_less (local_stamp other run n (renumber g)) (final_stamp other run m) ≡ true
      → is_less (local_stamp plan schedule n g) (final_stamp plan schedule m) ≡ true
  ahead_too n there ahead =
      let number = number_of_goes other m (renumber g) (goes_there renumber back plan other is m g goes) in
      let r = used.local other run well_too m number in
      let h : ℕ = back r.0 in
      let from = goes_back renumber back plan other is m r.0 r.1 in
      let again = is.there_again r.0 in
      let last : local_stamp other run m (renumber h) ≡ final_stamp other run m = ap (local_stamp other run m) again ∙ r.2 in
      let mine = used.names plan schedule well n g there in
      let its = used.names plan schedule well m h from in
      let mine_too = used.names other run well_too n (renumber g) (goes_there renumber back plan other is n g there) in
      let its_too = used.names other run well_too m (renumber h) (goes_there renumber back plan other is m h from) in
      let less =
      less_too (local_stamp plan schedule n g) (local_stamp plan schedule m h) (local_stamp other run n (renumber g)) (local_stamp other run m (renumber h))
      (sym (same.stamps n g there)) (sym (same.stamps m h from))
      (λ l. let behind = fewer h from (omega arith) in omega arith)
      (ap (is_less (local_stamp other run n (renumber g))) last ∙ ahead) in
      less_before (local_stamp plan schedule n g) (local_stamp plan schedule m h) (final_stamp plan schedule m) less (used.greatest plan schedule well m h from)

  awaited : (n : ℕ) → IsIn n (m ∷ ahead_of other run m (renumber g)) → IsIn n (m ∷ ahead_of plan schedule m g)
  awaited n (inl e) = inl e
  awaited n (inr i) =
      let r = in_of_ahead other run n m (renumber g) i in
      let there = goes_here renumber back plan other is n g r.0 in
      inr (in-filter (λ k. is_less (local_stamp plan schedule k g) (final_stamp plan schedule m)) n (addressed_to plan g) (in-addressed plan n g there) (ahead_too n there r.1))

  delivers : deliver other run m (renumber g) ≤ deliver plan schedule m g
  delivers =
      let mine = used.delivery plan schedule well m g goes in
      let its = used.delivery other run well_too m (renumber g) (goes_there renumber back plan other is m g goes) in
      let most =
      greatest_most (λ n. settle other run n (renumber g)) (fold max 0 (map (λ n. settle plan schedule n g) (m ∷ ahead_of plan schedule m g))) (m ∷ ahead_of other run m (renumber g))
      (λ n i.
      let one = in_greatest (λ k. settle plan schedule k g) n (m ∷ ahead_of plan schedule m g) (awaited n i) in
      let settled = same.settles n g in
      omega arith) in
      omega arith

  no_later_there : latency_at other run m (renumber g) ≤ latency_at plan schedule m g
  unfolding latency_at
  no_later_there =
      let delivered = delivers in
      let issued = same.issues m in
      omega arith

pub fewer_no_later : Deliveries → FewerBehindIsNoLater
fewer_no_later used renumber back plan other schedule run m g well well_too is same goes fewer =
    no_later_there used renumber back plan other schedule run m g well well_too is same goes fewer

-- ---- the greatest latency
pub fewer_no_slower : RenumberedRunsAgree → FewerBehindIsNoLater → FewerBehindIsNoSlower
fewer_no_slower agree later renumber back plan other m g latency well well_too is goes fewer upper run given =
    let mine = agree renumber back plan other run well well_too is given in
    let low = later renumber back plan other mine.0 run m g well well_too is mine.2 goes fewer in
    let most = upper mine.0 mine.1 in
    omega arith

-- as many are behind the other way round
more_back : (renumber back : ℕ → ℕ) (plan other : Scenario) (m g : ℕ) → IsRenumbered renumber back plan other → AreSameBehind renumber plan m g
    → NoMoreAreBehind back other m (renumber g)
more_back renumber back plan other m g is behind h goes l =
    let mine = is.back_again g in
    let more = behind.no_fewer (back h) (goes_back renumber back plan other is m h goes) (omega arith) in
    let again = is.there_again h in
    omega arith

pub same_is_same : FewerBehindIsNoSlower → RenumberedRunsAgree → FewerBehindIsNoLater → SameBehindIsSame
same_is_same slower agree later renumber back plan other m g latency well well_too is goes behind greatest =
    let upper = slower renumber back plan other m g latency well well_too is goes behind.no_more greatest.upper in
    let turn = turned renumber back plan other is in
    let reached = greatest.reached in
    let there = agree back renumber other plan reached.0 well_too well turn reached.1 in
    let low = later back renumber other plan there.0 reached.0 m (renumber g) well_too well turn there.2
    (goes_there renumber back plan other is m g goes) (more_back renumber back plan other m g is behind) in
    let again : latency_at plan reached.0 m (back (renumber g)) ≡ latency_at plan reached.0 m g = ap (latency_at plan reached.0 m) (is.back_again g) in
    let most = upper there.0 there.1 in
    let is_it = reached.2 in
    record { reached = (there.0, there.1, omega arith); upper = upper }

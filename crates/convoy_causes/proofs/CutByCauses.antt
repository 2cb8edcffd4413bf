-- Windows that enclose a run in which messages follow their causes do so when they are cut by these.
use Rattle.std.proofs.Common.{◌≡◌, ℕ, ◌+◌, ◌-◌, ◌<◌, ◌≤◌, min, inl, inr, List, [], ◌∷◌, length, get_or, All, fold, map, reverse, refl, ap, arith}
use Rattle.std.proofs.lemmas.List.{get_or-reverse, length-reverse}
use Rattle.std.proofs.lemmas.List.Elements.{All-head, All-tail, Contains-get_or}
use Rattle.convoy_draft.specs.declared.limits.TheConstants.{GREATEST_UNTIL}
use Rattle.convoy_scenario.specs.Scenario.{Scenario, GoesTo, message_at}
use Rattle.convoy_scenario.specs.WellFormed.{IsScenario}
use Rattle.convoy_packets.specs.declared.packet.Packet.TheVariants.{Multicast}
use Rattle.convoy_packets.specs.Assignment.{Schedule, IsAssignment, delay_of}
use Rattle.convoy_sim.specs.Times.{issue, arrive, propose_arrive, settle}
use Rattle.convoy_sim.specs.Delivery.{deliver, latency_at}
use Rattle.convoy_sim.specs.ProtocolLaws.{DeliveredAfterCommit, LatencyIsNeverNegative, LatencyWithinFourDelays}
use Rattle.convoy_sim.proofs.Membership.{IsIn, greatest_most, in_greatest, in_of_contains}
use Rattle.convoy_sim.proofs.Addressed.{goes_from_in}
use Rattle.convoy_sim.proofs.Destinations.{issued_soon}
use Rattle.convoy_intervals.specs.Boxes.{root_of}
use Rattle.convoy_sure.specs.Windows.{EnclosesAll, Windows, tables_by, with_arrival, with_arrival_by, with_commit_by}
use Rattle.convoy_sure.specs.SureLaws.{CutsByArrivalEnclose, CutsByCommitEnclose, CutsEnclose, CutsForCommitEnclose}
use Rattle.convoy_sure.proofs.MemberDelays.{least_delay}
use Rattle.convoy_causes.specs.declared.cause.Cause.{Cause}
use Rattle.convoy_causes.specs.declared.event.Event.{Event}
use Rattle.convoy_causes.specs.declared.event.Event.TheVariants.{Issue, Arrival, Commit, Delivery}
use Rattle.convoy_causes.specs.Causes.{IsCause, IsFollowing, event_tick, tick_of_cause}
use Rattle.convoy_causes.specs.CauseWindows.{earliest_event, earliest_issue, latest_commit, latest_event, latest_issue, least_way, with_causes, with_effect_after, with_event_before, with_event_since, with_event_until, with_issue_since, with_issue_until, with_latest_commits}
use Rattle.convoy_causes.specs.CauseLaws.{CausesCut, DeliveriesCut, EffectsCut}

-- the laws on which this rests
pub record CutsHold : Type 0 where
  pub since : CutsEnclose
  pub until : CutsByArrivalEnclose
  pub commit_since : CutsForCommitEnclose
  pub commit_until : CutsByCommitEnclose
  pub after_commit : DeliveredAfterCommit
  pub four_delays : LatencyWithinFourDelays
  pub not_negative : LatencyIsNeverNegative

-- what each step keeps, all of them do
fold_keeps : {S X : Type 0} (P : S → Type 0) (Q : X → Type 0) (step : S → X → S) → ((s : S) (x : X) → Q x → P s → P (step s x))
    → (s : S) (xs : List X) → All Q xs → P s → P (fold step s xs)
fold_keeps P Q step each s [] all is = is
fold_keeps P Q step each s (x ∷ xs) all is = fold_keeps P Q step each (step s x) xs (All-tail Q x xs all) (each s x (All-head Q x xs all) is)

all_reversed : {X : Type 0} (Q : X → Type 0) (xs : List X) → All Q xs → All Q (reverse xs)
all_reversed Q xs all k d l =
    let within : k < length xs = simp length-reverse at l in
    rw (get_or-reverse xs k d within) (all (length xs - 1 - k) d (omega arith))

-- a number that is at most each of some is at most the least of them
least_most : {X : Type 0} (f : X → ℕ) (low start : ℕ) (xs : List X) → low ≤ start → ((x : X) → IsIn x xs → low ≤ f x) → low ≤ fold min start (map f xs)
least_most f low start [] first each = first
least_most f low start (x ∷ xs) first each =
    least_most f low (min start (f x)) xs (let here = each x (inl refl) in omega arith) (λ y i. each y (inr i))

module _ (laws : CutsHold) (scenario : Scenario) (schedule : Schedule) (well : IsScenario scenario) (given : IsAssignment scenario schedule) where
  abbrev Encloses : Windows → Type 0
  Encloses windows = EnclosesAll scenario schedule (tables_by windows)

  all_addressed : (m : ℕ) → All (GoesTo scenario m) (message_at scenario m).destinations
  all_addressed m k d l =
      let there = (message_at scenario m).destinations in
      goes_from_in scenario m (get_or there k d) (in_of_contains (get_or there k d) there (Contains-get_or there k d l))

  way_low : (m g : ℕ) → least_way scenario m g ≤ delay_of scenario schedule (Multicast m g)
  way_low m g = least_delay scenario (root_of scenario) schedule given.delays (Multicast m g)

  soon : (m : ℕ) → m < length scenario.multicasts → issue scenario schedule m ≤ GREATEST_UNTIL
  soon m known = issued_soon scenario well schedule given m known

  -- ---- issues
  earliest_low : (windows : Windows) (m : ℕ) → Encloses windows → earliest_issue scenario windows m ≤ issue scenario schedule m
  unfolding arrive
  earliest_low windows m enclosed =
      greatest_most (λ g. (tables_by windows).times.least_arrival m g - (tables_by windows).greatest_multicast m g) (issue scenario schedule m) (message_at scenario m).destinations
      (λ g i.
      let goes = goes_from_in scenario m g i in
      let low = enclosed.times.arrival_low m g goes in
      let high = enclosed.multicasts_high m g goes in
      omega arith)

  latest_high : (windows : Windows) (m : ℕ) → m < length scenario.multicasts → Encloses windows → issue scenario schedule m ≤ latest_issue scenario windows m
  unfolding arrive
  latest_high windows m known enclosed =
      least_most (λ g. (tables_by windows).times.greatest_arrival m g - least_way scenario m g) (issue scenario schedule m) GREATEST_UNTIL (message_at scenario m).destinations
      (soon m known)
      (λ g i.
      let goes = goes_from_in scenario m g i in
      let high = enclosed.times.arrival_high m g goes in
      let low = way_low m g in
      omega arith)

  pub issued_since : (m tick : ℕ) (windows : Windows) → tick ≤ issue scenario schedule m → Encloses windows → Encloses (with_issue_since scenario m tick windows)
  unfolding arrive
  issued_since m tick windows low enclosed =
      let from : ℕ = min GREATEST_UNTIL tick in
      fold_keeps Encloses (GoesTo scenario m) (λ cut g. with_arrival scenario cut m g (from + least_way scenario m g))
      (λ cut g goes is. laws.since scenario schedule cut m g (from + least_way scenario m g) well is goes (let way = way_low m g in omega arith))
      windows (message_at scenario m).destinations (all_addressed m) enclosed

  -- ---- commits
  commit_high : (windows : Windows) (m g : ℕ) → GoesTo scenario m g → Encloses windows → settle scenario schedule m g ≤ latest_commit scenario windows m g
  unfolding settle
  commit_high windows m g goes enclosed =
      let last : ℕ → ℕ = λ h. (tables_by windows).times.greatest_arrival m h + (tables_by windows).greatest_proposal m h g in
      greatest_most (propose_arrive scenario schedule m g) (latest_commit scenario windows m g) (message_at scenario m).destinations
      (λ h i.
      let there = goes_from_in scenario m h i in
      let most = in_greatest last h (message_at scenario m).destinations i in
      let come = enclosed.times.arrival_high m h there in
      let sent = enclosed.proposals_high m h g there goes in
      omega arith)

  committed_by : (m : ℕ) (windows : Windows) → Encloses windows → Encloses (with_latest_commits scenario m windows)
  committed_by m windows enclosed =
      fold_keeps Encloses (GoesTo scenario m) (λ cut g. with_commit_by scenario cut m g (latest_commit scenario cut m g))
      (λ cut g goes is. laws.commit_until scenario schedule cut m g (latest_commit scenario cut m g) well is goes (commit_high cut m g goes is))
      windows (message_at scenario m).destinations (all_addressed m) enclosed

  issued_until : (m tick : ℕ) (windows : Windows) → m < length scenario.multicasts → issue scenario schedule m ≤ tick → Encloses windows
      → Encloses (with_issue_until scenario m tick windows)
  unfolding arrive
  issued_until m tick windows known high enclosed =
      let by : ℕ = min GREATEST_UNTIL tick in
      let last : issue scenario schedule m ≤ by = let end = soon m known in omega arith in
      let step : Windows → ℕ → Windows = λ cut g. with_arrival_by scenario cut m g (by + (tables_by cut).greatest_multicast m g) in
      committed_by m (fold step windows (message_at scenario m).destinations)
      (fold_keeps Encloses (GoesTo scenario m) step
      (λ cut g goes is.
      laws.until scenario schedule cut m g (by + (tables_by cut).greatest_multicast m g) well is goes (let way = is.multicasts_high m g goes in omega arith))
      windows (message_at scenario m).destinations (all_addressed m) enclosed)

  -- ---- events
  event_since : (event : Event) (x g tick : ℕ) (windows : Windows) → GoesTo scenario x g → tick ≤ event_tick scenario schedule event x g → Encloses windows
      → Encloses (with_event_since scenario event x g tick windows)
  event_since Issue x g tick windows goes low enclosed = issued_since x tick windows low enclosed
  event_since Arrival x g tick windows goes low enclosed = laws.since scenario schedule windows x g tick well enclosed goes low
  event_since Commit x g tick windows goes low enclosed = laws.commit_since scenario schedule windows x g tick well enclosed goes low
  event_since Delivery x g tick windows goes low enclosed = enclosed

  event_until : (event : Event) (x g tick : ℕ) (windows : Windows) → x < length scenario.multicasts → GoesTo scenario x g
      → event_tick scenario schedule event x g ≤ tick → Encloses windows → Encloses (with_event_until scenario event x g tick windows)
  event_until Issue x g tick windows known goes high enclosed = issued_until x tick windows known high enclosed
  event_until Arrival x g tick windows known goes high enclosed =
      committed_by x (with_arrival_by scenario windows x g tick) (laws.until scenario schedule windows x g tick well enclosed goes high)
  event_until Commit x g tick windows known goes high enclosed =
      committed_by x (with_commit_by scenario windows x g tick) (laws.commit_until scenario schedule windows x g tick well enclosed goes high)
  event_until Delivery x g tick windows known goes high enclosed =
      committed_by x (with_commit_by scenario windows x g tick)
      (laws.commit_until scenario schedule windows x g tick well enclosed goes (let after = laws.after_commit scenario schedule well x g goes in omega arith))

  event_low : (event : Event) (x g : ℕ) (windows : Windows) → GoesTo scenario x g → Encloses windows
      → earliest_event scenario windows event x g ≤ event_tick scenario schedule event x g
  event_low Issue x g windows goes enclosed = earliest_low windows x enclosed
  event_low Arrival x g windows goes enclosed = enclosed.times.arrival_low x g goes
  event_low Commit x g windows goes enclosed = enclosed.times.settling_low x g goes
  event_low Delivery x g windows goes enclosed =
      let low = enclosed.times.settling_low x g goes in
      let after = laws.after_commit scenario schedule well x g goes in
      omega arith

  event_high : (event : Event) (x g : ℕ) (windows : Windows) → x < length scenario.multicasts → GoesTo scenario x g → Encloses windows
      → event_tick scenario schedule event x g ≤ latest_event scenario windows event x g
  unfolding latency_at
  event_high Issue x g windows known goes enclosed = latest_high windows x known enclosed
  event_high Arrival x g windows known goes enclosed = enclosed.times.arrival_high x g goes
  event_high Commit x g windows known goes enclosed = enclosed.times.settling_high x g goes
  event_high Delivery x g windows known goes enclosed =
      let last = latest_high windows x known enclosed in
      let within = laws.four_delays scenario schedule well given x g goes in
      let after = laws.not_negative scenario schedule well x g goes in
      omega arith

  -- ---- a cause
  before_encloses : (cause : Cause) (windows : Windows) → IsCause scenario cause → IsFollowing scenario schedule cause → Encloses windows
      → Encloses (with_event_before scenario cause windows)
  before_encloses cause windows is follows enclosed =
      let first = earliest_low windows cause.effect enclosed in
      let last = latest_high windows cause.effect is.effect enclosed in
      let soonest = follows.soonest in
      let latest = follows.latest in
      event_until cause.event cause.message cause.group (latest_issue scenario windows cause.effect - cause.least)
      (with_event_since scenario cause.event cause.message cause.group (earliest_issue scenario windows cause.effect - cause.most) windows)
      is.message is.addressed (omega arith)
      (event_since cause.event cause.message cause.group (earliest_issue scenario windows cause.effect - cause.most) windows is.addressed (omega arith) enclosed)

  after_encloses : (cause : Cause) (windows : Windows) → IsCause scenario cause → IsFollowing scenario schedule cause → Encloses windows
      → Encloses (with_effect_after scenario cause windows)
  after_encloses cause windows is follows enclosed =
      let first = event_low cause.event cause.message cause.group windows is.addressed enclosed in
      let last = event_high cause.event cause.message cause.group windows is.message is.addressed enclosed in
      let soonest = follows.soonest in
      let latest = follows.latest in
      issued_until cause.effect (latest_event scenario windows cause.event cause.message cause.group + cause.most)
      (with_issue_since scenario cause.effect (earliest_event scenario windows cause.event cause.message cause.group + cause.least) windows)
      is.effect (omega arith)
      (issued_since cause.effect (earliest_event scenario windows cause.event cause.message cause.group + cause.least) windows (omega arith) enclosed)

  -- a cause of the scenario that the message follows
  abbrev IsFollowed : Cause → Type 0
  IsFollowed cause = IsCause scenario cause × IsFollowing scenario schedule cause

  causes_enclose : (causes : List Cause) (windows : Windows) → All (IsCause scenario) causes → All (IsFollowing scenario schedule) causes → Encloses windows
      → Encloses (with_causes scenario causes windows)
  causes_enclose causes windows are follow enclosed =
      let both : All IsFollowed causes = λ k d l. (are k d l, follow k d l) in
      fold_keeps Encloses IsFollowed (λ cut cause. with_effect_after scenario cause cut) (λ cut cause is enc. after_encloses cause cut is.0 is.1 enc)
      (fold (λ cut cause. with_event_before scenario cause cut) windows (reverse causes)) causes both
      (fold_keeps Encloses IsFollowed (λ cut cause. with_event_before scenario cause cut) (λ cut cause is enc. before_encloses cause cut is.0 is.1 enc)
      windows (reverse causes) (all_reversed IsFollowed causes both) enclosed)

pub causes_cut : CutsHold → CausesCut
causes_cut laws scenario schedule causes windows well are is enclosed =
    causes_enclose laws scenario schedule well is.assignment causes windows are is.following enclosed

pub effects_cut : CutsHold → EffectsCut
effects_cut laws scenario causes cause windows well is follows enclose schedule caused =
    after_encloses laws scenario schedule well caused.assignment cause windows is (follows schedule caused) (enclose schedule caused)

pub deliveries_cut : CutsHold → DeliveriesCut
deliveries_cut laws scenario causes cause windows tick well is follows delivery by enclose schedule caused =
    let event : tick_of_cause scenario schedule cause ≡ deliver scenario schedule cause.message cause.group =
    ap (λ (e : Event). event_tick scenario schedule e cause.message cause.group) delivery in
    let latest = (follows schedule caused).latest in
    let last = by schedule caused in
    issued_until laws scenario schedule well caused.assignment cause.effect (tick + cause.most) windows is.effect (omega arith) (enclose schedule caused)

-- The laws of stamps in a scenario: how local and final stamps stand to arrivals and commits.
use Rattle.std.proofs.Common.{◌≡◌, ℕ, ◌<◌, ◌≤◌, true, inl, inr, List, [], ◌∷◌, length, get_or, refl, sym, ap, subst, subst₂, ◌∙◌, arith}
use Rattle.std.proofs.lemmas.Bool.{cases_Bool, cases_lt, both_ways}
use Rattle.convoy_scenario.specs.Scenario.{Scenario, message_at}
use Rattle.convoy_packets.specs.Assignment.{Schedule}
use Rattle.convoy_sim.specs.declared.moment.Moment.{Moment}
use Rattle.convoy_sim.specs.declared.moment.MomentKind.TheVariants.{Arrival}
use Rattle.convoy_sim.specs.Times.{arrive, settle}
use Rattle.convoy_sim.specs.Moments.{arrival_of, commit_of, commit_rank, is_before, moments_of}
use Rattle.convoy_sim.specs.Stamps.{is_less, first_clocks, clocks_of, local_stamp, final_stamp}
use Rattle.convoy_sim.specs.Traffic.{IsTraffic}
use Rattle.convoy_sim.specs.ProtocolLaws.{EarlierArrivesBeforeCommit, StampsRise, StampsRisePastCommit, LocalStampNamesGroup, NoLocalStampIsGreater, FinalStampIsLocal, FinalStampsDiffer, FinalStampsAreOrdered}
use Rattle.convoy_scenario.specs.Scenario.{GoesTo}
use Rattle.convoy_sim.proofs.Membership.{IsIn}
use Rattle.convoy_sim.proofs.MomentsOrder.{before_by_tick, before_one_way, coming_before_commit, not_less_by_time, before_total, same_from_not_less}
use Rattle.convoy_sim.proofs.Runs.{comings_rise, commit_rises, greatest_is_local, local_not_over, local_of_coming}
use Rattle.convoy_sim.proofs.Addressed.{goes_from_in}
use Rattle.convoy_sim.proofs.ScenarioMoments.{arrive_settle, arrival_rank_commit, coming_in, commit_in, coming_is, moments_run, moments_once, multicast_at, traffic_of}

-- all arrivals of a message stand before each of its commits
pub comings_before_commit : (plan : Scenario) (schedule : Schedule) (m g : ℕ) (d : Moment) → IsIn d (moments_of plan schedule)
    → d.kind ≡ Arrival → d.message ≡ m → is_before d (commit_of plan schedule m g) ≡ true
comings_before_commit plan schedule m g d i k e =
    let r = coming_is plan schedule d i k in
    coming_before_commit d (commit_of plan schedule m g)
    (subst₂ (λ n t. t ≤ settle plan schedule n g) e (sym (ap (λ c. c.tick) r.0)) (arrive_settle plan schedule d.message g d.group r.1))
    (subst₂ (λ n (c : Moment). c.tick ≡ settle plan schedule n g → c.rank ≤ commit_rank plan schedule n g) e (sym r.0)
    (arrival_rank_commit plan schedule d.message g d.group r.1))
    k refl

-- no message is committed at a group before it arrives there
pub own_commit_first : (plan : Scenario) (schedule : Schedule) (m g : ℕ) → GoesTo plan m g
    → is_before (commit_of plan schedule m g) (arrival_of plan schedule m g) ≡ true → ⊥
own_commit_first plan schedule m g h b =
    both_ways (is_before (commit_of plan schedule m g) (arrival_of plan schedule m g))
    (before_one_way (arrival_of plan schedule m g) (commit_of plan schedule m g)
    (comings_before_commit plan schedule m g (arrival_of plan schedule m g) (coming_in plan schedule m g h) refl refl)) b

-- of two messages that come to one group, the one that comes first has the lesser time there
pub rises : StampsRise
unfolding local_stamp clocks_of
rises plan schedule well n z g hn hz h =
    comings_rise (first_clocks plan) (moments_of plan schedule) (moments_run plan (traffic_of plan well) schedule)
    (arrival_of plan schedule n g) (arrival_of plan schedule z g) (coming_in plan schedule n g hn) (coming_in plan schedule z g hz)
    refl refl refl h

-- a message that arrives at a group behind the commit of another there has a greater time than the final stamp of that
past_commit : (plan : Scenario) (schedule : Schedule) → IsTraffic plan → (q z g : ℕ) → GoesTo plan q g → GoesTo plan z g
    → is_before (commit_of plan schedule q g) (arrival_of plan schedule z g) ≡ true
    → (final_stamp plan schedule q).time < (local_stamp plan schedule z g).time
unfolding local_stamp final_stamp clocks_of
past_commit plan schedule traffic q z g hq hz h =
    commit_rises (first_clocks plan) (moments_of plan schedule) (moments_run plan traffic schedule)
    (commit_of plan schedule q g) (arrival_of plan schedule z g) (commit_in plan schedule q g hq) (coming_in plan schedule z g hz)
    refl refl refl h (comings_before_commit plan schedule q g)

pub rises_past : StampsRisePastCommit
rises_past plan schedule well = past_commit plan schedule (traffic_of plan well)

-- a message that is ahead of another at a group arrives there no later than that is committed there
pub ahead_arrives : (plan : Scenario) (schedule : Schedule) → IsTraffic plan → (n m g : ℕ) → GoesTo plan n g → GoesTo plan m g
    → is_less (local_stamp plan schedule n g) (final_stamp plan schedule m) ≡ true
    → arrive plan schedule n g ≤ settle plan schedule m g
ahead_arrives plan schedule traffic n m g hn hm h = elim (cases_lt (settle plan schedule m g) (arrive plan schedule n g)) [
  | inl l ↦ absurd (
      let past = past_commit plan schedule traffic m n g hm hn (before_by_tick (commit_of plan schedule m g) (arrival_of plan schedule n g) l) in
      both_ways _ (not_less_by_time (local_stamp plan schedule n g) (final_stamp plan schedule m) past) h)
  | inr l ↦ l
]

pub earlier_arrives : EarlierArrivesBeforeCommit
earlier_arrives plan schedule well = ahead_arrives plan schedule (traffic_of plan well)

-- ---- final stamps
-- each message goes somewhere
pub destination_of : (plan : Scenario) → IsTraffic plan → (m : ℕ) → m < length plan.multicasts → (g : ℕ) × GoesTo plan m g
destination_of plan traffic m l =
    let some = (multicast_at plan traffic m l).destinations in
    let first : ℕ = get_or (message_at plan m).destinations 0 0 in
    (first, goes_from_in plan m first (first_in (message_at plan m).destinations some)) where
      first_in : (xs : List ℕ) → 0 < length xs → IsIn (get_or xs 0 0) xs
      first_in [] h = absurd (omega arith)
      first_in (x ∷ xs) h = inl refl

pub local_names : LocalStampNamesGroup
unfolding local_stamp clocks_of
local_names plan schedule well m g h =
    let l = local_of_coming (first_clocks plan) (moments_of plan schedule) (arrival_of plan schedule m g) (coming_in plan schedule m g h) refl in
    ap (λ t. t.group) l.4 ∙ l.3

pub not_greater : NoLocalStampIsGreater
unfolding local_stamp final_stamp clocks_of
not_greater plan schedule well m g h =
    local_not_over (first_clocks plan) (moments_of plan schedule) (arrival_of plan schedule m g) (coming_in plan schedule m g h) refl

final_at : (plan : Scenario) (schedule : Schedule) → IsTraffic plan → (m : ℕ) → m < length plan.multicasts
    → (g : ℕ) × GoesTo plan m g × (local_stamp plan schedule m g ≡ final_stamp plan schedule m) × ((final_stamp plan schedule m).group ≡ g)
unfolding local_stamp final_stamp clocks_of
final_at plan schedule traffic m l =
    let to = destination_of plan traffic m l in
    let r = greatest_is_local (first_clocks plan) (moments_of plan schedule) (moments_run plan traffic schedule) (moments_once plan traffic schedule)
    (arrival_of plan schedule m to.0) (coming_in plan schedule m to.0 to.1) refl in
    (r.0.group, subst (λ n. GoesTo plan n r.0.group) r.3 (coming_is plan schedule r.0 r.1 r.2).1, r.4, r.5)

pub final_is_local : FinalStampIsLocal
final_is_local plan schedule well m l = let r = final_at plan schedule (traffic_of plan well) m l in (r.0, r.1, r.2)

pub finals_differ : FinalStampsDiffer
finals_differ plan schedule well m n lm ln differ same =
    let a = final_at plan schedule (traffic_of plan well) m lm in
    let b = final_at plan schedule (traffic_of plan well) n ln in
    let g : ℕ = a.0 in
    let here : b.0 ≡ g = sym b.3 ∙ (ap (λ t. t.group) (sym same) ∙ a.3) in
    let goes : GoesTo plan n g = subst (GoesTo plan n) here b.1 in
    let stamps : local_stamp plan schedule m g ≡ local_stamp plan schedule n g =
    a.2 ∙ (same ∙ (sym b.2 ∙ ap (local_stamp plan schedule n) here)) in
    let times : (local_stamp plan schedule m g).time ≡ (local_stamp plan schedule n g).time = ap (λ t. t.time) stamps in
    let p : Moment = arrival_of plan schedule m g in
    let q : Moment = arrival_of plan schedule n g in
    elim (cases_Bool (is_before p q)) [
      | inl e ↦ let up = rises plan schedule well m n g a.1 goes e in absurd (omega arith)
      | inr e ↦ elim (cases_Bool (is_before q p)) [
        | inl f ↦ let up = rises plan schedule well n m g goes a.1 f in absurd (omega arith)
        | inr f ↦ differ (before_total p q e f).3
      ]
    ]

pub finals_ordered : FinalStampsAreOrdered
finals_ordered plan schedule well m n lm ln differ =
    let a = final_stamp plan schedule m in
    let b = final_stamp plan schedule n in
    elim (cases_Bool (is_less a b)) [
      | inl e ↦ inl e
      | inr e ↦ elim (cases_Bool (is_less b a)) [
        | inl f ↦ inr f
        | inr f ↦ absurd (finals_differ plan schedule well m n lm ln differ (same_from_not_less a b e f))
      ]
    ]

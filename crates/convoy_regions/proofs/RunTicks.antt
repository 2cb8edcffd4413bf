-- In an assignment a message arrives at another group a tick or more before it is committed, so that the rank of its commit is its own where it is no less than that of its arrival there.
use Rattle.std.proofs.Common.{◌≡◌, ℕ, ◌<◌, ◌≤◌, max, Bool, ◌==◌, ◌&&◌, not, inl, inr, List, [], ◌∷◌, length, find, Option, All, map, fold, sym, ap, subst, ◌∙◌, arith}
use Rattle.std.specs.Option.{option_map_or}
use Rattle.std.proofs.lemmas.Bool.{cases_Bool, cases_eq, cond-true, cond-false, and_from, ne_eqb}
use Rattle.std.proofs.lemmas.List.Elements.{All-head, All-tail, All-weaker}
use Rattle.convoy_draft.specs.declared.time.Time.TheVariants.{Real}
use Rattle.convoy_scenario.specs.declared.sender.Sender.{Sender}
use Rattle.convoy_scenario.specs.declared.sender.Sender.TheVariants.{Group}
use Rattle.convoy_packets.proofs.Sent.{other_stamp_takes}
use Rattle.convoy_scenario.specs.Scenario.{GoesTo, Link, Scenario, message_at, range_between, is_same_sender, is_addressed, stamp_takes_time}
use Rattle.convoy_scenario.specs.WellFormed.{IsLink, IsScenario}
use Rattle.convoy_packets.specs.declared.packet.Packet.TheVariants.{Propose}
use Rattle.convoy_packets.specs.Assignment.{IsAssignment, Schedule}
use Rattle.convoy_packets.specs.Order.{rank_at}
use Rattle.convoy_packets.specs.ScheduleLaws.{DelaysAreWithin}
use Rattle.convoy_sim.specs.Times.{arrive, propose_arrive, settle}
use Rattle.convoy_sim.specs.Moments.{arrival_rank, commit_rank, rank_in, rank_then}
use Rattle.convoy_regions.proofs.Lists.{greatest_is_first, no_greater}

-- the least and the greatest delay by a link, or without one
by_link : Option Link → ℕ → ℕ × ℕ
by_link found most = option_map_or (λ link. (link.least, link.most)) found (1, most)

-- what is sent from the one to the other takes a tick or more
low_between : (test : Link → Bool) (links : List Link) (most : ℕ) → All (λ link. 1 ≤ link.least) links → 1 ≤ (by_link (find test links) most).0
unfolding by_link
low_between test [] most low = omega arith
low_between test (link ∷ links) most low = elim (cases_Bool (test link)) [
  | inl e ↦
      subst (λ found. 1 ≤ (by_link found most).0) (sym (cond-true (test link) _ _ e))
      (All-head (λ l. 1 ≤ l.least) link links low)
  | inr e ↦
      subst (λ found. 1 ≤ (by_link found most).0) (sym (cond-false (test link) _ _ e))
      (low_between test links most (All-tail (λ l. 1 ≤ l.least) link links low))
]

sent_low : (plan : Scenario) → IsScenario plan → (sender : Sender) (to : ℕ) → 1 ≤ (range_between plan sender to).0
unfolding by_link
sent_low plan well sender to =
    low_between (λ link. is_same_sender sender link.sender && (to == link.to)) plan.links plan.delay
    (All-weaker (IsLink (length plan.groups) (length plan.places) plan.delay) (λ link. 1 ≤ link.least) (λ link is. is.low) plan.links well.links)

module _ (law : DelaysAreWithin) (plan : Scenario) (schedule : Schedule) (well : IsScenario plan) (assigned : IsAssignment plan schedule) where
  arrives_sooner : (m g h : ℕ) → GoesTo plan m g → GoesTo plan m h → (h ≡ g → ⊥) → arrive plan schedule m h < settle plan schedule m g
  unfolding settle
  arrives_sooner m g h here there apart =
      let sent = and_from (is_addressed (message_at plan m) h && is_addressed (message_at plan m) g) (stamp_takes_time plan h g)
      (and_from (is_addressed (message_at plan m) h) (is_addressed (message_at plan m) g) there here) (other_stamp_takes plan h g (ne_eqb h g apart)) in
      let within = law plan schedule (Propose m h g) assigned sent in
      let low = sent_low plan well (Group h) g in
      let last = no_greater (propose_arrive plan schedule m g) h (message_at plan m).destinations there in
      omega (arith, within.0)

  -- the rank of a commit is its own
  pub commit_rank_is : (m g : ℕ) → GoesTo plan m g → plan.time ≡ Real → arrival_rank plan schedule m g ≤ rank_at schedule.order.commits m g → commit_rank plan schedule m g ≡ rank_at schedule.order.commits m g
  unfolding commit_rank
  commit_rank_is m g goes real low =
      let own : ℕ = rank_at schedule.order.commits m g in
      let f : ℕ → ℕ = rank_then plan schedule m (settle plan schedule m g) in
      let first : max 0 (rank_in plan.time own) ≡ own = ap (λ t. max 0 (rank_in t own)) real ∙ none own in
      ap (λ k. fold max k (map f (message_at plan m).destinations)) first
      ∙ greatest_is_first f own (message_at plan m).destinations (λ h there. then_low h there) where
        none : (k : ℕ) → max 0 k ≡ k
        none k = omega arith

        then_low : (h : ℕ) → GoesTo plan m h → rank_then plan schedule m (settle plan schedule m g) h ≤ rank_at schedule.order.commits m g
        then_low h there = elim (cases_eq h g) [
          | inl e ↦ elim (cases_Bool (arrive plan schedule m h == settle plan schedule m g)) [
            | inl t ↦
                let is : rank_then plan schedule m (settle plan schedule m g) h ≡ arrival_rank plan schedule m h = cond-true (arrive plan schedule m h == settle plan schedule m g) _ _ t in
                let same : arrival_rank plan schedule m h ≡ arrival_rank plan schedule m g = ap (arrival_rank plan schedule m) e in
                omega arith
            | inr t ↦
                let is : rank_then plan schedule m (settle plan schedule m g) h ≡ 0 = cond-false (arrive plan schedule m h == settle plan schedule m g) _ _ t in
                omega arith
          ]
          | inr d ↦
              let sooner = arrives_sooner m g h goes there d in
              let is : rank_then plan schedule m (settle plan schedule m g) h ≡ 0 =
              cond-false (arrive plan schedule m h == settle plan schedule m g) _ _ (ne_eqb (arrive plan schedule m h) (settle plan schedule m g) (λ e. absurd (omega arith))) in
              omega arith
        ]

  -- the rank of an arrival is its own
  pub arrival_rank_is : (m g : ℕ) → plan.time ≡ Real → arrival_rank plan schedule m g ≡ rank_at schedule.order.arrivals m g
  unfolding arrival_rank
  arrival_rank_is m g real = ap (λ t. rank_in t (rank_at schedule.order.arrivals m g)) real

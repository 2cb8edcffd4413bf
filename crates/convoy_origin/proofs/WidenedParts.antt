-- What a widened scenario has in common with the scenario, and when its messages may be issued.
use Rattle.std.proofs.Common.{◌≡◌, ◌≢◌, ℕ, zero, suc, ◌+◌, ◌<◌, ◌≤◌, ◌==◌, ◌&&◌, not, false, true, inl, inr, List, [], ◌∷◌, length, get_or, map, refl, sym, ap, ap₂, ◌∙◌, arith}
use Rattle.std.specs.List.{list_any, enumerate_from}
use Rattle.std.proofs.lemmas.Bool.{cases_lt, cases_eq, cond-true, cond-false, eq-eqb, ltb-true, ne_eqb}
use Rattle.std.proofs.lemmas.List.{get_or_past}
use Rattle.convoy_scenario.specs.declared.sender.Sender.{Sender}
use Rattle.convoy_scenario.specs.declared.sender.Sender.TheVariants.{Group}
use Rattle.convoy_scenario.specs.Scenario.{Message, Scenario, TakeTimeAlike, no_message, message_at, is_addressed, takes_time, may_wait, range_between}
use Rattle.convoy_packets.specs.declared.packet.Packet.{Packet}
use Rattle.convoy_packets.specs.declared.packet.Packet.TheVariants.{Wait, Multicast, Propose}
use Rattle.convoy_packets.specs.Packets.{is_wait}
use Rattle.convoy_packets.specs.Assignment.{range_of}
use Rattle.convoy_packets.specs.ScheduleLaws.{is_sent}
use Rattle.convoy_origin.specs.Later.{AreAlike}
use Rattle.convoy_scenario.specs.Widened.{target_wait, widened_message, widened}
use Rattle.convoy_scenario.proofs.WidenedLemmas.{at_end, many, message_is, message_past, same_destinations, still, waits_longer}

-- ---- the widened scenario beside the scenario
sender_stays : (wait t m : ℕ) (x : Message) → (widened_message wait t m x).sender ≡ x.sender
sender_stays wait t m x = elim (cases_eq m t) [
  | inl e ↦ ap (λ (y : Message). y.sender) (at_end wait t m x e)
  | inr d ↦ ap (λ (y : Message). y.sender) (waits_longer wait t m x d)
]

-- what the widened scenario says, beside the scenario
pub record IsWidened (plan wide : Scenario) : Type 0 where
  pub alike : AreAlike plan wide
  pub senders : (m : ℕ) → (message_at wide m).sender ≡ (message_at plan m).sender
  pub takes : TakeTimeAlike plan wide
  pub ranges : (p : Packet) → is_wait p ≡ false → range_of wide p ≡ range_of plan p
  pub target_at : plan.target_message < length plan.multicasts
      → (message_at wide plan.target_message).at ≡ (message_at plan plan.target_message).at + target_wait plan
  pub target_fixed : (message_at wide plan.target_message).longest_wait ≡ 0
  pub other_at : (m : ℕ) → m ≢ plan.target_message → (message_at wide m).at ≡ (message_at plan m).at
  pub other_wait : (m : ℕ) → m ≢ plan.target_message → m < length plan.multicasts
      → (message_at wide m).longest_wait ≡ (message_at plan m).longest_wait + target_wait plan
  pub past : (m : ℕ) → length plan.multicasts ≤ m → (message_at wide m).longest_wait ≡ 0
  pub target_message : wide.target_message ≡ plan.target_message
  pub target_group : wide.target_group ≡ plan.target_group

module _ (plan : Scenario) where
  abbrev wait : ℕ
  wait = target_wait plan

  abbrev target : ℕ
  target = plan.target_message

  same_senders : (m : ℕ) → (message_at (widened plan) m).sender ≡ (message_at plan m).sender
  same_senders m = elim (cases_lt m (length plan.multicasts)) [
    | inl l ↦ ap (λ (y : Message). y.sender) (message_is plan m l) ∙ sender_stays wait target m (message_at plan m)
    | inr l ↦ ap (λ (y : Message). y.sender) (message_past plan m l ∙ sym (get_or_past plan.multicasts m no_message l))
  ]

  at_stays : (m : ℕ) → m ≢ target → (message_at (widened plan) m).at ≡ (message_at plan m).at
  at_stays m d = elim (cases_lt m (length plan.multicasts)) [
    | inl l ↦ ap (λ (y : Message). y.at) (message_is plan m l ∙ waits_longer wait target m (message_at plan m) d)
    | inr l ↦ ap (λ (y : Message). y.at) (message_past plan m l ∙ sym (get_or_past plan.multicasts m no_message l))
  ]

  alike : AreAlike plan (widened plan)
  unfolding widened
  alike = record {
    time = refl;
    groups = refl;
    count = many plan;
    destinations = same_destinations plan;
  }

  between_stays : (sender : Sender) (g : ℕ) → range_between (widened plan) sender g ≡ range_between plan sender g
  unfolding widened
  between_stays sender g = refl

  takes_stay : TakeTimeAlike plan (widened plan)
  unfolding widened
  takes_stay = record { messages = λ sender g. refl; stamps = λ from to. refl }

  ranges_stay : (p : Packet) → is_wait p ≡ false → range_of (widened plan) p ≡ range_of plan p
  ranges_stay (Wait m) travels = absurd (let no : true ≡ false = travels in cc)
  ranges_stay (Multicast m g) travels = ap (λ s. range_between (widened plan) s g) (same_senders m) ∙ between_stays (message_at plan m).sender g
  ranges_stay (Propose m h g) travels = between_stays (Group h) g

  target_stays : (widened plan).target_message ≡ plan.target_message
  unfolding widened
  target_stays = refl

  group_stays : (widened plan).target_group ≡ plan.target_group
  unfolding widened
  group_stays = refl

  pub is_widened : IsWidened plan (widened plan)
  is_widened = record {
    alike = alike;
    senders = same_senders;
    takes = takes_stay;
    ranges = ranges_stay;
    target_at = λ l. ap (λ (y : Message). y.at) (message_is plan target l ∙ at_end wait target target (message_at plan target) refl);
    target_fixed = still plan;
    other_at = at_stays;
    other_wait = λ m d l. ap (λ (y : Message). y.longest_wait) (message_is plan m l ∙ waits_longer wait target m (message_at plan m) d);
    past = λ m l. ap (λ (y : Message). y.longest_wait) (message_past plan m l);
    target_message = target_stays;
    target_group = group_stays;
  }

-- ---- the packets that travel are the same
module _ (plan wide : Scenario) (is : IsWidened plan wide) where
  pub same_addressed : (m g : ℕ) → is_addressed (message_at wide m) g ≡ is_addressed (message_at plan m) g
  same_addressed m g = ap (λ hs. list_any (λ h. h == g) hs) (is.alike.destinations m)

  pub same_sent : (p : Packet) → is_wait p ≡ false → is_sent wide p ≡ is_sent plan p
  same_sent (Wait m) travels = absurd (let no : true ≡ false = travels in cc)
  same_sent (Multicast m g) travels =
      ap₂ (λ a b. a && b) (same_addressed m g) (is.takes.messages (message_at wide m).sender g ∙ ap (λ (s : Sender). takes_time plan s g) (is.senders m))
  same_sent (Propose m h g) travels = ap₂ (λ a b. a && b) (ap₂ (λ a b. a && b) (same_addressed m h) (same_addressed m g)) (is.takes.stamps h g)

  -- a message that waits in the widened scenario is one of its messages, and not the target
  pub waits_there : (m : ℕ) → may_wait (message_at wide m) ≡ true → (m ≢ plan.target_message) × (m < length plan.multicasts)
  waits_there m waits =
      let long = ltb-true 0 (message_at wide m).longest_wait waits in (
        λ e. let none : (message_at wide m).longest_wait ≡ 0 = ap (λ n. (message_at wide n).longest_wait) e ∙ is.target_fixed in omega arith,
        elim (cases_lt m (length plan.multicasts)) [ inl l ↦ l | inr l ↦ absurd (let none = is.past m l in omega arith) ],
      )

-- In real time a compressed scenario that is within the limits is well formed.
use Rattle.std.proofs.Common.{◌≡◌, ℕ, ◌+◌, ◌-◌, ◌/◌, ◌<◌, ◌≤◌, ◌==◌, max, min, nat_le, Bool, true, false, ◌&&◌, not, inl, inr, List, [], ◌∷◌, Option, Some, None, length, get_or, map, option_map, refl, sym, ap, ap₂, subst, ◌∙◌, arith}
use Rattle.std.specs.List.{All, AllByRecursion, IsDistinct, list_all, list_any}
use Rattle.std.specs.Str.{bytes_eq}
use Rattle.std.proofs.Math.Nat.{div-le_self}
use Rattle.std.proofs.lemmas.Bool.{and_from, and_parts, cases_Bool, eq-eqb, eqb-true, leb-true, not_from_false}
use Rattle.std.proofs.lemmas.List.{get_or-map, length-map}
use Rattle.std.proofs.lemmas.List.Elements.{All-get_or, All-from_get_or, All-map}
use Rattle.std.proofs.lemmas.List.Sums.{AllPass-from_list_all}
use Rattle.convoy_draft.specs.declared.limits.TheConstants.{GREATEST_DELAY, LONGEST_WAIT, MOST_MULTICASTS}
use Rattle.convoy_draft.specs.declared.time.Time.TheVariants.{Real}
use Rattle.convoy_scenario.specs.declared.sender.Sender.TheVariants.{Group}
use Rattle.convoy_scenario.proofs.RoomLemmas.{room_told}
use Rattle.convoy_scenario.specs.Room.{has_room}
use Rattle.convoy_scenario.specs.Scenario.{Link, Message, Scenario, is_same_sender, message_at, no_message}
use Rattle.convoy_scenario.specs.WellFormed.{IsLink, IsMulticast, IsScenario, ascend_after, follows, is_whole}
use Rattle.convoy_outage_runs.specs.Compressed.{compressed, compressed_link, compressed_span, is_within_limits, message_saved, saved_ticks}
use Rattle.convoy_outage_runs.specs.OutageRunLaws.{CompressedIsScenario}

-- ---- links
module _ (factor span : ℕ) (some : 1 ≤ factor) where
  -- what D is where outages are compressed
  abbrev grown : ℕ → ℕ
  grown delay = delay + compressed_span factor span + min (factor - 1) 1

  least_within : (least : ℕ) → 1 ≤ least → (1 ≤ max 1 (least / factor)) × (max 1 (least / factor) ≤ least)
  least_within least low = let part = div-le_self least factor in (omega arith, omega (arith, part, low))

  -- a link with the whole of the greater range had the whole of its own
  whole_before : (delay : ℕ) (link : Link) → 1 ≤ link.least → link.most ≤ delay → is_whole (grown delay) (compressed_link factor span link) ≡ true → is_whole delay link ≡ true
  whole_before delay link low high whole =
      let outer = and_parts ((max 1 (link.least / factor) == 1) && (link.most + compressed_span factor span == grown delay)) (not (is_same_sender link.sender (Group link.to))) whole in
      let inner = and_parts (max 1 (link.least / factor) == 1) (link.most + compressed_span factor span == grown delay) outer.0 in
      let same_least = eqb-true _ _ inner.0 in
      let same_most = eqb-true _ _ inner.1 in
      let one : factor ≡ 1 = omega (arith, some, high, same_most) in
      let all : link.least / factor ≡ link.least = ap (λ n. link.least / n) one ∙ omega arith in
      and_from _ _ (and_from _ _ (eq-eqb link.least 1 (omega (arith, low, same_least, all))) (eq-eqb link.most delay (omega (arith, one, same_most)))) outer.1

  pub link_formed : (groups places delay : ℕ) (link : Link) → IsLink groups places delay link → IsLink groups places (grown delay) (compressed_link factor span link)
  link_formed groups places delay link is =
      let least = least_within link.least is.low in
      record {
        sender = is.sender;
        to = is.to;
        low = least.0;
        ordered = let ordered = is.ordered in omega (arith, least.1, ordered);
        high = let high = is.high in omega (arith, high);
        partial = elim (cases_Bool (is_whole (grown delay) (compressed_link factor span link))) [
          | inl whole ↦ let before = whole_before delay link is.low is.high whole in absurd cc
          | inr none ↦ not_from_false _ none
        ];
        stamps = is.stamps;
      }

  -- links keep their places, and so their order
  pub ascend : (before : Option Link) (links : List Link) → ascend_after (option_map (compressed_link factor span) before) (map (compressed_link factor span) links) ≡ ascend_after before links
  ascend before [] = refl
  ascend before (link ∷ links) = ap₂ ◌&&◌ (follow before) (ascend (Some link) links) where
    follow : (o : Option Link) → follows (option_map (compressed_link factor span) o) (compressed_link factor span link) ≡ follows o link
    follow None = refl
    follow (Some other) = refl

-- ---- messages
others_differ : (saved : ℕ) (target : Message) (xs : List Message) (name : List ℕ)
    → AllByRecursion (λ z. bytes_eq name z.name ≡ false) xs → AllByRecursion (λ z. bytes_eq name z.name ≡ false) (map (message_saved saved target) xs)
others_differ saved target [] name h = tt
others_differ saved target (z ∷ zs) name h = (h.0, others_differ saved target zs name h.1)

names_differ : (saved : ℕ) (target : Message) (xs : List Message)
    → IsDistinct (λ a b. bytes_eq a.name b.name) xs → IsDistinct (λ a b. bytes_eq a.name b.name) (map (message_saved saved target) xs)
unfolding IsDistinct
names_differ saved target [] h = tt
names_differ saved target (x ∷ xs) h = (others_differ saved target xs x.name h.0, names_differ saved target xs h.1)

message_formed : (groups places saved : ℕ) (target message : Message) → IsMulticast groups places message → nat_le (message_saved saved target message).longest_wait LONGEST_WAIT ≡ true
    → IsMulticast groups places (message_saved saved target message)
message_formed groups places saved target message is short = record {
  name = is.name;
  sender = is.sender;
  destinations = is.destinations;
  ascending = is.ascending;
  known = is.known;
  at = let at = is.at in omega (arith, at);
  wait = leb-true _ _ short;
}

-- ---- the scenario
module _ (factor span : ℕ) (plan : Scenario) (is : IsScenario plan) (real : plan.time ≡ Real) (some : 1 ≤ factor) (within : is_within_limits (compressed factor span plan) ≡ true) where
  abbrev made : Scenario
  made = compressed factor span plan

  abbrev target : Message
  target = message_at plan plan.target_message

  abbrev saved : ℕ
  saved = saved_ticks factor span

  abbrev waits_short : Bool
  waits_short = list_all (λ message. nat_le message.longest_wait LONGEST_WAIT) made.multicasts

  delay_and_waits : (nat_le made.delay GREATEST_DELAY && waits_short) ≡ true
  delay_and_waits = (and_parts (nat_le made.delay GREATEST_DELAY && waits_short) (has_room made) within).0

  delay_high : made.delay ≤ GREATEST_DELAY
  delay_high = leb-true _ _ (and_parts (nat_le made.delay GREATEST_DELAY) waits_short delay_and_waits).0

  waits : waits_short ≡ true
  waits = (and_parts (nat_le made.delay GREATEST_DELAY) waits_short delay_and_waits).1

  roomy : has_room made ≡ true
  roomy = (and_parts (nat_le made.delay GREATEST_DELAY && waits_short) (has_room made) within).1

  many : length (map (message_saved saved target) plan.multicasts) ≡ length plan.multicasts
  many = length-map plan.multicasts (message_saved saved target)

  message_is : (m : ℕ) → m < length plan.multicasts → get_or (map (message_saved saved target) plan.multicasts) m no_message ≡ message_saved saved target (message_at plan m)
  message_is m l = get_or-map (message_saved saved target) plan.multicasts m no_message no_message l

  messages_formed : All (IsMulticast (length plan.groups) (length plan.places)) (map (message_saved saved target) plan.multicasts)
  unfolding compressed
  messages_formed =
      All-from_get_or (IsMulticast (length plan.groups) (length plan.places)) (map (message_saved saved target) plan.multicasts) no_message
      (λ m l.
      let known : m < length plan.multicasts = omega (arith, l, many) in
      let old = All-get_or (IsMulticast (length plan.groups) (length plan.places)) plan.multicasts m no_message known is.messages in
      let short = AllPass-from_list_all (λ message. nat_le message.longest_wait LONGEST_WAIT) made.multicasts waits m no_message l in
      subst (IsMulticast (length plan.groups) (length plan.places)) (sym (message_is m known))
      (message_formed (length plan.groups) (length plan.places) saved target (message_at plan m) old (ap (λ (x : Message). nat_le x.longest_wait LONGEST_WAIT) (sym (message_is m known)) ∙ short)))

  well_formed : IsScenario made
  unfolding compressed
  well_formed = record {
    delay_low = let low = is.delay_low in omega (arith, low);
    delay_high = delay_high;
    delay_whole = λ whole. absurd cc;
    tick = is.tick;
    groups_low = is.groups_low;
    groups_high = is.groups_high;
    places_high = is.places_high;
    multicasts_low = subst (λ n. 1 ≤ n) (sym many) is.multicasts_low;
    multicasts_high = subst (λ n. n ≤ MOST_MULTICASTS) (sym many) is.multicasts_high;
    group_names = is.group_names;
    group_names_differ = is.group_names_differ;
    place_names = is.place_names;
    place_names_differ = is.place_names_differ;
    places_apart = is.places_apart;
    message_names_differ = names_differ saved target plan.multicasts is.message_names_differ;
    links = All-map (IsLink (length plan.groups) (length plan.places) made.delay) (compressed_link factor span) plan.links (λ i d l. link_formed factor span some (length plan.groups) (length plan.places) plan.delay _ (is.links i d l));
    ascending = ascend factor span some None plan.links ∙ is.ascending;
    messages = messages_formed;
    target = subst (λ n. plan.target_message < n) (sym many) is.target;
    addressed = ap (λ (x : Message). list_any (λ h. h == plan.target_group) x.destinations) (message_is plan.target_message is.target) ∙ is.addressed;
    room = room_told made roomy;
  }

pub formed : CompressedIsScenario
formed factor span plan is real some within = well_formed factor span plan is real some within

-- A draft that passes all the checks gives a scenario that is well formed.
use Rattle.std.proofs.Common.{◌≡◌, ℕ, ◌+◌, ◌-◌, ℤ, int_le, leb, le-leb, ◌&&◌, ap, arith, leb-true, ◌||◌, pos, negsuc, ◌<◌, ◌≤◌, Bool, true, false, not, cond, nat_le, List, [], ◌∷◌, length, get_or, map, Option, Some, None, Result, Ok, Err, refl, inl, inr}
use Rattle.std.specs.List.{list_all, list_any, find, AllByRecursion, IsDistinct}
use Rattle.std.specs.Str.{bytes_eq}
use Rattle.std.proofs.lemmas.Bool.{and_parts, and_from, cases_Bool, false≢true, not-true}
use Rattle.std.proofs.lemmas.List.{length-map, get_or-map}
use Rattle.std.proofs.Math.Dec.{leb-zero}
use Rattle.std.proofs.lemmas.List.Elements.{All-map, All-from_recursion}
use Rattle.std.proofs.lemmas.List.Sums.{AllPass-from_list_all}
use Rattle.std.proofs.lemmas.Slice.Eq.{bytes_eq-Decides}
use Rattle.convoy_draft.specs.declared.fault.ScenarioFault.{ScenarioFault}
use Rattle.convoy_draft.specs.declared.limits.TheConstants.{GREATEST_AT, GREATEST_DELAY, GREATEST_UNTIL, GREATEST_WHOLE_DELAY, LONGEST_WAIT, MOST_GROUPS, MOST_MULTICASTS, MOST_PLACES}
use Rattle.convoy_scenario.specs.Room.{HasRoom}
use Rattle.convoy_scenario.specs.Scenario.{Link, Message, message_at, no_message, is_same_sender}
use Rattle.convoy_scenario.specs.WellFormed.{is_whole, IsSender, IsLink, IsMulticast, IsScenario}
use Rattle.convoy_draft.specs.Names.{is_name, is_group_name}
use Rattle.convoy_draft.specs.Limits.{greatest_delay, is_tick}
use Rattle.convoy_scenario.specs.declared.sender.Sender.TheVariants.{Group}
use Rattle.convoy_draft.specs.declared.time.Time.{Time}
use Rattle.convoy_draft.specs.declared.time.Time.TheVariants.{Ticks, Real}
use Rattle.convoy_draft.specs.Draft.{Draft, DraftLink, DraftMessage}
use Rattle.convoy_draft.specs.Checks.{is_within, ticks, has_wait, is_count, is_among, all_differ, places_differ, is_message, messages_differ, links_differ, is_known_sender, knows, has_range, knows_link, is_target_addressed, checks, judge, Check}
use Rattle.convoy_scenario.specs.Numbering.{place, message_place, sender_of, numbers_of, link_of, message_of, in_order, delay_of_draft, links_of_draft, scenario_of}
use Rattle.convoy_scenario.proofs.LinkLemmas.{ticks_again, in_order_all, in_order_ascends}
use Rattle.convoy_scenario.proofs.NumberLemmas.{numbers_have, numbers_some, numbers_rise, numbers_below}
use Rattle.convoy_scenario.proofs.PlaceLemmas.{place_within, find_place, name_at_place}

-- all the checks hold
pub record Passes (draft : Draft) : Type 0 where
  pub delay : is_within 1 (greatest_delay draft.time) draft.delay ≡ true
  pub groups : is_count MOST_GROUPS draft.groups ≡ true
  pub places : nat_le (length draft.places) MOST_PLACES ≡ true
  pub messages : is_count MOST_MULTICASTS draft.messages ≡ true
  pub at : list_all (λ m. is_within 0 GREATEST_AT m.at) draft.messages ≡ true
  pub waits : list_all has_wait draft.messages ≡ true
  pub ranges : list_all (has_range draft.delay) draft.links ≡ true
  pub tick : is_tick draft.time draft.tick ≡ true
  pub group_names : list_all is_group_name draft.groups ≡ true
  pub place_names : list_all is_group_name draft.places ≡ true
  pub message_names : list_all (λ m. is_name m.name) draft.messages ≡ true
  pub groups_differ : all_differ draft.groups ≡ true
  pub places_differ : places_differ draft.groups draft.places ≡ true
  pub messages_differ : messages_differ draft.messages ≡ true
  pub links_differ : links_differ draft.links ≡ true
  pub known : list_all (knows draft.groups draft.places) draft.messages ≡ true
  pub ends : list_all (knows_link draft.groups draft.places) draft.links ≡ true
  pub target_group : is_among draft.target_group draft.groups ≡ true
  pub somewhere : list_all (λ m. nat_le 1 (length m.to)) draft.messages ≡ true
  pub target : is_message draft.target_message draft.messages ≡ true
  pub addressed : is_target_addressed draft ≡ true

next_holds : (b : Bool) (fault : ScenarioFault) (rest : Result (Unit {0}) ScenarioFault) → cond b rest (Err fault) ≡ Ok tt → (b ≡ true) × (rest ≡ Ok tt)
next_holds true fault rest h = (refl, h)
next_holds false fault rest h = cc

pub all_hold : (cs : List Check) → judge cs ≡ Ok tt → AllByRecursion (λ c. c.0 ≡ true) cs
all_hold [] h = tt
all_hold (c ∷ cs) h =
    let next = next_holds c.0 c.1 (judge cs) h in
    (next.0, all_hold cs next.1)

pub passes : (draft : Draft) → judge (checks draft) ≡ Ok tt → Passes draft
passes draft h =
    let a = all_hold (checks draft) h in
    let b = a.1.1.1.1.1.1.1.1 in
    let c = b.1.1.1.1.1.1.1 in
    record {
      delay = a.0;
      groups = a.1.0;
      places = a.1.1.0;
      messages = a.1.1.1.0;
      at = a.1.1.1.1.0;
      waits = a.1.1.1.1.1.0;
      ranges = a.1.1.1.1.1.1.0;
      tick = a.1.1.1.1.1.1.1.0;
      group_names = b.0;
      place_names = b.1.0;
      message_names = b.1.1.0;
      groups_differ = b.1.1.1.0;
      places_differ = b.1.1.1.1.0;
      messages_differ = b.1.1.1.1.1.0;
      links_differ = b.1.1.1.1.1.1.0;
      known = c.0;
      target_group = c.1.0;
      ends = c.1.1.0;
      somewhere = c.1.1.1.0;
      target = c.1.1.1.1.1.0;
      addressed = c.1.1.1.1.1.1.0;
    }

ticks-within : (least most : ℕ) (z : ℤ) → is_within least most z ≡ true → (least ≤ ticks most z) × (ticks most z ≤ most)
ticks-within least most (pos n) h =
    let parts = and_parts (nat_le least n) (nat_le n most) h in
    let low = leb-true _ _ parts.0 in
    let high = leb-true _ _ parts.1 in
    rw (leb-zero n, parts.1) (low, high)
ticks-within least most (negsuc n) h = absurd (false≢true h)

-- a message waits no longer than it may
wait-within : (at until : ℤ) → is_within (ticks GREATEST_AT at) (ticks GREATEST_AT at + LONGEST_WAIT) until ≡ true → ticks GREATEST_AT at ≤ GREATEST_AT
    → ticks GREATEST_UNTIL until - ticks GREATEST_AT at ≤ LONGEST_WAIT
wait-within at (pos n) h low =
    let parts = and_parts (nat_le (ticks GREATEST_AT at) n) (nat_le n (ticks GREATEST_AT at + LONGEST_WAIT)) h in
    let high = leb-true _ _ parts.1 in
    rw (ticks_again GREATEST_UNTIL n (omega (arith, high, low))) (omega (arith, high))
wait-within at (negsuc n) h low = absurd (false≢true h)

-- no name is told twice
pub apart : {A : Type 0} (p : A → Bool) (xs : List A) → not (list_any p xs) ≡ true → AllByRecursion (λ x. p x ≡ false) xs
apart p [] h = tt
apart p (x ∷ xs) h =
    let e : p x ≡ false = elim (p x) as (λ b. not (b || list_any p xs) ≡ true → b ≡ false) [ true ↦ λ g. absurd (false≢true g) | false ↦ λ g. refl ] h in
    let rest : not (list_any p xs) ≡ true = rw e at h in
    (e, apart p xs rest)

pub groups_distinct : (names : List (List ℕ)) → all_differ names ≡ true → IsDistinct bytes_eq names
unfolding IsDistinct
groups_distinct [] h = tt
groups_distinct (name ∷ names) h =
    let parts = and_parts (not (is_among name names)) (all_differ names) h in
    (apart (bytes_eq name) names parts.0, groups_distinct names parts.1)

pub AllByRecursion-map : {A B : Type 0} (P : B → Type 0) (f : A → B) (xs : List A) → AllByRecursion (λ x. P (f x)) xs → AllByRecursion P (map f xs)
AllByRecursion-map P f [] h = tt
AllByRecursion-map P f (x ∷ xs) h = (h.0, AllByRecursion-map P f xs h.1)

messages_distinct : (groups places : List (List ℕ)) (messages : List DraftMessage) → messages_differ messages ≡ true → IsDistinct (λ a b. bytes_eq a.name b.name) (map (message_of groups places) messages)
unfolding IsDistinct
messages_distinct groups places [] h = tt
messages_distinct groups places (message ∷ messages) h =
    let parts = and_parts (not (is_message message.name messages)) (messages_differ messages) h in (
      AllByRecursion-map (λ b. bytes_eq message.name b.name ≡ false) (message_of groups places) messages (apart (λ m. bytes_eq message.name m.name) messages parts.0),
      messages_distinct groups places messages parts.1,
    )

sender_known : (groups places : List (List ℕ)) (sender : Option (List ℕ)) → is_known_sender groups places sender ≡ true → IsSender (length groups) (length places) (sender_of groups places sender)
sender_known groups places None h = omega arith
sender_known groups places (Some name) h = elim (cases_Bool (is_among name groups)) [
  | inl group ↦ rw group (place_within (bytes_eq name) groups group)
  | inr none ↦
      let at : is_among name places ≡ true = rw none at h in
      let within = place_within (bytes_eq name) places at in
      let so : place name places + 1 ≤ length places = omega (arith, within) in
      rw none so
]

-- some group of those that are named is a group
destinations_some : (groups named : List (List ℕ)) → list_all (λ name. is_among name groups) named ≡ true → nat_le 1 (length named) ≡ true → 0 < length (numbers_of groups named)
destinations_some groups [] known some = absurd (false≢true some)
destinations_some groups (name ∷ named) known some =
    let here = (and_parts (is_among name groups) (list_all (λ other. is_among other groups) named) known).0 in
    let at = name_at_place name groups here in
    numbers_some groups (name ∷ named) (place name groups) (place_within (bytes_eq name) groups here) (rw at (rw ((bytes_eq-Decides name name).1 refl) refl))

multicast_formed : (groups places : List (List ℕ)) (message : DraftMessage) → is_name message.name ≡ true → knows groups places message ≡ true → nat_le 1 (length message.to) ≡ true → is_within 0 GREATEST_AT message.at ≡ true → has_wait message ≡ true
    → IsMulticast (length groups) (length places) (message_of groups places message)
multicast_formed groups places message name known some within waits =
    let parts = and_parts (is_known_sender groups places message.sender) _ known in
    record {
      name = name;
      sender = sender_known groups places message.sender parts.0;
      destinations = destinations_some groups message.to parts.1 some;
      ascending = numbers_rise groups message.to;
      known = numbers_below groups message.to;
      at = (ticks-within 0 GREATEST_AT message.at within).1;
      wait = wait-within message.at message.until waits (ticks-within 0 GREATEST_AT message.at within).1;
    }

pub ranged : (least most delay : ℤ) → is_within 1 GREATEST_DELAY delay ≡ true → (int_le (pos 1) least && int_le least most && int_le most delay) ≡ true
    → (1 ≤ ticks GREATEST_DELAY least) × (ticks GREATEST_DELAY least ≤ ticks GREATEST_DELAY most) × (ticks GREATEST_DELAY most ≤ ticks GREATEST_DELAY delay)
ranged (pos a) (pos b) (pos d) within h =
    let p = and_parts (leb 1 d) (leb d GREATEST_DELAY) within in
    let q = and_parts (leb 1 a && leb a b) (leb b d) h in
    let r = and_parts (leb 1 a) (leb a b) q.0 in
    let low = leb-true 1 a r.0 in
    let ordered = leb-true a b r.1 in
    let high = leb-true b d q.1 in
    let top = leb-true d GREATEST_DELAY p.1 in
    rw (ticks_again GREATEST_DELAY a (omega arith), ticks_again GREATEST_DELAY b (omega arith), ticks_again GREATEST_DELAY d top) (low, ordered, high)
ranged (negsuc a) most delay within h = absurd (false≢true (and_parts (int_le (pos 1) (negsuc a)) (int_le (negsuc a) most) (and_parts _ (int_le most delay) h).0).0)
ranged (pos a) (negsuc b) delay within h = absurd (false≢true (and_parts (leb 1 a) (int_le (pos a) (negsuc b)) (and_parts _ (int_le (negsuc b) delay) h).0).1)
ranged (pos a) (pos b) (negsuc d) within h = absurd (false≢true within)

at_home : (stamps home : Bool) → (not (stamps && home) || home) ≡ true
at_home true true = refl
at_home true false = refl
at_home false home = refl

link_formed : (draft : Draft) (link : DraftLink) → is_within 1 GREATEST_DELAY draft.delay ≡ true → has_range draft.delay link ≡ true → knows_link draft.groups draft.places link ≡ true
    → is_whole (delay_of_draft draft) (link_of draft.groups draft.places link) ≡ false → IsLink (length draft.groups) (length draft.places) (delay_of_draft draft) (link_of draft.groups draft.places link)
link_formed draft link within range known part =
    let ends = and_parts (is_known_sender draft.groups draft.places link.sender) (is_among link.to draft.groups) known in
    let ticks = ranged link.least link.most draft.delay within range in
    record {
      sender = sender_known draft.groups draft.places link.sender ends.0;
      to = place_within (bytes_eq link.to) draft.groups ends.1;
      low = ticks.0;
      ordered = ticks.1;
      high = ticks.2;
      partial = ap not part;
      stamps = at_home link.stamps (is_same_sender (sender_of draft.groups draft.places link.sender) (Group (place link.to draft.groups)));
    }

links_formed : (draft : Draft) (links : List DraftLink) → is_within 1 GREATEST_DELAY draft.delay ≡ true → list_all (has_range draft.delay) links ≡ true → list_all (knows_link draft.groups draft.places) links ≡ true
    → AllByRecursion (λ l. is_whole (delay_of_draft draft) l ≡ false → IsLink (length draft.groups) (length draft.places) (delay_of_draft draft) l) (map (link_of draft.groups draft.places) links)
links_formed draft [] within ranges known = tt
links_formed draft (link ∷ links) within ranges known =
    let a = and_parts (has_range draft.delay link) (list_all (has_range draft.delay) links) ranges in
    let b = and_parts (knows_link draft.groups draft.places link) (list_all (knows_link draft.groups draft.places) links) known in
    (link_formed draft link within a.0 b.0, links_formed draft links within a.1 b.1)

-- the first message of the target's name
target_is : (draft : Draft) (m : DraftMessage) → find (λ message. bytes_eq draft.target_message message.name) draft.messages ≡ Some m → is_target_addressed draft ≡ true → is_among draft.target_group m.to ≡ true
target_is draft m e h = rw e at h

-- a message of which nothing is written
abbrev pub nothing : DraftMessage
nothing = record { name = []; sender = None; to = []; at = pos 0; until = pos 0 }

-- D is within the limit of its kind of time, and within that of both
within_both : (time : Time) (delay : ℤ) → is_within 1 (greatest_delay time) delay ≡ true → is_within 1 GREATEST_DELAY delay ≡ true
within_both Real delay h = h
within_both Ticks (pos d) h =
    let parts = and_parts (leb 1 d) (leb d GREATEST_WHOLE_DELAY) h in
    and_from _ _ parts.0 (le-leb d GREATEST_DELAY (omega (arith, leb-true d GREATEST_WHOLE_DELAY parts.1)))
within_both Ticks (negsuc d) h = absurd (false≢true h)

whole_within : (time : Time) (delay : ℤ) → is_within 1 (greatest_delay time) delay ≡ true → time ≡ Ticks → ticks GREATEST_DELAY delay ≤ GREATEST_WHOLE_DELAY
whole_within Real delay h is = cc
whole_within Ticks (pos d) h is =
    let parts = and_parts (leb 1 d) (leb d GREATEST_WHOLE_DELAY) h in
    let high = leb-true d GREATEST_WHOLE_DELAY parts.1 in
    rw (ticks_again GREATEST_DELAY d (omega (arith, high))) high
whole_within Ticks (negsuc d) h is = absurd (false≢true h)

-- no place has the name of a group
none_among : (groups places : List (List ℕ)) → list_all (λ name. not (is_among name groups)) places ≡ true → AllByRecursion (λ name. is_among name groups ≡ false) places
none_among groups [] h = tt
none_among groups (name ∷ places) h =
    let parts = and_parts (not (is_among name groups)) (list_all (λ other. not (is_among other groups)) places) h in
    (not-true (is_among name groups) parts.0, none_among groups places parts.1)

-- a draft that passes the checks, and in which the target has room, is a scenario
pub scenario_formed : (draft : Draft) → judge (checks draft) ≡ Ok tt → HasRoom (scenario_of draft) → IsScenario (scenario_of draft)
scenario_formed draft h room =
    let p = passes draft h in
    let within = within_both draft.time draft.delay p.delay in
    let delay = ticks-within 1 GREATEST_DELAY draft.delay within in
    let groups = and_parts (nat_le 1 (length draft.groups)) _ p.groups in
    let messages = and_parts (nat_le 1 (length draft.messages)) _ p.messages in
    let named = AllPass-from_list_all is_group_name draft.groups p.group_names in
    let sited = and_parts (all_differ draft.places) _ p.places_differ in
    let names = AllPass-from_list_all (λ m. is_name m.name) draft.messages p.message_names in
    let known = AllPass-from_list_all (knows draft.groups draft.places) draft.messages p.known in
    let some = AllPass-from_list_all (λ m. nat_le 1 (length m.to)) draft.messages p.somewhere in
    let at = AllPass-from_list_all (λ m. is_within 0 GREATEST_AT m.at) draft.messages p.at in
    let waits = AllPass-from_list_all has_wait draft.messages p.waits in
    let numbered : length (map (message_of draft.groups draft.places) draft.messages) ≡ length draft.messages = length-map draft.messages (message_of draft.groups draft.places) in
    let by_name : DraftMessage → Bool = λ m. bytes_eq draft.target_message m.name in
    let t = message_place draft.target_message draft.messages in
    let t_within : t < length draft.messages = place_within by_name draft.messages p.target in
    let target : DraftMessage = get_or draft.messages t nothing in
    let found = find_place by_name draft.messages nothing p.target in
    let goes : is_among draft.target_group target.to ≡ true = target_is draft target found p.addressed in
    let g = place draft.target_group draft.groups in
    let g_within : g < length draft.groups = place_within (bytes_eq draft.target_group) draft.groups p.target_group in
    let at_g : get_or draft.groups g [] ≡ draft.target_group = name_at_place draft.target_group draft.groups p.target_group in
    let stands : message_at (scenario_of draft) t ≡ message_of draft.groups draft.places target = get_or-map (message_of draft.groups draft.places) draft.messages t nothing no_message t_within in
    record {
      delay_low = delay.0;
      delay_high = delay.1;
      delay_whole = whole_within draft.time draft.delay p.delay;
      tick = p.tick;
      groups_low = leb-true _ _ groups.0;
      groups_high = leb-true _ _ groups.1;
      places_high = leb-true _ _ p.places;
      multicasts_low = rw numbered (leb-true _ _ messages.0);
      multicasts_high = rw numbered (leb-true _ _ messages.1);
      group_names = named;
      group_names_differ = groups_distinct draft.groups p.groups_differ;
      place_names = AllPass-from_list_all is_group_name draft.places p.place_names;
      place_names_differ = groups_distinct draft.places sited.0;
      places_apart = All-from_recursion (λ name. is_among name draft.groups ≡ false) draft.places (none_among draft.groups draft.places sited.1);
      links = All-from_recursion (IsLink (length draft.groups) (length draft.places) (delay_of_draft draft)) (in_order (delay_of_draft draft) (links_of_draft draft)) (in_order_all (IsLink (length draft.groups) (length draft.places) (delay_of_draft draft)) (delay_of_draft draft) (links_of_draft draft) (links_formed draft draft.links within p.ranges p.ends));
      ascending = in_order_ascends (delay_of_draft draft) (links_of_draft draft);
      message_names_differ = messages_distinct draft.groups draft.places draft.messages p.messages_differ;
      messages = All-map (IsMulticast (length draft.groups) (length draft.places)) (message_of draft.groups draft.places) draft.messages (λ k d within. multicast_formed draft.groups draft.places (get_or draft.messages k d) (names k d within) (known k d within) (some k d within) (at k d within) (waits k d within));
      target = rw numbered t_within;
      addressed = rw stands (numbers_have draft.groups target.to g g_within (rw at_g goes));
      room = room;
    }

-- a scenario that is made part by part, each from a part of the draft or from an equal of it
pub parts_numbered : (draft : Draft) (time : Time) (tick : Option ℕ) (delay : ℤ) (groups places : List (List ℕ)) (links : List DraftLink) (messages : List DraftMessage) (message group : List ℕ)
    → record { time = time; tick = tick; delay = delay; groups = groups; places = places; links = links; messages = messages; target_message = message; target_group = group } ≡ draft
    → {lent lent' linking sited sited' : List (List ℕ)} {lines : List DraftLink} {linked : List Link} {sent : List DraftMessage} {d t g : ℕ} {multicasts : List Message}
    → d ≡ ticks GREATEST_DELAY delay → linking ≡ groups → sited ≡ places → lines ≡ links → linked ≡ in_order d (map (link_of linking sited) lines)
    → lent ≡ groups → sited' ≡ places → multicasts ≡ map (message_of lent sited') messages
    → sent ≡ messages → t ≡ message_place message sent → lent' ≡ groups → g ≡ place group lent'
    → record { time = time; tick = tick; delay = d; groups = groups; places = places; links = linked; multicasts = multicasts; target_message = t; target_group = g } ≡ scenario_of draft
parts_numbered draft time tick delay groups places links messages message group seen b k s l n c t d e f i j =
    rw (n, k, s, l, b, d, c, t, f, e, j, i) (ap scenario_of seen)

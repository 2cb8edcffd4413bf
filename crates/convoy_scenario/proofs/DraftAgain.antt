-- The draft of a scenario, with names in place of its numbers: it passes the checks, and gives the scenario.
use Rattle.std.proofs.Common.{◌≡◌, ℕ, zero, suc, pos, ◌+◌, ◌-◌, ◌<◌, ◌≤◌, ◌==◌, ◌&&◌, ◌||◌, not, Bool, true, false, leb, le-leb, List, [], ◌∷◌, length, get_or, map, All, Option, Some, None, Ok, refl, ap, sym, subst, ◌∙◌, arith, inl, inr}
use Rattle.std.specs.List.{list_all, list_any, AllByRecursion, IsDistinct}
use Rattle.std.specs.Str.{bytes_eq}
use Rattle.std.proofs.lemmas.Bool.{and_parts, and_from, or_cases, or_left, or_right, cases_order, eqb-true, ne_eqb, both_ways, false≢true, not-true, false_from_ne_true}
use Rattle.std.proofs.lemmas.List.{length-map, get_or-map}
use Rattle.std.proofs.lemmas.List.Elements.{All-head, All-tail, All-get_or}
use Rattle.std.proofs.lemmas.Slice.Eq.{bytes_eq-Decides}
use Rattle.convoy_draft.specs.declared.limits.TheConstants.{GREATEST_AT, GREATEST_DELAY, GREATEST_UNTIL, GREATEST_WHOLE_DELAY, LONGEST_WAIT, MOST_GROUPS, MOST_MULTICASTS, MOST_PLACES}
use Rattle.convoy_scenario.specs.declared.sender.Sender.{Sender}
use Rattle.convoy_scenario.specs.declared.sender.Sender.TheVariants.{Client, Group}
use Rattle.convoy_draft.specs.declared.time.Time.{Time}
use Rattle.convoy_draft.specs.declared.time.Time.TheVariants.{Ticks, Real}
use Rattle.convoy_draft.specs.Draft.{DraftLink, DraftMessage}
use Rattle.convoy_scenario.specs.Scenario.{Scenario, Link, Message, message_at, group_name_at, no_message, is_same_sender}
use Rattle.convoy_scenario.specs.WellFormed.{is_before, is_whole, follows, ascend_after, IsSender, IsLink, IsMulticast, IsScenario}
use Rattle.convoy_draft.specs.Names.{is_name, is_group_name}
use Rattle.convoy_draft.specs.Limits.{greatest_delay}
use Rattle.convoy_draft.specs.Checks.{Check, checks, judge, is_within, ticks, is_count, is_among, all_differ, is_known_sender, knows, is_message, messages_differ, is_named_alike, is_same_pair, links_differ, has_range, has_wait, knows_link, is_target_addressed}
use Rattle.convoy_scenario.specs.Naming.{sender_name, draft_link, draft_message, draft_for}
use Rattle.convoy_scenario.specs.Numbering.{message_place, place, sender_of, link_of, message_of, scenario_of, scenario_of_draft, with_room}
use Rattle.convoy_scenario.proofs.NumberedAgain.{itself, same_bytes, any_at, apart, one_place, among_at, place_again, numbers_again, Rises, rises, above, among_named}
use Rattle.convoy_scenario.proofs.LinkLemmas.{ticks_again, not_itself, before_all, stay}
use Rattle.convoy_scenario.proofs.NumberedLemmas.{AllByRecursion-map, nothing}
use Rattle.convoy_scenario.proofs.RoomLemmas.{room_from, with_room_is}
use Rattle.convoy_scenario.proofs.PlaceLemmas.{place_within, place_passes, find_place}

-- ---- back to numbers

place_back : (places : List (List ℕ)) (p : ℕ) → IsDistinct bytes_eq places → suc p ≤ length places → Client (place (get_or places (suc p - 1) []) places + 1) ≡ Client (suc p)
place_back places p distinct is =
    let less : suc p - 1 ≡ p = omega arith in
    let more : p + 1 ≡ suc p = omega arith in
    rw (less, place_again places p distinct (omega (arith, is)), more) refl

no_zero : (p : ℕ) → (suc p == 0) ≡ false
no_zero p = ne_eqb (suc p) 0 (λ e. omega (arith, e))

-- a place's name is no group's
not_group : (plan : Scenario) → IsScenario plan → (p : ℕ) → suc p ≤ length plan.places → is_among (get_or plan.places (suc p - 1) []) plan.groups ≡ false
not_group plan s p is =
    let less : suc p - 1 ≡ p = omega arith in
    rw less (All-get_or (λ name. is_among name plan.groups ≡ false) plan.places p [] (omega (arith, is)) s.places_apart)

sender_again : (plan : Scenario) (s : Sender) → IsScenario plan → IsSender (length plan.groups) (length plan.places) s → sender_of plan.groups plan.places (sender_name plan s) ≡ s
sender_again plan (Client zero) well is = refl
sender_again plan (Client (suc p)) well is = rw (no_zero p, not_group plan well p is) (place_back plan.places p well.place_names_differ is)
sender_again plan (Group g) well is = rw (among_at plan.groups g is) (ap (λ n. Group n) (place_again plan.groups g well.group_names_differ is))

stamps_again : (stamps home : Bool) → (not stamps || home) ≡ true → (stamps && home) ≡ stamps
stamps_again true home h = h
stamps_again false home h = refl

link_again : (plan : Scenario) (l : Link) → IsScenario plan → IsLink (length plan.groups) (length plan.places) plan.delay l → link_of plan.groups plan.places (draft_link plan l) ≡ l
link_again plan l s is =
    rw (sender_again plan l.sender s is.sender, place_again plan.groups l.to s.group_names_differ is.to, ticks_again GREATEST_DELAY l.least (omega (arith, is.ordered, is.high, s.delay_high)), ticks_again GREATEST_DELAY l.most (omega (arith, is.high, s.delay_high)), stamps_again l.stamps (is_same_sender l.sender (Group l.to)) is.stamps) refl

pub links_again : (plan : Scenario) (ls : List Link) → IsScenario plan → All (IsLink (length plan.groups) (length plan.places) plan.delay) ls → map (link_of plan.groups plan.places) (map (draft_link plan) ls) ≡ ls
links_again plan [] s are = refl
links_again plan (l ∷ ls) s are =
    rw (link_again plan l s (All-head (IsLink (length plan.groups) (length plan.places) plan.delay) l ls are), links_again plan ls s (All-tail (IsLink (length plan.groups) (length plan.places) plan.delay) l ls are)) refl

pub none_whole : (groups places delay : ℕ) (ls : List Link) → All (IsLink groups places delay) ls → AllByRecursion (λ l. is_whole delay l ≡ false) ls
none_whole groups places delay [] are = tt
none_whole groups places delay (l ∷ ls) are = (not-true (is_whole delay l) (All-head (IsLink groups places delay) l ls are).partial, none_whole groups places delay ls (All-tail (IsLink groups places delay) l ls are))

plus_less : (a b : ℕ) → a + b - a ≡ b
plus_less a b = omega arith

message_again : (plan : Scenario) (m : Message) → IsScenario plan → IsMulticast (length plan.groups) (length plan.places) m → message_of plan.groups plan.places (draft_message plan m) ≡ m
message_again plan m s is =
    rw (sender_again plan m.sender s is.sender, numbers_again plan.groups m.destinations s.group_names_differ is.known is.ascending, ticks_again GREATEST_AT m.at is.at, ticks_again GREATEST_UNTIL (m.at + m.longest_wait) (omega (arith, is.at, is.wait)), plus_less m.at m.longest_wait) refl

messages_again : (plan : Scenario) (ms : List Message) → IsScenario plan → All (IsMulticast (length plan.groups) (length plan.places)) ms → map (message_of plan.groups plan.places) (map (draft_message plan) ms) ≡ ms
messages_again plan [] s are = refl
messages_again plan (m ∷ ms) s are =
    rw (message_again plan m s (All-head (IsMulticast (length plan.groups) (length plan.places)) m ms are), messages_again plan ms s (All-tail (IsMulticast (length plan.groups) (length plan.places)) m ms are)) refl

name_at : (plan : Scenario) (k : ℕ) → k < length plan.multicasts → (d : DraftMessage) → (get_or (map (draft_message plan) plan.multicasts) k d).name ≡ (message_at plan k).name
name_at plan k within d = ap (λ (m : DraftMessage). m.name) (get_or-map (draft_message plan) plan.multicasts k no_message d within)

is_there : (plan : Scenario) → IsScenario plan → is_message (draft_for plan).target_message (draft_for plan).messages ≡ true
is_there plan s =
    let within : plan.target_message < length (map (draft_message plan) plan.multicasts) = rw (length-map plan.multicasts (draft_message plan)) s.target in
    any_at (λ m. bytes_eq (draft_for plan).target_message m.name) (draft_for plan).messages plan.target_message nothing within
    (rw (name_at plan plan.target_message s.target nothing) (itself (draft_for plan).target_message))

target_again : (plan : Scenario) → IsScenario plan → message_place (draft_for plan).target_message (draft_for plan).messages ≡ plan.target_message
target_again plan s =
    let by_name : DraftMessage → Bool = λ m. bytes_eq (draft_for plan).target_message m.name in
    let t = message_place (draft_for plan).target_message (draft_for plan).messages in
    let there = is_there plan s in
    let low : t < length plan.multicasts = subst (λ (n : ℕ). t < n) (length-map plan.multicasts (draft_message plan)) (place_within by_name (draft_for plan).messages there) in
    let same : (message_at plan plan.target_message).name ≡ (message_at plan t).name = same_bytes _ _ (place_passes by_name (draft_for plan).messages nothing there) ∙ name_at plan t low nothing in
    elim (cases_order t plan.target_message) [
      | inl is ↦ is
      | inr (inl less) ↦ absurd (both_ways _ (apart (λ a b. bytes_eq a.name b.name) plan.multicasts t plan.target_message no_message s.message_names_differ less s.target) ((bytes_eq-Decides _ _).1 (sym same)))
      | inr (inr more) ↦ absurd (both_ways _ (apart (λ a b. bytes_eq a.name b.name) plan.multicasts plan.target_message t no_message s.message_names_differ more low) ((bytes_eq-Decides _ _).1 same))
    ]

known : (n g : ℕ) (ds : List ℕ) → All (λ h. h < n) ds → list_any (λ h. h == g) ds ≡ true → g < n
known n g [] all any = absurd (false≢true any)
known n g (d ∷ ds) all any =
    elim (or_cases (d == g) (list_any (λ h. h == g) ds) any) [
      | inl here ↦ let e : d ≡ g = eqb-true d g here in let lt : d < n = All-head (λ h. h < n) d ds all in omega arith
      | inr later ↦ known n g ds (All-tail (λ h. h < n) d ds all) later
    ]

target_is : (plan : Scenario) → IsScenario plan → IsMulticast (length plan.groups) (length plan.places) (message_at plan plan.target_message)
target_is plan s = All-get_or (IsMulticast (length plan.groups) (length plan.places)) plan.multicasts plan.target_message no_message s.target s.messages

-- the target's group is a group
pub group_known : (plan : Scenario) → IsScenario plan → plan.target_group < length plan.groups
group_known plan s = known (length plan.groups) plan.target_group (message_at plan plan.target_message).destinations (target_is plan s).known s.addressed

pub draft_again : (plan : Scenario) → IsScenario plan → scenario_of (draft_for plan) ≡ plan
draft_again plan s =
    rw (ticks_again GREATEST_DELAY plan.delay s.delay_high, links_again plan plan.links s s.links, stay plan.delay None plan.links s.ascending (none_whole (length plan.groups) (length plan.places) plan.delay plan.links s.links), messages_again plan plan.multicasts s s.messages, target_again plan s, place_again plan.groups plan.target_group s.group_names_differ (group_known plan s)) refl

-- ---- the links

all_links : (plan : Scenario) (p : DraftLink → Bool) (ls : List Link) → All (IsLink (length plan.groups) (length plan.places) plan.delay) ls → ((l : Link) → IsLink (length plan.groups) (length plan.places) plan.delay l → p (draft_link plan l) ≡ true)
    → list_all p (map (draft_link plan) ls) ≡ true
all_links plan p [] are each = refl
all_links plan p (l ∷ ls) are each =
    and_from _ _ (each l (All-head (IsLink (length plan.groups) (length plan.places) plan.delay) l ls are)) (all_links plan p ls (All-tail (IsLink (length plan.groups) (length plan.places) plan.delay) l ls are) each)

-- senders that are written alike are one
place_no_group : (plan : Scenario) → IsScenario plan → (p h : ℕ) → suc p ≤ length plan.places → h < length plan.groups → get_or plan.places (suc p - 1) [] ≡ get_or plan.groups h [] → ⊥
place_no_group plan s p h a b same = both_ways (is_among (get_or plan.groups h []) plan.groups) (rw same at (not_group plan s p a)) (among_at plan.groups h b)

alike : (plan : Scenario) (s t : Sender) → IsScenario plan → IsSender (length plan.groups) (length plan.places) s → IsSender (length plan.groups) (length plan.places) t → is_named_alike (sender_name plan s) (sender_name plan t) ≡ true → s ≡ t
alike plan (Client zero) (Client zero) well a b e = refl
alike plan (Client zero) (Client (suc q)) well a b e = absurd (false≢true (rw (no_zero q) at e))
alike plan (Client (suc p)) (Client zero) well a b e = absurd (false≢true (rw (no_zero p) at e))
alike plan (Client (suc p)) (Client (suc q)) well a b e =
    let same : suc p - 1 ≡ suc q - 1 = one_place plan.places (suc p - 1) (suc q - 1) well.place_names_differ (omega (arith, a)) (omega (arith, b)) (same_bytes _ _ (rw (no_zero p, no_zero q) at e)) in
    ap (λ n. Client n) (omega (arith, same))
alike plan (Client zero) (Group h) well a b e = absurd (false≢true e)
alike plan (Client (suc p)) (Group h) well a b e = absurd (place_no_group plan well p h a b (same_bytes _ _ (rw (no_zero p) at e)))
alike plan (Group g) (Client zero) well a b e = absurd (false≢true e)
alike plan (Group g) (Client (suc q)) well a b e = absurd (place_no_group plan well q g b a (sym (same_bytes _ _ (rw (no_zero q) at e))))
alike plan (Group g) (Group h) well a b e = ap (λ n. Group n) (one_place plan.groups g h well.group_names_differ a b (same_bytes _ _ e))

-- a link leads between other places than one that comes after it
other_pair : (plan : Scenario) (l k : Link) → IsScenario plan → IsLink (length plan.groups) (length plan.places) plan.delay l → IsLink (length plan.groups) (length plan.places) plan.delay k → is_before l k ≡ true → is_same_pair (draft_link plan l) (draft_link plan k) ≡ false
other_pair plan l k s a b before =
    false_from_ne_true _ (λ e.
    let p = and_parts (is_named_alike (sender_name plan l.sender) (sender_name plan k.sender)) (bytes_eq (group_name_at plan l.to) (group_name_at plan k.to)) e in
    not_itself l k (alike plan l.sender k.sender s a.sender b.sender p.0) (one_place plan.groups l.to k.to s.group_names_differ a.to b.to (same_bytes _ _ p.1)) before)

other_pairs : (plan : Scenario) (l : Link) (ls : List Link) → IsScenario plan → IsLink (length plan.groups) (length plan.places) plan.delay l → All (IsLink (length plan.groups) (length plan.places) plan.delay) ls → AllByRecursion (λ k. is_before l k ≡ true) ls
    → AllByRecursion (λ k. is_same_pair (draft_link plan l) (draft_link plan k) ≡ false) ls
other_pairs plan l [] s a are before = tt
other_pairs plan l (k ∷ ks) s a are before =
    (other_pair plan l k s a (All-head (IsLink (length plan.groups) (length plan.places) plan.delay) k ks are) before.0, other_pairs plan l ks s a (All-tail (IsLink (length plan.groups) (length plan.places) plan.delay) k ks are) before.1)

none_within : (least most delay : ℕ) → 1 ≤ least → least ≤ most → most ≤ delay → (leb 1 least && leb least most && leb most delay) ≡ true
none_within least most delay low ordered high = rw (le-leb 1 least low, le-leb least most ordered, le-leb most delay high) refl

-- ---- the checks

within_again : (least most n : ℕ) → least ≤ n → n ≤ most → is_within least most (pos n) ≡ true
within_again least most n low high = and_from _ _ (le-leb least n low) (le-leb n most high)

count_again : {A : Type 0} (most : ℕ) (xs : List A) → 1 ≤ length xs → length xs ≤ most → is_count most xs ≡ true
count_again most xs low high = and_from _ _ (le-leb 1 (length xs) low) (le-leb (length xs) most high)

all_true : {A : Type 0} (p : A → Bool) (xs : List A) → All (λ x. p x ≡ true) xs → list_all p xs ≡ true
all_true p [] all = refl
all_true p (x ∷ xs) all = and_from _ _ (All-head (λ y. p y ≡ true) x xs all) (all_true p xs (All-tail (λ y. p y ≡ true) x xs all))

-- a test of the drafts of messages that are well formed
all_drafts : (plan : Scenario) (p : DraftMessage → Bool) (ms : List Message) → All (IsMulticast (length plan.groups) (length plan.places)) ms → ((m : Message) → IsMulticast (length plan.groups) (length plan.places) m → p (draft_message plan m) ≡ true)
    → list_all p (map (draft_message plan) ms) ≡ true
all_drafts plan p [] are each = refl
all_drafts plan p (m ∷ ms) are each =
    and_from _ _ (each m (All-head (IsMulticast (length plan.groups) (length plan.places)) m ms are)) (all_drafts plan p ms (All-tail (IsMulticast (length plan.groups) (length plan.places)) m ms are) each)

none_of : {A : Type 0} (p : A → Bool) (xs : List A) → AllByRecursion (λ x. p x ≡ false) xs → not (list_any p xs) ≡ true
none_of p [] all = refl
none_of p (x ∷ xs) all = rw all.0 (none_of p xs all.1)

differ : (names : List (List ℕ)) → IsDistinct bytes_eq names → all_differ names ≡ true
unfolding IsDistinct
differ [] distinct = refl
differ (n ∷ ns) distinct = and_from _ _ (none_of (bytes_eq n) ns distinct.0) (differ ns distinct.1)

all_apart : (groups places : List (List ℕ)) → All (λ name. is_among name groups ≡ false) places → list_all (λ name. not (is_among name groups)) places ≡ true
all_apart groups places are = all_true (λ name. not (is_among name groups)) places (λ i d within. ap not (are i d within))

messages_are : (plan : Scenario) (ms : List Message) → IsDistinct (λ a b. bytes_eq a.name b.name) ms → messages_differ (map (draft_message plan) ms) ≡ true
unfolding IsDistinct
messages_are plan [] distinct = refl
messages_are plan (m ∷ ms) distinct =
    and_from _ _ (none_of (λ b. bytes_eq m.name b.name) (map (draft_message plan) ms) (AllByRecursion-map (λ b. bytes_eq m.name b.name ≡ false) (draft_message plan) ms distinct.0)) (messages_are plan ms distinct.1)

links_are : (plan : Scenario) (ls : List Link) → IsScenario plan → All (IsLink (length plan.groups) (length plan.places) plan.delay) ls → (before : Option Link) → ascend_after before ls ≡ true → links_differ (map (draft_link plan) ls) ≡ true
links_are plan [] s are before up = refl
links_are plan (l ∷ ls) s are before up =
    let others = All-tail (IsLink (length plan.groups) (length plan.places) plan.delay) l ls are in
    let rest = (and_parts (follows before l) (ascend_after (Some l) ls) up).1 in
    and_from _ _
    (none_of (is_same_pair (draft_link plan l)) (map (draft_link plan) ls)
    (AllByRecursion-map (λ k. is_same_pair (draft_link plan l) k ≡ false) (draft_link plan) ls (other_pairs plan l ls s (All-head (IsLink (length plan.groups) (length plan.places) plan.delay) l ls are) others (before_all l ls rest))))
    (links_are plan ls s others (Some l) rest)

names_known : (groups : List (List ℕ)) (ds : List ℕ) → All (λ d. d < length groups) ds → list_all (λ name. is_among name groups) (map (λ d. get_or groups d []) ds) ≡ true
names_known groups [] known = refl
names_known groups (d ∷ ds) known =
    and_from _ _ (among_at groups d (All-head (λ h. h < length groups) d ds known)) (names_known groups ds (All-tail (λ h. h < length groups) d ds known))

sender_known : (plan : Scenario) (s : Sender) → IsSender (length plan.groups) (length plan.places) s → is_known_sender plan.groups plan.places (sender_name plan s) ≡ true
sender_known plan (Client zero) is = refl
sender_known plan (Client (suc p)) is =
    let less : suc p - 1 ≡ p = omega arith in
    rw (no_zero p) (or_right (is_among (get_or plan.places (suc p - 1) []) plan.groups) (is_among (get_or plan.places (suc p - 1) []) plan.places) (rw less (among_at plan.places p (omega (arith, is)))))
sender_known plan (Group g) is = or_left (is_among (get_or plan.groups g []) plan.groups) _ (among_at plan.groups g is)

names_differ : (groups : List (List ℕ)) (ds : List ℕ) (a : ℕ) → IsDistinct bytes_eq groups → All (λ d. d < length groups) ds → Rises a ds → all_differ (map (λ d. get_or groups d []) ds) ≡ true
names_differ groups [] a distinct known r = refl
names_differ groups (d ∷ ds) a distinct known r =
    let others = All-tail (λ h. h < length groups) d ds known in
    and_from _ _ (ap not (among_named groups d ds distinct (All-head (λ h. h < length groups) d ds known) others ∙ above (d + 1) d ds r.1 (omega arith))) (names_differ groups ds (d + 1) distinct others r.1)

judged : (cs : List Check) → AllByRecursion (λ c. c.0 ≡ true) cs → judge cs ≡ Ok tt
judged [] all = refl
judged (c ∷ cs) all = rw all.0 (judged cs all.1)

addressed_again : (plan : Scenario) → IsScenario plan → is_target_addressed (draft_for plan) ≡ true
addressed_again plan s =
    let by_name : DraftMessage → Bool = λ m. bytes_eq (draft_for plan).target_message m.name in
    let found = find_place by_name (draft_for plan).messages nothing (is_there plan s) in
    let to : (get_or (draft_for plan).messages (message_place (draft_for plan).target_message (draft_for plan).messages) nothing).to ≡ map (group_name_at plan) (message_at plan plan.target_message).destinations =
    ap (λ (k : ℕ). (get_or (draft_for plan).messages k nothing).to) (target_again plan s) ∙ ap (λ (m : DraftMessage). m.to) (get_or-map (draft_message plan) plan.multicasts plan.target_message no_message nothing s.target) in
    rw found (ap (is_among (draft_for plan).target_group) to ∙ among_named plan.groups plan.target_group (message_at plan plan.target_message).destinations s.group_names_differ (group_known plan s) (target_is plan s).known ∙ s.addressed)

delay_within : (time : Time) (delay : ℕ) → 1 ≤ delay → delay ≤ GREATEST_DELAY → (time ≡ Ticks → delay ≤ GREATEST_WHOLE_DELAY) → is_within 1 (greatest_delay time) (pos delay) ≡ true
delay_within Real delay low high whole = within_again 1 GREATEST_DELAY delay low high
delay_within Ticks delay low high whole = within_again 1 GREATEST_WHOLE_DELAY delay low (whole refl)

delay_again : (plan : Scenario) → IsScenario plan → is_within 1 (greatest_delay plan.time) (pos plan.delay) ≡ true
delay_again plan s = delay_within plan.time plan.delay s.delay_low s.delay_high s.delay_whole

waits_again : (at wait : ℕ) → at ≤ GREATEST_AT → wait ≤ LONGEST_WAIT → is_within (ticks GREATEST_AT (pos at)) (ticks GREATEST_AT (pos at) + LONGEST_WAIT) (pos (at + wait)) ≡ true
waits_again at wait low high = rw (ticks_again GREATEST_AT at low) (within_again at (at + LONGEST_WAIT) (at + wait) (omega arith) (omega (arith, high)))

pub passes_again : (plan : Scenario) → IsScenario plan → judge (checks (draft_for plan)) ≡ Ok tt
passes_again plan s =
    let each = all_drafts plan in
    let links = all_links plan in
    judged (checks (draft_for plan))
    (delay_again plan s, (count_again MOST_GROUPS plan.groups s.groups_low s.groups_high, (le-leb (length plan.places) MOST_PLACES s.places_high, (rw (length-map plan.multicasts (draft_message plan)) (count_again MOST_MULTICASTS plan.multicasts s.multicasts_low s.multicasts_high), (each (λ m. is_within 0 GREATEST_AT m.at) plan.multicasts s.messages (λ m is. within_again 0 GREATEST_AT m.at (omega arith) is.at), (each has_wait plan.multicasts s.messages (λ m is. waits_again m.at m.longest_wait is.at is.wait), (links (has_range (pos plan.delay)) plan.links s.links (λ l is. none_within l.least l.most plan.delay is.low is.ordered is.high), (s.tick, (all_true is_group_name plan.groups s.group_names, (all_true is_group_name plan.places s.place_names, (each (λ m. is_name m.name) plan.multicasts s.messages (λ m is. is.name), (differ plan.groups s.group_names_differ, (and_from _ _ (differ plan.places s.place_names_differ) (all_apart plan.groups plan.places s.places_apart), (messages_are plan plan.multicasts s.message_names_differ, (links_are plan plan.links s s.links None s.ascending, (each (knows plan.groups plan.places) plan.multicasts s.messages (λ m is. and_from _ _ (sender_known plan m.sender is.sender) (names_known plan.groups m.destinations is.known)), (among_at plan.groups plan.target_group (group_known plan s), (links (knows_link plan.groups plan.places) plan.links s.links (λ l is. and_from _ _ (sender_known plan l.sender is.sender) (among_at plan.groups l.to is.to)), (each (λ m. leb 1 (length m.to)) plan.multicasts s.messages (λ m is. rw (length-map m.destinations (group_name_at plan)) (le-leb 1 (length m.destinations) is.destinations)), (each (λ m. all_differ m.to) plan.multicasts s.messages (λ m is. names_differ plan.groups m.destinations 0 s.group_names_differ is.known (rises 0 m.destinations is.ascending (λ some. omega arith))), (is_there plan s, (addressed_again plan s, tt))))))))))))))))))))))

pub made_again : (plan : Scenario) → IsScenario plan → scenario_of_draft (draft_for plan) ≡ Ok plan
made_again plan s = rw (passes_again plan s) (ap with_room (draft_again plan s) ∙ with_room_is plan (room_from plan s.room))

-- The lines of a scenario are read again.
use Rattle.std.proofs.Common.{◌≡◌, ℕ, zero, suc, ◌+◌, ◌-◌, ◌<◌, ◌≤◌, ◌==◌, ◌&&◌, ◌||◌, not, true, false, leb, ltb, le-leb, List, [], ◌∷◌, ◌++◌, length, get_or, map, filter, All, Option, Some, None, Result, Ok, append_assoc, refl, ap, sym, ◌∙◌, arith, inl, inr, codes, decimal}
use Rattle.std.specs.List.{list_all, list_any, AllByRecursion}
use Rattle.std.specs.Str.{bytes_eq}
use Rattle.std.proofs.lemmas.Bool.{and_parts, and_from, cases_Bool, or_cases, or_from, or_parts, or_right, eqb-true, ne_eqb, leb-true, not-true, false≢true}
use Rattle.std.proofs.lemmas.Bool.Decides.{nat_tests}
use Rattle.std.proofs.lemmas.List.{nil_from_length}
use Rattle.std.proofs.lemmas.List.Elements.{All-head, All-tail, All-cons, All-get_or}
use Rattle.std.proofs.lemmas.Slice.Eq.{slice_eq-Decides, bytes_eq-Decides}
use Rattle.std.proofs.lemmas.Str.{IsUtf8-from_ascii, is_utf8-from_IsUtf8}
use Rattle.std.specs.Str.{IsAscii}
use Rattle.convoy_draft.specs.declared.limits.TheConstants.{MOST_LINKS, MOST_MULTICASTS}
use Rattle.convoy_scenario_lines.specs.declared.line_fault.Expected.{Expected}
use Rattle.convoy_scenario_lines.specs.declared.line_fault.Expected.TheVariants.{Delay, Groups, Link, Multicast, Target}
use Rattle.convoy_scenario_lines.specs.declared.line_fault.LineFault.{LineFault}
use Rattle.convoy_scenario_lines.specs.declared.version.Version.{Version}
use Rattle.convoy_scenario_lines.specs.declared.version.Version.TheVariants.{One, Two, Three}
use Rattle.convoy_draft.specs.declared.time.Time.{Time}
use Rattle.convoy_draft.specs.declared.time.Time.TheVariants.{Ticks, Real}
use Rattle.convoy_scenario.specs.declared.sender.Sender.{Sender}
use Rattle.convoy_scenario.specs.declared.sender.Sender.TheVariants.{Client, Group}
use Rattle.convoy_scenario.specs.Scenario as plans
use Rattle.convoy_scenario.specs.Scenario.{Scenario, Message, message_at, may_wait, has_own_stamps, is_timed, group_name_at, place_name_at, no_message}
use Rattle.convoy_scenario.specs.WellFormed.{IsSender, IsLink, IsMulticast, IsScenario}
use Rattle.convoy_draft.specs.Names.{is_letter, is_digit, is_name_byte, is_name, is_group_name, client_word}
use Rattle.convoy_draft.specs.Limits.{is_tick}
use Rattle.convoy_draft.specs.Checks.{is_among}
use Rattle.convoy_scenario_lines.specs.ScenarioLineLaws.{CanSayTime, CanSay}
use Rattle.convoy_draft.specs.Durations.{count_of, unit_of, unit_word}
use Rattle.convoy_draft.specs.declared.duration.TheConstants.{LONGEST_DURATION, MOST_UNITS}
use Rattle.convoy_scenario.specs.Numbering.{delay_of_draft, message_of, numbers_of, scenario_of, scenario_of_draft}
use Rattle.convoy_scenario_lines.specs.ScenarioLines.{time_lines, issue_word, tick_line, tick_lines, lines_from_delay, delay_line, groups_line, places_line, places_lines, link_line, stamps_words, multicast_line, target_line, scenario_lines}
use Rattle.convoy_lines.specs.Labels.{begins_with, number_in}
use Rattle.convoy_scenario_lines.specs.LineForms.{name_of, named_sender, greatest_delay_number, names_in, groups_in, places_in, link_in, multicast_in, target_in}
use Rattle.convoy_lines.specs.Texts.{line_of}
use Rattle.convoy_lines.specs.Words.{Lacks, words_of}
use Rattle.convoy_lines.specs.Results.{◌>>=◌}
use Rattle.convoy_lines.specs.Places.{Place, upcoming}
use Rattle.convoy_scenario_lines.specs.LineReading.{form_at, time_at, is_tick_due, tick_at, is_places_due, places_at, is_link_due, links_in, links_at, first_misplaced_link, is_multicast_due, messages_in, messages_at, told, is_ordered, first_unordered, where_ordered, scenario_at}
use Rattle.convoy_scenario.specs.Naming.{draft_for, draft_link, draft_message, sender_name, sender_word}
use Rattle.convoy_scenario.proofs.DraftAgain.{group_known, links_again, made_again}
use Rattle.convoy_scenario.proofs.FewLinks.{few_links}
use Rattle.convoy_scenario_lines.proofs.Issues.{CanWait, known_again, issue_is_word}
use Rattle.convoy_scenario_lines.proofs.OwnStamps.{CanHaveStamps, any_stamps, each_without, home_again, stamps_again, stamps_are_words}
use Rattle.convoy_scenario_lines.proofs.LinkOrder.{none_misplaced}
use Rattle.convoy_scenario_lines.proofs.Links.{no_more}
use Rattle.convoy_scenario_lines.proofs.TickLines.{tick_words, tick_again}
use Rattle.convoy_scenario_lines.proofs.ScenarioTakes.{SaysTime, CanNamePlaces, one_line, of_draft, named, count_lines, count_all, lines_before, after_time, after_tick, after_delay, after_groups, after_places, after_links, after_messages, after_target}
use Rattle.convoy_lines.specs.LineLaws.{IsWord}
use Rattle.convoy_lines.proofs.LabelLemmas.{label_again, number_line_again}
use Rattle.convoy_lines.proofs.Spelling.{AreWords, AreLines, lines_append, number_again, decimal_word, words_again, line_lacks, known_word}

-- ---- names are words

byte_between : (c : ℕ) → is_name_byte c ≡ true → (45 ≤ c) × (c < 128)
byte_between c e =
    elim (or_cases (is_letter c || is_digit c || c == 95) (c == 45) e) [
      | inl a ↦ elim (or_cases (is_letter c || is_digit c) (c == 95) a) [
        | inl b ↦ elim (or_cases (is_letter c) (is_digit c) b) [
          | inl letter ↦ let p = and_parts (leb 97 c) (leb c 122) letter in (omega (arith, leb-true 97 c p.0), omega (arith, leb-true c 122 p.1))
          | inr digit ↦ let p = and_parts (leb 48 c) (leb c 57) digit in (omega (arith, leb-true 48 c p.0), omega (arith, leb-true c 57 p.1))
        ]
        | inr underscore ↦ let is : c ≡ 95 = eqb-true c 95 underscore in (omega arith, omega arith)
      ]
      | inr dash ↦ let is : c ≡ 45 = eqb-true c 45 dash in (omega arith, omega arith)
    ]

bytes_lack : (byte : ℕ) (cs : List ℕ) → byte < 45 → list_all is_name_byte cs ≡ true → Lacks byte cs
bytes_lack byte [] low all = refl
bytes_lack byte (c ∷ cs) low all =
    let p = and_parts (is_name_byte c) (list_all is_name_byte cs) all in
    or_from _ _ (ne_eqb c byte (λ e. omega (arith, (byte_between c p.0).0))) (bytes_lack byte cs low p.1)

bytes_ascii : (cs : List ℕ) → list_all is_name_byte cs ≡ true → IsAscii cs
bytes_ascii [] all i = omega arith
bytes_ascii (c ∷ cs) all zero = let p = and_parts (is_name_byte c) (list_all is_name_byte cs) all in (byte_between c p.0).1
bytes_ascii (c ∷ cs) all (suc i) = let p = and_parts (is_name_byte c) (list_all is_name_byte cs) all in bytes_ascii cs p.1 i

letter_byte : (c : ℕ) → is_letter c ≡ true → is_name_byte c ≡ true
letter_byte c e = rw e refl

name_bytes : (name : List ℕ) → is_name name ≡ true → (0 < length name) × (list_all is_name_byte name ≡ true)
name_bytes [] e = absurd (false≢true e)
name_bytes (c ∷ cs) e =
    let p = and_parts (is_letter c && list_all is_name_byte cs) _ e in
    let q = and_parts (is_letter c) (list_all is_name_byte cs) p.0 in
    (omega arith, and_from _ _ (letter_byte c q.0) q.1)

name_word : (name : List ℕ) → is_name name ≡ true → IsWord name
name_word name e =
    let b = name_bytes name e in
    record { some = b.0; spaceless = bytes_lack 32 name (omega arith) b.1; endless = bytes_lack 10 name (omega arith) b.1 }

pub name_again : (name : List ℕ) → is_name name ≡ true → name_of name ≡ name
name_again name e =
    let utf8 = is_utf8-from_IsUtf8 name (IsUtf8-from_ascii name (bytes_ascii name (name_bytes name e).1)) in
    rw utf8 refl

group_name : (name : List ℕ) → is_group_name name ≡ true → (is_name name ≡ true) × (bytes_eq name client_word ≡ false)
group_name name e = let p = and_parts (is_name name) (not (bytes_eq name client_word)) e in (p.0, not-true _ p.1)

names_words : (names : List (List ℕ)) → All (λ name. is_group_name name ≡ true) names → AreWords names × (map name_of names ≡ names)
names_words [] all = (tt, refl)
names_words (n ∷ ns) all =
    let g = group_name n (All-head (λ name. is_group_name name ≡ true) n ns all) in
    let rest = names_words ns (All-tail (λ name. is_group_name name ≡ true) n ns all) in
    ((name_word n g.0, rest.0), rw (name_again n g.0, rest.1) refl)

at_numbers : (groups : List (List ℕ)) (ds : List ℕ) → All (λ name. is_group_name name ≡ true) groups → All (λ d. d < length groups) ds → All (λ name. is_group_name name ≡ true) (map (λ d. get_or groups d []) ds)
at_numbers groups [] all known = λ k d within. absurd (omega arith)
at_numbers groups (g ∷ ds) all known =
    All-cons (λ name. is_group_name name ≡ true) (get_or groups g []) (map (λ d. get_or groups d []) ds) (All-get_or (λ name. is_group_name name ≡ true) groups g [] (All-head (λ h. h < length groups) g ds known) all)
    (at_numbers groups ds all (All-tail (λ h. h < length groups) g ds known))

-- ---- lines

client_is : IsWord client_word
client_is = record { some = omega arith; spaceless = refl; endless = refl }

-- what is known of a tick that has a length
record IsLong (time : Time) (tick : ℕ) : Type 0 where
  real : time ≡ Real
  some : 1 ≤ tick
  short : tick ≤ LONGEST_DURATION
  few : count_of tick ≤ MOST_UNITS

long : (time : Time) (tick : ℕ) → is_tick time (Some tick) ≡ true → IsLong time tick
long Ticks tick e = absurd (false≢true e)
long Real tick e =
    let p = and_parts (leb 1 tick && leb tick LONGEST_DURATION) (leb (count_of tick) MOST_UNITS) e in
    let q = and_parts (leb 1 tick) (leb tick LONGEST_DURATION) p.0 in
    record { real = refl; some = leb-true 1 tick q.0; short = leb-true tick LONGEST_DURATION q.1; few = leb-true (count_of tick) MOST_UNITS p.1 }

-- a scenario of which nothing says how time goes is in whole ticks, no message may wait, no link is for stamps, too, and no place has a name
untimed : (plan : Scenario) (time : Time) → plan.time ≡ time → is_timed plan ≡ false → (time ≡ Ticks) × (list_any may_wait plan.multicasts ≡ false) × (has_own_stamps plan ≡ false) × (plan.places ≡ [])
untimed plan Ticks is e =
    let none : (list_any may_wait plan.multicasts || has_own_stamps plan || ltb 0 (length plan.places)) ≡ false = rw is at e in
    let whole = or_parts (list_any may_wait plan.multicasts || has_own_stamps plan) (ltb 0 (length plan.places)) none in
    let parts = or_parts (list_any may_wait plan.multicasts) (has_own_stamps plan) whole.0 in
    let placeless : length plan.places ≡ 0 = grind (arith, nat_tests, whole.1) in
    (refl, parts.0, parts.1, nil_from_length plan.places placeless)
untimed plan Real is e = let no : true ≡ false = rw is at e in absurd cc

says_time : (version : Version) (plan : Scenario) → CanSayTime version plan → SaysTime version plan.time
says_time One plan can = (untimed plan plan.time refl can).0
says_time Two plan can = (untimed plan plan.time refl can).0
says_time Three plan can = tt

-- each message of a scenario is issued at its first tick, where none may wait
each_stays : (ms : List Message) → list_any may_wait ms ≡ false → AllByRecursion (λ m. m.longest_wait ≡ 0) ms
each_stays [] e = tt
each_stays (m ∷ ms) e =
    let parts = or_parts (may_wait m) (list_any may_wait ms) e in
    let still : m.longest_wait ≡ 0 = grind (arith, nat_tests, parts.0) in
    (still, each_stays ms parts.1)

any_waits : (ms : List Message) → AllByRecursion (λ m. CanWait Three m.longest_wait) ms
any_waits [] = tt
any_waits (m ∷ ms) = (tt, any_waits ms)

can_wait : (version : Version) (plan : Scenario) → CanSayTime version plan → AllByRecursion (λ m. CanWait version m.longest_wait) plan.multicasts
can_wait One plan can = each_stays plan.multicasts (untimed plan plan.time refl can).1
can_wait Two plan can = each_stays plan.multicasts (untimed plan plan.time refl can).1
can_wait Three plan can = any_waits plan.multicasts

can_have_stamps : (version : Version) (plan : Scenario) → CanSayTime version plan → AllByRecursion (λ l. CanHaveStamps version l.stamps) plan.links
can_have_stamps One plan can = each_without plan.links (untimed plan plan.time refl can).2
can_have_stamps Two plan can = each_without plan.links (untimed plan plan.time refl can).2
can_have_stamps Three plan can = any_stamps plan.links

can_name_places : (version : Version) (plan : Scenario) → CanSayTime version plan → CanNamePlaces version plan.places
can_name_places One plan can = (untimed plan plan.time refl can).3
can_name_places Two plan can = (untimed plan plan.time refl can).3
can_name_places Three plan can = tt

delay_again : (plan : Scenario) → IsScenario plan → number_in (codes "delay") (delay_line plan) ≡ Some plan.delay
delay_again plan s = number_line_again (codes "delay") plan.delay (known_word (codes "delay") refl) (omega (arith, s.delay_high))

pub names_again : (label : List ℕ) (names : List (List ℕ)) → IsWord label → All (λ name. is_group_name name ≡ true) names → 1 ≤ length names → names_in label (line_of label names) ≡ Some names
names_again label names is all some =
    let words = names_words names all in
    rw (label_again label names is words.0, le-leb 1 (length names) some, words.1) refl

groups_again : (plan : Scenario) → IsScenario plan → groups_in (groups_line plan) ≡ Some plan.groups
groups_again plan s = names_again (codes "groups") plan.groups (known_word (codes "groups") refl) s.group_names s.groups_low

sender_is : (plan : Scenario) (s : Sender) → IsScenario plan → IsSender (length plan.groups) (length plan.places) s → IsWord (sender_word plan s) × (named_sender (sender_word plan s) ≡ sender_name plan s)
sender_is plan (Client p) s is =
    elim (cases_Bool (p == 0)) [
      | inl none ↦ rw none (client_is, refl)
      | inr some ↦
          let above : 0 < p = grind (arith, nat_tests, some) in
          let within : p - 1 < length plan.places = omega (arith, is) in
          let n = group_name (place_name_at plan p) (All-get_or (λ name. is_group_name name ≡ true) plan.places (p - 1) [] within s.place_names) in
          rw some (name_word (place_name_at plan p) n.0, rw (n.1, name_again (place_name_at plan p) n.0) refl)
    ]
sender_is plan (Group g) s is =
    let n = group_name (group_name_at plan g) (All-get_or (λ name. is_group_name name ≡ true) plan.groups g [] is s.group_names) in
    (name_word (group_name_at plan g) n.0, rw (n.1, name_again (group_name_at plan g) n.0) refl)

link_words : (plan : Scenario) (l : plans.Link) → IsScenario plan → IsLink (length plan.groups) (length plan.places) plan.delay l → AreWords (sender_word plan l.sender ∷ group_name_at plan l.to ∷ decimal l.least ∷ decimal l.most ∷ stamps_words l.stamps)
link_words plan l s is =
    let to = group_name (group_name_at plan l.to) (All-get_or (λ name. is_group_name name ≡ true) plan.groups l.to [] is.to s.group_names) in
    let sender = sender_is plan l.sender s is.sender in
    (sender.0, (name_word (group_name_at plan l.to) to.0, (decimal_word l.least (omega (arith, is.ordered, is.high, s.delay_high)), (decimal_word l.most (omega (arith, is.high, s.delay_high)), stamps_are_words l.stamps))))

link_line_again : (version : Version) (plan : Scenario) (l : plans.Link) → IsScenario plan → IsLink (length plan.groups) (length plan.places) plan.delay l → CanHaveStamps version l.stamps → link_in version (link_line plan l) ≡ Some (draft_link plan l)
link_line_again version plan l s is can =
    let to = group_name (group_name_at plan l.to) (All-get_or (λ name. is_group_name name ≡ true) plan.groups l.to [] is.to s.group_names) in
    let sender = sender_is plan l.sender s is.sender in
    let words = label_again (codes "link") (sender_word plan l.sender ∷ group_name_at plan l.to ∷ decimal l.least ∷ decimal l.most ∷ stamps_words l.stamps) (known_word (codes "link") refl) (link_words plan l s is) in
    rw (words, number_again greatest_delay_number l.least (omega arith) (omega (arith, is.ordered, is.high, s.delay_high)), number_again greatest_delay_number l.most (omega arith) (omega (arith, is.high, s.delay_high)), stamps_again version l.stamps can, sender.1, name_again (group_name_at plan l.to) to.0, home_again plan l.sender l.to l.stamps is.stamps) refl

-- the words of a line `multicast`
message_words : (plan : Scenario) (m : Message) → IsScenario plan → IsMulticast (length plan.groups) (length plan.places) m → AreWords (m.name ∷ sender_word plan m.sender ∷ issue_word m.at m.longest_wait ∷ map (group_name_at plan) m.destinations)
message_words plan m s is =
    let sender = sender_is plan m.sender s is.sender in
    let to = names_words (map (group_name_at plan) m.destinations) (at_numbers plan.groups m.destinations s.group_names is.known) in
    (name_word m.name is.name, (sender.0, (issue_is_word m.at m.longest_wait (omega (arith, is.at, is.wait)), to.0)))

pub message_line_again : (version : Version) (plan : Scenario) (m : Message) → IsScenario plan → IsMulticast (length plan.groups) (length plan.places) m → CanWait version m.longest_wait → multicast_in version (multicast_line plan m) ≡ Some (draft_message plan m)
message_line_again version plan m s is can =
    let sender = sender_is plan m.sender s is.sender in
    let to = names_words (map (group_name_at plan) m.destinations) (at_numbers plan.groups m.destinations s.group_names is.known) in
    let words = label_again (codes "multicast") (m.name ∷ sender_word plan m.sender ∷ issue_word m.at m.longest_wait ∷ map (group_name_at plan) m.destinations) (known_word (codes "multicast") refl) (message_words plan m s is) in
    rw (words, known_again version m.at m.longest_wait (omega (arith, is.at, is.wait)) can, name_again m.name is.name, sender.1, to.1) refl

target_name_is : (plan : Scenario) → IsScenario plan → is_name (message_at plan plan.target_message).name ≡ true
target_name_is plan s = (All-get_or (IsMulticast (length plan.groups) (length plan.places)) plan.multicasts plan.target_message no_message s.target s.messages).name

target_line_again : (plan : Scenario) → IsScenario plan → plan.target_group < length plan.groups → target_in (target_line plan) ≡ Some ((message_at plan plan.target_message).name, group_name_at plan plan.target_group)
target_line_again plan s within =
    let m = target_name_is plan s in
    let g = group_name (group_name_at plan plan.target_group) (All-get_or (λ name. is_group_name name ≡ true) plan.groups plan.target_group [] within s.group_names) in
    rw (label_again (codes "target") ((message_at plan plan.target_message).name ∷ group_name_at plan plan.target_group ∷ []) (known_word (codes "target") refl) (name_word _ m, (name_word _ g.0, tt)), name_again _ m, name_again _ g.0) refl

-- ---- lines, one after another

-- the scenario of its draft
numbered_again : (plan : Scenario) → IsScenario plan → scenario_of (draft_for plan) ≡ plan
numbered_again plan s = (of_draft (draft_for plan) plan (ap told (made_again plan s))).1

ordered_again : (plan : Scenario) (m : Message) → message_of plan.groups plan.places (draft_message plan m) ≡ m → is_ordered plan.groups (draft_message plan m) ≡ true
ordered_again plan m again =
    let to : List (List ℕ) = map (group_name_at plan) m.destinations in
    let numbers : numbers_of plan.groups to ≡ m.destinations = ap (λ (n : Message). n.destinations) again in
    let listed : filter (λ group. is_among group to) plan.groups ≡ to =
    sym (named plan.groups to) ∙ ap (map (λ g. get_or plan.groups g [])) numbers in
    (slice_eq-Decides bytes_eq-Decides to (filter (λ group. is_among group to) plan.groups) _ refl).1 (sym listed)

none_unordered : (plan : Scenario) (number : ℕ) (ms : List Message) → map (message_of plan.groups plan.places) (map (draft_message plan) ms) ≡ ms → first_unordered plan.groups number (map (draft_message plan) ms) ≡ None
none_unordered plan number [] again = refl
none_unordered plan number (m ∷ ms) again =
    let first : message_of plan.groups plan.places (draft_message plan m) ≡ m = cc in
    let rest : map (message_of plan.groups plan.places) (map (draft_message plan) ms) ≡ ms = cc in
    rw (ordered_again plan m first) (none_unordered plan (number + 1) ms rest)

begins : (plan : Scenario) (m : Message) → IsScenario plan → IsMulticast (length plan.groups) (length plan.places) m → begins_with (codes "multicast") (words_of (multicast_line plan m)) ≡ true
begins plan m s is =
    ap (begins_with (codes "multicast")) (words_again (codes "multicast") (m.name ∷ sender_word plan m.sender ∷ issue_word m.at m.longest_wait ∷ map (group_name_at plan) m.destinations) refl (message_words plan m s is))

not_due : (plan : Scenario) → IsScenario plan → plan.target_group < length plan.groups → (n : ℕ) → 0 < n → is_multicast_due n (target_line plan) ≡ false
not_due plan s within n some =
    let m = target_name_is plan s in
    let g = group_name (group_name_at plan plan.target_group) (All-get_or (λ name. is_group_name name ≡ true) plan.groups plan.target_group [] within s.group_names) in
    let words = words_again (codes "target") ((message_at plan plan.target_message).name ∷ group_name_at plan plan.target_group ∷ []) refl (name_word _ m, (name_word _ g.0, tt)) in
    or_from (n == 0) (begins_with (codes "multicast") (words_of (target_line plan))) (ne_eqb n 0 (λ e. omega arith)) (ap (begins_with (codes "multicast")) words)

-- a line `multicast` is no line `link`
begins_otherwise : (plan : Scenario) (m : Message) → IsScenario plan → IsMulticast (length plan.groups) (length plan.places) m → begins_with (codes "link") (words_of (multicast_line plan m)) ≡ false
begins_otherwise plan m s is =
    ap (begins_with (codes "link")) (words_again (codes "multicast") (m.name ∷ sender_word plan m.sender ∷ issue_word m.at m.longest_wait ∷ map (group_name_at plan) m.destinations) refl (message_words plan m s is))

no_link : (plan : Scenario) (m : Message) → IsScenario plan → IsMulticast (length plan.groups) (length plan.places) m → (version : Version) → is_link_due version (multicast_line plan m) ≡ false
no_link plan m s is One = refl
no_link plan m s is Two = begins_otherwise plan m s is
no_link plan m s is Three = begins_otherwise plan m s is

-- the first line after those of the links
none_due : (plan : Scenario) (ms : List Message) (t : List ℕ) (more : List (List ℕ)) (rest : List ℕ) (number : ℕ) (version : Version) → IsScenario plan → All (IsMulticast (length plan.groups) (length plan.places)) ms → 1 ≤ length ms
    → is_link_due version (upcoming (record { ended = map (multicast_line plan) ms ++ t ∷ more; rest = rest; number = number })) ≡ false
none_due plan [] t more rest number version s are some = absurd (omega arith)
none_due plan (m ∷ ms) t more rest number version s are some = no_link plan m s (All-head (IsMulticast (length plan.groups) (length plan.places)) m ms are) version

-- the line after those of the places
no_places : (plan : Scenario) (ls : List plans.Link) (ms : List Message) (t : List ℕ) (more : List (List ℕ)) (rest : List ℕ) (number : ℕ) (version : Version) → IsScenario plan
    → All (IsLink (length plan.groups) (length plan.places) plan.delay) ls → All (IsMulticast (length plan.groups) (length plan.places)) ms → 1 ≤ length ms
    → is_places_due version (upcoming (record { ended = map (link_line plan) ls ++ (map (multicast_line plan) ms ++ t ∷ more); rest = rest; number = number })) ≡ false
no_places plan ls ms t more rest number One s linked are some = refl
no_places plan ls ms t more rest number Two s linked are some = refl
no_places plan (l ∷ ls) ms t more rest number Three s linked are some =
    let words = link_words plan l s (All-head (IsLink (length plan.groups) (length plan.places) plan.delay) l ls linked) in
    ap (begins_with (codes "places")) (words_again (codes "link") (sender_word plan l.sender ∷ group_name_at plan l.to ∷ decimal l.least ∷ decimal l.most ∷ stamps_words l.stamps) refl words)
no_places plan [] [] t more rest number Three s linked are some = absurd (omega arith)
no_places plan [] (m ∷ ms) t more rest number Three s linked are some =
    let words = message_words plan m s (All-head (IsMulticast (length plan.groups) (length plan.places)) m ms are) in
    ap (begins_with (codes "places")) (words_again (codes "multicast") (m.name ∷ sender_word plan m.sender ∷ issue_word m.at m.longest_wait ∷ map (group_name_at plan) m.destinations) refl words)

-- the line of the places, if there is one
places_again : (version : Version) (places : List (List ℕ)) (number : ℕ) (rest : List ℕ) (more : List (List ℕ)) → All (λ name. is_group_name name ≡ true) places → CanNamePlaces version places
    → is_places_due version (upcoming (record { ended = more; rest = rest; number = number })) ≡ false
    → places_at version (record { ended = places_lines places ++ more; rest = rest; number = number }) ≡ Ok (places, record { ended = more; rest = rest; number = number + length (places_lines places) })
places_again version [] number rest more all can other =
    let z : number + 0 ≡ number = omega arith in
    rw (other, z) refl
places_again One (name ∷ names) number rest more all can other = absurd cc
places_again Two (name ∷ names) number rest more all can other = absurd cc
places_again Three (name ∷ names) number rest more all can other =
    let places : List (List ℕ) = name ∷ names in
    let some : 1 ≤ length places = omega arith in
    let read : places_in (places_line places) ≡ Some places = names_again (codes "places") places (known_word (codes "places") refl) all some in
    let lines : places_at Three (record { ended = places_line places ∷ more; rest = rest; number = number }) ≡ Ok (places, record { ended = more; rest = rest; number = number + 1 }) = rw read refl in
    rw (one_line places some) lines

link_begins : (plan : Scenario) (l : plans.Link) → IsScenario plan → IsLink (length plan.groups) (length plan.places) plan.delay l → begins_with (codes "link") (words_of (link_line plan l)) ≡ true
link_begins plan l s is =
    ap (begins_with (codes "link")) (words_again (codes "link") (sender_word plan l.sender ∷ group_name_at plan l.to ∷ decimal l.least ∷ decimal l.most ∷ stamps_words l.stamps) refl (link_words plan l s is))

lines_of_links : (version : Version) → ((line : List ℕ) → is_link_due version line ≡ begins_with (codes "link") (words_of line)) → (plan : Scenario) (ls : List plans.Link) (lines : List (List ℕ)) (rest : List ℕ) (count number : ℕ) → IsScenario plan → All (IsLink (length plan.groups) (length plan.places) plan.delay) ls → AllByRecursion (λ l. CanHaveStamps version l.stamps) ls
    → ((n : ℕ) → is_link_due version (upcoming (record { ended = lines; rest = rest; number = n })) ≡ false) → count + length ls ≤ MOST_LINKS
    → links_in version count number rest (map (link_line plan) ls ++ lines) ≡ Ok (map (draft_link plan) ls, record { ended = lines; rest = rest; number = number + length ls })
unfolding links_in
lines_of_links version has plan [] lines rest count number s are can other few =
    let e : number + 0 ≡ number = omega arith in
    rw e (no_more version count (record { ended = lines; rest = rest; number = number }) (other number))
lines_of_links version has plan (l ∷ ls) lines rest count number s are can other few =
    let is = All-head (IsLink (length plan.groups) (length plan.places) plan.delay) l ls are in
    let e : number + suc (length ls) ≡ (number + 1) + length ls = omega arith in
    let below : (count == MOST_LINKS) ≡ false = ne_eqb count MOST_LINKS (λ e. omega arith) in
    rw (has (link_line plan l) ∙ link_begins plan l s is, link_line_again version plan l s is can.0, below, lines_of_links version has plan ls lines rest (count + 1) (number + 1) s (All-tail (IsLink (length plan.groups) (length plan.places) plan.delay) l ls are) can.1 other (omega arith), e) refl

pub links_read : (version : Version) (plan : Scenario) (t : List ℕ) (more : List (List ℕ)) (rest : List ℕ) (number : ℕ) → IsScenario plan → CanSay version plan
    → links_in version 0 number rest (map (link_line plan) plan.links ++ (map (multicast_line plan) plan.multicasts ++ t ∷ more))
    ≡ Ok (map (draft_link plan) plan.links, record { ended = map (multicast_line plan) plan.multicasts ++ t ∷ more; rest = rest; number = number + length plan.links })
links_read One plan t more rest number s said =
    let lines = map (multicast_line plan) plan.multicasts ++ t ∷ more in
    let e : number + 0 ≡ number = omega arith in
    rw (said.links, e) (no_more One 0 (record { ended = lines; rest = rest; number = number }) refl)
links_read Two plan t more rest number s said =
    lines_of_links Two (λ line. refl) plan plan.links (map (multicast_line plan) plan.multicasts ++ t ∷ more) rest 0 number s s.links (can_have_stamps Two plan said.time) (λ n. none_due plan plan.multicasts t more rest n Two s s.messages s.multicasts_low)
    (omega (arith, few_links plan s))
links_read Three plan t more rest number s said =
    lines_of_links Three (λ line. refl) plan plan.links (map (multicast_line plan) plan.multicasts ++ t ∷ more) rest 0 number s s.links (can_have_stamps Three plan said.time) (λ n. none_due plan plan.multicasts t more rest n Three s s.messages s.multicasts_low)
    (omega (arith, few_links plan s))

-- no link is out of order
none_astray : (plan : Scenario) (number : ℕ) → IsScenario plan → first_misplaced_link number (draft_for plan) ≡ None
none_astray plan number s =
    let delay : delay_of_draft (draft_for plan) ≡ plan.delay = ap (λ (p : Scenario). p.delay) (numbered_again plan s) in
    rw (delay, links_again plan plan.links s s.links) (none_misplaced (length plan.groups) (length plan.places) plan.delay None number plan.links s.ascending s.links)

messages_again : (version : Version) (plan : Scenario) (ms : List Message) (t : List ℕ) (more : List (List ℕ)) (rest : List ℕ) (count number : ℕ) → IsScenario plan → All (IsMulticast (length plan.groups) (length plan.places)) ms → AllByRecursion (λ m. CanWait version m.longest_wait) ms
    → ((n : ℕ) → 0 < n → is_multicast_due n t ≡ false) → count + length ms ≤ MOST_MULTICASTS → 0 < count + length ms
    → messages_in version count number rest (map (multicast_line plan) ms ++ t ∷ more) ≡ Ok (map (draft_message plan) ms, record { ended = t ∷ more; rest = rest; number = number + length ms })
unfolding messages_in
messages_again version plan [] t more rest count number s are can other few some =
    let e : number + 0 ≡ number = omega arith in
    rw (other count (omega arith), e) refl
messages_again version plan (m ∷ ms) t more rest count number s are can other few some =
    let is = All-head (IsMulticast (length plan.groups) (length plan.places)) m ms are in
    let due : is_multicast_due count (multicast_line plan m) ≡ true = or_right (count == 0) _ (begins plan m s is) in
    let below : (count == MOST_MULTICASTS) ≡ false = ne_eqb count MOST_MULTICASTS (λ e. omega arith) in
    let e : number + suc (length ms) ≡ (number + 1) + length ms = omega arith in
    rw (due, message_line_again version plan m s is can.0, below, messages_again version plan ms t more rest (count + 1) (number + 1) s (All-tail (IsMulticast (length plan.groups) (length plan.places)) m ms are) can.1 other (omega arith) (omega arith), e) refl

then_ok : {A B : Type 0} (r : Result A LineFault) (f : A → Result B LineFault) (x : A) (y : Result B LineFault) → r ≡ Ok x → f x ≡ y → (r >>= f) ≡ y
then_ok r f x y e g = ap (λ z. z >>= f) e ∙ g

form_again : {A : Type 0} (expected : Expected) (form : List ℕ → Option A) (number : ℕ) (rest line : List ℕ) (lines : List (List ℕ)) (x : A) → form line ≡ Some x
    → form_at expected form (record { ended = line ∷ lines; rest = rest; number = number }) ≡ Ok (x, record { ended = lines; rest = rest; number = number + 1 })
form_again expected form number rest line lines x e = rw e refl

-- the line of time, if there is one
time_again : (version : Version) (time : Time) (number : ℕ) (rest : List ℕ) (ls more : List (List ℕ)) → SaysTime version time
    → time_at version (record { ended = (time_lines version time ++ ls) ++ more; rest = rest; number = number }) ≡ Ok (time, record { ended = ls ++ more; rest = rest; number = number + length (time_lines version time) })
time_again One time number rest ls more is = let e : number + 0 ≡ number = omega arith in rw (is, e) refl
time_again Two time number rest ls more is = let e : number + 0 ≡ number = omega arith in rw (is, e) refl
time_again Three Ticks number rest ls more is = refl
time_again Three Real number rest ls more is = refl

-- the line `delay` is no line `tick`
no_tick : (version : Version) (plan : Scenario) → IsScenario plan → is_tick_due version (delay_line plan) ≡ false
no_tick One plan s = refl
no_tick Two plan s = refl
no_tick Three plan s =
    ap (begins_with (codes "tick")) (words_again (codes "delay") (decimal plan.delay ∷ []) refl (decimal_word plan.delay (omega (arith, s.delay_high)), tt))

tick_due : (version : Version) (time : Time) (tick : ℕ) → SaysTime version time → IsLong time tick → is_tick_due version (tick_line tick) ≡ true
tick_due One time tick said is = let no : Ticks ≡ Real = sym said ∙ is.real in absurd cc
tick_due Two time tick said is = let no : Ticks ≡ Real = sym said ∙ is.real in absurd cc
tick_due Three time tick said is =
    ap (begins_with (codes "tick")) (words_again (codes "tick") (decimal (count_of tick) ∷ unit_word (unit_of tick) ∷ []) refl (tick_words tick is.few))

-- the line of a tick's length, if there is one
length_again : (version : Version) (plan : Scenario) (tick : Option ℕ) (number : ℕ) (rest : List ℕ) (more : List (List ℕ)) → IsScenario plan → SaysTime version plan.time → is_tick plan.time tick ≡ true
    → tick_at version (record { ended = tick_lines tick ++ delay_line plan ∷ more; rest = rest; number = number }) ≡ Ok (tick, record { ended = delay_line plan ∷ more; rest = rest; number = number + length (tick_lines tick) })
length_again version plan None number rest more s said e =
    let z : number + 0 ≡ number = omega arith in
    rw (no_tick version plan s, z) refl
length_again version plan (Some tick) number rest more s said e =
    let is = long plan.time tick e in
    rw (tick_due version plan.time tick said is, tick_again tick is.some is.short is.few) refl

pub scenario_again : (version : Version) (plan : Scenario) (number : ℕ) (rest : List ℕ) (more : List (List ℕ)) → IsScenario plan → CanSay version plan
    → scenario_at version (record { ended = scenario_lines version plan ++ more; rest = rest; number = number }) ≡ Ok (plan, record { ended = more; rest = rest; number = number + length (scenario_lines version plan) })
unfolding scenario_at
scenario_again version plan number rest more s said =
    let within = group_known plan s in
    let time = says_time version plan said.time in
    let ms = map (draft_message plan) plan.multicasts in
    let ls = map (draft_link plan) plan.links in
    let target : List ℕ × List ℕ = ((message_at plan plan.target_message).name, group_name_at plan plan.target_group) in
    let count = length plan.multicasts in
    let many = length plan.links in
    let lines : List (List ℕ) = map (multicast_line plan) plan.multicasts ++ target_line plan ∷ more in
    let linked : List (List ℕ) = map (link_line plan) plan.links ++ lines in
    let placed : List (List ℕ) = places_lines plan.places ++ linked in
    let named = length (places_lines plan.places) in
    let second = number + length (time_lines version plan.time) in
    let first = second + length (tick_lines plan.tick) in
    let start : Place = record { ended = scenario_lines version plan ++ more; rest = rest; number = number } in
    let q0 : Place = record { ended = tick_lines plan.tick ++ delay_line plan ∷ groups_line plan ∷ placed; rest = rest; number = second } in
    let p0 : Place = record { ended = delay_line plan ∷ groups_line plan ∷ placed; rest = rest; number = first } in
    let p1 : Place = record { ended = groups_line plan ∷ placed; rest = rest; number = first + 1 } in
    let q2 : Place = record { ended = placed; rest = rest; number = first + 1 + 1 } in
    let p2 : Place = record { ended = linked; rest = rest; number = first + 1 + 1 + named } in
    let p3 : Place = record { ended = lines; rest = rest; number = first + 1 + 1 + named + many } in
    let p4 : Place = record { ended = target_line plan ∷ more; rest = rest; number = first + 1 + 1 + named + many + count } in
    let p5 : Place = record { ended = more; rest = rest; number = first + 1 + 1 + named + many + count + 1 } in
    let timed : time_at version start ≡ Ok (plan.time, q0) =
    time_again version plan.time number rest (tick_lines plan.tick ++ lines_from_delay plan) more time
    ∙ ap (λ (ls : List (List ℕ)). Ok (plan.time, record { ended = ls; rest = rest; number = second }))
    (append_assoc (tick_lines plan.tick) (lines_from_delay plan) more ∙ ap (λ ls. tick_lines plan.tick ++ ls) (lines_before plan more)) in
    let read : scenario_at version start ≡ Ok (plan, p5) =
    then_ok (time_at version start) (after_time version)
    (plan.time, q0) (Ok (plan, p5)) timed
    (then_ok (tick_at version q0) (after_tick version plan.time)
    (plan.tick, p0) (Ok (plan, p5)) (length_again version plan plan.tick second rest (groups_line plan ∷ placed) s time s.tick)
    (then_ok (form_at Delay (number_in (codes "delay")) p0) (after_delay version plan.time plan.tick)
    (plan.delay, p1) (Ok (plan, p5)) (form_again Delay (number_in (codes "delay")) first rest (delay_line plan) (groups_line plan ∷ placed) plan.delay (delay_again plan s))
    (then_ok (form_at Groups groups_in p1) (after_groups version plan.time plan.tick plan.delay)
    (plan.groups, q2) (Ok (plan, p5)) (form_again Groups groups_in (first + 1) rest (groups_line plan) placed plan.groups (groups_again plan s))
    (then_ok (places_at version q2) (after_places version plan.time plan.tick plan.delay plan.groups)
    (plan.places, p2) (Ok (plan, p5)) (places_again version plan.places q2.number rest linked s.place_names (can_name_places version plan said.time) (no_places plan plan.links plan.multicasts (target_line plan) more rest q2.number version s s.links s.messages s.multicasts_low))
    (then_ok (links_at version 0 p2) (after_links version plan.time plan.tick plan.delay p2.number plan.groups plan.places)
    (ls, p3) (Ok (plan, p5)) (links_read version plan (target_line plan) more rest p2.number s said)
    (then_ok (messages_at version 0 p3) (after_messages plan.time plan.tick plan.delay p2.number plan.groups plan.places ls p3.number)
    (ms, p4) (Ok (plan, p5)) (messages_again version plan plan.multicasts (target_line plan) more rest 0 p3.number s s.messages (can_wait version plan said.time) (not_due plan s within) (omega (arith, s.multicasts_high)) (omega (arith, s.multicasts_low)))
    (then_ok (form_at Target target_in p4) (after_target plan.time plan.tick plan.delay p2.number plan.groups plan.places ls p3.number ms)
    (target, p5) (Ok (plan, p5)) (form_again Target target_in p4.number rest (target_line plan) more target (target_line_again plan s within))
    (then_ok (told (scenario_of_draft (draft_for plan))) (λ plan'. where_ordered Link (first_misplaced_link p2.number (draft_for plan)) plan' >>= λ linked. where_ordered Multicast (first_unordered plan.groups p3.number ms) linked >>= λ ordered. Ok (ordered, p5))
    plan (Ok (plan, p5)) (ap told (made_again plan s))
    (ap (λ o. where_ordered Link o plan >>= λ linked. where_ordered Multicast (first_unordered plan.groups p3.number ms) linked >>= λ ordered. Ok (ordered, p5)) (none_astray plan p2.number s)
    ∙ ap (λ o. where_ordered Multicast o plan >>= λ ordered. Ok (ordered, p5)) (none_unordered plan p3.number plan.multicasts (ap (λ (p : Scenario). p.multicasts) (numbered_again plan s)))))))))))) in
    let past : p5.number ≡ number + length (scenario_lines version plan) = omega (arith, count_lines plan, count_all version plan) in
    read ∙ ap (λ n. Ok (plan, record { ended = more; rest = rest; number = n })) past

-- ---- no line has a byte 10 in it

message_lines : (plan : Scenario) (ms : List Message) → IsScenario plan → All (IsMulticast (length plan.groups) (length plan.places)) ms → AreLines (map (multicast_line plan) ms)
message_lines plan [] s are = tt
message_lines plan (m ∷ ms) s are =
    let words = message_words plan m s (All-head (IsMulticast (length plan.groups) (length plan.places)) m ms are) in (
      line_lacks (codes "multicast") (m.name ∷ sender_word plan m.sender ∷ issue_word m.at m.longest_wait ∷ map (group_name_at plan) m.destinations) refl words,
      message_lines plan ms s (All-tail (IsMulticast (length plan.groups) (length plan.places)) m ms are),
    )

link_lines : (plan : Scenario) (ls : List plans.Link) → IsScenario plan → All (IsLink (length plan.groups) (length plan.places) plan.delay) ls → AreLines (map (link_line plan) ls)
link_lines plan [] s are = tt
link_lines plan (l ∷ ls) s are =
    let is = All-head (IsLink (length plan.groups) (length plan.places) plan.delay) l ls are in
    (line_lacks (codes "link") (sender_word plan l.sender ∷ group_name_at plan l.to ∷ decimal l.least ∷ decimal l.most ∷ stamps_words l.stamps) refl (link_words plan l s is), link_lines plan ls s (All-tail (IsLink (length plan.groups) (length plan.places) plan.delay) l ls are))

places_lines_are : (places : List (List ℕ)) → All (λ name. is_group_name name ≡ true) places → AreLines (places_lines places)
places_lines_are [] all = tt
places_lines_are (name ∷ names) all =
    let places : List (List ℕ) = name ∷ names in
    rw (one_line places (omega arith)) (line_lacks (codes "places") places refl (names_words places all).0, tt)

time_lines_are : (version : Version) (time : Time) → AreLines (time_lines version time)
time_lines_are One time = tt
time_lines_are Two time = tt
time_lines_are Three Ticks = (refl, tt)
time_lines_are Three Real = (refl, tt)

tick_lines_are : (time : Time) (tick : Option ℕ) → is_tick time tick ≡ true → AreLines (tick_lines tick)
tick_lines_are time None e = tt
tick_lines_are time (Some tick) e = (line_lacks (codes "tick") (decimal (count_of tick) ∷ unit_word (unit_of tick) ∷ []) refl (tick_words tick (long time tick e).few), tt)

lines_from_delay_are : (plan : Scenario) → IsScenario plan → plan.target_group < length plan.groups → AreLines (lines_from_delay plan)
lines_from_delay_are plan s within =
    let m = target_name_is plan s in
    let g = group_name (group_name_at plan plan.target_group) (All-get_or (λ name. is_group_name name ≡ true) plan.groups plan.target_group [] within s.group_names) in
    let target : Lacks 10 (target_line plan) = line_lacks (codes "target") ((message_at plan plan.target_message).name ∷ group_name_at plan plan.target_group ∷ []) refl (name_word _ m, (name_word _ g.0, tt)) in (
      line_lacks (codes "delay") (decimal plan.delay ∷ []) refl (decimal_word plan.delay (omega (arith, s.delay_high)), tt),
      (
        line_lacks (codes "groups") plan.groups refl (names_words plan.groups s.group_names).0,
        lines_append (places_lines plan.places) (map (link_line plan) plan.links ++ (map (multicast_line plan) plan.multicasts ++ target_line plan ∷ [])) (places_lines_are plan.places s.place_names)
            (lines_append (map (link_line plan) plan.links) (map (multicast_line plan) plan.multicasts ++ target_line plan ∷ []) (link_lines plan plan.links s s.links)
            (lines_append (map (multicast_line plan) plan.multicasts) (target_line plan ∷ []) (message_lines plan plan.multicasts s s.messages) (target, tt))),
      ),
    )

pub scenario_lines_are : (version : Version) (plan : Scenario) → IsScenario plan → AreLines (scenario_lines version plan)
scenario_lines_are version plan s =
    lines_append (time_lines version plan.time) (tick_lines plan.tick ++ lines_from_delay plan) (time_lines_are version plan.time)
    (lines_append (tick_lines plan.tick) (lines_from_delay plan) (tick_lines_are plan.time plan.tick s.tick) (lines_from_delay_are plan s (group_known plan s)))

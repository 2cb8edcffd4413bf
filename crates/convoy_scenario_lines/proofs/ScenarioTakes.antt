-- A scenario that is read from lines: the lines are those of the scenario.
use Rattle.std.proofs.Common.{◌≡◌, ℕ, ℤ, pos, negsuc, int_le, ◌&&◌, ◌||◌, ◌+◌, ◌-◌, ◌<◌, ◌≤◌, ◌==◌, if◌then◌else◌, Bool, true, false, cond, leb, ltb, List, [], ◌∷◌, ◌++◌, length, get_or, map, filter, Option, Some, None, ok_or, Result, Ok, Err, refl, ap, sym, subst, ◌∙◌, arith, inl, inr, codes, decimal, add-zero, add-one, append_assoc}
use Rattle.std.specs.List.{list_all, list_any, AllByRecursion, AllZip, range_with_len}
use Rattle.std.specs.Str.{bytes_eq}
use Rattle.std.proofs.lemmas.Bool.{and_parts, and_from, cases_Bool, false≢true, le-leb, leb-true, ne_eqb, or_from}
use Rattle.std.proofs.lemmas.List.{length-append, length-map}
use Rattle.std.proofs.lemmas.Option.{same_Some}
use Rattle.std.proofs.lemmas.Slice.Eq.{slice_eq-Decides, bytes_eq-Decides}
use Rattle.convoy_draft.specs.declared.fault.ScenarioFault.{ScenarioFault}
use Rattle.convoy_draft.specs.declared.limits.TheConstants.{GREATEST_AT, GREATEST_DELAY, GREATEST_UNTIL, GREATEST_WHOLE_DELAY, LONGEST_WAIT, MOST_LINKS, MOST_MULTICASTS}
use Rattle.convoy_scenario_lines.specs.declared.line_fault.Expected.{Expected}
use Rattle.convoy_scenario_lines.specs.declared.line_fault.Expected.TheVariants as expected
use Rattle.convoy_scenario_lines.specs.declared.line_fault.Expected.TheVariants.{Tick, Delay, Groups, Places, Link, Multicast, Target}
use Rattle.convoy_scenario_lines.specs.declared.line_fault.LineFault.{LineFault}
use Rattle.convoy_scenario_lines.specs.declared.line_fault.LineFault.TheVariants as faults
use Rattle.convoy_scenario_lines.specs.declared.version.Version.{Version}
use Rattle.convoy_scenario_lines.specs.declared.version.Version.TheVariants.{One, Two, Three}
use Rattle.convoy_draft.specs.declared.time.Time.{Time}
use Rattle.convoy_draft.specs.declared.time.Time.TheVariants.{Ticks, Real}
use Rattle.convoy_draft.specs.declared.fault.ScenarioFault.TheVariants.{OverLimit}
use Rattle.convoy_draft.specs.declared.fault.Limit.TheVariants as limit
use Rattle.convoy_draft.specs.Draft.{Draft, DraftLink, DraftMessage}
use Rattle.convoy_scenario.specs.declared.sender.Sender.TheVariants.{Client}
use Rattle.convoy_scenario.specs.Naming.{sender_word}
use Rattle.convoy_scenario.specs.Room.{has_room}
use Rattle.convoy_scenario.specs.Scenario.{Scenario, message_at, may_wait, is_timed, has_own_stamps}
use Rattle.convoy_scenario.specs.WellFormed.{IsScenario}
use Rattle.convoy_draft.specs.Names.{is_name, is_group_name, client_word}
use Rattle.convoy_draft.specs.Limits.{greatest_delay}
use Rattle.convoy_scenario_lines.specs.ScenarioLineLaws.{CanSayTime, CanSayLinks, CanSay, IsBetween}
use Rattle.convoy_draft.specs.Checks.{checks, judge, ticks, has_wait, is_within, is_among, is_known_sender, knows, has_range, knows_link, is_message}
use Rattle.convoy_scenario.specs.Numbering as numbering
use Rattle.convoy_scenario.specs.Numbering.{place, numbers_of, link_of, message_of, in_order, delay_of_draft, links_of_draft, scenario_of, scenario_of_draft}
use Rattle.convoy_lines.specs.Texts.{line_of}
use Rattle.convoy_scenario_lines.specs.ScenarioLines.{time_line, time_lines, tick_lines, lines_from_delay, delay_line, groups_line, places_line, places_lines, link_line, stamps_words, issue_word, multicast_line, target_line, scenario_lines}
use Rattle.convoy_lines.specs.Labels.{number_in}
use Rattle.convoy_scenario_lines.specs.LineForms.{name_of, named_sender, time_in, tick_in, groups_in, places_in, link_in, multicast_in, target_in}
use Rattle.convoy_lines.specs.Results.{◌>>=◌}
use Rattle.convoy_lines.specs.Places.{Place, upcoming}
use Rattle.convoy_scenario_lines.specs.LineReading.{form_at, time_at, is_tick_due, tick_at, is_places_due, places_at, is_link_due, links_in, links_at, first_misplaced_link, messages_in, messages_at, is_multicast_due, draft_of, told, is_ordered, first_unordered, where_ordered, scenario_at}
use Rattle.convoy_scenario_lines.proofs.FormLaws.{Says, SaysLink, link_takes, message_takes, name_takes, names_take, names_line_takes, target_takes}
use Rattle.convoy_scenario.proofs.GivenScenarios as given
use Rattle.convoy_scenario.proofs.LinkLemmas.{stay}
use Rattle.convoy_scenario.proofs.NumberedLemmas.{passes}
use Rattle.convoy_scenario.proofs.PlaceLemmas.{name_at_place}
use Rattle.convoy_scenario_lines.proofs.Issues.{CanWait}
use Rattle.convoy_scenario_lines.proofs.OwnStamps.{CanHaveStamps, kept_stamps}
use Rattle.convoy_lines.proofs.LabelLemmas.{number_line_takes}
use Rattle.convoy_scenario_lines.proofs.LinkOrder.{placed}
use Rattle.convoy_scenario_lines.proofs.TickLines.{tick_takes}

-- ---- the destinations

pub picks : (p : List ℕ → Bool) (f : ℕ → List ℕ) (a : ℕ) (xs : List (List ℕ)) → ((i : ℕ) → i < length xs → f (a + i) ≡ get_or xs i [])
    → map f (filter (λ g. p (f g)) (range_with_len a (length xs))) ≡ filter p xs
picks p f a [] same = refl
picks p f a (x ∷ xs) same =
    let here : f a ≡ x = ap f (sym (add-zero a)) ∙ same 0 (omega arith) in
    let rest = picks p f (a + 1) xs (λ i within. let e : (a + 1) + i ≡ a + (i + 1) = omega arith in ap f e ∙ same (i + 1) (omega arith) ∙ rw add-one refl) in
    elim (cases_Bool (p x)) [
      | inl kept ↦ let test : p (f a) ≡ true = ap p here ∙ kept in rw (test, kept) (ap (λ n. n ∷ map f (filter (λ g. p (f g)) (range_with_len (a + 1) (length xs)))) here ∙ ap (λ t. x ∷ t) rest)
      | inr left ↦ let test : p (f a) ≡ false = ap p here ∙ left in rw (test, left) rest
    ]

-- the names of the numbers of the groups that are named
pub named : (groups to : List (List ℕ)) → map (λ g. get_or groups g []) (numbers_of groups to) ≡ filter (λ group. is_among group to) groups
named groups to = picks (λ group. is_among group to) (λ g. get_or groups g []) 0 groups (λ i within. let e : 0 + i ≡ i = omega arith in ap (λ n. get_or groups n []) e)

pub name_some : (name : List ℕ) → is_name name ≡ true → 0 < length name
name_some [] e = absurd (false≢true e)
name_some (c ∷ cs) e = omega arith

pub groups_some : (groups : List (List ℕ)) → list_all is_group_name groups ≡ true → AllByRecursion (λ name. 0 < length name) groups
groups_some [] e = tt
groups_some (g ∷ gs) e =
    let parts = and_parts (is_group_name g) (list_all is_group_name gs) e in
    (name_some g (and_parts (is_name g) _ parts.0).0, groups_some gs parts.1)

filter_some : (p : List ℕ → Bool) (xs : List (List ℕ)) → AllByRecursion (λ name. 0 < length name) xs → AllByRecursion (λ name. 0 < length name) (filter p xs)
filter_some p [] some = tt
filter_some p (x ∷ xs) some =
    elim (p x) as (λ b. AllByRecursion (λ name. 0 < length name) (cond b (x ∷ filter p xs) (filter p xs))) [
      | true ↦ (some.0, filter_some p xs some.1)
      | false ↦ filter_some p xs some.1
    ]

-- a name among groups has a byte
among_some : (name : List ℕ) (groups : List (List ℕ)) → is_among name groups ≡ true → AllByRecursion (λ name. 0 < length name) groups → 0 < length name
among_some name [] e some = absurd (false≢true e)
among_some name (g ∷ gs) e some =
    elim (cases_Bool (bytes_eq name g)) [
      | inl here ↦ rw ((bytes_eq-Decides name g).0 here) some.0
      | inr other ↦ let later : is_among name gs ≡ true = rw other at e in among_some name gs later some.1
    ]

-- ---- a message

-- each group and each place has a name of some bytes
record AreNamed (draft : Draft) : Type 0 where
  groups : AllByRecursion (λ name. 0 < length name) draft.groups
  places : AllByRecursion (λ name. 0 < length name) draft.places

-- the word for a client at a place
place_word : (plan : Scenario) (n : ℕ) → sender_word plan (Client (n + 1)) ≡ get_or plan.places n []
place_word plan n =
    let some : (n + 1 == 0) ≡ false = ne_eqb (n + 1) 0 (λ e. omega arith) in
    let before : n + 1 - 1 ≡ n = omega arith in
    rw (some, before) refl

sender_is : (draft : Draft) (from : List ℕ) → AreNamed draft → is_known_sender draft.groups draft.places (named_sender from) ≡ true
    → from ≡ sender_word (scenario_of draft) (numbering.sender_of draft.groups draft.places (named_sender from))
sender_is draft from some known =
    elim (cases_Bool (bytes_eq from client_word)) [
      | inl client ↦ rw client ((bytes_eq-Decides from client_word).0 client)
      | inr other ↦
          let either : (is_among (name_of from) draft.groups || is_among (name_of from) draft.places) ≡ true = rw other at known in
          elim (cases_Bool (is_among (name_of from) draft.groups)) [
            | inl group ↦ rw (other, group) (name_takes from (among_some (name_of from) draft.groups group some.groups) ∙ sym (name_at_place (name_of from) draft.groups group))
            | inr apart ↦
                let stands : is_among (name_of from) draft.places ≡ true = rw apart at either in
                let word = place_word (scenario_of draft) (place (name_of from) draft.places) in
                rw (other, apart) (name_takes from (among_some (name_of from) draft.places stands some.places) ∙ sym (name_at_place (name_of from) draft.places stands) ∙ sym word)
          ]
    ]

tick_is : (most t : ℕ) → is_within 0 most (pos t) ≡ true → decimal t ≡ decimal (ticks most (pos t))
tick_is most t e = rw e refl

tick_same : (most t : ℕ) → is_within 0 most (pos t) ≡ true → ticks most (pos t) ≡ t
tick_same most t e = rw e refl

-- the first tick, and the longest wait, of a message that may be issued then, and waits no longer than it may
issue_same : (first wait : ℕ) → is_within 0 GREATEST_AT (pos first) ≡ true → is_within (ticks GREATEST_AT (pos first)) (ticks GREATEST_AT (pos first) + LONGEST_WAIT) (pos (first + wait)) ≡ true
    → (ticks GREATEST_AT (pos first) ≡ first) × (ticks GREATEST_UNTIL (pos (first + wait)) - ticks GREATEST_AT (pos first) ≡ wait)
issue_same first wait within waits =
    let at = tick_same GREATEST_AT first within in
    let low = leb-true first GREATEST_AT (and_parts (leb 0 first) (leb first GREATEST_AT) within).1 in
    let near : (leb first (first + wait) && leb (first + wait) (first + LONGEST_WAIT)) ≡ true = rw at at waits in
    let high = leb-true (first + wait) (first + LONGEST_WAIT) (and_parts (leb first (first + wait)) _ near).1 in
    let until : ticks GREATEST_UNTIL (pos (first + wait)) ≡ first + wait =
    tick_same GREATEST_UNTIL (first + wait) (and_from _ _ (le-leb 0 (first + wait) (omega arith)) (le-leb (first + wait) GREATEST_UNTIL (omega arith))) in
    (at, rw (at, until) (omega arith))

to_is : (groups : List (List ℕ)) (message : DraftMessage) (to : List (List ℕ)) → AllByRecursion (λ name. 0 < length name) groups → is_ordered groups message ≡ true → message.to ≡ map name_of to
    → to ≡ map (λ g. get_or groups g []) (numbers_of groups message.to)
to_is groups message to some ordered said =
    let listed : message.to ≡ filter (λ group. is_among group message.to) groups = (slice_eq-Decides bytes_eq-Decides message.to _ _ refl).0 ordered in
    let all : AllByRecursion (λ name. 0 < length name) (map name_of to) = subst (AllByRecursion (λ name. 0 < length name)) (sym listed ∙ said) (filter_some (λ group. is_among group message.to) groups some) in
    names_take to all ∙ sym said ∙ listed ∙ sym (named groups message.to)

-- the first tick and the longest wait of a message are those of its line
issue_said : (version : Version) (line : List ℕ) (m : DraftMessage) → is_within 0 GREATEST_AT m.at ≡ true → has_wait m ≡ true → (s : Says version line m)
    → (ticks GREATEST_AT m.at ≡ s.tick) × (ticks GREATEST_UNTIL m.until - ticks GREATEST_AT m.at ≡ s.wait)
issue_said version line m within waits s =
    let same = issue_same s.tick s.wait (subst (λ (d : DraftMessage). is_within 0 GREATEST_AT d.at ≡ true) s.said within) (subst (λ (d : DraftMessage). has_wait d ≡ true) s.said waits) in
    subst (λ (d : DraftMessage). (ticks GREATEST_AT d.at ≡ s.tick) × (ticks GREATEST_UNTIL d.until - ticks GREATEST_AT d.at ≡ s.wait)) (sym s.said) same

abbrev four : List ℕ → List ℕ → List ℕ → List (List ℕ) → List ℕ
four name from tick to = line_of (codes "multicast") (name ∷ from ∷ tick ∷ to)

message_is : (version : Version) (draft : Draft) (line : List ℕ) (m : DraftMessage) → AreNamed draft → is_name m.name ≡ true → knows draft.groups draft.places m ≡ true
    → is_within 0 GREATEST_AT m.at ≡ true → has_wait m ≡ true → is_ordered draft.groups m ≡ true → Says version line m → line ≡ multicast_line (scenario_of draft) (message_of draft.groups draft.places m)
message_is version draft line m some name known within waits ordered s =
    let name-said : m.name ≡ name_of s.name = ap (λ (d : DraftMessage). d.name) s.said in
    let sender-said : m.sender ≡ named_sender s.from = ap (λ (d : DraftMessage). d.sender) s.said in
    let to-said : m.to ≡ map name_of s.to = ap (λ (d : DraftMessage). d.to) s.said in
    let issue = issue_said version line m within waits s in
    let name-is : s.name ≡ m.name = name_takes s.name (subst (λ (n : List ℕ). 0 < length n) name-said (name_some m.name name)) ∙ sym name-said in
    let known-sender : is_known_sender draft.groups draft.places (named_sender s.from) ≡ true = subst (λ (o : Option (List ℕ)). is_known_sender draft.groups draft.places o ≡ true) sender-said (and_parts (is_known_sender draft.groups draft.places m.sender) _ known).0 in
    let from-is : s.from ≡ sender_word (scenario_of draft) (numbering.sender_of draft.groups draft.places m.sender) =
    sender_is draft s.from some known-sender ∙ ap (λ o. sender_word (scenario_of draft) (numbering.sender_of draft.groups draft.places o)) (sym sender-said) in
    let issue-is : issue_word s.tick s.wait ≡ issue_word (message_of draft.groups draft.places m).at (message_of draft.groups draft.places m).longest_wait =
    ap (λ n. issue_word n s.wait) (sym issue.0) ∙ ap (issue_word (ticks GREATEST_AT m.at)) (sym issue.1) in
    let to-is : s.to ≡ map (λ g. get_or draft.groups g []) (numbers_of draft.groups m.to) = to_is draft.groups m s.to some.groups ordered to-said in
    s.written ∙ ap (λ n. four n s.from (issue_word s.tick s.wait) s.to) name-is
    ∙ ap (λ f. four m.name f (issue_word s.tick s.wait) s.to) from-is
    ∙ ap (λ t. four m.name (sender_word (scenario_of draft) (numbering.sender_of draft.groups draft.places m.sender)) t s.to) issue-is
    ∙ ap (λ t. four m.name (sender_word (scenario_of draft) (numbering.sender_of draft.groups draft.places m.sender)) (issue_word (message_of draft.groups draft.places m).at (message_of draft.groups draft.places m).longest_wait) t) to-is

-- ---- a link

low_and_high : (low high : ℕ) (delay : ℤ) → is_within 1 GREATEST_DELAY delay ≡ true → (int_le (pos 1) (pos low) && int_le (pos low) (pos high) && int_le (pos high) delay) ≡ true
    → (decimal low ≡ decimal (ticks GREATEST_DELAY (pos low))) × (decimal high ≡ decimal (ticks GREATEST_DELAY (pos high)))
low_and_high low high (pos d) within h =
    let p = and_parts (leb 1 d) (leb d GREATEST_DELAY) within in
    let q = and_parts (leb 1 low && leb low high) (leb high d) h in
    let r = and_parts (leb 1 low) (leb low high) q.0 in
    let ordered = leb-true low high r.1 in
    let under = leb-true high d q.1 in
    let top = leb-true d GREATEST_DELAY p.1 in (
      tick_is GREATEST_DELAY low (and_from _ _ (le-leb 0 low (omega arith)) (le-leb low GREATEST_DELAY (omega arith))),
      tick_is GREATEST_DELAY high (and_from _ _ (le-leb 0 high (omega arith)) (le-leb high GREATEST_DELAY (omega arith))),
    )
low_and_high low high (negsuc d) within h = absurd (false≢true within)

abbrev four_words : List ℕ → List ℕ → List ℕ → List ℕ → Bool → List ℕ
four_words from to low high stamps = line_of (codes "link") (from ∷ to ∷ low ∷ high ∷ stamps_words stamps)

link_is : (version : Version) (draft : Draft) (line : List ℕ) (l : DraftLink) → AreNamed draft → is_within 1 GREATEST_DELAY draft.delay ≡ true → has_range draft.delay l ≡ true → knows_link draft.groups draft.places l ≡ true
    → SaysLink version line l → line ≡ link_line (scenario_of draft) (link_of draft.groups draft.places l)
link_is version draft line l some within range known s =
    let sender-said : l.sender ≡ named_sender s.from = ap (λ (d : DraftLink). d.sender) s.said in
    let to-said : l.to ≡ name_of s.to = ap (λ (d : DraftLink). d.to) s.said in
    let least-said : l.least ≡ pos s.low = ap (λ (d : DraftLink). d.least) s.said in
    let most-said : l.most ≡ pos s.high = ap (λ (d : DraftLink). d.most) s.said in
    let parts = and_parts (is_known_sender draft.groups draft.places l.sender) (is_among l.to draft.groups) known in
    let known-sender : is_known_sender draft.groups draft.places (named_sender s.from) ≡ true = subst (λ (o : Option (List ℕ)). is_known_sender draft.groups draft.places o ≡ true) sender-said parts.0 in
    let from-is : s.from ≡ sender_word (scenario_of draft) (numbering.sender_of draft.groups draft.places l.sender) =
    sender_is draft s.from some known-sender ∙ ap (λ o. sender_word (scenario_of draft) (numbering.sender_of draft.groups draft.places o)) (sym sender-said) in
    let to-is : s.to ≡ get_or draft.groups (place l.to draft.groups) [] =
    name_takes s.to (subst (λ (n : List ℕ). 0 < length n) to-said (among_some l.to draft.groups parts.1 some.groups)) ∙ sym to-said ∙ sym (name_at_place l.to draft.groups parts.1) in
    let ticks-are = low_and_high s.low s.high draft.delay within (subst (λ (z : ℤ). (int_le (pos 1) (pos s.low) && int_le (pos s.low) z && int_le z draft.delay) ≡ true) most-said (subst (λ (z : ℤ). (int_le (pos 1) z && int_le z l.most && int_le l.most draft.delay) ≡ true) least-said range)) in
    let low-is : decimal s.low ≡ decimal (ticks GREATEST_DELAY l.least) = ticks-are.0 ∙ ap (λ z. decimal (ticks GREATEST_DELAY z)) (sym least-said) in
    let high-is : decimal s.high ≡ decimal (ticks GREATEST_DELAY l.most) = ticks-are.1 ∙ ap (λ z. decimal (ticks GREATEST_DELAY z)) (sym most-said) in
    let stamps-is : s.stamps ≡ (link_of draft.groups draft.places l).stamps = ap (λ (d : DraftLink). d.stamps) (sym s.said) ∙ sym (kept_stamps draft.groups draft.places l parts.1 s.home) in
    s.written ∙ ap (λ f. four_words f s.to (decimal s.low) (decimal s.high) s.stamps) from-is
    ∙ ap (λ t. four_words (sender_word (scenario_of draft) (numbering.sender_of draft.groups draft.places l.sender)) t (decimal s.low) (decimal s.high) s.stamps) to-is
    ∙ ap (λ w. four_words (sender_word (scenario_of draft) (numbering.sender_of draft.groups draft.places l.sender)) (get_or draft.groups (place l.to draft.groups) []) w (decimal s.high) s.stamps) low-is
    ∙ ap (λ w. four_words (sender_word (scenario_of draft) (numbering.sender_of draft.groups draft.places l.sender)) (get_or draft.groups (place l.to draft.groups) []) (decimal (ticks GREATEST_DELAY l.least)) w s.stamps) high-is
    ∙ ap (four_words (sender_word (scenario_of draft) (numbering.sender_of draft.groups draft.places l.sender)) (get_or draft.groups (place l.to draft.groups) []) (decimal (ticks GREATEST_DELAY l.least)) (decimal (ticks GREATEST_DELAY l.most))) stamps-is

link_lines_are : (version : Version) (draft : Draft) (lines : List (List ℕ)) (ls : List DraftLink) → AreNamed draft → is_within 1 GREATEST_DELAY draft.delay ≡ true
    → list_all (has_range draft.delay) ls ≡ true → list_all (knows_link draft.groups draft.places) ls ≡ true → AllZip (SaysLink version) lines ls → lines ≡ map (link_line (scenario_of draft)) (map (link_of draft.groups draft.places) ls)
link_lines_are version draft [] [] some within ranges known say = refl
link_lines_are version draft [] (l ∷ ls) some within ranges known say = absurd say
link_lines_are version draft (w ∷ ws) [] some within ranges known say = absurd say
link_lines_are version draft (w ∷ ws) (l ∷ ls) some within ranges known say =
    let a = and_parts (has_range draft.delay l) (list_all (has_range draft.delay) ls) ranges in
    let b = and_parts (knows_link draft.groups draft.places l) (list_all (knows_link draft.groups draft.places) ls) known in
    let one = link_is version draft w l some within a.0 b.0 say.0 in
    ap (λ x. x ∷ ws) one ∙ ap (λ t. link_line (scenario_of draft) (link_of draft.groups draft.places l) ∷ t) (link_lines_are version draft ws ls some within a.1 b.1 say.1)

-- ---- lines, one after another

pub bind_ok : {A B : Type 0} (r : Result A LineFault) (f : A → Result B LineFault) (y : B) → (r >>= f) ≡ Ok y → (x : A) × (r ≡ Ok x) × (f x ≡ Ok y)
bind_ok (Ok x) f y e = (x, refl, e)
bind_ok (Err fault) f y e = absurd cc

pub same_ok : {A : Type 0} (x y : A) → ◌≡◌ {A = Result A LineFault} (Ok x) (Ok y) → x ≡ y
same_ok x y e = cc

ok_or_takes : {A : Type 0} (o : Option A) (fault : LineFault) (x : A) → ok_or o fault ≡ Ok x → o ≡ Some x
ok_or_takes None fault x e = absurd cc
ok_or_takes (Some y) fault x e = ap (λ z. Some z) (same_ok y x e)

-- the form that a line at a place had
pub record Took {A : Type 0} (form : List ℕ → Option A) (p : Place) (x : A × Place) : Type 0 where
  pub line : List ℕ
  pub ended : p.ended ≡ line ∷ x.1.ended
  pub rest : p.rest ≡ x.1.rest
  pub number : p.number + 1 ≡ x.1.number
  pub has : form line ≡ Some x.0

took_at : {A : Type 0} (expected : Expected) (form : List ℕ → Option A) (number : ℕ) (rest : List ℕ) (ended : List (List ℕ)) (x : A × Place)
    → form_at expected form (record { ended = ended; rest = rest; number = number }) ≡ Ok x → Took form (record { ended = ended; rest = rest; number = number }) x
took_at expected form number rest [] x e = absurd cc
took_at {A} expected form number rest (line ∷ lines) x e =
    let after : Place = record { ended = lines; rest = rest; number = number + 1 } in
    let a = bind_ok (ok_or (form line) (faults.Line number expected)) (λ value. Ok (value, after)) x e in
    let same : (a.0, after) ≡ x = same_ok (a.0, after) x a.2 in
    record {
      line = line;
      ended = ap (λ (y : A × Place). line ∷ y.1.ended) same;
      rest = ap (λ (y : A × Place). y.1.rest) same;
      number = ap (λ (y : A × Place). y.1.number) same;
      has = ok_or_takes (form line) (faults.Line number expected) a.0 a.1 ∙ ap (λ (y : A × Place). Some y.0) same;
    }

pub took : {A : Type 0} (expected : Expected) (form : List ℕ → Option A) (p : Place) (x : A × Place) → form_at expected form p ≡ Ok x → Took form p x
took expected form p x e = took_at expected form p.number p.rest p.ended x e

-- what a version says of how time goes
abbrev pub SaysTime : Version → Time → Type 0
SaysTime One time = time ≡ Ticks
SaysTime Two time = time ≡ Ticks
SaysTime Three time = Unit {0}

-- what a version had to say of time
record TookTime (version : Version) (p : Place) (x : Time × Place) : Type 0 where
  ended : p.ended ≡ time_lines version x.0 ++ x.1.ended
  rest : p.rest ≡ x.1.rest
  number : p.number + length (time_lines version x.0) ≡ x.1.number
  said : SaysTime version x.0

time_line_is : (line : List ℕ) (time : Time) → time_in line ≡ Some time → line ≡ time_line time
time_line_is line time e =
    elim (cases_Bool (bytes_eq line (time_line Ticks))) [
      | inl s ↦ let is : Some Ticks ≡ Some time = rw s at e in (bytes_eq-Decides line (time_line Ticks)).0 s ∙ ap time_line (same_Some Ticks time is)
      | inr no-t ↦ elim (cases_Bool (bytes_eq line (time_line Real))) [
        | inl s ↦ let is : Some Real ≡ Some time = rw (no-t, s) at e in (bytes_eq-Decides line (time_line Real)).0 s ∙ ap time_line (same_Some Real time is)
        | inr none ↦ let is : None ≡ Some time = rw (no-t, none) at e in absurd cc
      ]
    ]

time_takes : (version : Version) (p : Place) (x : Time × Place) → time_at version p ≡ Ok x → TookTime version p x
time_takes One p x e = subst (TookTime One p) (same_ok (Ticks, p) x e) (record { ended = refl; rest = refl; number = omega arith; said = refl })
time_takes Two p x e = subst (TookTime Two p) (same_ok (Ticks, p) x e) (record { ended = refl; rest = refl; number = omega arith; said = refl })
time_takes Three p x e =
    let t = took expected.Time time_in p x e in
    record { ended = t.ended ∙ ap (λ l. l ∷ x.1.ended) (time_line_is t.line x.0 t.has); rest = t.rest; number = t.number; said = tt }

-- what was said of a tick's length
record TookTick (p : Place) (x : Option ℕ × Place) : Type 0 where
  ended : p.ended ≡ tick_lines x.0 ++ x.1.ended
  rest : p.rest ≡ x.1.rest
  number : p.number + length (tick_lines x.0) ≡ x.1.number

tick_takes_line : (version : Version) (p : Place) (x : Option ℕ × Place) → tick_at version p ≡ Ok x → TookTick p x
tick_takes_line version p x e =
    elim (cases_Bool (is_tick_due version (upcoming p))) [
      | inl due ↦
          let read : (form_at Tick tick_in p >>= λ tick. Ok (Some tick.0, tick.1)) ≡ Ok x = rw due at e in
          let a = bind_ok (form_at Tick tick_in p) (λ tick. Ok (Some tick.0, tick.1)) x read in
          let t = took Tick tick_in p a.0 a.1 in
          let line = tick_takes t.line a.0.0 t.has in
          let same : (Some a.0.0, a.0.1) ≡ x = same_ok (Some a.0.0, a.0.1) x a.2 in
          subst (TookTick p) same (record { ended = t.ended ∙ ap (λ l. l ∷ a.0.1.ended) line; rest = t.rest; number = t.number })
      | inr other ↦
          let read : Ok (None, p) ≡ Ok x = rw other at e in
          subst (TookTick p) (same_ok (None, p) x read) (record { ended = refl; rest = refl; number = omega arith })
    ]

-- what a version can say of places
abbrev pub CanNamePlaces : Version → List (List ℕ) → Type 0
CanNamePlaces One places = places ≡ []
CanNamePlaces Two places = places ≡ []
CanNamePlaces Three places = Unit {0}

-- what was said of places
record TookPlaces (version : Version) (p : Place) (x : List (List ℕ) × Place) : Type 0 where
  ended : p.ended ≡ places_lines x.0 ++ x.1.ended
  rest : p.rest ≡ x.1.rest
  number : p.number + length (places_lines x.0) ≡ x.1.number
  said : CanNamePlaces version x.0

-- where there are places, there is one line of them
pub one_line : (places : List (List ℕ)) → 1 ≤ length places → places_lines places ≡ places_line places ∷ []
one_line places some = rw (ne_eqb (length places) 0 (λ e. omega arith)) refl

places_take : (version : Version) (p : Place) (x : List (List ℕ) × Place) → places_at version p ≡ Ok x → AllByRecursion (λ name. 0 < length name) x.0 → TookPlaces version p x
places_take One p x e some = subst (TookPlaces One p) (same_ok ([], p) x e) (record { ended = refl; rest = refl; number = omega arith; said = refl })
places_take Two p x e some = subst (TookPlaces Two p) (same_ok ([], p) x e) (record { ended = refl; rest = refl; number = omega arith; said = refl })
places_take Three p x e some =
    elim (cases_Bool (is_places_due Three (upcoming p))) [
      | inl due ↦
          let read : form_at Places places_in p ≡ Ok x = rw due at e in
          let t = took Places places_in p x read in
          let names = names_line_takes (codes "places") t.line x.0 t.has some in
          let lines = one_line x.0 names.1 in
          let one : length (places_lines x.0) ≡ 1 = ap length lines in
          record {
            ended = t.ended ∙ ap (λ l. l ∷ x.1.ended) names.0 ∙ ap (λ ls. ls ++ x.1.ended) (sym lines);
            rest = t.rest;
            number = ap (λ n. p.number + n) one ∙ t.number;
            said = tt;
          }
      | inr other ↦
          let read : Ok ([], p) ≡ Ok x = rw other at e in
          subst (TookPlaces Three p) (same_ok ([], p) x read) (record { ended = refl; rest = refl; number = omega arith; said = tt })
    ]

-- the lines that say some messages, or links
pub record TookLines {A : Type 0} (says : List ℕ → A → Type 0) (number : ℕ) (rest : List ℕ) (ended : List (List ℕ)) (x : List A × Place) : Type 0 where
  pub lines : List (List ℕ)
  pub before : ended ≡ lines ++ x.1.ended
  pub after : rest ≡ x.1.rest
  pub past : number + length x.0 ≡ x.1.number
  pub say : AllZip says lines x.0

stop : {A : Type 0} (b : Bool) (fault : LineFault) (y x : A) → cond b (Err fault) (Ok y) ≡ Ok x → y ≡ x
stop true fault y x e = absurd cc
stop false fault y x e = same_ok y x e

unless : {A : Type 0} (b : Bool) (fault : LineFault) (r : Result A LineFault) (x : A) → cond b (Err fault) r ≡ Ok x → r ≡ Ok x
unless true fault r x e = absurd cc
unless false fault r x e = e

pub links_take : (version : Version) (count number : ℕ) (rest : List ℕ) (ended : List (List ℕ)) (x : List DraftLink × Place) → links_in version count number rest ended ≡ Ok x → TookLines (SaysLink version) number rest ended x
unfolding links_in
links_take version count number rest [] x e =
    let same = stop (is_link_due version rest) (faults.Line number Link) ([], record { ended = []; rest = rest; number = number }) x e in
    subst (TookLines (SaysLink version) number rest []) same (record { lines = []; before = refl; after = refl; past = omega arith; say = tt })
links_take version count number rest (line ∷ lines) x e =
    elim (cases_Bool (is_link_due version line)) [
      | inl due ↦
          let read : (ok_or (link_in version line) (faults.Line number Link) >>= λ link. (if count == MOST_LINKS then Err (faults.Scenario (OverLimit limit.Link)) else links_in version (count + 1) (number + 1) rest lines) >>= λ more. Ok (link ∷ more.0, more.1)) ≡ Ok x = rw due at e in
          let a = bind_ok (ok_or (link_in version line) (faults.Line number Link)) (λ link. (if count == MOST_LINKS then Err (faults.Scenario (OverLimit limit.Link)) else links_in version (count + 1) (number + 1) rest lines) >>= λ more. Ok (link ∷ more.0, more.1)) x read in
          let b = bind_ok (if count == MOST_LINKS then Err (faults.Scenario (OverLimit limit.Link)) else links_in version (count + 1) (number + 1) rest lines) (λ more. Ok (a.0 ∷ more.0, more.1)) x a.2 in
          let same : (a.0 ∷ b.0.0, b.0.1) ≡ x = same_ok (a.0 ∷ b.0.0, b.0.1) x b.2 in
          let more = links_take version (count + 1) (number + 1) rest lines b.0 (unless (count == MOST_LINKS) (faults.Scenario (OverLimit limit.Link)) _ b.0 b.1) in
          let says = link_takes version line a.0 (ok_or_takes (link_in version line) (faults.Line number Link) a.0 a.1) in
          subst (TookLines (SaysLink version) number rest (line ∷ lines)) same (record { lines = line ∷ more.lines; before = ap (λ t. line ∷ t) more.before; after = more.after; past = omega (arith, more.past); say = (says, more.say) })
      | inr other ↦
          let read : Ok ([], record { ended = line ∷ lines; rest = rest; number = number }) ≡ Ok x = rw other at e in
          subst (TookLines (SaysLink version) number rest (line ∷ lines)) (same_ok ([], record { ended = line ∷ lines; rest = rest; number = number }) x read) (record { lines = []; before = refl; after = refl; past = omega arith; say = tt })
    ]

-- version 1 has no lines `link`
no_links : (count number : ℕ) (rest : List ℕ) (ended : List (List ℕ)) (x : List DraftLink × Place) → links_in One count number rest ended ≡ Ok x → x.0 ≡ []
unfolding links_in
no_links count number rest [] x e = ap (λ (y : List DraftLink × Place). y.0) (sym (same_ok ([], record { ended = []; rest = rest; number = number }) x e))
no_links count number rest (line ∷ lines) x e = ap (λ (y : List DraftLink × Place). y.0) (sym (same_ok ([], record { ended = line ∷ lines; rest = rest; number = number }) x e))

can_say_links : (version : Version) (draft : Draft) (count number : ℕ) (rest : List ℕ) (ended : List (List ℕ)) (x : List DraftLink × Place) → x.0 ≡ draft.links → links_in version count number rest ended ≡ Ok x → CanSayLinks version (scenario_of draft).links
can_say_links One draft count number rest ended x are e = ap (λ (ls : List DraftLink). in_order (delay_of_draft draft) (map (link_of draft.groups draft.places) ls)) (sym are ∙ no_links count number rest ended x e)
can_say_links Two draft count number rest ended x are e = tt
can_say_links Three draft count number rest ended x are e = tt

pub messages_take : (version : Version) (count number : ℕ) (rest : List ℕ) (ended : List (List ℕ)) (x : List DraftMessage × Place) → messages_in version count number rest ended ≡ Ok x → TookLines (Says version) number rest ended x
unfolding messages_in
messages_take version count number rest [] x e =
    let same = stop (is_multicast_due count rest) (faults.Line number Multicast) ([], record { ended = []; rest = rest; number = number }) x e in
    subst (TookLines (Says version) number rest []) same (record { lines = []; before = refl; after = refl; past = omega arith; say = tt })
messages_take version count number rest (line ∷ lines) x e =
    elim (cases_Bool (is_multicast_due count line)) [
      | inl due ↦
          let read : (ok_or (multicast_in version line) (faults.Line number Multicast) >>= λ message. (if count == MOST_MULTICASTS then Err (faults.Scenario (OverLimit limit.Multicasts)) else messages_in version (count + 1) (number + 1) rest lines) >>= λ more. Ok (message ∷ more.0, more.1)) ≡ Ok x = rw due at e in
          let a = bind_ok (ok_or (multicast_in version line) (faults.Line number Multicast)) (λ message. (if count == MOST_MULTICASTS then Err (faults.Scenario (OverLimit limit.Multicasts)) else messages_in version (count + 1) (number + 1) rest lines) >>= λ more. Ok (message ∷ more.0, more.1)) x read in
          let b = bind_ok (if count == MOST_MULTICASTS then Err (faults.Scenario (OverLimit limit.Multicasts)) else messages_in version (count + 1) (number + 1) rest lines) (λ more. Ok (a.0 ∷ more.0, more.1)) x a.2 in
          let same : (a.0 ∷ b.0.0, b.0.1) ≡ x = same_ok (a.0 ∷ b.0.0, b.0.1) x b.2 in
          let more = messages_take version (count + 1) (number + 1) rest lines b.0 (unless (count == MOST_MULTICASTS) (faults.Scenario (OverLimit limit.Multicasts)) _ b.0 b.1) in
          let says = message_takes version line a.0 (ok_or_takes (multicast_in version line) (faults.Line number Multicast) a.0 a.1) in
          subst (TookLines (Says version) number rest (line ∷ lines)) same (record { lines = line ∷ more.lines; before = ap (λ t. line ∷ t) more.before; after = more.after; past = omega (arith, more.past); say = (says, more.say) })
      | inr other ↦
          let read : Ok ([], record { ended = line ∷ lines; rest = rest; number = number }) ≡ Ok x = rw other at e in
          subst (TookLines (Says version) number rest (line ∷ lines)) (same_ok ([], record { ended = line ∷ lines; rest = rest; number = number }) x read) (record { lines = []; before = refl; after = refl; past = omega arith; say = tt })
    ]

-- all that is asked of each message
record Fine (draft : Draft) (m : DraftMessage) : Type 0 where
  name : is_name m.name ≡ true
  known : knows draft.groups draft.places m ≡ true
  within : is_within 0 GREATEST_AT m.at ≡ true
  waits : has_wait m ≡ true
  ordered : is_ordered draft.groups m ≡ true

each : (draft : Draft) (ms : List DraftMessage) → list_all (λ m. is_name m.name) ms ≡ true → list_all (knows draft.groups draft.places) ms ≡ true → list_all (λ m. is_within 0 GREATEST_AT m.at) ms ≡ true
    → list_all has_wait ms ≡ true → list_all (is_ordered draft.groups) ms ≡ true → AllByRecursion (Fine draft) ms
each draft [] a b c w d = tt
each draft (m ∷ ms) a b c w d =
    let a' = and_parts (is_name m.name) (list_all (λ m. is_name m.name) ms) a in
    let b' = and_parts (knows draft.groups draft.places m) (list_all (knows draft.groups draft.places) ms) b in
    let c' = and_parts (is_within 0 GREATEST_AT m.at) (list_all (λ m. is_within 0 GREATEST_AT m.at) ms) c in
    let w' = and_parts (has_wait m) (list_all has_wait ms) w in
    let d' = and_parts (is_ordered draft.groups m) (list_all (is_ordered draft.groups) ms) d in
    (record { name = a'.0; known = b'.0; within = c'.0; waits = w'.0; ordered = d'.0 }, each draft ms a'.1 b'.1 c'.1 w'.1 d'.1)

-- where a version can say of no wait, no message waits
none_waits : (version : Version) → ((wait : ℕ) → CanWait version wait → wait ≡ 0) → (draft : Draft) (lines : List (List ℕ)) (ms : List DraftMessage) → AllZip (Says version) lines ms → AllByRecursion (Fine draft) ms
    → list_any may_wait (map (message_of draft.groups draft.places) ms) ≡ false
none_waits version none draft [] [] say fine = refl
none_waits version none draft [] (m ∷ ms) say fine = absurd say
none_waits version none draft (l ∷ ls) [] say fine = refl
none_waits version none draft (l ∷ ls) (m ∷ ms) say fine =
    let still : (message_of draft.groups draft.places m).longest_wait ≡ 0 = (issue_said version l m fine.0.within fine.0.waits say.0).1 ∙ none say.0.wait say.0.can in
    let first : may_wait (message_of draft.groups draft.places m) ≡ false = ap (λ n. ltb 0 n) still in
    rw first (none_waits version none draft ls ms say.1 fine.1)

-- where a version can say of no link that it is for stamps, too, none is
none_stamped : (version : Version) → ((stamps : Bool) → CanHaveStamps version stamps → stamps ≡ false) → (groups places lines : List (List ℕ)) (ls : List DraftLink) → AllZip (SaysLink version) lines ls
    → list_any (λ l. l.stamps) (map (link_of groups places) ls) ≡ false
none_stamped version none groups places [] [] say = refl
none_stamped version none groups places [] (l ∷ ls) say = absurd say
none_stamped version none groups places (w ∷ ws) [] say = refl
none_stamped version none groups places (w ∷ ws) (l ∷ ls) say =
    let without : l.stamps ≡ false = ap (λ (d : DraftLink). d.stamps) say.0.said ∙ none say.0.stamps say.0.can in
    rw without (none_stamped version none groups places ws ls say.1)

-- the lines `link` and `multicast` of a draft
record AreSaid (version : Version) (draft : Draft) (links messages : List (List ℕ)) : Type 0 where
  links_say : AllZip (SaysLink version) links draft.links
  links_stay : in_order (delay_of_draft draft) (links_of_draft draft) ≡ links_of_draft draft
  messages_say : AllZip (Says version) messages draft.messages
  fine : AllByRecursion (Fine draft) draft.messages

-- a version that can say of no wait, of no link for stamps and of no place has none of them
untimed : (version : Version) → ((wait : ℕ) → CanWait version wait → wait ≡ 0) → ((stamps : Bool) → CanHaveStamps version stamps → stamps ≡ false)
    → (draft : Draft) (links messages : List (List ℕ)) → draft.time ≡ Ticks → draft.places ≡ [] → AreSaid version draft links messages → is_timed (scenario_of draft) ≡ false
untimed version waitless stampless draft links messages whole placeless said =
    let links-are : has_own_stamps (scenario_of draft) ≡ false = rw said.links_stay (none_stamped version stampless draft.groups draft.places links draft.links said.links_say) in
    let no-place : ltb 0 (length draft.places) ≡ false = ap (λ (places : List (List ℕ)). ltb 0 (length places)) placeless in
    rw whole (or_from _ _ (or_from _ _ (none_waits version waitless draft messages draft.messages said.messages_say said.fine) links-are) no-place)

can_say_time : (version : Version) (draft : Draft) (links messages : List (List ℕ)) → SaysTime version draft.time → CanNamePlaces version draft.places → AreSaid version draft links messages → CanSayTime version (scenario_of draft)
can_say_time One draft links messages whole placeless said = untimed One (λ wait e. e) (λ stamps e. e) draft links messages whole placeless said
can_say_time Two draft links messages whole placeless said = untimed Two (λ wait e. e) (λ stamps e. e) draft links messages whole placeless said
can_say_time Three draft links messages any some said = tt

lines_are : (version : Version) (draft : Draft) (lines : List (List ℕ)) (ms : List DraftMessage) → AreNamed draft → AllZip (Says version) lines ms → AllByRecursion (Fine draft) ms
    → lines ≡ map (multicast_line (scenario_of draft)) (map (message_of draft.groups draft.places) ms)
lines_are version draft [] [] some say fine = refl
lines_are version draft [] (m ∷ ms) some say fine = absurd say
lines_are version draft (l ∷ ls) [] some say fine = absurd say
lines_are version draft (l ∷ ls) (m ∷ ms) some say fine =
    let one = message_is version draft l m some fine.0.name fine.0.known fine.0.within fine.0.waits fine.0.ordered say.0 in
    ap (λ x. x ∷ ls) one ∙ ap (λ t. multicast_line (scenario_of draft) (message_of draft.groups draft.places m) ∷ t) (lines_are version draft ls ms some say.1 fine.1)

all_ordered : (groups : List (List ℕ)) (number : ℕ) (ms : List DraftMessage) → first_unordered groups number ms ≡ None → list_all (is_ordered groups) ms ≡ true
all_ordered groups number [] e = refl
all_ordered groups number (m ∷ ms) e =
    elim (cases_Bool (is_ordered groups m)) [
      | inl fine ↦ let rest : first_unordered groups (number + 1) ms ≡ None = rw fine at e in rw fine (all_ordered groups (number + 1) ms rest)
      | inr other ↦ let found : Some number ≡ None = rw other at e in absurd cc
    ]

-- ---- the checks

told_ok : (r : Result Scenario ScenarioFault) (plan : Scenario) → told r ≡ Ok plan → r ≡ Ok plan
told_ok (Ok made) plan e = ap (λ (s : Scenario). Ok s) (same_ok made plan e)
told_ok (Err fault) plan e = absurd cc

pub of_draft : (draft : Draft) (plan : Scenario) → told (scenario_of_draft draft) ≡ Ok plan
    → (judge (checks draft) ≡ Ok tt) × (scenario_of draft ≡ plan) × (has_room (scenario_of draft) ≡ true)
of_draft draft plan e = given.passed (judge (checks draft)) (scenario_of draft) plan (told_ok (scenario_of_draft draft) plan e)

of_order : (expected : Expected) (o : Option ℕ) (plan made : Scenario) → where_ordered expected o plan ≡ Ok made → (o ≡ None) × (plan ≡ made)
of_order expected None plan made e = (refl, same_ok plan made e)
of_order expected (Some number) plan made e = absurd cc

-- D is within the limit of real time, however time goes
within_any : (time : Time) (delay : ℤ) → is_within 1 (greatest_delay time) delay ≡ true → is_within 1 GREATEST_DELAY delay ≡ true
within_any Real delay e = e
within_any Ticks (pos d) e =
    let parts = and_parts (leb 1 d) (leb d GREATEST_WHOLE_DELAY) e in
    and_from (leb 1 d) (leb d GREATEST_DELAY) parts.0 (le-leb d GREATEST_DELAY (omega (arith, leb-true d GREATEST_WHOLE_DELAY parts.1)))
within_any Ticks (negsuc d) e = absurd (false≢true e)

delay_is : (d : ℕ) → is_within 1 GREATEST_DELAY (pos d) ≡ true → decimal d ≡ decimal (ticks GREATEST_DELAY (pos d))
delay_is d e =
    let parts = and_parts (leb 1 d) (leb d GREATEST_DELAY) e in
    tick_is GREATEST_DELAY d (and_from (leb 0 d) (leb d GREATEST_DELAY) (le-leb 0 d (omega arith)) parts.1)

name_among : (name : List ℕ) (ms : List DraftMessage) → is_message name ms ≡ true → list_all (λ m. is_name m.name) ms ≡ true → 0 < length name
name_among name [] e all = absurd (false≢true e)
name_among name (m ∷ ms) e all =
    let a = and_parts (is_name m.name) (list_all (λ m. is_name m.name) ms) all in
    elim (cases_Bool (bytes_eq name m.name)) [
      | inl here ↦ rw ((bytes_eq-Decides name m.name).0 here) (name_some m.name a.0)
      | inr other ↦ let later : is_message name ms ≡ true = rw other at e in name_among name ms later a.1
    ]

-- ---- the scenario

-- as many lines as links and messages, that of places, if there is one, and three
pub count_lines : (plan : Scenario) → length (lines_from_delay plan) ≡ length (places_lines plan.places) + (length plan.links + length plan.multicasts) + 3
count_lines plan =
    let links = length-map plan.links (link_line plan) in
    let messages = length-map plan.multicasts (multicast_line plan) in
    let last = length-append (map (multicast_line plan) plan.multicasts) (target_line plan ∷ []) in
    let most = length-append (map (link_line plan) plan.links) (map (multicast_line plan) plan.multicasts ++ target_line plan ∷ []) in
    let all = length-append (places_lines plan.places) (map (link_line plan) plan.links ++ (map (multicast_line plan) plan.multicasts ++ target_line plan ∷ [])) in
    omega arith

-- and those of time and of a tick's length
pub count_all : (version : Version) (plan : Scenario) → length (scenario_lines version plan) ≡ length (time_lines version plan.time) + (length (tick_lines plan.tick) + length (lines_from_delay plan))
count_all version plan =
    length-append (time_lines version plan.time) (tick_lines plan.tick ++ lines_from_delay plan)
    ∙ ap (λ n. length (time_lines version plan.time) + n) (length-append (tick_lines plan.tick) (lines_from_delay plan))

-- the lines of a scenario before others
pub lines_before : (plan : Scenario) (rest : List (List ℕ))
    → lines_from_delay plan ++ rest ≡ delay_line plan ∷ groups_line plan ∷ (places_lines plan.places ++ (map (link_line plan) plan.links ++ (map (multicast_line plan) plan.multicasts ++ target_line plan ∷ rest)))
lines_before plan rest =
    let messages : List (List ℕ) = map (multicast_line plan) plan.multicasts in
    let links : List (List ℕ) = map (link_line plan) plan.links in
    ap (λ ls. delay_line plan ∷ groups_line plan ∷ ls)
    (append_assoc (places_lines plan.places) (links ++ (messages ++ target_line plan ∷ [])) rest
    ∙ ap (λ ls. places_lines plan.places ++ ls) (append_assoc links (messages ++ target_line plan ∷ []) rest ∙ ap (λ ls. links ++ ls) (append_assoc messages (target_line plan ∷ []) rest)))

made : (draft : Draft) (delay : ℕ) (d g t : List ℕ) (ls ms rest : List (List ℕ)) → draft.delay ≡ pos delay
    → d ≡ line_of (codes "delay") (decimal delay ∷ []) → decimal delay ≡ decimal (ticks GREATEST_DELAY (pos delay))
    → g ≡ groups_line (scenario_of draft) → ls ≡ map (link_line (scenario_of draft)) (scenario_of draft).links → ms ≡ map (multicast_line (scenario_of draft)) (scenario_of draft).multicasts → t ≡ target_line (scenario_of draft)
    → d ∷ g ∷ (places_lines draft.places ++ (ls ++ (ms ++ t ∷ rest))) ≡ lines_from_delay (scenario_of draft) ++ rest
made draft delay d g t ls ms rest said de tick ge le me te =
    let plan = scenario_of draft in
    let ps : List (List ℕ) = places_lines draft.places in
    let delay-line : d ≡ delay_line plan = de ∙ ap (λ w. line_of (codes "delay") (w ∷ [])) (tick ∙ ap (λ z. decimal (ticks GREATEST_DELAY z)) (sym said)) in
    ap (λ l. l ∷ g ∷ (ps ++ (ls ++ (ms ++ t ∷ rest)))) delay-line
    ∙ ap (λ l. delay_line plan ∷ l ∷ (ps ++ (ls ++ (ms ++ t ∷ rest)))) ge
    ∙ ap (λ lines. delay_line plan ∷ groups_line plan ∷ (ps ++ (lines ++ (ms ++ t ∷ rest)))) le
    ∙ ap (λ lines. delay_line plan ∷ groups_line plan ∷ (ps ++ (map (link_line plan) plan.links ++ (lines ++ t ∷ rest)))) me
    ∙ ap (λ l. delay_line plan ∷ groups_line plan ∷ (ps ++ (map (link_line plan) plan.links ++ (map (multicast_line plan) plan.multicasts ++ l ∷ rest)))) te
    ∙ sym (lines_before plan rest)

-- what is read after the target, the messages, the links, the places, the groups, D, a tick's length and time
abbrev pub after_target : Time → Option ℕ → ℕ → ℕ → List (List ℕ) → List (List ℕ) → List DraftLink → ℕ → List DraftMessage → (List ℕ × List ℕ) × Place → Result (Scenario × Place) LineFault
after_target time tick delay first groups places links number messages target =
    told (scenario_of_draft (draft_of time tick delay groups places links messages target.0)) >>= λ plan. where_ordered Link (first_misplaced_link first (draft_of time tick delay groups places links messages target.0)) plan >>= λ linked.
    where_ordered Multicast (first_unordered groups number messages) linked >>= λ ordered. Ok (ordered, target.1)

abbrev pub after_messages : Time → Option ℕ → ℕ → ℕ → List (List ℕ) → List (List ℕ) → List DraftLink → ℕ → List DraftMessage × Place → Result (Scenario × Place) LineFault
after_messages time tick delay first groups places links number messages = form_at Target target_in messages.1 >>= after_target time tick delay first groups places links number messages.0

abbrev pub after_links : Version → Time → Option ℕ → ℕ → ℕ → List (List ℕ) → List (List ℕ) → List DraftLink × Place → Result (Scenario × Place) LineFault
after_links version time tick delay first groups places links = messages_at version 0 links.1 >>= after_messages time tick delay first groups places links.0 links.1.number

abbrev pub after_places : Version → Time → Option ℕ → ℕ → List (List ℕ) → List (List ℕ) × Place → Result (Scenario × Place) LineFault
after_places version time tick delay groups places = links_at version 0 places.1 >>= after_links version time tick delay places.1.number groups places.0

abbrev pub after_groups : Version → Time → Option ℕ → ℕ → List (List ℕ) × Place → Result (Scenario × Place) LineFault
after_groups version time tick delay groups = places_at version groups.1 >>= after_places version time tick delay groups.0

abbrev pub after_delay : Version → Time → Option ℕ → ℕ × Place → Result (Scenario × Place) LineFault
after_delay version time tick delay = form_at Groups groups_in delay.1 >>= after_groups version time tick delay.0

abbrev pub after_tick : Version → Time → Option ℕ × Place → Result (Scenario × Place) LineFault
after_tick version time tick = form_at Delay (number_in (codes "delay")) tick.1 >>= after_delay version time tick.0

abbrev pub after_time : Version → Time × Place → Result (Scenario × Place) LineFault
after_time version time = tick_at version time.1 >>= after_tick version time.0

-- what the steps after the target ask, and what they give
last_takes : (draft : Draft) (misplaced unordered : Option ℕ) (past : Place) (x : Scenario × Place)
    → (told (scenario_of_draft draft) >>= λ plan. where_ordered Link misplaced plan >>= λ linked. where_ordered Multicast unordered linked >>= λ ordered. Ok (ordered, past)) ≡ Ok x
    → (judge (checks draft) ≡ Ok tt) × (misplaced ≡ None) × (unordered ≡ None) × ((scenario_of draft, past) ≡ x) × (scenario_of_draft draft ≡ Ok (scenario_of draft))
last_takes draft misplaced unordered past x e =
    let f = bind_ok (told (scenario_of_draft draft)) (λ plan. where_ordered Link misplaced plan >>= λ linked. where_ordered Multicast unordered linked >>= λ ordered. Ok (ordered, past)) x e in
    let h = bind_ok (where_ordered Link misplaced f.0) (λ linked. where_ordered Multicast unordered linked >>= λ ordered. Ok (ordered, past)) x f.2 in
    let g = bind_ok (where_ordered Multicast unordered h.0) (λ ordered. Ok (ordered, past)) x h.2 in
    let sure = of_draft draft f.0 f.1 in
    let link-order = of_order Link misplaced f.0 h.0 h.1 in
    let order = of_order Multicast unordered h.0 g.0 g.1 in (
      sure.0,
      link-order.0,
      order.0,
      ap (λ (plan : Scenario). (plan, past)) (sure.1 ∙ link-order.1 ∙ order.1) ∙ same_ok (g.0, past) x g.2,
      given.given draft sure.0 sure.2,
    )

-- the lines that were taken are as many as the scenario has
counted : (first all time tick places from links messages ls ms z y a b h k c last : ℕ) → all ≡ time + (tick + from) → from ≡ places + (links + messages) + 3 → messages ≡ ms → links ≡ ls
    → first + time ≡ z → z + tick ≡ y → y + 1 ≡ a → a + 1 ≡ b → b + places ≡ h → h + ls ≡ k → k + ms ≡ c → c + 1 ≡ last → first + all ≡ last
counted first all time tick places from links messages ls ms z y a b h k c last e0 e1 e2 e3 e4 e5 e6 e7 e8 e9 e10 e11 = omega arith

-- what was read, step by step, is the scenario of the lines that were taken
taken : (version : Version) (p : Place) (x : Scenario × Place)
    (z : Time × Place) (y : Option ℕ × Place) (a : ℕ × Place) (b h : List (List ℕ) × Place) (k : List DraftLink × Place) (c : List DraftMessage × Place) (d : (List ℕ × List ℕ) × Place)
    → time_at version p ≡ Ok z → tick_at version z.1 ≡ Ok y → form_at Delay (number_in (codes "delay")) y.1 ≡ Ok a → form_at Groups groups_in a.1 ≡ Ok b
    → places_at version b.1 ≡ Ok h → links_at version 0 h.1 ≡ Ok k → messages_at version 0 k.1 ≡ Ok c → form_at Target target_in c.1 ≡ Ok d
    → after_target z.0 y.0 a.0 h.1.number b.0 h.0 k.0 k.1.number c.0 d ≡ Ok x → IsScenario x.0 × CanSay version x.0 × IsBetween version x.0 p x.1
taken version p x z y a b h k c d z-is y-is a-is b-is h-is k-is c-is d-is after =
    let draft = draft_of z.0 y.0 a.0 b.0 h.0 k.0 c.0 d.0 in
    let misplaced = first_misplaced_link h.1.number draft in
    let unordered = first_unordered b.0 k.1.number c.0 in
    let last = last_takes draft misplaced unordered d.1 x after in
    let made-is = last.4 in
    let all = passes draft last.0 in
    let delay-within = within_any z.0 (pos a.0) all.delay in
    let some : AreNamed draft = record { groups = groups_some b.0 all.group_names; places = groups_some h.0 all.place_names } in
    let fine = each draft c.0 all.message_names all.known all.at all.waits (all_ordered b.0 k.1.number c.0 last.2) in
    let t-time = time_takes version p z z-is in
    let t-tick = tick_takes_line version z.1 y y-is in
    let t-delay = took Delay (number_in (codes "delay")) y.1 a a-is in
    let t-groups = took Groups groups_in a.1 b b-is in
    let t-places = places_take version b.1 h h-is some.places in
    let t-links = links_take version 0 h.1.number h.1.rest h.1.ended k k-is in
    let t-messages = messages_take version 0 k.1.number k.1.rest k.1.ended c c-is in
    let t-target = took Target target_in c.1 d d-is in
    let delay = (number_line_takes (codes "delay") t-delay.line a.0 t-delay.has).0 in
    let groups = (names_line_takes (codes "groups") t-groups.line b.0 t-groups.has some.groups).0 in
    let stand = placed (delay_of_draft draft) None h.1.number (links_of_draft draft) last.1 in
    let kept : in_order (delay_of_draft draft) (links_of_draft draft) ≡ links_of_draft draft = stay (delay_of_draft draft) None (links_of_draft draft) stand.0 stand.1 in
    let links : t-links.lines ≡ map (link_line (scenario_of draft)) (scenario_of draft).links =
    link_lines_are version draft t-links.lines k.0 some delay-within all.ranges all.ends t-links.say ∙ ap (map (link_line (scenario_of draft))) (sym kept) in
    let lines = lines_are version draft t-messages.lines c.0 some t-messages.say fine in
    let target = target_takes t-target.line d.0 t-target.has (name_among d.0.0 c.0 all.target all.message_names) (among_some d.0.1 b.0 all.target_group some.groups) in
    let named = given.named_target draft (scenario_of draft) made-is in
    let target-is : t-target.line ≡ target_line (scenario_of draft) =
    target ∙ ap (λ w. line_of (codes "target") (w ∷ d.0.1 ∷ [])) (sym named.message)
    ∙ ap (λ w. line_of (codes "target") ((message_at (scenario_of draft) (scenario_of draft).target_message).name ∷ w ∷ [])) (sym named.group) in
    let stood : y.1.ended ≡ t-delay.line ∷ t-groups.line ∷ (places_lines h.0 ++ (t-links.lines ++ (t-messages.lines ++ t-target.line ∷ d.1.ended))) =
    t-delay.ended
    ∙ ap (λ ls. t-delay.line ∷ ls) (t-groups.ended ∙ ap (λ ls. t-groups.line ∷ ls) (t-places.ended ∙ ap (λ ls. places_lines h.0 ++ ls) (t-links.before ∙ ap (λ ls. t-links.lines ++ ls) (t-messages.before ∙ ap (λ ls. t-messages.lines ++ ls) t-target.ended)))) in
    let whole = made draft a.0 t-delay.line t-groups.line t-target.line t-links.lines t-messages.lines d.1.ended refl delay (delay_is a.0 delay-within) groups links lines target-is in
    let timed : p.ended ≡ scenario_lines version (scenario_of draft) ++ d.1.ended =
    t-time.ended ∙ ap (λ ls. time_lines version z.0 ++ ls) (t-tick.ended ∙ ap (λ ls. tick_lines y.0 ++ ls) (stood ∙ whole) ∙ sym (append_assoc (tick_lines y.0) (lines_from_delay (scenario_of draft)) d.1.ended))
    ∙ sym (append_assoc (time_lines version z.0) (tick_lines y.0 ++ lines_from_delay (scenario_of draft)) d.1.ended) in
    let messages = length-map c.0 (message_of b.0 h.0) in
    let linked : length (scenario_of draft).links ≡ length k.0 = ap length kept ∙ length-map k.0 (link_of b.0 h.0) in
    let past : p.number + length (scenario_lines version (scenario_of draft)) ≡ d.1.number =
    counted p.number (length (scenario_lines version (scenario_of draft))) (length (time_lines version z.0)) (length (tick_lines y.0)) (length (places_lines h.0)) (length (lines_from_delay (scenario_of draft)))
    (length (scenario_of draft).links) (length (scenario_of draft).multicasts) (length k.0) (length c.0) z.1.number y.1.number a.1.number b.1.number h.1.number k.1.number c.1.number d.1.number (count_all version (scenario_of draft)) (count_lines (scenario_of draft)) messages linked
    t-time.number t-tick.number t-delay.number t-groups.number t-places.number t-links.past t-messages.past t-target.number in
    subst (λ (read : Scenario × Place). IsScenario read.0 × CanSay version read.0 × IsBetween version read.0 p read.1) last.3 (
      given.of_draft draft (scenario_of draft) made-is,
      record {
        time = can_say_time version draft t-links.lines t-messages.lines t-time.said t-places.said (record { links_say = t-links.say; links_stay = kept; messages_say = t-messages.say; fine = fine });
        links = can_say_links version draft 0 h.1.number h.1.rest h.1.ended k refl k-is;
      },
      record { ended = timed; rest = t-time.rest ∙ t-tick.rest ∙ t-delay.rest ∙ t-groups.rest ∙ t-places.rest ∙ t-links.after ∙ t-messages.after ∙ t-target.rest; number = past },
    )

pub scenario_takes : (version : Version) (p : Place) (x : Scenario × Place) → scenario_at version p ≡ Ok x → IsScenario x.0 × CanSay version x.0 × IsBetween version x.0 p x.1
unfolding scenario_at
scenario_takes version p x e =
    let z = bind_ok (time_at version p) (after_time version) x e in
    let y = bind_ok (tick_at version z.0.1) (after_tick version z.0.0) x z.2 in
    let a = bind_ok (form_at Delay (number_in (codes "delay")) y.0.1) (after_delay version z.0.0 y.0.0) x y.2 in
    let b = bind_ok (form_at Groups groups_in a.0.1) (after_groups version z.0.0 y.0.0 a.0.0) x a.2 in
    let h = bind_ok (places_at version b.0.1) (after_places version z.0.0 y.0.0 a.0.0 b.0.0) x b.2 in
    let k = bind_ok (links_at version 0 h.0.1) (after_links version z.0.0 y.0.0 a.0.0 h.0.1.number b.0.0 h.0.0) x h.2 in
    let c = bind_ok (messages_at version 0 k.0.1) (after_messages z.0.0 y.0.0 a.0.0 h.0.1.number b.0.0 h.0.0 k.0.0 k.0.1.number) x k.2 in
    let d = bind_ok (form_at Target target_in c.0.1) (after_target z.0.0 y.0.0 a.0.0 h.0.1.number b.0.0 h.0.0 k.0.0 k.0.1.number c.0.0) x c.2 in
    taken version p x z.0 y.0 a.0 b.0 h.0 k.0 c.0 d.0 z.1 y.1 a.1 b.1 h.1 k.1 c.1 d.1 d.2

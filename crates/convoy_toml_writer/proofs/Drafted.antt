-- The draft of what is written of a scenario is the scenario by names.
use Rattle.std.proofs.Common.{◌≡◌, ℕ, ◌+◌, ◌≤◌, leb, Bool, true, not, List, [], ◌∷◌, ◌++◌, map, flat_map, length, pos, ℤ, Option, Some, None, Ok, refl, ap, ◌∙◌, arith, inl, inr}
use Rattle.std.specs.List.{list_all, sum_by}
use Rattle.std.proofs.lemmas.Bool.{cases_Bool, le-leb, ltb-false, false≢true, or_right}
use Rattle.std.proofs.lemmas.List.Sums.{sum_by-cons}
use Rattle.convoy_draft.specs.declared.limits.TheConstants.{GREATEST_DELAY, MOST_LINKS}
use Rattle.convoy_draft.specs.declared.fault.Key.TheVariants.{Least}
use Rattle.convoy_draft.specs.declared.time.Time.{Time}
use Rattle.convoy_draft.specs.declared.time.Time.TheVariants.{Ticks, Real}
use Rattle.convoy_draft.specs.Checks.{is_within, leads_elsewhere}
use Rattle.convoy_draft.specs.Draft.{Draft, DraftLink, DraftMessage}
use Rattle.convoy_scenario.specs.Naming.{draft_for, draft_link, draft_message, sender_name}
use Rattle.convoy_scenario.specs.Scenario.{Link, Message, Scenario, group_name_at, may_wait}
use Rattle.convoy_toml.specs.declared.links.TheConstants.{MOST_WRITTEN_LINKS}
use Rattle.convoy_toml.specs.declared.written.WrittenTime.{WrittenTime}
use Rattle.convoy_toml.specs.declared.written.WrittenTime.TheVariants.{Count}
use Rattle.convoy_toml.specs.Links.{Bundle, apart, ways_of, count_of, links_of_bundle, links_of_bundles}
use Rattle.convoy_toml.specs.Deadlines.{deadlines_of, deadlines_of_written, has_durations}
use Rattle.convoy_toml.specs.Shape.{WrittenScenario}
use Rattle.convoy_toml.specs.Times.{is_count, if_written, times_of_message, times_of_links, times_of, tick_of, last_tick, whole_if_written, is_least, need_least, draft_messages_of, bundles_of, draft_of_written}
use Rattle.convoy_toml.specs.Ways.{with_least}
use Rattle.convoy_toml_writer.proofs.Shaped.{written_ends, written_least, written_link, written_until, written_message, written_scenario}

-- ---- times

counts_append : (xs ys : List WrittenTime) → list_all is_count xs ≡ true → list_all is_count ys ≡ true → list_all is_count (xs ++ ys) ≡ true
counts_append [] ys a b = b
counts_append (Count z ∷ xs) ys a b = counts_append xs ys a b
counts_append (t ∷ xs) ys a b = absurd (false≢true a)

message_counts : (scenario : Scenario) (messages : List Message) → list_all is_count (flat_map times_of_message (map (written_message scenario) messages)) ≡ true
message_counts scenario [] = refl
message_counts scenario (m ∷ ms) =
    let others = message_counts scenario ms in
    elim (cases_Bool (may_wait m)) [
      | inl waits ↦ rw waits others
      | inr known ↦ rw known others
    ]

link_counts : (scenario : Scenario) (links : List Link) → list_all is_count (times_of_links (map (written_link scenario) links)) ≡ true
link_counts scenario [] = refl
link_counts scenario (link ∷ links) = link_counts scenario links

least_counts : (time : Time) → list_all is_count (if_written (written_least time)) ≡ true
least_counts Ticks = refl
least_counts Real = refl

-- all times are numbers of ticks, so that a tick's length is known only where it is written
tick_same : (scenario : Scenario) → tick_of (written_scenario scenario) ≡ Ok scenario.tick
tick_same scenario = by_tick scenario.tick where
  times : List WrittenTime
  times = times_of (written_scenario scenario)

  all : list_all is_count (times_of (written_scenario scenario)) ≡ true
  all =
      counts_append (Count (pos scenario.delay) ∷ if_written (written_least scenario.time) ++ flat_map times_of_message (map (written_message scenario) scenario.multicasts)) (times_of_links (map (written_link scenario) scenario.links))
      (counts_append (Count (pos scenario.delay) ∷ if_written (written_least scenario.time)) (flat_map times_of_message (map (written_message scenario) scenario.multicasts)) (least_counts scenario.time) (message_counts scenario scenario.multicasts))
      (link_counts scenario scenario.links)

  by_tick : (tick : Option ℕ) → tick_of (record (written_scenario scenario) { tick = tick }) ≡ Ok tick
  by_tick (Some tick) = refl
  by_tick None = rw all refl

-- where no last tick is written, it is the first
last_same : (tick : Option ℕ) (message : Message) → last_tick tick (pos message.at) (written_until message) ≡ Ok (pos (message.at + message.longest_wait))
last_same tick message =
    elim (cases_Bool (may_wait message)) [
      | inl waits ↦ rw waits refl
      | inr known ↦
          let none : message.longest_wait ≡ 0 = omega (arith, ltb-false 0 message.longest_wait known) in
          let same : message.at ≡ message.at + message.longest_wait = omega (arith, none) in
          rw known (ap (λ n. Ok (pos n)) same)
    ]

messages_same : (tick : Option ℕ) (scenario : Scenario) (messages : List Message) → draft_messages_of tick (map (written_message scenario) messages) ≡ Ok (map (draft_message scenario) messages)
messages_same tick scenario [] = refl
messages_same tick scenario (m ∷ ms) = rw (last_same tick m, messages_same tick scenario ms) refl

-- ---- links

-- a table of one link
abbrev bundle : Scenario → Link → Bundle
bundle scenario link = record { ends = (written_link scenario link).ends; least = pos link.least; most = pos link.most; stamps = link.stamps }

bundles_same : (tick : Option ℕ) (scenario : Scenario) (links : List Link) → bundles_of tick (map (written_link scenario) links) ≡ Ok (map (bundle scenario) links)
bundles_same tick scenario [] = refl
bundles_same tick scenario (link ∷ links) = rw (bundles_same tick scenario links) refl

apart_one : (link : DraftLink) → apart (link ∷ []) ≡ link ∷ []
apart_one link =
    elim (cases_Bool (leads_elsewhere link)) [
      | inl elsewhere ↦ rw elsewhere refl
      | inr itself ↦ rw itself refl
    ]

one_way : (scenario : Scenario) (link : Link) → ways_of (bundle scenario link) ≡ draft_link scenario link ∷ []
one_way scenario link = by_sender (sender_name scenario link.sender) where
  by_sender : (sender : Option (List ℕ)) → ways_of (record (bundle scenario link) { ends = written_ends sender (group_name_at scenario link.to) }) ≡ record (draft_link scenario link) { sender = sender } ∷ []
  by_sender None = refl
  by_sender (Some name) = refl

one_link : (scenario : Scenario) (link : Link) → links_of_bundle (bundle scenario link) ≡ draft_link scenario link ∷ []
one_link scenario link = ap apart (one_way scenario link) ∙ apart_one (draft_link scenario link)

one_counts : (scenario : Scenario) (link : Link) → count_of (bundle scenario link) ≡ 1
one_counts scenario link = by_sender (sender_name scenario link.sender) where
  by_sender : (sender : Option (List ℕ)) → count_of (record (bundle scenario link) { ends = written_ends sender (group_name_at scenario link.to) }) ≡ 1
  by_sender None = refl
  by_sender (Some name) = refl

counted : (scenario : Scenario) (links : List Link) → sum_by count_of (map (bundle scenario) links) ≡ length links
counted scenario [] = refl
counted scenario (link ∷ links) =
    let more = sum_by-cons count_of (bundle scenario link) (map (bundle scenario) links) in
    omega (arith, more, one_counts scenario link, counted scenario links)

each_way : (scenario : Scenario) (links : List Link) → flat_map links_of_bundle (map (bundle scenario) links) ≡ map (draft_link scenario) links
each_way scenario [] = refl
each_way scenario (link ∷ links) = rw (one_link scenario link, each_way scenario links) refl

links_same : (scenario : Scenario) (links : List Link) → length links ≤ MOST_LINKS → links_of_bundles (map (bundle scenario) links) ≡ Ok (map (draft_link scenario) links)
links_same scenario links few =
    let small : leb (sum_by count_of (map (bundle scenario) links)) MOST_WRITTEN_LINKS ≡ true = le-leb _ _ (omega (arith, counted scenario links, few)) in
    rw (small, each_way scenario links) refl

-- ---- the least delay of what goes by no link: the tick that it is where none is written

abbrev least_ticks : Time → Option ℤ
least_ticks Ticks = None
least_ticks Real = Some (pos 1)

least_whole : (tick : Option ℕ) (time : Time) → whole_if_written tick Least (written_least time) ≡ Ok (least_ticks time)
least_whole tick Ticks = refl
least_whole tick Real = refl

least_within : (delay : ℕ) (time : Time) → 1 ≤ delay → need_least time (pos delay) (least_ticks time) ≡ Ok tt
least_within delay Ticks some = refl
least_within delay Real some =
    let holds : is_least Real (pos delay) (Some (pos 1)) ≡ true = or_right (not (is_within 1 GREATEST_DELAY (pos delay))) (leb 1 delay) (le-leb 1 delay some) in
    rw holds refl

least_adds_none : (time : Time) (draft : Draft) → with_least (least_ticks time) draft ≡ draft
least_adds_none Ticks draft = refl
least_adds_none Real draft = refl

-- step by step
in_steps : (scenario : WrittenScenario) (tick : Option ℕ) (delay : ℕ) (least : Option ℤ) (messages : List DraftMessage) (bundles : List Bundle) (links : List DraftLink) → tick_of scenario ≡ Ok tick → scenario.delay ≡ Some (Count (pos delay))
    → scenario.agreements ≡ [] → whole_if_written tick Least scenario.least ≡ Ok least → draft_messages_of tick scenario.messages ≡ Ok messages → bundles_of tick scenario.links ≡ Ok bundles → links_of_bundles bundles ≡ Ok links → need_least scenario.time (pos delay) least ≡ Ok tt
    → let draft : Draft = record { time = scenario.time; tick = tick; delay = pos delay; groups = scenario.groups; places = scenario.places; links = links; messages = messages; target_message = scenario.target_message; target_group = scenario.target_group } in
    draft_of_written scenario ≡ Ok (with_least least draft)
in_steps scenario tick delay least messages bundles links has_tick has_delay none_agree has_least has_messages has_bundles has_links within = rw (has_tick, has_delay, has_least, has_messages, has_bundles, none_agree, has_links, within) refl

-- the draft of what is written
pub draft_same : (scenario : Scenario) → 1 ≤ scenario.delay → length scenario.links ≤ MOST_LINKS → draft_of_written (written_scenario scenario) ≡ Ok (draft_for scenario)
draft_same scenario some few =
    in_steps (written_scenario scenario) scenario.tick scenario.delay (least_ticks scenario.time) (map (draft_message scenario) scenario.multicasts) (map (bundle scenario) scenario.links) (map (draft_link scenario) scenario.links)
    (tick_same scenario) refl refl (least_whole scenario.tick scenario.time) (messages_same scenario.tick scenario scenario.multicasts) (bundles_same scenario.tick scenario scenario.links) (links_same scenario scenario.links few) (least_within scenario.delay scenario.time some)
    ∙ ap Ok (least_adds_none scenario.time (draft_for scenario))

-- ---- deadlines: none is written

no_deadlines : (lasting : Bool) (tick : Option ℕ) (scenario : Scenario) (messages : List Message)
    → deadlines_of None lasting tick (map (written_message scenario) messages) ≡ Ok (map (λ message. None) messages)
no_deadlines lasting tick scenario [] = refl
no_deadlines lasting tick scenario (m ∷ ms) = rw (no_deadlines lasting tick scenario ms) refl

pub none_written : (scenario : Scenario) → deadlines_of_written None (written_scenario scenario) ≡ Ok (map (λ message. None) scenario.multicasts)
none_written scenario = rw (tick_same scenario, no_deadlines (has_durations (written_scenario scenario)) scenario.tick scenario scenario.multicasts) refl

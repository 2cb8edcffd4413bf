-- What is written in durations, in ticks so many times as fine: all numbers are so many times as great.
use Rattle.std.proofs.Common.{◌≡◌, ℕ, ◌+◌, ◌*◌, ◌&&◌, ◌≤◌, ℤ, pos, int_le, nat_le, Bool, true, false, if◌then◌else◌, List, [], ◌∷◌, ◌++◌, map, flat_map, filter, Option, Some, None, is_some, option_map, Result, Ok, refl, sym, ap, subst, ◌∙◌, arith, inl, inr}
use Rattle.std.specs.List.{list_all, list_any, sum_by}
use Rattle.std.proofs.lemmas.Bool.{and_parts, cases_Bool, false≢true}
use Rattle.std.proofs.lemmas.List.{map-append}
use Rattle.std.proofs.lemmas.List.Folds.{list_all-append}
use Rattle.std.proofs.lemmas.List.Sums.{sum_by-cons}
use Rattle.convoy_lines.specs.Results.{◌>>=◌}
use Rattle.convoy_draft.specs.declared.fault.Key.{Key}
use Rattle.convoy_draft.specs.declared.fault.Key.TheVariants.{Delay, Least, Most, At, Until, Agree}
use Rattle.convoy_draft.specs.declared.fault.ScenarioFault.{ScenarioFault}
use Rattle.convoy_draft.specs.declared.fault.ScenarioFault.TheVariants.{NotWhole}
use Rattle.convoy_draft.specs.declared.time.Time.TheVariants.{Real}
use Rattle.convoy_draft.specs.Checks.{judge, leads_elsewhere}
use Rattle.convoy_draft.specs.Draft.{Draft, DraftLink, DraftMessage}
use Rattle.convoy_toml.specs.declared.links.TheConstants.{MOST_WRITTEN_LINKS}
use Rattle.convoy_toml.specs.declared.written.WrittenTime.{WrittenTime}
use Rattle.convoy_toml.specs.declared.written.WrittenTime.TheVariants.{Count, Lasting}
use Rattle.convoy_toml.specs.Agreements.{Agreement, agreed, agreement_checks, filled, filled_by, least_of_rest, with_agreements}
use Rattle.convoy_toml.specs.Links.{Bundle, apart, count_of, link_in, links_between, links_from, links_of_bundle, links_of_bundles, ways_of}
use Rattle.convoy_toml.specs.Shape.{WrittenAgreement, WrittenLink, WrittenMessage, WrittenScenario}
use Rattle.convoy_toml.specs.Times.{agreement_of, agreements_of, bundle_of, bundles_of, delay_or_greatest, draft_message_of, draft_messages_of, greatest_most, if_written, is_lasting, last_tick, need_least, ticks_in, times_of, times_of_agreements, times_of_links, times_of_message, whole, whole_if_written}
use Rattle.convoy_toml.specs.Ways.{has_ranges, with_least}
use Rattle.convoy_toml.proofs.FinerAgreements.{finer_agreement, finer_draft, with_finer}
pub use Rattle.convoy_toml.proofs.FinerTicks.{after_ok, finer_bundle, finer_link, finer_message, finer_order, finer_ticks, from_ok, in_finer, same_ok}

-- ---- times, messages and tables of links

module _ (times tick : ℕ) (some : 1 ≤ tick) where
  abbrev coarse : Option ℕ
  coarse = Some (times * tick)

  abbrev fine : Option ℕ
  fine = Some tick

  whole_finer : (key : Key) (time : WrittenTime) (z : ℤ) → is_lasting time ≡ true → whole coarse key time ≡ Ok z → whole fine key time ≡ Ok (finer_ticks times z)
  whole_finer key (Count n) z lasting e = absurd (false≢true lasting)
  whole_finer key (Lasting length) z lasting e = rw (in_finer times tick length z some (from_ok (ticks_in (times * tick) length) (NotWhole key) z e)) refl

  written_finer : (key : Key) (time : Option WrittenTime) (z : Option ℤ) → list_all is_lasting (if_written time) ≡ true → whole_if_written coarse key time ≡ Ok z → whole_if_written fine key time ≡ Ok (option_map (finer_ticks times) z)
  written_finer key None z lasting e = ap (λ o. Ok (option_map (finer_ticks times) o)) (same_ok None z e)
  written_finer key (Some time) z lasting e =
      let given = after_ok (whole coarse key time) (λ n. Ok (Some n)) z e in
      rw (whole_finer key time given.0 (and_parts (is_lasting time) true lasting).0 given.1) (ap (λ o. Ok (option_map (finer_ticks times) o)) (same_ok (Some given.0) z given.2))

  last_finer : (until : Option WrittenTime) (at z : ℤ) → list_all is_lasting (if_written until) ≡ true → last_tick coarse at until ≡ Ok z → last_tick fine (finer_ticks times at) until ≡ Ok (finer_ticks times z)
  last_finer None at z lasting e = ap (λ n. Ok (finer_ticks times n)) (same_ok at z e)
  last_finer (Some until) at z lasting e = whole_finer Until until z (and_parts (is_lasting until) true lasting).0 e

  message_finer : (message : WrittenMessage) (made : DraftMessage) → list_all is_lasting (times_of_message message) ≡ true → draft_message_of coarse message ≡ Ok made → draft_message_of fine message ≡ Ok (finer_message times made)
  message_finer message made lasting e =
      let parts = and_parts (is_lasting message.at) (list_all is_lasting (if_written message.until)) lasting in
      let named : ℤ → ℤ → DraftMessage = λ at until. record { name = message.name; sender = message.sender; to = message.to; at = at; until = until } in
      let at = after_ok (whole coarse At message.at) (λ n. last_tick coarse n message.until >>= λ until. Ok (named n until)) made e in
      let until = after_ok (last_tick coarse at.0 message.until) (λ n. Ok (named at.0 n)) made at.2 in
      rw (whole_finer At message.at at.0 parts.0 at.1, last_finer message.until at.0 until.0 parts.1 until.1) (ap (λ m. Ok (finer_message times m)) (same_ok (named at.0 until.0) made until.2))

  messages_finer : (messages : List WrittenMessage) (made : List DraftMessage) → list_all is_lasting (flat_map times_of_message messages) ≡ true → draft_messages_of coarse messages ≡ Ok made
      → draft_messages_of fine messages ≡ Ok (map (finer_message times) made)
  messages_finer [] made lasting e = ap (λ ms. Ok (map (finer_message times) ms)) (same_ok [] made e)
  messages_finer (message ∷ messages) made lasting e =
      let parts = and_parts (list_all is_lasting (times_of_message message)) (list_all is_lasting (flat_map times_of_message messages)) (sym (list_all-append is_lasting (times_of_message message) (flat_map times_of_message messages)) ∙ lasting) in
      let here = after_ok (draft_message_of coarse message) (λ m. draft_messages_of coarse messages >>= λ ms. Ok (m ∷ ms)) made e in
      let others = after_ok (draft_messages_of coarse messages) (λ ms. Ok (here.0 ∷ ms)) made here.2 in
      rw (message_finer message here.0 parts.0 here.1, messages_finer messages others.0 parts.1 others.1) (ap (λ ms. Ok (map (finer_message times) ms)) (same_ok (here.0 ∷ others.0) made others.2))

  bundle_finer : (link : WrittenLink) (made : Bundle) → is_lasting link.least ≡ true → is_lasting link.most ≡ true → bundle_of coarse link ≡ Ok made → bundle_of fine link ≡ Ok (finer_bundle times made)
  bundle_finer link made low high e =
      let ranged : ℤ → ℤ → Bundle = λ least most. record { ends = link.ends; least = least; most = most; stamps = link.stamps } in
      let least = after_ok (whole coarse Least link.least) (λ n. whole coarse Most link.most >>= λ most. Ok (ranged n most)) made e in
      let most = after_ok (whole coarse Most link.most) (λ n. Ok (ranged least.0 n)) made least.2 in
      rw (whole_finer Least link.least least.0 low least.1, whole_finer Most link.most most.0 high most.1) (ap (λ b. Ok (finer_bundle times b)) (same_ok (ranged least.0 most.0) made most.2))

  bundles_finer : (links : List WrittenLink) (made : List Bundle) → list_all is_lasting (times_of_links links) ≡ true → bundles_of coarse links ≡ Ok made → bundles_of fine links ≡ Ok (map (finer_bundle times) made)
  bundles_finer [] made lasting e = ap (λ bs. Ok (map (finer_bundle times) bs)) (same_ok [] made e)
  bundles_finer (link ∷ links) made lasting e =
      let low = and_parts (is_lasting link.least) (is_lasting link.most && list_all is_lasting (times_of_links links)) lasting in
      let high = and_parts (is_lasting link.most) (list_all is_lasting (times_of_links links)) low.1 in
      let here = after_ok (bundle_of coarse link) (λ b. bundles_of coarse links >>= λ bs. Ok (b ∷ bs)) made e in
      let others = after_ok (bundles_of coarse links) (λ bs. Ok (here.0 ∷ bs)) made here.2 in
      rw (bundle_finer link here.0 low.0 high.0 here.1, bundles_finer links others.0 high.1 others.1) (ap (λ bs. Ok (map (finer_bundle times) bs)) (same_ok (here.0 ∷ others.0) made others.2))

  agreement_finer : (agreement : WrittenAgreement) (made : Agreement) → is_lasting agreement.least ≡ true → is_lasting agreement.most ≡ true → agreement_of coarse agreement ≡ Ok made → agreement_of fine agreement ≡ Ok (finer_agreement times made)
  agreement_finer agreement made low high e =
      let ranged : ℤ → ℤ → Agreement = λ least most. record { groups = agreement.groups; least = least; most = most; twice = agreement.twice } in
      let least = after_ok (whole coarse Agree agreement.least) (λ n. whole coarse Agree agreement.most >>= λ most. Ok (ranged n most)) made e in
      let most = after_ok (whole coarse Agree agreement.most) (λ n. Ok (ranged least.0 n)) made least.2 in
      rw (whole_finer Agree agreement.least least.0 low least.1, whole_finer Agree agreement.most most.0 high most.1) (ap (λ a. Ok (finer_agreement times a)) (same_ok (ranged least.0 most.0) made most.2))

  agreements_finer : (agreements : List WrittenAgreement) (made : List Agreement) → list_all is_lasting (times_of_agreements agreements) ≡ true → agreements_of coarse agreements ≡ Ok made
      → agreements_of fine agreements ≡ Ok (map (finer_agreement times) made)
  agreements_finer [] made lasting e = ap (λ every. Ok (map (finer_agreement times) every)) (same_ok [] made e)
  agreements_finer (agreement ∷ agreements) made lasting e =
      let low = and_parts (is_lasting agreement.least) (is_lasting agreement.most && list_all is_lasting (times_of_agreements agreements)) lasting in
      let high = and_parts (is_lasting agreement.most) (list_all is_lasting (times_of_agreements agreements)) low.1 in
      let here = after_ok (agreement_of coarse agreement) (λ a. agreements_of coarse agreements >>= λ every. Ok (a ∷ every)) made e in
      let others = after_ok (agreements_of coarse agreements) (λ every. Ok (here.0 ∷ every)) made here.2 in
      rw (agreement_finer agreement here.0 low.0 high.0 here.1, agreements_finer agreements others.0 high.1 others.1) (ap (λ every. Ok (map (finer_agreement times) every)) (same_ok (here.0 ∷ others.0) made others.2))

-- ---- links

module _ (times : ℕ) where
  from_finer : (bundle : Bundle) (sender : Option (List ℕ)) (to : List (List ℕ)) → links_from (finer_bundle times bundle) sender to ≡ map (finer_link times) (links_from bundle sender to)
  from_finer bundle sender [] = refl
  from_finer bundle sender (name ∷ to) = ap (λ links. finer_link times (link_in bundle sender name) ∷ links) (from_finer bundle sender to)

  between_finer : (bundle : Bundle) (senders to : List (List ℕ)) → links_between (finer_bundle times bundle) senders to ≡ map (finer_link times) (links_between bundle senders to)
  between_finer bundle [] to = refl
  between_finer bundle (sender ∷ senders) to =
      rw (from_finer bundle (Some sender) to, between_finer bundle senders to) (sym (map-append (finer_link times) (links_from bundle (Some sender) to) (links_between bundle senders to)))

  ways_finer : (bundle : Bundle) → ways_of (finer_bundle times bundle) ≡ map (finer_link times) (ways_of bundle)
  ways_finer bundle = by_senders bundle.ends.senders bundle.ends.both where
    by_senders : (senders : Option (List (List ℕ))) (both : Bool)
        → ways_of (finer_bundle times (record bundle { ends = record { senders = senders; to = bundle.ends.to; both = both } })) ≡ map (finer_link times) (ways_of (record bundle { ends = record { senders = senders; to = bundle.ends.to; both = both } }))
    by_senders None both = from_finer bundle None bundle.ends.to
    by_senders (Some groups) true =
        rw (between_finer bundle groups bundle.ends.to, between_finer bundle bundle.ends.to groups) (sym (map-append (finer_link times) (links_between bundle groups bundle.ends.to) (links_between bundle bundle.ends.to groups)))
    by_senders (Some groups) false =
        rw (between_finer bundle groups bundle.ends.to) (sym (map-append (finer_link times) (links_between bundle groups bundle.ends.to) []))

  some_elsewhere : (links : List DraftLink) → list_any leads_elsewhere (map (finer_link times) links) ≡ list_any leads_elsewhere links
  some_elsewhere [] = refl
  some_elsewhere (link ∷ links) = rw (some_elsewhere links) refl

  all_elsewhere : (links : List DraftLink) → filter leads_elsewhere (map (finer_link times) links) ≡ map (finer_link times) (filter leads_elsewhere links)
  all_elsewhere [] = refl
  all_elsewhere (link ∷ links) =
      elim (cases_Bool (leads_elsewhere link)) [
        | inl other ↦ rw other (ap (λ ls. finer_link times link ∷ ls) (all_elsewhere links))
        | inr itself ↦ rw itself (all_elsewhere links)
      ]

  apart_finer : (links : List DraftLink) → apart (map (finer_link times) links) ≡ map (finer_link times) (apart links)
  apart_finer links =
      elim (cases_Bool (list_any leads_elsewhere links)) [
        | inl other ↦ rw (some_elsewhere links, other) (all_elsewhere links)
        | inr none ↦ rw (some_elsewhere links, none) refl
      ]

  each_finer : (bundles : List Bundle) → flat_map links_of_bundle (map (finer_bundle times) bundles) ≡ map (finer_link times) (flat_map links_of_bundle bundles)
  each_finer [] = refl
  each_finer (bundle ∷ bundles) =
      rw (ways_finer bundle, apart_finer (ways_of bundle), each_finer bundles) (sym (map-append (finer_link times) (links_of_bundle bundle) (flat_map links_of_bundle bundles)))

  counted_finer : (bundles : List Bundle) → sum_by count_of (map (finer_bundle times) bundles) ≡ sum_by count_of bundles
  counted_finer [] = refl
  counted_finer (bundle ∷ bundles) =
      sum_by-cons count_of (finer_bundle times bundle) (map (finer_bundle times) bundles) ∙ ap (λ n. count_of bundle + n) (counted_finer bundles) ∙ sym (sum_by-cons count_of bundle bundles)

  links_finer : (bundles : List Bundle) (made : List DraftLink) → links_of_bundles bundles ≡ Ok made → links_of_bundles (map (finer_bundle times) bundles) ≡ Ok (map (finer_link times) made)
  links_finer bundles made e =
      elim (cases_Bool (nat_le (sum_by count_of bundles) MOST_WRITTEN_LINKS)) [
        | inl few ↦
            let is : ◌≡◌ {A = Result (List DraftLink) ScenarioFault} (Ok (flat_map links_of_bundle bundles)) (Ok made) = rw few at e in
            rw (counted_finer bundles, few) (ap Ok (each_finer bundles) ∙ ap (λ ls. Ok (map (finer_link times) ls)) (same_ok (flat_map links_of_bundle bundles) made is))
        | inr many ↦ let is = rw many at e in absurd cc
      ]

  greatest_finer : (some : 1 ≤ times) (so_far : ℤ) (bundles : List Bundle) → greatest_most (finer_ticks times so_far) (map (finer_bundle times) bundles) ≡ finer_ticks times (greatest_most so_far bundles)
  greatest_finer some so_far [] = refl
  greatest_finer some so_far (bundle ∷ bundles) =
      ap (λ b. greatest_most (if b then finer_ticks times bundle.most else finer_ticks times so_far) (map (finer_bundle times) bundles)) (finer_order times so_far bundle.most some)
      ∙ by_order (int_le so_far bundle.most) (greatest_finer some bundle.most bundles) (greatest_finer some so_far bundles)
    where
      by_order : (more : Bool) → greatest_most (finer_ticks times bundle.most) (map (finer_bundle times) bundles) ≡ finer_ticks times (greatest_most bundle.most bundles)
          → greatest_most (finer_ticks times so_far) (map (finer_bundle times) bundles) ≡ finer_ticks times (greatest_most so_far bundles)
          → greatest_most (if more then finer_ticks times bundle.most else finer_ticks times so_far) (map (finer_bundle times) bundles) ≡ finer_ticks times (greatest_most (if more then bundle.most else so_far) bundles)
      by_order true greater least = greater
      by_order false greater least = least

  delay_finer : (some : 1 ≤ times) (written : Option ℤ) (bundles : List Bundle) → delay_or_greatest (option_map (finer_ticks times) written) (map (finer_bundle times) bundles) ≡ finer_ticks times (delay_or_greatest written bundles)
  delay_finer some (Some delay) bundles = refl
  delay_finer some None bundles = ap (λ n. greatest_most (pos n) (map (finer_bundle times) bundles)) (nothing times) ∙ greatest_finer some (pos 0) bundles where
    nothing : (times : ℕ) → 0 ≡ times * 0
    nothing times = omega arith

-- ---- drafts

-- a scenario in ticks, before the links that a least delay of what goes by none and agreements add
abbrev pub plain_draft : WrittenScenario → Option ℕ → ℤ → List DraftLink → List DraftMessage → Draft
plain_draft written tick delay links messages = record {
  time = written.time;
  tick = tick;
  delay = delay;
  groups = written.groups;
  places = written.places;
  links = links;
  messages = messages;
  target_message = written.target_message;
  target_group = written.target_group;
}

-- a draft without the links that a least delay of what goes by none adds, and that least delay; where replicas agree there is none, as what they add stands among the links
pub record Made (written : WrittenScenario) (tick : Option ℕ) (draft : Draft) : Type 0 where
  pub least : Option ℤ
  pub delay : ℤ
  pub links : List DraftLink
  pub messages : List DraftMessage
  pub ranged : has_ranges (is_some written.least) draft ≡ true → has_ranges (is_some least) draft ≡ true
  pub within : need_least written.time delay least ≡ Ok tt
  pub is : draft ≡ with_least least (plain_draft written tick delay links messages)

-- one draft, and that of the same in ticks so many times as fine
pub record AreMade (written : WrittenScenario) (times tick : ℕ) (draft finer : Draft) : Type 0 where
  pub made : Made written (Some (times * tick)) draft
  pub finer_within : need_least written.time (finer_ticks times made.delay) (option_map (finer_ticks times) made.least) ≡ Ok tt
  pub finer_is : finer ≡ with_least (option_map (finer_ticks times) made.least) (plain_draft written (Some tick) (finer_ticks times made.delay) (map (finer_link times) made.links) (map (finer_message times) made.messages))

-- what is left to do after each step
abbrev of_links : WrittenScenario → Option ℕ → Option ℤ → Option ℤ → List DraftMessage → List Bundle → List Agreement → List DraftLink → Result Draft ScenarioFault
of_links written tick delay least messages bundles agreements links =
    need_least written.time (delay_or_greatest delay bundles) least >>= λ within. with_agreements least agreements (plain_draft written tick (delay_or_greatest delay bundles) links messages)

abbrev of_agreements : WrittenScenario → Option ℕ → Option ℤ → Option ℤ → List DraftMessage → List Bundle → List Agreement → Result Draft ScenarioFault
of_agreements written tick delay least messages bundles agreements = links_of_bundles bundles >>= of_links written tick delay least messages bundles agreements

abbrev of_bundles : WrittenScenario → Option ℕ → Option ℤ → Option ℤ → List DraftMessage → List Bundle → Result Draft ScenarioFault
of_bundles written tick delay least messages bundles = agreements_of tick written.agreements >>= of_agreements written tick delay least messages bundles

abbrev of_messages : WrittenScenario → Option ℕ → Option ℤ → Option ℤ → List DraftMessage → Result Draft ScenarioFault
of_messages written tick delay least messages = bundles_of tick written.links >>= of_bundles written tick delay least messages

abbrev of_least : WrittenScenario → Option ℕ → Option ℤ → Option ℤ → Result Draft ScenarioFault
of_least written tick delay least = draft_messages_of tick written.messages >>= of_messages written tick delay least

abbrev of_delay : WrittenScenario → Option ℕ → Option ℤ → Result Draft ScenarioFault
of_delay written tick delay = whole_if_written tick Least written.least >>= of_least written tick delay

abbrev pub of_tick : WrittenScenario → Option ℕ → Result Draft ScenarioFault
of_tick written tick = whole_if_written tick Delay written.delay >>= of_delay written tick

all_lasting : (xs ys : List WrittenTime) → list_all is_lasting (xs ++ ys) ≡ true → (list_all is_lasting xs ≡ true) × (list_all is_lasting ys ≡ true)
all_lasting xs ys all = and_parts (list_all is_lasting xs) (list_all is_lasting ys) (sym (list_all-append is_lasting xs ys) ∙ all)

least_told : (tick : Option ℕ) (key : Key) (time : Option WrittenTime) (z : Option ℤ) → whole_if_written tick key time ≡ Ok z → is_some z ≡ is_some time
least_told tick key None z e = ap is_some (sym (same_ok None z e))
least_told tick key (Some time) z e =
    let given = after_ok (whole tick key time) (λ n. Ok (Some n)) z e in
    ap is_some (sym (same_ok (Some given.0) z given.2))

-- in real time, the draft of what is written, and that of the same in ticks so many times as fine
pub drafts_finer : (written : WrittenScenario) (times tick : ℕ) (draft finer : Draft) → written.time ≡ Real → 1 ≤ times → 1 ≤ tick → list_all is_lasting (times_of written) ≡ true → of_tick written (Some (times * tick)) ≡ Ok draft → of_tick written (Some tick) ≡ Ok finer
    → AreMade written times tick draft finer
drafts_finer written times tick draft finer real some lasts lasting e f =
    let agreement_times = times_of_agreements written.agreements in
    let delay_time = if_written written.delay in
    let least_time = if_written written.least in
    let message_times = flat_map times_of_message written.messages in
    let all = all_lasting (agreement_times ++ delay_time ++ least_time ++ message_times) (times_of_links written.links) lasting in
    let four = all_lasting (agreement_times ++ delay_time ++ least_time) message_times all.0 in
    let three = all_lasting (agreement_times ++ delay_time) least_time four.0 in
    let two = all_lasting agreement_times delay_time three.0 in
    let coarse : Option ℕ = Some (times * tick) in
    let delay = after_ok (whole_if_written coarse Delay written.delay) (of_delay written coarse) draft e in
    let least = after_ok (whole_if_written coarse Least written.least) (of_least written coarse delay.0) draft delay.2 in
    let messages = after_ok (draft_messages_of coarse written.messages) (of_messages written coarse delay.0 least.0) draft least.2 in
    let bundles = after_ok (bundles_of coarse written.links) (of_bundles written coarse delay.0 least.0 messages.0) draft messages.2 in
    let agreements = after_ok (agreements_of coarse written.agreements) (of_agreements written coarse delay.0 least.0 messages.0 bundles.0) draft bundles.2 in
    let links = after_ok (links_of_bundles bundles.0) (of_links written coarse delay.0 least.0 messages.0 bundles.0 agreements.0) draft agreements.2 in
    let d = delay_or_greatest delay.0 bundles.0 in
    let plain : Draft = plain_draft written coarse d links.0 messages.0 in
    let within = after_ok (need_least written.time d least.0) (λ u. with_agreements least.0 agreements.0 plain) draft links.2 in
    let more = option_map (finer_ticks times) least.0 in
    let fine_agreed = map (finer_agreement times) agreements.0 in
    let fine_delay = written_finer times tick lasts Delay written.delay delay.0 two.1 delay.1 in
    let fine_least = written_finer times tick lasts Least written.least least.0 three.1 least.1 in
    let fine_messages = messages_finer times tick lasts written.messages messages.0 four.1 messages.1 in
    let fine_bundles = bundles_finer times tick lasts written.links bundles.0 all.1 bundles.1 in
    let fine_agreements = agreements_finer times tick lasts written.agreements agreements.0 two.0 agreements.1 in
    let fine_links = links_finer times bundles.0 links.0 links.1 in
    let fine_d = delay_finer times some delay.0 bundles.0 in
    let fine_plain : Draft = finer_draft times (Some tick) plain in
    let as_fine : (need_least written.time (finer_ticks times d) more >>= λ u. with_agreements more fine_agreed fine_plain) ≡ Ok finer = rw (fine_delay, fine_least, fine_messages, fine_bundles, fine_agreements, fine_links, fine_d) at f in
    let fine_within = after_ok (need_least written.time (finer_ticks times d) more) (λ u. with_agreements more fine_agreed fine_plain) finer as_fine in
    let are = with_finer times (Some tick) least.0 agreements.0 plain draft finer some real within.2 fine_within.2 in
    record {
      made = record {
        least = are.rest;
        delay = are.delay;
        links = are.links;
        messages = messages.0;
        ranged = λ h. are.ranged (subst (λ (b : Bool). has_ranges b draft ≡ true) (sym (least_told coarse Least written.least least.0 least.1)) h);
        within = are.within within.1;
        is = are.is;
      };
      finer_within = are.finer_within fine_within.1;
      finer_is = are.finer_is;
    }

-- links that are added change neither how time goes nor the length of a tick
least_ticks : (least : Option ℤ) (draft : Draft) → ((with_least least draft).time ≡ draft.time) × ((with_least least draft).tick ≡ draft.tick)
least_ticks None draft = (refl, refl)
least_ticks (Some least) draft =
    elim (cases_Bool (int_le least (pos 1))) [
      | inl one ↦ rw one (refl, refl)
      | inr more ↦ rw more (refl, refl)
    ]

filled_ticks : (least : Option ℤ) (draft : Draft) → ((filled_by least draft).time ≡ draft.time) × ((filled_by least draft).tick ≡ draft.tick)
filled_ticks None draft = (refl, refl)
filled_ticks (Some least) draft = (refl, refl)

agreed_ticks : (least : Option ℤ) (agreements : List Agreement) (plain draft : Draft) → with_agreements least agreements plain ≡ Ok draft → (draft.time ≡ plain.time) × (draft.tick ≡ plain.tick)
agreed_ticks least [] plain draft e =
    let is = same_ok (with_least least plain) draft e in
    let kept = least_ticks least plain in
    (ap (λ (d : Draft). d.time) (sym is) ∙ kept.0, ap (λ (d : Draft). d.tick) (sym is) ∙ kept.1)
agreed_ticks least (agreement ∷ others) plain draft e =
    let more : Draft = filled least plain in
    let checked = after_ok (judge (agreement_checks (agreement ∷ others) more)) (λ u. Ok (agreed (agreement ∷ others) more)) draft e in
    let is = same_ok (agreed (agreement ∷ others) more) draft checked.2 in
    let kept = filled_ticks (least_of_rest plain.time least) plain in
    (ap (λ (d : Draft). d.time) (sym is) ∙ kept.0, ap (λ (d : Draft). d.tick) (sym is) ∙ kept.1)

-- time goes as it is written, in ticks of that length
pub tick_kept : (written : WrittenScenario) (tick : Option ℕ) (draft : Draft) → of_tick written tick ≡ Ok draft → (draft.time ≡ written.time) × (draft.tick ≡ tick)
tick_kept written tick draft e =
    let delay = after_ok (whole_if_written tick Delay written.delay) (of_delay written tick) draft e in
    let least = after_ok (whole_if_written tick Least written.least) (of_least written tick delay.0) draft delay.2 in
    let messages = after_ok (draft_messages_of tick written.messages) (of_messages written tick delay.0 least.0) draft least.2 in
    let bundles = after_ok (bundles_of tick written.links) (of_bundles written tick delay.0 least.0 messages.0) draft messages.2 in
    let agreements = after_ok (agreements_of tick written.agreements) (of_agreements written tick delay.0 least.0 messages.0 bundles.0) draft bundles.2 in
    let links = after_ok (links_of_bundles bundles.0) (of_links written tick delay.0 least.0 messages.0 bundles.0 agreements.0) draft agreements.2 in
    let plain = plain_draft written tick (delay_or_greatest delay.0 bundles.0) links.0 messages.0 in
    let within = after_ok (need_least written.time (delay_or_greatest delay.0 bundles.0) least.0) (λ u. with_agreements least.0 agreements.0 plain) draft links.2 in
    agreed_ticks least.0 agreements.0 plain draft within.2

-- A draft, with a least delay of what goes by no link, and the same in ticks so many times as fine: the scenario is one, told in ticks and in finer ones.
use Rattle.std.proofs.Common.{◌≡◌, ℕ, zero, suc, ◌+◌, ◌*◌, ◌==◌, ◌&&◌, ◌||◌, ◌≤◌, ℤ, pos, negsuc, int_le, leb, leb-true, eq-eqb, Bool, true, false, not, cond, List, [], ◌∷◌, ◌++◌, map, take, get_or, inl, inr, Option, Some, None, is_some, option_map, Ok, Err, refl, sym, ap, subst, ◌∙◌, arith}
use Rattle.std.specs.List.{AllZip, find, list_all, list_any, position_or_len}
use Rattle.std.specs.Option.{option_map_or}
use Rattle.std.specs.Str.{bytes_eq}
use Rattle.std.proofs.lemmas.Bool.{and_parts, cases_Bool, eqb-true, false≢true}
use Rattle.std.proofs.lemmas.List.{length-map}
use Rattle.std.proofs.lemmas.List.Folds.{list_all-append}
use Rattle.convoy_draft.specs.declared.fault.ScenarioFault.{ScenarioFault}
use Rattle.convoy_draft.specs.declared.fault.ScenarioFault.TheVariants.{OverLimit}
use Rattle.convoy_draft.specs.declared.fault.Limit.TheVariants as limits
use Rattle.convoy_draft.specs.declared.limits.TheConstants.{GREATEST_DELAY, MOST_GROUPS, MOST_PLACES}
use Rattle.convoy_draft.specs.declared.time.Time.TheVariants.{Real}
use Rattle.convoy_draft.specs.Checks.{checks, has_range, is_within, judge, ticks}
use Rattle.convoy_draft.specs.Draft.{Draft, DraftLink, DraftMessage}
use Rattle.convoy_scenario.specs.declared.sender.Sender.{Sender}
use Rattle.convoy_scenario.specs.declared.sender.Sender.TheVariants.{Client, Group}
use Rattle.convoy_scenario.specs.ScenarioLaws.{OrderKeepsRanges, OrderKeepsWhatTakesTime}
use Rattle.convoy_scenario.specs.Numbering.{link_of, message_place, place, scenario_of, scenario_of_draft, sender_of}
use Rattle.convoy_scenario.specs.Room.{has_room}
use Rattle.convoy_scenario.proofs.GivenScenarios.{given}
use Rattle.convoy_scenario.specs.Scenario.{HaveSameHomes, Link, Message, Scenario, is_addressed, is_same_sender, link_between, message_at, no_message, range_between, stamp_takes_time, takes_time}
use Rattle.convoy_scenario.proofs.KeptRanges.{leads, one_sender, range_found}
use Rattle.convoy_scenario.proofs.NumberedLemmas.{Passes, passes}
use Rattle.convoy_packets.specs.declared.packet.Packet.TheVariants.{Wait, Multicast, Propose}
use Rattle.convoy_packets.specs.Assignment.{range_of}
use Rattle.convoy_sim.proofs.Membership.{IsIn}
use Rattle.convoy_toml.specs.Times.{is_least, need_least}
use Rattle.convoy_toml.specs.Ways.{Way, carries, has_ranges, link_along, ways_between, ways_without_link, with_least}
use Rattle.convoy_toml.proofs.FinerDrafts.{finer_link, finer_message, finer_ticks}
use Rattle.convoy_laws.specs.FinerTicks.{AreSameRanges, IsFiner, IsFinerMessage, IsInRange, finer_range}
use Rattle.convoy_laws.proofs.FinerRanges.{AreAsFine, IsAsFine, as_fine, found_after, found_before, found_finer, lacks, links_finer, messages_finer, none_lacks, none_leads, some_carry, some_lead, ticks_finer, within_from}
use Rattle.convoy_laws.proofs.HomeLinks.{home_as_written}
use Rattle.convoy_laws.proofs.Travelled.{Goes, goes}

-- a draft in ticks so many times as fine, of this length
abbrev pub finer_draft : ℕ → ℕ → Draft → Draft
finer_draft times tick plain = record plain {
  tick = Some tick;
  delay = finer_ticks times plain.delay;
  links = map (finer_link times) plain.links;
  messages = map (finer_message times) plain.messages;
}

sender_itself : (sender : Sender) → is_same_sender sender sender ≡ true
sender_itself (Client p) = eq-eqb p p refl
sender_itself (Group g) = eq-eqb g g refl

-- ---- the least delay of what goes by no link

-- where a test that has to hold has no fault, it holds
pub when_ok : (b : Bool) (fault : ScenarioFault) (u : Unit {0}) → cond b (Ok tt) (Err fault) ≡ Ok u → b ≡ true
when_ok true fault u e = refl
when_ok false fault u e = absurd cc

-- it is within the limit, as D is
least_within : (least : ℕ) (delay : ℤ) → is_within 1 GREATEST_DELAY delay ≡ true → need_least Real delay (Some (pos least)) ≡ Ok tt → (1 ≤ least) × (is_within 0 GREATEST_DELAY (pos least) ≡ true)
least_within least (pos d) within e =
    let either = when_ok (is_least Real (pos d) (Some (pos least))) (OverLimit limits.Least) tt e in
    let holds : (leb 1 least && leb least d) ≡ true = rw within at either in
    let parts = and_parts (leb 1 least) (leb least d) holds in
    let low = leb-true 1 least parts.0 in
    let high = leb-true least d parts.1 in
    let top = leb-true d GREATEST_DELAY (and_parts (leb 1 d) (leb d GREATEST_DELAY) within).1 in
    (low, within_from GREATEST_DELAY least (omega arith))
least_within least (negsuc d) within e = absurd (false≢true within)

-- nor is it below 0
not_negative : (least : ℕ) (delay : ℤ) → is_within 1 GREATEST_DELAY delay ≡ true → need_least Real delay (Some (negsuc least)) ≡ Ok tt → ⊥
not_negative least delay within e =
    let either = when_ok (is_least Real delay (Some (negsuc least))) (OverLimit limits.Least) tt e in
    let never : false ≡ true = rw within at either in
    false≢true never

delay_within : (delay : ℤ) → is_within 1 GREATEST_DELAY delay ≡ true → is_within 0 GREATEST_DELAY delay ≡ true
delay_within (pos d) within = within_from GREATEST_DELAY d (leb-true d GREATEST_DELAY (and_parts (leb 1 d) (leb d GREATEST_DELAY) within).1)
delay_within (negsuc d) within = absurd (false≢true within)

-- links that are added change nothing but the links
pub least_keeps : (least : Option ℤ) (draft : Draft) → with_least least draft ≡ record draft { links = (with_least least draft).links }
least_keeps None draft = refl
least_keeps (Some least) draft =
    elim (cases_Bool (int_le least (pos 1))) [
      | inl one ↦ rw one refl
      | inr more ↦ rw more refl
    ]

-- what holds of all links holds of those that are written
written_links : (test : DraftLink → Bool) (least : Option ℤ) (draft : Draft) → list_all test (with_least least draft).links ≡ true → list_all test draft.links ≡ true
written_links test None draft all = all
written_links test (Some least) draft all =
    elim (cases_Bool (int_le least (pos 1))) [
      | inl one ↦ rw one at all
      | inr more ↦
          let added = map (link_along least draft.delay) (ways_without_link draft) in
          let both : list_all test (draft.links ++ added) ≡ true = rw more at all in
          (and_parts (list_all test draft.links) (list_all test added) (sym (list_all-append test draft.links added) ∙ both)).0
    ]

-- ---- the range along a way

module _ (times tick : ℕ) (plain : Draft) (way : Way) where
  abbrev fine : Draft
  fine = finer_draft times tick plain

  abbrev from : Sender
  from = sender_of plain.groups plain.places way.sender

  abbrev to : ℕ
  to = place way.to plain.groups

  -- the link that is found between its places, where these are the links
  abbrev found : List DraftLink → Option Link
  found links = find (leads from to) (map (link_of plain.groups plain.places) links)

  -- the range along the way, in ticks and in finer ones
  abbrev range : Option ℤ → ℕ × ℕ
  range least = range_found (ticks GREATEST_DELAY plain.delay) (found (with_least least plain).links)

  abbrev fine_range : Option ℤ → ℕ × ℕ
  fine_range least = range_found (ticks GREATEST_DELAY fine.delay) (found (with_least (option_map (finer_ticks times) least) fine).links)

  by_link : (least : Option ℤ) (link : Link) → AreAsFine times plain.groups plain.places plain.links → found plain.links ≡ Some link → fine_range least ≡ finer_range times (range least)
  by_link least link are e =
      let fine_e : found fine.links ≡ Some (as_fine times link) = found_finer times plain.groups plain.places from to plain.links are ∙ ap (option_map (as_fine times)) e in
      let coarse : range least ≡ (link.least, link.most) = ap (range_found (ticks GREATEST_DELAY plain.delay)) (found_before from to least plain link e) in
      let finer : fine_range least ≡ (times * link.least, times * link.most) = ap (range_found (ticks GREATEST_DELAY fine.delay)) (found_before from to (option_map (finer_ticks times) least) fine (as_fine times link) fine_e) in
      finer ∙ ap (finer_range times) (sym coarse)

  by_least : (least : ℕ) → 1 ≤ times → AreAsFine times plain.groups plain.places plain.links → is_within 1 GREATEST_DELAY plain.delay ≡ true → is_within 1 GREATEST_DELAY fine.delay ≡ true
      → need_least Real plain.delay (Some (pos least)) ≡ Ok tt → need_least Real fine.delay (Some (pos (times * least))) ≡ Ok tt
      → IsIn way (ways_between (take MOST_GROUPS plain.groups) (take MOST_PLACES plain.places)) → list_any (carries way) plain.messages ≡ true → found plain.links ≡ None → fine_range (Some (pos least)) ≡ finer_range times (range (Some (pos least)))
  by_least least some are within fine_within low fine_low between carried none =
      let (at_least, least_in) = least_within least plain.delay within low in
      let (fine_at_least, fine_least_in) = least_within (times * least) fine.delay fine_within fine_low in
      let none_along = none_leads plain.groups plain.places way plain.links (sender_itself from) none in
      let fine_none : found fine.links ≡ None = found_finer times plain.groups plain.places from to plain.links are ∙ ap (option_map (as_fine times)) none in
      let here = lacks plain way between carried none_along in
      let there = lacks fine way between (some_carry times way plain.messages ∙ carried) (some_lead times way plain.links ∙ none_along) in
      let coarse : range (Some (pos least)) ≡ (ticks GREATEST_DELAY (pos least), ticks GREATEST_DELAY plain.delay) = found_after from to least plain way at_least (sender_itself from) refl refl here none in
      let finer : fine_range (Some (pos least)) ≡ (ticks GREATEST_DELAY (pos (times * least)), ticks GREATEST_DELAY fine.delay) = found_after from to (times * least) fine way fine_at_least (sender_itself from) refl refl there fine_none in
      let least_more : ticks GREATEST_DELAY (pos (times * least)) ≡ times * ticks GREATEST_DELAY (pos least) = ticks_finer times GREATEST_DELAY (pos least) least_in fine_least_in in
      let delay_more : ticks GREATEST_DELAY fine.delay ≡ times * ticks GREATEST_DELAY plain.delay = ticks_finer times GREATEST_DELAY plain.delay (delay_within plain.delay within) (delay_within fine.delay fine_within) in
      let as_many : (ticks GREATEST_DELAY (pos (times * least)), ticks GREATEST_DELAY fine.delay) ≡ finer_range times (ticks GREATEST_DELAY (pos least), ticks GREATEST_DELAY plain.delay) = rw (least_more, delay_more) refl in
      finer ∙ as_many ∙ ap (finer_range times) (sym coarse)

  -- what goes that way has so many times the range
  along : (least : Option ℤ) (link : Option Link) → found plain.links ≡ link → 1 ≤ times → AreAsFine times plain.groups plain.places plain.links → is_within 1 GREATEST_DELAY plain.delay ≡ true → is_within 1 GREATEST_DELAY fine.delay ≡ true
      → need_least Real plain.delay least ≡ Ok tt → need_least Real fine.delay (option_map (finer_ticks times) least) ≡ Ok tt → plain.time ≡ Real → has_ranges (is_some least) (with_least least plain) ≡ true
      → IsIn way (ways_between (take MOST_GROUPS plain.groups) (take MOST_PLACES plain.places)) → list_any (carries way) plain.messages ≡ true → fine_range least ≡ finer_range times (range least)
  along least (Some link) e some are within fine_within low fine_low real ranged between carried = by_link least link are e
  along None None e some are within fine_within low fine_low real ranged between carried =
      absurd (none_lacks plain way real ranged (lacks plain way between carried (none_leads plain.groups plain.places way plain.links (sender_itself from) e)))
  along (Some (pos least)) None e some are within fine_within low fine_low real ranged between carried = by_least least some are within fine_within low fine_low between carried e
  along (Some (negsuc least)) None e some are within fine_within low fine_low real ranged between carried =
      absurd (not_negative least plain.delay within low)

-- ---- the two scenarios

-- where the target's message stands
place_finer : (times : ℕ) (name : List ℕ) (messages : List DraftMessage) → message_place name (map (finer_message times) messages) ≡ message_place name messages
place_finer times name messages = rw (first_finer messages, length-map messages (finer_message times)) refl where
  first_finer : (ms : List DraftMessage) → position_or_len (λ m. bytes_eq name m.name) (map (finer_message times) ms) ≡ position_or_len (λ m. bytes_eq name m.name) ms
  first_finer [] = refl
  first_finer (m ∷ ms) = ap (λ n. cond (not (bytes_eq name m.name)) (1 + n) 0) (first_finer ms)

fine_at : (times : ℕ) (xs ys : List Message) (m : ℕ) → AllZip (IsAsFine times) xs ys → IsAsFine times (get_or xs m no_message) (get_or ys m no_message)
fine_at times [] [] m h = record { sender = refl; destinations = refl; at = omega arith; wait = omega arith }
fine_at times [] (y ∷ ys) m h = absurd h
fine_at times (x ∷ xs) [] m h = absurd h
fine_at times (x ∷ xs) (y ∷ ys) zero h = h.0
fine_at times (x ∷ xs) (y ∷ ys) (suc m) h = fine_at times xs ys m h.1

finer_messages : (times : ℕ) (xs ys : List Message) → AllZip (IsAsFine times) xs ys → AllZip (IsFinerMessage times) xs ys
finer_messages times [] [] h = tt
finer_messages times [] (y ∷ ys) h = absurd h
finer_messages times (x ∷ xs) [] h = absurd h
finer_messages times (x ∷ xs) (y ∷ ys) h =
    let at = h.0.at in
    let wait = h.0.wait in
    let here : IsFinerMessage times x y = record { sender = h.0.sender; destinations = h.0.destinations; at = omega (arith, at); until = omega (arith, at, wait) } in
    (here, finer_messages times xs ys h.1)

-- a draft with a least delay of what goes by no link, which its text gives, and the same in finer ticks
pub record AreRead (times tick : ℕ) (plain : Draft) (least : Option ℤ) : Type 0 where
  pub some : 1 ≤ times
  pub real : plain.time ≡ Real
  pub low : need_least Real plain.delay least ≡ Ok tt
  pub fine_low : need_least Real (finer_ticks times plain.delay) (option_map (finer_ticks times) least) ≡ Ok tt
  pub ranged : has_ranges (is_some least) (with_least least plain) ≡ true
  pub holds : judge (checks (record plain { links = (with_least least plain).links })) ≡ Ok tt
  pub fine_holds : judge (checks (record (finer_draft times tick plain) { links = (with_least (option_map (finer_ticks times) least) (finer_draft times tick plain)).links })) ≡ Ok tt
  pub room : has_room (scenario_of (record plain { links = (with_least least plain).links })) ≡ true
  pub fine_room : has_room (scenario_of (record (finer_draft times tick plain) { links = (with_least (option_map (finer_ticks times) least) (finer_draft times tick plain)).links })) ≡ true

-- what a link is told as in finer ticks is there just where it is, and is for stamps where it is
is_some_finer : (times : ℕ) (link : Option Link) → is_some (option_map (as_fine times) link) ≡ is_some link
is_some_finer times None = refl
is_some_finer times (Some link) = refl

stamps_finer : (times : ℕ) (link : Option Link) → option_map_or (λ (l : Link). l.stamps) (option_map (as_fine times) link) false ≡ option_map_or (λ (l : Link). l.stamps) link false
stamps_finer times None = refl
stamps_finer times (Some link) = refl

-- what a link that is for stamps is to the stamps of a group, it is to its messages
for_messages : (away : Bool) (link : Option Link) → (away || option_map_or (λ (l : Link). l.stamps) link false) ≡ true → (away || is_some link) ≡ true
for_messages true link e = refl
for_messages false None e = e
for_messages false (Some link) e = refl

module _ (keeps : OrderKeepsRanges) (takes : OrderKeepsWhatTakesTime) (times tick : ℕ) (plain : Draft) (least : Option ℤ) (are : AreRead times tick plain least) where
  abbrev draft : Draft
  draft = record plain { links = (with_least least plain).links }

  abbrev fine_draft : Draft
  fine_draft = record (finer_draft times tick plain) { links = (with_least (option_map (finer_ticks times) least) (finer_draft times tick plain)).links }

  abbrev pub scenario : Scenario
  scenario = scenario_of draft

  abbrev pub finer : Scenario
  finer = scenario_of fine_draft

  passed_here : Passes draft
  passed_here = passes draft are.holds

  passed_there : Passes fine_draft
  passed_there = passes fine_draft are.fine_holds

  within : is_within 1 GREATEST_DELAY plain.delay ≡ true
  within = rw (are.real) at passed_here.delay

  fine_within : is_within 1 GREATEST_DELAY (finer_ticks times plain.delay) ≡ true
  fine_within = rw (are.real) at passed_there.delay

  all_as_fine : AreAsFine times plain.groups plain.places plain.links
  all_as_fine =
      links_finer times plain.groups plain.places plain.delay (finer_ticks times plain.delay) plain.links within fine_within
      (written_links (has_range plain.delay) least plain passed_here.ranges)
      (written_links (has_range (finer_ticks times plain.delay)) (option_map (finer_ticks times) least) (finer_draft times tick plain) passed_there.ranges)

  zipped : AllZip (IsAsFine times) scenario.multicasts finer.multicasts
  zipped = messages_finer times plain.groups plain.places plain.messages passed_here.at passed_there.at passed_here.waits passed_there.waits

  same_message : (m : ℕ) → IsAsFine times (message_at scenario m) (message_at finer m)
  same_message m = fine_at times scenario.multicasts finer.multicasts m zipped

  given_here : scenario_of_draft draft ≡ Ok scenario
  given_here = given draft are.holds are.room

  given_there : scenario_of_draft fine_draft ≡ Ok finer
  given_there = given fine_draft are.fine_holds are.fine_room

  between_same : (sender : Sender) (to : ℕ) → Goes draft sender to → range_between finer sender to ≡ finer_range times (range_between scenario sender to)
  between_same sender to trip =
      let way = trip.way in
      let from = sender_of plain.groups plain.places way.sender in
      let there = place way.to plain.groups in
      let ranges = along times tick plain way least (find (leads from there) (map (link_of plain.groups plain.places) plain.links)) refl are.some all_as_fine within fine_within are.low are.fine_low are.real are.ranged trip.between trip.carried in
      let here : range_between finer from there ≡ finer_range times (range_between scenario from there) =
      keeps fine_draft finer from there given_there ∙ ranges ∙ ap (finer_range times) (sym (keeps draft scenario from there given_here)) in
      let at_group : range_between finer from to ≡ finer_range times (range_between scenario from to) =
      subst (λ (g : ℕ). range_between finer from g ≡ finer_range times (range_between scenario from g)) trip.there here in
      subst (λ (s : Sender). range_between finer s to ≡ finer_range times (range_between scenario s to)) trip.from at_group

  -- ---- links from a group to itself

  -- the one that is found is one that is written, in ticks and in finer ones
  abbrev home : Draft → ℕ → Option Link
  home written g = find (leads (Group g) g) (map (link_of written.groups written.places) written.links)

  home_finer : (g : ℕ) → home fine_draft g ≡ option_map (as_fine times) (home draft g)
  home_finer g =
      home_as_written (option_map (finer_ticks times) least) (finer_draft times tick plain) g passed_there.ends
      ∙ found_finer times plain.groups plain.places (Group g) g plain.links all_as_fine
      ∙ ap (option_map (as_fine times)) (sym (home_as_written least plain g passed_here.ends))

  same_homes : HaveSameHomes scenario finer
  same_homes = record {
    messages = λ g.
        (takes fine_draft finer given_there).messages (Group g) g
        ∙ ap (λ some. not (g == g) || some) (ap is_some (home_finer g) ∙ is_some_finer times (home draft g))
        ∙ sym ((takes draft scenario given_here).messages (Group g) g);
    stamps = λ g.
        (takes fine_draft finer given_there).stamps g g
        ∙ ap (λ stamps. not (g == g) || stamps) (ap (λ link. option_map_or (λ (l : Link). l.stamps) link false) (home_finer g) ∙ stamps_finer times (home draft g))
        ∙ sym ((takes draft scenario given_here).stamps g g);
  }

  home_range : (g : ℕ) → takes_time scenario (Group g) g ≡ true → range_between finer (Group g) g ≡ finer_range times (range_between scenario (Group g) g)
  home_range g travels = by_link (home draft g) refl where
    by_link : (link : Option Link) → home draft g ≡ link → range_between finer (Group g) g ≡ finer_range times (range_between scenario (Group g) g)
    by_link None none =
        let never : (not (g == g) || false) ≡ true =
        ap (λ some. not (g == g) || is_some some) (sym none) ∙ sym ((takes draft scenario given_here).messages (Group g) g) ∙ travels in
        absurd (false≢true (rw (eq-eqb g g refl) at never))
    by_link (Some link) found =
        keeps fine_draft finer (Group g) g given_there
        ∙ ap (range_found (ticks GREATEST_DELAY fine_draft.delay)) (home_finer g ∙ ap (option_map (as_fine times)) found)
        ∙ ap (finer_range times) (sym (keeps draft scenario (Group g) g given_here ∙ ap (range_found (ticks GREATEST_DELAY draft.delay)) found))

  pub same_ranges : AreSameRanges times scenario finer
  same_ranges (Wait m) sent =
      let none : 0 ≡ times * 0 = omega arith in
      ap (λ (n : ℕ). (0, n)) (same_message m).wait ∙ ap (λ (n : ℕ). (n, times * (message_at scenario m).longest_wait)) none
  same_ranges (Multicast m g) sent =
      let sender : Sender = (message_at scenario m).sender in
      ap (λ (s : Sender). range_between finer s g) (same_message m).sender ∙ elim (cases_Bool (is_same_sender sender (Group g))) [
        | inl itself ↦
            let from : sender ≡ Group g = one_sender sender (Group g) itself in
            let travels : takes_time scenario sender g ≡ true = (and_parts (is_addressed (message_at scenario m) g) (takes_time scenario sender g) sent).1 in
            subst (λ (s : Sender). range_between finer s g ≡ finer_range times (range_between scenario s g)) (sym from)
            (home_range g (subst (λ (s : Sender). takes_time scenario s g ≡ true) from travels))
        | inr away ↦ between_same sender g (goes draft passed_here (Multicast m g) refl sent away)
      ]
  same_ranges (Propose m h g) sent =
      elim (cases_Bool (h == g)) [
        | inl itself ↦
            let from : h ≡ g = eqb-true h g itself in
            let travels : stamp_takes_time scenario h g ≡ true = (and_parts (is_addressed (message_at scenario m) h && is_addressed (message_at scenario m) g) (stamp_takes_time scenario h g) sent).1 in
            subst (λ (n : ℕ). range_between finer (Group n) g ≡ finer_range times (range_between scenario (Group n) g)) (sym from)
            (home_range g (for_messages (not (g == g)) (link_between scenario.links (Group g) g) (subst (λ (n : ℕ). stamp_takes_time scenario n g ≡ true) from travels)))
        | inr away ↦ between_same (Group h) g (goes draft passed_here (Propose m h g) refl sent away)
      ]

  pub is_finer : IsFiner times scenario finer
  is_finer = record {
    some = are.some;
    groups = refl;
    messages = finer_messages times scenario.multicasts finer.multicasts zipped;
    homes = same_homes;
    ranges = λ packet sent travels. in_range (range_of scenario packet) (range_of finer packet) (same_ranges packet sent);
    target_message = place_finer times plain.target_message plain.messages;
    target_group = refl;
  } where
    in_range : (range fine : ℕ × ℕ) → fine ≡ finer_range times range → IsInRange times range fine
    in_range range fine e = rw e (omega arith, omega arith)

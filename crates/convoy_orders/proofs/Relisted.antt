-- A draft and the same draft with its groups listed in another order give scenarios that are one but for the numbers of the groups.
use Rattle.std.proofs.Common.{◌≡◌, ℕ, ◌<◌, ◌==◌, ◌&&◌, ◌||◌, not, Bool, true, false, List, [], ◌∷◌, length, get_or, map, Option, Some, Ok, inl, inr, refl, sym, ap, ap₂, subst₂, ◌∙◌, arith}
use Rattle.std.specs.List.{find, list_all}
use Rattle.std.specs.Option.{is_some, option_map_or}
use Rattle.std.proofs.lemmas.Bool.{cases_Bool, cases_lt, and_parts}
use Rattle.std.proofs.lemmas.List.{length-map, get_or-map, get_or_past}
use Rattle.std.proofs.lemmas.List.Sorted.{IsPermutation-sym, length_permutation}
use Rattle.convoy_draft.specs.Draft.{Draft, DraftLink, DraftMessage}
use Rattle.convoy_draft.specs.Checks.{checks, is_among, is_known_sender, judge, knows_link}
use Rattle.convoy_scenario.specs.declared.sender.Sender.{Sender}
use Rattle.convoy_scenario.specs.declared.sender.Sender.TheVariants.{Group}
use Rattle.convoy_scenario.specs.Scenario.{Link, Message, Scenario, is_same_sender, message_at, no_message, range_between, stamp_takes_time, takes_time}
use Rattle.convoy_scenario.specs.ScenarioLaws.{OrderKeepsRanges, OrderKeepsWhatTakesTime}
use Rattle.convoy_scenario.specs.Numbering.{delay_of_draft, link_of, links_of_draft, message_of, place, scenario_of, scenario_of_draft, sender_of}
use Rattle.convoy_scenario.proofs.GivenScenarios.{given, passed}
use Rattle.convoy_scenario.proofs.KeptRanges.{leads, range_found}
use Rattle.convoy_scenario.proofs.NumberedLemmas.{Passes, groups_distinct, nothing, passes}
use Rattle.convoy_orders.specs.Renumbered.{HaveRenumberedHomes, IsRenumbered, IsRenumberedMessage, renumbered_sender}
use Rattle.convoy_orders.specs.Relisted.{number_in, relisted, RelistedDraftsAreRenumbered}
use Rattle.convoy_orders.proofs.Renumbering.{same_number, same_sender}
use Rattle.convoy_orders.proofs.RelistedNames.{addressed_renumbered, all_among, number_back, number_of_name, sender_renumbered}

-- the ranges of a draft are those of its links as they are written
abbrev AreRangesOf : Draft → Type 0
AreRangesOf draft =
    (sender : Sender) (to : ℕ) → range_between (scenario_of draft) sender to ≡ range_found (delay_of_draft draft) (find (leads sender to) (links_of_draft draft))

-- a link that is found is for stamps, too
abbrev pub stamps_of : Option Link → Bool
stamps_of found = option_map_or (λ (link : Link). link.stamps) found false

-- .. and a group has a link to itself where one is written, for stamps where that is
pub record AreHomesOf (draft : Draft) : Type 0 where
  pub messages : (g : ℕ) → takes_time (scenario_of draft) (Group g) g ≡ (not (g == g) || is_some (find (leads (Group g) g) (links_of_draft draft)))
  pub stamps : (g : ℕ) → stamp_takes_time (scenario_of draft) g g ≡ (not (g == g) || stamps_of (find (leads (Group g) g) (links_of_draft draft)))

module _ (draft : Draft) (names : List (List ℕ)) (long : length names ≡ length draft.groups)
    (all : (g : ℕ) → g < length draft.groups → is_among (get_or draft.groups g []) names ≡ true)
    (no_others : (g : ℕ) → g < length names → is_among (get_or names g []) draft.groups ≡ true) (is : Passes draft) (too : Passes (relisted names draft))
    (kept : AreRangesOf draft) (kept_too : AreRangesOf (relisted names draft)) (homes : AreHomesOf draft) (homes_too : AreHomesOf (relisted names draft)) where
  abbrev plan : Scenario
  plan = scenario_of draft

  abbrev other : Scenario
  other = scenario_of (relisted names draft)

  abbrev renumber : ℕ → ℕ
  renumber = number_in names draft.groups

  abbrev back : ℕ → ℕ
  back = number_in draft.groups names

  again : (g : ℕ) → back (renumber g) ≡ g
  again = number_back draft.groups names long all (groups_distinct draft.groups is.groups_differ)

  abbrev numbered_message : List (List ℕ) → DraftMessage → Message
  numbered_message groups = message_of groups draft.places

  abbrev numbered_link : List (List ℕ) → DraftLink → Link
  numbered_link groups = link_of groups draft.places

  abbrev knows_ends : DraftLink → Bool
  knows_ends = knows_link draft.groups draft.places

  sender_too : (sender : Option (List ℕ)) → sender_of names draft.places sender ≡ renumbered_sender renumber (sender_of draft.groups draft.places sender)
  sender_too = sender_renumbered draft.groups names long all no_others draft.places

  -- ---- messages
  message_too : (message : DraftMessage) → IsRenumberedMessage renumber (numbered_message draft.groups message) (numbered_message names message)
  message_too message = record {
    sender = sender_too message.sender;
    destinations = addressed_renumbered draft.groups names long all message.to;
    at = refl;
    wait = refl;
  }

  messages_too : (m : ℕ) → IsRenumberedMessage renumber (message_at plan m) (message_at other m)
  messages_too m = elim (cases_lt m (length draft.messages)) [
    | inl l ↦
        subst₂ (IsRenumberedMessage renumber)
        (sym (get_or-map (numbered_message draft.groups) draft.messages m nothing no_message l)) (sym (get_or-map (numbered_message names) draft.messages m nothing no_message l))
        (message_too (get_or draft.messages m nothing))
    | inr l ↦
        let few = length-map draft.messages (numbered_message draft.groups) in
        let few_too = length-map draft.messages (numbered_message names) in
        subst₂ (IsRenumberedMessage renumber)
        (sym (get_or_past (map (numbered_message draft.groups) draft.messages) m no_message (omega arith))) (sym (get_or_past (map (numbered_message names) draft.messages) m no_message (omega arith)))
        (record { sender = refl; destinations = λ g. refl; at = refl; wait = refl })
  ]

  -- ---- links
  leads_too : (sender : Sender) (to : ℕ) (link : DraftLink) → knows_ends link ≡ true
      → leads (renumbered_sender renumber sender) (renumber to) (numbered_link names link) ≡ leads sender to (numbered_link draft.groups link)
  leads_too sender to link known =
      let k = and_parts (is_known_sender draft.groups draft.places link.sender) (is_among link.to draft.groups) known in
      ap₂ (λ (a b : Bool). a && b)
      (ap (is_same_sender (renumbered_sender renumber sender)) (sender_too link.sender)
      ∙ same_sender renumber back again sender (numbered_link draft.groups link).sender)
      (ap (λ n. renumber to == n) (number_of_name draft.groups names long all link.to k.1) ∙ same_number renumber back again to (place link.to draft.groups))

  -- what is told alike of a link with its groups listed either way is told alike of the link that is found
  module _ {A : Type 0} (told : Option Link → A)
      (alike : (link : DraftLink) → knows_ends link ≡ true → told (Some (numbered_link names link)) ≡ told (Some (numbered_link draft.groups link))) where
    found_too : (sender : Sender) (to : ℕ) (links : List DraftLink) → list_all knows_ends links ≡ true
        → told (find (leads (renumbered_sender renumber sender) (renumber to)) (map (numbered_link names) links)) ≡ told (find (leads sender to) (map (numbered_link draft.groups) links))
    found_too sender to [] known = refl
    found_too sender to (link ∷ links) known =
        let k = and_parts (knows_ends link) (list_all knows_ends links) known in
        let rest = found_too sender to links k.1 in
        let same = leads_too sender to link k.0 in
        elim (cases_Bool (leads sender to (numbered_link draft.groups link))) [
          | inl there ↦ rw (same, there) (alike link k.0)
          | inr elsewhere ↦ rw (same, elsewhere) rest
        ]

  range_too : (sender : Sender) (to : ℕ) → range_between other (renumbered_sender renumber sender) (renumber to) ≡ range_between plan sender to
  range_too sender to =
      kept_too (renumbered_sender renumber sender) (renumber to)
      ∙ found_too (range_found (delay_of_draft draft)) (λ link known. refl) sender to draft.links is.ends
      ∙ sym (kept sender to)

  -- a link is for stamps with its groups listed either way
  stamps_too : (link : DraftLink) → knows_ends link ≡ true → (numbered_link names link).stamps ≡ (numbered_link draft.groups link).stamps
  stamps_too link known =
      let k = and_parts (is_known_sender draft.groups draft.places link.sender) (is_among link.to draft.groups) known in
      ap (λ (home : Bool). link.stamps && home)
      (ap₂ (λ (s : Sender) (to : ℕ). is_same_sender s (Group to)) (sender_too link.sender) (number_of_name draft.groups names long all link.to k.1)
      ∙ same_sender renumber back again (sender_of draft.groups draft.places link.sender) (Group (place link.to draft.groups)))

  same_homes : HaveRenumberedHomes renumber plan other
  same_homes = record {
    messages = λ g.
        homes_too.messages (renumber g)
        ∙ ap₂ (λ (same found : Bool). not same || found) (same_number renumber back again g g) (found_too is_some (λ link known. refl) (Group g) g draft.links is.ends)
        ∙ sym (homes.messages g);
    stamps = λ g.
        homes_too.stamps (renumber g)
        ∙ ap₂ (λ (same found : Bool). not same || found) (same_number renumber back again g g) (found_too stamps_of stamps_too (Group g) g draft.links is.ends)
        ∙ sym (homes.stamps g);
  }

  pub renumbered_too : IsRenumbered renumber back plan other
  renumbered_too = record {
    back_again = again;
    there_again = number_back names draft.groups (sym long) no_others (groups_distinct names too.groups_differ);
    time = refl;
    message_count = length-map draft.messages (numbered_message names) ∙ sym (length-map draft.messages (numbered_message draft.groups));
    messages = messages_too;
    homes = same_homes;
    ranges = range_too;
    target_message = refl;
    target_group = number_of_name draft.groups names long all draft.target_group is.target_group;
  }

-- a draft that gives a scenario gives the one that it is with numbers, and keeps the rules
pub record IsGiven (draft : Draft) (plan : Scenario) : Type 0 where
  pub rules : judge (checks draft) ≡ Ok tt
  pub passes : Passes draft
  pub made : scenario_of draft ≡ plan
  pub kept : AreRangesOf draft
  pub homes : AreHomesOf draft

pub is_given : OrderKeepsRanges → OrderKeepsWhatTakesTime → (draft : Draft) (plan : Scenario) → scenario_of_draft draft ≡ Ok plan → IsGiven draft plan
is_given kept takes draft plan is =
    let p = passed (judge (checks draft)) (scenario_of draft) plan is in
    record {
      rules = p.0;
      passes = passes draft p.0;
      made = p.1;
      kept = λ sender to. kept draft (scenario_of draft) sender to (given draft p.0 p.2);
      homes =
          let alike = takes draft (scenario_of draft) (given draft p.0 p.2) in
          record { messages = λ g. alike.messages (Group g) g; stamps = λ g. alike.stamps g g };
    }

pub drafts_renumbered : OrderKeepsRanges → OrderKeepsWhatTakesTime → RelistedDraftsAreRenumbered
drafts_renumbered kept takes draft names plan other of =
    let mine = is_given kept takes draft plan of.is in
    let its = is_given kept takes (relisted names draft) other of.other_is in
    subst₂ (IsRenumbered (number_in names draft.groups) (number_in draft.groups names)) mine.made its.made
    (renumbered_too draft names (length_permutation draft.groups names of.same) (λ g l. all_among names draft.groups (IsPermutation-sym draft.groups names of.same) g [] l)
    (λ g l. all_among draft.groups names of.same g [] l) mine.passes its.passes mine.kept its.kept mine.homes its.homes)

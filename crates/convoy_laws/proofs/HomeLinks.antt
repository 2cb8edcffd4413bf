-- Links from a group to itself: a least delay of what goes by no link adds none of them.
use Rattle.std.proofs.Common.{◌≡◌, ℕ, ◌==◌, ◌&&◌, ℤ, pos, int_le, true, false, not, List, [], ◌∷◌, ◌++◌, map, filter, take, get_or, Option, Some, None, inl, inr, refl, sym, ap, ◌∙◌}
use Rattle.std.specs.List.{find, list_all, list_any}
use Rattle.std.specs.Option.{option_or}
use Rattle.std.proofs.lemmas.Bool.{and_parts, both_ways, cases_Bool, eqb-true, false≢true, false_from_ne_true, not-true}
use Rattle.std.proofs.lemmas.List.{map-append}
use Rattle.std.proofs.lemmas.List.Folds.{find-append, list_all-append}
use Rattle.convoy_draft.specs.declared.limits.TheConstants.{MOST_GROUPS, MOST_PLACES}
use Rattle.convoy_draft.specs.Checks.{is_among, is_known_sender, is_named_alike, knows_link}
use Rattle.convoy_draft.specs.Draft.{Draft, DraftLink, DraftMessage}
use Rattle.convoy_scenario.specs.declared.sender.Sender.TheVariants.{Group}
use Rattle.convoy_scenario.specs.Numbering.{link_of, place, sender_of}
use Rattle.convoy_scenario.specs.Scenario.{Link, is_same_sender}
use Rattle.convoy_scenario.proofs.KeptRanges.{leads}
use Rattle.convoy_scenario.proofs.NumberedAgain.{itself}
use Rattle.convoy_scenario.proofs.PlaceLemmas.{name_at_place}
use Rattle.convoy_sim.proofs.Membership.{in_of_list_any}
use Rattle.convoy_toml.specs.Ways.{Way, carries, lacks_link, link_along, ways_between, ways_without_link, with_least}

-- a group with the number of a name that is known has that name
named_alike : (groups places : List (List ℕ)) (sender : Option (List ℕ)) (to : List ℕ) (g : ℕ) → is_among to groups ≡ true
    → is_same_sender (Group g) (sender_of groups places sender) ≡ true → (g == place to groups) ≡ true → is_named_alike sender (Some to) ≡ true
named_alike groups places None to g known from there = absurd (false≢true from)
named_alike groups places (Some name) to g known from there = elim (cases_Bool (is_among name groups)) [
  | inl group ↦
      let at : (g == place name groups) ≡ true = rw group at from in
      let one : place name groups ≡ place to groups = sym (eqb-true g (place name groups) at) ∙ eqb-true g (place to groups) there in
      let same : name ≡ to = sym (name_at_place name groups group) ∙ ap (λ n. get_or groups n []) one ∙ name_at_place to groups known in
      rw same (itself to)
  | inr client ↦ let never : false ≡ true = rw client at from in absurd (false≢true never)
]

module _ (groups places : List (List ℕ)) (messages : List DraftMessage) (links : List DraftLink) (least delay : ℤ) (g : ℕ) where
  -- a way on which something goes leads to another place
  leads_away : (way : Way) → lacks_link messages links way ≡ true → knows_link groups places (link_along least delay way) ≡ true
      → leads (Group g) g (link_of groups places (link_along least delay way)) ≡ false
  leads_away way lacks known =
      false_from_ne_true _ (λ e.
      let goes = and_parts (list_any (carries way) messages) _ lacks in
      let found = in_of_list_any (carries way) messages goes.0 in
      let parts = and_parts (not (is_named_alike way.sender (Some way.to)) && is_among way.to found.0.to) _ found.2 in
      let elsewhere = and_parts (not (is_named_alike way.sender (Some way.to))) (is_among way.to found.0.to) parts.0 in
      let ends = and_parts (is_same_sender (Group g) (sender_of groups places way.sender)) (g == place way.to groups) e in
      let names = and_parts (is_known_sender groups places way.sender) (is_among way.to groups) known in
      both_ways (is_named_alike way.sender (Some way.to)) (not-true _ elsewhere.0) (named_alike groups places way.sender way.to g names.1 ends.0 ends.1))

  none_home : (ways : List Way) → list_all (knows_link groups places) (map (link_along least delay) (filter (lacks_link messages links) ways)) ≡ true
      → find (leads (Group g) g) (map (link_of groups places) (map (link_along least delay) (filter (lacks_link messages links) ways))) ≡ None
  none_home [] known = refl
  none_home (way ∷ ways) known =
      elim (cases_Bool (lacks_link messages links way)) [
        | inl lacks ↦
            let all : list_all (knows_link groups places) (map (link_along least delay) (way ∷ filter (lacks_link messages links) ways)) ≡ true = rw lacks at known in
            let parts = and_parts (knows_link groups places (link_along least delay way)) _ all in
            rw (lacks, leads_away way lacks parts.0) (none_home ways parts.1)
        | inr none ↦
            let all : list_all (knows_link groups places) (map (link_along least delay) (filter (lacks_link messages links) ways)) ≡ true = rw none at known in
            rw none (none_home ways all)
      ]

or_none : (link : Option Link) → option_or link None ≡ link
or_none None = refl
or_none (Some link) = refl

-- the link from a group to itself is the one that is written, if one is
pub home_as_written : (least : Option ℤ) (draft : Draft) (g : ℕ) → list_all (knows_link draft.groups draft.places) (with_least least draft).links ≡ true
    → find (leads (Group g) g) (map (link_of draft.groups draft.places) (with_least least draft).links) ≡ find (leads (Group g) g) (map (link_of draft.groups draft.places) draft.links)
home_as_written None draft g known = refl
home_as_written (Some least) draft g known =
    elim (cases_Bool (int_le least (pos 1))) [
      | inl one ↦ rw one refl
      | inr more ↦
          let added = map (link_along least draft.delay) (ways_without_link draft) in
          let both : list_all (knows_link draft.groups draft.places) (draft.links ++ added) ≡ true = rw more at known in
          let all = (and_parts (list_all (knows_link draft.groups draft.places) draft.links) (list_all (knows_link draft.groups draft.places) added) (sym (list_all-append (knows_link draft.groups draft.places) draft.links added) ∙ both)).1 in
          let none = none_home draft.groups draft.places draft.messages draft.links least draft.delay g (ways_between (take MOST_GROUPS draft.groups) (take MOST_PLACES draft.places)) all in
          rw (more, map-append (link_of draft.groups draft.places) draft.links added, find-append (leads (Group g) g) (map (link_of draft.groups draft.places) draft.links) (map (link_of draft.groups draft.places) added), none)
          (or_none (find (leads (Group g) g) (map (link_of draft.groups draft.places) draft.links)))
    ]

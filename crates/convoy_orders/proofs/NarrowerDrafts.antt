-- One draft with two choices of links: where each link is no wider, no range is.
use Rattle.std.proofs.Common.{◌≡◌, ℕ, ◌≤◌, Bool, ◌==◌, ◌&&◌, ◌||◌, not, List, [], ◌∷◌, map, Option, Some, inl, inr, refl, sym, ap, ap₂, subst, subst₂, ◌∙◌, arith}
use Rattle.std.specs.List.{AllZip, find}
use Rattle.std.specs.Option.{is_some}
use Rattle.std.proofs.lemmas.Bool.{cases_Bool}
use Rattle.convoy_draft.specs.Draft.{DraftLink}
use Rattle.convoy_scenario.specs.declared.sender.Sender.{Sender}
use Rattle.convoy_scenario.specs.declared.sender.Sender.TheVariants.{Group}
use Rattle.convoy_scenario.specs.Scenario.{Link, Scenario, is_same_sender}
use Rattle.convoy_scenario.specs.ScenarioLaws.{OrderKeepsRanges, OrderKeepsWhatTakesTime}
use Rattle.convoy_scenario.specs.Numbering.{delay_of_draft, in_order, link_of, links_of_draft, place, scenario_of, sender_of}
use Rattle.convoy_scenario.proofs.KeptRanges.{leads, range_found}
use Rattle.convoy_orders.specs.GreatestAt.{IsUpperAt}
use Rattle.convoy_orders.specs.NarrowerDrafts.{IsNarrowerLink, NarrowerLinksAreNoSlower, relinked}
use Rattle.convoy_orders.specs.NarrowerRanges.{AreNarrowerRanges, IsWithinRange, NarrowerIsNoSlower}
use Rattle.convoy_orders.proofs.Relisted.{is_given, stamps_of}

module _ (groups places : List (List ℕ)) (sender : Sender) (to : ℕ) where
  leads_alike : (link narrow : DraftLink) → IsNarrowerLink link narrow → leads sender to (link_of groups places narrow) ≡ leads sender to (link_of groups places link)
  leads_alike link narrow is =
      ap₂ (λ (from : Option (List ℕ)) (name : List ℕ). is_same_sender sender (sender_of groups places from) && (to == place name groups)) is.sender is.to

  found_within : (delay less : ℕ) (links narrow : List DraftLink) → less ≤ delay → AllZip IsNarrowerLink links narrow
      → IsWithinRange (range_found less (find (leads sender to) (map (link_of groups places) narrow))) (range_found delay (find (leads sender to) (map (link_of groups places) links)))
  found_within delay less [] [] low all = (omega arith, low)
  found_within delay less [] (n ∷ ns) low all = absurd all
  found_within delay less (link ∷ links) [] low all = absurd all
  found_within delay less (link ∷ links) (n ∷ ns) low all =
      let same = leads_alike link n all.0 in
      elim (cases_Bool (leads sender to (link_of groups places link))) [
        | inl here ↦ rw (same, here) all.0.range
        | inr elsewhere ↦ rw (same, elsewhere) (found_within delay less links ns low all.1)
      ]

  -- what is told alike of a link and a narrower one is told alike of the links that are found
  module _ {A : Type 0} (told : Option Link → A) (alike : (link narrow : DraftLink) → IsNarrowerLink link narrow → told (Some (link_of groups places narrow)) ≡ told (Some (link_of groups places link))) where
    found_alike : (links narrow : List DraftLink) → AllZip IsNarrowerLink links narrow
        → told (find (leads sender to) (map (link_of groups places) narrow)) ≡ told (find (leads sender to) (map (link_of groups places) links))
    found_alike [] [] all = refl
    found_alike [] (n ∷ ns) all = absurd all
    found_alike (link ∷ links) [] all = absurd all
    found_alike (link ∷ links) (n ∷ ns) all =
        let same = leads_alike link n all.0 in
        elim (cases_Bool (leads sender to (link_of groups places link))) [
          | inl here ↦ rw (same, here) (alike link n all.0)
          | inr elsewhere ↦ rw (same, elsewhere) (found_alike links ns all.1)
        ]

-- a narrower link is for stamps if the other is
stamps_alike : (groups places : List (List ℕ)) (link narrow : DraftLink) → IsNarrowerLink link narrow → (link_of groups places narrow).stamps ≡ (link_of groups places link).stamps
stamps_alike groups places link narrow is =
    ap₂ (λ (a b : Bool). a && b) is.stamps (ap₂ (λ (from : Option (List ℕ)) (name : List ℕ). is_same_sender (sender_of groups places from) (Group (place name groups))) is.sender is.to)

pub links_no_slower : OrderKeepsRanges → OrderKeepsWhatTakesTime → NarrowerIsNoSlower → NarrowerLinksAreNoSlower
links_no_slower kept takes slower draft delay links plan narrow m g latency is too low all upper =
    let mine = is_given kept takes draft plan is in
    let its = is_given kept takes (relinked delay links draft) narrow too in
    let less : delay_of_draft (relinked delay links draft) ≤ delay_of_draft draft =
    subst₂ (λ (s t : Scenario). s.delay ≤ t.delay) (sym its.made) (sym mine.made) low in
    let narrower : AreNarrowerRanges (delay_of_draft (relinked delay links draft)) (in_order (delay_of_draft (relinked delay links draft)) (links_of_draft (relinked delay links draft))) (scenario_of draft) =
    record {
      homes = record {
        messages = λ g.
            its.homes.messages g
            ∙ ap (λ (found : Bool). not (g == g) || found) (found_alike draft.groups draft.places (Group g) g is_some (λ link other of. refl) draft.links links all)
            ∙ sym (mine.homes.messages g);
        stamps = λ g.
            its.homes.stamps g
            ∙ ap (λ (found : Bool). not (g == g) || found) (found_alike draft.groups draft.places (Group g) g stamps_of (stamps_alike draft.groups draft.places) draft.links links all)
            ∙ sym (mine.homes.stamps g);
      };
      ranges = λ sender to.
          subst₂ IsWithinRange (sym (its.kept sender to)) (sym (mine.kept sender to))
          (found_within draft.groups draft.places sender to (delay_of_draft draft) (delay_of_draft (relinked delay links draft)) draft.links links less all);
    } in
    subst (λ (s : Scenario). IsUpperAt s m g latency) its.made
    (slower (scenario_of draft) (delay_of_draft (relinked delay links draft)) (in_order (delay_of_draft (relinked delay links draft)) (links_of_draft (relinked delay links draft))) m g latency
    narrower (subst (λ (s : Scenario). IsUpperAt s m g latency) (sym mine.made) upper))

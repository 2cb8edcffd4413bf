-- In the scenario of a placement no group has a link to itself: each link leads from a place to another one.
use Rattle.std.proofs.Common.{◌≡◌, ◌⊎◌, ℕ, ℤ, ◌+◌, ◌==◌, ◌&&◌, ◌||◌, not, Bool, true, false, cond, List, [], ◌∷◌, map, flat_map, find, Option, Some, None, is_some, refl, sym, ap, subst, ◌∙◌, inl, inr}
use Rattle.std.specs.List.{list_all}
use Rattle.std.specs.Option.{option_map_or}
use Rattle.std.proofs.lemmas.Bool.{and_parts, cases_Bool, eq-eqb, eqb-true, false_from_ne_true, true≢false}
use Rattle.convoy_draft.specs.Checks.{checks, is_among, is_known_sender, is_named_alike, judge, knows_link, leads_elsewhere}
use Rattle.convoy_draft.specs.Draft.{Draft, DraftLink}
use Rattle.convoy_scenario.specs.declared.sender.Sender.TheVariants.{Client, Group}
use Rattle.convoy_scenario.specs.Numbering.{link_of, place, scenario_of}
use Rattle.convoy_scenario.specs.Scenario.{Link, is_same_sender}
use Rattle.convoy_scenario.proofs.GivenScenarios.{passed}
use Rattle.convoy_scenario.proofs.KeptRanges.{leads}
use Rattle.convoy_scenario.proofs.NumberedLemmas.{passes}
use Rattle.convoy_scenario.proofs.TakingTime.{taking_kept}
use Rattle.convoy_toml.specs.Links.{Bundle, links_of_bundle}
use Rattle.convoy_toml.specs.Shape.{LinkEnds, WrittenLink}
use Rattle.convoy_plans.specs.PlanLaws.{GroupsHaveNoLinksToThemselves}
use Rattle.convoy_plans.specs.Placements.{Spot, group_numbers, link_along, link_to, links_at, links_from, spots, written_at}
use Rattle.convoy_plans.specs.Plans.{Plan, group_name}
use Rattle.convoy_plans.proofs.Drafted.{Drafted, bundle_from, drafted_of, made_of}
use Rattle.convoy_plans.proofs.Found.{one_name}
use Rattle.convoy_plans.proofs.Members.{In, in_flat_map_back}
use Rattle.convoy_plans.proofs.OfSites.{in_ticks, lone_ends}

-- the table is one from one place to another group
abbrev IsLone : WrittenLink → Type 0
IsLone table = (name : Option (List ℕ)) × (to : List ℕ) × (is_named_alike name (Some to) ≡ false) × (table.ends ≡ lone_ends name to)

lone_from : (spot : Spot) (to : List ℕ) (found : Option WrittenLink) (table : WrittenLink) → is_named_alike spot.name (Some to) ≡ false → In table (link_along spot to found) → IsLone table
lone_from spot to None table apart h = absurd h
lone_from spot to (Some link) table apart (inl is) = (spot.name, to, apart, ap (λ (t : WrittenLink). t.ends) is)
lone_from spot to (Some link) table apart (inr h) = absurd h

lone_to : (plan : Plan) (placement : List ℕ) (spot : Spot) (g : ℕ) (table : WrittenLink) → In table (link_to plan placement spot g) → IsLone table
lone_to plan placement spot g table h = elim (cases_Bool (is_named_alike spot.name (Some (group_name plan g)))) [
  | inl itself ↦ let none : In table [] = rw itself at h in absurd none
  | inr apart ↦ lone_from spot (group_name plan g) _ table apart h
]

lone_at : (plan : Plan) (placement : List ℕ) (table : WrittenLink) → In table (links_at plan placement) → IsLone table
lone_at plan placement table h =
    let s = in_flat_map_back (links_from plan placement) table (spots plan placement) h in
    let g = in_flat_map_back (link_to plan placement s.0) table (group_numbers plan) s.2 in
    lone_to plan placement s.0 g.0 table g.2

-- so each link that it writes leads elsewhere
lone_elsewhere : (name : Option (List ℕ)) (to : List ℕ) (least most : ℤ) (stamps : Bool) (link : DraftLink) → is_named_alike name (Some to) ≡ false
    → In link (links_of_bundle (record { ends = lone_ends name to; least = least; most = most; stamps = stamps })) → leads_elsewhere link ≡ true
lone_elsewhere None to least most stamps link apart (inl is) = ap leads_elsewhere is
lone_elsewhere None to least most stamps link apart (inr h) = absurd h
lone_elsewhere (Some name) to least most stamps link apart h = by_place (rw apart at h) where
  by_place : In link (record { sender = Some name; to = to; least = least; most = most; stamps = stamps } ∷ []) → leads_elsewhere link ≡ true
  by_place (inl is) = ap leads_elsewhere is ∙ ap not apart
  by_place (inr h) = absurd h

bundle_elsewhere : (bundle : Bundle) (ends : LinkEnds) (stamps : Bool) (name : Option (List ℕ)) (to : List ℕ) (link : DraftLink) → is_named_alike name (Some to) ≡ false → ends ≡ lone_ends name to
    → bundle ≡ record { ends = ends; least = bundle.least; most = bundle.most; stamps = stamps } → In link (links_of_bundle bundle) → leads_elsewhere link ≡ true
bundle_elsewhere bundle ends stamps name to link apart lone is h =
    let same : bundle ≡ record { ends = lone_ends name to; least = bundle.least; most = bundle.most; stamps = stamps } =
    is ∙ ap (λ (e : LinkEnds). record { ends = e; least = bundle.least; most = bundle.most; stamps = stamps }) lone in
    lone_elsewhere name to bundle.least bundle.most stamps link apart (subst (λ (b : Bundle). In link (links_of_bundle b)) same h)

-- ---- where each link leads elsewhere none leads from a group to itself
not_home : (groups places : List (List ℕ)) (g : ℕ) (link : DraftLink) → knows_link groups places link ≡ true → leads_elsewhere link ≡ true → leads (Group g) g (link_of groups places link) ≡ false
not_home groups places g link known away = false_from_ne_true _ (λ home. by_sender link.sender refl home) where
  receiver_known : is_among link.to groups ≡ true
  receiver_known = (and_parts (is_known_sender groups places link.sender) (is_among link.to groups) known).1

  -- the sender is the group g, where it has a name that is among the groups or not
  by_test : (name : List ℕ) (among : Bool) → link.sender ≡ Some name → is_among name groups ≡ among
      → (is_same_sender (Group g) (cond among (Group (place name groups)) (Client (place name places + 1))) && (g == place link.to groups)) ≡ true → ⊥
  by_test name true is among ends =
      let e = and_parts (g == place name groups) (g == place link.to groups) ends in
      let one : place name groups ≡ place link.to groups = sym (eqb-true _ _ e.0) ∙ eqb-true _ _ e.1 in
      let elsewhere : leads_elsewhere (record link { sender = Some name }) ≡ true = rw is at away in
      true≢false (sym elsewhere ∙ ap not (one_name groups name link.to among receiver_known one))
  by_test name false is among ends = true≢false (sym ends)

  by_sender : (sender : Option (List ℕ)) → link.sender ≡ sender → leads (Group g) g (link_of groups places link) ≡ true → ⊥
  by_sender None is home = let no : false ≡ true = rw is at home in absurd cc
  by_sender (Some name) is home = by_test name (is_among name groups) is refl (rw is at home)

none_home : (groups places : List (List ℕ)) (g : ℕ) (links : List DraftLink) → list_all (knows_link groups places) links ≡ true → ((link : DraftLink) → In link links → leads_elsewhere link ≡ true)
    → find (leads (Group g) g) (map (link_of groups places) links) ≡ None
none_home groups places g [] known away = refl
none_home groups places g (link ∷ links) known away =
    let k = and_parts (knows_link groups places link) (list_all (knows_link groups places) links) known in
    rw (not_home groups places g link k.0 (away link (inl refl))) (none_home groups places g links k.1 (λ other h. away other (inr h)))

-- each link of the draft of a placement leads elsewhere
drafted_elsewhere : (plan : Plan) (placement : List ℕ) (draft : Draft) → Drafted (written_at plan placement) draft → (link : DraftLink) → In link draft.links → leads_elsewhere link ≡ true
drafted_elsewhere plan placement draft d link h = by_source (d.links_come link h) where
  by_source : In link (flat_map links_of_bundle d.bundles) ⊎ (leads_elsewhere link ≡ true) → leads_elsewhere link ≡ true
  by_source (inr away) = away
  by_source (inl written) =
      let b = in_flat_map_back links_of_bundle link d.bundles written in
      let t = bundle_from d.tick (links_at plan placement) d.bundles b.0 d.bundles_are b.1 in
      let lone = lone_at plan placement t.0 t.1 in
      bundle_elsewhere b.0 t.0.ends t.0.stamps lone.0 lone.1 link lone.2 lone.3 (in_ticks d.tick t.0 b.0 t.2).is b.2

pub no_links_to_themselves : GroupsHaveNoLinksToThemselves
no_links_to_themselves plan placement scenario g e =
    let m = made_of (written_at plan placement) scenario e in
    let d = drafted_of (written_at plan placement) m.draft refl m.drafted in
    let p = passes m.draft (passed (judge (checks m.draft)) (scenario_of m.draft) scenario m.given).0 in
    let none = none_home m.draft.groups m.draft.places g m.draft.links p.ends (drafted_elsewhere plan placement m.draft d) in
    let kept = taking_kept m.draft scenario m.given in
    let home : (not (g == g) || false) ≡ false = ap (λ (same : Bool). not same || false) (eq-eqb g g refl) in
    record {
      messages = kept.messages (Group g) g ∙ ap (λ (found : Option Link). not (g == g) || is_some found) none ∙ home;
      stamps = kept.stamps g g ∙ ap (λ (found : Option Link). not (g == g) || option_map_or (λ (link : Link). link.stamps) found false) none ∙ home;
    }

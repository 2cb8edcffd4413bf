-- What is in the draft of what is written.
use Rattle.std.proofs.Common.{◌≡◌, ◌⊎◌, ℕ, ℤ, pos, int_le, nat_le, Bool, true, false, not, cond, List, [], ◌∷◌, ◌++◌, map, flat_map, sum_by, Option, Some, None, is_some, Result, Ok, Err, refl, sym, ap, subst, ◌∙◌, inl, inr}
use Rattle.std.specs.List.{list_any}
use Rattle.std.proofs.lemmas.Bool.{and_parts, cases_Bool, true≢false}
use Rattle.convoy_lines.specs.Results.{◌>>=◌}
use Rattle.convoy_draft.specs.declared.fault.Key.TheVariants.{Least, Delay}
use Rattle.convoy_draft.specs.declared.fault.ScenarioFault.{ScenarioFault}
use Rattle.convoy_draft.specs.declared.fault.ScenarioFault.TheVariants.{OverLimit}
use Rattle.convoy_draft.specs.declared.fault.Limit.TheVariants as limits
use Rattle.convoy_draft.specs.Checks.{is_named_alike, leads_elsewhere}
use Rattle.convoy_draft.specs.Draft.{Draft, DraftLink, DraftMessage}
use Rattle.convoy_scenario.specs.Numbering.{scenario_of_draft}
use Rattle.convoy_scenario.specs.Scenario.{Scenario}
use Rattle.convoy_toml.specs.declared.links.TheConstants.{MOST_WRITTEN_LINKS}
use Rattle.convoy_toml.specs.Agreements.{Agreement, with_agreements}
use Rattle.convoy_toml.specs.Links.{Bundle, count_of, links_of_bundle, links_of_bundles}
use Rattle.convoy_toml.specs.Reading.{need_ranges, scenario_of_written}
use Rattle.convoy_toml.specs.Shape.{WrittenLink, WrittenScenario}
use Rattle.convoy_toml.specs.Times.{agreements_of, bundle_of, bundles_of, delay_or_greatest, draft_messages_of, draft_of_written, need_least, tick_of, whole_if_written}
use Rattle.convoy_toml.specs.Ways.{Way, carries, lacks_link, link_along, with_least, ways_without_link}
use Rattle.convoy_plans.proofs.Members.{In, in_either, in_first, in_map_back, of_filter}

pub after_ok : {A B : Type 0} (r : Result A ScenarioFault) (f : A → Result B ScenarioFault) (y : B) → (r >>= f) ≡ Ok y → (x : A) × (r ≡ Ok x) × (f x ≡ Ok y)
after_ok (Ok x) f y e = (x, refl, e)
after_ok (Err fault) f y e = absurd cc

pub one_ok : {A : Type 0} (x y : A) → ◌≡◌ {A = Result A ScenarioFault} (Ok x) (Ok y) → x ≡ y
one_ok x y e = cc

-- ---- the draft of a scenario that is made
pub record Made (written : WrittenScenario) (scenario : Scenario) : Type 0 where
  pub draft : Draft
  pub drafted : draft_of_written written ≡ Ok draft
  pub given : scenario_of_draft draft ≡ Ok scenario

pub made_of : (written : WrittenScenario) (scenario : Scenario) → scenario_of_written written ≡ Ok scenario → Made written scenario
made_of written scenario e =
    let d = after_ok (draft_of_written written) (λ draft. scenario_of_draft draft >>= λ made. need_ranges (is_some written.least) draft >>= λ u. Ok made) scenario e in
    let s = after_ok (scenario_of_draft d.0) (λ made. need_ranges (is_some written.least) d.0 >>= λ u. Ok made) scenario d.2 in
    let r = after_ok (need_ranges (is_some written.least) d.0) (λ u. Ok s.0) scenario s.2 in
    let same : s.0 ≡ scenario = one_ok s.0 scenario r.2 in
    record { draft = d.0; drafted = d.1; given = s.1 ∙ ap (λ made. Ok made) same }

-- ---- what the least delay adds
same_field : {Y : Type 0} (b : Bool) (f : Draft → Y) (x y : Draft) → f y ≡ f x → f (cond b x y) ≡ f x
same_field true f x y e = refl
same_field false f x y e = e

link_kept : (b : Bool) (link : DraftLink) (x y : Draft) → In link x.links → In link y.links → In link (cond b x y).links
link_kept true link x y h k = h
link_kept false link x y h k = k

kept_groups : (least : Option ℤ) (draft : Draft) → (with_least least draft).groups ≡ draft.groups
kept_groups None draft = refl
kept_groups (Some least) draft =
    same_field (int_le least (pos 1)) (λ d. d.groups) draft (record draft { links = draft.links ++ map (link_along least draft.delay) (ways_without_link draft) }) refl

kept_places : (least : Option ℤ) (draft : Draft) → (with_least least draft).places ≡ draft.places
kept_places None draft = refl
kept_places (Some least) draft =
    same_field (int_le least (pos 1)) (λ d. d.places) draft (record draft { links = draft.links ++ map (link_along least draft.delay) (ways_without_link draft) }) refl

kept_messages : (least : Option ℤ) (draft : Draft) → (with_least least draft).messages ≡ draft.messages
kept_messages None draft = refl
kept_messages (Some least) draft =
    same_field (int_le least (pos 1)) (λ d. d.messages) draft (record draft { links = draft.links ++ map (link_along least draft.delay) (ways_without_link draft) }) refl

kept_links : (least : Option ℤ) (draft : Draft) (link : DraftLink) → In link draft.links → In link (with_least least draft).links
kept_links None draft link h = h
kept_links (Some least) draft link h =
    link_kept (int_le least (pos 1)) link draft (record draft { links = draft.links ++ map (link_along least draft.delay) (ways_without_link draft) }) h (in_first link draft.links _ h)

-- a link that it adds leads elsewhere
carries_away : (way : Way) (messages : List DraftMessage) → list_any (carries way) messages ≡ true → is_named_alike way.sender (Some way.to) ≡ false
carries_away way messages some = elim (cases_Bool (is_named_alike way.sender (Some way.to))) [
  | inl home ↦ absurd (true≢false (sym some ∙ none messages home))
  | inr away ↦ away
] where
  none : (ms : List DraftMessage) → is_named_alike way.sender (Some way.to) ≡ true → list_any (carries way) ms ≡ false
  none [] home = refl
  none (m ∷ ms) home = rw home (none ms home)

added_away : (least delay : ℤ) (draft : Draft) (link : DraftLink) → In link (map (link_along least delay) (ways_without_link draft)) → leads_elsewhere link ≡ true
added_away least delay draft link h =
    let w = in_map_back (link_along least delay) link (ways_without_link draft) h in
    let lacks : lacks_link draft.messages draft.links w.0 ≡ true = of_filter (lacks_link draft.messages draft.links) w.0 _ w.1 in
    let carried = and_parts (list_any (carries w.0) draft.messages) _ lacks in
    ap leads_elsewhere w.2 ∙ ap not (carries_away w.0 draft.messages carried.0)

link_comes : (least : Option ℤ) (draft : Draft) (link : DraftLink) → In link (with_least least draft).links → In link draft.links ⊎ (leads_elsewhere link ≡ true)
link_comes None draft link h = inl h
link_comes (Some least) draft link h = by_test (int_le least (pos 1)) h where
  by_test : (b : Bool) → In link (cond b draft (record draft { links = draft.links ++ map (link_along least draft.delay) (ways_without_link draft) })).links
      → In link draft.links ⊎ (leads_elsewhere link ≡ true)
  by_test true here = inl here
  by_test false here = by_part (in_either link draft.links (map (link_along least draft.delay) (ways_without_link draft)) here) where
    by_part : In link draft.links ⊎ In link (map (link_along least draft.delay) (ways_without_link draft)) → In link draft.links ⊎ (leads_elsewhere link ≡ true)
    by_part (inl written) = inl written
    by_part (inr added) = inr (added_away least draft.delay draft link added)

-- ---- the draft of what is written, where nothing is said of replicas that agree
pub record Drafted (written : WrittenScenario) (draft : Draft) : Type 0 where
  pub tick : Option ℕ
  pub tick_is : tick_of written ≡ Ok tick
  pub messages_are : draft_messages_of tick written.messages ≡ Ok draft.messages
  pub groups_are : draft.groups ≡ written.groups
  pub places_are : draft.places ≡ written.places
  pub bundles : List Bundle
  pub bundles_are : bundles_of tick written.links ≡ Ok bundles
  pub links_have : (link : DraftLink) → In link (flat_map links_of_bundle bundles) → In link draft.links
  pub links_come : (link : DraftLink) → In link draft.links → In link (flat_map links_of_bundle bundles) ⊎ (leads_elsewhere link ≡ true)

few_links : (bundles : List Bundle) (links : List DraftLink) → links_of_bundles bundles ≡ Ok links → flat_map links_of_bundle bundles ≡ links
few_links bundles links = by_test (nat_le (sum_by count_of bundles) MOST_WRITTEN_LINKS) where
  by_test : (b : Bool) → ◌≡◌ {A = Result (List DraftLink) ScenarioFault} (cond b (Ok (flat_map links_of_bundle bundles)) (Err (OverLimit limits.Link))) (Ok links) → flat_map links_of_bundle bundles ≡ links
  by_test true e = one_ok _ _ e
  by_test false e = absurd cc

abbrev timed : WrittenScenario → Option ℕ → Option ℤ → List DraftMessage → List Bundle → List DraftLink → Draft
timed written tick delay messages bundles links = record {
  time = written.time;
  tick = tick;
  delay = delay_or_greatest delay bundles;
  groups = written.groups;
  places = written.places;
  links = links;
  messages = messages;
  target_message = written.target_message;
  target_group = written.target_group;
}

pub drafted_of : (written : WrittenScenario) (draft : Draft) → written.agreements ≡ [] → draft_of_written written ≡ Ok draft → Drafted written draft
drafted_of written draft none e =
    let t = after_ok (tick_of written) _ draft e in
    let d = after_ok (whole_if_written t.0 Delay written.delay) _ draft t.2 in
    let l = after_ok (whole_if_written t.0 Least written.least) _ draft d.2 in
    let m = after_ok (draft_messages_of t.0 written.messages) _ draft l.2 in
    let b = after_ok (bundles_of t.0 written.links) _ draft m.2 in
    let a = after_ok (agreements_of t.0 written.agreements) _ draft b.2 in
    let k = after_ok (links_of_bundles b.0) _ draft a.2 in
    let n = after_ok (need_least written.time (delay_or_greatest d.0 b.0) l.0) _ draft k.2 in
    let base : Draft = timed written t.0 d.0 m.0 b.0 k.0 in
    let no_agreements : a.0 ≡ [] = one_ok a.0 [] (sym a.1 ∙ ap (agreements_of t.0) none) in
    let same : with_least l.0 base ≡ draft = one_ok _ _ (subst (λ (agreements : List Agreement). with_agreements l.0 agreements base ≡ Ok draft) no_agreements n.2) in
    let few : flat_map links_of_bundle b.0 ≡ k.0 = few_links b.0 k.0 k.1 in
    record {
      tick = t.0;
      tick_is = t.1;
      messages_are = m.1 ∙ ap (λ ms. Ok ms) (sym (kept_messages l.0 base) ∙ ap (λ (x : Draft). x.messages) same);
      groups_are = ap (λ (x : Draft). x.groups) (sym same) ∙ kept_groups l.0 base;
      places_are = ap (λ (x : Draft). x.places) (sym same) ∙ kept_places l.0 base;
      bundles = b.0;
      bundles_are = b.1;
      links_have = λ link h.
          let there : In link (with_least l.0 base).links = kept_links l.0 base link (rw (← few) h) in
          rw (← same) there;
      links_come = λ link h.
          let there : In link (with_least l.0 base).links = subst (λ (x : Draft). In link x.links) (sym same) h in
          subst (λ (links : List DraftLink). In link links ⊎ (leads_elsewhere link ≡ true)) (sym few) (link_comes l.0 base link there);
    }

-- ---- the links of a table
pub bundle_from : (tick : Option ℕ) (links : List WrittenLink) (bundles : List Bundle) (bundle : Bundle) → bundles_of tick links ≡ Ok bundles → In bundle bundles
    → (link : WrittenLink) × In link links × (bundle_of tick link ≡ Ok bundle)
bundle_from tick [] bundles bundle e h =
    let none : [] ≡ bundles = one_ok [] bundles e in
    let never : In bundle [] = subst (λ (bs : List Bundle). In bundle bs) (sym none) h in
    absurd never
bundle_from tick (first ∷ links) bundles bundle e h =
    let f = after_ok (bundle_of tick first) (λ b. bundles_of tick links >>= λ bs. Ok (b ∷ bs)) bundles e in
    let o = after_ok (bundles_of tick links) (λ bs. Ok (f.0 ∷ bs)) bundles f.2 in
    let same : f.0 ∷ o.0 ≡ bundles = one_ok _ _ o.2 in
    let here : In bundle (f.0 ∷ o.0) = subst (λ (bs : List Bundle). In bundle bs) (sym same) h in
    by_place f.0 o.0 f.1 here (λ there. bundle_from tick links o.0 bundle o.1 there) where
      by_place : (b : Bundle) (bs : List Bundle) → bundle_of tick first ≡ Ok b → In bundle (b ∷ bs)
          → (In bundle bs → (link : WrittenLink) × In link links × (bundle_of tick link ≡ Ok bundle))
          → (link : WrittenLink) × In link (first ∷ links) × (bundle_of tick link ≡ Ok bundle)
      by_place b bs is (inl at) more = (first, inl refl, rw at is)
      by_place b bs is (inr there) more =
          let r = more there in
          (r.0, inr r.1, r.2)

pub bundle_in : (tick : Option ℕ) (links : List WrittenLink) (bundles : List Bundle) (link : WrittenLink) → bundles_of tick links ≡ Ok bundles → In link links
    → (bundle : Bundle) × In bundle bundles × (bundle_of tick link ≡ Ok bundle)
bundle_in tick [] bundles link e h = absurd h
bundle_in tick (first ∷ links) bundles link e h =
    let f = after_ok (bundle_of tick first) (λ b. bundles_of tick links >>= λ bs. Ok (b ∷ bs)) bundles e in
    let o = after_ok (bundles_of tick links) (λ bs. Ok (f.0 ∷ bs)) bundles f.2 in
    let same : f.0 ∷ o.0 ≡ bundles = one_ok _ _ o.2 in
    by_place f.0 o.0 f.1 same h (bundle_in tick links o.0 link o.1) where
      by_place : (b : Bundle) (bs : List Bundle) → bundle_of tick first ≡ Ok b → b ∷ bs ≡ bundles → (link ≡ first) ⊎ In link links
          → (In link links → (bundle : Bundle) × In bundle bs × (bundle_of tick link ≡ Ok bundle))
          → (bundle : Bundle) × In bundle bundles × (bundle_of tick link ≡ Ok bundle)
      by_place b bs is same (inl here) more = (b, rw (← same) (inl refl), rw here is)
      by_place b bs is same (inr there) more =
          let r = more there in
          (r.0, rw (← same) (inr r.1), r.2)

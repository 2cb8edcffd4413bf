-- In the scenario of a placement the ranges are those that are written from site to site.
use Rattle.std.proofs.Common.{◌≡◌, ◌≢◌, ◌⊎◌, ℕ, ℤ, zero, suc, ◌<◌, ◌≤◌, ◌==◌, Bool, true, false, not, cond, List, [], ◌∷◌, ◌++◌, map, length, get_or, Option, Some, None, option_map, Ok, refl, sym, ap, subst, ◌∙◌, inl, inr, arith}
use Rattle.std.specs.List.{find}
use Rattle.std.specs.Option.{option_map_or}
use Rattle.std.specs.Str.{bytes_eq}
use Rattle.std.proofs.lemmas.Bool.{and_parts, both_ways, cases_Bool, cases_lt, eqb-true, false≢true, false_from_ne_true}
use Rattle.std.proofs.lemmas.Bool.Decides.{nat_tests}
use Rattle.std.proofs.lemmas.List.{length-map, get_or-map, get_or_past}
use Rattle.convoy_draft.specs.declared.fault.Key.{Key}
use Rattle.convoy_draft.specs.declared.fault.Key.TheVariants.{Least, Most}
use Rattle.convoy_draft.specs.declared.limits.TheConstants.{GREATEST_DELAY}
use Rattle.convoy_draft.specs.Checks.{all_differ, checks, is_among, is_named_alike, judge, ticks}
use Rattle.convoy_draft.specs.Draft.{DraftLink}
use Rattle.convoy_lines.specs.Results.{◌>>=◌}
use Rattle.convoy_scenario.specs.declared.sender.Sender.{Sender}
use Rattle.convoy_scenario.specs.declared.sender.Sender.TheVariants as senders
use Rattle.convoy_scenario.specs.Numbering.{link_of, links_of_draft, place, scenario_of, sender_of}
use Rattle.convoy_scenario.specs.Scenario.{Link, Scenario, is_same_sender, range_between}
use Rattle.convoy_scenario.proofs.GivenScenarios.{passed}
use Rattle.convoy_scenario.proofs.KeptRanges.{leads as leads_link, ranges_kept}
use Rattle.convoy_scenario.proofs.NumberedAgain.{among_at, itself, one_place, place_again, same_bytes}
use Rattle.convoy_scenario.proofs.NumberedLemmas.{Passes, groups_distinct, passes}
use Rattle.convoy_toml.specs.declared.written.WrittenTime.{WrittenTime}
use Rattle.convoy_toml.specs.declared.written.WrittenTime.TheVariants.{Count, Lasting}
use Rattle.convoy_toml.specs.Links.{Bundle, links_of_bundle}
use Rattle.convoy_toml.specs.Shape.{LinkEnds, WrittenLink, WrittenScenario}
use Rattle.convoy_toml.specs.Times.{bundle_of, bundles_of, tick_of, whole}
use Rattle.convoy_plans.specs.declared.plan.Origin.{Origin}
use Rattle.convoy_plans.specs.declared.plan.Origin.TheVariants.{Site, Group}
use Rattle.convoy_plans.specs.PlanLaws.{RangesAreOfSites, sender_for, site_of}
use Rattle.convoy_plans.specs.Placements.{Spot, client_spots, first_client, further_clients, further_spot, group_numbers, group_spot, groups_in, is_first, link_to, links_at, links_from, scenario_at, site_at, spots, written_at}
use Rattle.convoy_plans.specs.Plans.{IsPlan, Plan, group_name, has, most_between, site_name}
use Rattle.convoy_plans.specs.Ranges.{leads, most_in, most_table}
use Rattle.convoy_plans.proofs.Drafted.{Drafted, Made, after_ok, bundle_in, drafted_of, made_of, one_ok}
use Rattle.convoy_plans.proofs.Found.{link_found}
use Rattle.convoy_plans.proofs.Members.{In, in_at, in_first, in_flat_map, in_map, in_range, in_then}

-- ---- a table of links in ticks

pub record InTicks (tick : Option ℕ) (link : WrittenLink) (bundle : Bundle) : Type 0 where
  pub is : bundle ≡ record { ends = link.ends; least = bundle.least; most = bundle.most; stamps = link.stamps }
  pub most : whole tick Most link.most ≡ Ok bundle.most

pub in_ticks : (tick : Option ℕ) (link : WrittenLink) (bundle : Bundle) → bundle_of tick link ≡ Ok bundle → InTicks tick link bundle
in_ticks tick link bundle e =
    let l = after_ok (whole tick Least link.least) (λ least. whole tick Most link.most >>= λ most. Ok (record { ends = link.ends; least = least; most = most; stamps = link.stamps })) bundle e in
    let m = after_ok (whole tick Most link.most) (λ most. Ok (record { ends = link.ends; least = l.0; most = most; stamps = link.stamps })) bundle l.2 in
    let made : Bundle = record { ends = link.ends; least = l.0; most = m.0; stamps = link.stamps } in
    let same : made ≡ bundle = one_ok made bundle m.2 in
    subst (InTicks tick link) same (record { is = refl; most = m.1 })

-- what is a number of ticks where a tick has no length is that whatever length it has
same_ticks : (tick other : Option ℕ) (written : WrittenScenario) (key : Key) (time : WrittenTime) (n : ℤ) → written.tick ≡ tick → tick_of written ≡ Ok other
    → whole tick key time ≡ Ok n → whole other key time ≡ Ok n
same_ticks (Some t) other written key time n is given e =
    let here : tick_of written ≡ Ok (Some t) = rw is refl in
    let same : Some t ≡ other = one_ok (Some t) other (sym here ∙ given) in
    rw (← same) e
same_ticks None other written key (Count k) n is given e = e
same_ticks None other written key (Lasting length) n is given e = absurd cc

-- the first table that leads there, and the same in ticks
pub data FirstIs (tick : Option ℕ) (links : List WrittenLink) (bundles : List Bundle) (test : LinkEnds → Bool) : Type 0 where
  none_is : find (λ bundle. test bundle.ends) bundles ≡ None → FirstIs tick links bundles test
  some_is : (link : WrittenLink) (bundle : Bundle) → find (λ l. test l.ends) links ≡ Some link → find (λ b. test b.ends) bundles ≡ Some bundle → bundle_of tick link ≡ Ok bundle → FirstIs tick links bundles test

first_is : (tick : Option ℕ) (links : List WrittenLink) (bundles : List Bundle) (test : LinkEnds → Bool) → bundles_of tick links ≡ Ok bundles → FirstIs tick links bundles test
first_is tick [] bundles test e =
    let same : [] ≡ bundles = one_ok [] bundles e in
    subst (λ bs. FirstIs tick [] bs test) same (none_is refl)
first_is tick (link ∷ links) bundles test e =
    let f = after_ok (bundle_of tick link) (λ b. bundles_of tick links >>= λ bs. Ok (b ∷ bs)) bundles e in
    let o = after_ok (bundles_of tick links) (λ bs. Ok (f.0 ∷ bs)) bundles f.2 in
    let same : f.0 ∷ o.0 ≡ bundles = one_ok _ _ o.2 in
    let ends : f.0.ends ≡ link.ends = ap (λ (b : Bundle). b.ends) (in_ticks tick link f.0 f.1).is in
    subst (λ bs. FirstIs tick (link ∷ links) bs test) same (by_test f.0 o.0 f.1 ends (first_is tick links o.0 test o.1) (cases_Bool (test link.ends))) where
      by_test : (b : Bundle) (bs : List Bundle) → bundle_of tick link ≡ Ok b → b.ends ≡ link.ends → FirstIs tick links bs test → (test link.ends ≡ true) ⊎ (test link.ends ≡ false)
          → FirstIs tick (link ∷ links) (b ∷ bs) test
      by_test b bs is ends rest (inl here) = some_is link b (rw here refl) (rw (ends, here) refl) is
      by_test b bs is ends (none_is none) (inr away) = none_is (rw (ends, away) none)
      by_test b bs is ends (some_is l k at too made) (inr away) = some_is l k (rw away at) (rw (ends, away) too) made

-- ---- the link of a table from one place to one group

abbrev pub lone_ends : Option (List ℕ) → List ℕ → LinkEnds
lone_ends name to = record { senders = option_map (λ n. n ∷ []) name; to = to ∷ []; both = false }

lone_link : (name : Option (List ℕ)) (to : List ℕ) (least most : ℤ) → is_named_alike name (Some to) ≡ false
    → In (record { sender = name; to = to; least = least; most = most; stamps = false }) (links_of_bundle (record { ends = lone_ends name to; least = least; most = most; stamps = false }))
lone_link None to least most apart = inl refl
lone_link (Some name) to least most apart = rw apart (inl refl)

-- ---- places in the scenario

self_sender : (s : Sender) → is_same_sender s s ≡ true
self_sender (senders.Client p) = grind (arith, nat_tests)
self_sender (senders.Group g) = grind (arith, nat_tests)

self_number : (n : ℕ) → (n == n) ≡ true
self_number n = grind (arith, nat_tests)

pub get_or-first : (xs ys : List (List ℕ)) (i : ℕ) → i < length xs → get_or (xs ++ ys) i [] ≡ get_or xs i []
get_or-first [] ys i h = absurd (omega arith)
get_or-first (x ∷ xs) ys zero h = refl
get_or-first (x ∷ xs) ys (suc i) h = get_or-first xs ys i (omega arith)

longer : (xs ys : List (List ℕ)) (i : ℕ) → i < length xs → i < length (xs ++ ys)
longer [] ys i h = absurd (omega arith)
longer (x ∷ xs) ys zero h = omega arith
longer (x ∷ xs) ys (suc i) h = let rest = longer xs ys i (omega arith) in omega arith

-- the place of a group of the plan
pub group_place : (plan : Plan) (g : ℕ) → all_differ (groups_in plan) ≡ true → g < length plan.written.groups → place (group_name plan g) (groups_in plan) ≡ g
group_place plan g differ within =
    let at : get_or (groups_in plan) g [] ≡ group_name plan g = get_or-first plan.written.groups _ g within in
    rw (← at) (place_again (groups_in plan) g (groups_distinct (groups_in plan) differ) (longer plan.written.groups _ g within))

-- who has its name
pub group_sender : (plan : Plan) (g : ℕ) → all_differ (groups_in plan) ≡ true → g < length plan.written.groups → sender_of (groups_in plan) [] (Some (group_name plan g)) ≡ senders.Group g
group_sender plan g differ within =
    let at : get_or (groups_in plan) g [] ≡ group_name plan g = get_or-first plan.written.groups _ g within in
    let among : is_among (group_name plan g) (groups_in plan) ≡ true = rw (← at) (among_at (groups_in plan) g (longer plan.written.groups _ g within)) in
    rw among (ap (λ n. senders.Group n) (group_place plan g differ within))

-- ---- from a place to a group

module _ (plan : Plan) (placement : List ℕ) (scenario : Scenario) (is : IsPlan plan) (e : scenario_at plan placement ≡ Ok scenario) where
  abbrev written : WrittenScenario
  written = written_at plan placement

  made : Made written scenario
  made = made_of written scenario e

  drafted : (m : Made written scenario) → Drafted written m.draft
  drafted m = drafted_of written m.draft refl m.drafted

  passing : (m : Made written scenario) → Passes m.draft
  passing m = passes m.draft (passed (judge (checks m.draft)) (scenario_of m.draft) scenario m.given).0

  pub names_differ : all_differ (groups_in plan) ≡ true
  names_differ =
      let m = made in
      let d = drafted m in
      let p = passing m in
      rw (← d.groups_are) p.groups_differ

  from_spot : (spot : Spot) (g : ℕ) → In spot (spots plan placement) → g < length plan.written.groups → is_named_alike spot.name (Some (group_name plan g)) ≡ false
      → most_in is.bundles (site_name plan spot.site) (site_name plan (site_at placement g)) ≤ (range_between scenario (sender_of (groups_in plan) [] spot.name) g).1
  from_spot spot g stands within apart =
      by_first (first_is plan.tick plan.written.links is.bundles (λ ends. leads ends (site_name plan spot.site) (site_name plan (site_at placement g))) is.ticks) where
        by_first : FirstIs plan.tick plan.written.links is.bundles (λ ends. leads ends (site_name plan spot.site) (site_name plan (site_at placement g)))
            → most_in is.bundles (site_name plan spot.site) (site_name plan (site_at placement g)) ≤ (range_between scenario (sender_of (groups_in plan) [] spot.name) g).1
        by_first (none_is none) = rw none (omega arith)
        by_first (some_is link bundle at too ticks_are) =
            let m = made in
            let d = drafted m in
            let p = passing m in
            let name = group_name plan g in
            let table : WrittenLink = record { ends = lone_ends spot.name name; least = link.least; most = link.most; stamps = false } in
            let to : link_to plan placement spot g ≡ table ∷ [] = rw (apart, at) refl in
            let here : In table (link_to plan placement spot g) = rw to (inl refl) in
            let there : In table (links_from plan placement spot) = in_flat_map (link_to plan placement spot) g table (group_numbers plan) (in_range (length plan.written.groups) g within) here in
            let among : In table (links_at plan placement) = in_flat_map (links_from plan placement) spot table (spots plan placement) stands there in
            let b = bundle_in d.tick (links_at plan placement) d.bundles table d.bundles_are among in
            let t = in_ticks d.tick table b.0 b.2 in
            let s = in_ticks plan.tick link bundle ticks_are in
            let kept : whole d.tick Most link.most ≡ Ok bundle.most = same_ticks plan.tick d.tick written Most link.most bundle.most refl d.tick_is s.most in
            let most : b.0.most ≡ bundle.most = one_ok _ _ (sym t.most ∙ kept) in
            let drawn : DraftLink = record { sender = spot.name; to = name; least = b.0.least; most = b.0.most; stamps = false } in
            let lone : In drawn (links_of_bundle b.0) = subst (λ (x : Bundle). In drawn (links_of_bundle x)) (sym t.is) (lone_link spot.name name b.0.least b.0.most apart) in
            let linked : In drawn m.draft.links = d.links_have drawn (in_flat_map links_of_bundle b.0 drawn d.bundles b.1 lone) in
            let sender = sender_of (groups_in plan) [] spot.name in
            let leads_there : leads_link sender g (link_of (groups_in plan) [] drawn) ≡ true = rw (self_sender sender, group_place plan g names_differ within) (self_number g) in
            let leads_here : leads_link sender g (link_of m.draft.groups m.draft.places drawn) ≡ true = rw (d.groups_are, d.places_are) leads_there in
            let found : find (leads_link sender g) (links_of_draft m.draft) ≡ Some (link_of m.draft.groups m.draft.places drawn) = link_found m.draft.groups m.draft.places sender g m.draft.links drawn p.links_differ p.ends linked leads_here in
            let range : (range_between scenario sender g).1 ≡ ticks GREATEST_DELAY b.0.most =
            ap (λ (r : ℕ × ℕ). r.1) (ranges_kept m.draft scenario sender g m.given ∙ ap (λ l. option_map_or (λ (k : Link). (k.least, k.most)) l (1, scenario.delay)) found) in
            let less : ticks GREATEST_DELAY bundle.most ≤ (range_between scenario sender g).1 = rw (range, most) (omega arith) in
            rw too less

-- ---- the greatest delay between two sites

less_than_zero : (n : ℕ) → 0 ≤ n
less_than_zero n = omega arith

most_at : (plan : Plan) (bundles : List Bundle) (a b : ℕ) → plan.most ≡ most_table bundles plan.sites → most_between plan a b ≤ most_in bundles (site_name plan a) (site_name plan b)
most_at plan bundles a b is = rw is (by_row (cases_lt a (length plan.sites))) where
  by_row : (a < length plan.sites) ⊎ (length plan.sites ≤ a) → get_or (get_or (most_table bundles plan.sites) a []) b 0 ≤ most_in bundles (site_name plan a) (site_name plan b)
  by_row (inl within) =
      rw (get_or-map (λ from. map (most_in bundles from) plan.sites) plan.sites a [] [] within) (by_place (cases_lt b (length plan.sites))) where
        by_place : (b < length plan.sites) ⊎ (length plan.sites ≤ b) → get_or (map (most_in bundles (site_name plan a)) plan.sites) b 0 ≤ most_in bundles (site_name plan a) (site_name plan b)
        by_place (inl here) = rw (get_or-map (most_in bundles (site_name plan a)) plan.sites b [] 0 here) (omega arith)
        by_place (inr past) =
            let long = length-map plan.sites (most_in bundles (site_name plan a)) in
            rw (get_or_past (map (most_in bundles (site_name plan a)) plan.sites) b 0 (omega arith)) (less_than_zero _)
  by_row (inr past) =
      let long = length-map plan.sites (λ from. map (most_in bundles from) plan.sites) in
      rw (get_or_past (most_table bundles plan.sites) a [] (omega arith)) (less_than_zero _)

-- ---- where something is sent from

in_of_has : (s : ℕ) (clients : List ℕ) → has s clients ≡ true → In s clients
in_of_has s [] e = absurd (false≢true e)
in_of_has s (c ∷ cs) e = elim (cases_Bool (c == s)) [
  | inl here ↦ inl (sym (eqb-true c s here))
  | inr away ↦
      let rest : has s cs ≡ true = rw away at e in
      inr (in_of_has s cs rest)
]

in_rest : (s c : ℕ) (cs : List ℕ) → s ≢ c → In s (c ∷ cs) → In s cs
in_rest s c cs other (inl is) = absurd (other is)
in_rest s c cs other (inr h) = h

pub none_alike : (x y : List ℕ) (xs ys : List (List ℕ)) → all_differ (xs ++ ys) ≡ true → In x xs → In y ys → bytes_eq y x ≡ false
none_alike x y [] ys differ h k = absurd h
none_alike x y (z ∷ xs) ys differ (inl is) k =
    let parts = and_parts (not (is_among z (xs ++ ys))) (all_differ (xs ++ ys)) differ in
    false_from_ne_true _ (λ same.
    let one : z ≡ y = sym is ∙ sym (same_bytes y x same) in
    among_not z (xs ++ ys) parts.0 (rw one (in_then y xs ys k))) where
      among_not : (name : List ℕ) (names : List (List ℕ)) → not (is_among name names) ≡ true → In name names → ⊥
      among_not name [] n h = h
      among_not name (first ∷ names) n (inl here) =
          let same : bytes_eq name first ≡ true = rw (← here) (itself name) in
          false≢true (rw same at n)
      among_not name (first ∷ names) n (inr there) = elim (cases_Bool (bytes_eq name first)) [
        | inl same ↦ false≢true (rw same at n)
        | inr other ↦ among_not name names (rw other at n) there
      ]
none_alike x y (z ∷ xs) ys differ (inr h) k =
    none_alike x y xs ys (and_parts (not (is_among z (xs ++ ys))) (all_differ (xs ++ ys)) differ).1 h k

-- the place of the scenario from which it is sent, other than a group
record Spotted (plan : Plan) (placement : List ℕ) (from : Origin) (g : ℕ) : Type 0 where
  spot : Spot
  stands : In spot (spots plan placement)
  sender : sender_of (groups_in plan) [] spot.name ≡ sender_for plan from
  site : site_name plan spot.site ≡ site_name plan (site_of placement from)
  apart : is_named_alike spot.name (Some (group_name plan g)) ≡ false

group_spotted : (plan : Plan) (placement : List ℕ) (k g : ℕ) → all_differ (groups_in plan) ≡ true → k < length plan.written.groups → g < length plan.written.groups → k ≢ g → Spotted plan placement (Group k) g
group_spotted plan placement k g differ within other apart =
    let spot = group_spot plan placement k in
    record {
      spot = spot;
      stands = in_first spot (client_spots (first_client plan) ++ map (group_spot plan placement) (group_numbers plan)) (map (further_spot plan) (further_clients plan))
          (in_then spot (client_spots (first_client plan)) (map (group_spot plan placement) (group_numbers plan))
          (in_map (group_spot plan placement) k (group_numbers plan) (in_range (length plan.written.groups) k within)));
      sender = group_sender plan k differ within;
      site = refl;
      apart = false_from_ne_true _ (λ same.
          let mine : get_or (groups_in plan) k [] ≡ group_name plan k = get_or-first plan.written.groups _ k within in
          let its : get_or (groups_in plan) g [] ≡ group_name plan g = get_or-first plan.written.groups _ g other in
          apart
          (one_place (groups_in plan) k g (groups_distinct (groups_in plan) differ) (longer plan.written.groups _ k within) (longer plan.written.groups _ g other)
          (mine ∙ same_bytes (group_name plan k) (group_name plan g) same ∙ sym its)));
    }

pub in_group : (plan : Plan) (g : ℕ) → g < length plan.written.groups → In (group_name plan g) plan.written.groups
in_group plan g within = in_at plan.written.groups g [] within

site_spotted : (plan : Plan) (placement : List ℕ) (s g : ℕ) → all_differ (groups_in plan) ≡ true → In s plan.clients → g < length plan.written.groups → Spotted plan placement (Site s) g
site_spotted plan placement s g differ among within = by_clients plan.clients refl among where
  by_test : (c : ℕ) (cs : List ℕ) → plan.clients ≡ c ∷ cs → In s (c ∷ cs) → (bytes_eq (site_name plan s) (site_name plan c) ≡ true) ⊎ (bytes_eq (site_name plan s) (site_name plan c) ≡ false)
      → Spotted plan placement (Site s) g
  by_test c cs are h (inl same) =
      let first : first_client plan ≡ Some c = rw are refl in
      let is : is_first plan (site_name plan s) ≡ true = rw first same in
      let spot : Spot = record { name = None; site = c } in
      let here : In spot (client_spots (first_client plan)) = rw first (inl refl) in
      record {
        spot = spot;
        stands = in_first spot (client_spots (first_client plan) ++ map (group_spot plan placement) (group_numbers plan)) (map (further_spot plan) (further_clients plan))
            (in_first spot (client_spots (first_client plan)) (map (group_spot plan placement) (group_numbers plan)) here);
        sender = ap (λ (b : Bool). sender_of (groups_in plan) [] (cond b None (Some (site_name plan s)))) (sym is);
        site = sym (same_bytes (site_name plan s) (site_name plan c) same);
        apart = refl;
      }
  by_test c cs are h (inr other) =
      let first : first_client plan ≡ Some c = rw are refl in
      let is : is_first plan (site_name plan s) ≡ false = rw first other in
      let further : further_clients plan ≡ cs = rw are refl in
      let rest : In s cs = in_rest s c cs (λ same. both_ways _ other (rw same (itself (site_name plan c)))) h in
      let there : In s (further_clients plan) = rw further rest in
      let spot = further_spot plan s in
      record {
        spot = spot;
        stands = in_then spot (client_spots (first_client plan) ++ map (group_spot plan placement) (group_numbers plan)) (map (further_spot plan) (further_clients plan))
            (in_map (further_spot plan) s (further_clients plan) there);
        sender = ap (λ (b : Bool). sender_of (groups_in plan) [] (cond b None (Some (site_name plan s)))) (sym is);
        site = refl;
        apart = none_alike (group_name plan g) (site_name plan s) plan.written.groups (map (site_name plan) (further_clients plan)) differ (in_group plan g within)
            (in_map (site_name plan) s (further_clients plan) there);
      }

  by_clients : (cs : List ℕ) → plan.clients ≡ cs → In s cs → Spotted plan placement (Site s) g
  by_clients [] are h = absurd h
  by_clients (c ∷ cs) are h = by_test c cs are h (cases_Bool (bytes_eq (site_name plan s) (site_name plan c)))

from_spotted : (plan : Plan) (placement : List ℕ) (scenario : Scenario) (is : IsPlan plan) (e : scenario_at plan placement ≡ Ok scenario) (from : Origin) (g : ℕ) → g < length plan.written.groups → Spotted plan placement from g
    → most_between plan (site_of placement from) (site_at placement g) ≤ (range_between scenario (sender_for plan from) g).1
from_spotted plan placement scenario is e from g within s =
    let low = most_at plan is.bundles (site_of placement from) (site_at placement g) is.most in
    let high = from_spot plan placement scenario is e s.spot g s.stands within s.apart in
    let here : most_in is.bundles (site_name plan (site_of placement from)) (site_name plan (site_at placement g)) ≤ (range_between scenario (sender_for plan from) g).1 =
    rw (← s.site, ← s.sender) high in
    omega (arith, low, here)

pub ranges_of_sites : RangesAreOfSites
ranges_of_sites plan placement scenario (Site s) g is e origin within apart =
    from_spotted plan placement scenario is e (Site s) g within
    (site_spotted plan placement s g (names_differ plan placement scenario is e) (in_of_has s plan.clients origin) within)
ranges_of_sites plan placement scenario (Group k) g is e origin within apart =
    from_spotted plan placement scenario is e (Group k) g within
    (group_spotted plan placement k g (names_differ plan placement scenario is e) origin within (λ same. apart (ap (λ n. Group n) same)))

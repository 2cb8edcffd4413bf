-- What is made of a plan as it is written is a plan.
use Rattle.std.proofs.Common.{◌≡◌, ◌⊎◌, ℕ, ◌<◌, ◌==◌, nat_lt, Bool, true, false, cond, List, [], ◌∷◌, ◌++◌, map, find, length, get_or, All, Option, Some, None, unwrap_or, Ok, IsTrue, refl, sym, ap, ap₂, inl, inr, arith}
use Rattle.std.specs.List.{list_all, list_any, position_or_len, range_with_len}
use Rattle.std.specs.Str.{bytes_eq}
use Rattle.std.proofs.lemmas.Bool.{and_parts, cases_Bool, false≢true}
use Rattle.std.proofs.lemmas.Bool.Decides.{nat_tests}
use Rattle.std.proofs.lemmas.List.{length-map}
use Rattle.std.proofs.lemmas.List.Folds.{list_any-append}
use Rattle.convoy_draft.specs.declared.duration.TimeUnit.{TimeUnit}
use Rattle.convoy_draft.specs.Checks.{all_differ, is_among}
use Rattle.convoy_scenario.specs.Numbering.{place}
use Rattle.convoy_scenario.proofs.PlaceLemmas.{name_at_place, place_within}
use Rattle.convoy_toml.specs.Links.{Bundle}
use Rattle.convoy_toml.specs.Shape.{WrittenMessage, WrittenScenario}
use Rattle.convoy_toml.specs.Times.{bundles_of}
use Rattle.convoy_plans.specs.declared.plan.Origin.{Origin}
use Rattle.convoy_plans.specs.declared.plan.Origin.TheVariants.{Site, Group}
use Rattle.convoy_plans.specs.Checks.{are_among, is_sent_from, places_of}
use Rattle.convoy_plans.specs.Numbering.{all_housed, apart_in, goes_in, housed_in, origin_in, origins_in, places, plan_in}
use Rattle.convoy_plans.specs.Ranges.{most_table}
use Rattle.convoy_plans.specs.Plans.{Home, IsOrigin, IsPlan, Plan, WrittenPlan, client_sites, has, is_site}
use Rattle.convoy_plans.proofs.Members.{In, all_in, all_of_in, any_in, in_filter, in_map_back, in_range}

-- ---- places

some_place : (b : Bool) (k n : ℕ) → (b ≡ true → k < n) → 0 < n → unwrap_or (cond b (Some k) None) 0 < n
some_place true k n below some = below refl
some_place false k n below some = some

place_below : (name : List ℕ) (names : List (List ℕ)) → 0 < length names → place name names < length names
place_below name names some =
    some_place (nat_lt (position_or_len (bytes_eq name) names) (length names)) (position_or_len (bytes_eq name) names) (length names) (λ e. grind (arith, nat_tests, e)) some

all_places : (sites names : List (List ℕ)) → 0 < length sites → All (λ s. s < length sites) (places sites names)
all_places sites names some =
    all_of_in (λ s. s < length sites) (places sites names) (λ s h.
    let r = in_map_back (λ name. place name sites) s names h in
    rw r.2 (place_below r.0 sites some))

housed_below : (sites : List (List ℕ)) (homes : List Home) (group : List ℕ) → 0 < length sites → All (λ s. s < length sites) (housed_in sites homes group)
housed_below sites homes group some = by_home (find (λ home. bytes_eq group home.name) homes) refl where
  by_home : (found : Option Home) → find (λ home. bytes_eq group home.name) homes ≡ found → All (λ s. s < length sites) (housed_in sites homes group)
  by_home None is = rw is (λ k d h. absurd (omega arith))
  by_home (Some home) is = rw is (all_places sites home.sites some)

-- ---- where messages are sent from

module _ (sites groups : List (List ℕ)) where
  abbrev name_at : Origin → List ℕ
  name_at (Site s) = get_or sites s []
  name_at (Group g) = get_or groups g []

  sent_name : (name : List ℕ) → is_among name (groups ++ sites) ≡ true → name_at (origin_in sites groups (Some name)) ≡ name
  sent_name name known = by_test (cases_Bool (is_among name groups)) where
    by_test : (is_among name groups ≡ true) ⊎ (is_among name groups ≡ false) → name_at (origin_in sites groups (Some name)) ≡ name
    by_test (inl here) = rw here (name_at_place name groups here)
    by_test (inr away) =
        let there : is_among name sites ≡ true = rw (list_any-append (bytes_eq name) groups sites, away) at known in
        rw away (name_at_place name sites there)

  sent_from : (message : WrittenMessage) → is_sent_from (groups ++ sites) message ≡ true → message.sender ≡ Some (name_at (origin_in sites groups message.sender))
  sent_from message sent = by_sender message.sender refl where
    by_sender : (sender : Option (List ℕ)) → message.sender ≡ sender → message.sender ≡ Some (name_at (origin_in sites groups message.sender))
    by_sender None is =
        let bad : false ≡ true = rw is at sent in
        absurd (false≢true bad)
    by_sender (Some name) is =
        let known : is_among name (groups ++ sites) ≡ true = rw is at sent in
        rw is (ap (λ n. Some n) (sym (sent_name name known)))

  all_sent : (messages : List WrittenMessage) → list_all (is_sent_from (groups ++ sites)) messages ≡ true
      → map (λ message. message.sender) messages ≡ map (λ origin. Some (name_at origin)) (map (λ message. origin_in sites groups message.sender) messages)
  all_sent [] sent = refl
  all_sent (message ∷ messages) sent =
      let parts = and_parts (is_sent_from (groups ++ sites) message) (list_all (is_sent_from (groups ++ sites)) messages) sent in
      ap₂ (λ (s : Option (List ℕ)) (ss : List (Option (List ℕ))). s ∷ ss) (sent_from message parts.0) (all_sent messages parts.1)

-- a site from which something is sent is one of those from which clients send
site_is : (s : ℕ) → is_site s (Site s) ≡ true
site_is s = grind (arith, nat_tests)

in_has : (s : ℕ) (ns : List ℕ) → In s ns → has s ns ≡ true
in_has s ns h = any_in (λ n. n == s) s ns h (grind (arith, nat_tests))

client_site : (origins : List Origin) (sites : List (List ℕ)) (s : ℕ) → In (Site s) origins → s < length sites → has s (client_sites origins sites) ≡ true
client_site origins sites s h within =
    in_has s (client_sites origins sites)
    (in_filter (λ t. list_any (is_site t) origins) s (range_with_len 0 (length sites)) (in_range (length sites) s within) (any_in (is_site s) (Site s) origins h (site_is s)))

module _ (written : WrittenPlan) (tick : Option ℕ) (unit : Option TimeUnit) (bundles : List Bundle) (deadlines : List (Option ℕ)) where
  abbrev plan : Plan
  plan = plan_in written tick unit bundles deadlines

  is_origin : list_all (is_sent_from (places_of written)) written.scenario.messages ≡ true → (origin : Origin) → In origin (origins_in written) → IsOrigin plan origin
  is_origin sent origin h =
      let r = in_map_back (λ message. origin_in written.sites written.scenario.groups message.sender) origin written.scenario.messages h in
      by_sender r.0 r.0.sender refl (all_in (is_sent_from (places_of written)) r.0 written.scenario.messages r.1 sent) r.2 where
        by_group : (name : List ℕ) → is_among name (places_of written) ≡ true → origin ≡ origin_in written.sites written.scenario.groups (Some name)
            → (is_among name written.scenario.groups ≡ true) ⊎ (is_among name written.scenario.groups ≡ false) → IsOrigin plan origin
        by_group name known from (inl here) =
            let is : origin ≡ Group (place name written.scenario.groups) = rw here at from in
            rw is (place_within (bytes_eq name) written.scenario.groups here)
        by_group name known from (inr away) =
            let there : is_among name written.sites ≡ true = rw (list_any-append (bytes_eq name) written.scenario.groups written.sites, away) at known in
            let is : origin ≡ Site (place name written.sites) = rw away at from in
            let among : In (Site (place name written.sites)) (origins_in written) = rw (← is) h in
            rw is (client_site (origins_in written) written.sites (place name written.sites) among (place_within (bytes_eq name) written.sites there))

        by_sender : (message : WrittenMessage) (sender : Option (List ℕ)) → message.sender ≡ sender → is_sent_from (places_of written) message ≡ true → origin ≡ origin_in written.sites written.scenario.groups message.sender → IsOrigin plan origin
        by_sender message None is known from =
            let bad : false ≡ true = rw is at known in
            absurd (false≢true bad)
        by_sender message (Some name) is known from =
            let named : is_among name (places_of written) ≡ true = rw is at known in
            let here : origin ≡ origin_in written.sites written.scenario.groups (Some name) = rw is at from in
            by_group name named here (cases_Bool (is_among name written.scenario.groups))

  pub made_plan : bundles_of tick written.scenario.links ≡ Ok bundles → 0 < length written.sites → IsTrue (all_differ (places_of written))
      → IsTrue (list_all (λ message. are_among message.to written.scenario.groups) written.scenario.messages) → IsTrue (list_all (is_sent_from (places_of written)) written.scenario.messages)
      → IsPlan plan
  made_plan ticks some differ addressed sent = record {
    bundles = bundles;
    ticks = ticks;
    most = refl;
    housed = length-map written.scenario.groups (housed_in written.sites written.homes);
    known = all_of_in (All (λ s. s < length written.sites)) (all_housed written) (λ sites h.
        let r = in_map_back (housed_in written.sites written.homes) sites written.scenario.groups h in
        rw r.2 (housed_below written.sites written.homes r.0 some));
    senders = all_sent written.sites written.scenario.groups written.scenario.messages sent;
    origins = all_of_in (IsOrigin plan) (origins_in written) (is_origin sent);
    differ = differ;
    clients = refl;
    addressed = addressed;
    goes = refl;
  }

-- a plan with these numbers
pub made_from : (written : WrittenPlan) (tick : Option ℕ) (unit : Option TimeUnit) (bundles : List Bundle) (deadlines : List (Option ℕ)) (scenario : WrittenScenario) (sites housed apart most : List (List ℕ)) (origins : List Origin) (goes : List (List ℕ)) (clients : List ℕ)
    → scenario ≡ written.scenario → sites ≡ written.sites → housed ≡ all_housed written → apart ≡ apart_in written → most ≡ most_table bundles written.sites → origins ≡ origins_in written → goes ≡ goes_in written
    → clients ≡ client_sites (origins_in written) written.sites
    → record {
      written = scenario;
      sites = sites;
      housed = housed;
      apart = apart;
      tick = tick;
      unit = unit;
      deadlines = deadlines;
      most = most;
      origins = origins;
      goes = goes;
      clients = clients;
    } ≡ plan_in written tick unit bundles deadlines
made_from written tick unit bundles deadlines scenario sites housed apart most origins goes clients s i h a m o g c = cc

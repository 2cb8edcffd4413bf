-- The scenarios of a plan have the same messages and the same target, wherever the groups are.
use Rattle.std.proofs.Common.{◌≡◌, ℕ, ℤ, pos, int_le, suc, Bool, true, false, cond, List, [], ◌∷◌, ◌++◌, length, map, Option, Some, None, Result, Ok, refl, sym, ap, ap₂, subst, ◌∙◌}
use Rattle.std.specs.Option.{is_some}
use Rattle.std.proofs.lemmas.List.{length-map}
use Rattle.convoy_draft.specs.declared.fault.Key.TheVariants.{Delay, Least}
use Rattle.convoy_draft.specs.declared.fault.ScenarioFault.{ScenarioFault}
use Rattle.convoy_draft.specs.Checks.{checks, judge}
use Rattle.convoy_draft.specs.Draft.{Draft, DraftLink, DraftMessage}
use Rattle.convoy_toml.specs.Results.{◌>>=◌}
use Rattle.convoy_scenario.specs.Numbering.{message_of, message_place, place, scenario_of, scenario_of_draft}
use Rattle.convoy_scenario.specs.Scenario.{Message, Scenario}
use Rattle.convoy_scenario.specs.ScenarioLaws.{DraftsGiveScenarios}
use Rattle.convoy_scenario.specs.WellFormed.{IsScenario}
use Rattle.convoy_scenario.proofs.GivenScenarios.{passed}
use Rattle.convoy_toml.specs.Links.{Bundle, links_of_bundles}
use Rattle.convoy_toml.specs.Reading.{need_ranges}
use Rattle.convoy_toml.specs.Shape.{WrittenMessage, WrittenScenario}
use Rattle.convoy_toml.specs.Times.{bundles_of, delay_or_greatest, draft_message_of, draft_messages_of, draft_of_written, need_least, tick_of, whole_if_written}
use Rattle.convoy_toml.specs.Ways.{link_along, ways_without_link, with_least}
use Rattle.convoy_toml.proofs.FinerDrafts.{after_ok, same_ok}
use Rattle.convoy_plans.specs.Placements.{groups_in, message_in, scenario_at, written_at}
use Rattle.convoy_plans.specs.Plans.{IsPlan, Plan}
use Rattle.convoy_best_order.specs.declared.wanted.Wanted.{Wanted}
use Rattle.convoy_best_order.specs.Targets.{targets_of}
use Rattle.convoy_best_plan.proofs.SameTicks.{same_tick}

-- ---- the draft of what is written, step by step
abbrev base_of : WrittenScenario → Option ℕ → Option ℤ → List DraftMessage → List Bundle → List DraftLink → Draft
base_of w tick written messages bundles links = record {
  time = w.time;
  tick = tick;
  delay = delay_or_greatest written bundles;
  groups = w.groups;
  places = w.places;
  links = links;
  messages = messages;
  target_message = w.target_message;
  target_group = w.target_group;
}

abbrev after_links : WrittenScenario → Option ℕ → Option ℤ → Option ℤ → List DraftMessage → List Bundle → List DraftLink → Result Draft ScenarioFault
after_links w tick written least messages bundles links =
    need_least w.time (delay_or_greatest written bundles) least >>= λ _. Ok (with_least least (base_of w tick written messages bundles links))

abbrev after_bundles : WrittenScenario → Option ℕ → Option ℤ → Option ℤ → List DraftMessage → List Bundle → Result Draft ScenarioFault
after_bundles w tick written least messages bundles = links_of_bundles bundles >>= after_links w tick written least messages bundles

abbrev after_messages : WrittenScenario → Option ℕ → Option ℤ → Option ℤ → List DraftMessage → Result Draft ScenarioFault
after_messages w tick written least messages = bundles_of tick w.links >>= after_bundles w tick written least messages

abbrev after_least : WrittenScenario → Option ℕ → Option ℤ → Option ℤ → Result Draft ScenarioFault
after_least w tick written least = draft_messages_of tick w.messages >>= after_messages w tick written least

abbrev after_delay : WrittenScenario → Option ℕ → Option ℤ → Result Draft ScenarioFault
after_delay w tick written = whole_if_written tick Least w.least >>= after_least w tick written

abbrev after_tick : WrittenScenario → Option ℕ → Result Draft ScenarioFault
after_tick w tick = whole_if_written tick Delay w.delay >>= after_delay w tick

-- the draft has these messages, and the rest as it is written
pub record IsDraftOf (w : WrittenScenario) (messages : List DraftMessage) (draft : Draft) : Type 0 where
  pub groups : draft.groups ≡ w.groups
  pub places : draft.places ≡ w.places
  pub has : draft.messages ≡ messages
  pub target_message : draft.target_message ≡ w.target_message
  pub target_group : draft.target_group ≡ w.target_group

-- a least delay changes links alone
keeps : (w : WrittenScenario) (base : Draft) (least : Option ℤ) → IsDraftOf w base.messages base → IsDraftOf w base.messages (with_least least base)
keeps w base None is = is
keeps w base (Some least) is = by_test (int_le least (pos 1)) (base.links ++ map (link_along least base.delay) (ways_without_link base)) where
  by_test : (b : Bool) (links : List DraftLink) → IsDraftOf w base.messages (cond b base (record base { links = links }))
  by_test true links = is
  by_test false links = record { groups = is.groups; places = is.places; has = is.has; target_message = is.target_message; target_group = is.target_group }

-- the steps, the last first
from_links : (w : WrittenScenario) (tick : Option ℕ) (written least : Option ℤ) (messages : List DraftMessage) (bundles : List Bundle) (links : List DraftLink) (draft : Draft)
    → after_links w tick written least messages bundles links ≡ Ok draft → IsDraftOf w messages draft
from_links w tick written least messages bundles links draft made =
    let last =
    after_ok (need_least w.time (delay_or_greatest written bundles) least) (λ _. Ok (with_least least (base_of w tick written messages bundles links))) draft made in
    subst (IsDraftOf w messages) {x = with_least least (base_of w tick written messages bundles links)}
    (same_ok (with_least least (base_of w tick written messages bundles links)) draft last.2)
    (keeps w (base_of w tick written messages bundles links) least (record { groups = refl; places = refl; has = refl; target_message = refl; target_group = refl }))

from_bundles : (w : WrittenScenario) (tick : Option ℕ) (written least : Option ℤ) (messages : List DraftMessage) (bundles : List Bundle) (draft : Draft)
    → after_bundles w tick written least messages bundles ≡ Ok draft → IsDraftOf w messages draft
from_bundles w tick written least messages bundles draft made =
    let links = after_ok (links_of_bundles bundles) (after_links w tick written least messages bundles) draft made in
    from_links w tick written least messages bundles links.0 draft links.2

from_messages : (w : WrittenScenario) (tick : Option ℕ) (written least : Option ℤ) (messages : List DraftMessage) (draft : Draft)
    → after_messages w tick written least messages ≡ Ok draft → IsDraftOf w messages draft
from_messages w tick written least messages draft made =
    let bundles = after_ok (bundles_of tick w.links) (after_bundles w tick written least messages) draft made in
    from_bundles w tick written least messages bundles.0 draft bundles.2

-- the draft has the messages that are written
abbrev IsDrafted : WrittenScenario → Option ℕ → Draft → Type 0
IsDrafted w tick draft = (messages : List DraftMessage) × (draft_messages_of tick w.messages ≡ Ok messages) × IsDraftOf w messages draft

from_least : (w : WrittenScenario) (tick : Option ℕ) (written least : Option ℤ) (draft : Draft) → after_least w tick written least ≡ Ok draft → IsDrafted w tick draft
from_least w tick written least draft made =
    let messages = after_ok (draft_messages_of tick w.messages) (after_messages w tick written least) draft made in
    (messages.0, messages.1, from_messages w tick written least messages.0 draft messages.2)

from_delay : (w : WrittenScenario) (tick : Option ℕ) (written : Option ℤ) (draft : Draft) → after_delay w tick written ≡ Ok draft → IsDrafted w tick draft
from_delay w tick written draft made =
    let least = after_ok (whole_if_written tick Least w.least) (after_least w tick written) draft made in
    from_least w tick written least.0 draft least.2

drafted : (w : WrittenScenario) (tick : Option ℕ) (draft : Draft) → after_tick w tick ≡ Ok draft → IsDrafted w tick draft
drafted w tick draft made =
    let delay = after_ok (whole_if_written tick Delay w.delay) (after_delay w tick) draft made in
    from_delay w tick delay.0 draft delay.2

-- ---- the scenario of a placement
-- the scenario has these messages of the plan
pub record IsMade (plan : Plan) (tick : Option ℕ) (scenario : Scenario) (messages : List DraftMessage) : Type 0 where
  pub is : draft_messages_of tick (map (message_in plan) plan.written.messages) ≡ Ok messages
  pub multicasts : scenario.multicasts ≡ map (message_of (groups_in plan) []) messages
  pub target_message : scenario.target_message ≡ message_place plan.written.target_message messages
  pub target_group : scenario.target_group ≡ place plan.written.target_group (groups_in plan)

abbrev ranged : WrittenScenario → Draft → Scenario → Result Scenario ScenarioFault
ranged w draft scenario = need_ranges (is_some w.least) draft >>= λ _. Ok scenario

-- the draft of a scenario that is made
module _ (plan : Plan) (placement : List ℕ) (scenario : Scenario) (made : scenario_at plan placement ≡ Ok scenario) where
  abbrev w : WrittenScenario
  w = written_at plan placement

  pub of_draft : (draft : Draft) × (draft_of_written w ≡ Ok draft) × (scenario_of_draft draft ≡ Ok scenario)
  of_draft =
      let draft = after_ok (draft_of_written w) (λ d. scenario_of_draft d >>= ranged w d) scenario made in
      let here = after_ok (scenario_of_draft draft.0) (ranged w draft.0) scenario draft.2 in
      let last = after_ok (need_ranges (is_some w.least) draft.0) (λ _. Ok here.0) scenario here.2 in
      (draft.0, draft.1, here.1 ∙ last.2)

  pub well_made : DraftsGiveScenarios → IsScenario scenario
  well_made given = given of_draft.0 scenario of_draft.2

  -- the length of its ticks, if they have one
  pub of_tick : (tick : Option ℕ) × (tick_of w ≡ Ok tick) × (after_tick w tick ≡ Ok of_draft.0)
  of_tick = after_ok (tick_of w) (after_tick w) of_draft.0 of_draft.1

  pub is_made : (messages : List DraftMessage) × IsMade plan of_tick.0 scenario messages
  is_made =
      let parts = drafted w of_tick.0 of_draft.0 of_tick.2 in
      let is = (passed (judge (checks of_draft.0)) (scenario_of of_draft.0) scenario of_draft.2).1 in (
        parts.0,
        record {
          is = parts.1;
          multicasts = sym (ap (λ (s : Scenario). s.multicasts) is)
              ∙ ap (λ (ms : List DraftMessage). map (message_of of_draft.0.groups of_draft.0.places) ms) parts.2.has
              ∙ ap₂ (λ (groups places : List (List ℕ)). map (message_of groups places) parts.0) parts.2.groups parts.2.places;
          target_message = sym (ap (λ (s : Scenario). s.target_message) is) ∙ ap₂ message_place parts.2.target_message parts.2.has;
          target_group = sym (ap (λ (s : Scenario). s.target_group) is) ∙ ap₂ place parts.2.target_group parts.2.groups;
        },
      )

-- ---- two placements
-- the two have the same messages and the same target
pub record Agree (scenario other : Scenario) : Type 0 where
  pub multicasts : other.multicasts ≡ scenario.multicasts
  pub target_message : other.target_message ≡ scenario.target_message
  pub target_group : other.target_group ≡ scenario.target_group

pub agree : (plan : Plan) (first second : List ℕ) (scenario other : Scenario) → IsPlan plan
    → scenario_at plan first ≡ Ok scenario → scenario_at plan second ≡ Ok other → Agree scenario other
agree plan first second scenario other is_plan made other_made =
    let long = of_tick plan first scenario made in
    let as_long = of_tick plan second other other_made in
    let here = is_made plan first scenario made in
    let there = is_made plan second other other_made in
    let ticks : as_long.0 ≡ long.0 = same_tick plan second first as_long.0 long.0 is_plan as_long.1 long.1 in
    let same : there.0 ≡ here.0 =
    same_ok there.0 here.0 (sym there.1.is ∙ ap (λ (t : Option ℕ). draft_messages_of t (map (message_in plan) plan.written.messages)) ticks ∙ here.1.is) in
    record {
      multicasts = there.1.multicasts ∙ ap (map (message_of (groups_in plan) [])) same ∙ sym here.1.multicasts;
      target_message = there.1.target_message ∙ ap (message_place plan.written.target_message) same ∙ sym here.1.target_message;
      target_group = there.1.target_group ∙ sym here.1.target_group;
    }

-- they have the same targets
pub same_targets : (wanted : Wanted) (deadlines : List (Option ℕ)) (scenario other : Scenario) → Agree scenario other
    → targets_of wanted deadlines other ≡ targets_of wanted deadlines scenario
same_targets wanted deadlines scenario other is =
    ap (λ (ms : List Message). targets_of wanted deadlines (record other { multicasts = ms })) is.multicasts
    ∙ ap₂ (λ (m g : ℕ). targets_of wanted deadlines (record scenario { target_message = m; target_group = g })) is.target_message is.target_group

-- ---- as many messages as are written
as_many : (tick : Option ℕ) (messages : List WrittenMessage) (made : List DraftMessage) → draft_messages_of tick messages ≡ Ok made → length made ≡ length messages
as_many tick [] made e = ap length (sym (same_ok [] made e))
as_many tick (message ∷ messages) made e =
    let here = after_ok (draft_message_of tick message) (λ m. draft_messages_of tick messages >>= λ ms. Ok (m ∷ ms)) made e in
    let others = after_ok (draft_messages_of tick messages) (λ ms. Ok (here.0 ∷ ms)) made here.2 in
    ap length (sym (same_ok (here.0 ∷ others.0) made others.2)) ∙ ap suc (as_many tick messages others.0 others.1)

pub message_count : (plan : Plan) (placement : List ℕ) (scenario : Scenario) → scenario_at plan placement ≡ Ok scenario
    → length scenario.multicasts ≡ length plan.written.messages
message_count plan placement scenario made =
    let here = is_made plan placement scenario made in
    ap length here.1.multicasts ∙ length-map here.0 (message_of (groups_in plan) []) ∙ as_many (of_tick plan placement scenario made).0 (map (message_in plan) plan.written.messages) here.0 here.1.is
    ∙ length-map plan.written.messages (message_in plan)

-- What is made of a draft is a well-formed scenario, of which the target has the names of the draft.
use Rattle.std.proofs.Common.{◌≡◌, Bool, List, Result, Ok, Err, true, false, cond, get_or, refl, ap, sym, subst, ◌∙◌}
use Rattle.std.specs.Result.{result_and}
use Rattle.std.specs.Str.{bytes_eq}
use Rattle.std.proofs.lemmas.Bool.{cond-false}
use Rattle.std.proofs.lemmas.List.{get_or-map}
use Rattle.convoy_draft.specs.declared.fault.ScenarioFault.{ScenarioFault}
use Rattle.convoy_draft.specs.declared.fault.ScenarioFault.TheVariants.{OverLimit}
use Rattle.convoy_draft.specs.declared.fault.Limit.TheVariants.{Until}
use Rattle.convoy_draft.specs.Draft.{Draft, DraftMessage}
use Rattle.convoy_scenario.specs.Room.{has_room}
use Rattle.convoy_scenario.specs.ScenarioLaws.{IsNamedTarget}
use Rattle.convoy_scenario.specs.Scenario.{Message, Scenario, message_at, no_message}
use Rattle.convoy_scenario.specs.WellFormed.{IsScenario}
use Rattle.convoy_draft.specs.Checks.{checks, is_message, judge}
use Rattle.convoy_scenario.specs.Numbering.{message_of, message_place, scenario_of, scenario_of_draft, with_room}
use Rattle.convoy_scenario.proofs.NumberedAgain.{same_bytes}
use Rattle.convoy_scenario.proofs.NumberedLemmas.{all_hold, nothing, scenario_formed}
use Rattle.convoy_scenario.proofs.RoomLemmas.{room_told, with_room_is}
use Rattle.convoy_scenario.proofs.PlaceLemmas.{place_within, place_passes, name_at_place}

same_ok : {A : Type 0} (x y : A) → ◌≡◌ {A = Result A ScenarioFault} (Ok x) (Ok y) → x ≡ y
same_ok x y e = cc

-- a scenario is given only where its target has room
roomy : (made scenario : Scenario) → with_room made ≡ Ok scenario → (made ≡ scenario) × (has_room made ≡ true)
roomy made scenario e = by_room (has_room made) refl e where
  by_room : (b : Bool) → has_room made ≡ b → ◌≡◌ {A = Result Scenario ScenarioFault} (cond b (Ok made) (Err (OverLimit Until))) (Ok scenario)
      → (made ≡ scenario) × (has_room made ≡ true)
  by_room true is e = (same_ok made scenario e, is)
  by_room false is e = absurd cc

-- a draft of which no check has a fault, and in which the target has room, gives the scenario that it is with numbers
pub passed : (r : Result (Unit {0}) ScenarioFault) (made scenario : Scenario) → result_and r (with_room made) ≡ Ok scenario
    → (r ≡ Ok tt) × (made ≡ scenario) × (has_room made ≡ true)
passed (Ok u) made scenario e = let room = roomy made scenario e in (refl, room.0, room.1)
passed (Err fault) made scenario e = absurd cc

-- and only such a draft
pub given : (draft : Draft) → judge (checks draft) ≡ Ok tt → has_room (scenario_of draft) ≡ true → scenario_of_draft draft ≡ Ok (scenario_of draft)
given draft holds room = rw holds (with_room_is (scenario_of draft) room)

-- where the target has no room, that is the fault
pub refused : (draft : Draft) → judge (checks draft) ≡ Ok tt → has_room (scenario_of draft) ≡ false → scenario_of_draft draft ≡ Err (OverLimit Until)
refused draft holds none = rw holds (cond-false (has_room (scenario_of draft)) _ _ none)

-- the test of room, asked of what is made of a draft part by part
pub room_is : (made : Scenario) (draft : Draft) (lent : List Message) (room : Bool) → made ≡ scenario_of draft → lent ≡ made.multicasts
    → ((scenario : Scenario) → room ≡ has_room (record scenario { multicasts = lent; target_message = made.target_message }))
    → has_room (scenario_of draft) ≡ room
room_is made draft lent room is same told = sym (told made ∙ ap (λ (ms : List Message). has_room (record made { multicasts = ms })) same ∙ ap has_room is)

pub of_draft : (draft : Draft) (scenario : Scenario) → scenario_of_draft draft ≡ Ok scenario → IsScenario scenario
of_draft draft scenario e =
    let p = passed (judge (checks draft)) (scenario_of draft) scenario e in
    subst IsScenario p.1 (scenario_formed draft p.0 (room_told (scenario_of draft) p.2))

target_name : (draft : Draft) → is_message draft.target_message draft.messages ≡ true
    → (message_at (scenario_of draft) (message_place draft.target_message draft.messages)).name ≡ draft.target_message
target_name draft among =
    let by_name : DraftMessage → Bool = λ m. bytes_eq draft.target_message m.name in
    let t = message_place draft.target_message draft.messages in
    let within = place_within by_name draft.messages among in
    let stands : message_at (scenario_of draft) t ≡ message_of draft.groups draft.places (get_or draft.messages t nothing) = get_or-map (message_of draft.groups draft.places) draft.messages t nothing no_message within in
    ap (λ (m : Message). m.name) stands ∙ sym (same_bytes draft.target_message (get_or draft.messages t nothing).name (place_passes by_name draft.messages nothing among))

pub named_target : (draft : Draft) (scenario : Scenario) → scenario_of_draft draft ≡ Ok scenario → IsNamedTarget draft scenario
named_target draft scenario e =
    let p = passed (judge (checks draft)) (scenario_of draft) scenario e in
    let references = (all_hold (checks draft) p.0).1.1.1.1.1.1.1.1.1.1.1.1.1.1.1 in
    subst (IsNamedTarget draft) p.1 (record {
      message = target_name draft references.1.1.1.1.1.0;
      group = name_at_place draft.target_group draft.groups references.1.0;
    })

-- What is read is a workflow.
use Rattle.std.proofs.Common.{All, ◌≡◌, ◌⊎◌, ℕ, ◌+◌, ◌*◌, ◌<◌, ◌≤◌, ◌==◌, ◌||◌, zero, suc, pos, Bool, true, false, not, cond, nat_le, nat_lt, is_some, List, [], ◌∷◌, length, map, Option, Some, None, is_none, position, unwrap_or, ok_or, Result, Ok, Err, IfOk, inl, inr, refl, sym, ap, subst, ◌∙◌, arith}
use Rattle.std.specs.List.{list_all}
use Rattle.std.specs.Option.{option_map_or}
use Rattle.std.specs.Result.{result_and}
use Rattle.std.specs.Str.{bytes_eq}
use Rattle.std.proofs.lemmas.Bool.{and_parts, eqb-true, false≢true, lt-ltb, ltb-true, or_cases}
use Rattle.convoy_lines.specs.Results.{◌>>=◌}
use Rattle.convoy_draft.specs.declared.fault.ScenarioFault.{ScenarioFault}
use Rattle.convoy_draft.specs.declared.fault.ScenarioFault.TheVariants.{Memory}
use Rattle.convoy_scenario.specs.Memory.{IsUnlessMemory}
use Rattle.convoy_workflows.specs.declared.workflow.Workflow.{Workflow}
use Rattle.convoy_draft.specs.declared.limits.TheConstants.{GREATEST_AT, GREATEST_UNTIL}
use Rattle.convoy_draft.specs.Checks as draft_rules
use Rattle.convoy_draft.specs.Checks.{is_within, ticks}
use Rattle.convoy_draft.specs.Draft.{Draft}
use Rattle.convoy_scenario.specs.Numbering.{delay_of_draft, message_of, scenario_of, scenario_of_draft, with_room}
use Rattle.convoy_scenario.specs.Room.{has_room}
use Rattle.convoy_scenario.specs.Scenario.{GoesTo, Message, Scenario, is_addressed, may_wait, message_at}
use Rattle.convoy_scenario.specs.WellFormed.{IsScenario}
use Rattle.convoy_scenario.proofs.NumberLemmas.{numbers_have}
use Rattle.convoy_scenario.proofs.NumberedLemmas.{Passes, passes, scenario_formed}
use Rattle.convoy_scenario.proofs.RoomLemmas.{room_decided}
use Rattle.convoy_scenario.proofs.WidenedLemmas.{widened_formed}
use Rattle.convoy_sim.proofs.Membership.{IsIn, in_of_find, in_of_map}
use Rattle.convoy_toml.specs.declared.asked.Asked.{Asked}
use Rattle.convoy_toml.specs.Deadlines.{deadlines_of_written}
use Rattle.convoy_toml.specs.Reading.{need_ranges, table_of_text}
use Rattle.convoy_toml.specs.Shape.{WrittenMessage}
use Rattle.convoy_toml.specs.Times.{draft_of_written}
use Rattle.convoy_causes.specs.declared.cause.Cause.{Cause}
use Rattle.convoy_causes.specs.Causes.{AreCauses, IsCause}
use Rattle.convoy_causes.specs.CauseWindows.{has_room_from, may_be_origin}
use Rattle.convoy_causes.proofs.MovedCauses.{targets_have_room}
use Rattle.convoy_workflow_words.specs.declared.fault.WorkflowFault.{WorkflowFault}
use Rattle.convoy_workflow_words.specs.declared.fault.WorkflowFault.TheVariants.{Scenario as of_a_scenario, UnknownOrigin}
use Rattle.convoy_workflows.specs.declared.limits.TheConstants.{GREATEST_OFFSET}
use Rattle.convoy_workflows.specs.Origins.{checked_origin, does_follow, origin_of}
use Rattle.convoy_workflows.specs.Reading.{need_own_windows, scenario_with_ranges, workflow_of_table, view_of, workflow_of_text, workflow_of_written, workflow_read}
use Rattle.convoy_workflows.specs.Rules.{DraftCause, cause_of, checked_causes, checks, comes_to, draft_causes, draft_message_at, group_of_event, has_offsets, judge}
use Rattle.convoy_workflows.specs.Shape.{WrittenCause, WrittenWorkflow, of_scenario, written_of_table}
use Rattle.convoy_workflows.specs.Windows.{Window, in_windows, message_within, span, window_after}
use Rattle.convoy_workflows.specs.Workflows.{IsInWindow, IsWorkflow, WorkflowView}
use Rattle.convoy_workflows.proofs.Drafted.{drafted, drafted_before, drafted_found, drafted_from, passed}
use Rattle.convoy_workflows.proofs.Places.{place_of_event}
use Rattle.convoy_workflows.proofs.Windowed.{last_of, length-numbered, numbered_at, ticks_kept, window, window_stays, windowed_passes}

-- ---- steps of a reading
bind_ok : {A B E : Type 0} (r : Result A E) (f : A → Result B E) (y : B) → (r >>= f) ≡ Ok y → (x : A) × (r ≡ Ok x) × (f x ≡ Ok y)
bind_ok (Ok x) f y h = (x, refl, h)
bind_ok (Err fault) f y h = cc

of_scenario_ok : {A : Type 0} (r : Result A ScenarioFault) (x : A) → of_scenario r ≡ Ok x → r ≡ Ok x
of_scenario_ok (Ok y) x h = cc
of_scenario_ok (Err fault) x h = cc

judged : {A : Type 0} (r : Result (Unit {0}) ScenarioFault) (other : Result A ScenarioFault) (x : A) → result_and r other ≡ Ok x → (r ≡ Ok tt) × (other ≡ Ok x)
judged (Ok tt) other x h = (refl, h)
judged (Err fault) other x h = cc

if_ok : {A E : Type 0} (b : Bool) (then_ : Result A E) (fault : E) (x : A) → cond b then_ (Err fault) ≡ Ok x → (b ≡ true) × (then_ ≡ Ok x)
if_ok true then_ fault x h = (refl, h)
if_ok false then_ fault x h = cc

same_ok : {A E : Type 0} (x y : A) → (let one : Result A E = Ok x in one) ≡ Ok y → x ≡ y
same_ok x y h = cc

same_pos : (a b : ℕ) → pos a ≡ pos b → a ≡ b
same_pos a b h = cc

soon_from : (effect message first least : ℕ) → effect ≡ first + least → message ≡ first → effect ≤ message + least
soon_from effect message first least e m = omega arith

late_from : (at wait last effect_at effect_wait effect_last so_long most : ℕ) → at + wait ≡ last → effect_at + effect_wait ≡ effect_last → effect_last ≡ last + so_long + most
    → at + wait + so_long + most ≤ effect_at + effect_wait
late_from at wait last effect_at effect_wait effect_last so_long most m e l = omega arith

rule_holds : (u : Unit {0}) {r : Result (Unit {0}) WorkflowFault} → r ≡ Ok u → r ≡ Ok tt
rule_holds tt h = h

-- ---- the rules for what messages follow
pub record Keeps (draft : Draft) (causes : List DraftCause) : Type 0 where
  pub follow : list_all (λ cause. is_some cause.message) causes ≡ true
  pub at_sender : list_all (λ cause. cause.at_sender) causes ≡ true
  pub offsets : list_all has_offsets causes ≡ true

keeps : (draft : Draft) (causes : List DraftCause) → judge (checks draft causes) ≡ Ok tt → Keeps draft causes
keeps draft causes h =
    let a = if_ok _ _ _ tt h in
    let b = if_ok _ _ _ tt a.1 in
    let c = if_ok _ _ _ tt b.1 in
    let d = if_ok _ _ _ tt c.1 in
    record { follow = b.0; at_sender = c.0; offsets = d.0 }

all_from_in : {X : Type 0} (P : X → Type 0) (xs : List X) → ((x : X) → IsIn x xs → P x) → All P xs
all_from_in P [] h k past within = absurd (omega arith)
all_from_in P (x ∷ xs) h zero past within = h x (inl refl)
all_from_in P (x ∷ xs) h (suc k) past within = all_from_in P xs (λ y i. h y (inr i)) k past (omega arith)

module _ (draft : Draft) (written : List (Option WrittenCause)) where
  abbrev causes : List DraftCause
  causes = draft_causes draft written

  abbrev placed : Draft
  placed = in_windows causes draft

  module _ (keep : Keeps draft causes) (pass : Passes placed) where
    -- a message that follows stands after the one that it follows, and both are messages
    before : (c : DraftCause) → IsIn c causes → unwrap_or c.message 0 < c.effect
    before c i = drafted_before draft written c i (passed (λ cause. is_some cause.message) c causes i keep.follow)

    -- it has the window after that
    follows : (c : DraftCause) → IsIn c causes → window draft causes c.effect ≡ window_after (delay_of_draft draft) c (window draft causes (unwrap_or c.message 0))
    follows c i =
        rw (drafted_found draft written c i)
        (ap (window_after (delay_of_draft draft) c) (window_stays draft causes c.effect (unwrap_or c.message 0) (pos 0, pos 0) (before c i)))

    abbrev at_message : DraftCause → ℕ
    at_message c = unwrap_or c.message 0

    effect_less : (c : DraftCause) → IsIn c causes → c.effect < length draft.messages
    effect_less c i = (drafted draft written c i).below

    message_less : (c : DraftCause) → IsIn c causes → at_message c < length draft.messages
    message_less c i = let less = effect_less c i in let first = before c i in omega (arith, less, first)

    -- the message that is followed goes to the group of the event
    goes : (c : DraftCause) → IsIn c causes → GoesTo (scenario_of placed) (at_message c) c.group
    goes c i =
        let d = drafted draft written c i in
        let x : ℕ = at_message c in
        let less : x < length draft.messages = message_less c i in
        let sender : Option (List ℕ) = (draft_message_at draft.messages c.effect).sender in
        let to : ℕ → List (List ℕ) = λ k. (draft_message_at draft.messages k).to in
        let same : unwrap_or c.message 0 ≡ unwrap_or (drafted_from draft written c.effect d.cause).message 0 = ap (λ (e : DraftCause). unwrap_or e.message 0) d.is in
        let comes : comes_to d.cause.event (to x) sender ≡ true =
        ap (λ (k : ℕ). comes_to d.cause.event (to k) sender) same
        ∙ sym (ap (λ (e : DraftCause). e.at_sender) d.is)
        ∙ passed (λ cause. cause.at_sender) c causes i keep.at_sender in
        let group : c.group ≡ group_of_event d.cause.event draft.groups (to x) sender =
        ap (λ (e : DraftCause). e.group) d.is
        ∙ ap (λ (k : ℕ). group_of_event d.cause.event draft.groups (to k) sender) (sym same) in
        let known = (and_parts (draft_rules.is_known_sender draft.groups draft.places (draft_message_at draft.messages x).sender) (list_all (λ name. draft_rules.is_among name draft.groups) (to x))
        (windowed_passes draft causes (draft_rules.knows draft.groups draft.places) x less pass.known)).1 in
        let some = windowed_passes draft causes (λ m. nat_le 1 (length m.to)) x less pass.somewhere in
        let place = place_of_event d.cause.event draft.groups (to x) sender comes known some in
        ap (λ (m : Message). is_addressed m c.group) (numbered_at draft causes x less)
        ∙ ap (λ (g : ℕ). is_addressed (message_of draft.groups draft.places (message_within (window draft causes x) (draft_message_at draft.messages x))) g) group
        ∙ numbers_have draft.groups (to x) (group_of_event d.cause.event draft.groups (to x) sender) place.known place.among

    is_cause : (c : DraftCause) → IsIn c causes → IsCause (scenario_of placed) (cause_of c)
    is_cause c i =
        let many = length-numbered draft causes in
        let less = effect_less c i in
        let first = message_less c i in
        record {
          effect = omega (arith, many, less);
          message = omega (arith, many, first);
          addressed = goes c i;
        }

    -- the first and the last tick of a message's window in the scenario
    record IsWindow (m : ℕ) : Type 0 where
      soon : is_within 0 GREATEST_AT (window draft causes m).0 ≡ true
      first : (message_at (scenario_of placed) m).at ≡ ticks GREATEST_AT (window draft causes m).0
      last : (message_at (scenario_of placed) m).at + (message_at (scenario_of placed) m).longest_wait ≡ ticks GREATEST_UNTIL (window draft causes m).1
      written_last : pos (ticks GREATEST_UNTIL (window draft causes m).1) ≡ (window draft causes m).1

    is_window : (m : ℕ) → m < length draft.messages → IsWindow m
    is_window m less =
        let is = numbered_at draft causes m less in
        let soon = windowed_passes draft causes (λ message. is_within 0 GREATEST_AT message.at) m less pass.at in
        let wait = windowed_passes draft causes draft_rules.has_wait m less pass.waits in
        let ends = last_of (window draft causes m).0 (window draft causes m).1 soon wait in
        record {
          soon = soon;
          first = ap (λ (message : Message). message.at) is;
          last = ap (λ (message : Message). message.at + message.longest_wait) is ∙ ends.0;
          written_last = ends.1;
        }

    -- a message that follows has the window that it may need
    is_in_window : (c : DraftCause) → IsIn c causes → IsInWindow (scenario_of placed) (cause_of c)
    is_in_window c i =
        let x : ℕ = at_message c in
        let of_effect = is_window c.effect (effect_less c i) in
        let of_message = is_window x (message_less c i) in
        let after = follows c i in
        let soonest : ℕ = ticks GREATEST_AT (window draft causes x).0 + ticks GREATEST_OFFSET c.least in
        let latest : ℕ = ticks GREATEST_UNTIL (window draft causes x).1 + span c.event * delay_of_draft draft + ticks GREATEST_OFFSET c.most in
        let first : (window draft causes c.effect).0 ≡ pos soonest = ap (λ (w : Window). w.0) after in
        let last : (window draft causes c.effect).1 ≡ pos latest = ap (λ (w : Window). w.1) after in
        let first_tick : (message_at (scenario_of placed) c.effect).at ≡ soonest =
        of_effect.first ∙ ap (ticks GREATEST_AT) first ∙ ticks_kept GREATEST_AT soonest (sym (ap (is_within 0 GREATEST_AT) first) ∙ of_effect.soon) in
        let last_tick : ticks GREATEST_UNTIL (window draft causes c.effect).1 ≡ latest = same_pos _ _ (of_effect.written_last ∙ last) in
        record {
          soon = soon_from _ _ _ _ first_tick of_message.first;
          late = late_from _ _ _ _ _ _ (span c.event * delay_of_draft draft) (ticks GREATEST_OFFSET c.most) of_message.last of_effect.last last_tick;
        }

    -- ---- from which issue the time counts
    abbrev numbered : List Cause
    numbered = map cause_of causes

    all_numbered : (P : Cause → Type 0) → ((c : DraftCause) → IsIn c causes → P (cause_of c)) → All P numbered
    all_numbered P h = all_from_in P numbered (λ cause i. let from = in_of_map cause_of cause causes i in subst P from.2 (h from.0 from.1))

    all_causes : AreCauses (scenario_of placed) numbered
    all_causes = all_numbered (IsCause (scenario_of placed)) is_cause

    record IsOrigin (x : ℕ) : Type 0 where
      known : x < length (scenario_of placed).multicasts
      room : has_room_from (scenario_of placed) x ≡ true

    is_origin : IsScenario (scenario_of placed) → (messages : List WrittenMessage) (name : Option (List ℕ)) (x : ℕ) → origin_of (scenario_of placed) numbered messages name ≡ Ok x → IsOrigin x
    is_origin formed messages None x h =
        let same = same_ok (scenario_of placed).target_message x h in
        record {
          known = subst (λ (k : ℕ). k < length (scenario_of placed).multicasts) same formed.target;
          room = subst (λ (k : ℕ). has_room_from (scenario_of placed) k ≡ true) same (targets_have_room widened_formed room_decided (scenario_of placed) formed);
        }
    is_origin formed messages (Some name) x h =
        let named = bind_ok (ok_or (position (λ message. bytes_eq name message.name) messages) UnknownOrigin) (checked_origin (scenario_of placed) numbered) x h in
        let follow = if_ok (does_follow numbered named.0 (scenario_of placed).target_message) _ _ x named.2 in
        let issue = if_ok (may_be_origin (scenario_of placed) named.0) _ _ x follow.1 in
        let same : named.0 ≡ x = same_ok named.0 x issue.1 in
        let parts = and_parts (nat_lt named.0 (length (scenario_of placed).multicasts)) (has_room_from (scenario_of placed) named.0) issue.0 in
        record {
          known = subst (λ (k : ℕ). k < length (scenario_of placed).multicasts) same (ltb-true named.0 (length (scenario_of placed).multicasts) parts.0);
          room = subst (λ (k : ℕ). has_room_from (scenario_of placed) k ≡ true) same parts.1;
        }

  -- what keeps the rules is a workflow
  formed : (has_least : Bool) (messages : List WrittenMessage) (name : Option (List ℕ)) (scenario : Scenario) (x : ℕ) → judge (checks draft causes) ≡ Ok tt → scenario_with_ranges has_least placed ≡ Ok scenario
      → origin_of scenario (map cause_of causes) messages name ≡ Ok x → IsWorkflow (record { scenario = scenario; causes = map cause_of causes; origin = x })
  formed has_least messages name scenario x rules made found =
      let keep = keeps draft causes rules in
      let drawn = bind_ok (scenario_of_draft placed) _ scenario made in
      let ranged = bind_ok (need_ranges has_least placed) _ scenario drawn.2 in
      let parts = judged (draft_rules.judge (draft_rules.checks placed)) (with_room (scenario_of placed)) drawn.0 drawn.1 in
      let room = if_ok (has_room (scenario_of placed)) _ _ drawn.0 parts.1 in
      let same : scenario_of placed ≡ scenario = same_ok (scenario_of placed) drawn.0 room.1 ∙ same_ok drawn.0 scenario ranged.2 in
      let pass = passes placed parts.0 in
      let well : IsScenario (scenario_of placed) = scenario_formed placed parts.0 ((room_decided (scenario_of placed)).0 room.0) in
      let origin = is_origin keep pass well messages name x (subst (λ (s : Scenario). origin_of s (map cause_of causes) messages name ≡ Ok x) (sym same) found) in
      subst (λ (s : Scenario). IsWorkflow (record { scenario = s; causes = map cause_of causes; origin = x })) same
      (record {
        scenario = well;
        causes = all_causes keep pass;
        in_order = all_numbered keep pass (λ cause. cause.message < cause.effect) (before keep pass);
        in_windows = all_numbered keep pass (IsInWindow (scenario_of placed)) (is_in_window keep pass);
        known = origin.known;
        room = origin.room;
      })

-- ---- what a text gives
written_lawful : (asked : Asked) (written : WrittenWorkflow) (workflow : WorkflowView) → workflow_of_written asked written ≡ Ok workflow → IsWorkflow workflow
written_lawful asked written workflow h =
    let around = bind_ok (need_own_windows asked.around) _ workflow h in
    let drafted = bind_ok (of_scenario (draft_of_written written.scenario)) _ workflow around.2 in
    let followed = bind_ok (checked_causes drafted.0 written.causes) _ workflow drafted.2 in
    let ruled = bind_ok (judge (checks drafted.0 (draft_causes drafted.0 written.causes))) _ followed.0 followed.1 in
    let same : draft_causes drafted.0 written.causes ≡ followed.0 = same_ok _ followed.0 ruled.2 in
    let made = bind_ok (of_scenario (scenario_with_ranges (is_some written.scenario.least) (in_windows followed.0 drafted.0))) _ workflow followed.2 in
    let due = bind_ok (of_scenario (deadlines_of_written asked.at_most written.scenario)) _ workflow made.2 in
    let found = bind_ok (origin_of made.0 (map cause_of followed.0) written.scenario.messages written.origin) _ workflow due.2 in
    let scenario = subst (λ (cs : List DraftCause). scenario_with_ranges (is_some written.scenario.least) (in_windows cs drafted.0) ≡ Ok made.0) (sym same) (of_scenario_ok _ made.0 made.1) in
    let origin = subst (λ (cs : List DraftCause). origin_of made.0 (map cause_of cs) written.scenario.messages written.origin ≡ Ok found.0) (sym same) found.1 in
    subst IsWorkflow (same_ok _ workflow found.2)
    (subst (λ (cs : List DraftCause). IsWorkflow (record { scenario = made.0; causes = map cause_of cs; origin = found.0 })) same
    (formed drafted.0 written.causes (is_some written.scenario.least) written.scenario.messages written.origin made.0 found.0 (rule_holds _ ruled.1) scenario origin))

pub text_lawful : (asked : Asked) (text : List ℕ) (workflow : WorkflowView) → workflow_of_text asked text ≡ Ok workflow → IsWorkflow workflow
text_lawful asked text workflow h =
    let table = bind_ok (of_scenario (table_of_text text)) (workflow_of_table asked) workflow h in
    let written = bind_ok (written_of_table asked.target table.0) (workflow_of_written asked) workflow table.2 in
    written_lawful asked written.0 workflow written.2

-- and what is read
pub lawful_read : (asked : Asked) (text : List ℕ) (result : Result Workflow WorkflowFault) → IsUnlessMemory (of_a_scenario Memory) (workflow_of_text asked text) (workflow_read result) → IfOk result (λ read. IsWorkflow (view_of read))
lawful_read asked text (Ok read) (inl same) = text_lawful asked text (view_of read) (sym same)
lawful_read asked text (Ok read) (inr memory) = cc
lawful_read asked text (Err fault) h = tt

-- The lines of a scenario give with what is kept of them what they give whole.
use Rattle.std.proofs.Common.{◌≡◌, ◌⊎◌, ℕ, ◌≤◌, nat_le, ◌&&◌, Bool, true, false, cond, List, [], ◌∷◌, length, map, take, Option, Some, None, ok_or, option_map, Result, Ok, Err, refl, ap, sym, ◌∙◌, arith, inl, inr, codes, leb-true}
use Rattle.std.specs.List.{list_all}
use Rattle.std.proofs.lemmas.Bool.{and_parts, and_from, cases_Bool, cases_lt, le-leb, false≢true, false_from_ne_true}
use Rattle.std.proofs.lemmas.List.{take_all, length-map, length-take-le}
use Rattle.convoy_draft.specs.declared.fault.ScenarioFault.{ScenarioFault}
use Rattle.convoy_draft.specs.declared.limits.TheConstants.{MOST_GROUPS, MOST_MULTICASTS, MOST_PLACES}
use Rattle.convoy_scenario_lines.specs.declared.line_fault.Expected.TheVariants.{Delay, Groups, Places, Link, Multicast, Target}
use Rattle.convoy_scenario_lines.specs.declared.line_fault.LineFault.{LineFault}
use Rattle.convoy_scenario_lines.specs.declared.line_fault.LineFault.TheVariants as faults
use Rattle.convoy_scenario_lines.specs.declared.version.Version.{Version}
use Rattle.convoy_lines.specs.Labels.{number_in}
use Rattle.convoy_lines.specs.Places.{Place, line_at, past_line, upcoming}
use Rattle.convoy_lines.specs.Results.{◌>>=◌}
use Rattle.convoy_draft.specs.Checks.{Check, is_count, all_differ, is_message, messages_differ, knows, is_target_addressed, checks, judge}
use Rattle.convoy_draft.specs.declared.time.Time.{Time}
use Rattle.convoy_draft.specs.Draft.{Draft, DraftLink, DraftMessage}
use Rattle.convoy_scenario.proofs.NumberedLemmas.{all_hold}
use Rattle.convoy_scenario_lines.specs.Keeping.{kept_names, kept_message, kept_names_in, kept_places_at, kept_multicast_in, kept_messages_at, kept_scenario_at}
use Rattle.convoy_scenario_lines.specs.LineForms.{groups_in, places_in, multicast_in, target_in}
use Rattle.convoy_scenario_lines.specs.LineReading.{form_at, time_at, tick_at, is_places_due, places_at, links_at, messages_at, draft_of, told, first_misplaced_link, first_unordered, where_ordered, scenario_at}
use Rattle.convoy_scenario.specs.Numbering.{scenario_of_draft}
use Rattle.convoy_scenario.specs.Scenario.{Scenario}
use Rattle.convoy_scenario_lines.proofs.KeptNames.{knows_kept, differ_kept, kept_same, some_kept}

-- ---- the checks

-- a draft with what is kept of its messages, where these are the groups and the places that are kept
abbrev kept_by : List (List ℕ) → List (List ℕ) → Draft → Draft
kept_by groups places draft = record {
  time = draft.time;
  tick = draft.tick;
  delay = draft.delay;
  groups = groups;
  places = places;
  links = draft.links;
  messages = map (kept_message groups) draft.messages;
  target_message = draft.target_message;
  target_group = draft.target_group;
}

abbrev kept_draft : Draft → Draft
kept_draft draft = kept_by (kept_names draft.groups) (kept_names draft.places) draft

-- each rule holds where the other does, and has its fault, as long as the rules before them hold
abbrev Alike : List Check → List Check → Type 0
Alike [] [] = Unit {0}
Alike (b ∷ bs) (c ∷ cs) = (b.0 ≡ c.0) × (b.1 ≡ c.1) × (c.0 ≡ true → Alike bs cs)
Alike [] (c ∷ cs) = ⊥
Alike (b ∷ bs) [] = ⊥

next_same : (b c : Bool) (f g : ScenarioFault) (x y : Result (Unit {0}) ScenarioFault) → b ≡ c → f ≡ g → (c ≡ true → x ≡ y) → cond b x (Err f) ≡ cond c y (Err g)
next_same b true f g x y e same-fault same = rw e (same refl)
next_same b false f g x y e same-fault same = rw e (ap (λ (fault : ScenarioFault). Err fault) same-fault)

same_judged : (bs cs : List Check) → Alike bs cs → judge bs ≡ judge cs
same_judged [] [] alike = refl
same_judged (b ∷ bs) (c ∷ cs) alike = next_same b.0 c.0 b.1 c.1 (judge bs) (judge cs) alike.0 alike.1 (λ holds. same_judged bs cs (alike.2 holds))
same_judged [] (c ∷ cs) alike = absurd alike
same_judged (b ∷ bs) [] alike = absurd alike

all_same : (p q : DraftMessage → Bool) (f : DraftMessage → DraftMessage) (ms : List DraftMessage) → ((m : DraftMessage) → p (f m) ≡ q m) → list_all p (map f ms) ≡ list_all q ms
all_same p q f [] same = refl
all_same p q f (m ∷ ms) same = rw (same m, all_same p q f ms same) refl

all_same_where : (r p q : DraftMessage → Bool) (f : DraftMessage → DraftMessage) (ms : List DraftMessage) → list_all r ms ≡ true → ((m : DraftMessage) → r m ≡ true → p (f m) ≡ q m) → list_all p (map f ms) ≡ list_all q ms
all_same_where r p q f [] holds same = refl
all_same_where r p q f (m ∷ ms) holds same =
    let parts = and_parts (r m) (list_all r ms) holds in
    rw (same m parts.0, all_same_where r p q f ms parts.1 same) refl

named_same : (groups : List (List ℕ)) (name : List ℕ) (ms : List DraftMessage) → is_message name (map (kept_message groups) ms) ≡ is_message name ms
named_same groups name [] = refl
named_same groups name (m ∷ ms) = rw (named_same groups name ms) refl

differ_same : (groups : List (List ℕ)) (ms : List DraftMessage) → messages_differ (map (kept_message groups) ms) ≡ messages_differ ms
differ_same groups [] = refl
differ_same groups (m ∷ ms) = rw (named_same groups m.name ms, differ_same groups ms) refl

-- all that is known and differs is kept
whole : (groups places : List (List ℕ)) (ms : List DraftMessage) → length groups ≤ 8 → list_all (knows groups places) ms ≡ true → list_all (λ m. all_differ m.to) ms ≡ true → map (kept_message groups) ms ≡ ms
whole groups places [] few known differ = refl
whole groups places (m ∷ ms) few known differ =
    let a = and_parts (knows groups places m) (list_all (knows groups places) ms) known in
    let b = and_parts (all_differ m.to) (list_all (λ x. all_differ x.to) ms) differ in
    let first = kept_same groups places m few a.0 b.0 in
    let rest = whole groups places ms few a.1 b.1 in
    ap (λ x. x ∷ map (kept_message groups) ms) first ∙ ap (λ xs. m ∷ xs) rest

abbrev with_messages : Draft → List DraftMessage → Draft
with_messages draft ms = record { time = draft.time; tick = draft.tick; delay = draft.delay; groups = draft.groups; places = draft.places; links = draft.links; messages = ms; target_message = draft.target_message; target_group = draft.target_group }

alike_few : (draft : Draft) → length draft.groups ≤ 8 → Alike (checks (kept_by draft.groups draft.places draft)) (checks draft)
alike_few draft few =
    let keep = kept_message draft.groups in (
      refl,
      refl,
      λ delay. (
        refl,
        refl,
        λ groups. (
          refl,
          refl,
          λ places. (
            ap (λ n. nat_le 1 n && nat_le n MOST_MULTICASTS) (length-map draft.messages keep),
            refl,
            λ count. (
              all_same _ _ keep draft.messages (λ m. refl),
              refl,
              λ at. (
                all_same _ _ keep draft.messages (λ m. refl),
                refl,
                λ until. (
                  refl,
                  refl,
                  λ ranges. (
                    refl,
                    refl,
                    λ tick. (
                      refl,
                      refl,
                      λ group_names. (
                        refl,
                        refl,
                        λ place_names. (
                          all_same _ _ keep draft.messages (λ m. refl),
                          refl,
                          λ message_names. (
                            refl,
                            refl,
                            λ groups_differ. (
                              refl,
                              refl,
                              λ places_differ. (
                                differ_same draft.groups draft.messages,
                                refl,
                                λ messages_differ. (
                                  refl,
                                  refl,
                                  λ links_differ. (
                                    all_same _ _ keep draft.messages (knows_kept draft.groups draft.places),
                                    refl,
                                    λ known. (
                                      refl,
                                      refl,
                                      λ target_group. (
                                        refl,
                                        refl,
                                        λ ends. (
                                          all_same _ _ keep draft.messages (λ m. some_kept draft.groups m.to),
                                          refl,
                                          λ somewhere. (
                                            all_same_where (knows draft.groups draft.places) _ _ keep draft.messages known (λ m. differ_kept draft.groups draft.places m few),
                                            refl,
                                            λ differ.
                                                let same = whole draft.groups draft.places draft.messages few known differ in (
                                                  ap (is_message draft.target_message) same,
                                                  refl,
                                                  λ target. (
                                                    ap (λ ms. is_target_addressed (with_messages draft ms)) same,
                                                    refl,
                                                    λ addressed. tt,
                                                  ),
                                                ),
                                          ),
                                        ),
                                      ),
                                    ),
                                  ),
                                ),
                              ),
                            ),
                          ),
                        ),
                      ),
                    ),
                  ),
                ),
              ),
            ),
          ),
        ),
      ),
    )

-- as many are too many
long_kept : (names : List (List ℕ)) → nat_le (length (kept_names names)) 8 ≡ nat_le (length names) 8
long_kept names =
    elim (cases_lt 9 (length names)) [
      | inl long ↦
          let nine : length (take 9 names) ≡ 9 = length-take-le 9 names (omega arith) in
          let front : nat_le (length (kept_names names)) 8 ≡ false = rw nine refl in
          let over : nat_le (length names) 8 ≡ false = false_from_ne_true (nat_le (length names) 8) (λ e. let most = leb-true (length names) 8 e in absurd (omega arith)) in
          front ∙ sym over
      | inr short ↦ ap (λ (kept : List (List ℕ)). nat_le (length kept) 8) (take_all 9 names short)
    ]

-- and none are kept of none alone
some_of_kept : (names : List (List ℕ)) → nat_le 1 (length (kept_names names)) ≡ nat_le 1 (length names)
some_of_kept [] = refl
some_of_kept (name ∷ names) = le-leb 1 (length (take 9 (name ∷ names))) (omega arith) ∙ sym (le-leb 1 (length (name ∷ names)) (omega arith))

many_kept : (groups : List (List ℕ)) → is_count MOST_GROUPS (kept_names groups) ≡ is_count MOST_GROUPS groups
many_kept groups = rw (some_of_kept groups, long_kept groups) refl

-- few names are all kept
few_kept : (names : List (List ℕ)) → nat_le (length names) 8 ≡ true → kept_names names ≡ names
few_kept names few = let most = leb-true (length names) 8 few in take_all 9 names (omega arith)

-- where groups and places are few, all of them are kept
names_kept : (draft : Draft) → is_count MOST_GROUPS draft.groups ≡ true → nat_le (length draft.places) MOST_PLACES ≡ true → kept_draft draft ≡ kept_by draft.groups draft.places draft
names_kept draft groups places =
    ap (λ gs. kept_by gs (kept_names draft.places) draft) (few_kept draft.groups (and_parts (nat_le 1 (length draft.groups)) _ groups).1)
    ∙ ap (λ ps. kept_by draft.groups ps draft) (few_kept draft.places places)

-- the checks tell of what is kept what they tell of the whole
judged : (draft : Draft) → judge (checks (kept_draft draft)) ≡ judge (checks draft)
judged draft =
    elim (cases_Bool (is_count MOST_GROUPS draft.groups && nat_le (length draft.places) MOST_PLACES)) [
      | inl fit ↦
          let both = and_parts (is_count MOST_GROUPS draft.groups) (nat_le (length draft.places) MOST_PLACES) fit in
          let few = leb-true (length draft.groups) 8 (and_parts (nat_le 1 (length draft.groups)) _ both.0).1 in
          ap (λ d. judge (checks d)) (names_kept draft both.0 both.1) ∙ same_judged (checks (kept_by draft.groups draft.places draft)) (checks draft) (alike_few draft few)
      | inr many ↦
          same_judged (checks (kept_draft draft)) (checks draft) (
            refl,
            refl,
            λ delay. (
              many_kept draft.groups,
              refl,
              λ groups. (long_kept draft.places, refl, λ places. absurd (false≢true (sym many ∙ and_from _ _ groups places))),
            ),
          )
    ]

-- where they hold, all is kept
all_kept : (draft : Draft) → judge (checks draft) ≡ Ok tt → kept_draft draft ≡ draft
all_kept draft holds =
    let a = all_hold (checks draft) holds in
    let few = leb-true (length draft.groups) 8 (and_parts (nat_le 1 (length draft.groups)) _ a.1.0).1 in
    let references = a.1.1.1.1.1.1.1.1.1.1.1.1.1.1.1 in
    let messages = whole draft.groups draft.places draft.messages few references.0 references.1.1.1.1.0 in
    names_kept draft a.1.0 a.1.1.0 ∙ ap (with_messages draft) messages

-- ---- the lines

-- what a draft says, where the first line `link` and the first line `multicast` have these numbers
abbrev said : ℕ → ℕ → Place → Draft → Result (Scenario × Place) LineFault
said first_link first past draft =
    told (scenario_of_draft draft) >>= λ scenario. where_ordered Link (first_misplaced_link first_link draft) scenario >>= λ linked.
    where_ordered Multicast (first_unordered draft.groups first draft.messages) linked >>= λ ordered. Ok (ordered, past)

cases_judge : (judged : Result (Unit {0}) ScenarioFault) → (judged ≡ Ok tt) ⊎ ((fault : ScenarioFault) × (judged ≡ Err fault))
cases_judge (Ok x) = inl refl
cases_judge (Err fault) = inr (fault, refl)

said_same : (first_link first : ℕ) (past : Place) (draft : Draft) → said first_link first past (kept_draft draft) ≡ said first_link first past draft
said_same first_link first past draft =
    elim (cases_judge (judge (checks draft))) [
      | inl holds ↦ ap (said first_link first past) (all_kept draft holds)
      | inr faulty ↦
          let kept : judge (checks (kept_draft draft)) ≡ Err faulty.0 = judged draft ∙ faulty.1 in
          let left : said first_link first past (kept_draft draft) ≡ Err (faults.Scenario faulty.0) = rw kept refl in
          let right : said first_link first past draft ≡ Err (faults.Scenario faulty.0) = rw faulty.1 refl in
          left ∙ sym right
    ]

then_same : {A B : Type 0} (r : Result A LineFault) (f g : A → Result B LineFault) → ((x : A) → f x ≡ g x) → (r >>= f) ≡ (r >>= g)
then_same (Ok x) f g same = same x
then_same (Err fault) f g same = refl

then_kept : {A B C : Type 0} (r : Result A LineFault) (keep : A → B) (f : B → Result C LineFault) → ((r >>= λ x. Ok (keep x)) >>= f) ≡ (r >>= λ x. f (keep x))
then_kept (Ok x) keep f = refl
then_kept (Err fault) keep f = refl

-- what a line said, and the place after it
abbrev before : {A : Type 0} → Place → A → Result (A × Place) LineFault
before past value = Ok (value, past)

abbrev kept : {A B : Type 0} → (A → B) → A × Place → B × Place
kept keep next = (keep next.0, next.1)

abbrev kept_after : {A B : Type 0} → (A → B) → A × Place → Result (B × Place) LineFault
kept_after keep next = Ok (kept keep next)

-- what is kept of a line is what its form gives, kept
form_kept : {A B : Type 0} (line : Option (List ℕ)) (wrong : LineFault) (past : Place) (form : List ℕ → Option A) (keep : A → B)
    → (ok_or line wrong >>= λ l. ok_or (option_map keep (form l)) wrong >>= before past) ≡ ((ok_or line wrong >>= λ l. ok_or (form l) wrong >>= before past) >>= kept_after keep)
form_kept None wrong past form keep = refl
form_kept (Some l) wrong past form keep =
    elim (form l) as (λ m. (ok_or (option_map keep m) wrong >>= before past) ≡ ((ok_or m wrong >>= before past) >>= kept_after keep)) [
      | None ↦ refl
      | Some value ↦ refl
    ]

-- what is kept of the places is what the line gives, kept
places_kept : (version : Version) (place : Place) → kept_places_at version place ≡ (places_at version place >>= kept_after kept_names)
places_kept version place =
    elim (cases_Bool (is_places_due version (upcoming place))) [
      | inl due ↦ rw due (form_kept (line_at place) (faults.Line place.number Places) (past_line place) places_in kept_names)
      | inr other ↦ rw other refl
    ]

abbrev from_messages : Time → Option ℕ → ℕ → List (List ℕ) → List (List ℕ) → ℕ → List DraftLink → ℕ → List DraftMessage × Place → Result (Scenario × Place) LineFault
from_messages time tick delay groups places first_link links first messages =
    form_at Target target_in messages.1 >>= λ target. said first_link first target.1 (draft_of time tick delay groups places links messages.0 target.0)

messages_kept : (time : Time) (tick : Option ℕ) (delay : ℕ) (groups places : List (List ℕ)) (first_link : ℕ) (links : List DraftLink) (first : ℕ) (read : Result (List DraftMessage × Place) LineFault)
    → ((read >>= λ messages. Ok (map (kept_message (kept_names groups)) messages.0, messages.1)) >>= from_messages time tick delay (kept_names groups) (kept_names places) first_link links first)
    ≡ (read >>= from_messages time tick delay groups places first_link links first)
messages_kept time tick delay groups places first_link links first (Err fault) = refl
messages_kept time tick delay groups places first_link links first (Ok messages) =
    then_same (form_at Target target_in messages.1)
    (λ target. said first_link first target.1 (draft_of time tick delay (kept_names groups) (kept_names places) links (map (kept_message (kept_names groups)) messages.0) target.0))
    (λ target. said first_link first target.1 (draft_of time tick delay groups places links messages.0 target.0))
    (λ target. said_same first_link first target.1 (draft_of time tick delay groups places links messages.0 target.0))

abbrev from_places : Version → Time → Option ℕ → ℕ → List (List ℕ) → List (List ℕ) × Place → Result (Scenario × Place) LineFault
from_places version time tick delay groups places =
    links_at version 0 places.1 >>= λ links. messages_at version 0 links.1 >>= from_messages time tick delay groups places.0 places.1.number links.0 links.1.number

abbrev from_kept_places : Version → Time → Option ℕ → ℕ → List (List ℕ) → List (List ℕ) × Place → Result (Scenario × Place) LineFault
from_kept_places version time tick delay groups places =
    links_at version 0 places.1 >>= λ links. kept_messages_at version groups 0 links.1 >>= from_messages time tick delay groups places.0 places.1.number links.0 links.1.number

rest_kept : (version : Version) (time : Time) (tick : Option ℕ) (delay : ℕ) (groups : List (List ℕ)) (place : Place)
    → (kept_places_at version place >>= from_kept_places version time tick delay (kept_names groups)) ≡ (places_at version place >>= from_places version time tick delay groups)
rest_kept version time tick delay groups place =
    ap (λ r. r >>= from_kept_places version time tick delay (kept_names groups)) (places_kept version place)
    ∙ then_kept (places_at version place) (kept kept_names) (from_kept_places version time tick delay (kept_names groups))
    ∙ then_same (places_at version place) (λ places. from_kept_places version time tick delay (kept_names groups) (kept kept_names places)) (from_places version time tick delay groups)
    (λ places. then_same (links_at version 0 places.1)
    (λ links. kept_messages_at version (kept_names groups) 0 links.1 >>= from_messages time tick delay (kept_names groups) (kept_names places.0) places.1.number links.0 links.1.number)
    (λ links. messages_at version 0 links.1 >>= from_messages time tick delay groups places.0 places.1.number links.0 links.1.number)
    (λ links. messages_kept time tick delay groups places.0 places.1.number links.0 links.1.number (messages_at version 0 links.1)))

abbrev from_groups : Version → Time → Option ℕ → ℕ → List (List ℕ) × Place → Result (Scenario × Place) LineFault
from_groups version time tick delay groups = places_at version groups.1 >>= from_places version time tick delay groups.0

abbrev from_kept : Version → Time → Option ℕ → ℕ → List (List ℕ) × Place → Result (Scenario × Place) LineFault
from_kept version time tick delay groups = kept_places_at version groups.1 >>= from_kept_places version time tick delay groups.0

abbrev kept_groups_in : List ℕ → Option (List (List ℕ))
kept_groups_in line = kept_names_in (codes "groups") line

groups_kept : (version : Version) (time : Time) (tick : Option ℕ) (delay : ℕ) (place : Place) → (form_at Groups kept_groups_in place >>= from_kept version time tick delay) ≡ (form_at Groups groups_in place >>= from_groups version time tick delay)
groups_kept version time tick delay place =
    ap (λ r. r >>= from_kept version time tick delay) (form_kept (line_at place) (faults.Line place.number Groups) (past_line place) groups_in kept_names)
    ∙ then_kept (form_at Groups groups_in place) (kept kept_names) (from_kept version time tick delay)
    ∙ then_same (form_at Groups groups_in place) (λ groups. from_kept version time tick delay (kept kept_names groups)) (from_groups version time tick delay)
    (λ groups. rest_kept version time tick delay groups.0 groups.1)

-- what the lines give with what is kept of them is what they give whole
pub kept_scenario : (version : Version) (place : Place) → kept_scenario_at version place ≡ scenario_at version place
unfolding kept_scenario_at scenario_at
kept_scenario version place =
    then_same (time_at version place)
    (λ time. tick_at version time.1 >>= λ tick. form_at Delay (number_in (codes "delay")) tick.1 >>= λ delay. form_at Groups kept_groups_in delay.1 >>= from_kept version time.0 tick.0 delay.0)
    (λ time. tick_at version time.1 >>= λ tick. form_at Delay (number_in (codes "delay")) tick.1 >>= λ delay. form_at Groups groups_in delay.1 >>= from_groups version time.0 tick.0 delay.0)
    (λ time. then_same (tick_at version time.1)
    (λ tick. form_at Delay (number_in (codes "delay")) tick.1 >>= λ delay. form_at Groups kept_groups_in delay.1 >>= from_kept version time.0 tick.0 delay.0)
    (λ tick. form_at Delay (number_in (codes "delay")) tick.1 >>= λ delay. form_at Groups groups_in delay.1 >>= from_groups version time.0 tick.0 delay.0)
    (λ tick. then_same (form_at Delay (number_in (codes "delay")) tick.1)
    (λ delay. form_at Groups kept_groups_in delay.1 >>= from_kept version time.0 tick.0 delay.0)
    (λ delay. form_at Groups groups_in delay.1 >>= from_groups version time.0 tick.0 delay.0)
    (λ delay. groups_kept version time.0 tick.0 delay.0 delay.1)))

pub multicast_kept : (version : Version) (groups : List (List ℕ)) (place : Place)
    → form_at Multicast (kept_multicast_in version groups) place ≡ (form_at Multicast (multicast_in version) place >>= λ next. Ok (kept_message groups next.0, next.1))
multicast_kept version groups place = form_kept (line_at place) (faults.Line place.number Multicast) (past_line place) (multicast_in version) (kept_message groups)

-- The scenario of a placement has the messages of the plan.
use Rattle.std.proofs.Common.{◌≡◌, ℕ, pos, zero, suc, ◌+◌, ◌<◌, ◌≤◌, Bool, true, false, cond, List, [], ◌∷◌, ◌++◌, map, filter, length, get_or, Option, Some, None, Ok, refl, sym, ap, subst, ◌∙◌, inl, inr, arith}
use Rattle.std.specs.List.{list_all, list_any, range_with_len}
use Rattle.std.specs.Str.{bytes_eq}
use Rattle.std.proofs.lemmas.Bool.{both_ways, cases_Bool, false≢true, false_from_ne_true}
use Rattle.std.proofs.lemmas.List.{length-append, length-map, get_or-map}
use Rattle.std.proofs.lemmas.List.Elements.{filter-append}
use Rattle.convoy_draft.specs.declared.fault.Key.TheVariants.{At}
use Rattle.convoy_draft.specs.Checks.{all_differ, checks, is_among, judge}
use Rattle.convoy_draft.specs.Draft.{DraftMessage}
use Rattle.convoy_lines.specs.Results.{◌>>=◌}
use Rattle.convoy_scenario.specs.Numbering.{message_of, numbers_of, scenario_of, sender_of}
use Rattle.convoy_scenario.specs.Scenario.{Message, Scenario, message_at, no_message}
use Rattle.convoy_scenario.proofs.GivenScenarios.{passed}
use Rattle.convoy_scenario.proofs.NumberedAgain.{itself, same_bytes}
use Rattle.convoy_scenario.proofs.NumberedLemmas.{nothing}
use Rattle.convoy_toml.specs.declared.written.WrittenTime.TheVariants.{Count}
use Rattle.convoy_toml.specs.Shape.{WrittenMessage}
use Rattle.convoy_toml.specs.Times.{draft_message_of, draft_messages_of, last_tick, whole}
use Rattle.convoy_plans.specs.declared.plan.Origin.{Origin}
use Rattle.convoy_plans.specs.declared.plan.Origin.TheVariants.{Site, Group}
use Rattle.convoy_plans.specs.PlanLaws.{IsOfPlan, MessagesAreOfPlans, sender_for}
use Rattle.convoy_plans.specs.Placements.{further_clients, groups_in, is_first, message_in, sender_in, written_at}
use Rattle.convoy_plans.specs.Plans.{IsOrigin, IsPlan, Plan, client_sites, group_name, is_site, name_of, origin_of, site_name}
use Rattle.convoy_plans.proofs.Drafted.{after_ok, drafted_of, made_of, one_ok}
use Rattle.convoy_plans.proofs.Members.{In, all_in, in_at}
use Rattle.convoy_plans.proofs.OfSites.{get_or-first, group_sender, in_group, names_differ, none_alike}

-- ---- messages in ticks

record IsInTicks (written : WrittenMessage) (draft : DraftMessage) : Type 0 where
  sender : draft.sender ≡ written.sender
  to : draft.to ≡ written.to

in_ticks : (tick : Option ℕ) (written : WrittenMessage) (draft : DraftMessage) → draft_message_of tick written ≡ Ok draft → IsInTicks written draft
in_ticks tick written draft e =
    let a = after_ok (whole tick At written.at) (λ at. last_tick tick at written.until >>= λ until. Ok (record { name = written.name; sender = written.sender; to = written.to; at = at; until = until })) draft e in
    let u = after_ok (last_tick tick a.0 written.until) (λ until. Ok (record { name = written.name; sender = written.sender; to = written.to; at = a.0; until = until })) draft a.2 in
    let made : DraftMessage = record { name = written.name; sender = written.sender; to = written.to; at = a.0; until = u.0 } in
    let same : made ≡ draft = one_ok made draft u.2 in
    subst (IsInTicks written) same (record { sender = refl; to = refl })

record AreInTicks (written : List WrittenMessage) (drafts : List DraftMessage) : Type 0 where
  long : length drafts ≡ length written
  each : (i : ℕ) (d : WrittenMessage) → i < length written → IsInTicks (get_or written i d) (get_or drafts i nothing)

all_in_ticks : (tick : Option ℕ) (written : List WrittenMessage) (drafts : List DraftMessage) → draft_messages_of tick written ≡ Ok drafts → AreInTicks written drafts
all_in_ticks tick [] drafts e =
    let same : [] ≡ drafts = one_ok [] drafts e in
    subst (AreInTicks []) same (record { long = refl; each = λ i d h. absurd (omega arith) })
all_in_ticks tick (message ∷ messages) drafts e =
    let f = after_ok (draft_message_of tick message) (λ d. draft_messages_of tick messages >>= λ ds. Ok (d ∷ ds)) drafts e in
    let o = after_ok (draft_messages_of tick messages) (λ ds. Ok (f.0 ∷ ds)) drafts f.2 in
    let same : f.0 ∷ o.0 ≡ drafts = one_ok _ _ o.2 in
    let rest = all_in_ticks tick messages o.0 o.1 in
    let long = rest.long in
    subst (AreInTicks (message ∷ messages)) same (record { long = omega arith; each = by_number f.0 o.0 (in_ticks tick message f.0 f.1) rest }) where
      by_number : (d : DraftMessage) (ds : List DraftMessage) → IsInTicks message d → AreInTicks messages ds → (i : ℕ) (w : WrittenMessage) → i < length (message ∷ messages)
          → IsInTicks (get_or (message ∷ messages) i w) (get_or (d ∷ ds) i nothing)
      by_number d ds first others zero w h = first
      by_number d ds first others (suc i) w h = others.each i w (omega arith)

-- ---- numbers of groups among more groups

in_range_back : (from n g : ℕ) → In g (range_with_len from n) → (from ≤ g) × (g < from + n)
in_range_back from zero g h = absurd h
in_range_back from (suc n) g (inl is) = (omega arith, omega arith)
in_range_back from (suc n) g (inr h) =
    let r = in_range_back (from + 1) n g h in
    let low = r.0 in
    let high = r.1 in
    (omega arith, omega arith)

filter_same_in : {X : Type 0} (p q : X → Bool) (xs : List X) → ((x : X) → In x xs → p x ≡ q x) → filter p xs ≡ filter q xs
filter_same_in p q [] h = refl
filter_same_in p q (x ∷ xs) h =
    let rest = filter_same_in p q xs (λ y k. h y (inr k)) in
    rw (h x (inl refl)) (ap (λ ys. cond (q x) (x ∷ ys) ys) rest)

filter_none : {X : Type 0} (p : X → Bool) (xs : List X) → ((x : X) → In x xs → p x ≡ false) → filter p xs ≡ []
filter_none p [] h = refl
filter_none p (x ∷ xs) h = rw (h x (inl refl)) (filter_none p xs (λ y k. h y (inr k)))

range_two : (from a b : ℕ) → range_with_len from (a + b) ≡ range_with_len from a ++ range_with_len (from + a) b
range_two from zero b =
    let none : zero + b ≡ b = omega arith in
    let here : from + zero ≡ from = omega arith in
    rw (none, here) refl
range_two from (suc a) b =
    let next : suc a + b ≡ suc (a + b) = omega arith in
    let here : from + suc a ≡ (from + 1) + a = omega arith in
    rw (next, here) (ap (λ ns. from ∷ ns) (range_two (from + 1) a b))

in_second : (xs ys : List (List ℕ)) (i : ℕ) → length xs ≤ i → i < length xs + length ys → In (get_or (xs ++ ys) i []) ys
in_second [] ys i low high = in_at ys i [] (omega arith)
in_second (x ∷ xs) ys zero low high = absurd (omega arith)
in_second (x ∷ xs) ys (suc i) low high = in_second xs ys i (omega arith) (omega arith)

among_in : (name : List ℕ) (names : List (List ℕ)) → is_among name names ≡ true → In name names
among_in name [] e = absurd (false≢true e)
among_in name (first ∷ names) e = elim (cases_Bool (bytes_eq name first)) [
  | inl same ↦ inl (same_bytes name first same)
  | inr other ↦
      let rest : is_among name names ≡ true = rw other at e in
      inr (among_in name names rest)
]

numbers_alone : (groups more named : List (List ℕ)) → all_differ (groups ++ more) ≡ true → list_all (λ name. is_among name groups) named ≡ true → numbers_of (groups ++ more) named ≡ numbers_of groups named
numbers_alone groups more named differ known =
    let test : ℕ → Bool = λ g. is_among (get_or (groups ++ more) g []) named in
    let cut : range_with_len 0 (length (groups ++ more)) ≡ range_with_len 0 (length groups) ++ range_with_len (0 + length groups) (length more) =
    ap (range_with_len 0) (length-append groups more) ∙ range_two 0 (length groups) (length more) in
    ap (filter test) cut
    ∙ filter-append test (range_with_len 0 (length groups)) (range_with_len (0 + length groups) (length more))
    ∙ ap (λ ns. filter test (range_with_len 0 (length groups)) ++ ns) (filter_none test (range_with_len (0 + length groups) (length more)) none)
    ∙ nothing_more (filter test (range_with_len 0 (length groups)))
    ∙ filter_same_in test (λ g. is_among (get_or groups g []) named) (range_with_len 0 (length groups)) alike where
      nothing_more : (ns : List ℕ) → ns ++ [] ≡ ns
      nothing_more [] = refl
      nothing_more (n ∷ ns) = ap (λ ms. n ∷ ms) (nothing_more ns)

      bad : (g : ℕ) → In g (range_with_len (0 + length groups) (length more)) → is_among (get_or (groups ++ more) g []) named ≡ true → ⊥
      bad g h e =
          let r = in_range_back (0 + length groups) (length more) g h in
          let low = r.0 in
          let high = r.1 in
          let name = get_or (groups ++ more) g [] in
          let second : In name more = in_second groups more g (omega arith) (omega arith) in
          let first : In name groups = among_in name groups (all_in (λ n. is_among n groups) name named (among_in name named e) known) in
          both_ways _ (none_alike name name groups more differ first second) (itself name)

      none : (g : ℕ) → In g (range_with_len (0 + length groups) (length more)) → is_among (get_or (groups ++ more) g []) named ≡ false
      none g h = false_from_ne_true _ (bad g h)

      alike : (g : ℕ) → In g (range_with_len 0 (length groups)) → is_among (get_or (groups ++ more) g []) named ≡ is_among (get_or groups g []) named
      alike g h =
          let high = (in_range_back 0 (length groups) g h).1 in
          ap (λ n. is_among n named) (get_or-first groups more g (omega arith))

-- ---- who sends

in_filter_back : {X : Type 0} (p : X → Bool) (x : X) (xs : List X) → In x (filter p xs) → In x xs
in_filter_back p x [] h = absurd h
in_filter_back p x (y ∷ xs) h = by_test (p y) h (in_filter_back p x xs) where
  by_test : (b : Bool) → In x (cond b (y ∷ filter p xs) (filter p xs)) → (In x (filter p xs) → In x xs) → In x (y ∷ xs)
  by_test true (inl is) back = inl is
  by_test true (inr k) back = inr (back k)
  by_test false k back = inr (back k)

not_first : (plan : Plan) → IsPlan plan → (k : ℕ) → k < length plan.written.groups → is_first plan (group_name plan k) ≡ false
not_first plan is k within = by_clients plan.clients refl where
  by_clients : (cs : List ℕ) → plan.clients ≡ cs → is_first plan (group_name plan k) ≡ false
  by_clients [] are = rw are refl
  by_clients (c ∷ cs) are =
      let first : In c (client_sites plan.origins plan.sites) = rw (← is.clients, are) (inl refl) in
      let bound = (in_range_back 0 (length plan.sites) c (in_filter_back (λ s. list_any (is_site s) plan.origins) c (range_with_len 0 (length plan.sites)) first)).1 in
      let here : In (site_name plan c) plan.sites = in_at plan.sites c [] (omega arith) in
      let apart : bytes_eq (site_name plan c) (group_name plan k) ≡ false = none_alike (group_name plan k) (site_name plan c) plan.written.groups plan.sites is.differ (in_group plan k within) here in
      rw are (false_from_ne_true _ (λ same. both_ways _ apart (rw (same_bytes (group_name plan k) (site_name plan c) same) (itself (site_name plan c)))))

sender_is : (plan : Plan) → IsPlan plan → all_differ (groups_in plan) ≡ true → (origin : Origin) → IsOrigin plan origin → sender_of (groups_in plan) [] (sender_in plan (Some (name_of plan origin))) ≡ sender_for plan origin
sender_is plan is differ (Site s) here = refl
sender_is plan is differ (Group k) within =
    ap (λ (b : Bool). sender_of (groups_in plan) [] (cond b None (Some (group_name plan k)))) (not_first plan is k within)
    ∙ group_sender plan k differ within

-- ---- the messages

nothing_written : WrittenMessage
nothing_written = record { name = []; sender = None; to = []; at = Count (pos 0); until = None; within = None; longer = None }

sent_from : (plan : Plan) → IsPlan plan → (i : ℕ) → i < length plan.written.messages → (get_or plan.written.messages i nothing_written).sender ≡ Some (name_of plan (origin_of plan i))
sent_from plan is i within =
    let long = ap length is.senders in
    let mine = length-map plan.written.messages (λ message. message.sender) in
    let its = length-map plan.origins (λ (origin : Origin). Some (name_of plan origin)) in
    sym (get_or-map (λ (message : WrittenMessage). message.sender) plan.written.messages i nothing_written None within)
    ∙ ap (λ (ss : List (Option (List ℕ))). get_or ss i None) is.senders
    ∙ get_or-map (λ (origin : Origin). Some (name_of plan origin)) plan.origins i (Site 0) None (omega (arith, long, mine, its))

pub messages_of_plans : MessagesAreOfPlans
messages_of_plans plan placement scenario i is e within =
    let m = made_of (written_at plan placement) scenario e in
    let d = drafted_of (written_at plan placement) m.draft refl m.drafted in
    let made = (passed (judge (checks m.draft)) (scenario_of m.draft) scenario m.given).1 in
    let differ = names_differ plan placement scenario is e in
    let t = all_in_ticks d.tick (map (message_in plan) plan.written.messages) m.draft.messages d.messages_are in
    let long = t.long in
    let mapped = length-map plan.written.messages (message_in plan) in
    let message = get_or plan.written.messages i nothing_written in
    let there : get_or (map (message_in plan) plan.written.messages) i nothing_written ≡ message_in plan message = get_or-map (message_in plan) plan.written.messages i nothing_written nothing_written within in
    let one : IsInTicks (message_in plan message) (get_or m.draft.messages i nothing) = subst (λ w. IsInTicks w (get_or m.draft.messages i nothing)) there (t.each i nothing_written (omega arith)) in
    let numbered : message_at (scenario_of m.draft) i ≡ message_of m.draft.groups m.draft.places (get_or m.draft.messages i nothing) = get_or-map (message_of m.draft.groups m.draft.places) m.draft.messages i nothing no_message (omega arith) in
    let here : IsOrigin plan (origin_of plan i) = is_origin plan is i within in
    let goes : get_or plan.goes i [] ≡ numbers_of plan.written.groups message.to =
    ap (λ (gs : List (List ℕ)). get_or gs i []) is.goes ∙ get_or-map (λ (w : WrittenMessage). numbers_of plan.written.groups w.to) plan.written.messages i nothing_written [] within in
    let known : list_all (λ name. is_among name plan.written.groups) message.to ≡ true =
    all_in (λ (w : WrittenMessage). list_all (λ name. is_among name plan.written.groups) w.to) message plan.written.messages (in_at plan.written.messages i nothing_written within) is.addressed in
    subst (λ (s : Scenario). IsOfPlan plan s i) made (record {
      sender = ap (λ (x : Message). x.sender) numbered
          ∙ ap (λ (gs : List (List ℕ)). sender_of gs m.draft.places (get_or m.draft.messages i nothing).sender) d.groups_are
          ∙ ap (λ (ps : List (List ℕ)). sender_of (groups_in plan) ps (get_or m.draft.messages i nothing).sender) d.places_are
          ∙ ap (λ (s : Option (List ℕ)). sender_of (groups_in plan) [] s) (one.sender ∙ ap (sender_in plan) (sent_from plan is i within)) ∙ sender_is plan is differ (origin_of plan i) here;
      origin = here;
      destinations = ap (λ (x : Message). x.destinations) numbered
          ∙ ap (λ (gs : List (List ℕ)). numbers_of gs (get_or m.draft.messages i nothing).to) d.groups_are
          ∙ ap (λ (to : List (List ℕ)). numbers_of (groups_in plan) to) one.to ∙ numbers_alone plan.written.groups (map (site_name plan) (further_clients plan)) message.to differ known ∙ sym goes;
    }) where
      is_origin : (plan : Plan) → IsPlan plan → (i : ℕ) → i < length plan.written.messages → IsOrigin plan (origin_of plan i)
      is_origin plan is i within =
          let long = ap length is.senders in
          let mine = length-map plan.written.messages (λ message. message.sender) in
          let its = length-map plan.origins (λ (origin : Origin). Some (name_of plan origin)) in
          is.origins i (Site 0) (omega (arith, long, mine, its))

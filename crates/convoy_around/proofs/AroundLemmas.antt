-- The scenario around a target is well formed, and forgets any target that there was before.
use Rattle.std.proofs.Common.{◌≡◌, ℕ, zero, suc, ◌+◌, ◌*◌, ◌<◌, ◌≤◌, ◌==◌, Bool, true, false, inl, inr, leb-true, List, [], ◌∷◌, ◌++◌, length, get_or, map, take, pos, Result, Ok, refl, sym, ap, subst, ◌∙◌, arith}
use Rattle.std.specs.Prelude.{IsTrue}
use Rattle.std.specs.List.{All, AllByRecursion, IsDistinct, enumerate_from, list_any}
use Rattle.std.specs.Str.{bytes_eq}
use Rattle.std.proofs.lemmas.Bool.{cases_lt, eq-eqb}
use Rattle.std.proofs.lemmas.List.{get_or_past, map-append, take_more}
use Rattle.std.proofs.lemmas.List.Elements.{All-get_or, All-from_get_or}
use Rattle.convoy_draft.specs.declared.limits.TheConstants.{GREATEST_AT, LONGEST_WAIT, MOST_MULTICASTS}
use Rattle.convoy_draft.specs.declared.fault.ScenarioFault.{ScenarioFault}
use Rattle.convoy_draft.specs.declared.fault.ScenarioFault.TheVariants.{Memory}
use Rattle.convoy_draft.specs.Draft.{Draft, DraftMessage}
use Rattle.convoy_around.specs.Around.{around_at, is_span, issue_around, message_around}
use Rattle.convoy_around.specs.AroundLaws.{AroundForgetsTargets, AroundIsScenario}
use Rattle.convoy_scenario.specs.Memory.{IsUnlessMemory}
use Rattle.convoy_scenario.specs.Naming.{draft_for, draft_link, draft_message}
use Rattle.convoy_scenario.specs.Room.{HasRoom}
use Rattle.convoy_scenario.specs.Scenario.{GoesTo, Message, Scenario, group_name_at, message_at, no_message}
use Rattle.convoy_scenario.specs.WellFormed.{IsMulticast, IsScenario}

-- ---- all messages
abbrev pub all_around : ℕ → ℕ → ℕ → List Message → List Message
all_around span t n xs = map (λ p. message_around span t p.0 p.1) (enumerate_from n xs)

pub as_many : (span t n : ℕ) (xs : List Message) → length (all_around span t n xs) ≡ length xs
as_many span t n [] = refl
as_many span t n (x ∷ xs) = ap suc (as_many span t (n + 1) xs)

at_place : (span t n : ℕ) (xs : List Message) (i : ℕ) → i < length xs
    → get_or (all_around span t n xs) i no_message ≡ message_around span t (n + i) (get_or xs i no_message)
at_place span t n [] i l = absurd (omega arith)
at_place span t n (x ∷ xs) zero l = let same : n ≡ n + 0 = omega arith in ap (λ k. message_around span t k x) same
at_place span t n (x ∷ xs) (suc i) l =
    let same : n + 1 + i ≡ n + suc i = omega arith in
    at_place span t (n + 1) xs i (omega arith) ∙ ap (λ k. message_around span t k (get_or xs i no_message)) same

others_differ : (span t n : ℕ) (xs : List Message) (name : List ℕ)
    → AllByRecursion (λ z. bytes_eq name z.name ≡ false) xs → AllByRecursion (λ z. bytes_eq name z.name ≡ false) (all_around span t n xs)
others_differ span t n [] name h = tt
others_differ span t n (z ∷ zs) name h = (h.0, others_differ span t (n + 1) zs name h.1)

names_differ : (span t n : ℕ) (xs : List Message) → IsDistinct (λ a b. bytes_eq a.name b.name) xs → IsDistinct (λ a b. bytes_eq a.name b.name) (all_around span t n xs)
unfolding IsDistinct
names_differ span t n [] h = tt
names_differ span t n (x ∷ xs) h = (others_differ span t (n + 1) xs x.name h.0, names_differ span t (n + 1) xs h.1)

twice : (span other t u n : ℕ) (xs : List Message) → all_around span u n (all_around other t n xs) ≡ all_around span u n xs
twice span other t u n [] = refl
twice span other t u n (x ∷ xs) = ap (λ ys. message_around span u n x ∷ ys) (twice span other t u (n + 1) xs)

pub forgets : AroundForgetsTargets
unfolding around_at
forgets span other scenario m g n h = ap (λ ms. record scenario { multicasts = ms; target_message = n; target_group = h }) (twice span other m n 0 scenario.multicasts)

-- ---- its draft
abbrev pub draft_around : ℕ → Scenario → ℕ → ℕ → Draft
draft_around span plan t g = record {
  time = plan.time;
  tick = plan.tick;
  delay = pos plan.delay;
  groups = plan.groups;
  places = plan.places;
  links = map (draft_link plan) plan.links;
  messages = map (draft_message plan) (around_at span plan t 0).multicasts;
  target_message = (message_at plan t).name;
  target_group = group_name_at plan g;
}

-- one message more
pub one_more : (f : Message → DraftMessage) (xs : List Message) (i : ℕ) → i < length xs
    → map f (take (i + 1) xs) ≡ map f (take i xs) ++ f (get_or xs i no_message) ∷ []
one_more f xs i l = ap (map f) (take_more xs i no_message l) ∙ map-append f (take i xs) (get_or xs i no_message ∷ [])

-- where it is known what a draft gives, no fault but that of memory is told
pub given : (want result : Result Scenario ScenarioFault) (x y : Scenario) → IsUnlessMemory Memory want result → want ≡ Ok x → result ≡ Ok y → y ≡ x
given want result x y (inl e) is gives = cc
given want result x y (inr e) is gives = absurd cc

-- ---- the scenario
module _ (span : ℕ) (plan : Scenario) (t g : ℕ) where
  abbrev now : Scenario
  now = around_at span plan t g

  pub many : length now.multicasts ≡ length plan.multicasts
  unfolding around_at
  many = as_many span t 0 plan.multicasts

  pub message_is : (m : ℕ) → m < length plan.multicasts → message_at now m ≡ message_around span t m (message_at plan m)
  unfolding around_at
  message_is m l =
      let same : 0 + m ≡ m = omega arith in
      at_place span t 0 plan.multicasts m l ∙ ap (λ k. message_around span t k (message_at plan m)) same

  pub same_destinations : (m : ℕ) → (message_at now m).destinations ≡ (message_at plan m).destinations
  unfolding around_at
  same_destinations m = elim (cases_lt m (length plan.multicasts)) [
    | inl l ↦ ap (λ (y : Message). y.destinations) (message_is m l)
    | inr l ↦
        let past : length now.multicasts ≤ m = omega (arith, l, many) in
        ap (λ (y : Message). y.destinations) (get_or_past now.multicasts m no_message past ∙ sym (get_or_past plan.multicasts m no_message l))
  ]

  -- the target does not wait
  pub still : t < length plan.multicasts → (message_at now t).longest_wait ≡ 0
  still l = ap (λ (y : Message). y.longest_wait) (message_is t l) ∙ ap (λ b. (issue_around span b).1) (eq-eqb t t refl)

  -- what is drafted of it
  pub drafted : t < length plan.multicasts → (draft : Draft) → draft ≡ draft_around span plan t g → draft ≡ draft_for now
  unfolding around_at
  drafted l draft e = e ∙ ap (λ (x : Message). record (draft_around span plan t g) { target_message = x.name }) (sym (message_is t l))

-- where the span is 0, no message waits
pub none_waits : (plan : Scenario) (t g m : ℕ) → m < length plan.multicasts → (message_at (around_at 0 plan t g) m).longest_wait ≡ 0
none_waits plan t g m l = ap (λ (y : Message). y.longest_wait) (message_is 0 plan t g m l) ∙ none (m == t) where
  none : (b : Bool) → (issue_around 0 b).1 ≡ 0
  none true = refl
  none false = refl

module _ (span : ℕ) (plan : Scenario) (t g : ℕ) (is : IsScenario plan) (short : IsTrue (is_span span)) (known : t < length plan.multicasts) (addressed : GoesTo plan t g) where
  abbrev made : Scenario
  made = around_at span plan t g

  in_limits : (b : Bool) → ((issue_around span b).0 ≤ GREATEST_AT) × ((issue_around span b).1 ≤ LONGEST_WAIT)
  in_limits true = let most = leb-true (3 * span) LONGEST_WAIT short in (omega (arith, most), omega arith)
  in_limits false = let most = leb-true (3 * span) LONGEST_WAIT short in (omega arith, most)

  message_formed : (m : ℕ) → m < length plan.multicasts → IsMulticast (length plan.groups) (length plan.places) (message_at made m)
  message_formed m l =
      let old = All-get_or (IsMulticast (length plan.groups) (length plan.places)) plan.multicasts m no_message l is.messages in
      let limits = in_limits (m == t) in
      subst (IsMulticast (length plan.groups) (length plan.places)) (sym (message_is span plan t g m l))
      (record { name = old.name; sender = old.sender; destinations = old.destinations; ascending = old.ascending; known = old.known; at = limits.0; wait = limits.1 })

  messages_formed : All (IsMulticast (length plan.groups) (length plan.places)) made.multicasts
  messages_formed =
      All-from_get_or (IsMulticast (length plan.groups) (length plan.places)) made.multicasts no_message
      (λ i l. message_formed i (omega (arith, many span plan t g, l)))

  room : HasRoom made
  unfolding around_at
  room =
      let at = (message_formed t known).at in
      let none = still span plan t g known in
      record {
        last = omega (arith, at, none);
        others = λ m d l.
            let wait = (message_formed m (omega (arith, many span plan t g, l))).wait in
            omega (arith, wait, none);
      }

  well_formed : IsScenario made
  unfolding around_at
  well_formed = record {
    delay_low = is.delay_low;
    delay_high = is.delay_high;
    delay_whole = is.delay_whole;
    tick = is.tick;
    groups_low = is.groups_low;
    groups_high = is.groups_high;
    places_high = is.places_high;
    multicasts_low = subst (λ n. 1 ≤ n) (sym (many span plan t g)) is.multicasts_low;
    multicasts_high = subst (λ n. n ≤ MOST_MULTICASTS) (sym (many span plan t g)) is.multicasts_high;
    group_names = is.group_names;
    group_names_differ = is.group_names_differ;
    place_names = is.place_names;
    place_names_differ = is.place_names_differ;
    places_apart = is.places_apart;
    message_names_differ = names_differ span t 0 plan.multicasts is.message_names_differ;
    links = is.links;
    ascending = is.ascending;
    messages = messages_formed;
    target = subst (λ n. t < n) (sym (many span plan t g)) known;
    addressed = ap (λ (x : Message). list_any (λ h. h == g) x.destinations) (message_is span plan t g t known) ∙ addressed;
    room = room;
  }

pub formed : AroundIsScenario
formed span plan t g is short known addressed = well_formed span plan t g is short known addressed

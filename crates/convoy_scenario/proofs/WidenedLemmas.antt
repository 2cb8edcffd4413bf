-- The widened scenario of a well-formed one is well formed; where the target does not wait, it is the scenario itself.
use Rattle.std.proofs.Common.{◌≡◌, ◌≢◌, ℕ, zero, suc, ◌+◌, ◌<◌, ◌≤◌, ◌==◌, false, inl, inr, List, [], ◌∷◌, length, get_or, map, refl, sym, ap, ap₂, subst, ◌∙◌, arith}
use Rattle.std.specs.List.{All, AllByRecursion, IsDistinct, enumerate_from, list_any}
use Rattle.std.specs.Str.{bytes_eq}
use Rattle.std.proofs.lemmas.Bool.{cases_lt, cases_eq, cond-true, cond-false, eq-eqb, ne_eqb}
use Rattle.std.proofs.lemmas.List.{get_or_past}
use Rattle.std.proofs.lemmas.List.Elements.{All-get_or, All-from_get_or}
use Rattle.convoy_draft.specs.declared.limits.TheConstants.{GREATEST_AT, MOST_MULTICASTS}
use Rattle.convoy_scenario.specs.Room.{HasRoom}
use Rattle.convoy_scenario.specs.Scenario.{Message, Scenario, message_at, no_message}
use Rattle.convoy_scenario.specs.WellFormed.{IsMulticast, IsScenario}
use Rattle.convoy_scenario.specs.Widened.{target_wait, widened, widened_message}
use Rattle.convoy_scenario.specs.WidenedLaws.{WidenedIsItself, WidenedIsScenario}

-- ---- one message
pub at_end : (wait t m : ℕ) (x : Message) → m ≡ t → widened_message wait t m x ≡ record x { at = x.at + wait; longest_wait = 0 }
at_end wait t m x e = cond-true (m == t) _ _ (eq-eqb m t e)

pub waits_longer : (wait t m : ℕ) (x : Message) → m ≢ t → widened_message wait t m x ≡ record x { longest_wait = x.longest_wait + wait }
waits_longer wait t m x d = cond-false (m == t) _ _ (ne_eqb m t d)

destinations_stay : (wait t m : ℕ) (x : Message) → (widened_message wait t m x).destinations ≡ x.destinations
destinations_stay wait t m x = elim (cases_eq m t) [
  | inl e ↦ ap (λ (y : Message). y.destinations) (at_end wait t m x e)
  | inr d ↦ ap (λ (y : Message). y.destinations) (waits_longer wait t m x d)
]

name_stays : (wait t m : ℕ) (x : Message) → (widened_message wait t m x).name ≡ x.name
name_stays wait t m x = elim (cases_eq m t) [
  | inl e ↦ ap (λ (y : Message). y.name) (at_end wait t m x e)
  | inr d ↦ ap (λ (y : Message). y.name) (waits_longer wait t m x d)
]

-- ---- all messages
abbrev pub all_widened : ℕ → ℕ → ℕ → List Message → List Message
all_widened wait t n xs = map (λ p. widened_message wait t p.0 p.1) (enumerate_from n xs)

pub as_many : (wait t n : ℕ) (xs : List Message) → length (all_widened wait t n xs) ≡ length xs
as_many wait t n [] = refl
as_many wait t n (x ∷ xs) = ap suc (as_many wait t (n + 1) xs)

widened_at : (wait t n : ℕ) (xs : List Message) (i : ℕ) → i < length xs
    → get_or (all_widened wait t n xs) i no_message ≡ widened_message wait t (n + i) (get_or xs i no_message)
widened_at wait t n [] i l = absurd (omega arith)
widened_at wait t n (x ∷ xs) zero l = let same : n ≡ n + 0 = omega arith in ap (λ k. widened_message wait t k x) same
widened_at wait t n (x ∷ xs) (suc i) l =
    let same : n + 1 + i ≡ n + suc i = omega arith in
    widened_at wait t (n + 1) xs i (omega arith) ∙ ap (λ k. widened_message wait t k (get_or xs i no_message)) same

others_differ : (wait t n : ℕ) (xs : List Message) (x y : Message) → y.name ≡ x.name
    → AllByRecursion (λ z. bytes_eq x.name z.name ≡ false) xs → AllByRecursion (λ z. bytes_eq y.name z.name ≡ false) (all_widened wait t n xs)
others_differ wait t n [] x y e h = tt
others_differ wait t n (z ∷ zs) x y e h =
    (ap₂ bytes_eq e (name_stays wait t n z) ∙ h.0, others_differ wait t (n + 1) zs x y e h.1)

names_differ : (wait t n : ℕ) (xs : List Message) → IsDistinct (λ a b. bytes_eq a.name b.name) xs → IsDistinct (λ a b. bytes_eq a.name b.name) (all_widened wait t n xs)
unfolding IsDistinct
names_differ wait t n [] h = tt
names_differ wait t n (x ∷ xs) h =
    (others_differ wait t (n + 1) xs x (widened_message wait t n x) (name_stays wait t n x) h.0, names_differ wait t (n + 1) xs h.1)

-- ---- the scenario
module _ (plan : Scenario) where
  abbrev wait : ℕ
  wait = target_wait plan

  abbrev target : ℕ
  target = plan.target_message

  pub message_is : (m : ℕ) → m < length plan.multicasts → message_at (widened plan) m ≡ widened_message wait target m (message_at plan m)
  unfolding widened
  message_is m l =
      let same : 0 + m ≡ m = omega arith in
      widened_at wait target 0 plan.multicasts m l ∙ ap (λ k. widened_message wait target k (message_at plan m)) same

  pub message_past : (m : ℕ) → length plan.multicasts ≤ m → message_at (widened plan) m ≡ no_message
  unfolding widened
  message_past m l =
      let many = as_many wait target 0 plan.multicasts in
      get_or_past (all_widened wait target 0 plan.multicasts) m no_message (omega arith)

  pub same_destinations : (m : ℕ) → (message_at (widened plan) m).destinations ≡ (message_at plan m).destinations
  same_destinations m = elim (cases_lt m (length plan.multicasts)) [
    | inl l ↦ ap (λ (y : Message). y.destinations) (message_is m l) ∙ destinations_stay wait target m (message_at plan m)
    | inr l ↦ ap (λ (y : Message). y.destinations) (message_past m l ∙ sym (get_or_past plan.multicasts m no_message l))
  ]

  pub many : length (widened plan).multicasts ≡ length plan.multicasts
  unfolding widened
  many = as_many wait target 0 plan.multicasts

  pub still : (message_at (widened plan) target).longest_wait ≡ 0
  still = elim (cases_lt target (length plan.multicasts)) [
    | inl l ↦ ap (λ (y : Message). y.longest_wait) (message_is target l ∙ at_end wait target target (message_at plan target) refl)
    | inr l ↦ ap (λ (y : Message). y.longest_wait) (message_past target l)
  ]

module _ (plan : Scenario) (is : IsScenario plan) where
  message_formed : (m : ℕ) → m < length plan.multicasts → IsMulticast (length plan.groups) (length plan.places) (message_at (widened plan) m)
  message_formed m l =
      let old = All-get_or (IsMulticast (length plan.groups) (length plan.places)) plan.multicasts m no_message l is.messages in
      elim (cases_eq m plan.target_message) [
        | inl e ↦
            let last : (message_at plan m).at + target_wait plan ≤ GREATEST_AT = subst (λ n. (message_at plan n).at + target_wait plan ≤ GREATEST_AT) (sym e) is.room.last in
            subst (IsMulticast (length plan.groups) (length plan.places)) (sym (message_is plan m l ∙ at_end (target_wait plan) plan.target_message m (message_at plan m) e))
            (record { name = old.name; sender = old.sender; destinations = old.destinations; ascending = old.ascending; known = old.known; at = last; wait = omega arith })
        | inr d ↦
            subst (IsMulticast (length plan.groups) (length plan.places)) (sym (message_is plan m l ∙ waits_longer (target_wait plan) plan.target_message m (message_at plan m) d))
            (record { name = old.name; sender = old.sender; destinations = old.destinations; ascending = old.ascending; known = old.known; at = old.at; wait = is.room.others m d l })
      ]

  messages_formed : All (IsMulticast (length plan.groups) (length plan.places)) (widened plan).multicasts
  messages_formed =
      All-from_get_or (IsMulticast (length plan.groups) (length plan.places)) (widened plan).multicasts no_message
      (λ i l. message_formed i (omega (arith, many plan, l)))

  -- the target does not wait, and each window is one that a message may have
  room : HasRoom (widened plan)
  unfolding widened
  room =
      let at = (message_formed plan.target_message is.target).at in
      let none = still plan in
      record {
        last = omega (arith, at, none);
        others = λ m d l.
            let wait = (message_formed m (omega (arith, many plan, l))).wait in
            omega (arith, wait, none);
      }

  well_formed : IsScenario (widened plan)
  unfolding widened
  well_formed = record {
    delay_low = is.delay_low;
    delay_high = is.delay_high;
    delay_whole = is.delay_whole;
    tick = is.tick;
    groups_low = is.groups_low;
    groups_high = is.groups_high;
    places_high = is.places_high;
    multicasts_low = subst (λ n. 1 ≤ n) (sym (many plan)) is.multicasts_low;
    multicasts_high = subst (λ n. n ≤ MOST_MULTICASTS) (sym (many plan)) is.multicasts_high;
    group_names = is.group_names;
    group_names_differ = is.group_names_differ;
    place_names = is.place_names;
    place_names_differ = is.place_names_differ;
    places_apart = is.places_apart;
    message_names_differ = names_differ (target_wait plan) plan.target_message 0 plan.multicasts is.message_names_differ;
    links = is.links;
    ascending = is.ascending;
    messages = messages_formed;
    target = subst (λ n. plan.target_message < n) (sym (many plan)) is.target;
    addressed = ap (λ hs. list_any (λ h. h == plan.target_group) hs) (same_destinations plan plan.target_message) ∙ is.addressed;
    room = room;
  }

-- ---- where the target does not wait
module _ (plan : Scenario) (none : target_wait plan ≡ 0) where
  message_itself : (m : ℕ) (x : Message) → (m ≡ plan.target_message → x.longest_wait ≡ 0) → widened_message (target_wait plan) plan.target_message m x ≡ x
  message_itself m x known = elim (cases_eq m plan.target_message) [
    | inl e ↦
        let wait = known e in
        at_end (target_wait plan) plan.target_message m x e
        ∙ ap₂ (λ (a w : ℕ). record x { at = a; longest_wait = w }) (omega arith) (sym wait)
    | inr d ↦
        waits_longer (target_wait plan) plan.target_message m x d
        ∙ ap (λ (w : ℕ). record x { longest_wait = w }) (omega arith)
  ]

  messages_themselves : (n : ℕ) (xs : List Message) → ((i : ℕ) → n + i ≡ plan.target_message → (get_or xs i no_message).longest_wait ≡ 0)
      → all_widened (target_wait plan) plan.target_message n xs ≡ xs
  messages_themselves n [] known = refl
  messages_themselves n (x ∷ xs) known =
      let here : n + 0 ≡ n = omega arith in
      ap₂ (λ y ys. y ∷ ys) (message_itself n x (λ e. known 0 (here ∙ e)))
      (messages_themselves (n + 1) xs (λ i e. let next : n + suc i ≡ n + 1 + i = omega arith in known (suc i) (next ∙ e)))

  itself : widened plan ≡ plan
  unfolding widened
  itself =
      ap (λ ms. record plan { multicasts = ms })
      (messages_themselves 0 plan.multicasts
      (λ i e. let same : i ≡ plan.target_message = omega arith in ap (λ n. (message_at plan n).longest_wait) same ∙ none))

pub widened_formed : WidenedIsScenario
widened_formed plan is = well_formed plan is

pub widened_itself : WidenedIsItself
widened_itself plan none = itself plan none

-- what is made of the scenario and of the widened messages
pub made_widened : (plan same : Scenario) (ms : List Message) → same ≡ plan → ms ≡ (widened plan).multicasts → record same { multicasts = ms } ≡ widened plan
unfolding widened
made_widened plan same ms is widely = ap₂ (λ (s : Scenario) (xs : List Message). record s { multicasts = xs }) is widely

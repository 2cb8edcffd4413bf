-- What it means that a run departs from a trace, or does not.
use Rattle.std.proofs.Common.{◌≡◌, ◌⊎◌, ℕ, zero, suc, ◌+◌, ◌-◌, ◌<◌, ◌≤◌, ◌==◌, Bool, true, false, ◌&&◌, List, [], ◌∷◌, drop, Option, Some, None, refl, ap, sym, ◌∙◌, inl, inr, arith}
use Rattle.std.specs.Prelude.{All, Contains, IfSome}
use Rattle.std.specs.Prelude.{nat_lt}
use Rattle.std.specs.List.{list_all, list_any, slice_get}
use Rattle.std.proofs.lemmas.Bool.{cases_Bool, eq-eqb, eqb-true, false≢true, or_cases}
use Rattle.std.proofs.lemmas.Bool.Decides.{nat_tests}
use Rattle.std.proofs.lemmas.List.{drop_more}
use Rattle.std.proofs.lemmas.Option.{get_or_from_slice_get, slice_get_within}
use Rattle.std.proofs.lemmas.List.Elements.{All-nil, All-cons}
use Rattle.convoy_scenario.specs.Scenario.{Scenario, GoesTo, message_at}
use Rattle.convoy_packets.specs.declared.packet.Packet.{Packet}
use Rattle.convoy_packets.specs.Assignment.{Schedule}
use Rattle.convoy_sim.specs.Run.{Run}
use Rattle.convoy_traces.specs.declared.told.Told.{Told}
use Rattle.convoy_fits.specs.declared.departure.Departure.{Departure}
use Rattle.convoy_fits.specs.Tests.{departure_of_kind, earlier, first_departure, first_missing, first_missing_from, missing_at, time_of}

-- the first of two is one of them
pub earlier_one : (a b : Option Departure) (d : Departure) → earlier a b ≡ Some d → (a ≡ Some d) ⊎ (b ≡ Some d)
earlier_one None b d e = inr e
earlier_one (Some x) None d e = inl e
earlier_one (Some x) (Some y) d e = elim (cases_Bool (nat_lt (time_of y) (time_of x))) [
  | inl is ↦ inr (rw is at e)
  | inr isnt ↦ inl (rw isnt at e)
]

-- where there is no first of two, there is neither
pub earlier_none : (a b : Option Departure) → earlier a b ≡ None → (a ≡ None) × (b ≡ None)
earlier_none None b e = (refl, e)
earlier_none (Some x) None e = absurd cc
earlier_none (Some x) (Some y) e = elim (cases_Bool (nat_lt (time_of y) (time_of x))) [
  | inl is ↦ absurd (let h = rw is at e in cc h)
  | inr isnt ↦ absurd (let h = rw isnt at e in cc h)
]

-- what holds of both holds of the first
pub earlier_holds : (P : Departure → Type 0) (a b : Option Departure) → IfSome a P → IfSome b P → IfSome (earlier a b) P
earlier_holds P None b ha hb = hb
earlier_holds P (Some x) None ha hb = ha
earlier_holds P (Some x) (Some y) ha hb = elim (cases_Bool (nat_lt (time_of y) (time_of x))) [
  | inl is ↦ rw is hb
  | inr isnt ↦ rw isnt ha
]

same_time : (t : ℕ) → t ≤ t
same_time t = omega arith

-- what the first of two is not before, neither is before
earlier_least : (t : ℕ) (a b : Option Departure) → IfSome (earlier a b) (λ d. t ≤ time_of d) → IfSome a (λ d. t ≤ time_of d) × IfSome b (λ d. t ≤ time_of d)
earlier_least t None b h = (tt, h)
earlier_least t (Some x) None h = (h, tt)
earlier_least t (Some x) (Some y) h = elim (cases_Bool (nat_lt (time_of y) (time_of x))) [
  | inl is ↦ let low = rw is at h in (grind (arith, nat_tests), low)
  | inr isnt ↦ let low = rw isnt at h in (low, grind (arith, nat_tests))
]

some_least : (known : Option Departure) (d : Departure) → known ≡ Some d → IfSome known (λ k. time_of d ≤ time_of k)
some_least None d e = absurd cc
some_least (Some k) d e = let same : k ≡ d = cc in rw same (same_time (time_of d))

module _ (scenario : Scenario) (schedule : Schedule) (run : Run) (network : Bool) where
  -- no departure comes before the first
  pub first_least : (known : Option Departure) (told : List Told) (d : Departure) → first_departure scenario schedule run network known told ≡ Some d
      → IfSome known (λ k. time_of d ≤ time_of k) × All (λ one. IfSome (departure_of_kind scenario schedule run network one) (λ k. time_of d ≤ time_of k)) told
  first_least known [] d e = (some_least known d e, All-nil (λ one. IfSome (departure_of_kind scenario schedule run network one) (λ k. time_of d ≤ time_of k)))
  first_least known (one ∷ told) d e =
      let rest = first_least (earlier known (departure_of_kind scenario schedule run network one)) told d e in
      let both = earlier_least (time_of d) known (departure_of_kind scenario schedule run network one) rest.0 in
      (both.0, All-cons (λ one. IfSome (departure_of_kind scenario schedule run network one) (λ k. time_of d ≤ time_of k)) one told both.1 rest.1)

  pub first_none : (known : Option Departure) (told : List Told) → first_departure scenario schedule run network known told ≡ None
      → (known ≡ None) × All (λ one. departure_of_kind scenario schedule run network one ≡ None) told
  first_none known [] e = (e, All-nil (λ one. departure_of_kind scenario schedule run network one ≡ None))
  first_none known (one ∷ told) e =
      let rest = first_none (earlier known (departure_of_kind scenario schedule run network one)) told e in
      let both = earlier_none known (departure_of_kind scenario schedule run network one) rest.0 in
      (both.0, All-cons (λ one. departure_of_kind scenario schedule run network one ≡ None) one told both.1 rest.1)

  pub first_some : (known : Option Departure) (told : List Told) (d : Departure) → first_departure scenario schedule run network known told ≡ Some d
      → (known ≡ Some d) ⊎ ((one : Told) × Contains told one × (departure_of_kind scenario schedule run network one ≡ Some d))
  first_some known [] d e = inl e
  first_some known (one ∷ told) d e =
      elim (first_some (earlier known (departure_of_kind scenario schedule run network one)) told d e) [
        | inl first ↦ elim (earlier_one known (departure_of_kind scenario schedule run network one) d first) [
          | inl before ↦ inl before
          | inr here ↦ inr (one, (0, omega arith, refl), here)
        ]
        | inr later ↦ inr (later.0, (suc later.1.0, (let h = later.1.1 in omega arith), later.1.2), later.2)
      ]

any_later : (h g : ℕ) (gs : List ℕ) → list_any (λ k. k == g) gs ≡ true → list_any (λ k. k == g) (h ∷ gs) ≡ true
any_later h g gs e = elim (cases_Bool (h == g)) [
  | inl is ↦ rw is refl
  | inr isnt ↦ rw isnt e
]

next_from : (m k : ℕ) → m ≤ k → (m == k) ≡ false → m + 1 ≤ k
next_from m k low isnt = grind (arith, nat_tests)

module _ (run : Run) (told : List Told) (m : ℕ) where
  pub groups_none : (known : Option Departure) (gs : List ℕ) → first_missing run told m known gs ≡ None
      → (known ≡ None) × ((g : ℕ) → list_any (λ h. h == g) gs ≡ true → missing_at run told m g ≡ None)
  groups_none known [] e = (e, λ g in_none. absurd (false≢true in_none))
  groups_none known (h ∷ gs) e =
      let rest = groups_none (earlier known (missing_at run told m h)) gs e in
      let both = earlier_none known (missing_at run told m h) rest.0 in (
        both.0,
        λ g among. elim (or_cases (h == g) (list_any (λ k. k == g) gs) among) [
          | inl is ↦ let same : h ≡ g = eqb-true h g is in rw (← same) both.1
          | inr later ↦ rest.1 g later
        ],
      )

  pub groups_some : (known : Option Departure) (gs : List ℕ) (d : Departure) → first_missing run told m known gs ≡ Some d
      → (known ≡ Some d) ⊎ ((g : ℕ) × (list_any (λ h. h == g) gs ≡ true) × (missing_at run told m g ≡ Some d))
  groups_some known [] d e = inl e
  groups_some known (h ∷ gs) d e =
      elim (groups_some (earlier known (missing_at run told m h)) gs d e) [
        | inl first ↦ elim (earlier_one known (missing_at run told m h) d first) [
          | inl before ↦ inl before
          | inr here ↦ inr (h, rw (eq-eqb h h refl) refl, here)
        ]
        | inr later ↦ inr (later.0, any_later h later.0 gs later.1, later.2)
      ]

module _ (scenario : Scenario) (run : Run) (told : List Told) where
  pub missing_more : (known : Option Departure) (count m : ℕ) (total : Option Departure) → m < count
      → first_missing_from scenario run told known (count - m) m ≡ total
      → first_missing_from scenario run told (first_missing run told m known (message_at scenario m).destinations) (count - (m + 1)) (m + 1) ≡ total
  missing_more known count m total below so_far = let e : count - m ≡ suc (count - (m + 1)) = omega arith in rw e at so_far

  pub missing_done : (known : Option Departure) (count m : ℕ) (total : Option Departure) → count ≤ m
      → first_missing_from scenario run told known (count - m) m ≡ total → known ≡ total
  missing_done known count m total past so_far = let e : count - m ≡ 0 = omega arith in rw e at so_far

  at_this : (m k g : ℕ) → m ≡ k → ((g : ℕ) → list_any (λ h. h == g) (message_at scenario m).destinations ≡ true → missing_at run told m g ≡ None)
      → GoesTo scenario k g → missing_at run told k g ≡ None
  at_this m k g same none goes = rw (← same) (none g (rw (← same) at goes))

  pub messages_none : (known : Option Departure) (more m : ℕ) → first_missing_from scenario run told known more m ≡ None
      → (known ≡ None) × ((k g : ℕ) → m ≤ k → k < m + more → GoesTo scenario k g → missing_at run told k g ≡ None)
  messages_none known zero m e = (e, λ k g low high goes. absurd (omega arith))
  messages_none known (suc more) m e =
      let rest = messages_none (first_missing run told m known (message_at scenario m).destinations) more (m + 1) e in
      let here = groups_none run told m known (message_at scenario m).destinations rest.0 in (
        here.0,
        λ k g low high goes. elim (cases_Bool (m == k)) [
          | inl is ↦ let same : m ≡ k = eqb-true m k is in at_this m k g same here.1 goes
          | inr isnt ↦ rest.1 k g (next_from m k low isnt) (omega arith) goes
        ],
      )

  pub messages_some : (known : Option Departure) (more m : ℕ) (d : Departure) → first_missing_from scenario run told known more m ≡ Some d
      → (known ≡ Some d) ⊎ ((k : ℕ) × (g : ℕ) × GoesTo scenario k g × (missing_at run told k g ≡ Some d))
  messages_some known zero m d e = inl e
  messages_some known (suc more) m d e =
      elim (messages_some (first_missing run told m known (message_at scenario m).destinations) more (m + 1) d e) [
        | inl first ↦ elim (groups_some run told m known (message_at scenario m).destinations d first) [
          | inl before ↦ inl before
          | inr here ↦ inr (m, here.0, here.1, here.2)
        ]
        | inr later ↦ inr later
      ]

-- the packet at hand stands before those that are left
pub opened_at : (xs : List Packet) (i : ℕ) (x : Packet) → slice_get xs i ≡ Some x → drop i xs ≡ x ∷ drop (i + 1) xs
opened_at xs i x at = rw (get_or_from_slice_get xs i x x at) at (drop_more xs i x (slice_get_within xs i x at))

module _ (p : Packet → Bool) (xs : List Packet) (i : ℕ) (x : Packet) (total : Bool) (at : slice_get xs i ≡ Some x) (so_far : list_all p (drop i xs) ≡ total) where
  opened : (p x && list_all p (drop (i + 1) xs)) ≡ total
  opened = sym (ap (list_all p) (opened_at xs i x at)) ∙ so_far

  pub all_met : p x ≡ false → false ≡ total
  all_met isnt = rw isnt at opened

  pub all_passed : p x ≡ true → list_all p (drop (i + 1) xs) ≡ total
  all_passed is = rw is at opened

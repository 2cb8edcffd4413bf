-- At which ticks the start of a pair's commit may be another one than before.
use Rattle.std.proofs.Common.{◌≡◌, ◌≢◌, ◌⊎◌, ℕ, ◌+◌, ◌<◌, ◌≤◌, ◌==◌, suc, inl, inr, nat_lt, nat_le, Bool, true, false, ◌&&◌, ◌||◌, not, cond, List, [], ◌∷◌, ◌++◌, length, get_or, max, min, map, filter, fold, All, refl, sym, ap, ap₂, subst, ◌∙◌, arith}
use Rattle.std.specs.List.{list_any}
use Rattle.std.proofs.Math.Nat.{max-zero}
use Rattle.std.proofs.lemmas.Bool.{cases_Bool, cases_lt, cond-true, cond-false, lt-ltb, le-ltb, le-leb, ltb-true, leb-true, eqb-true, eq-eqb, and_parts, both_ways, false≢true}
use Rattle.std.proofs.lemmas.Bool.Decides.{nat_tests}
use Rattle.convoy_draft.specs.declared.time.Time.{Time}
use Rattle.convoy_draft.specs.declared.time.Time.TheVariants.{Ticks, Real}
use Rattle.convoy_scenario.specs.Scenario.{Scenario, message_at, message_numbers}
use Rattle.convoy_sim.specs.Times.{Tick, greatest}
use Rattle.convoy_sim.specs.Moments.{next_arrival}
use Rattle.convoy_sim.specs.Delivery.{addressed_to}
use Rattle.convoy_intervals.specs.Bounds.{Tables}
use Rattle.convoy_stamps.specs.declared.pair.Pair.{Pair}
use Rattle.convoy_sure.specs.Windows.{LeadTables}
use Rattle.convoy_sure.specs.SureLeads.{Sure, pair_count, is_earlier, may_be_earlier, sure_after, sure_later, lead_at, top_of}
use Rattle.convoy_starts.specs.Starts.{Start, add_start, arrivals_since, arrives_by, capped, clock_alone, clock_from, clock_high, clock_since, covers, covers_all, lead_by, may_arrive, may_commit, may_have_come, may_start, raise_high, stamp_for, stamp_high, start_of, value_for, window, with_start}
use Rattle.convoy_starts.specs.Changes.{first_after, IsCovered, IsNotSkipped, IsSteady}

-- ---- lists
filter_same : (p q : ℕ → Bool) (zs : List ℕ) → All (λ z. p z ≡ q z) zs → filter p zs ≡ filter q zs
filter_same p q [] same = refl
filter_same p q (z ∷ zs) same =
    ap₂ (λ (b : Bool) (rest : List ℕ). cond b (z ∷ rest) rest) (same 0 z (omega arith)) (filter_same p q zs (λ k d l. same (suc k) d (omega arith)))

map_same : {X Y : Type 0} (f g : X → Y) (xs : List X) → All (λ x. f x ≡ g x) xs → map f xs ≡ map g xs
map_same f g [] same = refl
map_same f g (x ∷ xs) same = ap₂ (λ y ys. y ∷ ys) (same 0 x (omega arith)) (map_same f g xs (λ k d l. same (suc k) d (omega arith)))

any_same : (p q : Start → Bool) (starts : List Start) → ((s : Start) → p s ≡ q s) → list_any p starts ≡ list_any q starts
any_same p q [] same = refl
any_same p q (s ∷ ss) same = ap₂ (λ m n. m || n) (same s) (any_same p q ss same)

any_more : (p : Start → Bool) (starts more : List Start) → list_any p starts ≡ true → list_any p (starts ++ more) ≡ true
any_more p [] more any = absurd (false≢true any)
any_more p (s ∷ ss) more any = elim (cases_Bool (p s)) [
  | inl e ↦ ap (λ m. m || list_any p (ss ++ more)) e
  | inr e ↦ ap (λ m. m || list_any p (ss ++ more)) e ∙ any_more p ss more (sym (ap (λ m. m || list_any p ss) e) ∙ any)
]

any_last : (p : Start → Bool) (starts : List Start) (new : Start) → p new ≡ true → list_any p (starts ++ new ∷ []) ≡ true
any_last p [] new e = ap (λ m. m || false) e
any_last p (s ∷ ss) new e = elim (cases_Bool (p s)) [
  | inl t ↦ ap (λ m. m || list_any p (ss ++ new ∷ [])) t
  | inr t ↦ ap (λ m. m || list_any p (ss ++ new ∷ [])) t ∙ any_last p ss new e
]

-- ---- ticks between which no other one lies
pub lt_same : (a b x : ℕ) → a ≤ b → (a < x → b < x) → nat_lt b x ≡ nat_lt a x
lt_same a b x late past = elim (cases_lt a x) [
  | inl l ↦ lt-ltb b x (past l) ∙ sym (lt-ltb a x l)
  | inr l ↦ le-ltb b x (omega arith) ∙ sym (le-ltb a x l)
]

pub le_same : (a b x : ℕ) → a ≤ b → (a < x → b < x) → nat_le x b ≡ nat_le x a
le_same a b x late past = elim (cases_lt a x) [
  | inl l ↦ let m = past l in late_is x b m ∙ sym (late_is x a l)
  | inr l ↦ le-leb x b (omega arith) ∙ sym (le-leb x a l)
] where
  late_is : (x a : ℕ) → a < x → nat_le x a ≡ false
  late_is x a l = grind (arith, nat_tests, l)

-- a tick is on the same side of the greater of two where it is so of both
lt_both : (a b x y : ℕ) → (a < x → b < x) → (a < y → b < y) → a < max x y → b < max x y
lt_both a b x y first second l = elim (cases_lt a x) [
  | inl m ↦ let n = first m in omega arith
  | inr m ↦ let n = second (omega arith) in omega arith
]

-- ---- the first tick by which an arrival may follow another one
-- it is that tick itself, or the next one, by the two messages
after_is : (time : Time) (z q : ℕ) → ((t : Tick) → first_after time t z q ≡ t) ⊎ ((t : Tick) → first_after time t z q ≡ next_arrival time t)
after_is time z q = elim (cases_Bool (nat_lt q z)) [
  | inl e ↦ inr (λ t. cond-true (nat_lt q z) (next_arrival time t) t e)
  | inr e ↦ inl (λ t. cond-false (nat_lt q z) (next_arrival time t) t e)
]

-- before it the arrival is surely earlier than the other one, ..
earlier_is : (time : Time) (by q t z : ℕ) → is_earlier time by q t z ≡ nat_lt by (first_after time t z q)
earlier_is Real by q t z = elim (after_is Real z q) [
  | inl is ↦ sym (ap (nat_lt by) (is t))
  | inr is ↦ sym (ap (nat_lt by) (is t))
]
earlier_is Ticks by q t z = elim (cases_lt q z) [
  | inl l ↦ ap (λ (m : Bool). nat_lt by t || ((by == t) && m)) (lt-ltb q z l) ∙ no_later by t
      ∙ sym (ap (nat_lt by) (cond-true (nat_lt q z) (t + 1) t (lt-ltb q z l)))
  | inr l ↦ ap (λ (m : Bool). nat_lt by t || ((by == t) && m)) (le-ltb q z l) ∙ sooner by t
      ∙ sym (ap (nat_lt by) (cond-false (nat_lt q z) (t + 1) t (le-ltb q z l)))
] where
  no_later : (by t : ℕ) → (nat_lt by t || ((by == t) && true)) ≡ nat_lt by (t + 1)
  no_later by t = grind (arith, nat_tests)

  sooner : (by t : ℕ) → (nat_lt by t || ((by == t) && false)) ≡ nat_lt by t
  sooner by t = grind (arith, nat_tests)

-- .. and from it on it may be later
may_be_is : (time : Time) (t z by q : ℕ) → (z == q) ≡ false → may_be_earlier time t z by q ≡ nat_le (first_after time t z q) by
may_be_is Real t z by q other = elim (after_is Real z q) [
  | inl is ↦ sym (ap (λ (n : ℕ). nat_le n by) (is t))
  | inr is ↦ sym (ap (λ (n : ℕ). nat_le n by) (is t))
]
may_be_is Ticks t z by q other = elim (cases_lt q z) [
  | inl l ↦ ap (λ (m : Bool). nat_lt t by || ((t == by) && m)) (le-ltb z q (omega arith)) ∙ sooner t by
      ∙ sym (ap (λ (n : ℕ). nat_le n by) (cond-true (nat_lt q z) (t + 1) t (lt-ltb q z l)))
  | inr l ↦
      let less : z < q = elim (cases_lt z q) [
        | inl m ↦ m
        | inr m ↦ absurd (both_ways (z == q) other (eq-eqb z q (omega arith)))
      ] in
      ap (λ (m : Bool). nat_lt t by || ((t == by) && m)) (lt-ltb z q less) ∙ no_later t by
      ∙ sym (ap (λ (n : ℕ). nat_le n by) (cond-false (nat_lt q z) (t + 1) t (le-ltb q z l)))
] where
  sooner : (t by : ℕ) → (nat_lt t by || ((t == by) && false)) ≡ nat_le (t + 1) by
  sooner t by = grind (arith, nat_tests)

  no_later : (t by : ℕ) → (nat_lt t by || ((t == by) && true)) ≡ nat_le t by
  no_later t by = grind (arith, nat_tests)

-- ---- the most of a stamp, where by no tick between two the arrival may follow another one or a start for the first time
module _ (scenario : Scenario) (tables : Tables) (sure : Sure) (q h : ℕ) (a b : Tick) (late : a ≤ b) where
  -- no such tick lies between them
  abbrev pub IsOutside : Tick → Type 0
  IsOutside t = a < t → b < t

  abbrev pub after : ℕ → Tick → Tick
  after z t = first_after scenario.time t z q

  module _ (arrivals : All (λ z. IsOutside (after z (tables.least_arrival z h))) (addressed_to scenario h)) where
    after_same : sure_after scenario tables b q h ≡ sure_after scenario tables a q h
    after_same =
        filter_same (λ z. is_earlier scenario.time b q (tables.least_arrival z h) z) (λ z. is_earlier scenario.time a q (tables.least_arrival z h) z) (addressed_to scenario h)
        (λ k d l. one (get_or (addressed_to scenario h) k d) (arrivals k d l)) where
          one : (z : ℕ) → IsOutside (after z (tables.least_arrival z h))
              → is_earlier scenario.time b q (tables.least_arrival z h) z ≡ is_earlier scenario.time a q (tables.least_arrival z h) z
          one z past =
              earlier_is scenario.time b q (tables.least_arrival z h) z
              ∙ lt_same a b (after z (tables.least_arrival z h)) late past
              ∙ sym (earlier_is scenario.time a q (tables.least_arrival z h) z)

    since_same : (since : Tick) → ((z : ℕ) → IsOutside (after z (tables.least_arrival z h)) → IsOutside (after z (max since (tables.least_arrival z h))))
        → arrivals_since scenario tables b q h since ≡ arrivals_since scenario tables a q h since
    since_same since later =
        filter_same (may_arrive scenario.time tables b q h since) (may_arrive scenario.time tables a q h since) (addressed_to scenario h)
        (λ k d l. one (get_or (addressed_to scenario h) k d) (arrivals k d l)) where
          one : (z : ℕ) → IsOutside (after z (tables.least_arrival z h))
              → may_arrive scenario.time tables b q h since z ≡ may_arrive scenario.time tables a q h since z
          one z past =
              let first : ℕ = max since (tables.least_arrival z h) in
              elim (cases_Bool (z == q)) [
                | inl e ↦ ap (λ (m : Bool). not m && may_be_earlier scenario.time first z b q && nat_le since (tables.greatest_arrival z h)) e
                    ∙ sym (ap (λ (m : Bool). not m && may_be_earlier scenario.time first z a q && nat_le since (tables.greatest_arrival z h)) e)
                | inr e ↦ ap (λ (m : Bool). not (z == q) && m && nat_le since (tables.greatest_arrival z h))
                    (may_be_is scenario.time first z b q e ∙ le_same a b (after z first) late (later z past) ∙ sym (may_be_is scenario.time first z a q e))
              ]

    -- of all messages, ..
    all_same : arrivals_since scenario tables b q h 0 ≡ arrivals_since scenario tables a q h 0
    all_same =
        since_same 0 (λ z past. let first : tables.least_arrival z h ≡ max 0 (tables.least_arrival z h) = omega arith in
        subst (λ (t : Tick). IsOutside (after z t)) first past)

    -- .. and of those after a start
    later_same : (since : Tick) → IsOutside since → IsOutside (next_arrival scenario.time since)
        → arrivals_since scenario tables b q h since ≡ arrivals_since scenario tables a q h since
    later_same since first second =
        since_same since (λ z past. let least : Tick = tables.least_arrival z h in
        elim (after_is scenario.time z q) [
          | inl is ↦ subst IsOutside (sym (is (max since least))) (lt_both a b since least first (subst IsOutside (is least) past))
          | inr is ↦ subst IsOutside (sym (is (max since least) ∙ next_of_both scenario.time since least))
              (lt_both a b (next_arrival scenario.time since) (next_arrival scenario.time least) second (subst IsOutside (is least) past))
        ]) where
          next_of_both : (time : Time) (x y : Tick) → next_arrival time (max x y) ≡ max (next_arrival time x) (next_arrival time y)
          next_of_both Ticks x y = omega arith
          next_of_both Real x y = refl

    module _ (x : ℕ) where
      from_same : (start : Start) → (start.group ≡ h → IsOutside (next_arrival scenario.time start.at))
          → (start.group ≡ h → IsOutside (next_arrival scenario.time (next_arrival scenario.time start.at)))
          → clock_from scenario tables sure x q h b start ≡ clock_from scenario tables sure x q h a start
      from_same start first second =
          let since : Tick = next_arrival scenario.time start.at in
          elim (cases_Bool (start.group == h)) [
            | inl e ↦
                let here : start.group ≡ h = eqb-true start.group h e in
                ap₂ (λ (m : Bool) (zs : List ℕ). cond ((start.group == h) && m && not (start.message == q) && not (start.message == x))
                (window sure.time (λ z. lead_at sure.leads z h) (filter (λ z. not (z == start.message)) zs) (value_for start x q)) 0)
                (le_same a b since late (first here)) (later_same since (first here) (second here))
            | inr e ↦ cond-false (may_start scenario.time x q h b start) (clock_since scenario tables sure x q h b start) 0 (none e b)
                ∙ sym (cond-false (may_start scenario.time x q h a start) (clock_since scenario tables sure x q h a start) 0 (none e a))
          ] where
            none : (start.group == h) ≡ false → (by : Tick) → may_start scenario.time x q h by start ≡ false
            none e by = ap (λ (m : Bool). m && nat_le (next_arrival scenario.time start.at) by && not (start.message == q) && not (start.message == x)) e

      clock_same : (starts : List Start) → All (λ s. s.group ≡ h → IsOutside (next_arrival scenario.time s.at)) starts
          → All (λ s. s.group ≡ h → IsOutside (next_arrival scenario.time (next_arrival scenario.time s.at))) starts
          → clock_high scenario tables sure starts x q h b ≡ clock_high scenario tables sure starts x q h a
      clock_same starts firsts seconds =
          ap₂ (λ (alone : ℕ) (rest : List ℕ). greatest (alone ∷ rest))
          (ap (λ (zs : List ℕ). window sure.time (λ z. lead_at sure.leads z h) zs 0) all_same)
          (map_same (clock_from scenario tables sure x q h b) (clock_from scenario tables sure x q h a) starts
          (λ k d l. from_same (get_or starts k d) (firsts k d l) (seconds k d l)))

      pub stamp_same : (starts : List Start) → All (λ s. s.group ≡ h → IsOutside (next_arrival scenario.time s.at)) starts
          → All (λ s. s.group ≡ h → IsOutside (next_arrival scenario.time (next_arrival scenario.time s.at))) starts
          → stamp_high scenario tables sure starts x q h b ≡ stamp_high scenario tables sure starts x q h a
      stamp_same starts firsts seconds =
          ap₂ (λ (after : List ℕ) (clock : ℕ). min (pair_count scenario) (capped sure.time (max (lead_at sure.leads q h) (top_of (λ z. lead_at sure.leads z h) after)) (clock + 1)))
          after_same (clock_same starts firsts seconds)

-- ---- the start of a pair's commit
module _ (scenario : Scenario) (tables : LeadTables) (sure : Sure) (pair : Pair) where
  abbrev raise : List Start → Tick → ℕ → ℕ
  raise starts tick x = raise_high scenario tables sure starts tick x pair.message pair.group

  -- it is covered where it was, if it gives the same
  covers_same : (barring : Bool) (starts others : List Start) (tick later : Tick) (old : Start)
      → ((x : ℕ) → raise others later x ≡ raise starts tick x)
      → covers old (start_of scenario tables sure barring others later pair) ≡ covers old (start_of scenario tables sure barring starts tick pair)
  covers_same barring starts others tick later old same =
      ap₂ (λ (base : ℕ) (barred : List ℕ). (old.message == pair.message) && (old.group == pair.group) && nat_le base old.base && covers_all old.barred barred)
      (same scenario.target_message)
      (ap (λ (ns : List ℕ). cond barring ns []) (map_same (raise others later) (raise starts tick) (message_numbers scenario) (λ k d l. same (get_or (message_numbers scenario) k d))))

  -- so it is still covered at a later tick by which nothing has changed, ..
  pub covered_again : (barring : Bool) (starts : List Start) (tick later : Tick) → may_commit scenario tables.times tick pair ≡ true
      → IsSteady scenario tables sure starts tick later pair
      → IsCovered scenario tables sure barring starts tick pair → IsCovered scenario tables sure barring starts later pair
  covered_again barring starts tick later may same covered may_later =
      any_same (λ (old : Start). covers old (start_of scenario tables sure barring starts later pair)) (λ (old : Start). covers old (start_of scenario tables sure barring starts tick pair))
      starts (λ old. covers_same barring starts starts tick later old same) ∙ covered may

  -- .. or with a start more that none of its stamps follows
  pub covered_with : (barring : Bool) (starts : List Start) (new : Start) (tick : Tick)
      → ((x : ℕ) → raise (starts ++ new ∷ []) tick x ≡ raise starts tick x)
      → IsCovered scenario tables sure barring starts tick pair → IsCovered scenario tables sure barring (starts ++ new ∷ []) tick pair
  covered_with barring starts new tick same covered may =
      any_same (λ (old : Start). covers old (start_of scenario tables sure barring (starts ++ new ∷ []) tick pair)) (λ (old : Start). covers old (start_of scenario tables sure barring starts tick pair))
      (starts ++ new ∷ []) (λ old. covers_same barring starts (starts ++ new ∷ []) tick tick old same)
      ∙ any_more (λ (old : Start). covers old (start_of scenario tables sure barring starts tick pair)) starts (new ∷ []) (covered may)

  -- a start that an arrival may not follow gives no clock
  unread_same : (starts : List Start) (new : Start) (x q h : ℕ) (by : Tick) → (new.group ≡ h → by < next_arrival scenario.time new.at)
      → stamp_high scenario tables.times sure (starts ++ new ∷ []) x q h by ≡ stamp_high scenario tables.times sure starts x q h by
  unread_same starts new x q h by late =
      ap (λ (clock : ℕ). min (pair_count scenario) (capped sure.time (lead_by scenario tables.times sure q h by) (clock + 1)))
      (pushed f (max 0 (clock_alone scenario tables.times sure q h by)) starts
      ∙ ap (λ n. max (fold max (max 0 (clock_alone scenario tables.times sure q h by)) (map f starts)) n) none
      ∙ max-zero (fold max (max 0 (clock_alone scenario tables.times sure q h by)) (map f starts))) where
        f : Start → ℕ
        f = clock_from scenario tables.times sure x q h by

        pushed : (f : Start → ℕ) (b : ℕ) (ys : List Start) → fold max b (map f (ys ++ new ∷ [])) ≡ max (fold max b (map f ys)) (f new)
        pushed f b [] = refl
        pushed f b (y ∷ ys) = pushed f (max b (f y)) ys

        before : (m n : ℕ) → n < m → nat_le m n ≡ false
        before m n l = grind (arith, nat_tests, l)

        second : (m n : Bool) → n ≡ false → (m && n) ≡ false
        second true n e = e
        second false n e = refl

        may_not : may_start scenario.time x q h by new ≡ false
        may_not =
            ap (λ (m : Bool). m && not (new.message == q) && not (new.message == x))
            (elim (cases_Bool (new.group == h)) [
              | inl e ↦ second (new.group == h) (nat_le (next_arrival scenario.time new.at) by)
                  (before (next_arrival scenario.time new.at) by (late (eqb-true new.group h e)))
              | inr e ↦ ap (λ (m : Bool). m && nat_le (next_arrival scenario.time new.at) by) e
            ])

        none : f new ≡ 0
        none = cond-false (may_start scenario.time x q h by new) (clock_since scenario tables.times sure x q h by new) 0 may_not

  -- so a commit raises the clock as before with a start more that none of its stamps follows
  pub raise_with : (starts : List Start) (new : Start) (tick : Tick)
      → (new.group ≢ pair.group → 0 < tick → arrives_by tables tick pair.message pair.group new.group < next_arrival scenario.time new.at)
      → (x : ℕ) → raise (starts ++ new ∷ []) tick x ≡ raise starts tick x
  raise_with starts new tick unread x =
      ap (λ (stamps : List ℕ). capped sure.time (top_of (λ z. lead_at sure.leads z pair.group) (sure_later scenario tables.times tick pair.group)) (greatest stamps))
      (map_same (stamp_for scenario tables sure (starts ++ new ∷ []) tick x pair.message pair.group) (stamp_for scenario tables sure starts tick x pair.message pair.group)
      (message_at scenario pair.message).destinations
      (λ k d l. one (get_or (message_at scenario pair.message).destinations k d))) where
        one : (f : ℕ) → stamp_for scenario tables sure (starts ++ new ∷ []) tick x pair.message pair.group f ≡ stamp_for scenario tables sure starts tick x pair.message pair.group f
        one f =
            let most : List Start → ℕ = λ ss. stamp_high scenario tables.times sure ss x pair.message f (arrives_by tables tick pair.message pair.group f) in
            elim (cases_Bool (may_have_come tick f pair.group)) [
              | inl e ↦
                  let parts = and_parts (not (f == pair.group)) (nat_lt 0 tick) e in
                  ap (λ (n : ℕ). cond (may_have_come tick f pair.group) n 0)
                  (unread_same starts new x pair.message f (arrives_by tables tick pair.message pair.group f)
                  (λ same. subst (λ (h : ℕ). arrives_by tables tick pair.message pair.group h < next_arrival scenario.time new.at) same
                  (unread (λ own. both_ways (f == pair.group) (no (f == pair.group) parts.0) (eq-eqb f pair.group (sym same ∙ own))) (ltb-true 0 tick parts.1))))
              | inr e ↦ cond-false (may_have_come tick f pair.group) (most (starts ++ new ∷ [])) 0 e
                  ∙ sym (cond-false (may_have_come tick f pair.group) (most starts) 0 e)
            ] where
              no : (m : Bool) → not m ≡ true → m ≡ false
              no true e = sym e
              no false e = refl

  -- a stamp of its own tick or later follows no start of that tick
  pub own_unread : (tick : Tick) (h : ℕ) (at : Tick) → at ≡ tick → 0 < tick → arrives_by tables tick pair.message pair.group h < next_arrival scenario.time at
  own_unread tick h at is some = let rise = no_sooner scenario.time at in omega arith where
    no_sooner : (time : Time) (t : Tick) → t ≤ next_arrival time t
    no_sooner Ticks t = omega arith
    no_sooner Real t = omega arith

  -- a start covers itself
  covers_itself : (s : Start) → covers s s ≡ true
  covers_itself s = four (s.message == s.message) (s.group == s.group) (nat_le s.base s.base) (covers_all s.barred s.barred)
      (eq-eqb s.message s.message refl) (eq-eqb s.group s.group refl) (le-leb s.base s.base (omega arith)) (all s.barred) where
        all : (xs : List ℕ) → covers_all xs xs ≡ true
        all [] = refl
        all (x ∷ xs) = ap₂ (λ m n. m && n) (le-leb x x (omega arith)) (all xs)

        four : (a b c d : Bool) → a ≡ true → b ≡ true → c ≡ true → d ≡ true → (a && b && c && d) ≡ true
        four true true true true e f g h = refl
        four true true true false e f g h = h
        four true true false d e f g h = g
        four true false c d e f g h = f
        four false b c d e f g h = e

  -- where a start covers it, none is added
  pub add_same : (barring : Bool) (starts : List Start) (tick : Tick) → IsCovered scenario tables sure barring starts tick pair
      → add_start scenario tables sure barring tick starts pair ≡ starts
  add_same barring starts tick covered =
      let new : Start = start_of scenario tables sure barring starts tick pair in
      elim (cases_Bool (may_commit scenario tables.times tick pair)) [
        | inl e ↦ cond-true (may_commit scenario tables.times tick pair) (with_start starts new) starts e
            ∙ cond-true (list_any (λ (old : Start). covers old new) starts) starts (starts ++ new ∷ []) (covered e)
        | inr e ↦ cond-false (may_commit scenario tables.times tick pair) (with_start starts new) starts e
      ]

  -- what is there once it is added: no more starts, and one covers it, or one more, of that tick and group, that does
  abbrev pub WasAdded : Bool → List Start → Tick → Type 0
  WasAdded barring starts tick =
      ((add_start scenario tables sure barring tick starts pair ≡ starts) × IsCovered scenario tables sure barring starts tick pair)
      ⊎ ((new : Start) × (add_start scenario tables sure barring tick starts pair ≡ starts ++ new ∷ []) × (new.at ≡ tick) × (new.group ≡ pair.group)
      × IsCovered scenario tables sure barring (starts ++ new ∷ []) tick pair)

  pub was_added : (barring : Bool) (starts : List Start) (tick : Tick) → WasAdded barring starts tick
  was_added barring starts tick =
      let new : Start = start_of scenario tables sure barring starts tick pair in
      let own : (x : ℕ) → raise (starts ++ new ∷ []) tick x ≡ raise starts tick x =
      raise_with starts new tick (λ away some. own_unread tick pair.group tick refl some) in
      elim (cases_Bool (may_commit scenario tables.times tick pair)) [
        | inr e ↦ inl (
          cond-false (may_commit scenario tables.times tick pair) (with_start starts new) starts e,
          λ may. absurd (both_ways (may_commit scenario tables.times tick pair) e may),
        )
        | inl e ↦ elim (cases_Bool (list_any (λ (old : Start). covers old new) starts)) [
          | inl any ↦ inl (
            cond-true (may_commit scenario tables.times tick pair) (with_start starts new) starts e
                ∙ cond-true (list_any (λ (old : Start). covers old new) starts) starts (starts ++ new ∷ []) any,
            λ may. any,
          )
          | inr none ↦ inr (
            new,
            cond-true (may_commit scenario tables.times tick pair) (with_start starts new) starts e
                ∙ cond-false (list_any (λ (old : Start). covers old new) starts) starts (starts ++ new ∷ []) none,
            refl,
            refl,
            λ may. any_last (λ (old : Start). covers old (start_of scenario tables sure barring (starts ++ new ∷ []) tick pair)) starts new
                (covers_same barring starts (starts ++ new ∷ []) tick tick new own ∙ covers_itself new),
          )
        ]
      ]

  -- ---- the ticks of changes
  pub commits_from : (tick : Tick) → may_commit scenario tables.times tick pair ≡ true → tables.times.least_settling pair.message pair.group ≤ tick
  commits_from tick may =
      let first : Bool = not (pair.message == scenario.target_message) in
      let low : Bool = nat_le (tables.times.least_settling pair.message pair.group) tick in
      leb-true (tables.times.least_settling pair.message pair.group) tick
      (and_parts first low (and_parts (first && low) (nat_le tick (tables.times.greatest_settling pair.message pair.group)) may).0).1

  -- the next stamp that may follow a commit at group h
  pub reading_late : (h : ℕ) (next later : Tick) → 0 < next
      → later < max (next + max 1 (tables.least_proposal pair.message h pair.group)) (tables.times.least_settling pair.message pair.group)
      → may_commit scenario tables.times later pair ≡ true → arrives_by tables later pair.message pair.group h < next
  reading_late h next later some soon may = let first = commits_from later may in omega arith

  -- of the group's own stamp nothing is read
  pub own_stamp : (starts : List Start) (tick later : Tick) (x f : ℕ) → f ≡ pair.group
      → stamp_for scenario tables sure starts later x pair.message pair.group f ≡ stamp_for scenario tables sure starts tick x pair.message pair.group f
  own_stamp starts tick later x f same = none later ∙ sym (none tick) where
    none : (at : Tick) → stamp_for scenario tables sure starts at x pair.message pair.group f ≡ 0
    none at = ap (λ (m : Bool). cond (not m && nat_lt 0 at) (stamp_high scenario tables.times sure starts x pair.message f (arrives_by tables at pair.message pair.group f)) 0) (eq-eqb f pair.group same)

  -- until what its arrival at another group may follow next has come by a proposal, its stamp is the same
  pub stamp_for_same : (starts : List Start) (tick later : Tick) (x f next : ℕ) → 0 < tick → tick ≤ later
      → arrives_by tables tick pair.message pair.group f < next
      → All (λ z. IsNotSkipped (arrives_by tables tick pair.message pair.group f) next (first_after scenario.time (tables.times.least_arrival z f) z pair.message)) (addressed_to scenario f)
      → All (λ s. s.group ≡ f → IsNotSkipped (arrives_by tables tick pair.message pair.group f) next (next_arrival scenario.time s.at)) starts
      → All (λ s. s.group ≡ f → IsNotSkipped (arrives_by tables tick pair.message pair.group f) next (next_arrival scenario.time (next_arrival scenario.time s.at))) starts
      → (tables.times.greatest_arrival pair.message f < next) ⊎ (later < next + max 1 (tables.least_proposal pair.message f pair.group))
      → stamp_for scenario tables sure starts later x pair.message pair.group f ≡ stamp_for scenario tables sure starts tick x pair.message pair.group f
  stamp_for_same starts tick later x f next some late past arrivals firsts seconds soon =
      let a : ℕ = arrives_by tables tick pair.message pair.group f in
      let b : ℕ = arrives_by tables later pair.message pair.group f in
      let before : b < next = elim soon [ inl l ↦ omega arith | inr l ↦ omega arith ] in
      let outside : (t : Tick) → IsNotSkipped a next t → a < t → b < t = λ t met l. let m = met l in omega arith in
      ap₂ (λ (m : Bool) (stamp : ℕ). cond (not (f == pair.group) && m) stamp 0)
      (lt-ltb 0 later (omega arith) ∙ sym (lt-ltb 0 tick some))
      (stamp_same scenario tables.times sure pair.message f a b (omega arith)
      (λ k d l. outside (first_after scenario.time (tables.times.least_arrival (get_or (addressed_to scenario f) k d) f) (get_or (addressed_to scenario f) k d) pair.message) (arrivals k d l)) x starts
      (λ k d l same. outside (next_arrival scenario.time (get_or starts k d).at) (firsts k d l same))
      (λ k d l same. outside (next_arrival scenario.time (next_arrival scenario.time (get_or starts k d).at)) (seconds k d l same)))

  -- nor does the stamp change where the message has come to the group by then in any case
  pub stamp_for_last : (starts : List Start) (tick later : Tick) (x f : ℕ) → 0 < tick → tick ≤ later
      → tables.times.greatest_arrival pair.message f ≤ arrives_by tables tick pair.message pair.group f
      → stamp_for scenario tables sure starts later x pair.message pair.group f ≡ stamp_for scenario tables sure starts tick x pair.message pair.group f
  stamp_for_last starts tick later x f some late last =
      let same : arrives_by tables later pair.message pair.group f ≡ arrives_by tables tick pair.message pair.group f = omega arith in
      ap₂ (λ (m : Bool) (by : ℕ). cond (not (f == pair.group) && m) (stamp_high scenario tables.times sure starts x pair.message f by) 0)
      (lt-ltb 0 later (omega arith) ∙ sym (lt-ltb 0 tick some)) same

  -- so it raises the clock as before until one of these stamps changes, or a message surely arrives no later any more
  pub steady : (starts : List Start) (tick later : Tick) → tick ≤ later
      → All (λ z. tick < tables.times.least_arrival z pair.group → later < tables.times.least_arrival z pair.group) (addressed_to scenario pair.group)
      → ((x k : ℕ) → k < length (message_at scenario pair.message).destinations
      → stamp_for scenario tables sure starts later x pair.message pair.group (get_or (message_at scenario pair.message).destinations k 0)
      ≡ stamp_for scenario tables sure starts tick x pair.message pair.group (get_or (message_at scenario pair.message).destinations k 0))
      → IsSteady scenario tables sure starts tick later pair
  steady starts tick later late arrivals same x =
      ap₂ (λ (zs stamps : List ℕ). capped sure.time (top_of (λ z. lead_at sure.leads z pair.group) zs) (greatest stamps))
      (filter_same (λ z. nat_lt later (tables.times.least_arrival z pair.group)) (λ z. nat_lt tick (tables.times.least_arrival z pair.group)) (addressed_to scenario pair.group)
      (λ k d l. lt_same tick later (tables.times.least_arrival (get_or (addressed_to scenario pair.group) k d) pair.group) late (arrivals k d l)))
      (map_by (stamp_for scenario tables sure starts later x pair.message pair.group) (stamp_for scenario tables sure starts tick x pair.message pair.group)
      (message_at scenario pair.message).destinations (same x)) where
        map_by : (f g : ℕ → ℕ) (xs : List ℕ) → ((k : ℕ) → k < length xs → f (get_or xs k 0) ≡ g (get_or xs k 0)) → map f xs ≡ map g xs
        map_by f g [] each = refl
        map_by f g (x ∷ xs) each = ap₂ (λ y ys. y ∷ ys) (each 0 (omega arith)) (map_by f g xs (λ k l. each (suc k) (omega arith)))

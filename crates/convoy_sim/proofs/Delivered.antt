-- Delivery, as it is found from the messages that are ahead.
use Rattle.std.proofs.Common.{◌≡◌, ℕ, ◌+◌, ◌-◌, ◌<◌, ◌≤◌, max, Bool, true, false, ◌&&◌, inl, inr, List, [], ◌∷◌, map, filter, fold, length, refl, sym, ap, ap₂, ◌∙◌, arith}
use Rattle.std.specs.List.{range_with_len}
use Rattle.std.proofs.lemmas.Bool.{cases_Bool}
use Rattle.convoy_scenario.specs.Scenario.{Scenario, message_at, message_numbers, is_addressed}
use Rattle.convoy_scenario.specs.WellFormed.{IsScenario}
use Rattle.convoy_packets.specs.Assignment.{Schedule}
use Rattle.convoy_sim.specs.Times.{settle}
use Rattle.convoy_sim.specs.Stamps.{is_less, local_stamp, final_stamp}
use Rattle.convoy_sim.specs.Delivery.{deliver}
use Rattle.convoy_scenario.specs.Scenario.{GoesTo}
use Rattle.convoy_sim.specs.StampTables.{StampTable, is_ahead}
use Rattle.convoy_sim.specs.Deliveries.{TellsAhead}
use Rattle.convoy_sim.proofs.Membership.{IsIn, filter_keeps, filter_drops, in_of_range}
use Rattle.convoy_sim.proofs.DeliveryTick.{delivery_law}
use Rattle.convoy_sim.proofs.Ranges.{range_next, range_end}

-- ---- one message more
pub ahead_more : (settles : ℕ → ℕ) (ahead : ℕ → Bool) (tick i n : ℕ) → i < n → ahead i ≡ true
    → fold max (max tick (settles i)) (map settles (filter ahead (range_with_len (i + 1) (n - (i + 1)))))
    ≡ fold max tick (map settles (filter ahead (range_with_len i (n - i))))
ahead_more settles ahead tick i n l e =
    ap (λ ms. fold max tick (map settles ms))
    (sym (filter_keeps ahead i (range_with_len (i + 1) (n - (i + 1))) e) ∙ ap (filter ahead) (sym (range_next i n l)))

pub ahead_not_more : (settles : ℕ → ℕ) (ahead : ℕ → Bool) (tick i n : ℕ) → i < n → ahead i ≡ false
    → fold max tick (map settles (filter ahead (range_with_len (i + 1) (n - (i + 1)))))
    ≡ fold max tick (map settles (filter ahead (range_with_len i (n - i))))
ahead_not_more settles ahead tick i n l e =
    ap (λ ms. fold max tick (map settles ms))
    (sym (filter_drops ahead i (range_with_len (i + 1) (n - (i + 1))) e) ∙ ap (filter ahead) (sym (range_next i n l)))

pub ahead_end : (settles : ℕ → ℕ) (ahead : ℕ → Bool) (tick i n : ℕ) → n ≤ i
    → tick ≡ fold max tick (map settles (filter ahead (range_with_len i (n - i))))
ahead_end settles ahead tick i n l = ap (λ ms. fold max tick (map settles (filter ahead ms))) (sym (range_end i n l))

-- ---- the whole
-- tests that agree on the elements keep the same
filter_same : (p q : ℕ → Bool) (xs : List ℕ) → ((x : ℕ) → IsIn x xs → p x ≡ q x) → filter p xs ≡ filter q xs
filter_same p q [] h = refl
filter_same p q (x ∷ xs) h =
    let rest = filter_same p q xs (λ y i. h y (inr i)) in
    elim (cases_Bool (q x)) [
      | inl e ↦ filter_keeps p x xs (h x (inl refl) ∙ e) ∙ ap (λ l. x ∷ l) rest ∙ sym (filter_keeps q x xs e)
      | inr e ↦ filter_drops p x xs (h x (inl refl) ∙ e) ∙ rest ∙ sym (filter_drops q x xs e)
    ]

filter_twice : (p q : ℕ → Bool) (xs : List ℕ) → filter (λ x. p x && q x) xs ≡ filter q (filter p xs)
filter_twice p q [] = refl
filter_twice p q (x ∷ xs) =
    let rest = filter_twice p q xs in
    elim (cases_Bool (p x)) [
      | inr e ↦ filter_drops (λ y. p y && q y) x xs (ap (λ b. b && q x) e) ∙ rest ∙ ap (filter q) (sym (filter_drops p x xs e))
      | inl e ↦ elim (cases_Bool (q x)) [
        | inl f ↦ filter_keeps (λ y. p y && q y) x xs (ap₂ (λ a b. a && b) e f) ∙ ap (λ l. x ∷ l) rest
            ∙ sym (filter_keeps q x (filter p xs) f) ∙ ap (filter q) (sym (filter_keeps p x xs e))
        | inr f ↦ filter_drops (λ y. p y && q y) x xs (ap₂ (λ a b. a && b) e f) ∙ rest
            ∙ sym (filter_drops q x (filter p xs) f) ∙ ap (filter q) (sym (filter_keeps p x xs e))
      ]
    ]

pub delivered_from : (plan : Scenario) (schedule : Schedule) → IsScenario plan → (m g : ℕ) → GoesTo plan m g → (table : StampTable)
    → TellsAhead plan schedule m g table
    → fold max (settle plan schedule m g) (map (λ n. settle plan schedule n g)
    (filter (is_ahead table g (final_stamp plan schedule m)) (range_with_len 0 (length plan.multicasts))))
    ≡ deliver plan schedule m g
delivered_from plan schedule well m g goes table told =
    let addressed : ℕ → Bool = λ n. is_addressed (message_at plan n) g in
    let less : ℕ → Bool = λ n. is_less (local_stamp plan schedule n g) (final_stamp plan schedule m) in
    let settles : ℕ → ℕ = λ n. settle plan schedule n g in
    let first : max 0 (settle plan schedule m g) ≡ settle plan schedule m g = omega arith in
    ap (λ ms. fold max (settle plan schedule m g) (map settles ms))
    (filter_same (is_ahead table g (final_stamp plan schedule m)) (λ n. addressed n && less n) (message_numbers plan)
    (λ n i. told.ahead n (let r = in_of_range n 0 (length plan.multicasts) i in omega arith))
    ∙ filter_twice addressed less (message_numbers plan))
    ∙ ap (λ t. fold max t (map settles (filter less (filter addressed (message_numbers plan))))) (sym first)
    ∙ sym (delivery_law plan schedule well m g goes)

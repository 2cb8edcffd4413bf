-- Stamps rise no further by tables that allow less: each number is greater by no more than the message's sure time is.
use Rattle.std.proofs.Common.{◌≡◌, ℕ, ◌+◌, ◌-◌, ◌≤◌, max, min, Bool, true, false, cond, not, ◌==◌, ◌&&◌, nat_le, inl, inr, List, [], ◌∷◌, length, map, filter, fold, refl, sym, subst, arith}
use Rattle.std.specs.List.{range_with_len}
use Rattle.std.proofs.lemmas.Bool.{cases_Bool, cases_lt, cond-true, cond-false, and_from, and_parts, or_cases, or_left, or_right, eq-eqb, eqb-true, le-leb, leb-true}
use Rattle.convoy_scenario.specs.Scenario.{Scenario, message_at}
use Rattle.convoy_sim.specs.Times.{greatest}
use Rattle.convoy_sim.specs.Moments.{next_arrival}
use Rattle.convoy_sim.specs.Delivery.{addressed_to}
use Rattle.convoy_sim.proofs.Membership.{IsIn, in-map, in_of_map, in-range, in_of_range, in_greatest, greatest_most}
use Rattle.convoy_stamps.proofs.Arrivals.{next_rises}
use Rattle.convoy_sure.specs.Windows.{LeadTables}
use Rattle.convoy_sure.specs.SureLeads.{Sure, may_be_earlier, lead_at, top_of, pair_count, sure_after, sure_later}
use Rattle.convoy_starts.specs.Starts.{capped, may_be_above, room_above, window, may_arrive, arrivals_since, Start, barred_at, value_for, clock_alone, clock_since, may_start, clock_from, clock_high, lead_by, stamp_high, arrives_by, may_have_come, stamp_for, raise_high}
use Rattle.convoy_starts.proofs.Caps.{least_over}
use Rattle.convoy_laws.proofs.Among.{AreAmong, among_filtered, among_passed, is_within_greatest, greatest_is_within}
use Rattle.convoy_laws.proofs.Firsts.{may_be_earlier_too}
use Rattle.convoy_laws.proofs.TighterWindows.{IsTighter}
use Rattle.convoy_laws.proofs.TighterSure.{some_from, top_rises, after_among, later_among}

-- ---- caps and windows
capped_grows : (s t lead more v w : ℕ) → s ≤ t → lead ≤ more → w ≤ v + (t - s) → capped t more w ≤ capped s lead v + (t - s)
capped_grows s t lead more v w rise high grow = elim (cases_Bool (lead == 0)) [
  | inl e ↦ elim (cases_Bool (more == 0)) [
    | inl f ↦ omega (arith, cond-true (lead == 0) v (min v (s + 1 - lead)) e, cond-true (more == 0) w (min w (t + 1 - more)) f)
    | inr f ↦ omega (arith, cond-true (lead == 0) v (min v (s + 1 - lead)) e, cond-false (more == 0) w (min w (t + 1 - more)) f)
  ]
  | inr e ↦
      let some = some_from lead e in
      elim (cases_Bool (more == 0)) [
        | inl f ↦ let none = eqb-true more 0 f in absurd (omega (arith, none))
        | inr f ↦ omega (arith, cond-false (lead == 0) v (min v (s + 1 - lead)) e, cond-false (more == 0) w (min w (t + 1 - more)) f)
      ]
]

fold_min_first : (a : ℕ) (xs : List ℕ) → fold min a xs ≤ a
fold_min_first a [] = omega arith
fold_min_first a (x ∷ xs) = let rest = fold_min_first (min a x) xs in omega arith

fold_min_in : (a x : ℕ) (xs : List ℕ) → IsIn x xs → fold min a xs ≤ x
fold_min_in a x [] i = absurd i
fold_min_in a x (y ∷ ys) (inl e) = let rest = fold_min_first (min a y) ys in omega (arith, e)
fold_min_in a x (y ∷ ys) (inr i) = fold_min_in (min a y) x ys i

above_too : (s t lead more c : ℕ) → s ≤ t → lead ≤ more → may_be_above t (c + (t - s)) more ≡ true → may_be_above s c lead ≡ true
above_too s t lead more c rise high above = elim (or_cases (more == 0) (nat_le (c + (t - s) + more) t) above) [
  | inl e ↦ let none = eqb-true more 0 e in or_left (lead == 0) (nat_le (c + lead) s) (eq-eqb lead 0 (omega (arith, none)))
  | inr e ↦ let room = leb-true (c + (t - s) + more) t e in or_right (lead == 0) (nat_le (c + lead) s) (le-leb (c + lead) s (omega arith))
]

window_grows : (s t : ℕ) (lead more : ℕ → ℕ) (zs ws : List ℕ) (v w : ℕ) → s ≤ t → ((z : ℕ) → lead z ≤ more z) → AreAmong ws zs → w ≤ v + (t - s)
    → window t more ws w ≤ window s lead zs v + (t - s)
window_grows s t lead more zs ws v w rise high among grow =
    let new : ℕ = window t more ws w in
    let first : new ≤ w + length ws = fold_min_first (w + length ws) (map (room_above t more ws) (range_with_len w (length ws))) in
    let few = among.shorter in
    let all = least_over (new - (t - s)) (v + length zs) (map (room_above s lead zs) (range_with_len v (length zs))) (omega arith) (λ x i.
    let r = in_of_map (room_above s lead zs) x (range_with_len v (length zs)) i in
    subst (λ k. new - (t - s) ≤ k) r.2 (each r.0 (in_of_range r.0 v (length zs) r.1).0)) in
    omega arith where
      each : (c : ℕ) → v ≤ c → window t more ws w - (t - s) ≤ c + length (filter (λ z. may_be_above s c (lead z)) zs)
      each c low =
          let first : window t more ws w ≤ w + length ws = fold_min_first (w + length ws) (map (room_above t more ws) (range_with_len w (length ws))) in
          elim (cases_lt (c + (t - s)) (w + length ws)) [
            | inr past ↦ omega arith
            | inl inside ↦
                let least : window t more ws w ≤ c + (t - s) + length (filter (λ z. may_be_above t (c + (t - s)) (more z)) ws) =
                fold_min_in (w + length ws) (room_above t more ws (c + (t - s))) (map (room_above t more ws) (range_with_len w (length ws)))
                (in-map (room_above t more ws) (c + (t - s)) (range_with_len w (length ws)) (in-range (c + (t - s)) w (length ws) (omega arith) inside)) in
                let count = among.counts (λ z. may_be_above t (c + (t - s)) (more z)) (λ z. may_be_above s c (lead z))
                (λ z i above. above_too s t (lead z) (more z) c rise (high z) above) in
                omega arith
          ]

-- ---- what is sure, and starts
-- each lead of the second is no less, and its sure time
pub record HaveRisen (old new : Sure) : Type 0 where
  pub leads : (m g : ℕ) → lead_at old.leads m g ≤ lead_at new.leads m g
  pub time : old.time ≤ new.time

-- the first start gives all that the second one gives, but for the number by which the sure time is greater
pub record IsServed (grown : ℕ) (old new : Start) : Type 0 where
  pub at : old.at ≤ new.at
  pub message : old.message ≡ new.message
  pub group : old.group ≡ new.group
  pub base : new.base ≤ old.base + grown
  pub barred : (x : ℕ) → barred_at new x ≤ barred_at old x + grown

-- each start of the second list is so served by one of the first
abbrev pub AreServed : ℕ → List Start → List Start → Type 0
AreServed grown olds news = (new : Start) → IsIn new news → (old : Start) × IsIn old olds × IsServed grown old new

-- ---- stamps
if_grows : (test : Bool) (a b grown : ℕ) → b ≤ a + grown → cond test b 0 ≤ cond test a 0 + grown
if_grows true a b grown l = l
if_grows false a b grown l = omega arith

stamp_cap : (limit a b grown : ℕ) → b ≤ a + grown → min limit b ≤ min limit a + grown
stamp_cap limit a b grown l = omega arith

module _ (scenario : Scenario) (outer inner : LeadTables) (tight : IsTighter outer inner) (wide close : Sure) (risen : HaveRisen wide close) where
  abbrev pub grown : ℕ
  grown = close.time - wide.time

  -- no more messages may arrive at a group before one that arrives there sooner, and after a later tick
  arrivals_among : (tick sooner q h since from : ℕ) → sooner ≤ tick → from ≤ since
      → AreAmong (arrivals_since scenario inner.times sooner q h since) (arrivals_since scenario outer.times tick q h from)
  arrivals_among tick sooner q h since from soon late =
      among_passed (may_arrive scenario.time inner.times sooner q h since) (may_arrive scenario.time outer.times tick q h from) (addressed_to scenario h) (λ z i t.
      let low = tight.arrival_low z h in
      let high = tight.arrival_high z h in
      let old_first : ℕ = max from (outer.times.least_arrival z h) in
      let new_first : ℕ = max since (inner.times.least_arrival z h) in
      let parts = and_parts (not (z == q) && may_be_earlier scenario.time new_first z sooner q) (nat_le since (inner.times.greatest_arrival z h)) t in
      let more = and_parts (not (z == q)) (may_be_earlier scenario.time new_first z sooner q) parts.0 in
      let last = leb-true since (inner.times.greatest_arrival z h) parts.1 in
      and_from (not (z == q) && may_be_earlier scenario.time old_first z tick q) (nat_le from (outer.times.greatest_arrival z h))
      (and_from (not (z == q)) (may_be_earlier scenario.time old_first z tick q) more.0
      (may_be_earlier_too scenario.time new_first old_first sooner tick z q (omega arith) soon more.1))
      (le-leb from (outer.times.greatest_arrival z h) (omega arith)))

  alone_grows : (q h tick sooner : ℕ) → sooner ≤ tick → clock_alone scenario inner.times close q h sooner ≤ clock_alone scenario outer.times wide q h tick + grown
  alone_grows q h tick sooner soon =
      window_grows wide.time close.time (λ z. lead_at wide.leads z h) (λ z. lead_at close.leads z h)
      (arrivals_since scenario outer.times tick q h 0) (arrivals_since scenario inner.times sooner q h 0) 0 0 risen.time (λ z. risen.leads z h)
      (arrivals_among tick sooner q h 0 0 soon (omega arith)) (omega arith)

  value_grows : (x q : ℕ) (old new : Start) → IsServed grown old new → value_for new x q ≤ value_for old x q + grown
  value_grows x q old new served =
      let base = served.base in
      let one = served.barred x in
      let other = served.barred q in
      omega arith

  since_grows : (x q h tick sooner : ℕ) (old new : Start) → sooner ≤ tick → IsServed grown old new
      → clock_since scenario inner.times close x q h sooner new ≤ clock_since scenario outer.times wide x q h tick old + grown
  since_grows x q h tick sooner old new soon served =
      let from : ℕ = next_arrival scenario.time old.at in
      let since : ℕ = next_arrival scenario.time new.at in
      let old_ones : List ℕ = arrivals_since scenario outer.times tick q h from in
      let new_ones : List ℕ = arrivals_since scenario inner.times sooner q h since in
      window_grows wide.time close.time (λ z. lead_at wide.leads z h) (λ z. lead_at close.leads z h)
      (filter (λ z. not (z == old.message)) old_ones) (filter (λ z. not (z == new.message)) new_ones)
      (value_for old x q) (value_for new x q) risen.time (λ z. risen.leads z h)
      (among_filtered new_ones old_ones (λ z. not (z == new.message)) (λ z. not (z == old.message))
      (arrivals_among tick sooner q h since from soon (next_rises scenario.time old.at new.at served.at))
      (λ z i t. subst (λ m. not (z == m) ≡ true) (sym served.message) t))
      (value_grows x q old new served)

  starts_too : (x q h tick sooner : ℕ) (old new : Start) → sooner ≤ tick → IsServed grown old new
      → may_start scenario.time x q h sooner new ≡ true → may_start scenario.time x q h tick old ≡ true
  starts_too x q h tick sooner old new soon served t =
      let from : ℕ = next_arrival scenario.time old.at in
      let since : ℕ = next_arrival scenario.time new.at in
      let late = next_rises scenario.time old.at new.at served.at in
      let one = and_parts ((new.group == h) && nat_le since sooner && not (new.message == q)) (not (new.message == x)) t in
      let two = and_parts ((new.group == h) && nat_le since sooner) (not (new.message == q)) one.0 in
      let three = and_parts (new.group == h) (nat_le since sooner) two.0 in
      let by = leb-true since sooner three.1 in
      and_from ((old.group == h) && nat_le from tick && not (old.message == q)) (not (old.message == x))
      (and_from ((old.group == h) && nat_le from tick) (not (old.message == q))
      (and_from (old.group == h) (nat_le from tick) (subst (λ g. (g == h) ≡ true) (sym served.group) three.0) (le-leb from tick (omega arith)))
      (subst (λ m. not (m == q) ≡ true) (sym served.message) two.1))
      (subst (λ m. not (m == x) ≡ true) (sym served.message) one.1)

  module _ (olds news : List Start) (served : AreServed grown olds news) where
    from_grows : (x q h tick sooner : ℕ) → sooner ≤ tick → (new : Start) → IsIn new news
        → clock_from scenario inner.times close x q h sooner new ≤ clock_high scenario outer.times wide olds x q h tick + grown
    from_grows x q h tick sooner soon new i = elim (cases_Bool (may_start scenario.time x q h sooner new)) [
      | inr e ↦ omega (arith, cond-false (may_start scenario.time x q h sooner new) (clock_since scenario inner.times close x q h sooner new) 0 e)
      | inl e ↦
          let by = served new i in
          let old : Start = by.0 in
          let one = since_grows x q h tick sooner old new soon by.2 in
          let old_may = starts_too x q h tick sooner old new soon by.2 e in
          let most : clock_from scenario outer.times wide x q h tick old ≤ clock_high scenario outer.times wide olds x q h tick =
          is_within_greatest (clock_from scenario outer.times wide x q h tick old)
          (clock_alone scenario outer.times wide q h tick ∷ map (clock_from scenario outer.times wide x q h tick) olds)
          (inr (in-map (clock_from scenario outer.times wide x q h tick) old olds by.1)) in
          omega (
            arith,
            cond-true (may_start scenario.time x q h sooner new) (clock_since scenario inner.times close x q h sooner new) 0 e,
            cond-true (may_start scenario.time x q h tick old) (clock_since scenario outer.times wide x q h tick old) 0 old_may,
          )
    ]

    clock_grows : (x q h tick sooner : ℕ) → sooner ≤ tick
        → clock_high scenario inner.times close news x q h sooner ≤ clock_high scenario outer.times wide olds x q h tick + grown
    clock_grows x q h tick sooner soon =
        let most : ℕ = clock_high scenario outer.times wide olds x q h tick in
        greatest_is_within (most + grown) (clock_alone scenario inner.times close q h sooner ∷ map (clock_from scenario inner.times close x q h sooner) news) (λ v i. elim i [
          | inl e ↦
              let one = alone_grows q h tick sooner soon in
              let high : clock_alone scenario outer.times wide q h tick ≤ most = is_within_greatest (clock_alone scenario outer.times wide q h tick)
              (clock_alone scenario outer.times wide q h tick ∷ map (clock_from scenario outer.times wide x q h tick) olds) (inl refl) in
              subst (λ k. k ≤ most + grown) e (omega arith)
          | inr j ↦
              let r = in_of_map (clock_from scenario inner.times close x q h sooner) v news j in
              subst (λ k. k ≤ most + grown) r.2 (from_grows x q h tick sooner soon r.0 r.1)
        ])

    lead_rises : (q h tick sooner : ℕ) → sooner ≤ tick → lead_by scenario outer.times wide q h tick ≤ lead_by scenario inner.times close q h sooner
    lead_rises q h tick sooner soon =
        let own = risen.leads q h in
        let top = top_rises (λ z. lead_at wide.leads z h) (λ z. lead_at close.leads z h) (sure_after scenario outer.times tick q h) (sure_after scenario inner.times sooner q h)
        (after_among scenario outer inner tight tick sooner q h soon) (λ z i. risen.leads z h) in
        omega arith

    pub stamp_grows : (x q h tick sooner : ℕ) → sooner ≤ tick
        → stamp_high scenario inner.times close news x q h sooner ≤ stamp_high scenario outer.times wide olds x q h tick + grown
    stamp_grows x q h tick sooner soon =
        let old : ℕ = clock_high scenario outer.times wide olds x q h tick in
        let new : ℕ = clock_high scenario inner.times close news x q h sooner in
        let clock : new ≤ old + grown = clock_grows x q h tick sooner soon in
        stamp_cap (pair_count scenario) (capped wide.time (lead_by scenario outer.times wide q h tick) (old + 1))
        (capped close.time (lead_by scenario inner.times close q h sooner) (new + 1)) grown
        (capped_grows wide.time close.time (lead_by scenario outer.times wide q h tick) (lead_by scenario inner.times close q h sooner) (old + 1) (new + 1)
        risen.time (lead_rises q h tick sooner soon) (omega arith))

    stamp_for_grows : (tick x c g f : ℕ) → stamp_for scenario inner close news tick x c g f ≤ stamp_for scenario outer wide olds tick x c g f + grown
    stamp_for_grows tick x c g f =
        let high = tight.arrival_high c f in
        let low = tight.proposal_low c f g in
        let soon : arrives_by inner tick c g f ≤ arrives_by outer tick c g f = omega arith in
        if_grows (may_have_come tick f g) (stamp_high scenario outer.times wide olds x c f (arrives_by outer tick c g f))
        (stamp_high scenario inner.times close news x c f (arrives_by inner tick c g f)) grown
        (stamp_grows x c f (arrives_by outer tick c g f) (arrives_by inner tick c g f) soon)

    pub raise_grows : (tick x c g : ℕ) → raise_high scenario inner close news tick x c g ≤ raise_high scenario outer wide olds tick x c g + grown
    raise_grows tick x c g =
        let to : List ℕ = (message_at scenario c).destinations in
        let old : ℕ = greatest (map (stamp_for scenario outer wide olds tick x c g) to) in
        let new : ℕ = greatest (map (stamp_for scenario inner close news tick x c g) to) in
        let all : new ≤ old + grown = greatest_most (stamp_for scenario inner close news tick x c g) (old + grown) to (λ f i.
        let one = stamp_for_grows tick x c g f in
        let most : stamp_for scenario outer wide olds tick x c g f ≤ old = in_greatest (stamp_for scenario outer wide olds tick x c g) f to i in
        omega arith) in
        let top = top_rises (λ z. lead_at wide.leads z g) (λ z. lead_at close.leads z g) (sure_later scenario outer.times tick g) (sure_later scenario inner.times tick g)
        (later_among scenario outer inner tight tick tick g (omega arith)) (λ z i. risen.leads z g) in
        capped_grows wide.time close.time (top_of (λ z. lead_at wide.leads z g) (sure_later scenario outer.times tick g))
        (top_of (λ z. lead_at close.leads z g) (sure_later scenario inner.times tick g)) old new risen.time top all

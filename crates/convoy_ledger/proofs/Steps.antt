-- Each step keeps the rule, and tells what it tells.
use Rattle.std.proofs.Common.{◌≡◌, ℕ, ◌+◌, ◌-◌, ◌/◌, ◌%◌, min, ◌<◌, ◌≤◌, List, [], ◌∷◌, length, set, Bool, true, false, cond, ◌||◌, refl, sym, ap, ◌∙◌, subst, arith, length-append, lt_of_not-le, mod-eq_of_lt}
use Rattle.std.specs.Prelude.{slice_index}
use Rattle.std.specs.List.{All, sum_by}
use Rattle.std.proofs.Math.Decide.{dec_le}
use Rattle.std.proofs.lemmas.List.Elements.{All-nil, All-set, All-push, All-append, All-weaker}
use mathlib.Core.Option.{some, none, some-injective}
use lib.ListN.{get_elem?}
use Rattle.atomic_table.specs.Table.{State, step, Allows, Splits, Joins, keeps}
use Rattle.atomic_table.proofs.Lists.{set_else, set_again}
use Rattle.convoy_ledger.specs.declared.rule.View.{View}
use Rattle.convoy_shares.specs.Shares.{whole}
use Rattle.convoy_ledger.specs.Tickets.{Account, times, AreAllBelow, HasAll}
use Rattle.convoy_ledger.specs.Rule.{spent, kept_half, given_half, joined, with_ticket, with_miss, active_share, IsRight, IsKept, Holds, Weighed, Drew}
use Rattle.convoy_shares.proofs.Sums.{all_at, sum_set, sum_push, part_le_sum, sum_of_one}
use Rattle.convoy_ledger.proofs.Totals.{times-append, times_one}

-- a view is right also once a ticket more is drawn
right_later : (most drawn : ℕ) (view : View) → drawn < most → IsRight most drawn view → IsRight most (drawn + 1) view
right_later most drawn view lt right = record {
  named = right.named;
  done = λ done. let all = right.done done in absurd (omega arith);
  below = All-weaker (λ ticket. ticket < drawn) (λ ticket. ticket < drawn + 1) (λ ticket low. omega arith) view.tickets right.below;
  empty = right.empty;
}

active_of : (view : View) → view.done ≡ false → active_share view ≡ view.share
active_of view free = ap (λ b. cond b 0 view.share) free

-- a ticket is drawn
takes : (most drawn : ℕ) (views : List View) (id : ℕ) (v : View) → get_elem? views id ≡ some v → 0 < v.share → v.done ≡ false → drawn < most → IsKept most drawn 0 views → IsKept most (drawn + 1) 0 (set views id (with_ticket v drawn))
takes most drawn views id v at some_share free lt kept =
    let w = with_ticket v drawn in
    let right = all_at (IsRight most drawn) views id v at kept.each in record {
      within = omega arith;
      after = λ h. absurd (omega arith);
      count = let s = sum_set (λ u. length u.tickets) views id v w at in let l = length-append v.tickets (drawn ∷ []) in omega (arith, kept.count);
      misses = let s = sum_set (λ u. u.misses) views id v w at in omega (arith, kept.misses);
      once = λ x. let s = sum_set (λ u. times x u.tickets) views id v w at in let l = times-append x v.tickets (drawn ∷ []) in omega (arith, kept.once x, times_one x drawn);
      shares = let s = sum_set (λ u. u.share) views id v w at in omega (arith, kept.shares);
      room = let s = sum_set active_share views id v w at in omega (arith, kept.room, active_of v free);
      each = All-set (IsRight most (drawn + 1)) views id w
          record {
            named = right.named;
            done = λ h. absurd (cc);
            below = All-push (λ ticket. ticket < drawn + 1) v.tickets drawn (right_later most drawn v lt right).below (omega arith);
            empty = λ h. absurd (omega arith);
          }
          (All-weaker (IsRight most drawn) (IsRight most (drawn + 1)) (λ u. right_later most drawn u lt) views kept.each);
    }

-- no ticket was left
misses : (most drawn missed : ℕ) (views : List View) (id : ℕ) (v : View) → get_elem? views id ≡ some v → 0 < v.share → v.done ≡ false → drawn ≡ most → IsKept most drawn missed views → IsKept most drawn (missed + 1) (set views id (with_miss v))
misses most drawn missed views id v at some_share free full kept =
    let w = with_miss v in
    let right = all_at (IsRight most drawn) views id v at kept.each in record {
      within = kept.within;
      after = λ h. full;
      count = let s = sum_set (λ u. length u.tickets) views id v w at in omega (arith, kept.count);
      misses = let s = sum_set (λ u. u.misses) views id v w at in omega (arith, kept.misses);
      once = λ x. let s = sum_set (λ u. times x u.tickets) views id v w at in omega (arith, kept.once x);
      shares = let s = sum_set (λ u. u.share) views id v w at in omega (arith, kept.shares);
      room = let s = sum_set active_share views id v w at in omega (arith, kept.room, active_of v free);
      each = All-set (IsRight most drawn) views id w record { named = right.named; done = λ h. full; below = right.below; empty = λ h. absurd (omega arith) } kept.each;
    }

-- where a ticket is left, no draw has missed
none_missed : (most drawn missed : ℕ) (views : List View) → IsKept most drawn missed views → drawn + missed < most → missed ≡ 0
none_missed most drawn missed views kept lt = elim (dec_le 1 missed) [ yes missing ↦ let full = kept.after missing in absurd (omega arith) | no early ↦ let low = lt_of_not-le early in omega arith ]

-- where the word has reached the number of tickets, all are drawn
all_drawn : (most drawn missed : ℕ) (views : List View) → IsKept most drawn missed views → most ≤ drawn + missed → drawn ≡ most
all_drawn most drawn missed views kept late = elim (dec_le 1 missed) [ yes missing ↦ kept.after missing | no early ↦ let low = lt_of_not-le early in omega (arith, kept.within) ]

-- what a draw owes: a view with which the rule holds of one draw more, and which tells of a ticket where there was one
abbrev Owed : ℕ → ℕ → View → List View → ℕ → Type 0
Owed most id v views n =
    (w : View)
    × ((drawn : ℕ) × (missed : ℕ) × ((n + 1) ∷ [] ≡ (drawn + missed) ∷ []) × IsKept most drawn missed (set views id w))
    × (n < v.most → (w ≡ with_ticket v n) × All (λ ticket. ticket < n) v.tickets × (length v.tickets ≤ n))
    × (v.most ≤ n → w ≡ with_miss v)

owed : (most drawn missed id : ℕ) (v : View) (views : List View) → 0 < v.share → v.done ≡ false → v.most ≡ most → IsKept most drawn missed views → get_elem? views id ≡ some v → Dec (most ≤ drawn + missed) → Owed most id v views (drawn + missed)
owed most drawn missed id v views some_share free named kept at (yes late) =
    let full = all_drawn most drawn missed views kept late in
    (with_miss v, (drawn, missed + 1, ap (λ (k : ℕ). k ∷ []) (omega arith), misses most drawn missed views id v at some_share free full kept), (λ lt. absurd (omega arith)), (λ _. refl))
owed most drawn missed id v views some_share free named kept at (no not_late) =
    let early : drawn + missed < most = lt_of_not-le not_late in
    let none = none_missed most drawn missed views kept early in
    let kept' : IsKept most drawn 0 views = subst (λ k. IsKept most drawn k views) none kept in
    let same : drawn ≡ drawn + missed = omega arith in
    let right = all_at (IsRight most drawn) views id v at kept.each in
    let own = part_le_sum (λ u. length u.tickets) views id v at in (
      with_ticket v (drawn + missed),
      (
        drawn + 1,
        0,
        ap (λ (k : ℕ). k ∷ []) (omega arith),
        subst (λ k. IsKept most (drawn + 1) 0 (set views id (with_ticket v k))) same (takes most drawn views id v at some_share free (omega arith) kept'),
      ),
      (λ _. (refl, subst (λ k. All (λ ticket. ticket < k) v.tickets) same right.below, omega (arith, kept.count))),
      (λ le. absurd (omega arith)),
    )

-- the word does not wrap: a clerk that may draw has a share that no missed draw has used
room_left : (most drawn missed : ℕ) (views : List View) (id : ℕ) (v : View) → get_elem? views id ≡ some v → 0 < v.share → v.done ≡ false → most ≤ 281474976710656 → IsKept most drawn missed views → drawn + missed + 1 < 18446744073709551616
room_left most drawn missed views id v at some_share free small kept = let own = part_le_sum active_share views id v at in omega (arith, kept.room, kept.within, active_of v free)

pub draws : (most id : ℕ) (v : View) (c : List (ℕ × Unit {0})) → 0 < v.share → v.done ≡ false → v.most ≡ most → most ≤ 281474976710656
    → Allows (Holds most) 0 id (v, c) 0 (λ n. (n + 1) % 18446744073709551616) (Drew (step 0 0 1 0 none) (v, c))
draws most id v c some_share free named small s held slots at fits =
    let kept = held.3 in
    let n : ℕ = held.0 + held.1 in
    let wraps_not : (n + 1) % 18446744073709551616 ≡ n + 1 = mod-eq_of_lt (room_left most held.0 held.1 s.views id v at some_share free small kept) in
    let o = owed most held.0 held.1 id v s.views some_share free named kept at (dec_le most n) in
    let After : List ℕ → ℕ → Type 0 = λ words m. (drawn : ℕ) × (missed : ℕ) × (set words 0 m ≡ (drawn + missed) ∷ []) × IsKept most drawn missed (set s.views id o.0) in
    let Told : ℕ → Type 0 = λ k. (c ≡ c) × (k < v.most → (o.0 ≡ with_ticket v k) × All (λ ticket. ticket < k) v.tickets × (length v.tickets ≤ k)) × (v.most ≤ k → o.0 ≡ with_miss v) in (
      o.0,
      keeps,
      tt,
      subst (λ (words : List ℕ). After words ((slice_index words 0 + 1) % 18446744073709551616)) (sym held.2) (subst (λ m. After (n ∷ []) m) (sym wraps_not) o.1),
      subst (λ (words : List ℕ). Told (slice_index words 0)) (sym held.2) (refl, o.2, o.3),
    )

pub weighs : (most id : ℕ) (v : View) (c : List (ℕ × Unit {0})) → Allows (Holds most) 0 id (v, c) 0 (λ n. n) (Weighed (step 0 0 0 0 none) (v, c))
weighs most id v c s held slots at fits =
    let kept = held.3 in
    let own = part_le_sum (λ u. u.share) s.views id v at in
    let tickets = part_le_sum (λ u. length u.tickets) s.views id v at in
    let right = all_at (IsRight most held.0) s.views id v at kept.each in (
      v,
      keeps,
      tt,
      (held.0, held.1, subst (λ (words : List ℕ). set words 0 (slice_index words 0) ≡ (held.0 + held.1) ∷ []) (sym held.2) refl, subst (λ views. IsKept most held.0 held.1 views) (sym (set_again s.views id v at)) kept),
      (refl, omega (arith, kept.shares), λ some_share. omega (arith, tickets, kept.count, kept.within, right.named some_share)),
    )

active_halves : (done : Bool) (n : ℕ) → cond done 0 (n - n / 2) + cond done 0 (n / 2) ≡ cond done 0 n
active_halves true n = refl
active_halves false n = omega arith

pub halves : (most id : ℕ) (v : View) → 1 < v.share → Splits (Holds most) id v (kept_half v) (given_half v)
halves most id v big s held at =
    let drawn = held.0 in
    let kept = held.3 in
    let left = kept_half v in
    let right = given_half v in
    let was = all_at (IsRight most drawn) s.views id v at kept.each in
    let vs = set s.views id left in (
      drawn,
      held.1,
      held.2,
      record {
        within = kept.within;
        after = kept.after;
        count = let s' = sum_set (λ u. length u.tickets) s.views id v left at in let p = sum_push (λ u. length u.tickets) vs right in omega (arith, kept.count);
        misses = let s' = sum_set (λ u. u.misses) s.views id v left at in let p = sum_push (λ u. u.misses) vs right in omega (arith, kept.misses);
        once = λ x. let s' = sum_set (λ u. times x u.tickets) s.views id v left at in let p = sum_push (λ u. times x u.tickets) vs right in omega (arith, kept.once x);
        shares = let s' = sum_set (λ u. u.share) s.views id v left at in let p = sum_push (λ u. u.share) vs right in omega (arith, kept.shares);
        room = let s' = sum_set active_share s.views id v left at in let p = sum_push active_share vs right in omega (arith, kept.room, active_halves v.done v.share);
        each = All-push (IsRight most drawn) vs right
            (All-set (IsRight most drawn) s.views id left record { named = λ _. was.named (omega arith); done = was.done; below = was.below; empty = λ z. absurd (omega arith) } kept.each)
            record { named = λ _. was.named (omega arith); done = was.done; below = All-nil (λ ticket. ticket < drawn); empty = λ z. (refl, refl) };
      },
    )

active_joined : (a b : Bool) (m n : ℕ) → cond (a || b) 0 (m + n) ≤ cond a 0 m + cond b 0 n
active_joined true b m n = omega arith
active_joined false true m n = omega arith
active_joined false false m n = omega arith

one_of : (a b : Bool) (P : Type 0) → (a ≡ true → P) → (b ≡ true → P) → a || b ≡ true → P
one_of true b P f g e = f refl
one_of false b P f g e = g e

pub joins : (most id : ℕ) (v : View) (other : ℕ) (u : View) → 0 < v.share → Joins (Holds most) id v other u (joined v u) spent
joins most id v other u some_share s held at apart there =
    let drawn = held.0 in
    let kept = held.3 in
    let both = joined v u in
    let vs = set s.views id both in
    let there' : get_elem? s.views other ≡ some u = sym (set_else s.views id other both apart) ∙ there in
    let mine = all_at (IsRight most drawn) s.views id v at kept.each in
    let theirs = all_at (IsRight most drawn) s.views other u there' kept.each in (
      drawn,
      held.1,
      held.2,
      record {
        within = kept.within;
        after = kept.after;
        count = let a = sum_set (λ y. length y.tickets) s.views id v both at in let b = sum_set (λ y. length y.tickets) vs other u spent there in let l = length-append v.tickets u.tickets in omega (arith, kept.count);
        misses = let a = sum_set (λ y. y.misses) s.views id v both at in let b = sum_set (λ y. y.misses) vs other u spent there in omega (arith, kept.misses);
        once = λ x. let a = sum_set (λ y. times x y.tickets) s.views id v both at in let b = sum_set (λ y. times x y.tickets) vs other u spent there in let l = times-append x v.tickets u.tickets in omega (arith, kept.once x);
        shares = let a = sum_set (λ y. y.share) s.views id v both at in let b = sum_set (λ y. y.share) vs other u spent there in omega (arith, kept.shares);
        room = let a = sum_set active_share s.views id v both at in let b = sum_set active_share vs other u spent there in omega (arith, kept.room, active_joined v.done u.done v.share u.share);
        each = All-set (IsRight most drawn) vs other spent
            record { named = λ z. absurd (omega arith); done = λ z. absurd (cc); below = All-nil (λ ticket. ticket < drawn); empty = λ _. (refl, refl) }
            (
            All-set (IsRight most drawn) s.views id both
            record {
              named = λ _. mine.named some_share;
              done = one_of v.done u.done (drawn ≡ most) mine.done theirs.done;
              below = All-append (λ ticket. ticket < drawn) v.tickets u.tickets mine.below theirs.below;
              empty = λ z. absurd (omega arith);
            }
            kept.each
            );
      },
    )

-- a view with the whole share has all that was drawn
pub has_all : (most drawn missed : ℕ) (views : List View) (id : ℕ) (v : View) → get_elem? views id ≡ some v → v.share ≡ whole → IsKept most drawn missed views
    → (length v.tickets ≡ drawn) × AreAllBelow drawn v.tickets × (v.done ≡ true → drawn ≡ most)
has_all most drawn missed views id v at all_shares kept =
    let one : sum_by (λ u. u.share) views ≡ v.share = kept.shares ∙ sym all_shares in
    let of_one = λ (f : View → ℕ) (zero : f spent ≡ 0) (empty : (u : View) → u.tickets ≡ [] → f u ≡ 0). sum_of_one f (λ u. u.share) spent views id v zero refl at one (All-weaker (IsRight most drawn) (λ u. u.share ≡ 0 → f u ≡ 0) (λ u right none. empty u (right.empty none).0) views kept.each) in (
      sym (of_one (λ u. length u.tickets) refl (λ u e. ap length e)) ∙ kept.count,
      (λ x. sym (of_one (λ u. times x u.tickets) refl (λ u e. ap (times x) e)) ∙ kept.once x),
      (all_at (IsRight most drawn) views id v at kept.each).done,
    )

-- as many tickets were drawn as the word says, but not more than there are
pub drawn_is : (most drawn missed : ℕ) (views : List View) → IsKept most drawn missed views → min (drawn + missed) most ≡ drawn
drawn_is most drawn missed views kept = elim (dec_le 1 missed) [ yes missing ↦ let full = kept.after missing in omega arith | no early ↦ let low = lt_of_not-le early in omega (arith, kept.within) ]

-- what closing tells, in the words of the contract
pub closed_has_all : (most id word n : ℕ) (v : View) (s : State (Unit {0}) View) (items : List ℕ) (account : Account) → Holds most s → get_elem? s.views id ≡ some v → s.words ≡ items → get_elem? items 0 ≡ some word → n ≡ min word most → v.share ≡ whole
    → v.tickets ≡ account.tickets → account.done ≡ v.done → most ≡ account.ledger.most → HasAll account n
closed_has_all most id word n v s items account held at same first is all_shares tickets done named =
    let kept = held.3 in
    let count : held.0 + held.1 ≡ word = some-injective _ _ (ap (λ l. get_elem? l 0) (sym held.2 ∙ same) ∙ first) in
    let drawn : held.0 ≡ n = sym (drawn_is most held.0 held.1 s.views kept) ∙ ap (λ k. min k most) count ∙ sym is in
    let all = has_all most held.0 held.1 s.views id v at all_shares kept in record {
      within = omega (arith, kept.within);
      count = ap length (sym tickets) ∙ all.0 ∙ drawn;
      once = subst (λ t. AreAllBelow n t) tickets (subst (λ k. AreAllBelow k v.tickets) drawn all.1);
      done = λ is_done. sym drawn ∙ all.2 (sym done ∙ is_done) ∙ named;
    }

-- Each step keeps the rule, and tells what it tells.
use Rattle.std.proofs.Common.{◌≡◌, ◌≢◌, ℕ, ◌+◌, ◌*◌, ◌/◌, ◌%◌, ◌<◌, ◌≤◌, max, List, [], ◌∷◌, ◌++◌, set, refl, sym, ap, ◌∙◌, subst, arith, lt_of_not-le}
use Rattle.std.specs.Prelude.{slice_index}
use Rattle.std.specs.List.{Contains}
use Rattle.std.proofs.Math.Decide.{dec_le, ℕ_discrete}
use Rattle.std.proofs.Math.Nat.{div-mul-le_self, max-eq_left, max-eq_right}
use Rattle.std.proofs.lemmas.Nat.{le-div, div-mul-add, mod-mul-add}
use Rattle.std.proofs.lemmas.List.Elements.{All-nil, All-cons, All-set, All-push, All-append, All-weaker, All-contains, Contains-append_left, Contains-append_right, Contains-push}
use mathlib.Core.Option.{some, none, some-injective}
use lib.ListN.{get_elem?}
use Rattle.atomic_table.specs.Table.{State, step, opening, Allows, Splits, Joins, keeps}
use Rattle.atomic_table.proofs.Lists.{set_here, set_else, set_again}
use Rattle.convoy_sim.specs.Greatest.{IsReached}
use Rattle.convoy_incumbent.specs.declared.rule.Pair.{Pair}
use Rattle.convoy_incumbent.specs.declared.rule.Store.{Store}
use Rattle.convoy_incumbent.specs.declared.rule.View.{View}
use Rattle.convoy_shares.specs.Shares.{whole}
use Rattle.convoy_incumbent.specs.Boards.{places}
use Rattle.convoy_incumbent.specs.Rule.{latency_in, pair_in, first_view, spent, kept_half, given_half, joined, IsRight, WasPut, IsKept, Holds, Looked, Published, Weighed}
use Rattle.convoy_shares.proofs.Sums.{read, all_at, sum_set, sum_push, part_le_sum}
use Rattle.convoy_incumbent.proofs.Totals.{put_at, was_put, put_set, put_longer, alone}

-- a view is right also at a word of a greater latency
right_above : (store : Store) (n m : ℕ) (view : View) → latency_in n ≤ latency_in m → IsRight store n view → IsRight store m view
right_above store n m view le right = record { named = right.named; below = omega (arith, right.below); reached = right.reached; empty = right.empty }

-- some assignment has the word's latency
word_reached : (store : Store) (n : ℕ) (views : List View) → IsKept store n views → IsReached store.scenario.value (latency_in n)
word_reached store n views kept =
    let right = all_at (IsRight store n) views kept.put.0 kept.put.1 (put_at (pair_in n) views kept.put) kept.each in
    All-contains (λ pair. IsReached store.scenario.value pair.latency) kept.put.1.pairs (pair_in n) right.reached kept.put.4

pub latency_rises : (n m : ℕ) → n ≤ m → latency_in n ≤ latency_in m
latency_rises n m le = let low = div-mul-le_self n 4294967296 in le-div (n / 4294967296) m 4294967296 (omega arith) (omega arith)

-- the word is the number read
word_is : (store : Store) (s : State (Unit {0}) View) (held : Holds store s) → held.0 ≡ slice_index s.words 0
word_is store s held = ap (λ l. slice_index l 0) (sym held.1)

kept_at_word : (store : Store) (s : State (Unit {0}) View) (held : Holds store s) → IsKept store (slice_index s.words 0) s.views
kept_at_word store s held = subst (λ k. IsKept store k s.views) (word_is store s held) held.2

-- the rule after a step that makes the word m
holds_after : (store : Store) (id : ℕ) (w : View) (s : State (Unit {0}) View) (held : Holds store s) (m : ℕ) → IsKept store m (set s.views id w) → (k : ℕ) × (set s.words 0 m ≡ k ∷ []) × IsKept store k (set s.views id w)
holds_after store id w s held m kept = (m, ap (λ l. set l 0 m) held.1, kept)

pub looks : (store : Store) (id : ℕ) (v : View) (c : List (ℕ × Unit {0})) → 0 < v.share → Allows (Holds store) 0 id (v, c) 0 (λ n. n) (Looked (step 0 0 0 0 none) (v, c))
looks store id v c some_share s held slots at fits =
    let n = slice_index s.words 0 in
    let kept = kept_at_word store s held in
    let w : View = record v { seen = latency_in n } in
    let right = all_at (IsRight store n) s.views id v at kept.each in (
      w,
      keeps,
      tt,
      holds_after store id w s held n record {
        put = put_set (pair_in n) s.views id v w at (λ has. has) kept.put;
        shares = let t = sum_set (λ u. u.share) s.views id v w at in omega (arith, kept.shares);
        each = All-set (IsRight store n) s.views id w record { named = right.named; below = omega arith; reached = right.reached; empty = right.empty } kept.each;
      },
      (refl, right.below, subst (λ (t : Store). IsReached t.scenario.value (latency_in n)) (sym (right.named some_share)) (word_reached store n s.views kept)),
    )

pub publishes : (store : Store) (id : ℕ) (v : View) (c : List (ℕ × Unit {0})) (k : ℕ) → 0 < v.share → IsReached v.store.scenario.value (latency_in k) → Allows (Holds store) 0 id (v, c) 0 (λ n. max n k) (Published (step 0 0 k 0 none) (v, c))
publishes store id v c k some_share reached s held slots at fits =
    let n = slice_index s.words 0 in
    let kept = kept_at_word store s held in
    let m = max n k in
    let w : View = record v { seen = latency_in m; pairs = v.pairs ++ pair_in k ∷ [] } in
    let right = all_at (IsRight store n) s.views id v at kept.each in
    let up : latency_in n ≤ latency_in m = latency_rises n m (omega arith) in
    let same = right.named some_share in
    let put : WasPut (pair_in m) (set s.views id w) = elim (dec_le k n) [
      | yes le ↦ subst (λ j. WasPut (pair_in j) (set s.views id w)) (sym (max-eq_left le)) (put_set (pair_in n) s.views id v w at (λ has. Contains-append_left v.pairs (pair_in k ∷ []) (pair_in n) has) kept.put)
      | no nle ↦ subst (λ j. WasPut (pair_in j) (set s.views id w)) (sym (max-eq_right (let l = lt_of_not-le nle in omega arith)))
          (was_put (pair_in k) (set s.views id w) id w (set_here s.views id w (read s.views id v at).0) (Contains-push v.pairs (pair_in k)))
    ] in
    let kept' : IsKept store m (set s.views id w) = record {
      put = put;
      shares = let t = sum_set (λ u. u.share) s.views id v w at in omega (arith, kept.shares);
      each = All-set (IsRight store m) s.views id w
          record {
            named = right.named;
            below = omega arith;
            reached = All-push (λ pair. IsReached store.scenario.value pair.latency) v.pairs (pair_in k) right.reached (subst (λ (t : Store). IsReached t.scenario.value (latency_in k)) same reached);
            empty = λ z. absurd (omega arith);
          }
          (All-weaker (IsRight store n) (IsRight store m) (λ u. right_above store n m u up) s.views kept.each);
    } in (
      w,
      keeps,
      tt,
      holds_after store id w s held m kept',
      (refl, omega (arith, right.below, up), subst (λ (t : Store). IsReached t.scenario.value (latency_in m)) (sym same) (word_reached store m (set s.views id w) kept')),
    )

-- a hand with the whole share put the word's pair, and saw no greater latency
has_word : (store : Store) (n id : ℕ) (v : View) (views : List View) → get_elem? views id ≡ some v → v.share ≡ whole → IsKept store n views → (v.seen ≤ latency_in n) × Contains v.pairs (pair_in n)
has_word store n id v views at all_shares kept =
    let there = put_at (pair_in n) views kept.put in
    let right = all_at (IsRight store n) views kept.put.0 kept.put.1 there kept.each in (
      (all_at (IsRight store n) views id v at kept.each).below,
      elim (ℕ_discrete kept.put.0 id) [
        | yes e ↦ subst (λ (y : View). Contains y.pairs (pair_in n)) (some-injective _ _ (sym there ∙ ap (get_elem? views) e ∙ at)) kept.put.4
        | no ne ↦ absurd (let none = right.empty (alone views id kept.put.0 v kept.put.1 at (kept.shares ∙ sym all_shares) ne there) in let lt = (subst (λ l. Contains l (pair_in n)) none kept.put.4).1 in omega arith)
      ],
    )

pub weighs : (store : Store) (id : ℕ) (v : View) (c : List (ℕ × Unit {0})) → Allows (Holds store) 0 id (v, c) 0 (λ n. n) (Weighed (step 0 0 0 0 none) (v, c))
weighs store id v c s held slots at fits =
    let n = slice_index s.words 0 in
    let kept = kept_at_word store s held in
    let own = part_le_sum (λ u. u.share) s.views id v at in (
      v,
      keeps,
      tt,
      holds_after store id v s held n (subst (λ vs. IsKept store n vs) (sym (set_again s.views id v at)) kept),
      (refl, omega (arith, kept.shares), (λ all_shares. has_word store n id v s.views at all_shares kept)),
    )

pub halves : (store : Store) (id : ℕ) (v : View) → 1 < v.share → Splits (Holds store) id v (kept_half v) (given_half v)
halves store id v big s held at =
    let n = held.0 in
    let kept = held.2 in
    let left = kept_half v in
    let right = given_half v in
    let was = all_at (IsRight store n) s.views id v at kept.each in
    let vs = set s.views id left in (
      n,
      held.1,
      record {
        put = put_longer (pair_in n) vs (right ∷ []) (put_set (pair_in n) s.views id v left at (λ has. has) kept.put);
        shares = let t = sum_set (λ u. u.share) s.views id v left at in let u = sum_push (λ u. u.share) vs right in omega (arith, kept.shares);
        each = All-push (IsRight store n) vs right
            (All-set (IsRight store n) s.views id left record { named = λ _. was.named (omega arith); below = was.below; reached = was.reached; empty = λ z. absurd (omega arith) } kept.each)
            record { named = λ _. was.named (omega arith); below = was.below; reached = All-nil (λ pair. IsReached store.scenario.value pair.latency); empty = λ z. refl };
      },
    )

-- a pair that was put is still put once two views are joined
put_joined : (pair : Pair) (views : List View) (id other : ℕ) (v u : View) → get_elem? views id ≡ some v → get_elem? views other ≡ some u → other ≢ id → WasPut pair views → WasPut pair (set (set views id (joined v u)) other spent)
put_joined pair views id other v u at there apart put =
    let both = joined v u in
    let vs = set views id both in
    let mine : get_elem? (set vs other spent) id ≡ some both = set_else vs other id spent (λ e. apart (sym e)) ∙ set_here views id both (read views id v at).0 in
    let was = put_at pair views put in
    elim (ℕ_discrete put.0 other) [
      | yes e ↦ was_put pair (set vs other spent) id both mine (Contains-append_right v.pairs u.pairs pair (subst (λ (y : View). Contains y.pairs pair) (some-injective _ _ (sym was ∙ ap (get_elem? views) e ∙ there)) put.4))
      | no ne ↦ (elim (ℕ_discrete put.0 id) [
        | yes e ↦ was_put pair (set vs other spent) id both mine (Contains-append_left v.pairs u.pairs pair (subst (λ (y : View). Contains y.pairs pair) (some-injective _ _ (sym was ∙ ap (get_elem? views) e ∙ at)) put.4))
        | no ni ↦ was_put pair (set vs other spent) put.0 put.1 (set_else vs other put.0 spent ne ∙ set_else views id put.0 both ni ∙ was) put.4
      ])
    ]

pub joins : (store : Store) (id : ℕ) (v : View) (other : ℕ) (u : View) → 0 < v.share → Joins (Holds store) id v other u (joined v u) spent
joins store id v other u some_share s held at apart there =
    let n = held.0 in
    let kept = held.2 in
    let both = joined v u in
    let vs = set s.views id both in
    let there' : get_elem? s.views other ≡ some u = sym (set_else s.views id other both apart) ∙ there in
    let mine = all_at (IsRight store n) s.views id v at kept.each in
    let theirs = all_at (IsRight store n) s.views other u there' kept.each in (
      n,
      held.1,
      record {
        put = put_joined (pair_in n) s.views id other v u at there' apart kept.put;
        shares = let a = sum_set (λ y. y.share) s.views id v both at in let b = sum_set (λ y. y.share) vs other u spent there in omega (arith, kept.shares);
        each = All-set (IsRight store n) vs other spent
            record { named = λ z. absurd (omega arith); below = omega arith; reached = All-nil (λ pair. IsReached store.scenario.value pair.latency); empty = λ _. refl }
            (
            All-set (IsRight store n) s.views id both
            record {
              named = λ _. mine.named some_share;
              below = omega (arith, mine.below, theirs.below);
              reached = All-append (λ pair. IsReached store.scenario.value pair.latency) v.pairs u.pairs mine.reached theirs.reached;
              empty = λ z. absurd (omega arith);
            }
            kept.each
            );
      },
    )

pub begins : (store : Store) (n : ℕ) → n ≡ store.first.latency * places + store.first.place → store.first.place < places → IsReached store.scenario.value store.first.latency → Holds store (opening (n ∷ []) [] (first_view store))
begins store n is small reached =
    let latency : latency_in n ≡ store.first.latency = ap latency_in is ∙ div-mul-add store.first.latency 4294967296 store.first.place small in
    let place : n % 4294967296 ≡ store.first.place = ap (λ k. k % 4294967296) is ∙ mod-mul-add store.first.latency 4294967296 store.first.place small in
    let pair : store.first ≡ pair_in n = λ i. record { latency = sym latency i; place = sym place i } in (
      n,
      refl,
      record {
        put = was_put (pair_in n) (first_view store ∷ []) 0 (first_view store) refl (subst (λ p. Contains (store.first ∷ []) p) pair (Contains-push [] store.first));
        shares = refl;
        each = All-cons (IsRight store n) (first_view store) [] (right latency) (All-nil (IsRight store n));
      },
    )
  where
    right : latency_in n ≡ store.first.latency → IsRight store n (first_view store)
    right latency = record { named = λ _. refl; below = omega arith; reached = All-cons (λ pair. IsReached store.scenario.value pair.latency) store.first [] reached (All-nil (λ pair. IsReached store.scenario.value pair.latency)); empty = λ z. absurd (omega arith) }

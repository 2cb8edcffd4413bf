-- Each step keeps the rule, and tells what it tells.
use Rattle.std.proofs.Common.{◌≡◌, ◌≢◌, ℕ, zero, suc, ◌+◌, ◌<◌, List, [], ◌∷◌, ◌++◌, length, set, true, false, true≢false, refl, sym, ap, ◌∙◌, subst, ⊎_elim, arith, length-append}
use Rattle.std.specs.List.{All}
use Rattle.std.proofs.lemmas.List.Elements.{All-nil, All-push, All-append, All-head}
use mathlib.Core.Option.{some, some-ne-none, some-injective}
use lib.ListN.{get_elem?}
use Rattle.crossbeam_deque.specs.Tasks.{Pushes, Takes, Pops, Forks, Merges, Finds}
use Rattle.atomic_table.proofs.Lists.{at_set, at_snoc}
use Rattle.convoy_scenario.specs.Scenario.{Scenario}
use Rattle.convoy_regions.specs.Regions.{Region}
use Rattle.convoy_share_deque.specs.declared.rule.View.{View}
use Rattle.convoy_share_deque.specs.declared.task.Task.{Task}
use Rattle.convoy_share_deque.specs.Tasks.{whole_share, tasks_at, AreAllTaken, IsOf, IsPut}
use Rattle.convoy_share_deque.specs.Rule.{opener, nobody, kept_share, given_share, joined, after_put, after_take, IsRight, IsKept, Holds, HasPut, HasTaken, IsEmptied}
use Rattle.convoy_shares.specs.Shares.{once_below}
use Rattle.convoy_shares.proofs.Sums.{sum_set, sum_push}
use Rattle.convoy_share_deque.proofs.Totals.{all_of_one, two_le_sum, tasks_at-append, once_more, none_below, get_last, put_more, none_put, All-parts}

abbrev Each : Scenario → ℕ → List Region → List View → Type 0
Each scenario owner_seat put views = (seat : ℕ) (view : View) → get_elem? views seat ≡ some view → IsRight scenario owner_seat put seat view

each_set : (scenario : Scenario) (owner_seat : ℕ) (put : List Region) (views : List View) (id : ℕ) (w : View) → ((j : ℕ) (u : View) → j ≢ id → get_elem? views j ≡ some u → IsRight scenario owner_seat put j u) → IsRight scenario owner_seat put id w → Each scenario owner_seat put (set views id w)
each_set scenario owner_seat put views id w others mine j u e =
    ⊎_elim
    (λ (x : (j ≡ id) × (w ≡ u)). subst (λ (y : ℕ × View). IsRight scenario owner_seat put y.0 y.1) (λ i. (sym x.0 i, x.1 i)) mine)
    (λ (x : (j ≢ id) × (get_elem? views j ≡ some u)). others j u x.0 x.1)
    (at_set views id j w u e)

not_owner : {A : Type 0} → false ≡ true → A
not_owner e = absurd (true≢false (sym e))

right_opener : IsRight opener.scenario 0 [] 0 opener
right_opener = record {
  named = λ _. refl;
  owner = λ _. (refl, refl);
  right = All-nil (IsPut []);
  empty = λ _. refl;
}

pub begins : Holds [] (opener ∷ [])
begins = (
  opener.scenario,
  0,
  [],
  record {
    once = none_below;
    right = All-nil (IsPut []);
    of_scenario = All-nil (IsOf opener.scenario);
    shares = refl;
    each = one;
  },
) where
  one : (k : ℕ) (v : View) → get_elem? (opener ∷ []) k ≡ some v → IsRight opener.scenario 0 [] k v
  one zero v e = subst (λ y. IsRight opener.scenario 0 [] 0 y) (some-injective _ _ e) right_opener
  one (suc k) v e = absurd (some-ne-none v (sym e))

-- a task joins at the back, where all that is there is of its scenario
put_in : (port : ℕ) (v : View) (t : Task) (tasks : List Task) (views : List View) (scenario : Scenario) (owner_seat : ℕ) (put : List Region) → IsKept scenario owner_seat put tasks views → get_elem? views port ≡ some v → v.owns ≡ true → t.number ≡ length v.put → All (IsOf t.branch.scenario) tasks → ((j : ℕ) (u : View) → j ≢ port → get_elem? views j ≡ some u → 0 < u.share → u.scenario ≡ t.branch.scenario) → Holds (tasks ++ t ∷ []) (set views port (after_put v t))
put_in port v t tasks views scenario owner_seat put kept at owns is same others =
    let f = kept.each port v at in
    let mine = f.owner owns in
    let w = after_put v t in
    let put' = put ++ t.branch.region ∷ [] in
    let n : t.number ≡ length put = is ∙ ap length mine.1 in (
      t.branch.scenario,
      owner_seat,
      put',
      record {
        once = λ x. let s = sum_set (λ u. tasks_at x u.taken) views port v w at in let p = kept.once x in let l = tasks_at-append x tasks (t ∷ []) in let m = once_more x t in let a = ap (once_below x) n in let b = ap (once_below x) (length-append put (t.branch.region ∷ []) ∙ ap (λ k. k + 1) (sym n)) in omega arith;
        right = All-push (IsPut put') tasks t (put_more put t.branch.region tasks kept.right) (get_last put t.branch.region t.number n);
        of_scenario = All-push (IsOf t.branch.scenario) tasks t same refl;
        shares = let s = sum_set (λ u. u.share) views port v w at in let p = kept.shares in omega arith;
        each = each_set t.branch.scenario owner_seat put' views port w
            (λ j u other e. let g = kept.each j u e in record { named = others j u other e; owner = λ o. absurd (other ((g.owner o).0 ∙ sym mine.0)); right = put_more put t.branch.region u.taken g.right; empty = g.empty })
            record { named = λ _. refl; owner = λ o. (mine.0, ap (λ l. l ++ t.branch.region ∷ []) mine.1); right = put_more put t.branch.region v.taken f.right; empty = f.empty };
      },
    )

pub puts : (port : ℕ) (v : View) (t : Task) → v.owns ≡ true → 0 < v.share → t.number ≡ length v.put → t.branch.scenario ≡ v.scenario → Pushes Holds port v (t ∷ []) (HasPut v (t ∷ []))
puts port v t owns some_share is of_scenario tasks views held at =
    let kept = held.3 in
    let name : t.branch.scenario ≡ held.0 = of_scenario ∙ (kept.each port v at).named some_share in (
      after_put v t,
      put_in port v t tasks views held.0 held.1 held.2 kept at owns is (subst (λ (s : Scenario). All (IsOf s) tasks) (sym name) kept.of_scenario) (λ j u _ e some. (kept.each j u e).named some ∙ sym name),
      refl,
    )

pub opens : (port : ℕ) (v : View) (t : Task) → v.owns ≡ true → v.share ≡ whole_share → v.put ≡ [] → t.number ≡ 0 → Pushes Holds port v (t ∷ []) (HasPut v (t ∷ []))
opens port v t owns whole empty is tasks views held at =
    let kept = held.3 in
    let put = ((kept.each port v at).owner owns).1 in
    let none : tasks ≡ [] = none_put held.2 tasks (sym put ∙ empty) kept.right in (
      after_put v t,
      put_in port v t tasks views held.0 held.1 held.2 kept at owns (is ∙ sym (ap length empty)) (subst (λ (ts : List Task). All (IsOf t.branch.scenario) ts) (sym none) (All-nil (IsOf t.branch.scenario))) (λ j u other e some. absurd (let z = two_le_sum (λ w. w.share) views port j v u refl at e other in omega (arith, z, kept.shares, whole, some))),
      refl,
    )

-- a task leaves the deque, at whichever end
taken : (port : ℕ) (v : View) (t : Task) (tasks all : List Task) (views : List View) → 0 < v.share → ((x : ℕ) → tasks_at x all ≡ tasks_at x (t ∷ []) + tasks_at x tasks) → ((P : Task → Type 0) → All P all → P t × All P tasks) → Holds all views → get_elem? views port ≡ some v → Holds tasks (set views port (after_take v t)) × IsOf v.scenario t × (v.owns ≡ true → IsPut v.put t)
taken port v t tasks all views some_share count both held at =
    let kept = held.3 in
    let f = kept.each port v at in
    let w = after_take v t in
    let right = both (IsPut held.2) kept.right in
    let named = both (IsOf held.0) kept.of_scenario in (
      (
        held.0,
        held.1,
        held.2,
        record {
          once = λ x. let s = sum_set (λ u. tasks_at x u.taken) views port v w at in let p = kept.once x in let l = tasks_at-append x v.taken (t ∷ []) in let m = count x in omega arith;
          right = right.1;
          of_scenario = named.1;
          shares = let s = sum_set (λ u. u.share) views port v w at in let p = kept.shares in omega arith;
          each = each_set held.0 held.1 held.2 views port w (λ j u _ e. kept.each j u e) record { named = f.named; owner = f.owner; right = All-push (IsPut held.2) v.taken t f.right right.0; empty = λ z. absurd (omega arith) };
        },
      ),
      named.0 ∙ sym (f.named some_share),
      (λ (owns : v.owns ≡ true). subst (λ (p : List Region). IsPut p t) (sym (f.owner owns).1) right.0),
    )

pub takes : (port : ℕ) (v : View) → 0 < v.share → Takes Holds port v 1 (HasTaken v)
takes port v some_share [] tasks views least few held at = absurd (omega arith)
takes port v some_share (t ∷ u ∷ us) tasks views least few held at = absurd (omega arith)
takes port v some_share (t ∷ []) tasks views least few held at =
    let all = t ∷ tasks in
    let told = taken port v t tasks all views some_share (λ x. tasks_at-append x (t ∷ []) tasks) (λ P a. let parts = All-parts P (t ∷ []) tasks a in (All-head P t [] parts.0, parts.1)) held at in
    (after_take v t, told.0, (refl, told.1, told.2))

pub pops : (port : ℕ) (v : View) → 0 < v.share → Pops Holds port v (HasTaken v)
pops port v some_share t tasks views held at =
    let all = tasks ++ t ∷ [] in
    let told = taken port v t tasks all views some_share (λ x. let a = tasks_at-append x tasks (t ∷ []) in omega arith) (λ P a. let parts = All-parts P tasks (t ∷ []) a in (All-head P t [] parts.1, parts.0)) held at in
    (after_take v t, told.0, (refl, told.1, told.2))

pub forks : (port : ℕ) (v : View) → 1 < v.share → Forks Holds port v (kept_share v) (given_share v)
forks port v big tasks views held at =
    let kept = held.3 in
    let f = kept.each port v at in
    let left = kept_share v in
    let right = given_share v in
    let vs = set views port left in (
      held.0,
      held.1,
      held.2,
      record {
        once = λ x. let s = sum_set (λ u. tasks_at x u.taken) views port v left at in let t = sum_push (λ u. tasks_at x u.taken) vs right in let p = kept.once x in omega arith;
        right = kept.right;
        of_scenario = kept.of_scenario;
        shares = let s = sum_set (λ u. u.share) views port v left at in let t = sum_push (λ u. u.share) vs right in let p = kept.shares in omega arith;
        each = λ j u e. ⊎_elim
            (λ was. each_set held.0 held.1 held.2 views port left (λ i y _ e'. kept.each i y e') record { named = λ _. f.named (omega arith); owner = f.owner; right = f.right; empty = λ z. absurd (omega arith) } j u was)
            (λ (same : right ≡ u). subst (λ y. IsRight held.0 held.1 held.2 j y) same record { named = λ _. f.named (omega arith); owner = not_owner; right = All-nil (IsPut held.2); empty = λ _. refl })
            (at_snoc vs right u j e);
      },
    )

pub merges : (port : ℕ) (v : View) (other : ℕ) (u : View) → 0 < v.share → u.owns ≡ false → Merges Holds port v other u (joined v u) nobody
merges port v other u some_share guest tasks views held at apart there =
    let kept = held.3 in
    let both = joined v u in
    let vs = set views port both in
    let theirs = ⊎_elim (λ (t : (other ≡ port) × (both ≡ u)). absurd (apart t.0)) (λ (t : (other ≢ port) × (get_elem? views other ≡ some u)). t.1) (at_set views port other both u there) in
    let f = kept.each port v at in
    let g = kept.each other u theirs in (
      held.0,
      held.1,
      held.2,
      record {
        once = λ x. let s = sum_set (λ y. tasks_at x y.taken) views port v both at in let t = sum_set (λ y. tasks_at x y.taken) vs other u nobody there in let p = kept.once x in let l = tasks_at-append x v.taken u.taken in omega arith;
        right = kept.right;
        of_scenario = kept.of_scenario;
        shares = let s = sum_set (λ y. y.share) views port v both at in let t = sum_set (λ y. y.share) vs other u nobody there in let p = kept.shares in omega arith;
        each = each_set held.0 held.1 held.2 vs other nobody
            (λ j y _ e. each_set held.0 held.1 held.2 views port both (λ i z _ e'. kept.each i z e') record { named = λ _. f.named some_share; owner = f.owner; right = All-append (IsPut held.2) v.taken u.taken f.right g.right; empty = λ z. absurd (omega arith) } j y e)
            record { named = λ some. absurd (omega (arith, some)); owner = not_owner; right = All-nil (IsPut held.2); empty = λ _. refl };
      },
    )

pub finds : (port : ℕ) (v : View) → Finds Holds port v (IsEmptied v)
finds port v views held at owns whole =
    let kept = held.3 in
    let f = kept.each port v at in
    let put = (f.owner owns).1 in
    let one = λ (x : ℕ). all_of_one (λ u. tasks_at x u.taken) (λ u. u.share) views port v refl refl at (kept.shares ∙ sym whole) (λ k u e z. ap (tasks_at x) ((kept.each k u e).empty z)) in
    subst (λ (l : List Region). AreAllTaken l v.taken) (sym put) record { once = λ x. let a = one x in let b = kept.once x in omega arith; right = f.right }

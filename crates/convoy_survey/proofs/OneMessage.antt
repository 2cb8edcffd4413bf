-- The targets of one message among those of a scenario, and the rows for them.
use Rattle.std.proofs.Common.{All, ◌≡◌, ◌⊎◌, inl, inr, ℕ, zero, suc, ◌+◌, ◌<◌, ◌≤◌, ◌==◌, nat_lt, Bool, true, false, cond, List, [], ◌∷◌, ◌++◌, length, map, filter, flat_map, refl, sym, ap, subst, ◌∙◌, append-nil, arith}
use Rattle.std.specs.List.{range_with_len}
use Rattle.std.proofs.Math.ListN.{get_or-map}
use Rattle.std.proofs.lemmas.Bool.{cases_Bool, ne_eqb}
use Rattle.std.proofs.lemmas.Bool.Decides.{nat_tests}
use Rattle.std.proofs.lemmas.List.{length-map}
use Rattle.std.proofs.lemmas.List.Elements.{filter-append}
use Rattle.convoy_stamps.proofs.Loops.{flat_map_range_more}
use Rattle.convoy_scenario.specs.Scenario.{Scenario, message_at}
use Rattle.convoy_scenario.specs.Targets.{may_be_target, targets_at, targets_of}

-- the target is one of message m
abbrev IsOf : ℕ → ℕ × ℕ → Bool
IsOf m target = target.0 == m

-- what holds of what f gives for each element
pub All-from_map : {X Y : Type 0} (P : Y → Type 0) (f : X → Y) (xs : List X) → All P (map f xs) → All (λ (x : X). P (f x)) xs
All-from_map P f xs all k d within =
    subst P (get_or-map f xs k d) (all k (f d) (subst (λ (n : ℕ). k < n) (sym (length-map xs f)) within))

map_filter : {X Y : Type 0} (f : X → Y) (p : Y → Bool) (xs : List X) → map f (filter (λ (x : X). p (f x)) xs) ≡ filter p (map f xs)
map_filter f p [] = refl
map_filter f p (x ∷ xs) = by_test (p (f x)) (map_filter f p xs) where
  by_test : (b : Bool) → map f (filter (λ y. p (f y)) xs) ≡ filter p (map f xs) →
      map f (cond b (x ∷ filter (λ y. p (f y)) xs) (filter (λ y. p (f y)) xs)) ≡ cond b (f x ∷ filter p (map f xs)) (filter p (map f xs))
  by_test true rest = ap (λ ys. f x ∷ ys) rest
  by_test false rest = rest

-- of the targets of message k at these groups those of message m: all of them, or none
filter_groups : (m k : ℕ) (groups : List ℕ) → filter (IsOf m) (map (λ (g : ℕ). (k, g)) groups) ≡ cond (k == m) (map (λ (g : ℕ). (k, g)) groups) []
filter_groups m k [] = by_test (k == m) where
  by_test : (b : Bool) → ◌≡◌ {A = List (ℕ × ℕ)} [] (cond b [] [])
  by_test true = refl
  by_test false = refl
filter_groups m k (g ∷ gs) = by_test (k == m) (filter_groups m k gs) where
  by_test : (b : Bool) → filter (IsOf m) (map (λ (h : ℕ). (k, h)) gs) ≡ cond b (map (λ (h : ℕ). (k, h)) gs) [] →
      cond b ((k, g) ∷ filter (IsOf m) (map (λ (h : ℕ). (k, h)) gs)) (filter (IsOf m) (map (λ (h : ℕ). (k, h)) gs)) ≡ cond b ((k, g) ∷ map (λ (h : ℕ). (k, h)) gs) []
  by_test true rest = ap (λ ts. (k, g) ∷ ts) rest
  by_test false rest = rest

filter_message : (scenario : Scenario) (m k : ℕ) → filter (IsOf m) (targets_at scenario k) ≡ cond (k == m) (targets_at scenario k) []
filter_message scenario m k = by_room (may_be_target scenario k) where
  groups : List ℕ
  groups = (message_at scenario k).destinations

  none : (b : Bool) → ◌≡◌ {A = List (ℕ × ℕ)} [] (cond b [] [])
  none true = refl
  none false = refl

  by_room : (room : Bool) → filter (IsOf m) (cond room (map (λ (g : ℕ). (k, g)) groups) []) ≡ cond (k == m) (cond room (map (λ (g : ℕ). (k, g)) groups) []) []
  by_room true = filter_groups m k groups
  by_room false = none (k == m)

-- the targets of the first n messages
abbrev Before : Scenario → ℕ → List (ℕ × ℕ)
Before scenario n = flat_map (targets_at scenario) (range_with_len 0 n)

one_more : (scenario : Scenario) (m n : ℕ) → filter (IsOf m) (Before scenario (n + 1)) ≡ filter (IsOf m) (Before scenario n) ++ cond (n == m) (targets_at scenario n) []
one_more scenario m n =
    ap (filter (IsOf m)) (flat_map_range_more (targets_at scenario) n)
    ∙ filter-append (IsOf m) (Before scenario n) (targets_at scenario n)
    ∙ ap (λ ts. filter (IsOf m) (Before scenario n) ++ ts) (filter_message scenario m n)

none_before : (scenario : Scenario) (m n : ℕ) → n ≤ m → filter (IsOf m) (Before scenario n) ≡ []
none_before scenario m zero before = refl
none_before scenario m (suc n) before =
    let next : suc n ≡ n + 1 = omega arith in
    let other : (n == m) ≡ false = ne_eqb n m (λ e. omega (arith, before, e)) in
    subst (λ (k : ℕ). filter (IsOf m) (Before scenario k) ≡ []) (sym next)
    (one_more scenario m n ∙ rw (other, none_before scenario m n (omega (arith, before))) refl)

from_here : (scenario : Scenario) (m n : ℕ) → m < n → filter (IsOf m) (Before scenario n) ≡ targets_at scenario m
from_here scenario m zero below = absurd (omega (arith, below))
from_here scenario m (suc n) below =
    let next : suc n ≡ n + 1 = omega arith in
    subst (λ (k : ℕ). filter (IsOf m) (Before scenario k) ≡ targets_at scenario m) (sym next)
    (one_more scenario m n ∙ by_test (cases_Bool (n == m)) (from_here scenario m n)) where
      by_test : ((n == m) ≡ true) ⊎ ((n == m) ≡ false) → (m < n → filter (IsOf m) (Before scenario n) ≡ targets_at scenario m) →
          filter (IsOf m) (Before scenario n) ++ cond (n == m) (targets_at scenario n) [] ≡ targets_at scenario m
      by_test (inl here) rest =
          let same : n ≡ m = grind (arith, nat_tests, here) in
          rw (here, none_before scenario m n (omega (arith, same))) (ap (targets_at scenario) same)
      by_test (inr other) rest =
          let less : m < n = grind (arith, nat_tests, below, other) in
          rw (other, rest less) (append-nil (targets_at scenario m))

map_map : {X Y Z : Type 0} (g : Y → Z) (f : X → Y) (xs : List X) → map g (map f xs) ≡ map (λ (x : X). g (f x)) xs
map_map g f [] = refl
map_map g f (x ∷ xs) = ap (λ zs. g (f x) ∷ zs) (map_map g f xs)

groups_back : (m : ℕ) (groups : List ℕ) → map (λ (target : ℕ × ℕ). target.1) (map (λ (g : ℕ). (m, g)) groups) ≡ groups
groups_back m [] = refl
groups_back m (g ∷ gs) = ap (λ hs. g ∷ hs) (groups_back m gs)

-- the groups of a message's rows, if it has any, are those that it goes to
pub groups_of_rows : {X : Type 0} (target : X → ℕ × ℕ) (scenario : Scenario) (m : ℕ) (rows : List X) → map target rows ≡ targets_of scenario →
    0 < length (filter (λ (row : X). IsOf m (target row)) rows) →
    map (λ (row : X). (target row).1) (filter (λ (row : X). IsOf m (target row)) rows) ≡ (message_at scenario m).destinations
groups_of_rows {X = X} target scenario m rows targets some = by_number (cases_Bool (nat_lt m (length scenario.multicasts))) where
  groups : List ℕ
  groups = (message_at scenario m).destinations

  kept : List X
  kept = filter (λ (row : X). IsOf m (target row)) rows

  as_asked : map target kept ≡ filter (IsOf m) (targets_of scenario)
  as_asked = map_filter target (IsOf m) rows ∙ ap (filter (IsOf m)) targets

  not_none : map target kept ≡ [] → ⊥
  not_none none = let count : length kept ≡ 0 = sym (length-map kept target) ∙ ap length none in omega (arith, some, count)

  by_room : (room : Bool) → map target kept ≡ cond room (map (λ (g : ℕ). (m, g)) groups) [] → map (λ (row : X). (target row).1) kept ≡ groups
  by_room false is = absurd (not_none is)
  by_room true is = sym (map_map (λ (t : ℕ × ℕ). t.1) target kept) ∙ ap (map (λ (t : ℕ × ℕ). t.1)) is ∙ groups_back m groups

  by_number : (nat_lt m (length scenario.multicasts) ≡ true) ⊎ (nat_lt m (length scenario.multicasts) ≡ false) → map (λ (row : X). (target row).1) kept ≡ groups
  by_number (inl known) =
      let less : m < length scenario.multicasts = grind (arith, nat_tests, known) in
      by_room (may_be_target scenario m) (as_asked ∙ from_here scenario m (length scenario.multicasts) less)
  by_number (inr unknown) =
      let more : length scenario.multicasts ≤ m = grind (arith, nat_tests, unknown) in
      absurd (not_none (as_asked ∙ none_before scenario m (length scenario.multicasts) more))

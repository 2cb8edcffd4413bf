-- Lists: a pass over elements with their numbers, and the first place that passes a test.
use Rattle.std.proofs.Common.{◌≡◌, ℕ, zero, suc, ◌+◌, ◌<◌, ◌≤◌, Bool, true, false, not, cond, eqb, ltb, Some, None, position, List, [], ◌∷◌, ◌++◌, length, get_or, take, ap, arith, refl, zero-add, one-add, add-one}
use Rattle.std.specs.Option.{option_or}
use Rattle.std.specs.List.{All, flat_map, enumerate_from, position_or_len}
use Rattle.std.proofs.lemmas.List.{take_more, take_all, append-nil, length_push}
use Rattle.std.proofs.lemmas.Bool.{cond-false, le-ltb}
use Rattle.std.proofs.lemmas.Bool.Decides.{nat_tests}
use Rattle.std.specs.List.Sorted.{IsStrictlyIncreasing}
use Rattle.std.proofs.lemmas.List.Sums.{prefix_len-le-length}
use Rattle.std.proofs.lemmas.List.Folds.{position_or_len_push}
use Rattle.std.proofs.lemmas.List.Elements.{All-nil, All-append, All-head, All-tail}
use Rattle.std.proofs.lemmas.List.Concat.{flat_map-append}
use Rattle.std.proofs.lemmas.List.FromFn.{length-enumerate_from, get_or-enumerate_from}

pub flat_map_numbered_more : {X A : Type 0} (f : ℕ × X → List A) (xs : List X) (i : ℕ) (d : X) → i < length xs → flat_map f (take (i + 1) (enumerate_from 0 xs)) ≡ flat_map f (take i (enumerate_from 0 xs)) ++ f (i, get_or xs i d)
flat_map_numbered_more f xs i d h =
    let within : i < length (enumerate_from 0 xs) = rw length-enumerate_from h in
    rw (take_more (enumerate_from 0 xs) i (0, d) within, flat_map-append, get_or-enumerate_from 0 xs i (0, d) h, zero-add, append-nil)
    refl

pub flat_map_numbered_all : {X A : Type 0} (f : ℕ × X → List A) (xs : List X) (i : ℕ) → length xs ≤ i → flat_map f (take i (enumerate_from 0 xs)) ≡ flat_map f (enumerate_from 0 xs)
flat_map_numbered_all f xs i h = ap (flat_map f) (take_all i (enumerate_from 0 xs) (rw length-enumerate_from h))

place_step : (n m l : ℕ) (b : Bool) → n ≤ l → m ≡ cond (eqb n l) (l + cond b 0 1) n → cond (ltb m (l + 1)) (Some m) None ≡ option_or (cond (ltb n l) (Some n) None) (cond b (Some l) None)
place_step n m l true h e = grind (arith, nat_tests)
place_step n m l false h e = grind (arith, nat_tests)

-- one more element: the first place stays, or else it is the new one's if that passes
pub position_push : {X : Type 0} (p : X → Bool) (xs : List X) (x : X) → position p (xs ++ x ∷ []) ≡ option_or (position p xs) (cond (p x) (Some (length xs)) None)
position_push p xs x =
    rw length_push
    (place_step (position_or_len p xs) (position_or_len p (xs ++ x ∷ [])) (length xs) (p x) (prefix_len-le-length (λ y. not (p y)) xs) (position_or_len_push p xs x))

none_passes : {X : Type 0} (p : X → Bool) (xs : List X) → All (λ x. p x ≡ false) xs → position_or_len p xs ≡ length xs
none_passes p [] h = refl
none_passes p (x ∷ xs) h =
    rw (All-head (λ y. p y ≡ false) x xs h, none_passes p xs (All-tail (λ y. p y ≡ false) x xs h)) (one-add (length xs))

pub position_none : {X : Type 0} (p : X → Bool) (xs : List X) → All (λ x. p x ≡ false) xs → position p xs ≡ None
position_none p xs h =
    cond-false (ltb (position_or_len p xs) (length xs)) (Some (position_or_len p xs)) None
    (let all = none_passes p xs h in le-ltb (position_or_len p xs) (length xs) (omega arith))

pub All-flat_map : {X A : Type 0} (P : A → Type 0) (f : X → List A) (xs : List X) → All (λ x. All P (f x)) xs → All P (flat_map f xs)
All-flat_map P f [] h = All-nil P
All-flat_map P f (x ∷ xs) h =
    All-append P (f x) (flat_map f xs) (All-head (λ y. All P (f y)) x xs h) (All-flat_map P f xs (All-tail (λ y. All P (f y)) x xs h))

-- what holds of each element with its number
pub All-numbered : {X : Type 0} (P : ℕ × X → Type 0) (xs : List X) → ((k : ℕ) (d : X) → k < length xs → P (k, get_or xs k d)) → All P (enumerate_from 0 xs)
All-numbered P xs h k d l =
    let short : k < length xs = rw length-enumerate_from at l in
    rw (get_or-enumerate_from 0 xs k d short, zero-add) (h k d.1 short)

rises : (xs : List ℕ) → IsStrictlyIncreasing xs → (k : ℕ) → k < length xs → k ≤ get_or xs k 0
rises xs h zero l = omega arith
rises xs h (suc k) l =
    let before = rises xs h k (omega arith) in
    let step = rw add-one at (h k (omega arith)) in
    omega arith

-- rising numbers below n are at most n
pub length-increasing-le : (xs : List ℕ) (n : ℕ) → IsStrictlyIncreasing xs → All (λ x. x < n) xs → length xs ≤ n
length-increasing-le [] n h below = omega arith
length-increasing-le (x ∷ xs) n h below =
    let last = rises (x ∷ xs) h (length xs) (omega arith) in
    let under = below (length xs) 0 (omega arith) in
    omega arith

-- Rows as they are put in their places and taken from there.
use Rattle.std.proofs.Common.{ℕ, Vec, Bool, true, false, if◌then◌else◌, ◌≡◌, ◌+◌, ◌<◌, ◌≤◌, List, [], ◌∷◌, ◌++◌, Option, Some, None, get_or, set, length, replicate, suc, zero, sym, ap, subst, ◌∙◌, arith, ⊎_elim}
use Rattle.std.proofs.lemmas.Bool.{cases_eq, cases_lt}
use Rattle.std.proofs.lemmas.Grind.{get_or-set_at}
use Rattle.std.proofs.lemmas.List.{get_or-replicate, get_or-set_other, get_or_past, length-replicate, set_past}
use Rattle.std.proofs.lemmas.List.Elements.{All-push}
use Rattle.std.proofs.lemmas.Option.{none-some, same_Some}
use Rattle.std.proofs.lemmas.Slice.Zip.{all_zipped_more}
use Rattle.std.specs.List.{fold, range_with_len}
use denote.Ref.{Bor}
use Rattle.convoy_rows.specs.Rows.{AreMade, AreRightPairs, AreRightPlaces, AreRightShares, IsMade, places_of, with_row, with_rows}

nothing : {T : Type 0} (n i : ℕ) → get_or {A = Option T} (replicate n None) i None ≡ None
nothing {T} n i = ⊎_elim (λ small. get_or-replicate {A = Option T} n i None None small)
    (λ past. get_or_past {X = Option T} (replicate n None) i None (omega (arith, length-replicate {A = Option T} n None, past))) (cases_lt i n)

-- where there is no row, all are right
pub empty_right : {T : Type 0} (is_right : ℕ → T → Type 0) (n : ℕ) → AreRightPlaces is_right (replicate n None)
empty_right {T} is_right n = λ i row is. absurd (none-some row (sym (nothing {T = T} n i) ∙ is))

same_row : {T : Type 0} (is_right : ℕ → T → Type 0) (i : ℕ) (x : T) → is_right i x → (row : T) → Some x ≡ Some row → is_right i row
same_row is_right i x right row is = subst (is_right i) (same_Some x row is) right

-- a right row is put in its place
pub right_with : {T : Type 0} (is_right : ℕ → T → Type 0) (places : List (Option T)) (pair : ℕ × T)
    → AreRightPlaces is_right places → is_right pair.0 pair.1 → AreRightPlaces is_right (with_row places pair)
right_with {T} is_right places (n, x) are right = ⊎_elim within past (cases_lt n (length places)) where
  here : n < length places → (i : ℕ) (row : T) → i ≡ n → get_or (set places n (Some x)) i None ≡ Some row → is_right i row
  here small i row same is =
      subst (λ k. is_right k row) (sym same) (same_row is_right n x right row (sym (get_or-set_at places n i (Some x) None same small) ∙ is))

  within : n < length places → AreRightPlaces is_right (with_row places (n, x))
  within small = λ i row is. ⊎_elim (λ same. here small i row same is)
      (λ other. are i row (sym (get_or-set_other places n i (Some x) None other) ∙ is)) (cases_eq i n)

  past : length places ≤ n → AreRightPlaces is_right (with_row places (n, x))
  past large = subst (AreRightPlaces is_right) (sym (set_past places n (Some x) large)) are

-- so are all rows of a thread
pub right_with_all : {T : Type 0} (is_right : ℕ → T → Type 0) (places : List (Option T)) (pairs : List (ℕ × T))
    → AreRightPlaces is_right places → AreRightPairs is_right pairs → AreRightPlaces is_right (with_rows places pairs)
right_with_all is_right places [] are right = are
right_with_all is_right places (pair ∷ pairs) are right =
    right_with_all is_right (with_row places pair) pairs (right_with is_right places pair are (right 0 pair (omega arith)))
    (λ k d small. right (suc k) d (omega (arith, small)))

-- so are the rows of all threads
pub right_places : {T Z : Type 0} (is_right : ℕ → T → Type 0) (count : ℕ) (shares : List (Vec (ℕ × T) Z))
    → AreRightShares is_right shares → AreRightPlaces is_right (places_of count shares)
right_places {T} {Z} is_right count shares right = over shares (replicate count None) right (empty_right is_right count) where
  over : (shares : List (Vec (ℕ × T) Z)) (places : List (Option T)) → AreRightShares is_right shares → AreRightPlaces is_right places
      → AreRightPlaces is_right (fold (λ places share. with_rows places share.items) places shares)
  over [] places right are = are
  over (share ∷ shares) places right are =
      over shares (with_rows places share.items) (λ k d small. right (suc k) d (omega (arith, small)))
      (right_with_all is_right places share.items are (right 0 share (omega arith)))

-- a row of a thread is appended, where there is memory for it
pub right_pushed : {T : Type 0} (is_right : ℕ → T → Type 0) (before : List (ℕ × T)) (n : ℕ) (row : T) (pushed : Bool)
    → AreRightPairs is_right before → is_right n row → AreRightPairs is_right (if pushed then before ++ (n, row) ∷ [] else before)
right_pushed is_right before n row true are right = All-push (λ pair. is_right pair.0 pair.1) before (n, row) are right
right_pushed is_right before n row false are right = are

-- a row is taken from its place
pub right_without : {T : Type 0} (is_right : ℕ → T → Type 0) (places : List (Option T)) (n : ℕ)
    → AreRightPlaces is_right places → AreRightPlaces is_right (set places n None)
right_without {T} is_right places n are = ⊎_elim within past (cases_lt n (length places)) where
  here : n < length places → (i : ℕ) (row : T) → i ≡ n → get_or (set places n None) i None ≡ Some row → is_right i row
  here small i row same is = absurd (none-some row (sym (get_or-set_at places n i None None same small) ∙ is))

  within : n < length places → AreRightPlaces is_right (set places n None)
  within small = λ i row is. ⊎_elim (λ same. here small i row same is)
      (λ other. are i row (sym (get_or-set_other places n i None None other) ∙ is)) (cases_eq i n)

  past : length places ≤ n → AreRightPlaces is_right (set places n None)
  past large = subst (AreRightPlaces is_right) (sym (set_past places n None large)) are

range_push : (from n : ℕ) → range_with_len from (suc n) ≡ range_with_len from n ++ (from + n) ∷ []
range_push from zero = ap (λ k. k ∷ []) (omega arith)
range_push from (suc n) = ap (λ ks. from ∷ ks) (range_push (from + 1) n ∙ ap (λ k. range_with_len (from + 1) n ++ k ∷ []) (omega arith))

-- one more row
pub one_more_made : {W T : Type 0} (may_answer : ℕ → Bor W → T → Type 0) (n : ℕ) (rows : List T) (row : T)
    → AreMade may_answer n rows → IsMade may_answer n row → AreMade may_answer (n + 1) (rows ++ row ∷ [])
one_more_made may_answer n rows row are is =
    let next : n + 1 ≡ suc n = omega arith in
    let numbers : range_with_len 0 (n + 1) ≡ range_with_len 0 n ++ n ∷ [] = ap (range_with_len 0) next ∙ range_push 0 n ∙ ap (λ k. range_with_len 0 n ++ k ∷ []) (omega arith) in
    rw numbers (all_zipped_more (IsMade may_answer) (range_with_len 0 n) rows n row are is)

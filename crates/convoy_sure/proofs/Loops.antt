-- One turn more of loops.
use Rattle.std.proofs.Common.{◌≡◌, ℕ, ◌+◌, ◌<◌, ◌≤◌, zero, suc, Bool, true, false, cond, List, [], ◌∷◌, ◌++◌, length, take, get_or, map, fold, filter, All, refl, sym, ap, subst, ◌∙◌, arith}
use Rattle.std.specs.List.{range_with_len}
use Rattle.std.proofs.lemmas.List.{take_more}
use Rattle.std.proofs.lemmas.Grind.{fold-append}
use Rattle.std.proofs.lemmas.List.FromFn.{map-range_with_len_more}
use Rattle.convoy_stamps.proofs.Loops.{filter_range_more}

-- one number more
pub fold_range_more : (op : ℕ → ℕ → ℕ) (a : ℕ) (f : ℕ → ℕ) (n from : ℕ)
    → fold op a (map f (range_with_len from (suc n))) ≡ op (fold op a (map f (range_with_len from n))) (f (from + n))
fold_range_more op a f zero from = ap (λ k. op a (f k)) (omega arith)
fold_range_more op a f (suc n) from =
    fold_range_more op (op a (f from)) f n (from + 1) ∙ ap (λ k. op (fold op (op a (f from)) (map f (range_with_len (from + 1) n))) (f k)) (omega arith)

-- the next number passes the test, or it does not
pub range_more_yes : (p : ℕ → Bool) (n : ℕ) → p n ≡ true → filter p (range_with_len 0 (n + 1)) ≡ filter p (range_with_len 0 n) ++ n ∷ []
range_more_yes p n t = filter_range_more p n ∙ ap (λ b. filter p (range_with_len 0 n) ++ cond b (n ∷ []) []) t

pub range_more_no : (p : ℕ → Bool) (n : ℕ) → p n ≡ false → filter p (range_with_len 0 (n + 1)) ≡ filter p (range_with_len 0 n)
range_more_no p n t = filter_range_more p n ∙ ap (λ b. filter p (range_with_len 0 n) ++ cond b (n ∷ []) []) t ∙ append_nil (filter p (range_with_len 0 n)) where
  append_nil : (xs : List ℕ) → xs ++ [] ≡ xs
  append_nil [] = refl
  append_nil (x ∷ xs) = ap (λ ys. x ∷ ys) (append_nil xs)

-- a fold over one element more
pub fold_more : {S X : Type 0} (f : S → X → S) (a : S) (xs : List X) (i : ℕ) (d : X) → i < length xs
    → fold f a (take (i + 1) xs) ≡ f (fold f a (take i xs)) (get_or xs i d)
fold_more f a xs i d l = ap (fold f a) (take_more xs i d l) ∙ fold-append f a (take i xs) (get_or xs i d ∷ [])

-- ---- lists that a loop pushes to
-- a list of values of the first numbers with that of the next one
pub pushed : (f : ℕ → ℕ) (new old : List ℕ) (count value : ℕ) → new ≡ old ++ value ∷ [] → old ≡ map f (range_with_len 0 count) → value ≡ f count
    → new ≡ map f (range_with_len 0 (count + 1))
pushed f new old count value is was here =
    is ∙ ap (λ xs. xs ++ value ∷ []) was ∙ ap (λ v. map f (range_with_len 0 count) ++ v ∷ []) here ∙ sym (map-range_with_len_more f 0 count count (omega arith))

-- a list of numbers within a bound with one more
pub pushed_within : (most : ℕ) (new old : List ℕ) (value : ℕ) → new ≡ old ++ value ∷ [] → All (λ x. x ≤ most) old → value ≤ most → All (λ x. x ≤ most) new
pushed_within most new old value is within low k d l =
    subst (λ (xs : List ℕ). k < length xs → get_or xs k d ≤ most) (sym is) (at old k within) l where
      at : (xs : List ℕ) (k : ℕ) → All (λ x. x ≤ most) xs → k < length (xs ++ value ∷ []) → get_or (xs ++ value ∷ []) k d ≤ most
      at [] zero all l = low
      at [] (suc k) all l = absurd (omega arith)
      at (x ∷ xs) zero all l = all 0 d (omega arith)
      at (x ∷ xs) (suc k) all l = at xs k (λ i e m. all (suc i) e (omega arith)) (omega arith)

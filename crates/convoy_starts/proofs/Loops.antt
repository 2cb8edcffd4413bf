-- One turn more of loops.
use Rattle.std.proofs.Common.{◌≡◌, ℕ, ◌+◌, ◌<◌, ◌≤◌, zero, suc, false, List, [], ◌∷◌, ◌++◌, length, drop, take, get_or, max, map, fold, refl, ap, ◌∙◌, arith, length-drop}
use Rattle.std.proofs.lemmas.List.{take_more}
use Rattle.convoy_starts.specs.Starts.{covers_all}

-- a list of values that has more than another does not cover it
pub covers_none : (old new : List ℕ) (i : ℕ) → i < length old → length new ≤ i → covers_all (drop i old) (drop i new) ≡ false
covers_none old new i l m = ap (covers_all (drop i old)) (drop_past i new m) ∙ first (drop i old) (omega (arith, length-drop i old)) where
  drop_past : (i : ℕ) (xs : List ℕ) → length xs ≤ i → drop i xs ≡ []
  drop_past zero [] m = refl
  drop_past zero (x ∷ xs) m = absurd (omega arith)
  drop_past (suc i) [] m = refl
  drop_past (suc i) (x ∷ xs) m = drop_past i xs (omega arith)

  first : (xs : List ℕ) → 0 < length xs → covers_all xs [] ≡ false
  first [] h = absurd (omega arith)
  first (x ∷ xs) h = refl

-- the greatest with one element more
pub greatest_more : (f : ℕ → ℕ) (xs : List ℕ) (i : ℕ) → i < length xs
    → fold max 0 (map f (take (i + 1) xs)) ≡ max (fold max 0 (map f (take i xs))) (f (get_or xs i 0))
greatest_more f xs i l =
    ap (λ ys. fold max 0 (map f ys)) (take_more xs i 0 l) ∙ one_more (get_or xs i 0) 0 (take i xs) where
      one_more : (y b : ℕ) (ys : List ℕ) → fold max b (map f (ys ++ y ∷ [])) ≡ max (fold max b (map f ys)) (f y)
      one_more y b [] = refl
      one_more y b (z ∷ zs) = one_more y (max b (f z)) zs

-- an entry of a list, whatever stands for those past its end
pub there : {X : Type 0} (xs : List X) (k : ℕ) (d e : X) → k < length xs → get_or xs k d ≡ get_or xs k e
there [] k d e l = absurd (omega arith)
there (x ∷ xs) zero d e l = refl
there (x ∷ xs) (suc k) d e l = there xs k d e (omega arith)

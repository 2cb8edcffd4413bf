-- One turn more of a loop that cuts windows.
use Rattle.std.proofs.Common.{◌≡◌, ℕ, ◌+◌, ◌<◌, ◌≤◌, List, length, get_or, drop, fold, ap, sym, ◌∙◌}
use Rattle.std.proofs.lemmas.List.{drop_all, drop_more}

pub fold_turn : {S X : Type 0} (step : S → X → S) (start now next : S) (xs : List X) (i : ℕ) (d : X) → i < length xs → next ≡ step now (get_or xs i d)
    → fold step now (drop i xs) ≡ fold step start xs → fold step next (drop (i + 1) xs) ≡ fold step start xs
fold_turn step start now next xs i d l is so_far =
    ap (λ s. fold step s (drop (i + 1) xs)) is ∙ sym (ap (fold step now) (drop_more xs i d l)) ∙ so_far

pub fold_end : {S X : Type 0} (step : S → X → S) (start now : S) (xs : List X) (i : ℕ) → length xs ≤ i
    → fold step now (drop i xs) ≡ fold step start xs → now ≡ fold step start xs
fold_end step start now xs i past so_far = sym (ap (fold step now) (drop_all i xs past)) ∙ so_far

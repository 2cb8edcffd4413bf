-- What is left of a count.
use Rattle.std.proofs.Common.{◌≡◌, ℕ, ◌+◌, ◌-◌, ◌<◌, ◌≤◌, suc, List, [], ◌∷◌, ◌++◌, length, take, drop, refl, sym, ap, ◌∙◌, arith}
use Rattle.std.specs.List.{range_with_len, refill}
use Rattle.std.proofs.Math.Seq.{take-append_seam}

pub range_next : (i n : ℕ) → i < n → range_with_len i (n - i) ≡ i ∷ range_with_len (i + 1) (n - (i + 1))
range_next i n l = let e : n - i ≡ suc (n - (i + 1)) = omega arith in rw e refl

pub range_end : (i n : ℕ) → n ≤ i → range_with_len i (n - i) ≡ []
range_end i n l = let e : n - i ≡ 0 = omega arith in rw e refl

-- what a slice leaves in the vector that it was lent from
pub refilled : {X : Type 0} (n : ℕ) (old new : List X) → length new ≡ n → refill n old new ≡ new
refilled n old new e =
    let rest = drop (length new) old in ap (λ k. take k (new ++ rest)) (sym e) ∙ take-append_seam new rest

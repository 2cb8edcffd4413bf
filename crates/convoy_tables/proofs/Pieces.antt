-- Pieces that are written one after the other, with something between them.
use Rattle.std.proofs.Common.{◌≡◌, ℕ, ◌≤◌, List, ◌++◌, length, drop, sym, ◌∙◌}
use Rattle.std.specs.List.{enumerate_from, flat_map}
use Rattle.std.proofs.lemmas.List.{append-nil, drop_all}
use Rattle.convoy_tables.specs.Formats.{before}

-- the pieces of the elements from a number on
abbrev pub joined_from : {X : Type 0} → List ℕ → (ℕ → X → List ℕ) → ℕ → List X → List ℕ
joined_from between piece i xs = flat_map (λ p. before p.0 between ++ piece p.0 p.1) (enumerate_from i xs)

-- none is left
pub none_left : {X : Type 0} (between : List ℕ) (piece : ℕ → X → List ℕ) (text all : List ℕ) (xs : List X) (i : ℕ)
    → length xs ≤ i
    → text ++ joined_from between piece i (drop i xs) ≡ all
    → text ≡ all
none_left between piece text all xs i past whole =
    let gone = drop_all i xs past in
    sym (append-nil text) ∙ rw gone at whole

-- The trees by number.
use Rattle.std.specs.Prelude.{◌≡◌, ℕ, zero, suc, ◌+◌, ◌≤◌, ◌<◌, List, [], ◌∷◌, length}
use Rattle.std.specs.List.{sum_by}
use Rattle.std.proofs.Common.{arith, refl, ap, sym, ◌∙◌, inl, inr, get_or, set}
use Rattle.std.proofs.lemmas.Bool.{cases_eq, cases_lt}
use Rattle.std.proofs.lemmas.List.{get_or-set_same, get_or-set_other, get_or_past}
use Rattle.std.proofs.lemmas.Option.{get_or_from_slice_get}
use Rattle.convoy_ledger.specs.Tickets.{times}
use Rattle.convoy_scenario.specs.Scenario.{Scenario}
use Rattle.convoy_regions.specs.Regions.{Region, any_order}
use Rattle.convoy_branch.specs.declared.bounds.Bounds.{Bounds}
use Rattle.convoy_share_deque.specs.declared.task.Task.{Task}
use Rattle.convoy_share_deque.specs.Tasks.{IsPut}
use Rattle.convoy_share.specs.declared.piece.Piece.{Piece}
use Rattle.convoy_share.specs.Pieces.{places_in, spent}
use Rattle.convoy_share.specs.Subtrees.{IsSubtree}
use Rattle.convoy_share.specs.Filling.{slot_at, there, IsSlot}
use Rattle.convoy_share.proofs.Counts.{sum_none, times_above}

-- the branch that was put under a number
pub put_is : (put : List Region) (task : Task) → IsPut put task → get_or put task.number (any_order []) ≡ task.branch.region
put_is put task is = get_or_from_slice_get put task.number task.branch.region (any_order []) is

pub there_le : (slot : List Piece) → there slot ≤ 1
there_le [] = omega arith
there_le (piece ∷ pieces) = omega arith

-- a slot that is there has its tree
pub slot_there : (bounds : Bounds) (scenario : Scenario) (seen : ℕ) (put : List Region) (number : ℕ) (slot : List Piece) → 0 < there slot → IsSlot bounds scenario seen put number slot → IsSubtree bounds scenario seen put number (get_or put number (any_order [])) slot
slot_there bounds scenario seen put number [] is slot = absurd (omega arith)
slot_there bounds scenario seen put number (piece ∷ pieces) is slot = slot

-- an empty slot has no node and no place
slot_empty : (f : List Piece → ℕ) → f [] ≡ 0 → (slot : List Piece) → there slot ≡ 0 → f slot ≡ 0
slot_empty f none [] is = none
slot_empty f none (piece ∷ pieces) is = absurd (omega arith)

-- the branches that are pushed in a tree have greater numbers
slot_above : (bounds : Bounds) (scenario : Scenario) (seen : ℕ) (put : List Region) (x number : ℕ) (slot : List Piece) → x ≤ number → IsSlot bounds scenario seen put number slot → times x (places_in slot) ≡ 0
slot_above bounds scenario seen put x number [] le slot = refl
slot_above bounds scenario seen put x number (piece ∷ pieces) le slot = times_above x (number + 1) (places_in (piece ∷ pieces)) (omega (arith, le)) slot.above

-- where no place is left outside, no slot is there: the least would have its place in one of a lesser number
module _ (bounds : Bounds) (scenario : Scenario) (seen : ℕ) (put : List Region) (slots : List (List Piece)) (each : (number : ℕ) → IsSlot bounds scenario seen put number (slot_at slots number)) (once : (x : ℕ) → sum_by (λ (slot : List Piece). times x (places_in slot)) slots ≡ there (slot_at slots x)) where
  no_place : (n k : ℕ) → ((number : ℕ) → number < n → there (slot_at slots number) ≡ 0) → times n (places_in (slot_at slots k)) ≡ 0
  no_place n k lower = elim (cases_lt k n) [
    | inl low ↦ slot_empty (λ slot. times n (places_in slot)) refl (slot_at slots k) (lower k low)
    | inr high ↦ slot_above bounds scenario seen put n k (slot_at slots k) high (each k)
  ]

  none_below : (n number : ℕ) → number < n → there (slot_at slots number) ≡ 0
  none_below zero number low = absurd (omega arith)
  none_below (suc n) number low = elim (cases_eq number n) [
    | inl same ↦ rw same (sym (once n) ∙ sum_none (λ (slot : List Piece). times n (places_in slot)) slots (λ k. no_place n k (none_below n)))
    | inr differ ↦ none_below n number (omega (arith, low, differ))
  ]

  pub none_there : (number : ℕ) → there (slot_at slots number) ≡ 0
  none_there number = none_below (suc number) number (omega arith)

  pub none_spent : sum_by spent slots ≡ 0
  none_spent = sum_none spent slots (λ k. slot_empty spent refl (slot_at slots k) (none_there k))

-- a slot that is emptied, or filled
pub IsSlot-set : (bounds : Bounds) (scenario : Scenario) (seen : ℕ) (put : List Region) (slots : List (List Piece)) (n : ℕ) (slot : List Piece) → IsSlot bounds scenario seen put n slot → ((number : ℕ) → IsSlot bounds scenario seen put number (slot_at slots number)) → n < length slots → (number : ℕ) → IsSlot bounds scenario seen put number (slot_at (set slots n slot) number)
IsSlot-set bounds scenario seen put slots n slot is each below number = elim (cases_eq number n) [
  | inl same ↦ rw (same, get_or-set_same slots n slot [] below) is
  | inr differ ↦ rw (get_or-set_other slots n number slot [] differ) (each number)
]

pub there_below : (slots : List (List Piece)) (n : ℕ) → 0 < there (slot_at slots n) → n < length slots
there_below slots n is = elim (cases_lt n (length slots)) [
  | inl low ↦ low
  | inr past ↦ absurd (omega (arith, is, ap there (get_or_past slots n [] past)))
]

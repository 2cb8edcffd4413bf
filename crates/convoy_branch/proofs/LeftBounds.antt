-- The upper bound of what is left, piece of work by piece.
use Rattle.std.specs.Prelude.{◌≡◌, ℕ, ◌+◌, ◌<◌, List, ◌∷◌, length, map, slice_index_or}
use Rattle.std.proofs.Common.{drop, ap, sym, subst, ◌∙◌}
use Rattle.std.proofs.lemmas.List.{drop_more}
use Rattle.convoy_scenario.specs.Scenario.{Scenario}
use Rattle.convoy_branch.specs.declared.bounds.Bounds.{Bounds}
use Rattle.convoy_branch.specs.declared.search.Work.{Work}
use Rattle.convoy_branch.specs.declared.search.Work.TheVariants.{Branch, Write}
use Rattle.convoy_branch.specs.Fronts.{left_in}
use Rattle.convoy_branch.specs.FrontLaws.{UppersRaised}
use Rattle.convoy_branch.specs.Searching.{IsRaisedOver, front_of}
use Rattle.convoy_branch.specs.Uppers.{IsUpperOf}

-- the upper bound where that is the best latency and the regions of the work are left
abbrev pub IsUpperOver : Bounds → Scenario → ℕ → List Work → ℕ → Type 0
IsUpperOver bounds plan best work upper = IsUpperOf bounds plan best (left_in (map front_of work)) upper

IsUpperOver-cons : (bounds : Bounds) (plan : Scenario) (best raised : ℕ) (piece : Work) (rest : List Work) (most : ℕ) → UppersRaised → IsRaisedOver bounds plan piece best raised → IsUpperOver bounds plan raised rest most → IsUpperOver bounds plan best (piece ∷ rest) most
IsUpperOver-cons bounds plan best raised (Branch branch tried) rest most law is over =
    law bounds plan best raised branch.region (left_in (map front_of rest)) most is over
IsUpperOver-cons bounds plan best raised (Write node) rest most law is over =
    subst (λ (n : ℕ). IsUpperOver bounds plan n rest most) is over

-- the piece of work at a place
pub IsUpperOver-next : (bounds : Bounds) (plan : Scenario) (best raised : ℕ) (work : List Work) (place : ℕ) (piece : Work) (most : ℕ) → UppersRaised → place < length work → piece ≡ slice_index_or work place piece → IsRaisedOver bounds plan piece best raised → IsUpperOver bounds plan raised (drop (place + 1) work) most → IsUpperOver bounds plan best (drop place work) most
IsUpperOver-next bounds plan best raised work place piece most law within at is over =
    let parts : drop place work ≡ piece ∷ drop (place + 1) work = drop_more work place piece within ∙ ap (λ (w : Work). w ∷ drop (place + 1) work) (sym at) in
    subst (λ (ws : List Work). IsUpperOver bounds plan best ws most) (sym parts) (IsUpperOver-cons bounds plan best raised piece (drop (place + 1) work) most law is over)

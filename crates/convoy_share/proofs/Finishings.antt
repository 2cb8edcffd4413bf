-- The owner's steps, once every thief was joined.
use Rattle.std.specs.Prelude.{◌≡◌, ℕ, List, [], ◌∷◌, ◌++◌, Bool}
use Rattle.std.proofs.Common.{ap, sym, subst, ◌∙◌, inl, inr}
use Rattle.std.proofs.lemmas.List.{map-append}
use Rattle.std.proofs.lemmas.List.Elements.{All-head, filter_map-append}
use Rattle.convoy_scenario.specs.Scenario.{Scenario}
use Rattle.convoy_regions.specs.Regions.{Region}
use Rattle.convoy_regions.specs.Branches.{Branch}
use Rattle.convoy_branch.specs.declared.bounds.Bounds.{Bounds}
use Rattle.convoy_branch.specs.Fronts.{FrontNode, left_region, left_in}
use Rattle.convoy_branch.specs.FrontLaws.{FrontsBetter}
use Rattle.convoy_share.specs.declared.means.Means.{Means}
use Rattle.convoy_share.specs.declared.piece.Piece.{Piece}
use Rattle.convoy_share.specs.declared.piece.Piece.TheVariants.{Todo}
use Rattle.convoy_share.specs.Common.{Common}
use Rattle.convoy_share.specs.Filling.{IsFilling}
use Rattle.convoy_share.specs.Finishing.{IsFinishing}
use Rattle.convoy_share.specs.Means.{IsGrown, IsLeftAtEnd, drawn}
use Rattle.convoy_share.specs.Pieces.{front, front_of, IsPiece}
use Rattle.convoy_share.proofs.Fillings.{IsFilling-better, IsFilling-searched}
use Rattle.convoy_share.proofs.Grown.{over_later}
use Rattle.convoy_share.proofs.Outcomes.{left_regions_in}
use Rattle.convoy_share.proofs.Places.{places_none}

left_append : (put : List Region) (done pieces : List Piece) → left_in (front put (done ++ pieces)) ≡ left_in (front put done) ++ left_in (front put pieces)
left_append put done pieces =
    ap (λ (ns : List FrontNode). left_in ns) (map-append (front_of put) done pieces) ∙ filter_map-append left_region (front put done) (front put pieces)

nil_append : (regions others : List Region) → regions ≡ [] → others ≡ [] → regions ++ others ≡ []
nil_append [] others none same = same
nil_append (region ∷ regions) others none same = absurd (cc)

-- the branch that is next is searched, and its tree settled
pub IsFinishing-searched : (better : FrontsBetter) (shared : Common) (put : List Region) (before after : Means) (done rest : List Piece) (slots : List (List Piece)) (branch : Branch) (tried : Bool) (pieces : List Piece) → IsGrown shared.bounds shared.scenario before after [] [] 0 (branch.region ∷ []) pieces → IsLeftAtEnd shared.may_stop after pieces → IsFinishing shared put before done (Todo branch tried ∷ rest) slots → IsFinishing shared put after (done ++ pieces) rest slots
IsFinishing-searched better shared put before after done rest slots branch tried pieces grown left is =
    let bounds = shared.bounds in
    let plan = shared.scenario in
    let seen = after.hand.seen in
    let now = IsFilling-better better bounds plan before.hand.seen seen (drawn before) put done (Todo branch tried ∷ rest) slots grown.later.seen is.filling in
    let next = IsFilling-searched bounds plan seen (drawn before) put done rest branch tried pieces grown.tickets slots grown.way now in
    let none = places_none plan seen pieces grown.way.trees.each in
    record {
      filling = subst (λ (n : ℕ). IsFilling bounds plan seen n put (done ++ pieces) rest slots) (sym grown.spent) next;
      left = elim is.left [
        | inl before_none ↦ elim left [
          | inl here_none ↦ inl (left_append put done pieces ∙ nil_append (left_in (front put done)) (left_in (front put pieces)) before_none (left_regions_in put pieces none ∙ here_none))
          | inr over ↦ inr over
        ]
        | inr over ↦ inr (over_later shared.may_stop before after grown.later over)
      ];
    }

-- what is settled leaves the same regions
pub IsFinishing-next : (shared : Common) (put : List Region) (means : Means) (done done' rest rest' : List Piece) (slots slots' : List (List Piece)) → left_in (front put done') ≡ left_in (front put done) → IsFilling shared.bounds shared.scenario means.hand.seen (drawn means) put done' rest' slots' → IsFinishing shared put means done rest slots → IsFinishing shared put means done' rest' slots'
IsFinishing-next shared put means done done' rest rest' slots slots' same filling is = record {
  filling = filling;
  left = elim is.left [ inl none ↦ inl (same ∙ none) | inr over ↦ inr over ];
}

-- the branch that is next is one of the scenario, and was tried as it says
pub filling_todo : (bounds : Bounds) (scenario : Scenario) (seen tickets : ℕ) (put : List Region) (done rest : List Piece) (slots : List (List Piece)) (branch : Branch) (tried : Bool) → IsFilling bounds scenario seen tickets put done (Todo branch tried ∷ rest) slots → IsPiece scenario seen put (Todo branch tried)
filling_todo bounds scenario seen tickets put done rest slots branch tried filling =
    All-head (IsPiece scenario seen put) (Todo branch tried) rest filling.each_rest

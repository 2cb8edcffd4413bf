-- What a filling is at its end: a tree, or a front.
use Rattle.std.specs.Prelude.{◌≡◌, ℕ, ◌≤◌, ◌<◌, List, [], ◌∷◌, length}
use Rattle.std.proofs.Common.{arith, refl, ap, subst, ◌∙◌}
use Rattle.std.proofs.lemmas.List.{append-nil}
use Rattle.convoy_scenario.specs.Scenario.{Scenario}
use Rattle.convoy_packets.specs.Assignment.{ranges_of}
use Rattle.convoy_packets.specs.Table.{least_of}
use Rattle.convoy_sim.specs.Delivery.{latency_of}
use Rattle.convoy_sim.specs.Greatest.{IsReached}
use Rattle.convoy_certificate.specs.declared.node.Node.{Node}
use Rattle.convoy_branch.specs.declared.bounds.Bounds.{Bounds}
use Rattle.convoy_branch.specs.Uppers.{IsUpperOf}
use Rattle.convoy_regions.specs.Regions.{Region, root_region}
use Rattle.convoy_checker.specs.Validity.{IsTree}
use Rattle.convoy_branch.specs.Fronts.{IsFront, spent_in, left_in}
use Rattle.convoy_branch.specs.FrontLaws.{WholeFrontsAreTrees}
use Rattle.convoy_share.specs.declared.piece.Piece.{Piece}
use Rattle.convoy_share.specs.declared.piece.Piece.TheVariants.{Done, Todo, Pushed}
use Rattle.convoy_share.specs.Pieces.{front, nodes_in, AreTreesOf, spent}
use Rattle.convoy_share.specs.Filling.{IsFilling}
use Rattle.convoy_share.proofs.Slots.{none_spent}

-- the nodes among the pieces are those that were spent
pub spent_nodes : (put : List Region) (pieces : List Piece) → spent_in (front put pieces) ≡ nodes_in pieces
spent_nodes put [] = refl
spent_nodes put (Done node ∷ pieces) = ap (λ (ns : List Node). node ∷ ns) (spent_nodes put pieces)
spent_nodes put (Todo branch tried ∷ pieces) = spent_nodes put pieces
spent_nodes put (Pushed number ∷ pieces) = spent_nodes put pieces

-- all pieces are done: their nodes are all that were spent
pub whole : (bounds : Bounds) (scenario : Scenario) (seen tickets : ℕ) (put : List Region) (done : List Piece) (slots : List (List Piece)) → IsFilling bounds scenario seen tickets put done [] slots → AreTreesOf bounds scenario seen put (root_region scenario ∷ []) done × (spent done ≡ tickets)
whole bounds scenario seen tickets put done slots filling =
    let same = append-nil done in
    let none = none_spent bounds scenario seen put slots filling.each_slot (λ x. omega (arith, filling.once x)) in (
      subst (λ (ps : List Piece). AreTreesOf bounds scenario seen put (root_region scenario ∷ []) ps) same filling.tree,
      omega (arith, filling.nodes, none, ap spent same),
    )

pub whole_tree : (bounds : Bounds) (scenario : Scenario) (seen tickets : ℕ) (put : List Region) (done : List Piece) (slots : List (List Piece)) → IsFilling bounds scenario seen tickets put done [] slots → AreTreesOf bounds scenario seen put (root_region scenario ∷ []) done
whole_tree bounds scenario seen tickets put done slots filling = (whole bounds scenario seen tickets put done slots filling).0

-- with no region left the nodes are the tree of a valid certificate
pub IsTree-filled : (trees : WholeFrontsAreTrees) (bounds : Bounds) (scenario : Scenario) (seen tickets : ℕ) (put : List Region) (done : List Piece) (slots : List (List Piece)) → left_in (front put done) ≡ [] → IsFilling bounds scenario seen tickets put done [] slots → IsTree scenario seen (nodes_in done) × (length (nodes_in done) ≡ tickets)
IsTree-filled trees bounds scenario seen tickets put done slots none filling =
    let all = whole bounds scenario seen tickets put done slots filling in
    (subst (λ (ns : List Node). IsTree scenario seen ns) (spent_nodes put done) (trees bounds scenario seen (front put done) none all.0), all.1)

-- with regions left it is a front
pub IsFront-filled : (bounds : Bounds) (scenario : Scenario) (seen tickets upper : ℕ) (put : List Region) (done : List Piece) (slots : List (List Piece)) → 0 < length (left_in (front put done)) → IsReached scenario seen → latency_of scenario (least_of (ranges_of scenario)) ≤ seen → IsUpperOf bounds scenario seen (left_in (front put done)) upper → IsFilling bounds scenario seen tickets put done [] slots → IsFront bounds scenario seen upper tickets
IsFront-filled bounds scenario seen tickets upper put done slots left reached least upper_is filling =
    let all = whole bounds scenario seen tickets put done slots filling in
    record {
      nodes = front put done;
      tree = all.0;
      spent = ap length (spent_nodes put done) ∙ all.1;
      left = left;
      reached = reached;
      least = least;
      upper_is = upper_is;
    }

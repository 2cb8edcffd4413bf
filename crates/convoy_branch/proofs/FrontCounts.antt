-- The nodes that were spent and the regions that are left, over the parts of a front.
use Rattle.std.specs.Prelude.{◌≡◌, ◌+◌, List, [], ◌∷◌, ◌++◌, length, map}
use Rattle.std.proofs.Common.{arith, refl, ap, ◌∙◌, length-append}
use Rattle.std.proofs.lemmas.List.{append-nil}
use Rattle.std.proofs.lemmas.List.Elements.{filter_map-append}
use Rattle.convoy_certificate.specs.declared.node.Node.{Node}
use Rattle.convoy_regions.specs.Regions.{Region}
use Rattle.convoy_branch.specs.declared.step.Turn.{Turn}
use Rattle.convoy_branch.specs.declared.step.Turn.TheVariants.{Closed, Halves}
use Rattle.convoy_branch.specs.Fronts.{FrontNode, Spent, Left, front_after, spent_node, left_region, spent_in, left_in}

pub spent_in-append : (front rest : List FrontNode) → spent_in (front ++ rest) ≡ spent_in front ++ spent_in rest
spent_in-append front rest = filter_map-append spent_node front rest

pub left_in-append : (front rest : List FrontNode) → left_in (front ++ rest) ≡ left_in front ++ left_in rest
left_in-append front rest = filter_map-append left_region front rest

-- of nodes alone all were spent, and none is left
pub spent_in-spent : (nodes : List Node) → spent_in (map Spent nodes) ≡ nodes
spent_in-spent [] = refl
spent_in-spent (node ∷ nodes) = ap (λ (ns : List Node). node ∷ ns) (spent_in-spent nodes)

pub left_in-spent : (nodes : List Node) → left_in (map Spent nodes) ≡ []
left_in-spent [] = refl
left_in-spent (node ∷ nodes) = left_in-spent nodes

pub left_in-append_spent : (front : List FrontNode) (nodes : List Node) → left_in (front ++ map Spent nodes) ≡ left_in front
left_in-append_spent front nodes =
    left_in-append front (map Spent nodes) ∙ ap (λ (rs : List Region). left_in front ++ rs) (left_in-spent nodes) ∙ append-nil (left_in front)

pub length-spent_in : (front rest : List FrontNode) → length (spent_in (front ++ rest)) ≡ length (spent_in front) + length (spent_in rest)
length-spent_in front rest = ap length (spent_in-append front rest) ∙ length-append (spent_in front) (spent_in rest)

-- what becomes of a region is one node more in its place
pub spent_in-turned : (front rest : List FrontNode) (branch : Region) (turn : Turn) → length (spent_in (front ++ (front_after turn ++ rest))) ≡ length (spent_in (front ++ Left branch ∷ rest)) + 1
spent_in-turned front rest branch (Closed node) =
    omega (arith, length-spent_in front (Spent node ∷ rest), length-spent_in front (Left branch ∷ rest))
spent_in-turned front rest branch (Halves split first second tried) =
    omega (arith, length-spent_in front (Spent split ∷ Left first.region ∷ Left second.region ∷ rest), length-spent_in front (Left branch ∷ rest))

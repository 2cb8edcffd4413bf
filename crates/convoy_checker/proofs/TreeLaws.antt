-- Laws of trees, whatever a node has to say of its region. They range over every such test, which no clause can do, so the crates above cite this file.
use Rattle.std.specs.Prelude.{◌≡◌, List, [], ◌∷◌, ◌++◌}
use Rattle.std.proofs.Common.{refl, sym, ap, subst, append_assoc}
use Rattle.convoy_regions.specs.Regions.{Region}
use Rattle.convoy_checker.specs.Trees.{AreTrees}

-- trees over some regions and then trees over others are trees over all of them
pub AreTrees-append : {N : Type 0} (below : N → Region → List Region) (Fits : N → Region → Type 0) (regions others : List Region) (first rest : List N) → AreTrees below Fits regions first → AreTrees below Fits others rest → AreTrees below Fits (regions ++ others) (first ++ rest)
AreTrees-append below Fits [] others [] rest trees more = more
AreTrees-append below Fits [] others (node ∷ first) rest trees more = absurd trees
AreTrees-append below Fits (region ∷ regions) others [] rest trees more = absurd trees
AreTrees-append below Fits (region ∷ regions) others (node ∷ first) rest trees more =
    let whole = AreTrees-append below Fits (below node region ++ regions) others first rest trees.1 more in
    (trees.0, subst (λ (rs : List Region). AreTrees below Fits rs (first ++ rest)) (append_assoc (below node region) regions others) whole)

-- nodes that are trees over some regions, and then others that are trees over other regions
pub record AreTwoParts (N : Type 0) (below : N → Region → List Region) (Fits : N → Region → Type 0) (regions others : List Region) (nodes : List N) : Type 0 where
  pub first : List N
  pub rest : List N
  pub whole : nodes ≡ first ++ rest
  pub first_trees : AreTrees below Fits regions first
  pub rest_trees : AreTrees below Fits others rest

-- trees over all of some regions are trees over the first of them and then trees over the others
pub AreTrees-split : {N : Type 0} (below : N → Region → List Region) (Fits : N → Region → Type 0) (regions others : List Region) (nodes : List N) → AreTrees below Fits (regions ++ others) nodes → AreTwoParts N below Fits regions others nodes
AreTrees-split below Fits [] others nodes trees =
    record { first = []; rest = nodes; whole = refl; first_trees = tt; rest_trees = trees }
AreTrees-split below Fits (region ∷ regions) others [] trees = absurd trees
AreTrees-split below Fits (region ∷ regions) others (node ∷ nodes) trees =
    let open_regions = subst (λ (rs : List Region). AreTrees below Fits rs nodes) (sym (append_assoc (below node region) regions others)) trees.1 in
    let parts = AreTrees-split below Fits (below node region ++ regions) others nodes open_regions in
    record {
      first = node ∷ parts.first;
      rest = parts.rest;
      whole = ap (λ ns. node ∷ ns) parts.whole;
      first_trees = (trees.0, parts.first_trees);
      rest_trees = parts.rest_trees;
    }

-- where each node that passes one test passes another, so do trees: as where a better record is known
pub AreTrees-weaker : {N : Type 0} (below : N → Region → List Region) (Fits Passes : N → Region → Type 0) → ((node : N) (region : Region) → Fits node region → Passes node region) → (regions : List Region) (nodes : List N) → AreTrees below Fits regions nodes → AreTrees below Passes regions nodes
AreTrees-weaker below Fits Passes weaker [] [] trees = tt
AreTrees-weaker below Fits Passes weaker [] (node ∷ nodes) trees = absurd trees
AreTrees-weaker below Fits Passes weaker (region ∷ regions) [] trees = absurd trees
AreTrees-weaker below Fits Passes weaker (region ∷ regions) (node ∷ nodes) trees =
    (weaker node region trees.0, AreTrees-weaker below Fits Passes weaker (below node region ++ regions) nodes trees.1)

-- what may stand in for the last nodes of trees over any regions may do so after any nodes
pub AreTrees-replaced : {N : Type 0} (below : N → Region → List Region) (Fits : N → Region → Type 0) (before old new : List N) → ((regions : List Region) → AreTrees below Fits regions old → AreTrees below Fits regions new) → (regions : List Region) → AreTrees below Fits regions (before ++ old) → AreTrees below Fits regions (before ++ new)
AreTrees-replaced below Fits [] old new replaced regions trees = replaced regions trees
AreTrees-replaced below Fits (node ∷ before) old new replaced [] trees = absurd trees
AreTrees-replaced below Fits (node ∷ before) old new replaced (region ∷ regions) trees =
    (trees.0, AreTrees-replaced below Fits before old new replaced (below node region ++ regions) trees.1)

-- a tree over a region may stand in for a leaf that fits that region alone
pub AreTrees-filled : {N : Type 0} (below : N → Region → List Region) (Fits : N → Region → Type 0) (leaf : N) (branch : Region) → ((region : Region) → Fits leaf region → branch ≡ region) → ((region : Region) → below leaf region ≡ []) → (tree : List N) → AreTrees below Fits (branch ∷ []) tree → (before after : List N) (regions : List Region) → AreTrees below Fits regions (before ++ leaf ∷ after) → AreTrees below Fits regions (before ++ (tree ++ after))
AreTrees-filled {N} below Fits leaf branch names none tree over before after regions trees =
    AreTrees-replaced below Fits before (leaf ∷ after) (tree ++ after) filled regions trees where
      filled : (open_regions : List Region) → AreTrees below Fits open_regions (leaf ∷ after) → AreTrees below Fits open_regions (tree ++ after)
      filled [] rest = absurd rest
      filled (region ∷ open_regions) rest =
          AreTrees-append below Fits (region ∷ []) open_regions tree after (subst (λ (r : Region). AreTrees below Fits (r ∷ []) tree) (names region rest.0) over) (subst (λ (rs : List Region). AreTrees below Fits (rs ++ open_regions) after) (none region) rest.1)

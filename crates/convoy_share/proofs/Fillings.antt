-- The steps by which the trees of all tasks become one.
use Rattle.std.specs.Prelude.{◌≡◌, ℕ, ◌+◌, ◌≤◌, ◌<◌, List, [], ◌∷◌, ◌++◌, length, None, reverse, Bool}
use Rattle.std.specs.List.{sum_by}
use Rattle.std.proofs.Common.{arith, refl, ap, sym, subst, ◌∙◌, inl, inr, get_or, set, append_assoc}
use Rattle.std.proofs.lemmas.Bool.{cases_eq}
use Rattle.std.proofs.lemmas.List.{append-nil, map-append, reverse-append, get_or-set_same, get_or-set_other}
use Rattle.std.proofs.lemmas.List.Elements.{All-head, All-tail, All-append, All-push, filter_map-append}
use Rattle.std.proofs.lemmas.List.Sums.{sum_by-set}
use Rattle.convoy_ledger.specs.Tickets.{times}
use Rattle.convoy_scenario.specs.Scenario.{Scenario}
use Rattle.convoy_regions.specs.Regions.{Region, any_order, root_region}
use Rattle.convoy_regions.specs.Branches.{Branch}
use Rattle.convoy_branch.specs.declared.bounds.Bounds.{Bounds}
use Rattle.convoy_certificate.specs.declared.node.Node.{Node}
use Rattle.convoy_branch.specs.Fronts.{FrontNode, Spent, left_region, left_in}
use Rattle.convoy_branch.specs.FrontLaws.{FrontsBetter}
use Rattle.convoy_share.specs.declared.piece.Piece.{Piece}
use Rattle.convoy_share.specs.declared.piece.Piece.TheVariants.{Done, Todo, Pushed}
use Rattle.convoy_share.specs.Pieces.{front, front_of, pushed_number, AreTreesOf, places_in, spent, IsPiece}
use Rattle.convoy_share.specs.Filling.{slot_at, there, IsFilling}
use Rattle.convoy_share.specs.Subtrees.{IsUnderWay}
use Rattle.convoy_share.proofs.Counts.{times-cons, places-append, spent-append, own_number, other_number}
use Rattle.convoy_share.proofs.Places.{AreTreesOf-filled, AreTreesOf-better, AreTreesOf-later, pieces_better, pieces_later, places_none}
use Rattle.convoy_share.proofs.Joins.{IsSlot-better}
use Rattle.convoy_share.proofs.Slots.{there_le, slot_there, there_below, IsSlot-set}

-- the tree of a place that is next is there
place_there : (bounds : Bounds) (scenario : Scenario) (seen tickets : ℕ) (put : List Region) (done rest : List Piece) (number : ℕ) (slots : List (List Piece)) → IsFilling bounds scenario seen tickets put done (Pushed number ∷ rest) slots → 0 < there (slot_at slots number)
place_there bounds scenario seen tickets put done rest number slots filling =
    omega (arith, filling.once number, times-cons number number (places_in rest), own_number number)

pub place_below : (bounds : Bounds) (scenario : Scenario) (seen tickets : ℕ) (put : List Region) (done rest : List Piece) (number : ℕ) (slots : List (List Piece)) → IsFilling bounds scenario seen tickets put done (Pushed number ∷ rest) slots → number < length slots
place_below bounds scenario seen tickets put done rest number slots filling =
    there_below slots number (place_there bounds scenario seen tickets put done rest number slots filling)

-- a place is filled by the tree of its number
pub IsFilling-filled : (bounds : Bounds) (scenario : Scenario) (seen tickets : ℕ) (put : List Region) (done rest : List Piece) (number : ℕ) (slots : List (List Piece)) → IsFilling bounds scenario seen tickets put done (Pushed number ∷ rest) slots → IsFilling bounds scenario seen tickets put done (slot_at slots number ++ rest) (set slots number [])
IsFilling-filled bounds scenario seen tickets put done rest number slots filling =
    let slot = slot_at slots number in
    let P = IsPiece scenario seen put in
    let is_there = place_there bounds scenario seen tickets put done rest number slots filling in
    let low = there_below slots number is_there in
    let sub = slot_there bounds scenario seen put number slot is_there (filling.each_slot number) in
    record {
      tree = AreTreesOf-filled bounds scenario seen put (root_region scenario ∷ []) (get_or put number (any_order [])) (Pushed number) done slot rest refl sub.tree filling.tree;
      settled = filling.settled;
      each_done = filling.each_done;
      each_rest = All-append P slot rest sub.each (All-tail P (Pushed number) rest filling.each_rest);
      each_slot = IsSlot-set bounds scenario seen put slots number [] tt filling.each_slot low;
      once = λ x. once x is_there low;
      nodes = omega (arith, filling.nodes, spent-append done (Pushed number ∷ rest), spent-append done (slot ++ rest), spent-append slot rest, sum_by-set spent slots number [] [] low);
    } where
      once : (x : ℕ) → 0 < there (slot_at slots number) → number < length slots → times x (places_in (slot_at slots number ++ rest)) + sum_by (λ (s : List Piece). times x (places_in s)) (set slots number []) ≡ there (slot_at (set slots number []) x)
      once x is_there low =
          let slot = slot_at slots number in
          let moved = sum_by-set (λ (s : List Piece). times x (places_in s)) slots number [] [] low in
          let before = filling.once x in
          elim (cases_eq number x) [
            | inl same ↦ rw (sym same, get_or-set_same slots number [] [] low) (omega (arith, filling.once number, times-cons number number (places_in rest), sum_by-set (λ (s : List Piece). times number (places_in s)) slots number [] [] low, places-append number slot rest, own_number number, there_le slot, is_there))
            | inr differ ↦ rw (get_or-set_other slots number x [] [] (λ same. differ (sym same))) (omega (arith, before, moved, times-cons x number (places_in rest), places-append x slot rest, other_number number x differ))
          ]

-- a piece with no place is done
not_pushed : (piece : Piece) (rest : List Piece) → pushed_number piece ≡ None → places_in (piece ∷ rest) ≡ places_in rest
not_pushed (Done node) rest is = refl
not_pushed (Todo branch tried) rest is = refl
not_pushed (Pushed number) rest is = absurd (cc)

pub IsFilling-moved : (bounds : Bounds) (scenario : Scenario) (seen tickets : ℕ) (put : List Region) (done rest : List Piece) (piece : Piece) (slots : List (List Piece)) → pushed_number piece ≡ None → IsFilling bounds scenario seen tickets put done (piece ∷ rest) slots → IsFilling bounds scenario seen tickets put (done ++ piece ∷ []) rest slots
IsFilling-moved bounds scenario seen tickets put done rest piece slots is filling =
    let P = IsPiece scenario seen put in
    let same : done ++ piece ∷ rest ≡ (done ++ piece ∷ []) ++ rest = sym (append_assoc done (piece ∷ []) rest) in
    record {
      tree = subst (λ (ps : List Piece). AreTreesOf bounds scenario seen put (root_region scenario ∷ []) ps) same filling.tree;
      settled = filter_map-append pushed_number done (piece ∷ []) ∙ ap (λ (ts : List ℕ). places_in done ++ ts) (not_pushed piece [] is) ∙ append-nil (places_in done) ∙ filling.settled;
      each_done = All-push P done piece filling.each_done (All-head P piece rest filling.each_rest);
      each_rest = All-tail P piece rest filling.each_rest;
      each_slot = filling.each_slot;
      once = λ x. omega (arith, filling.once x, ap (times x) (not_pushed piece rest is));
      nodes = omega (arith, filling.nodes, ap spent same);
    }

-- a branch that is left is searched, and its tree settled
pub IsFilling-searched : (bounds : Bounds) (scenario : Scenario) (seen tickets : ℕ) (put : List Region) (done rest : List Piece) (branch : Branch) (tried : Bool) (pieces : List Piece) (more : ℕ) (slots : List (List Piece)) → IsUnderWay bounds scenario seen [] [] 0 (branch.region ∷ []) pieces more → IsFilling bounds scenario seen tickets put done (Todo branch tried ∷ rest) slots → IsFilling bounds scenario seen (tickets + more) put (done ++ pieces) rest slots
IsFilling-searched bounds scenario seen tickets put done rest branch tried pieces more slots way filling =
    let P = IsPiece scenario seen put in
    let each = way.trees.each in
    let tree = AreTreesOf-filled bounds scenario seen put (root_region scenario ∷ []) branch.region (Todo branch tried) done pieces rest refl (AreTreesOf-later bounds scenario seen [] put (branch.region ∷ []) pieces each way.trees.tree) filling.tree in
    record {
      tree = subst (λ (ps : List Piece). AreTreesOf bounds scenario seen put (root_region scenario ∷ []) ps) (sym (append_assoc done pieces rest)) tree;
      settled = filter_map-append pushed_number done pieces ∙ ap (λ (ts : List ℕ). places_in done ++ ts) (places_none scenario seen pieces each) ∙ append-nil (places_in done) ∙ filling.settled;
      each_done = All-append P done pieces filling.each_done (pieces_later scenario seen [] put pieces each);
      each_rest = All-tail P (Todo branch tried) rest filling.each_rest;
      each_slot = filling.each_slot;
      once = filling.once;
      nodes = omega (arith, filling.nodes, way.nodes, spent-append done (Todo branch tried ∷ rest), spent-append (done ++ pieces) rest, spent-append done pieces);
    }

-- a better latency leaves all right
pub IsFilling-better : (better : FrontsBetter) (bounds : Bounds) (scenario : Scenario) (seen more tickets : ℕ) (put : List Region) (done rest : List Piece) (slots : List (List Piece)) → seen ≤ more → IsFilling bounds scenario seen tickets put done rest slots → IsFilling bounds scenario more tickets put done rest slots
IsFilling-better better bounds scenario seen more tickets put done rest slots above filling = record {
  tree = AreTreesOf-better better bounds scenario seen more put (root_region scenario ∷ []) (done ++ rest) above filling.tree;
  settled = filling.settled;
  each_done = pieces_better scenario seen more put done above filling.each_done;
  each_rest = pieces_better scenario seen more put rest above filling.each_rest;
  each_slot = λ n. IsSlot-better better bounds scenario seen more put n (slot_at slots n) above (filling.each_slot n);
  once = filling.once;
  nodes = filling.nodes;
}

-- the same by what the program makes of its lists
pub IsFilling-by : (bounds : Bounds) (scenario : Scenario) (seen tickets : ℕ) (put : List Region) (done done' rest rest' : List Piece) (slots slots' : List (List Piece)) → done' ≡ done → rest' ≡ rest → slots' ≡ slots → IsFilling bounds scenario seen tickets put done rest slots → IsFilling bounds scenario seen tickets put done' rest' slots'
IsFilling-by bounds scenario seen tickets put done done' rest rest' slots slots' d r s filling = rw (d, r, s) filling

-- the next piece is popped from the end of the rest
pub IsFilling-popped : (bounds : Bounds) (scenario : Scenario) (seen tickets : ℕ) (put : List Region) (done rest less : List Piece) (piece other : Piece) (slots : List (List Piece)) → rest ≡ less ++ piece ∷ [] → piece ≡ other → IsFilling bounds scenario seen tickets put done (reverse rest) slots → IsFilling bounds scenario seen tickets put done (other ∷ reverse less) slots
IsFilling-popped bounds scenario seen tickets put done rest less piece other slots popped is filling =
    subst (λ (ps : List Piece). IsFilling bounds scenario seen tickets put done ps slots) (ap (λ (ps : List Piece). reverse ps) popped ∙ reverse-append less (piece ∷ []) ∙ ap (λ (p : Piece). p ∷ reverse less) is) filling

-- a node more leaves the same regions
pub left_done : (put : List Region) (done : List Piece) (node : Node) → left_in (front put (done ++ Done node ∷ [])) ≡ left_in (front put done)
left_done put done node =
    ap (λ (ns : List FrontNode). left_in ns) (map-append (front_of put) done (Done node ∷ [])) ∙ filter_map-append left_region (front put done) (Spent node ∷ []) ∙ append-nil (left_in (front put done))

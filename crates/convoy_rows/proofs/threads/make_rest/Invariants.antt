use Rattle.convoy_rows.specs.Rows.{AreMade, AreRightPlaces, IsMade}
use Rattle.convoy_rows.proofs.threads.make_rest.Given as goal

-- the rows so far are there, and those in their places are right
abbrev pub invariant-loop-number : goal.invariant-loop-number
invariant-loop-number g l = record {
  right : AreRightPlaces (IsMade (goal.F-post g l.make)) l.places.items;
  made : AreMade (goal.F-post g l.make) l.number l.rows.items;
}

use Rattle.convoy_intervals.specs.Bounds.{tables_of, plain_bound}
use Rattle.convoy_intervals.proofs.Enclosing.{Encloses-members}
use Rattle.convoy_intervals.proofs.box_laws.plain_bound_holds.Goals as goal

pub returns : goal.returns
unfolding plain_bound
returns c plan ranges schedule lawful member =
    c.plain_bound_over_tables.ensures plan schedule (tables_of plan ranges) lawful (Encloses-members plan ranges schedule member)

use Rattle.convoy_traces.proofs.Chains.{then_goes}
use Rattle.convoy_traces.specs.declared.columns.Head.TheVariants.{Objects}
use Rattle.std.proofs.Common.{[], ◌+◌}
use Rattle.convoy_trace_ranges.specs.Reading.{rows_from, with_line}
use Rattle.convoy_trace_ranges.proofs.reading.rows_below.Goals as goal

pub returns-in_ok-first-in-Objects : goal.returns-in_ok-first-in-Objects
returns-in_ok-first-in-Objects c =
    let told = rw (c.in-Objects.is, c.new-told.ensures) at c.in_ok-first-in-Objects.ensures in
    let rest = rw (c.in-Objects.is, c.requires) at c.rows_from.ensures in
    rw c.in-Objects.is
    (then_goes (with_line c.args.unit Objects c.args.number [] c.args.line.now)
    (λ more. rows_from c.args.unit Objects (c.args.number + 1) more c.args.reader.now.ended) _ _ told rest)

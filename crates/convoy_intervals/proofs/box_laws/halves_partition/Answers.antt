use Rattle.std.proofs.Common.{◌+◌, arith}
use Rattle.convoy_intervals.specs.Boxes.{range_at}
use Rattle.convoy_intervals.proofs.Halves.{IsIn-set, IsIn-from_set, IsIn-place}
use Rattle.convoy_intervals.proofs.box_laws.halves_partition.Goals as goal

pub returns : goal.returns
returns c ranges packet at schedule part =
    let range = range_at ranges packet in
    let within = IsIn-set ranges schedule.delays packet in
    let back = IsIn-from_set ranges schedule.delays packet in (
      (
        λ member.
            let whole = back (range.0, at) part.place (omega arith) (omega arith) member in
            (whole.0, whole.2),
        λ both.
            let here = IsIn-place ranges schedule.delays packet part.place both.0 in
            within (range.0, at) part.place both.0 here.0 both.1,
      ),
      (
        λ member.
            let whole = back (at + 1, range.1) part.place (omega arith) (omega arith) member in
            (whole.0, omega arith),
        λ both.
            let here = IsIn-place ranges schedule.delays packet part.place both.0 in
            within (at + 1, range.1) part.place both.0 (omega arith) here.1,
      ),
    )

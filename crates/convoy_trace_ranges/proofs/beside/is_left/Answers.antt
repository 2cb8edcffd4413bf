use Rattle.convoy_trace_ranges.proofs.beside.is_left.Goals as goal

pub returns-in-Some : goal.returns-in-Some
returns-in-Some c =
    rw c.in-Some.is (rw (c.count_below.ensures, c.count_above.ensures, c.lasting.ensures, c.lasting-in-Some.ensures) at c.is_some_out.ensures)

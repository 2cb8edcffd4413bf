use Rattle.convoy_sweep.proofs.Enclosing.{rows_tell_windows}
use Rattle.convoy_sweep.proofs.sweep_laws.rows_tell_their_windows.Goals as goal

pub returns : goal.returns
returns c settings made row m is =
    rows_tell_windows c.times_in_window_are_no_slower.ensures c.some_time_in_window_is_as_late.ensures settings made row m is

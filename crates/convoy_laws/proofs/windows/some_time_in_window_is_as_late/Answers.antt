use Rattle.convoy_laws.proofs.IssueTimes.{some_time_as_late}
use Rattle.convoy_laws.proofs.windows.some_time_in_window_is_as_late.Goals as goal

pub returns : goal.returns
returns c scenario m latency reached =
    some_time_as_late c.runs_fit_other_windows.ensures c.issued_within_its_wait.ensures.within scenario m latency reached

use Rattle.std.proofs.Common.{inl, inr}
use Rattle.convoy_commands.proofs.Acceptance.{bounds_written, greatest_written}
use Rattle.convoy_commands.proofs.latency.latency_told.Goals as goal

pub returns-in_ok-greatest_text-in-Proved : goal.returns-in_ok-greatest_text-in-Proved
returns-in_ok-greatest_text-in-Proved c asked text search =
    inl
    (inl
    (greatest_written _ _ _ _ _ _ c.in-Proved.certificate c.in-Proved.tickets c.in-Proved.by_worker
    (rw c.in-Proved.is at search.0) c.limit-limit.ensures.lawful.few_tickets
    (rw (c.latency-latency.ensures, search.1, search.2, search.3) at c.in_ok-greatest_text-in-Proved.ensures)
    (rw (c.latency-latency.ensures, search.2) at c.judged.ensures)))

pub returns-in_ok-open_text-in-Open : goal.returns-in_ok-open_text-in-Open
returns-in_ok-open_text-in-Open c asked text search =
    inl
    (inr
    (bounds_written _ _ _ _ _ _ c.in-Open.best c.in-Open.upper c.in-Open.tickets c.in-Open.by_worker
    (rw c.in-Open.is at search.0) (rw (c.latency-least.ensures.value, search.1, search.2, search.3) at c.in_ok-open_text-in-Open.ensures)
    (rw (c.latency-least.ensures.value, search.2) at c.judged-in-Open.ensures)))

use Rattle.std.proofs.Common.{◌≡◌, drop}
use Rattle.std.specs.Prelude.{string_bytes}
use Rattle.convoy_trace_ranges.specs.Answers.{with_links}
use Rattle.convoy_trace_ranges.proofs.answering.with_links.Given as goal

-- the tables so far, and the links that are left
abbrev pub invariant-loop-link : goal.invariant-loop-link
invariant-loop-link l =
    with_links l.asked (string_bytes l.text) (drop l.link-index l.links) ≡ with_links l.asked (string_bytes l.fn.head) l.links

use Rattle.std.proofs.Common.{◌≡◌, ◌++◌, drop, Ok}
use Rattle.convoy_lines.specs.Results.{◌>>=◌}
use Rattle.convoy_toml.specs.Times.{draft_messages_of}
use Rattle.convoy_toml.proofs.times.draft_multicasts_of.Given as goal

abbrev pub invariant-loop-multicast : goal.invariant-loop-multicast
invariant-loop-multicast l =
    draft_messages_of l.tick l.multicasts ≡ (draft_messages_of l.tick (drop l.multicast-index l.multicasts) >>= λ rest. Ok (l.drafts.items ++ rest))

use Rattle.std.proofs.Common.{◌≡◌, length, vec_len}
use Rattle.convoy_scenario_lines.specs.Keeping.{kept_messages_at}
use Rattle.convoy_scenario_lines.specs.LineReading.{messages_at}
use Rattle.convoy_scenario_lines.proofs.Messages.{with_front}
use Rattle.convoy_scenario_lines.proofs.scenario_lines.read_multicasts.Given as goal

abbrev pub invariant-loop-alloc : goal.invariant-loop-alloc
invariant-loop-alloc l = with_front l.groups l.multicasts.items (messages_at l.version (vec_len l.multicasts) l.reader) ≡ kept_messages_at l.version l.groups 0 l.fn.reader

abbrev pub decreases-loop-alloc : goal.decreases-loop-alloc
decreases-loop-alloc l = length l.reader.ended

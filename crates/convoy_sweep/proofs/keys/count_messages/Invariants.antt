use Rattle.std.proofs.Common.{◌≡◌, ◌≤◌, take, count_by}
use Rattle.std.specs.Str.{bytes_eq}
use Rattle.convoy_sweep.proofs.keys.count_messages.Given as goal

abbrev pub invariant-loop-message : goal.invariant-loop-message
invariant-loop-message l = record {
  value : l.count ≡ count_by (λ message. bytes_eq l.name message.name) (take l.message-index l.messages);
  low : l.count ≤ l.message-index;
}

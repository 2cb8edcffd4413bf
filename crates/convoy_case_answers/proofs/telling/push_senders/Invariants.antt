use Rattle.std.proofs.Common.{◌≡◌, ◌++◌, flat_map}
use Rattle.std.specs.List.{range_with_len}
use Rattle.convoy_case_answers.specs.Told.{sent_text}
use Rattle.convoy_case_answers.proofs.telling.push_senders.Given as goal

abbrev pub invariant-loop-message : goal.invariant-loop-message
invariant-loop-message l = l.out.items ≡ l.initial.out.items ++ flat_map (sent_text l.scenario) (range_with_len 0 l.message)

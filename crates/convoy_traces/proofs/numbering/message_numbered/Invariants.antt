use Rattle.std.proofs.Common.{◌≡◌, drop}
use Rattle.convoy_traces.specs.Rows.{message_numbered}
use Rattle.convoy_traces.proofs.numbering.message_numbered.Given as goal

-- the number is that of the first among the messages that are left
abbrev pub invariant-loop-message : goal.invariant-loop-message
invariant-loop-message l = message_numbered l.message (drop l.message l.scenario.multicasts) l.word ≡ message_numbered 0 l.scenario.multicasts l.word

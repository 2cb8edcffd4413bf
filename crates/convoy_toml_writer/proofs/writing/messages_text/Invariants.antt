use Rattle.std.proofs.Common.{◌≡◌, take}
use Rattle.std.specs.List.{flat_map}
use Rattle.std.specs.Prelude.{string_bytes}
use Rattle.convoy_toml_writer.specs.Text.{message_text}
use Rattle.convoy_toml_writer.proofs.writing.messages_text.Given as goal

abbrev pub invariant-loop-message : goal.invariant-loop-message
invariant-loop-message l = string_bytes l.text ≡ flat_map (message_text l.scenario) (take l.message l.scenario.multicasts)

use Rattle.std.proofs.Common.{◌≡◌, take}
use Rattle.std.specs.List.{flat_map}
use Rattle.std.specs.Prelude.{string_bytes}
use Rattle.convoy_toml_writer.specs.Text.{link_text}
use Rattle.convoy_toml_writer.proofs.writing.links_text.Given as goal

abbrev pub invariant-loop-link : goal.invariant-loop-link
invariant-loop-link l = string_bytes l.text ≡ flat_map (link_text l.scenario) (take l.link-index l.scenario.links)

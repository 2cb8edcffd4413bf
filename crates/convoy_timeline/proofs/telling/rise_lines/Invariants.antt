use Rattle.std.proofs.Common.{◌≡◌, ◌++◌, drop}
use Rattle.std.specs.Prelude.{string_bytes}
use Rattle.std.specs.List.{flat_map}
use Rattle.convoy_timeline.specs.Explanations.{rise_line}
use Rattle.convoy_timeline.proofs.telling.rise_lines.Given as goal

-- the lines so far and those of the rises that are left are all lines
abbrev pub invariant-loop-rise : goal.invariant-loop-rise
invariant-loop-rise l =
    string_bytes l.lines ++ flat_map (rise_line l.scenario) (drop l.rise-index l.rises)
    ≡ flat_map (rise_line l.scenario) l.rises

use Rattle.std.proofs.Common.{◌≡◌, ◌++◌, drop}
use Rattle.std.specs.List.{flat_map}
use Rattle.convoy_timeline.specs.Timeline.{line_text}
use Rattle.convoy_timeline.proofs.timeline.lines_text.Given as goal

-- the text so far and that of the lines that are left are the text of all lines
abbrev pub invariant-loop-line : goal.invariant-loop-line
invariant-loop-line l =
    l.text.items ++ flat_map (line_text l.scenario) (drop l.line-index l.lines)
    ≡ flat_map (line_text l.scenario) l.lines

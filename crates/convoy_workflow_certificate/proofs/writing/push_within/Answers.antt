use Rattle.std.proofs.Common.{◌≡◌, ◌++◌, List, ℕ, codes, decimal, map}
use Rattle.std.specs.List.{flat_map}
use Rattle.convoy_lines.specs.Texts.{spaced}
use Rattle.convoy_certificate.proofs.Pieces.{in_line, in_map}
use Rattle.convoy_workflow_certificate.proofs.writing.push_within.Goals as goal

pub returns : goal.returns
returns c =
    let label : List ℕ = codes "within" in
    let front : List ℕ = c.args.text.now.items ++ label in
    let words : c.loop-ticks.text.items ≡ front ++ flat_map spaced (map decimal c.args.within.now) =
    in_map spaced decimal c.args.within.now c.loop-ticks.ticks-index front c.loop-ticks.text.items c.loop-ticks-test.false c.loop-ticks.invariant in
    in_line c.args.text.now.items label (flat_map spaced (map decimal c.args.within.now)) c.loop-ticks.text.items c.push.new.self.items words c.in_ok-push.ensures.items

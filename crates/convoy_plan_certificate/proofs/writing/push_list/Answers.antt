use Rattle.std.proofs.Common.{◌≡◌, ◌++◌, decimal, map}
use Rattle.std.specs.List.{flat_map}
use Rattle.convoy_lines.specs.Texts.{spaced}
use Rattle.convoy_certificate.proofs.Pieces.{in_line, in_map}
use Rattle.convoy_plan_certificate.proofs.writing.push_list.Goals as goal

pub returns : goal.returns
returns c =
    let front = c.args.text.now.items ++ c.args.label.now in
    let words : c.loop-number.text.items ≡ front ++ flat_map spaced (map decimal c.args.numbers.now) =
    in_map spaced decimal c.args.numbers.now c.loop-number.number-index front c.loop-number.text.items c.loop-number-test.false c.loop-number.invariant in
    in_line c.args.text.now.items c.args.label.now (flat_map spaced (map decimal c.args.numbers.now)) c.loop-number.text.items c.push.new.self.items words c.in_ok-push.ensures.items

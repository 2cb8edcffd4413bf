use Rattle.std.proofs.Common.{◌∙◌, get_or, ◌+◌, ◌-◌, ◌*◌, sym, arith}
use Rattle.std.specs.Char.{is_ascii_digit}
use Rattle.std.proofs.lemmas.Bool.{and_left, and_right, lt-leb}
use Rattle.convoy_lines.proofs.Digits.{stops, ends}
use Rattle.convoy_lines.proofs.words.digits_up_to.Goals as goal

pub returns-then-not-is_ascii_digit : goal.returns-then-not-is_ascii_digit
returns-then-not-is_ascii_digit c =
    stops c.args.most c.loop-byte.value c.loop-byte.byte-index c.args.word.now c.loop-byte-test.true c.loop-byte.invariant.small c.loop-byte.invariant.so_far
    (and_left _ _ (sym c.is_ascii_digit.ensures.value ∙ c.if-not-is_ascii_digit.true))

pub returns-then-value-from : goal.returns-then-value-from
returns-then-value-from c =
    stops c.args.most c.loop-byte.value c.loop-byte.byte-index c.args.word.now c.loop-byte-test.true c.loop-byte.invariant.small c.loop-byte.invariant.so_far
    (and_right (is_ascii_digit (get_or c.args.word.now c.loop-byte.byte-index 0)) _ (lt-leb (c.loop-byte.value * 10 + (get_or c.args.word.now c.loop-byte.byte-index 0 - 48)) c.args.most (omega arith)))

pub returns : goal.returns
returns c = ends c.args.most c.loop-byte.value c.loop-byte.byte-index c.args.word.now c.loop-byte.invariant.small c.loop-byte-test.false c.loop-byte.invariant.so_far

use Rattle.std.proofs.Common.{◌≡◌, ◌≤◌, drop}
use Rattle.convoy_lines.proofs.Digits.{digits_onto}
use Rattle.convoy_lines.proofs.words.digits_up_to.Given as goal

abbrev pub invariant-loop-byte : goal.invariant-loop-byte
invariant-loop-byte l = record {
  so_far : digits_onto l.most l.value (drop l.byte-index l.word) ≡ digits_onto l.most 0 l.word;
  small : l.value ≤ l.most;
}

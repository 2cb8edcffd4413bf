use Rattle.std.proofs.Common.{◌≡◌, length}
use Rattle.convoy_lines.specs.Labels.{is_spaced}
use Rattle.convoy_lines.specs.Words.{words_of}
use Rattle.convoy_lines.proofs.labels.is_spaced.Given as goal

abbrev pub invariant-loop-word : goal.invariant-loop-word
invariant-loop-word l = is_spaced l.words ≡ is_spaced (words_of l.line)

abbrev pub decreases-loop-word : goal.decreases-loop-word
decreases-loop-word l = length l.words

use Rattle.std.proofs.Common.{append_assoc, refl}
use Rattle.std.specs.Fmt.{digits}
use Rattle.convoy_commands.specs.Refusals.{refused_line}
use Rattle.convoy_text_answers.proofs.accepted_lines.differs_line.Goals as goal

pub returns : goal.returns
unfolding refused_line digits
returns c =
    simp (
      c.in_ok-push.ensures.items,
      c.in_ok-extend_from_slice-2.ensures.items,
      c.in_ok-extend_from_slice.ensures.items,
      c.new-line.ensures.items,
      c.as_bytes.ensures.value,
      c.word.ensures,
      append_assoc,
    ) refl

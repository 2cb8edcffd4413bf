use Rattle.std.proofs.Common.{sym}
use Rattle.convoy_picture.specs.Words.{entry_text}
use Rattle.convoy_picture.proofs.told.entry_words.Goals as goal

pub returns : goal.returns
unfolding entry_text
returns c =
    simp (sym c.message_name-name.ensures, sym c.doing_word-doing.ensures, sym c.group_name-group.ensures, sym c.in_ok-stamp.ensures) c.format.ensures.ok

use Rattle.std.specs.Fmt.{digits}
use Rattle.convoy_ranges.specs.Texts.{most_text}
use Rattle.convoy_ranges.proofs.links.most_text.Goals as goal

pub returns : goal.returns
unfolding most_text digits
returns c =
    simp (c.in_ok-most.ensures, c.in_ok-whole.ensures, c.in_ok-margin.ensures, c.in_ok-least.ensures) at c.format.ensures.ok

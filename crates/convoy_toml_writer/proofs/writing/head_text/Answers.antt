use Rattle.std.proofs.Common.{ap, ◌∙◌}
use Rattle.std.specs.Fmt.{digits}
use Rattle.convoy_toml_writer.specs.Text.{head_text, least_text, tick_text, time_text}
use Rattle.convoy_toml_writer.proofs.writing.head_text.Goals as goal

pub returns : goal.returns
unfolding head_text digits
returns c =
    let time = c.time_text-time.ensures ∙ ap time_text c.time.ensures.value in
    let tick = c.in_ok-tick.ensures ∙ ap tick_text c.tick.ensures.value in
    let least = c.least_text-least.ensures ∙ ap least_text c.time-2.ensures.value in
    simp (time, tick, c.delay-delay.ensures.value, least, c.in_ok-lists.ensures) at c.format.ensures.ok

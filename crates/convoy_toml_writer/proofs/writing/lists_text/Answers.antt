use Rattle.std.proofs.Common.{ap, ◌∙◌}
use Rattle.convoy_packets.specs.Order.{Order}
use Rattle.convoy_toml_writer.specs.Text.{lists_text, numbers_text, order_text}
use Rattle.convoy_toml_writer.proofs.writing.lists_text.Goals as goal

pub returns : goal.returns
unfolding lists_text
returns c =
    let delays = c.in_ok-delays.ensures ∙ ap numbers_text c.delays.ensures in
    let order = c.in_ok-order.ensures ∙ ap (λ (o : Order). order_text c.args.scenario.now o) c.order.ensures in
    simp (c.in_ok-groups.ensures, c.in_ok-places.ensures, delays, order) at c.format.ensures.ok

use Rattle.convoy_toml_writer.proofs.Scheduled.{given_again}
use Rattle.convoy_toml_writer.proofs.written_text_laws.schedules_are_given.Goals as goal

pub returns : goal.returns
returns c =
    given_again (record {
      delays = c.lists_of_delays_are_schedules.ensures;
      fixed = c.fixed_order_is_decided.ensures;
      ranks = c.ranks_are_one_each.ensures;
      lists = c.orders_are_their_lists.ensures;
    })

use Rattle.convoy_laws.proofs.SameTexts.{texts_same}
use Rattle.convoy_laws.proofs.finer.greatest_of_finer_texts.Goals as goal

pub returns : goal.returns
returns c =
    texts_same (record {
      in_finer = c.greatest_in_finer_ticks.ensures;
      in_whole = c.greatest_is_whole.ensures;
      keeps = c.order_keeps_ranges.ensures;
      takes = c.order_keeps_what_takes_time.ensures;
      drafts = c.drafts_give_scenarios.ensures;
      roundable = c.scenarios_are_roundable.ensures;
    })

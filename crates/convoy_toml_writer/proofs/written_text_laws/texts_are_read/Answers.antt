use Rattle.convoy_toml_writer.proofs.Again.{texts_again}
use Rattle.convoy_toml_writer.proofs.written_text_laws.texts_are_read.Goals as goal

pub returns : goal.returns
returns c =
    texts_again (record {
      drafts = c.scenarios_have_drafts.ensures;
      links = c.links_are_few.ensures;
      ranks = c.ranks_are_one_each.ensures;
    })

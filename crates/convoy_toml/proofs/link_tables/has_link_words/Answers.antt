use Rattle.std.proofs.Common.{◌∙◌, rules, tests}
use Rattle.std.proofs.lemmas.Iterator.Consumers.{YieldsList-from_rest}
use Rattle.std.proofs.lemmas.Iterator.Search.{all_from_yields_List}
use Rattle.std.specs.Map.{keys_of}
use Rattle.convoy_toml.proofs.KeyLemmas.{is_known, has_link_words-members_view}
use Rattle.convoy_toml.proofs.link_tables.has_link_words.Goals as goal

pub returns : goal.returns
returns c =
    let entries = c.args.table.now.entries in
    all_from_yields_List is_known _ _ _ c.all.ensures.ran (YieldsList-from_rest (keys_of entries) c.keys.ensures.rest) (λ x b q k. search (rules, tests))
    ∙ has_link_words-members_view entries

use Rattle.std.proofs.Common.{◌∙◌, rules, tests}
use Rattle.std.proofs.lemmas.Iterator.Consumers.{YieldsList-from_rest}
use Rattle.std.proofs.lemmas.Iterator.Search.{all_from_yields_List}
use Rattle.std.specs.Map.{keys_of}
use Rattle.convoy_toml.proofs.KeyLemmas.{is_one_of, has_only-members_view}
use Rattle.convoy_toml.proofs.keys.has_only.Goals as goal

pub returns : goal.returns
returns c =
    let entries = c.args.table.now.entries in
    all_from_yields_List (is_one_of c.args.keys.now) _ _ _ c.all.ensures.ran (YieldsList-from_rest (keys_of entries) c.keys.ensures.rest) (λ x b q k. search (rules, tests))
    ∙ has_only-members_view c.args.keys.now entries

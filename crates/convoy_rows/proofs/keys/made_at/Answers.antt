use Rattle.std.proofs.Common.{subst}
use Rattle.std.proofs.lemmas.List.{get_or_read}
use Rattle.convoy_rows.specs.Rows.{IsMadeOf}
use Rattle.convoy_rows.proofs.keys.made_at.Goals as goal

pub returns : goal.returns
returns g c = λ d.
    subst (λ key. IsMadeOf (goal.F-post g c.args.make.now) key c.made_of.result)
    (get_or_read c.args.keys.now c.args.place c.index-keys-place.result c.requires.place c.index-keys-place.is d) c.made_of.ensures

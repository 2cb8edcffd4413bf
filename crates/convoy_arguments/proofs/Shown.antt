-- What can be shown.
use Rattle.std.proofs.Common.{◌≡◌, [], refl}
use Rattle.std.specs.Prelude.{IsTrue}
use Rattle.std.proofs.lemmas.Str.{chars-nil}
use Rattle.convoy_arguments.specs.Texts.{are_shown}

-- a text without a byte can be
pub nothing_is_shown : IsTrue (are_shown [])
nothing_is_shown = rw chars-nil refl

-- A text in which a target at one group is written is read alike, whether the target may be left out or not.
use Rattle.std.proofs.Common.{◌≡◌, ℕ, false, List, Ok, IsSome, refl}
use Rattle.std.specs.Str.{bytes_eq}
use Rattle.toml.specs.Data.{Members, get_member}
use Rattle.convoy_draft.specs.declared.fault.Key.TheVariants.{Target}
use Rattle.convoy_draft.specs.Keys.{key_word}
use Rattle.convoy_toml.specs.Reading.{of_any_target, table_of_text, input_of_text, input_of_text_by}
use Rattle.convoy_toml.specs.Shape.{WrittenTarget, all_groups, written_target}

pub said : (text : List ℕ) (table : Members) (target : WrittenTarget) → table_of_text text ≡ Ok table → IsSome (get_member (key_word Target) table)
    → written_target table ≡ Ok target → bytes_eq target.group all_groups ≡ false → input_of_text_by of_any_target text ≡ input_of_text text
said text table target e there is one = rw (e, there, is, one) refl

-- The keys of a table, as the map has them.
use Rattle.std.proofs.Common.{◌≡◌, Bool, ◌&&◌, List, [], ◌∷◌, String, Global, string_bytes, refl, ap}
use Rattle.std.specs.List.{list_all, list_any}
use Rattle.std.specs.Map.{keys_of}
use Rattle.std.specs.Str.{bytes_eq}
use Rattle.toml.specs.View.{members_view}
use Rattle.toml.specs.declared.value.Value.{Value}
use Rattle.convoy_draft.specs.declared.fault.Key.{Key}
use Rattle.convoy_draft.specs.Keys.{key_word}
use Rattle.convoy_toml.specs.Shape.{has_link_words, has_only, is_link_word}

abbrev pub is_one_of : List Key → String Global → Bool
is_one_of keys word = list_any (λ key. bytes_eq (key_word key) (string_bytes word)) keys

pub has_only-members_view : (keys : List Key) (es : List (String Global × Value)) → list_all (is_one_of keys) (keys_of es) ≡ has_only keys (members_view es)
has_only-members_view keys [] = refl
has_only-members_view keys (e ∷ es) = ap (λ rest. is_one_of keys e.0 && rest) (has_only-members_view keys es)

abbrev pub is_known : String Global → Bool
is_known word = is_link_word (string_bytes word)

pub has_link_words-members_view : (es : List (String Global × Value)) → list_all is_known (keys_of es) ≡ has_link_words (members_view es)
has_link_words-members_view [] = refl
has_link_words-members_view (e ∷ es) = ap (λ rest. is_known e.0 && rest) (has_link_words-members_view es)

-- The keys of a table, as the map has them.
use Rattle.std.proofs.Common.{◌≡◌, ℕ, Bool, ◌&&◌, List, [], ◌∷◌, String, Global, string_bytes, refl, ap}
use Rattle.std.specs.List.{list_all, list_any}
use Rattle.std.specs.Map.{keys_of}
use Rattle.std.specs.Str.{bytes_eq}
use Rattle.toml.specs.View.{members_view}
use Rattle.toml.specs.declared.value.Value.{Value}
use Rattle.convoy_workflows.specs.Shape.{has_only}

abbrev pub is_one_of : List (List ℕ) → String Global → Bool
is_one_of words key = list_any (λ known. bytes_eq known (string_bytes key)) words

pub has_only-members_view : (words : List (List ℕ)) (es : List (String Global × Value)) → list_all (is_one_of words) (keys_of es) ≡ has_only words (members_view es)
has_only-members_view words [] = refl
has_only-members_view words (e ∷ es) = ap (λ rest. is_one_of words e.0 && rest) (has_only-members_view words es)

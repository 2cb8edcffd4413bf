-- What a name is, of a message, of a group and of a place.
use Rattle.std.specs.Prelude.{ℕ, ◌==◌, Bool, false, ◌&&◌, ◌||◌, not, nat_le, List, [], ◌∷◌, length, codes}
use Rattle.std.specs.List.{list_all}
use Rattle.std.specs.Str.{bytes_eq}
use Rattle.convoy_draft.specs.declared.limits.TheConstants.{LONGEST_NAME}

-- a letter from a to z
abbrev pub is_letter : ℕ → Bool
is_letter c = nat_le 97 c && nat_le c 122

-- a digit from 0 to 9
abbrev pub is_digit : ℕ → Bool
is_digit c = nat_le 48 c && nat_le c 57

-- a letter, a digit, an underscore or a dash
abbrev pub is_name_byte : ℕ → Bool
is_name_byte c = is_letter c || is_digit c || c == 95 || c == 45

-- a name begins with a letter, goes on in the bytes of names, and is not too long
abbrev pub is_name : List ℕ → Bool
is_name [] = false
is_name (c ∷ cs) = is_letter c && list_all is_name_byte cs && nat_le (length (c ∷ cs)) LONGEST_NAME

-- the text that no group and no place has as its name, since it stands for a client of no named place
abbrev pub client_word : List ℕ
client_word = codes "client"

-- a name that a group or a place may have
abbrev pub is_group_name : List ℕ → Bool
is_group_name name = is_name name && not (bytes_eq name client_word)

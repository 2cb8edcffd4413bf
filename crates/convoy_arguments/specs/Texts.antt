-- What a text may have that is written for a person at a terminal.
use Rattle.std.specs.Prelude.{ℕ, ◌==◌, Bool, ◌||◌, not, List, chars}
use Rattle.std.specs.Char.{is_control}
use Rattle.std.specs.List.{list_all}

-- a character that is only shown, or the end of a line
abbrev pub is_shown : ℕ → Bool
is_shown c = c == 10 || not (is_control c)

-- a text of such characters
abbrev pub are_shown : List ℕ → Bool
are_shown text = list_all is_shown (chars text)

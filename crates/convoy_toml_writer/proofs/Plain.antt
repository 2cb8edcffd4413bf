-- Texts with no byte that would have to be escaped: a string in quotes is such a text between them.
use Rattle.std.proofs.Common.{◌≡◌, ℕ, ◌<◌, ◌==◌, Bool, true, false, not, ◌&&◌, nat_le, nat_lt, List, [], ◌∷◌, length, refl, ap, arith, All}
use Rattle.std.specs.List.{list_all, list_any}
use Rattle.std.specs.Str.{IsAscii}
use Rattle.std.proofs.lemmas.Bool.{and_parts}
use Rattle.std.proofs.lemmas.Bool.Decides.{nat_tests}
use Rattle.std.proofs.lemmas.List.Elements.{All-cons, All-nil}
use Rattle.std.proofs.lemmas.Str.Ascii.{IsAscii-from_all}
use Rattle.toml_parser.specs.Lexical.{is_bare}
use Rattle.toml_writer.specs.Text.{is_control, has, needs_escape, quotes_after, escaped, encoding_of, string_text, key_text}
use Rattle.convoy_toml_writer.specs.Text.{quoted}

-- a printable byte other than a quote and a backslash
abbrev pub is_plain : ℕ → Bool
is_plain c = nat_le 32 c && nat_le c 126 && not (c == 34) && not (c == 92)

-- a text of such bytes
abbrev pub are_plain : List ℕ → Bool
are_plain text = list_all is_plain text

-- what a string's text asks of a byte
record IsKept (c : ℕ) : Type 0 where
  shown : is_control c ≡ false
  no_backslash : (c == 92) ≡ false
  no_quote : (c == 34) ≡ false
  no_end : (c == 10) ≡ false
  bare : needs_escape false 0 c ≡ false
  alone : quotes_after false 0 c ≡ 0

kept : (c : ℕ) → is_plain c ≡ true → IsKept c
unfolding needs_escape quotes_after
kept c plain =
    let no_backslash : (c == 92) ≡ false = grind (arith, nat_tests) in
    let no_quote : (c == 34) ≡ false = grind (arith, nat_tests) in
    let no_end : (c == 10) ≡ false = grind (arith, nat_tests) in
    let no_tab : (c == 9) ≡ false = grind (arith, nat_tests) in
    let no_delete : (c == 127) ≡ false = grind (arith, nat_tests) in
    let large : nat_le 32 c ≡ true = grind (arith, nat_tests) in
    record {
      shown = rw (no_tab, large, no_delete) refl;
      no_backslash = no_backslash;
      no_quote = no_quote;
      no_end = no_end;
      bare = rw (no_quote, no_end, no_backslash, no_tab, large, no_delete) refl;
      alone = rw no_quote refl;
    }

none_controls : (text : List ℕ) → are_plain text ≡ true → list_any is_control text ≡ false
none_controls [] plain = refl
none_controls (c ∷ cs) plain =
    let (here, more) = and_parts (is_plain c) (are_plain cs) plain in
    rw ((kept c here).shown) (none_controls cs more)

has_none : (byte : ℕ) (text : List ℕ) → ((c : ℕ) → is_plain c ≡ true → (c == byte) ≡ false) → are_plain text ≡ true → has byte text ≡ false
has_none byte [] other plain = refl
has_none byte (c ∷ cs) other plain =
    let (here, more) = and_parts (is_plain c) (are_plain cs) plain in
    rw (other c here) (has_none byte cs other more)

unescaped : (text : List ℕ) → are_plain text ≡ true → escaped false 0 text ≡ text
unfolding escaped
unescaped [] plain = refl
unescaped (c ∷ cs) plain =
    let (here, more) = and_parts (is_plain c) (are_plain cs) plain in
    rw ((kept c here).bare, (kept c here).alone) (ap (λ rest. c ∷ rest) (unescaped cs more))

-- such a text as a string is the text in quotes
pub plain_string : (text : List ℕ) → are_plain text ≡ true → string_text text ≡ quoted text
unfolding string_text encoding_of
plain_string text plain =
    rw (none_controls text plain, has_none 92 text (λ c h. (kept c h).no_backslash) plain, has_none 34 text (λ c h. (kept c h).no_quote) plain, has_none 10 text (λ c h. (kept c h).no_end) plain, unescaped text plain) refl

-- a key of letters and the like is written as it is
pub bare_key : (key : List ℕ) → (nat_lt 0 (length key) && list_all is_bare key) ≡ true → key_text key ≡ key
unfolding key_text
bare_key key bare = rw bare refl

-- such a text is ASCII
pub plain_ascii : (text : List ℕ) → are_plain text ≡ true → IsAscii text
plain_ascii text plain = IsAscii-from_all text (small text plain) where
  small : (bytes : List ℕ) → are_plain bytes ≡ true → All (λ b. b < 128) bytes
  small [] h = All-nil (λ b. b < 128)
  small (c ∷ cs) h =
      let (here, more) = and_parts (is_plain c) (are_plain cs) h in
      All-cons (λ b. b < 128) c cs (grind (arith, nat_tests)) (small cs more)

-- a text that is written out is ASCII if each byte of it is
pub ascii : (text : List ℕ) → list_all (λ b. nat_lt b 128) text ≡ true → IsAscii text
ascii text low = IsAscii-from_all text (small text low) where
  small : (bytes : List ℕ) → list_all (λ b. nat_lt b 128) bytes ≡ true → All (λ b. b < 128) bytes
  small [] h = All-nil (λ b. b < 128)
  small (c ∷ cs) h =
      let (here, more) = and_parts (nat_lt c 128) (list_all (λ b. nat_lt b 128) cs) h in
      All-cons (λ b. b < 128) c cs (grind (arith, nat_tests)) (small cs more)

-- Words that an image shows.
use Rattle.std.specs.Prelude.{◌≡◌, ℕ, ◌==◌, ◌&&◌, Bool, true, false, not, List, [], ◌∷◌, ◌++◌, codes, decimal, IsTrue}

-- words that are shown: an element `<text>` of such a place and size, and nothing besides in it
abbrev pub shown : List ℕ → List ℕ → List ℕ
shown style words = codes "<text " ++ (style ++ (codes ">" ++ (words ++ codes "</text>\n")))

-- so far to the right and so far down on an image, in tenths of a pixel
abbrev pub place : ℕ → ℕ → List ℕ
place across down = codes "x=\"" ++ (decimal across ++ (codes "\" y=\"" ++ (decimal down ++ codes "\"")))

-- where the heading stands, and how large it is
abbrev pub heading_style : List ℕ
heading_style = place 300 360 ++ codes " font-size=\"200\" font-weight=\"bold\""

-- where the reason stands below the heading, and how large it is
abbrev pub reason_style : List ℕ
reason_style = place 300 570 ++ codes " font-size=\"130\""

-- no element begins with a `t` from here on, as `<text>` and `<title>` do, where what stands before ends with `<` or not
unfoldable pub no_words_after : Bool → List ℕ → Bool
no_words_after begun [] = not begun
no_words_after begun (byte ∷ bytes) = not (begun && (byte == 116)) && no_words_after (byte == 60) bytes

-- a text shows no words and has no title
abbrev pub is_wordless : List ℕ → Bool
is_wordless text = no_words_after false text

-- the first line that a text shows, after the line or the sign that it is about; and what comes then
pub record ShowsFirst (line : List ℕ) (Then : List ℕ → Type 0) (text : List ℕ) : Type 0 where
  pub sample : List ℕ
  pub across : ℕ
  pub down : ℕ
  pub rest : List ℕ
  pub whole : text ≡ sample ++ (shown (place across down) line ++ rest)
  pub wordless : IsTrue (is_wordless sample)
  pub next : Then rest

-- a text shows these lines, one after the other, and no other words
abbrev pub ShowsLines : List (List ℕ) → List ℕ → Type 0
ShowsLines [] text = text ≡ []
ShowsLines (line ∷ lines) text = ShowsFirst line (ShowsLines lines) text

-- a text that has become longer shows these lines more
abbrev pub ShowsMore : List (List ℕ) → List ℕ → List ℕ → Type 0
ShowsMore lines old new = (before : List (List ℕ)) → ShowsLines before old → ShowsLines (before ++ lines) new

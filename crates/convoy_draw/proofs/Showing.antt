-- What texts show that are put together of parts.
use Rattle.std.proofs.Common.{◌≡◌, ℕ, ◌<◌, ◌^◌, ◌==◌, ◌&&◌, ◌+◌, ◌/◌, ◌%◌, ◌≤◌, Bool, true, false, not, List, [], ◌∷◌, ◌++◌, IsTrue, append_assoc, arith, codes, decimal, refl}
use Rattle.std.proofs.lemmas.Bool.{and_from, and_parts}
use Rattle.std.proofs.lemmas.Bool.Decides.{nat_tests}
use Rattle.std.proofs.lemmas.Fmt.{decimal_by_steps}
use Rattle.std.proofs.lemmas.List.{append-nil}
use Rattle.convoy_draw.specs.Shown.{ShowsLines, ShowsMore, is_wordless, no_words_after, place, shown}

no_words_append : (begun : Bool) (front back : List ℕ) → IsTrue (no_words_after begun front) → IsTrue (is_wordless back) → IsTrue (no_words_after begun (front ++ back))
unfolding no_words_after
no_words_append true [] back first next = absurd cc
no_words_append false [] back first next = next
no_words_append begun (byte ∷ bytes) back first next =
    let parts = and_parts (not (begun && (byte == 116))) (no_words_after (byte == 60) bytes) first in
    and_from _ _ parts.0 (no_words_append (byte == 60) bytes back parts.1 next)

-- parts that show no words show none together
pub wordless_then : (front back : List ℕ) → IsTrue (is_wordless front) → IsTrue (is_wordless back) → IsTrue (is_wordless (front ++ back))
wordless_then front back first next = no_words_append false front back first next

-- a number shows no words
pub number_wordless : (n : ℕ) → n < 2 ^ 64 → IsTrue (is_wordless (decimal n))
unfolding no_words_after
number_wordless = decimal_by_steps (λ n digits. IsTrue (is_wordless digits)) one more
  where
    digit : (d : ℕ) → d < 10 → IsTrue (is_wordless ((48 + d) ∷ []))
    digit d small = grind (arith, nat_tests, small)

    one : (n : ℕ) → n < 10 → IsTrue (is_wordless ((48 + n) ∷ []))
    one n small = digit n small

    more : (n : ℕ) (digits : List ℕ) → 10 ≤ n → IsTrue (is_wordless digits) → IsTrue (is_wordless (digits ++ ((48 + n % 10) ∷ [])))
    more n digits large shown = wordless_then digits ((48 + n % 10) ∷ []) shown (digit (n % 10) (omega arith))

-- a text shows what its two parts show
shows_both : (lines more : List (List ℕ)) (text rest : List ℕ) → ShowsLines lines text → ShowsLines more rest → ShowsLines (lines ++ more) (text ++ rest)
shows_both [] more text rest first next = rw first next
shows_both (line ∷ lines) more text rest first next = record {
  sample = first.sample;
  across = first.across;
  down = first.down;
  rest = first.rest ++ rest;
  whole = rw first.whole (simp append_assoc);
  wordless = first.wordless;
  next = shows_both lines more first.rest rest first.next next;
}

-- a sample with words after it
pub more_sample : (line sample : List ℕ) (across down : ℕ) (old new : List ℕ) → new ≡ old ++ (sample ++ shown (place across down) line)
    → IsTrue (is_wordless sample) → ShowsMore (line ∷ []) old new
more_sample line sample across down old new whole wordless before shows =
    let words = shown (place across down) line in
    let one : ShowsLines (line ∷ []) (sample ++ words) = record {
      sample = sample;
      across = across;
      down = down;
      rest = [];
      whole = rw (append-nil words) refl;
      wordless = wordless;
      next = refl;
    } in
    rw whole (shows_both before (line ∷ []) old (sample ++ words) shows one)

-- words with no sample
pub more_words : (line : List ℕ) (across down : ℕ) (old new : List ℕ) → new ≡ old ++ shown (place across down) line → ShowsMore (line ∷ []) old new
unfolding no_words_after
more_words line across down old new whole = more_sample line [] across down old new whole refl

-- nothing more
pub more_none : (text : List ℕ) → ShowsMore [] text text
more_none text before shows = rw append-nil shows

-- some lines more, and then others
pub more_then : (lines more : List (List ℕ)) (old text new : List ℕ) → ShowsMore lines old text → ShowsMore more text new → ShowsMore (lines ++ more) old new
more_then lines more old text new first next before shows = rw (← append_assoc before lines more) (next (before ++ lines) (first before shows))

-- two numbers among parts that show no words
pub numbers_wordless : (front between back : List ℕ) (m n : ℕ) → m < 2 ^ 64 → n < 2 ^ 64
    → IsTrue (is_wordless front) → IsTrue (is_wordless between) → IsTrue (is_wordless back)
    → IsTrue (is_wordless (front ++ (decimal m ++ (between ++ (decimal n ++ back)))))
numbers_wordless front between back m n small few first middle last =
    wordless_then front _ first (wordless_then (decimal m) _ (number_wordless m small)
    (wordless_then between _ middle (wordless_then (decimal n) back (number_wordless n few) last)))

-- a short line of a colour and a style
abbrev pub line_drawn : ℕ → ℕ → List ℕ → List ℕ → List ℕ
line_drawn across down color style =
    codes "<path d=\"M" ++ (decimal across ++ (codes " " ++ (decimal down
    ++ (codes "h280\" stroke=\"" ++ (color ++ (codes "\" " ++ (style ++ codes "/>")))))))

pub line_wordless : (across down : ℕ) (color style : List ℕ) → across < 2 ^ 64 → down < 2 ^ 64
    → IsTrue (is_wordless color) → IsTrue (is_wordless style) → IsTrue (is_wordless (line_drawn across down color style))
unfolding no_words_after
line_wordless across down color style small few colored styled =
    let end = style ++ codes "/>" in
    let middle = color ++ (codes "\" " ++ end) in
    let after_color : IsTrue (is_wordless (codes "\" " ++ end)) =
    wordless_then (codes "\" ") end refl (wordless_then style (codes "/>") styled refl) in
    let after : IsTrue (is_wordless (codes "h280\" stroke=\"" ++ middle)) =
    wordless_then (codes "h280\" stroke=\"") middle refl (wordless_then color (codes "\" " ++ end) colored after_color) in
    numbers_wordless (codes "<path d=\"M") (codes " ") (codes "h280\" stroke=\"" ++ middle) across down small few refl refl after

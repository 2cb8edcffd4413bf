-- The forms of a certificate's own lines: what a line says, where it has its form.
use Rattle.std.specs.Prelude.{ℕ, nat_le, nat_lt, ◌==◌, Bool, ◌&&◌, if◌then◌else◌, List, [], ◌∷◌, length, codes, Option, Some, None, option_map, option_and_then}
use Rattle.std.specs.Str.{bytes_eq}
use Rattle.convoy_draft.specs.declared.time.Time.{Time}
use Rattle.convoy_draft.specs.declared.time.Time.TheVariants.{Ticks, Real}
use Rattle.convoy_lines.specs.Chains.{◌>>=◌}
use Rattle.convoy_lines.specs.Labels.{greatest_number, words_after}
use Rattle.convoy_lines.specs.Words.{words_of, next_word, number_of}
use Rattle.convoy_certificate.specs.declared.node.Node.{Node}
use Rattle.convoy_certificate.specs.declared.node.Node.TheVariants.{Split, Order, Bound, Point, Stamp, Lead}
use Rattle.convoy_certificate.specs.declared.version.Version.{Version}
use Rattle.convoy_certificate.specs.declared.version.Version.TheVariants.{One, Two, Three, Four, Five}
use Rattle.convoy_certificate.specs.declared.node.TheConstants.{GREATEST_MOMENT}
use Rattle.convoy_certificate.specs.Certificate.{greatest_packet, greatest_place, least_place}
use Rattle.convoy_certificate.specs.Text.{says_time, version_line, end_line}

-- the greatest number that may stand in a line `schedule` or `order`
abbrev pub greatest_listed : ℕ
greatest_listed = 65_535

-- the version of a text whose first line this is
abbrev pub version_in : List ℕ → Option Version
version_in line =
    if bytes_eq line (version_line One) then Some One else if bytes_eq line (version_line Two) then Some Two
    else if bytes_eq line (version_line Three) then Some Three else if bytes_eq line (version_line Four) then Some Four
    else if bytes_eq line (version_line Five) then Some Five else None

-- the numbers that the words are, where each of them is one
abbrev pub numbers_in : List (List ℕ) → Option (List ℕ)
numbers_in [] = Some []
numbers_in (word ∷ words) =
    option_and_then (λ number. option_map (λ numbers. number ∷ numbers) (numbers_in words)) (number_of greatest_listed word)

-- the numbers after the label of a line
abbrev pub list_in : List ℕ → List ℕ → Option (List ℕ)
list_in label line = option_and_then numbers_in (words_after label line)

-- the numbers of a line `schedule`
abbrev pub schedule_in : List ℕ → Option (List ℕ)
schedule_in line = list_in (codes "schedule") line

-- the numbers of a line `order`
abbrev pub order_in : List ℕ → Option (List ℕ)
order_in line = list_in (codes "order") line

-- the split of a line `s`, by the words after its first, where the lines say how time goes or not
abbrev pub split_in : Bool → List (List ℕ) → Option Node
split_in timed words = do
  first ← next_word words
  packet ← number_of (greatest_packet timed) first.0
  second ← next_word first.1
  at ← number_of (greatest_place timed) second.0
  if nat_le (least_place timed) at && (length second.1 == 0) then Some (Split packet at) else None

-- the split by order of two moments whose numbers the words are, the first below the second
abbrev pub moments_in : List (List ℕ) → Option Node
moments_in words = do
  earlier ← next_word words
  first ← number_of GREATEST_MOMENT earlier.0
  later ← next_word earlier.1
  second ← number_of GREATEST_MOMENT later.0
  if nat_lt first second && (length later.1 == 0) then Some (Order first second) else None

-- the split of a line `o`, by the words after its first: version 5 alone has such lines, and in real time alone
abbrev pub order_split_in : Version → Time → List (List ℕ) → Option Node
order_split_in Five Real words = moments_in words
order_split_in version time words = None

-- the lead leaf of a line `c`, by the words after its first
abbrev pub latency_in : List (List ℕ) → Option Node
latency_in words = do
  only ← next_word words
  latency ← number_of greatest_number only.0
  if length only.1 == 0 then Some (Lead latency) else None

-- versions 1 and 2 have no lead leaves
abbrev pub lead_in : Version → List (List ℕ) → Option Node
lead_in One words = None
lead_in Two words = None
lead_in Three words = latency_in words
lead_in Four words = latency_in words
lead_in Five words = latency_in words

-- in real time version 5 alone has point leaves
abbrev pub point_in : Version → Time → Option Node
point_in version Ticks = Some Point
point_in Five Real = Some Point
point_in version Real = None

-- real time has no stamp leaves, and version 1 has none
abbrev pub stamp_in : Version → Time → Option Node
stamp_in version Real = None
stamp_in One Ticks = None
stamp_in version Ticks = Some Stamp

-- the leaf that a line of one word is
abbrev pub leaf_in : Version → Time → List ℕ → Option Node
leaf_in version time word =
    if bytes_eq word (codes "b") then Some Bound else if bytes_eq word (codes "p") then point_in version time else if bytes_eq word (codes "t") then stamp_in version time else None

-- the node of a line in that version, where time goes so
abbrev pub node_in : Version → Time → List ℕ → Option Node
node_in version time line = do
  first ← next_word (words_of line)
  if bytes_eq first.0 (codes "s") then split_in (says_time version) first.1 else if bytes_eq first.0 (codes "o") then order_split_in version time first.1
      else if bytes_eq first.0 (codes "c") then lead_in version first.1
      else if length first.1 == 0 then leaf_in version time first.0 else None

-- the node of a line, or none at the line `end`
abbrev pub node_or_end : Version → Time → List ℕ → Option (Option Node)
node_or_end version time line =
    if bytes_eq line end_line then Some None else option_map (λ node. Some node) (node_in version time line)

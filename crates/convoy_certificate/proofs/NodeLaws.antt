-- The node lines: what is read was written so, and what is written is read again.
use Rattle.std.proofs.Common.{◌≡◌, ℕ, ◌+◌, ◌^◌, ◌<◌, ◌≤◌, ◌==◌, Bool, true, false, ◌&&◌, ◌||◌, if◌then◌else◌, cond, leb, le-leb, nat_lt, List, [], ◌∷◌, length, Option, Some, None, option_map, option_and_then, refl, ap, ◌∙◌, arith, inl, inr, codes, decimal}
use Rattle.std.specs.List.{count_by}
use Rattle.std.specs.Str.{bytes_eq}
use Rattle.std.proofs.lemmas.Bool.{and_parts, cases_Bool, eqb-true, lt-ltb}
use Rattle.std.proofs.lemmas.List.{append-nil, nil_from_length}
use Rattle.std.proofs.lemmas.List.Sums.{sum_by-cons}
use Rattle.std.proofs.lemmas.Option.{cond_some, same_Some}
use Rattle.convoy_lines.specs.Labels.{greatest_number}
use Rattle.convoy_lines.specs.Chains.{◌>>=◌}
use Rattle.convoy_lines.specs.Words.{words_of, next_word, number_of}
use Rattle.convoy_lines.specs.Texts.{line_of}
use Rattle.convoy_certificate.specs.declared.node.Node.{Node}
use Rattle.convoy_certificate.specs.declared.node.Node.TheVariants.{Split, Order, Bound, Point, Stamp, Lead}
use Rattle.convoy_draft.specs.declared.time.Time.{Time}
use Rattle.convoy_draft.specs.declared.time.Time.TheVariants.{Ticks, Real}
use Rattle.convoy_certificate.specs.declared.version.Version.{Version}
use Rattle.convoy_certificate.specs.declared.version.Version.TheVariants.{One, Two, Three, Four, Five}
use Rattle.convoy_certificate.specs.declared.node.TheConstants.{GREATEST_MOMENT}
use Rattle.convoy_certificate.specs.Certificate.{greatest_packet, least_place, greatest_place}
use Rattle.convoy_certificate.specs.Forms.{split_in, moments_in, order_split_in, latency_in, lead_in, point_in, stamp_in, leaf_in, node_in}
use Rattle.convoy_certificate.specs.Reading.{leads_with}
use Rattle.convoy_certificate.specs.Text.{is_lead, says_time, node_line}
use Rattle.convoy_lines.proofs.LabelLemmas.{bind_some, next_takes, same_bytes}
use Rattle.convoy_lines.proofs.Spelling.{number_takes, number_again, decimal_word, words_again, line_takes}

pub and_then_takes : {A B : Type 0} (f : A → Option B) (o : Option A) (y : B) → option_and_then f o ≡ Some y → (x : A) × (o ≡ Some x) × (f x ≡ Some y)
and_then_takes f None y e = absurd cc
and_then_takes f (Some x) y e = (x, refl, e)

pub map_takes : {A B : Type 0} (f : A → B) (o : Option A) (y : B) → option_map f o ≡ Some y → (x : A) × (o ≡ Some x) × (f x ≡ y)
map_takes f None y e = absurd cc
map_takes f (Some x) y e = (x, refl, same_Some (f x) y e)

-- the packet and the place of a split have 16 bits
pub packet_fits : (timed : Bool) → greatest_packet timed ≤ 1_167
packet_fits true = omega arith
packet_fits false = omega arith

pub place_fits : (timed : Bool) → greatest_place timed < 2 ^ 16
place_fits true = omega arith
place_fits false = omega arith

pub neither : (a b : Bool) → (a || b) ≡ false → (a ≡ false) × (b ≡ false)
neither false b e = (refl, e)
neither true b e = absurd cc

-- how many lead leaves there are with a node before others
pub leads_more : (leads : ℕ) (node : Node) (nodes : List Node) → leads + count_by is_lead (node ∷ nodes) ≡ leads_with leads node + count_by is_lead nodes
leads_more leads node nodes = weighed (is_lead node) (count_by is_lead nodes) (count_by is_lead (node ∷ nodes)) (sum_by-cons (λ n. cond (is_lead n) 1 0) node nodes) where
  weighed : (led : Bool) (rest sum : ℕ) → sum ≡ cond led 1 0 + rest → leads + sum ≡ cond led (leads + 1) leads + rest
  weighed true rest sum e = omega (arith, e)
  weighed false rest sum e = omega (arith, e)

point_takes : (version : Version) (time : Time) (node : Node) → point_in version time ≡ Some node → Point ≡ node
point_takes version Ticks node e = same_Some Point node e
point_takes One Real node e = absurd cc
point_takes Two Real node e = absurd cc
point_takes Three Real node e = absurd cc
point_takes Four Real node e = absurd cc
point_takes Five Real node e = same_Some Point node e

stamp_takes : (version : Version) (time : Time) (node : Node) → stamp_in version time ≡ Some node → Stamp ≡ node
stamp_takes version Real node e = absurd cc
stamp_takes One Ticks node e = absurd cc
stamp_takes Two Ticks node e = same_Some Stamp node e
stamp_takes Three Ticks node e = same_Some Stamp node e
stamp_takes Four Ticks node e = same_Some Stamp node e
stamp_takes Five Ticks node e = same_Some Stamp node e

leaf_takes : (version : Version) (time : Time) (word : List ℕ) (node : Node) → leaf_in version time word ≡ Some node → word ≡ node_line node
leaf_takes version time word node e =
    elim (cases_Bool (bytes_eq word (codes "b"))) [
      | inl bound ↦
          let read : Some Bound ≡ Some node = rw bound at e in
          same_bytes word (codes "b") bound ∙ ap node_line (same_Some Bound node read)
      | inr other ↦
          let read : cond (bytes_eq word (codes "p")) (point_in version time) (cond (bytes_eq word (codes "t")) (stamp_in version time) None) ≡ Some node = rw other at e in
          elim (cases_Bool (bytes_eq word (codes "p"))) [
            | inl point ↦
                let one : point_in version time ≡ Some node = rw point at read in
                same_bytes word (codes "p") point ∙ ap node_line (point_takes version time node one)
            | inr neither ↦
                let last : cond (bytes_eq word (codes "t")) (stamp_in version time) None ≡ Some node = rw neither at read in
                elim (cases_Bool (bytes_eq word (codes "t"))) [
                  | inl stamp ↦
                      let one : stamp_in version time ≡ Some node = rw stamp at last in
                      same_bytes word (codes "t") stamp ∙ ap node_line (stamp_takes version time node one)
                  | inr none ↦ let no_node : None ≡ Some node = rw none at last in absurd cc
                ]
          ]
    ]

-- the split of these numbers, if no word is left
abbrev split_at_end : Bool → List (List ℕ) → ℕ → ℕ → Option Node
split_at_end timed left packet at = cond (leb (least_place timed) at && (length left == 0)) (Some (Split packet at)) None

split_takes : (timed : Bool) (words : List (List ℕ)) (node : Node) → split_in timed words ≡ Some node → line_of (codes "s") words ≡ node_line node
split_takes timed [] node e = absurd cc
split_takes timed (first ∷ []) node e =
    let a = bind_some (number_of (greatest_packet timed) first) (λ packet. None) node e in
    let none : None ≡ Some node = a.2 in absurd cc
split_takes timed (first ∷ second ∷ left) node e =
    let a = bind_some (number_of (greatest_packet timed) first) (λ packet. number_of (greatest_place timed) second >>= split_at_end timed left packet) node e in
    let b = bind_some (number_of (greatest_place timed) second) (split_at_end timed left a.0) node a.2 in
    let c = cond_some (leb (least_place timed) b.0 && (length left == 0)) (Split a.0 b.0) node b.2 in
    let last : left ≡ [] = nil_from_length left (eqb-true _ _ (and_parts (leb (least_place timed) b.0) (length left == 0) c.0).1) in
    let packet = number_takes (greatest_packet timed) first a.0 (omega (arith, packet_fits timed)) a.1 in
    let at = number_takes (greatest_place timed) second b.0 (omega (arith, place_fits timed)) b.1 in
    ap (λ w. line_of (codes "s") (w ∷ second ∷ left)) packet.0 ∙ ap (λ w. line_of (codes "s") (decimal a.0 ∷ w ∷ left)) at.0 ∙ ap (λ ws. line_of (codes "s") (decimal a.0 ∷ decimal b.0 ∷ ws)) last ∙ ap node_line c.1

-- the split by order of these numbers, if no word is left
abbrev order_at_end : List (List ℕ) → ℕ → ℕ → Option Node
order_at_end left first second = cond (nat_lt first second && (length left == 0)) (Some (Order first second)) None

moments_take : (words : List (List ℕ)) (node : Node) → moments_in words ≡ Some node → line_of (codes "o") words ≡ node_line node
moments_take [] node e = absurd cc
moments_take (earlier ∷ []) node e =
    let a = bind_some (number_of GREATEST_MOMENT earlier) (λ first. None) node e in
    let none : None ≡ Some node = a.2 in absurd cc
moments_take (earlier ∷ later ∷ left) node e =
    let a = bind_some (number_of GREATEST_MOMENT earlier) (λ first. number_of GREATEST_MOMENT later >>= order_at_end left first) node e in
    let b = bind_some (number_of GREATEST_MOMENT later) (order_at_end left a.0) node a.2 in
    let c = cond_some (nat_lt a.0 b.0 && (length left == 0)) (Order a.0 b.0) node b.2 in
    let last : left ≡ [] = nil_from_length left (eqb-true _ _ (and_parts (nat_lt a.0 b.0) (length left == 0) c.0).1) in
    let first = number_takes GREATEST_MOMENT earlier a.0 (omega arith) a.1 in
    let second = number_takes GREATEST_MOMENT later b.0 (omega arith) b.1 in
    ap (λ w. line_of (codes "o") (w ∷ later ∷ left)) first.0 ∙ ap (λ w. line_of (codes "o") (decimal a.0 ∷ w ∷ left)) second.0 ∙ ap (λ ws. line_of (codes "o") (decimal a.0 ∷ decimal b.0 ∷ ws)) last ∙ ap node_line c.1

order_split_takes : (version : Version) (time : Time) (words : List (List ℕ)) (node : Node) → order_split_in version time words ≡ Some node → line_of (codes "o") words ≡ node_line node
order_split_takes One time words node e = absurd cc
order_split_takes Two time words node e = absurd cc
order_split_takes Three time words node e = absurd cc
order_split_takes Four time words node e = absurd cc
order_split_takes Five Ticks words node e = absurd cc
order_split_takes Five Real words node e = moments_take words node e

latency_takes : (words : List (List ℕ)) (node : Node) → latency_in words ≡ Some node → line_of (codes "c") words ≡ node_line node
latency_takes [] node e = absurd cc
latency_takes (only ∷ left) node e =
    let a = bind_some (number_of greatest_number only) (λ latency. cond (length left == 0) (Some (Lead latency)) None) node e in
    let b = cond_some (length left == 0) (Lead a.0) node a.2 in
    let last : left ≡ [] = nil_from_length left (eqb-true _ _ b.0) in
    let latency = number_takes greatest_number only a.0 (omega arith) a.1 in
    ap (λ w. line_of (codes "c") (w ∷ left)) latency.0 ∙ ap (λ ws. line_of (codes "c") (decimal a.0 ∷ ws)) last ∙ ap node_line b.1

lead_takes : (version : Version) (words : List (List ℕ)) (node : Node) → lead_in version words ≡ Some node → line_of (codes "c") words ≡ node_line node
lead_takes One words node e = absurd cc
lead_takes Two words node e = absurd cc
lead_takes Three words node e = latency_takes words node e
lead_takes Four words node e = latency_takes words node e
lead_takes Five words node e = latency_takes words node e

-- a line of a lead leaf, or of one word
leaf_line_takes : (version : Version) (time : Time) (line : List ℕ) (node : Node) (word : List ℕ) (words : List (List ℕ)) → line ≡ line_of word words
    → cond (bytes_eq word (codes "c")) (lead_in version words) (cond (length words == 0) (leaf_in version time word) None) ≡ Some node → line ≡ node_line node
leaf_line_takes version time line node word words whole e =
    elim (cases_Bool (bytes_eq word (codes "c"))) [
      | inl lead ↦
          let leaf : lead_in version words ≡ Some node = rw lead at e in
          whole ∙ ap (λ w. line_of w words) (same_bytes word (codes "c") lead) ∙ lead_takes version words node leaf
      | inr other ↦
          let short : cond (length words == 0) (leaf_in version time word) None ≡ Some node = rw other at e in
          elim (cases_Bool (length words == 0)) [
            | inl alone ↦
                let leaf : leaf_in version time word ≡ Some node = rw alone at short in
                let last : words ≡ [] = nil_from_length words (eqb-true _ _ alone) in
                whole ∙ ap (line_of word) last ∙ append-nil word ∙ leaf_takes version time word node leaf
            | inr more ↦ let none : None ≡ Some node = rw more at short in absurd cc
          ]
    ]

pub node_takes : (version : Version) (time : Time) (line : List ℕ) (node : Node) → node_in version time line ≡ Some node → line ≡ node_line node
node_takes version time line node e =
    let a = bind_some (next_word (words_of line)) (λ first. cond (bytes_eq first.0 (codes "s")) (split_in (says_time version) first.1) (cond (bytes_eq first.0 (codes "o")) (order_split_in version time first.1) (cond (bytes_eq first.0 (codes "c")) (lead_in version first.1) (cond (length first.1 == 0) (leaf_in version time first.0) None)))) node e in
    let whole : line ≡ line_of a.0.0 a.0.1 = line_takes line a.0.0 a.0.1 (next_takes (words_of line) a.0 a.1) in
    elim (cases_Bool (bytes_eq a.0.0 (codes "s"))) [
      | inl split ↦
          let read : split_in (says_time version) a.0.1 ≡ Some node = rw split at a.2 in
          whole ∙ ap (λ w. line_of w a.0.1) (same_bytes a.0.0 (codes "s") split) ∙ split_takes (says_time version) a.0.1 node read
      | inr other ↦
          let read : cond (bytes_eq a.0.0 (codes "o")) (order_split_in version time a.0.1) (cond (bytes_eq a.0.0 (codes "c")) (lead_in version a.0.1) (cond (length a.0.1 == 0) (leaf_in version time a.0.0) None)) ≡ Some node = rw other at a.2 in
          elim (cases_Bool (bytes_eq a.0.0 (codes "o"))) [
            | inl by_order ↦
                let split : order_split_in version time a.0.1 ≡ Some node = rw by_order at read in
                whole ∙ ap (λ w. line_of w a.0.1) (same_bytes a.0.0 (codes "o") by_order) ∙ order_split_takes version time a.0.1 node split
            | inr no_split ↦
                let leaf : cond (bytes_eq a.0.0 (codes "c")) (lead_in version a.0.1) (cond (length a.0.1 == 0) (leaf_in version time a.0.0) None) ≡ Some node = rw no_split at read in
                leaf_line_takes version time line node a.0.0 a.0.1 whole leaf
          ]
    ]

-- the node that the words of a line are
abbrev node_of_words : Version → Time → List (List ℕ) → Option Node
node_of_words version time words = do
  first ← next_word words
  if bytes_eq first.0 (codes "s") then split_in (says_time version) first.1 else if bytes_eq first.0 (codes "o") then order_split_in version time first.1
      else if bytes_eq first.0 (codes "c") then lead_in version first.1
      else if length first.1 == 0 then leaf_in version time first.0 else None

-- a line `s` is read again
pub split_again : (version : Version) (time : Time) (packet at : ℕ) → packet ≤ greatest_packet (says_time version) → least_place (says_time version) ≤ at → at ≤ greatest_place (says_time version)
    → node_in version time (node_line (Split packet at)) ≡ Some (Split packet at)
split_again version time packet at known low high =
    let timed = says_time version in
    let words : words_of (node_line (Split packet at)) ≡ codes "s" ∷ decimal packet ∷ decimal at ∷ [] =
    words_again (codes "s") (decimal packet ∷ decimal at ∷ []) refl (decimal_word packet (omega (arith, known, packet_fits timed)), (decimal_word at (omega (arith, high, place_fits timed)), tt)) in
    let read : node_of_words version time (codes "s" ∷ decimal packet ∷ decimal at ∷ []) ≡ Some (Split packet at) =
    rw (number_again (greatest_packet timed) packet (omega (arith, packet_fits timed)) known, number_again (greatest_place timed) at (omega (arith, place_fits timed)) high, le-leb (least_place timed) at low) refl in
    ap (node_of_words version time) words ∙ read

-- a line `o` is read again
pub order_split_again : (first second : ℕ) → first < second → second ≤ GREATEST_MOMENT → node_in Five Real (node_line (Order first second)) ≡ Some (Order first second)
order_split_again first second ascending high =
    let words : words_of (node_line (Order first second)) ≡ codes "o" ∷ decimal first ∷ decimal second ∷ [] =
    words_again (codes "o") (decimal first ∷ decimal second ∷ []) refl (decimal_word first (omega (arith, ascending, high)), (decimal_word second (omega (arith, high)), tt)) in
    let read : node_of_words Five Real (codes "o" ∷ decimal first ∷ decimal second ∷ []) ≡ Some (Order first second) =
    rw (number_again GREATEST_MOMENT first (omega arith) (omega (arith, ascending, high)), number_again GREATEST_MOMENT second (omega arith) high, lt-ltb first second ascending) refl in
    ap (node_of_words Five Real) words ∙ read

-- a line `c` is read again in a version that has such lines
pub lead_again : (version : Version) (time : Time) (latency : ℕ) → ((words : List (List ℕ)) → lead_in version words ≡ latency_in words) → latency ≤ greatest_number → node_in version time (node_line (Lead latency)) ≡ Some (Lead latency)
lead_again version time latency known high =
    let words : words_of (node_line (Lead latency)) ≡ codes "c" ∷ decimal latency ∷ [] =
    words_again (codes "c") (decimal latency ∷ []) refl (decimal_word latency (omega arith), tt) in
    let read : latency_in (decimal latency ∷ []) ≡ Some (Lead latency) = rw (number_again greatest_number latency (omega arith) high) refl in
    ap (node_of_words version time) words ∙ known (decimal latency ∷ []) ∙ read

-- What the text of an image tells that is put together of parts.
use Rattle.std.proofs.Common.{◌≡◌, ℕ, ◌+◌, ◌<◌, ◌≤◌, List, ◌++◌, Option, Some, None, IfSome, length, take, get_or, codes, append_assoc, subst, sym}
use Rattle.std.specs.List.{All}
use Rattle.std.proofs.lemmas.List.{take_all, take_more}
use Rattle.std.proofs.lemmas.List.Elements.{All-push, All-weaker}
use Rattle.convoy_draw.specs.Drawings.{Tells}
use Rattle.convoy_draw.proofs.Telling.{tells_after, tells_before, tells_within}
use Rattle.convoy_curve.specs.declared.curve.Curve.{Curve}
use Rattle.convoy_curve.specs.declared.curve.Dot.{Dot}
use Rattle.convoy_curve.specs.Curves.{IsCurve, deadline_text, dot_text}

if_weaker : (P Q : ℕ → Type 0) (number : Option ℕ) → ((n : ℕ) → P n → Q n) → IfSome number P → IfSome number Q
if_weaker P Q None more is = tt
if_weaker P Q (Some n) more is = more n is

-- a text tells of the dots so far, and with the mark of one more of that too
pub dots_more : (curve : Curve) (dots : List Dot) (i : ℕ) (d : Dot) (old mark new : List ℕ) → i < length dots → new ≡ old ++ mark →
    All (λ dot. Tells (dot_text curve dot) old) (take i dots) → Tells (dot_text curve (get_or dots i d)) mark →
    All (λ dot. Tells (dot_text curve dot) new) (take (i + 1) dots)
dots_more curve dots i d old mark new within is so_far told =
    let tells : Dot → Type 0 = λ dot. Tells (dot_text curve dot) (old ++ mark) in
    subst (λ (text : List ℕ). All (λ dot. Tells (dot_text curve dot) text) (take (i + 1) dots)) (sym is)
    (subst (All tells) (sym (take_more dots i d within))
    (All-push tells (take i dots) (get_or dots i d)
    (All-weaker (λ dot. Tells (dot_text curve dot) old) tells (λ dot before. tells_before (dot_text curve dot) old mark before) (take i dots) so_far)
    (tells_after (dot_text curve (get_or dots i d)) old mark told)))

-- of all dots, once none is left
pub dots_all : (curve : Curve) (dots : List Dot) (i : ℕ) (text : List ℕ) → length dots ≤ i →
    All (λ dot. Tells (dot_text curve dot) text) (take i dots) → All (λ dot. Tells (dot_text curve dot) text) dots
dots_all curve dots i text past so_far =
    subst (λ (some : List Dot). All (λ dot. Tells (dot_text curve dot) text) some) (take_all i dots past) so_far

-- what the parts tell, the whole tells
pub curve_tells : (curve : Curve) (start title ground axes marks line notes text : List ℕ) →
    text ≡ start ++ (title ++ (ground ++ (axes ++ (marks ++ (line ++ (notes ++ codes "</svg>\n")))))) →
    Tells curve.title.now title → All (λ dot. Tells (dot_text curve dot) marks) curve.dots.now →
    IfSome curve.deadline (λ ticks. Tells (deadline_text curve.measure ticks) line) → IsCurve curve text
curve_tells curve start title ground axes marks line notes text whole told dots deadline =
    let end : List ℕ = notes ++ codes "</svg>\n" in
    let front : List ℕ = start ++ (title ++ (ground ++ axes)) in
    let with_marks : text ≡ front ++ (marks ++ (line ++ end)) = rw whole (simp append_assoc) in
    let with_line : text ≡ (front ++ marks) ++ (line ++ end) = rw whole (simp append_assoc) in
    record {
      title = tells_within curve.title.now title start (ground ++ (axes ++ (marks ++ (line ++ end)))) text told whole;
      dots = All-weaker (λ dot. Tells (dot_text curve dot) marks) (λ dot. Tells (dot_text curve dot) text)
          (λ dot before. tells_within (dot_text curve dot) marks front (line ++ end) text before with_marks) curve.dots.now dots;
      deadline = if_weaker (λ ticks. Tells (deadline_text curve.measure ticks) line) (λ ticks. Tells (deadline_text curve.measure ticks) text) curve.deadline
          (λ ticks before. tells_within (deadline_text curve.measure ticks) line (front ++ marks) (end) text before with_line) deadline;
    }

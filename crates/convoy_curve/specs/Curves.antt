-- What the image of a sweep tells in words, in titles: what it is of, the deadline, and of each value of the key the latency.
use Rattle.std.specs.Prelude.{ℕ, ◌==◌, if◌then◌else◌, List, ◌++◌, codes, Option, Some, None, IfSome}
use Rattle.std.specs.List.{All}
use Rattle.convoy_times.specs.declared.measure.Measure.{Measure}
use Rattle.convoy_timeline.specs.Explanations.{ticks_text}
use Rattle.convoy_draw.specs.Drawings.{Tells}
use Rattle.convoy_curve.specs.declared.curve.Curve.{Curve}
use Rattle.convoy_curve.specs.declared.curve.Dot.{Dot}

-- a value, or a window from one value to another
abbrev pub value_text : Option Measure → ℕ → Option ℕ → List ℕ
value_text measure value None = ticks_text measure value
value_text measure value (Some last) = ticks_text measure value ++ (codes " to " ++ ticks_text measure last)

-- a latency that is known to be at least and at most so many ticks
abbrev pub between_text : Option Measure → ℕ → ℕ → List ℕ
between_text measure least most =
    if least == most
    then codes "at worst " ++ ticks_text measure least
    else codes "at worst at least " ++ (ticks_text measure least ++ (codes " and at most " ++ ticks_text measure most))

-- the same, where it is known
abbrev pub latency_text : Option Measure → Option ℕ → Option ℕ → List ℕ
latency_text measure None most = codes "out of memory"
latency_text measure (Some least) None = codes "out of memory"
latency_text measure (Some least) (Some most) = between_text measure least most

-- what is told at one value of the key
abbrev pub dot_text : Curve → Dot → List ℕ
dot_text curve dot =
    curve.key.now ++ (codes " " ++ (value_text curve.measure dot.value dot.last ++ (codes ": " ++ latency_text curve.measure dot.least dot.most)))

-- what is told of the deadline
abbrev pub deadline_text : Option Measure → ℕ → List ℕ
deadline_text measure deadline = codes "deadline " ++ ticks_text measure deadline

-- the text of an image is that of a curve: it tells what it is of, each value with its latency, and the deadline, if there is one
pub record IsCurve (curve : Curve) (text : List ℕ) : Type 0 where
  pub title : Tells curve.title.now text
  pub dots : All (λ dot. Tells (dot_text curve dot) text) curve.dots.now
  pub deadline : IfSome curve.deadline (λ ticks. Tells (deadline_text curve.measure ticks) text)

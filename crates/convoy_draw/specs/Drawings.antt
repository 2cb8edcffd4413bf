-- What the image of a picture tells in words: in its heading, its reason and its legend; and in titles, for readers that show no images and where the mouse rests on a line or a sign.
use Rattle.std.specs.Prelude.{◌≡◌, ℕ, ◌<◌, List, ◌++◌, length, Option, codes, IsTrue}
use Rattle.std.specs.List.{All}
use Rattle.convoy_scenario.specs.Scenario.{Scenario, message_at, may_wait}
use Rattle.convoy_times.specs.declared.measure.Measure.{Measure}
use Rattle.convoy_timeline.specs.Explanations.{window_text}
use Rattle.convoy_picture.specs.Pictures.{Picture}
use Rattle.convoy_picture.specs.Words.{answer_text, entry_text, flight_text, reason_text}
use Rattle.convoy_draw.specs.Legends.{legend_lines}
use Rattle.convoy_draw.specs.Shown.{ShowsLines, heading_style, is_wordless, reason_style, shown}

-- words as the title of an element
abbrev pub titled : List ℕ → List ℕ
titled words = codes "<title>" ++ (words ++ codes "</title>")

-- a text has words as a title, and nothing besides in that title
pub record Tells (words text : List ℕ) : Type 0 where
  pub before : List ℕ
  pub after : List ℕ
  pub whole : text ≡ before ++ (titled words ++ after)

-- a text has as titles from when to when each message may be issued that may wait
abbrev pub TellsWindows : Scenario → List ℕ → Type 0
TellsWindows scenario text =
    (m : ℕ) → m < length scenario.multicasts → IsTrue (may_wait (message_at scenario m)) → Tells (window_text scenario m) text

-- what an image tells first: the answer as its title and as its heading, and the reason
abbrev pub head_of : List ℕ → List ℕ → List ℕ
head_of answer reason = titled answer ++ (codes "\n" ++ (shown heading_style answer ++ shown reason_style reason))

-- the same of a scenario and a picture, where time counts from the issue of message x
abbrev pub head_text : Option Measure → Scenario → Picture → ℕ → List ℕ
head_text measure scenario picture x = head_of (answer_text measure scenario picture x) (reason_text scenario picture.why)

-- a text shows the answer and the reason, after what says how large it is, and ends with the legend of an image with so many signs that have no words
pub record Shows (measure : Option Measure) (scenario : Scenario) (picture : Picture) (x : ℕ) (text : List ℕ) : Type 0 where
  pub size : List ℕ
  pub middle : List ℕ
  pub legend : List ℕ
  pub wordless : ℕ
  pub whole : text ≡ size ++ (head_text measure scenario picture x ++ (middle ++ (legend ++ codes "</svg>\n")))
  pub sized : IsTrue (is_wordless size)
  pub lines : ShowsLines (legend_lines scenario picture.why wordless) legend

-- the text of an image is that of a picture, where time counts from the issue of message x: it shows the answer, the reason and the legend, and has the answer, when messages may be issued, each packet and all that happens as titles
pub record IsDrawing (measure : Option Measure) (scenario : Scenario) (picture : Picture) (x : ℕ) (text : List ℕ) : Type 0 where
  pub shows : Shows measure scenario picture x text
  pub answer : Tells (answer_text measure scenario picture x) text
  pub windows : TellsWindows scenario text
  pub flights : All (λ flight. Tells (flight_text scenario flight) text) picture.flights
  pub entries : All (λ entry. Tells (entry_text scenario entry) text) picture.entries

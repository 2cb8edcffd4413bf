-- What texts and layers tell that are put together of parts.
use Rattle.std.proofs.Common.{◌≡◌, ℕ, Option, List, [], ◌∷◌, ◌++◌, IsTrue, append_assoc, refl, codes}
use Rattle.std.proofs.lemmas.List.{append-nil}
use Rattle.std.proofs.lemmas.List.Elements.{All-weaker}
use Rattle.std.specs.List.{All}
use Rattle.convoy_scenario.specs.Scenario.{Scenario}
use Rattle.convoy_times.specs.declared.measure.Measure.{Measure}
use Rattle.convoy_picture.specs.Pictures.{Picture}
use Rattle.convoy_picture.specs.Words.{answer_text, entry_text, flight_text, reason_text}
use Rattle.convoy_picture.specs.declared.role.Role.{Role}
use Rattle.convoy_picture.specs.declared.role.Role.TheVariants.{Target, Holder, Other}
use Rattle.convoy_draw.specs.Drawings.{IsDrawing, Tells, TellsWindows, head_text, titled}
use Rattle.convoy_draw.specs.Legends.{legend_lines}
use Rattle.convoy_draw.specs.Shown.{ShowsLines, heading_style, is_wordless, reason_style, shown}
use Rattle.convoy_draw.specs.Layers.{IsToldIn, Layers, element_text, layer_of, with_element}

-- a text tells what a part of it tells
pub tells_within : (piece part front back text : List ℕ) → Tells piece part → text ≡ front ++ (part ++ back) → Tells piece text
tells_within piece part front back text told whole = record {
  before = front ++ told.before;
  after = told.after ++ back;
  whole = rw (whole, told.whole) (simp append_assoc);
}

-- a layer tells what it told before more was put into it, and what that tells
pub tells_before : (piece layer element : List ℕ) → Tells piece layer → Tells piece (layer ++ element)
tells_before piece layer element told = tells_within piece layer [] element (layer ++ element) told refl

pub tells_after : (piece layer element : List ℕ) → Tells piece element → Tells piece (layer ++ element)
tells_after piece layer element told =
    tells_within piece element layer [] (layer ++ element) told (rw append-nil refl)

still_told : (layers : Layers) (piece element : List ℕ) (role more : Role)
    → Tells piece (layer_of layers role) → Tells piece (layer_of (with_element layers more element) role)
still_told layers piece element Target Target told = tells_before piece layers.target element told
still_told layers piece element Holder Holder told = tells_before piece layers.holder element told
still_told layers piece element Other Other told = tells_before piece layers.others element told
still_told layers piece element Target Holder told = told
still_told layers piece element Target Other told = told
still_told layers piece element Holder Target told = told
still_told layers piece element Holder Other told = told
still_told layers piece element Other Target told = told
still_told layers piece element Other Holder told = told

now_told : (layers : Layers) (piece element : List ℕ) (role : Role)
    → Tells piece element → Tells piece (layer_of (with_element layers role element) role)
now_told layers piece element Target told = tells_after piece layers.target element told
now_told layers piece element Holder told = tells_after piece layers.holder element told
now_told layers piece element Other told = tells_after piece layers.others element told

-- layers tell what they told before an element was put into one of them
pub told_before : (layers : Layers) (role : Role) (element piece : List ℕ)
    → IsToldIn layers piece → IsToldIn (with_element layers role element) piece
told_before layers role element piece told =
    record { role = told.role; told = still_told layers piece element told.role role told.told }

-- layers tell what the element tells that was put into one of them
pub told_after : (layers : Layers) (role : Role) (element piece : List ℕ)
    → Tells piece element → IsToldIn (with_element layers role element) piece
told_after layers role element piece told = record { role = role; told = now_told layers piece element role told }

-- a title, and what comes after it
titled_then : (words back : List ℕ) → titled words ++ back ≡ codes "<title>" ++ (words ++ (codes "</title>" ++ back))
titled_then words back = simp append_assoc

-- a text tells what stands in it as a title
pub tells_title : (words front back text : List ℕ)
    → text ≡ front ++ (codes "<title>" ++ (words ++ (codes "</title>" ++ back))) → Tells words text
tells_title words front back text whole = record {
  before = front;
  after = back;
  whole = rw (whole, titled_then words back) refl;
}

-- what an element tells
pub element_tells : (told drawn : List ℕ) → Tells told (element_text told drawn)
element_tells told drawn = tells_title told (codes "<g>") (drawn ++ (codes "</g>" ++ 10 ∷ [])) (element_text told drawn) refl

-- three layers in their groups
abbrev pub joined : Layers → List ℕ → List ℕ → List ℕ → List ℕ
joined layers first second third =
    codes "<g " ++ (first ++ (codes ">" ++ (layers.others
    ++ (codes "</g><g " ++ (second ++ (codes ">" ++ (layers.holder
    ++ (codes "</g><g " ++ (third ++ (codes ">" ++ (layers.target ++ codes "</g>")))))))))))

joined_tells_of : (layers : Layers) (first second third piece text : List ℕ) → text ≡ joined layers first second third
    → (role : Role) → Tells piece (layer_of layers role) → Tells piece text
joined_tells_of layers first second third piece text whole Other told =
    tells_within piece layers.others (codes "<g " ++ (first ++ codes ">"))
    (codes "</g><g " ++ (second ++ (codes ">" ++ (layers.holder ++ (codes "</g><g " ++ (third ++ (codes ">" ++ (layers.target ++ codes "</g>"))))))))
    text told (rw whole (simp append_assoc))
joined_tells_of layers first second third piece text whole Holder told =
    tells_within piece layers.holder
    (codes "<g " ++ (first ++ (codes ">" ++ (layers.others ++ (codes "</g><g " ++ (second ++ codes ">"))))))
    (codes "</g><g " ++ (third ++ (codes ">" ++ (layers.target ++ codes "</g>"))))
    text told (rw whole (simp append_assoc))
joined_tells_of layers first second third piece text whole Target told =
    tells_within piece layers.target
    (codes "<g " ++ (first ++ (codes ">" ++ (layers.others ++ (codes "</g><g " ++ (second ++ (codes ">" ++ (layers.holder ++ (codes "</g><g " ++ (third ++ codes ">"))))))))))
    (codes "</g>") text told (rw whole (simp append_assoc))

-- layers that are joined tell what they tell one by one
pub joined_tells : (layers : Layers) (first second third text : List ℕ) → text ≡ joined layers first second third
    → (piece : List ℕ) → IsToldIn layers piece → Tells piece text
joined_tells layers first second third text whole piece told =
    joined_tells_of layers first second third piece text whole told.role told.told

-- an image shows and tells what its parts do
pub drawing_tells : (measure : Option Measure) (scenario : Scenario) (picture : Picture) (x : ℕ) (start head ground windows packets signs labels legend text : List ℕ) (wordless : ℕ)
    → text ≡ start ++ (head ++ (ground ++ (windows ++ (packets ++ (signs ++ (labels ++ (legend ++ codes "</svg>\n")))))))
    → IsTrue (is_wordless start)
    → head ≡ head_text measure scenario picture x
    → TellsWindows scenario windows
    → All (λ flight. Tells (flight_text scenario flight) packets) picture.flights
    → All (λ entry. Tells (entry_text scenario entry) signs) picture.entries
    → ShowsLines (legend_lines scenario picture.why wordless) legend
    → IsDrawing measure scenario picture x text
drawing_tells measure scenario picture x start head ground windows packets signs labels legend text wordless whole sized first waits flights entries lines = record {
  shows = record {
    size = start;
    middle = ground ++ (windows ++ (packets ++ (signs ++ labels)));
    legend = legend;
    wordless = wordless;
    whole = rw (whole, first) (simp append_assoc);
    sized = sized;
    lines = lines;
  };
  answer =
      let answer = answer_text measure scenario picture x in
      let after = codes "\n" ++ (shown heading_style answer ++ shown reason_style (reason_text scenario picture.why)) in
      let told : Tells answer head = record { before = []; after = after; whole = first } in
      tells_within _ head start (ground ++ (windows ++ (packets ++ (signs ++ (labels ++ (legend ++ codes "</svg>\n")))))) text told whole;
  windows = λ m known may.
      tells_within _ windows (start ++ (head ++ ground)) (packets ++ (signs ++ (labels ++ (legend ++ codes "</svg>\n")))) text (waits m known may) (rw whole (simp append_assoc));
  flights = All-weaker (λ flight. Tells (flight_text scenario flight) packets) (λ flight. Tells (flight_text scenario flight) text)
      (λ flight told. tells_within _ packets (start ++ (head ++ (ground ++ windows))) (signs ++ (labels ++ (legend ++ codes "</svg>\n"))) text told (rw whole (simp append_assoc)))
      picture.flights flights;
  entries = All-weaker (λ entry. Tells (entry_text scenario entry) signs) (λ entry. Tells (entry_text scenario entry) text)
      (λ entry told. tells_within _ signs (start ++ (head ++ (ground ++ (windows ++ packets)))) (labels ++ (legend ++ codes "</svg>\n")) text told (rw whole (simp append_assoc)))
      picture.entries entries;
}

-- Worked rows of the line `places`.
use Rattle.std.proofs.Common.{◌≡◌, ℕ, false, List, [], ◌∷◌, Some, None, Ok, Err, refl, codes}
use Rattle.std.specs.Fmt.{digits}
use Rattle.std.specs.List.{AllByRecursion}
use Rattle.std.specs.Str.{chars, is_utf8}
use Rattle.convoy_draft.specs.declared.time.Time.TheVariants.{Ticks}
use Rattle.convoy_scenario.specs.declared.sender.Sender.TheVariants.{Client}
use Rattle.convoy_scenario.specs.Scenario.{Scenario}
use Rattle.convoy_draft.specs.Names.{client_word}
use Rattle.convoy_lines.specs.Places.{Place}
use Rattle.convoy_scenario_lines.specs.declared.line_fault.Expected.TheVariants as expected
use Rattle.convoy_scenario_lines.specs.declared.line_fault.LineFault.TheVariants as faults
use Rattle.convoy_scenario_lines.specs.declared.version.Version.{Version}
use Rattle.convoy_scenario_lines.specs.declared.version.Version.TheVariants.{One, Two, Three}
use Rattle.convoy_scenario_lines.specs.LineForms.{name_of, named_sender}
use Rattle.convoy_scenario_lines.specs.LineReading.{links_in, messages_in, places_at, scenario_at}
use Rattle.convoy_scenario_lines.specs.ScenarioLines.{places_lines, scenario_lines}
use Rattle.convoy_scenario_lines.proofs.ScenarioAgain.{name_again}

eu_named : name_of (codes "eu") ≡ codes "eu"
eu_named = name_again (codes "eu") refl

us_named : name_of (codes "us") ≡ codes "us"
us_named = name_again (codes "us") refl

-- where there are no places, there is no line
written : AllByRecursion (λ (row : List (List ℕ) × List (List ℕ)). places_lines row.0 ≡ row.1) (([], []) ∷ (codes "eu" ∷ codes "us" ∷ [], codes "places eu us" ∷ []) ∷ [])
written = (refl, (refl, tt))

-- the place before one line
abbrev before : List ℕ → Place
before line = record { ended = line ∷ []; rest = []; number = 5 }

abbrev past : Place
past = record { ended = []; rest = []; number = 6 }

read : places_at Three (before (codes "places eu us")) ≡ Ok (codes "eu" ∷ codes "us" ∷ [], past)
read = rw (eu_named, us_named) refl

-- the line has one name at least, with one space before each
faulty : AllByRecursion (λ line. places_at Three (before line) ≡ Err (faults.Line 5 expected.Places)) (codes "places" ∷ codes "places " ∷ codes "places  eu" ∷ codes "places eu " ∷ [])
faulty = (refl, (refl, (refl, (refl, tt))))

-- no such line is due in versions 1 and 2, nor where what comes next is another
none : AllByRecursion (λ (row : Version × List ℕ). places_at row.0 (before row.1) ≡ Ok ([], before row.1)) (
    (One, codes "places eu us") ∷ (Two, codes "places eu us") ∷ (Three, codes "link eu a 1 2") ∷ (Three, codes "multicast x eu 0 a") ∷ (Three, codes "place eu") ∷ [])
none = (refl, (refl, (refl, (refl, (refl, tt)))))

-- a place's name is the word for a client there; `client` stands for one of no named place
senders : (named_sender (codes "eu") ≡ Some (codes "eu")) × (named_sender client_word ≡ None)
senders = (rw eu_named refl, refl)

-- ---- a whole scenario

-- a client at eu issues x, and what goes from us to a takes 1 to 2
abbrev placed : Scenario
placed = record {
  time = Ticks;
  tick = None;
  delay = 3;
  groups = codes "a" ∷ codes "b" ∷ [];
  places = codes "eu" ∷ codes "us" ∷ [];
  links = record { sender = Client 2; to = 0; least = 1; most = 2; stamps = false } ∷ [];
  multicasts = record { name = codes "x"; sender = Client 1; destinations = 0 ∷ 1 ∷ []; at = 0; longest_wait = 0 } ∷ [];
  target_message = 0;
  target_group = 1;
}

abbrev lines : List (List ℕ)
lines = codes "time ticks" ∷ codes "delay 3" ∷ codes "groups a b" ∷ codes "places eu us" ∷ codes "link us a 1 2" ∷ codes "multicast x eu 0 a b" ∷ codes "target x b" ∷ []

placed_written : scenario_lines Three placed ≡ lines
unfolding digits
placed_written = refl

placed_read : scenario_at Three (record { ended = lines; rest = []; number = 2 }) ≡ Ok (placed, record { ended = []; rest = []; number = 9 })
unfolding scenario_at links_in messages_in is_utf8 chars lib.Utf8.encode
placed_read = refl

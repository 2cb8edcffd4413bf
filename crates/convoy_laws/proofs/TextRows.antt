-- Worked rows: a scenario as a text in ticks of 2 ms and as one in ticks of 1 ms, and what both are read as.
use Rattle.std.proofs.Common.{◌≡◌, ℕ, false, List, [], ◌∷◌, ◌++◌, codes, Some, None, Ok, refl, arith}
use Rattle.std.specs.Str.{chars, is_utf8}
use Rattle.toml.proofs.OnLiterals.{toml_on_literals}
use Rattle.convoy_draft.specs.declared.time.Time.TheVariants.{Real}
use Rattle.convoy_draft.specs.Durations.{duration_of}
use Rattle.convoy_scenario.specs.declared.sender.Sender.TheVariants.{Client, Group}
use Rattle.convoy_scenario.specs.Scenario.{Link, Scenario}
use Rattle.convoy_scenario.proofs.RowScenarios.{of_two}
use Rattle.convoy_toml.specs.declared.written.WrittenTime.TheVariants.{Lasting}
use Rattle.convoy_toml.specs.Reading.{scenario_of_text}
use Rattle.convoy_toml.specs.Shape.{Written}
use Rattle.convoy_laws.specs.FinerTexts.{SayTheSame}

-- one message of a client to both groups; what goes takes 4 to 10 ms
abbrev text_with : List ℕ → List ℕ
text_with tick =
    codes "time = \"real\"\ntick = \"" ++ (tick ++ codes "\"\ndelay = \"10 ms\"\nleast = \"4 ms\"\ngroups = [\"a\", \"b\"]\n\n[[multicast]]\nname = \"t\"\nto = [\"a\", \"b\"]\nat = \"0 ms\"\n\n[target]\nmessage = \"t\"\ngroup = \"a\"\n")

abbrev text : List ℕ
text = text_with (codes "2 ms")

abbrev finer_text : List ℕ
finer_text = text_with (codes "1 ms")

-- a link with that range for each way: from the clients to each group, and from each group to the other
abbrev links : ℕ → ℕ → List Link
links least most =
    record { sender = Client 0; to = 0; least = least; most = most; stamps = false } ∷ record { sender = Client 0; to = 1; least = least; most = most; stamps = false }
    ∷ record { sender = Group 0; to = 1; least = least; most = most; stamps = false } ∷ record { sender = Group 1; to = 0; least = least; most = most; stamps = false } ∷ []

abbrev scenario : ℕ → ℕ → ℕ → Scenario
scenario tick least delay = record (of_two Real delay (record { name = codes "t"; sender = Client 0; destinations = 0 ∷ 1 ∷ []; at = 0; longest_wait = 0 } ∷ []) 0 0) {
  tick = Some tick;
  links = links least delay;
}

read : scenario_of_text text ≡ Ok (scenario 2_000_000 2 5)
unfolding toml_on_literals is_utf8 chars duration_of
read = refl

finer_read : scenario_of_text finer_text ≡ Ok (scenario 1_000_000 4 10)
unfolding toml_on_literals is_utf8 chars duration_of
finer_read = refl

-- what is written in the text
abbrev written : ℕ → Written
written tick = record {
  scenario = record {
    time = Real;
    tick = Some tick;
    delay = Some (Lasting 10_000_000);
    least = Some (Lasting 4_000_000);
    groups = codes "a" ∷ codes "b" ∷ [];
    places = [];
    agreements = [];
    links = [];
    messages = record { name = codes "t"; sender = None; to = codes "a" ∷ codes "b" ∷ []; at = Lasting 0; until = None; within = None; longer = None } ∷ [];
    target_message = codes "t";
    target_group = codes "a";
  };
  schedule = None;
  order = None;
}

say_the_same : SayTheSame 2 text finer_text
unfolding toml_on_literals is_utf8 chars duration_of
say_the_same = record {
  some = omega arith;
  tick = 1_000_000;
  written = written 2_000_000;
  finer_written = written 1_000_000;
  is_written = refl;
  finer_is_written = refl;
  same = refl;
  lasting = refl;
  counts = refl;
  finer_counts = refl;
}

-- What is answered where a change breaks the scenario.
use Rattle.std.proofs.Common.{◌≡◌, ◌⊎◌, inl, inr, List, ℕ, Ok, Err, ap, subst}
use Rattle.convoy_scenario.specs.Scenario.{Scenario}
use Rattle.convoy_toml.specs.declared.asked.Asked.{Asked}
use Rattle.convoy_toml.specs.Reading.{scenario_of_text_by}
use Rattle.convoy_commands.specs.declared.fault.Fault.{Fault}
use Rattle.convoy_commands.specs.declared.fault.Fault.TheVariants.{Memory}
use Rattle.convoy_commands.specs.Replies.{Reply}
use Rattle.convoy_commands.specs.Searches.{IsFaultyBy}
use Rattle.convoy_what_if.specs.Changes.{changes_of}
use Rattle.convoy_what_if.specs.Tries.{HasBroken}
use Rattle.convoy_what_if.specs.WhatIf.{IsBroken}

pub broken : (asked : Asked) (text : List ℕ) (scenario instance : Scenario) (fault : Fault) → scenario_of_text_by asked text ≡ Ok scenario → instance ≡ scenario
    → HasBroken instance (changes_of instance) fault ⊎ (fault ≡ Memory)
    → (IsFaultyBy asked text fault ⊎ IsBroken asked text fault) ⊎ (◌≡◌ {A = Reply} (Err fault) (Err Memory))
broken asked text scenario instance fault read is (inl has) =
    inl (inr (record { scenario = scenario; read = read; broken = subst (λ (s : Scenario). HasBroken s (changes_of s) fault) is has }))
broken asked text scenario instance fault read is (inr e) = inr (ap (λ (f : Fault). Err f) e)

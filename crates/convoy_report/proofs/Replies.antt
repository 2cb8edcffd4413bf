-- What the replies of other commands are to a report.
use Rattle.std.proofs.Common.{◌≡◌, ◌⊎◌, ℕ, ◌+◌, ◌<◌, false, List, [], ◌∷◌, ◌++◌, inl, inr, Ok, Err, All, refl, get_or, length, map, take, sym, ap, ◌∙◌}
use Rattle.std.proofs.lemmas.List.{map-append, take_more}
use Rattle.std.proofs.lemmas.List.Elements.{All-push}
use Rattle.convoy_scenario.specs.Scenario.{Scenario}
use Rattle.convoy_toml.specs.declared.asked.Asked.{Asked}
use Rattle.convoy_branch.specs.Options.{Settings}
use Rattle.convoy_commands.specs.declared.done.Done.{Done}
use Rattle.convoy_tables.specs.declared.format.Format.TheVariants.{Html}
use Rattle.convoy_commands.specs.declared.fault.Fault.{Fault}
use Rattle.convoy_commands.specs.declared.fault.Fault.TheVariants.{Memory}
use Rattle.convoy_commands.specs.Replies.{Reply, Rule, SaysUnlessMemory}
use Rattle.convoy_what_if.specs.WhatIf.{WhatIfSays}
use Rattle.convoy_report.specs.declared.report.Run.{Run}
use Rattle.convoy_report.specs.Reports.{AreRunsOf, IsRunOf, IsUntold, place_of}

-- an answer is one that the rule allows
pub said : (says : Rule) (text : List ℕ) (end : Done) (out : List ℕ) → SaysUnlessMemory says text (Ok (end, out)) → says text (Ok (end, out))
said says text end out (inl is) = is
said says text end out (inr memory) = cc

one_fault : (reply : Reply) (fault : Fault) → reply ≡ Err fault → reply ≡ Err Memory → fault ≡ Memory
one_fault reply fault is memory = cc

-- a fault of the changes is one of the report
pub changes_refused : (asked : Asked) (settings : Settings) (text : List ℕ) (fault : Fault) → SaysUnlessMemory (WhatIfSays Html false asked settings) text (Err fault) →
    IsUntold asked text fault ⊎ (fault ≡ Memory)
changes_refused asked settings text fault (inl (inl faulty)) = inl (inl faulty)
changes_refused asked settings text fault (inl (inr broken)) = inl (inr (inr broken))
changes_refused asked settings text fault (inr memory) = inr (one_fault (Err fault) fault refl memory)

-- the runs with that of the next target
pub one_more_run : (asked : Asked) (settings : Settings) (text : List ℕ) (scenario : Scenario) (targets : List (ℕ × ℕ)) (i : ℕ) (d : ℕ × ℕ)
    (runs : List Run) (run : Run) →
    i < length targets → AreRunsOf asked settings text scenario (take i targets) runs →
    place_of run ≡ get_or targets i d → IsRunOf asked settings text scenario run →
    AreRunsOf asked settings text scenario (take (i + 1) targets) (runs ++ run ∷ [])
one_more_run asked settings text scenario targets i d runs run within so_far same is = (
  map-append place_of runs (run ∷ [])
      ∙ ap (λ (places : List (ℕ × ℕ)). places ++ place_of run ∷ []) so_far.0
      ∙ ap (λ (place : ℕ × ℕ). take i targets ++ place ∷ []) same
      ∙ sym (take_more targets i d within),
  All-push (IsRunOf asked settings text scenario) runs run so_far.1 is,
)

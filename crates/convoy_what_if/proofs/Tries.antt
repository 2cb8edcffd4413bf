-- Changes that were tried, each by itself, and a change that makes no scenario.
use Rattle.std.proofs.Common.{◌≡◌, ◌⊎◌, inl, inr, List, Result, Ok, Err, map, refl, subst, sym, ◌∙◌}
use Rattle.std.specs.List.{AllZip, Contains}
use denote.Ref.{Bor}
use Rattle.std.proofs.lemmas.List.{map-id}
use Rattle.convoy_draft.specs.declared.fault.ScenarioFault.{ScenarioFault}
use Rattle.convoy_draft.specs.declared.fault.ScenarioFault.TheVariants as scenario_faults
use Rattle.convoy_scenario.specs.Scenario.{Scenario}
use Rattle.convoy_branch.specs.Options.{Settings}
use Rattle.convoy_commands.specs.declared.fault.Fault.{Fault}
use Rattle.convoy_commands.specs.declared.fault.Fault.TheVariants.{Memory}
use Rattle.convoy_rows.proofs.OfKeys.{HasKey, all_rows, all_zip_values, key_of_row, keys_are}
use Rattle.convoy_what_if.specs.declared.kinds.Change.{Change}
use Rattle.convoy_what_if.specs.Changes.{changed}
use Rattle.convoy_what_if.specs.declared.tried.Searched.{Searched}
use Rattle.convoy_what_if.specs.declared.tried.Tried.{Tried}
use Rattle.convoy_what_if.specs.Orders.{AreTriedBy, by_savings}
use Rattle.convoy_what_if.specs.Tries.{HasBroken, HasRefusedBy, IsRefusedBy, IsTriedBy, MayAnswer, MayAnswerBy, MayTry, TellsAnswer, TellsChange}

module _ (may_answer : Change → Result Searched ScenarioFault → Type 0) (changes : List Change) where
  -- where rows came of all changes, they are those of the changes once they stand by what they save
  pub tried_of : (rows : List Tried) → AllZip (MayTry may_answer) changes (map Ok rows) → AreTriedBy may_answer changes (by_savings rows)
  tried_of rows all =
      let told : AllZip (TellsChange may_answer) changes rows = all_zip_values (MayTry may_answer) changes rows all in
      record {
        tried = rows;
        each = keys_are (TellsChange may_answer) (λ c. c) (λ (r : Tried). r.change) changes rows (λ c r is. is.of_change) told ∙ map-id changes;
        all_tried = all_rows (TellsChange may_answer) (IsTriedBy may_answer) changes rows (λ c r is. is.tried) told;
        placed = refl;
      }

  -- a fault that came is that of a change in the list, or memory
  pub refused_in : (tries : List (Result Tried Fault)) (fault : Fault) → AllZip (MayTry may_answer) changes tries → Contains tries (Err fault) →
      HasRefusedBy may_answer changes fault ⊎ (fault ≡ Memory)
  refused_in tries fault all has = by_key (key_of_row (MayTry may_answer) changes tries (Err fault) all has) where
    by_key : HasKey (λ change. MayTry may_answer change (Err fault)) changes → HasRefusedBy may_answer changes fault ⊎ (fault ≡ Memory)
    by_key key = by_cause key.holds where
      by_cause : IsRefusedBy may_answer key.key fault ⊎ (fault ≡ Memory) → HasRefusedBy may_answer changes fault ⊎ (fault ≡ Memory)
      by_cause (inl refused) = inl (record { change = key.key; listed = key.listed; refused = refused })
      by_cause (inr memory) = inr memory

-- the row of a change that was tried with this watch
pub told_by : {W : Type 0} (may_answer : Change → Bor W → Result Searched ScenarioFault → Type 0) (change : Change) (watch : Bor W) (row : Tried)
    (answer : Result Searched ScenarioFault) → may_answer change watch answer → row.change ≡ change → TellsAnswer row answer →
    TellsChange (MayAnswerBy may_answer) change row
told_by may_answer change watch row answer answered of_change told = record {
  of_change = of_change;
  tried = record {
    answer = answer;
    given = subst (λ (c : Change). MayAnswerBy may_answer c answer) (sym of_change) (record { watch = watch; answered = answered });
    told = told;
  };
}

-- what was answered may be answered on wider terms
pub tried_also : (may_answer also : Change → Result Searched ScenarioFault → Type 0) (changes : List Change) (rows : List Tried) →
    ((change : Change) (answer : Result Searched ScenarioFault) → may_answer change answer → also change answer) →
    AreTriedBy may_answer changes rows → AreTriedBy also changes rows
tried_also may_answer also changes rows then are = record {
  tried = are.tried;
  each = are.each;
  all_tried = λ k d small. let is = are.all_tried k d small in record { answer = is.answer; given = then _ is.answer is.given; told = is.told };
  placed = are.placed;
}

-- where answers are those of searches, a change for which the answer is a fault makes no scenario
pub broken_by : (may_answer : Change → Result Searched ScenarioFault → Type 0) (settings : Settings) (scenario : Scenario) (changes : List Change) (fault : Fault) →
    ((change : Change) (answer : Result Searched ScenarioFault) → may_answer change answer → MayAnswer settings scenario change answer) →
    HasRefusedBy may_answer changes fault ⊎ (fault ≡ Memory) → HasBroken scenario changes fault ⊎ (fault ≡ Memory)
broken_by may_answer settings scenario changes fault then (inr memory) = inr memory
broken_by may_answer settings scenario changes fault then (inl has) = inl (record {
  change = has.change;
  listed = has.listed;
  makes_none = record {
    cause = has.refused.cause;
    broken = made_none (then has.change (Err has.refused.cause) has.refused.answered);
    told = has.refused.told;
  };
}) where
  made_none : (changed scenario has.change ≡ Err has.refused.cause) ⊎ (has.refused.cause ≡ scenario_faults.Memory) → changed scenario has.change ≡ Err has.refused.cause
  made_none (inl none) = none
  made_none (inr memory) = absurd (has.refused.no_memory memory)

-- The draft of the compressed scenario, told by the names of the scenario itself.
use Rattle.std.proofs.Common.{◌≡◌, ℕ, ◌+◌, ◌-◌, ◌<◌, min, length, map, pos, Result, Ok, inl, inr, sym, ap, ap₂, ◌∙◌}
use Rattle.convoy_draft.specs.declared.fault.ScenarioFault.{ScenarioFault}
use Rattle.convoy_draft.specs.declared.fault.ScenarioFault.TheVariants.{Memory}
use Rattle.convoy_draft.specs.Draft.{Draft}
use Rattle.convoy_scenario.specs.Memory.{IsUnlessMemory}
use Rattle.convoy_scenario.specs.Naming.{draft_for, draft_link, draft_message}
use Rattle.convoy_scenario.specs.Scenario.{Message, Scenario, group_name_at, message_at}
use Rattle.convoy_outage_runs.specs.Compressed.{compressed, compressed_link, compressed_span, message_saved, saved_ticks}
use Rattle.convoy_outage_runs.proofs.Limits.{message_is}

module _ (factor span : ℕ) (plan : Scenario) where
  -- what is drafted, where D and the number of ticks that are saved have been computed
  abbrev pub draft_of : ℕ → ℕ → Draft
  draft_of ticks delay = record {
    time = plan.time;
    tick = plan.tick;
    delay = pos delay;
    groups = plan.groups;
    places = plan.places;
    links = map (draft_link plan) (map (compressed_link factor span) plan.links);
    messages = map (draft_message plan) (map (message_saved ticks (message_at plan plan.target_message)) plan.multicasts);
    target_message = (message_at plan plan.target_message).name;
    target_group = group_name_at plan plan.target_group;
  }

  pub drafted : plan.target_message < length plan.multicasts → (ticks delay : ℕ) (draft : Draft)
      → ticks ≡ saved_ticks factor span → delay ≡ plan.delay + compressed_span factor span + min (factor - 1) 1 → draft ≡ draft_of ticks delay
      → draft ≡ draft_for (compressed factor span plan)
  unfolding compressed
  drafted known ticks delay draft many most is =
      is
      ∙ ap₂ draft_of many most
      ∙ ap (λ (x : Message). record (draft_of (saved_ticks factor span) (plan.delay + compressed_span factor span + min (factor - 1) 1)) { target_message = x.name })
      (sym (message_is factor span plan known plan.target_message known))

-- where it is known what a draft gives, no fault but that of memory is told
pub given : (want result : Result Scenario ScenarioFault) (x y : Scenario) → IsUnlessMemory Memory want result → want ≡ Ok x → result ≡ Ok y → y ≡ x
given want result x y (inl e) is gives = cc
given want result x y (inr e) is gives = absurd cc

use Rattle.std.proofs.Common.{ℕ, ◌<◌, IsTrue, string_bytes}
use Rattle.convoy_scenario.specs.Scenario.{may_wait, message_at}
use Rattle.convoy_timeline.specs.Explanations.{window_text}
use Rattle.convoy_draw.specs.Drawings.{Tells}
use Rattle.convoy_draw.proofs.windows.windows.Given as goal

-- the text tells of the messages so far
abbrev pub invariant-loop-message : goal.invariant-loop-message
invariant-loop-message l =
    (m : ℕ) → m < l.message → IsTrue (may_wait (message_at l.scene.scenario.now m)) → Tells (window_text l.scene.scenario.now m) (string_bytes l.text)

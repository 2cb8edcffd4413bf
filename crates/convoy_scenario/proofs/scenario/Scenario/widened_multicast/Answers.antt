use Rattle.std.proofs.Common.{◌≡◌, ◌≢◌, ◌<◌, ◌+◌, ℕ, length, rules, ap, ap₂, sym, subst, ◌∙◌, arith}
use Rattle.std.proofs.lemmas.List.{get_or_read}
use Rattle.convoy_scenario.specs.Scenario.{Message, Scenario, message_at, no_message}
use Rattle.convoy_scenario.specs.Widened.{target_wait}
use Rattle.convoy_scenario.proofs.WidenedLemmas.{at_end, message_is, waits_longer}
use Rattle.convoy_scenario.proofs.scenario.Scenario.widened_multicast.Goals as goal

pub returns-then-message-target : goal.returns-then-message-target
returns-then-message-target c =
    let plan = c.args.self.now in
    let within : c.args.message < length c.self.inside.multicasts.items = omega (arith, c.requires, ap (λ (s : Scenario). length s.multicasts) c.self.view_is) in
    let same : c.in_ok-same.same ≡ message_at plan c.args.message =
    c.in_ok-same.ensures ∙ get_or_read c.self.inside.multicasts.items c.args.message _ within c.index.ensures no_message
    ∙ ap (λ (s : Scenario). message_at s c.args.message) c.self.view_is in
    let wait : c.from-wait.result ≡ target_wait plan = search rules in
    let target : c.args.message ≡ plan.target_message = c.if-message-target.true ∙ ap (λ (s : Scenario). s.target_message) c.self.view_is in
    ap₂ (λ (m : Message) (w : ℕ). record m { at = m.at + w; longest_wait = 0 }) (c.same.view_is ∙ same) wait
    ∙ sym (message_is plan c.args.message c.requires ∙ at_end (target_wait plan) plan.target_message c.args.message (message_at plan c.args.message) target)

pub returns-else-message-target : goal.returns-else-message-target
returns-else-message-target c =
    let plan = c.args.self.now in
    let within : c.args.message < length c.self.inside.multicasts.items = omega (arith, c.requires, ap (λ (s : Scenario). length s.multicasts) c.self.view_is) in
    let same : c.in_ok-same.same ≡ message_at plan c.args.message =
    c.in_ok-same.ensures ∙ get_or_read c.self.inside.multicasts.items c.args.message _ within c.index.ensures no_message
    ∙ ap (λ (s : Scenario). message_at s c.args.message) c.self.view_is in
    let wait : c.from-wait.result ≡ target_wait plan = search rules in
    let other : c.args.message ≢ plan.target_message =
    subst (λ (s : Scenario). c.args.message ≢ s.target_message) c.self.view_is c.if-message-target.false in
    ap₂ (λ (m : Message) (w : ℕ). record m { longest_wait = m.longest_wait + w }) (c.same.view_is ∙ same) wait
    ∙ sym (message_is plan c.args.message c.requires ∙ waits_longer (target_wait plan) plan.target_message c.args.message (message_at plan c.args.message) other)

use Rattle.std.proofs.Common.{◌<◌, ℕ, List, length, sym, ap, subst, ◌∙◌}
use Rattle.std.specs.List.{slice_index}
use Rattle.convoy_starts.specs.Mosts.{bars_of}
use Rattle.convoy_starts.proofs.MostLaws.{target_there, target_within}
use Rattle.convoy_starts.proofs.setting.Setting.bar_of_target.Goals as goal

pub returns-then-self-clause-within : goal.returns-then-self-clause-within
returns-then-self-clause-within c =
    let scenario = c.args.self.now.scenario.now in
    let bars = c.args.self.now.barred ∙ ap (bars_of scenario) c.if-self.true in
    subst (λ (m : ℕ). m < length c.args.self.now.bars.now) (sym c.target_message.ensures.value)
    (subst (λ (xs : List ℕ). scenario.target_message < length xs) (sym bars) (target_within scenario c.target_message.ensures.lawful))

pub returns-then-self-clause-value : goal.returns-then-self-clause-value
returns-then-self-clause-value c =
    let scenario = c.args.self.now.scenario.now in
    let bars = c.args.self.now.barred ∙ ap (bars_of scenario) c.if-self.true in
    ap (slice_index c.args.self.now.bars.now) c.target_message.ensures.value
    ∙ ap (λ (xs : List ℕ). slice_index xs scenario.target_message) bars
    ∙ target_there scenario c.target_message.ensures.lawful

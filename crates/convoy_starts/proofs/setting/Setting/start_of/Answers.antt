use Rattle.std.proofs.Common.{◌≡◌, ℕ, Bool, List, [], cond, map, sym, ap, ◌∙◌, arith}
use Rattle.std.specs.List.{slice_index}
use Rattle.arrayvec.specs.ArrayVec.{ArrayVec}
use Rattle.convoy_scenario.specs.Scenario.{message_numbers}
use Rattle.convoy_sure.specs.Windows.{tables_by}
use Rattle.convoy_starts.specs.Starts.{raise_high, start_of}
use Rattle.convoy_starts.specs.Mosts.{bars_of}
use Rattle.convoy_starts.proofs.MostLaws.{mapped, raise_small, start_is}
use Rattle.convoy_starts.proofs.setting.Setting.start_of.Goals as goal
use Rattle.convoy_starts.proofs.setting.Setting.start_of.Goals.{then-self, else-self}

pub new-requires-clause-base : goal.new-requires-clause-base
new-requires-clause-base c =
    let scenario = c.args.self.now.scenario.now in
    let tables = tables_by c.args.self.now.windows.now in
    let sure = c.args.self.now.sure.now in
    let place : ℕ = c.bar_of_target.result in
    let bar : ℕ = slice_index c.args.self.now.bars.now place in
    let here : slice_index c.deref.result.now place ≡ raise_high scenario tables sure c.args.starts.now c.args.tick bar c.args.pair.message c.args.pair.group =
    ap (λ (xs : List ℕ). slice_index xs place) c.deref.ensures.0 ∙ c.raises_high-mosts.ensures.value.each place c.bar_of_target.ensures.within in
    omega (arith, here, raise_small scenario tables sure c.args.starts.now c.args.tick bar c.args.pair.message c.args.pair.group, c.args.self.now.count, c.args.self.now.few)

pub returns-clause-value : goal.returns-clause-value
returns-clause-value c =
    let scenario = c.args.self.now.scenario.now in
    let tables = tables_by c.args.self.now.windows.now in
    let sure = c.args.self.now.sure.now in
    let starts = c.args.starts.now in
    let place : ℕ = c.bar_of_target.result in
    let raise : ℕ → ℕ = λ x. raise_high scenario tables sure starts c.args.tick x c.args.pair.message c.args.pair.group in
    let base : slice_index c.deref.result.now place ≡ raise scenario.target_message =
    ap (λ (xs : List ℕ). slice_index xs place) c.deref.ensures.0
    ∙ c.raises_high-mosts.ensures.value.each place c.bar_of_target.ensures.within
    ∙ ap raise c.bar_of_target.ensures.value in
    let all : c.raises_high-mosts.result.items ≡ map raise c.args.self.now.bars.now = mapped raise c.args.self.now.bars.now c.raises_high-mosts.result.items c.raises_high-mosts.ensures.value in
    let made : c.if-self.barred.items ≡ cond c.args.self.now.barring (map raise (message_numbers scenario)) []
    → c.new.result ≡ start_of scenario tables sure c.args.self.now.barring starts c.args.tick c.args.pair =
    λ barred. c.new.ensures ∙ start_is scenario tables sure starts c.args.tick c.args.pair c.args.self.now.barring (slice_index c.deref.result.now place) c.if-self.barred.items base barred in
    let by : Bool → List ℕ = λ b. cond b (map raise (message_numbers scenario)) [] in
    elim c.if-self.branch [
      | then-self w ↦
          made (ap (λ (m : ArrayVec ℕ). m.items) w.barred-is ∙ all ∙ ap (map raise) (c.args.self.now.barred ∙ ap (bars_of scenario) w.if-self.true) ∙ sym (ap by w.if-self.true))
      | else-self w ↦ made (ap (λ (m : ArrayVec ℕ). m.items) w.barred-is ∙ w.new-barred.ensures ∙ sym (ap by w.if-self.false))
    ]

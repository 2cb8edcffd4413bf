use Rattle.std.proofs.Common.{rules, ◌≡◌, ◌==◌, ◌&&◌, not, ℕ, Bool, filter, sym, ap, ◌∙◌}
use Rattle.std.proofs.lemmas.List.{take_all}
use Rattle.convoy_sim.specs.Delivery.{addressed_to}
use Rattle.convoy_sim.specs.Moments.{next_arrival}
use Rattle.convoy_sure.specs.Windows.{tables_by}
use Rattle.convoy_starts.specs.Starts.{may_arrive}
use Rattle.convoy_starts.proofs.LowStarts.{filter_twice}
use Rattle.convoy_starts.proofs.setting.Setting.arrivals_after.Goals as goal

pub returns : goal.returns
returns c =
    let scenario = c.args.self.now.scenario.now in
    let may : ℕ → ℕ → Bool = λ since. may_arrive scenario.time (tables_by c.args.self.now.windows.now).times c.args.tick c.args.q c.args.group since in
    let other : ℕ → Bool = λ z. not (z == c.args.start.now.message) in
    let all : c.loop-z.arrivals ≡ filter (λ z. may c.next_arrival-since.result z && other z) (addressed_to scenario c.args.group) =
    c.loop-z.invariant.so_far
    ∙ ap (filter (λ z. may c.next_arrival-since.result z && other z)) (take_all c.loop-z.z-index c.addressed_to-z-items.result.now (search rules) ∙ c.addressed_to-z-items.ensures.list) in
    let since : c.next_arrival-since.result ≡ next_arrival scenario.time c.args.start.now.at = search rules in
    all
    ∙ sym (filter_twice other (may c.next_arrival-since.result) (addressed_to scenario c.args.group))
    ∙ ap (λ (tick : ℕ). filter other (filter (may tick) (addressed_to scenario c.args.group))) since

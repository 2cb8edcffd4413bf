use Rattle.std.proofs.Common.{ℕ, List, All, sym, subst, rules}
use Rattle.convoy_sim.specs.Moments.{next_arrival}
use Rattle.convoy_sure.specs.Windows.{tables_by}
use Rattle.convoy_starts.proofs.Known.{IsKnown, arrivals_known, others_known}
use Rattle.convoy_starts.proofs.setting.Setting.link.Goals as goal

pub returns-in-None : goal.returns-in-None
returns-in-None c =
    let scenario = c.args.self.now.scenario.now in
    let tables = (tables_by c.args.self.now.windows.now).times in
    record {
      message = c.requires.message;
      group = c.requires.group;
      commit = search rules;
      others = subst (λ (zs : List ℕ). All (IsKnown scenario) zs) (sym c.arrivals_since.ensures) (arrivals_known scenario tables c.args.by c.args.message c.args.group 0);
    }

pub returns-in-Some : goal.returns-in-Some
returns-in-Some c =
    let scenario = c.args.self.now.scenario.now in
    let tables = (tables_by c.args.self.now.windows.now).times in
    let start = c.index-starts-place.result in
    let since : ℕ = next_arrival scenario.time start.at in
    record {
      message = c.requires.message;
      group = c.requires.group;
      commit = search rules;
      others = subst (λ (zs : List ℕ). All (IsKnown scenario) zs) (sym c.arrivals_after.ensures)
          (others_known scenario tables c.args.by c.args.message c.args.group since start.message);
    }

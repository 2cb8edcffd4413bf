use Rattle.std.specs.Prelude.{List}
use Rattle.std.proofs.Common.{ap, subst, sym}
use Rattle.convoy_machine.specs.declared.parts.Branch.{Branch}
use Rattle.convoy_machine.specs.Machine.{Core, HasBranch}
use Rattle.convoy_machine.proofs.LawfulEvents.{allowed_has_branch, lawful_parts}
use Rattle.convoy_machine.proofs.machine.Core.follow.Goals as goal

pub turn-requires : goal.turn-requires
turn-requires c =
    let plan = c.requires.lawful.0 in
    let core = c.args.self.now in
    let parts = lawful_parts plan core c.args.event.now c.requires.lawful.1 in
    subst (λ (branches : List Branch). HasBranch branches c.args.event.now) (sym (ap (λ (m : Core). m.branches) c.self.view_is)) (allowed_has_branch plan core c.args.event.now parts.1)

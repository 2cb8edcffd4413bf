use Rattle.std.proofs.lemmas.Bool.{eqb-true}
use Rattle.std.proofs.Common.{◌≡◌, sym, subst, IfOk, ◌∙◌}
use Rattle.convoy_leads.specs.Closing.{closes_by_leads}
use Rattle.convoy_regions.specs.Regions.{Region}
use Rattle.convoy_narrowing.specs.Narrowing.{closes_region}
use Rattle.convoy_narrowing.proofs.RegionWindows.{closed_by_box, closed_by_own, open_as_box}
use Rattle.convoy_narrowing.proofs.closing.closes_region.Goals as goal

pub returns-then-branch : goal.returns-then-branch
returns-then-branch c =
    let region : Region = record { ranges = c.args.delay_box.now; before = c.args.before.now } in
    sym (closed_by_box c.args.instance.now region c.args.latency (sym c.in_ok-closes_by_leads.ensures.value ∙ c.if-branch.true))

pub returns-then-is_empty : goal.returns-then-is_empty
returns-then-is_empty c =
    let none = eqb-true _ 0 (rw c.is_empty.ensures at c.if-is_empty.true) in
    sym (open_as_box c.args.instance.now c.args.delay_box.now c.args.before.now c.args.latency none (sym c.in_ok-closes_by_leads.ensures.value ∙ c.if-branch.false))

pub returns : goal.returns
returns c =
    let region : Region = record { ranges = c.args.delay_box.now; before = c.args.before.now } in
    let own = closed_by_own c.args.instance.now region c.args.latency (sym c.in_ok-closes_by_leads.ensures.value ∙ c.if-branch.false) in
    subst (λ told. IfOk c.closes_narrowed.result (λ closed. closed ≡ told)) (sym own) c.closes_narrowed.ensures

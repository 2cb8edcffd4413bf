use Rattle.std.proofs.Common.{◌≡◌, Ok, rules, subst}
use Rattle.convoy_sweep.specs.declared.kinds.Sweep.{Sweep}
use Rattle.convoy_sweep.specs.Points.{prepared_of, seen}
use Rattle.convoy_sweep.proofs.Drawing.{answered_by}
use Rattle.convoy_sweep.proofs.curve_answering.curve_answer.Goals as goal

pub returns : goal.returns
returns g c =
    let prepared = seen c.in_ok-input.field-0 in
    let read =
    subst (λ (sweep : Sweep). prepared_of sweep c.args.envelope c.args.asked.now c.args.text.now ≡ Ok prepared) c.in_ok-sweep.ensures
    c.in_ok-input.ensures.value in
    answered_by c.args.setting.now c.args.envelope c.args.asked.now c.args.options.now c.args.text.now prepared _ _
    c.in_ok-rows.rows.items c.about.result _ c.in_ok-text.text read (rw c.deref.ensures.value at c.in_ok-rows.ensures)
    (rw c.deref-3.ensures.value at c.in_ok-text.ensures) (search rules) (search rules) (search rules) c.about.ensures.done
    c.about.ensures.text

use Rattle.std.proofs.Common.{◌≡◌, true, map, sym, ap, ◌∙◌, arith}
use Rattle.convoy_draft.specs.Checks.{is_among}
use Rattle.convoy_scenario_lines.specs.LineForms.{name_of}
use Rattle.convoy_scenario_lines.proofs.KeptNames.{keeps, keeps_enough}
use Rattle.convoy_lines.proofs.LabelLemmas.{next_takes}
use Rattle.convoy_scenario_lines.proofs.line_forms.destinations_of.Goals as goal

pub loop-word-preserved : goal.loop-word-preserved
loop-word-preserved c =
    let groups = c.args.groups.now in
    let kept = c.loop-word.names.items in
    let word = c.in-Some.word.now in
    let words = next_takes c.loop-word.words (word, c.next.new.self) c.in-Some.ensures.word in
    let known : is_among (name_of word) groups ≡ true = cc (c.is_named.ensures, c.text_of.ensures, c.if-not-is_named.false) in
    record {
      kept =
          sym (keeps_enough groups kept (name_of word) (map name_of c.next.new.self) known (omega arith))
          ∙ ap (λ ws. keeps groups kept (map name_of ws)) (sym words)
          ∙ c.loop-word.invariant.kept;
      few = c.loop-word.invariant.few;
    }

-- Texts of the form of a certificate of finishes, and the certificate that stands below its ways.
use Rattle.std.specs.Prelude.{ℕ, nat_eq, Bool, true, if◌then◌else◌, List}
use Rattle.std.specs.List.{starts_with}
use Rattle.convoy_lines.specs.Texts.{ended}
use Rattle.convoy_finish_checker.specs.FinishTexts.{first_line}
use Rattle.convoy_workflow_replies.specs.WorkflowForms.{run_text, told_text}

-- the text begins with the first line of certificates of finishes
abbrev pub is_finish_certificate : List ℕ → Bool
is_finish_certificate text = starts_with nat_eq text (ended first_line)

-- the text of which a scenario is told, and its schedule: of a certificate of finishes the certificate in it, and else as of a certificate of a workflow
abbrev pub scenario_text : List ℕ → List ℕ
scenario_text text = if is_finish_certificate text then run_text text else told_text text

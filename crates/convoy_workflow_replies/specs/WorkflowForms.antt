-- Texts of the form of a certificate of a workflow, and the certificate that stands below the lines of the workflow.
use Rattle.std.specs.Prelude.{ℕ, nat_eq, ◌==◌, Bool, true, ◌&&◌, if◌then◌else◌, List, [], ◌∷◌}
use Rattle.std.specs.List.{starts_with}
use Rattle.convoy_lines.specs.Texts.{ended}
use Rattle.convoy_certificate.specs.TextForms.{is_certificate_text}
use Rattle.convoy_workflow_certificate.specs.WorkflowTexts.{first_line}

-- the text begins with the first line of certificates of workflows
abbrev pub is_workflow_certificate : List ℕ → Bool
is_workflow_certificate text = starts_with nat_eq text (ended first_line)

-- what stands from the first line on at which a text of the form of a certificate begins; nothing where there is no such line. A line begins here, or not
abbrev pub run_text_from : Bool → List ℕ → List ℕ
run_text_from begins [] = []
run_text_from begins (byte ∷ rest) =
    if begins && is_certificate_text (byte ∷ rest) then byte ∷ rest else run_text_from (byte == 10) rest

-- what stands from the first line on that is the word `convoy` and a digit
abbrev pub run_text : List ℕ → List ℕ
run_text text = run_text_from true text

-- the text of which a run is told: of a certificate of a workflow the certificate in it, and else the text itself
abbrev pub told_text : List ℕ → List ℕ
told_text text = if is_workflow_certificate text then run_text text else text

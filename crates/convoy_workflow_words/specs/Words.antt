-- The words that a workflow text has beside a scenario text.
use Rattle.std.specs.Prelude.{ℕ, List, codes}
use Rattle.convoy_workflow_words.specs.declared.fault.WorkflowKey.{WorkflowKey}
use Rattle.convoy_workflow_words.specs.declared.fault.WorkflowKey.TheVariants.{After, On}

-- the word for a key that only workflow texts have
abbrev pub workflow_word : WorkflowKey → List ℕ
workflow_word After = codes "after"
workflow_word On = codes "on"

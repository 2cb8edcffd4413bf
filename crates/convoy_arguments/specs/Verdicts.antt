-- What a command line asks for.
use Rattle.std.specs.Prelude.{◌≡◌, ◌⊎◌, ℕ, List, Option, None, IsTrue, string_bytes}
use Rattle.convoy_task_list.specs.declared.task.Task.{Task}
use Rattle.convoy_task_list.specs.declared.task.Task.TheVariants.{Certificate, Trace}
use Rattle.convoy_task_list.specs.declared.of_certificates.CertificateTask.TheVariants.{Check}
use Rattle.convoy_task_list.specs.declared.of_traces.TraceTask.TheVariants.{Beside, Fits}
use Rattle.convoy_arguments.specs.declared.input.Input.{Input}
use Rattle.convoy_arguments.specs.declared.limits.TheConstants.{MOST_READS}
use Rattle.convoy_arguments.specs.declared.verdict.Verdict.{Verdict}
use Rattle.convoy_arguments.specs.declared.verdict.Verdict.TheVariants.{Ask, Batch, Text, Memory}
use Rattle.convoy_arguments.specs.Inputs.{AreApart, file_in, wanted_file}
use Rattle.convoy_arguments.specs.Texts.{are_shown}

-- The program ends at once: with a text, which has the status of help or of a command line that is
-- rejected, and no character that a terminal would obey; or for want of memory.
abbrev pub EndsAtOnce : Verdict → Type 0
EndsAtOnce (Ask task inputs manner) = ⊥
EndsAtOnce (Batch asked options tells_status input manner) = ⊥
EndsAtOnce (Text text status is_quiet) = ((status ≡ 0) ⊎ (status ≡ 2)) × IsTrue (are_shown (string_bytes text))
EndsAtOnce Memory = Unit {0}

-- a scenario is wanted only where a certificate is checked, or a trace is judged: no other task has a second input
abbrev pub WantsOnlyIfJudges : Task → Option Input → Type 0
WantsOnlyIfJudges (Certificate unit limit (Check tells)) wanted = Unit {0}
WantsOnlyIfJudges (Trace (Fits skew unit)) wanted = Unit {0}
WantsOnlyIfJudges (Trace (Beside format unit)) wanted = Unit {0}
WantsOnlyIfJudges task wanted = wanted ≡ None

-- a task on its inputs, a batch that may read as often as each task, or an end at once
abbrev pub IsVerdict : Verdict → Type 0
IsVerdict (Ask task inputs manner) = WantsOnlyIfJudges task inputs.wanted × AreApart inputs.wanted inputs.text
IsVerdict (Batch asked options tells_status input manner) = options.most_reads ≡ MOST_READS
IsVerdict (Text text status is_quiet) = EndsAtOnce (Text text status is_quiet)
IsVerdict Memory = Unit {0}

-- the file that is read, where one is
abbrev pub file_of : Verdict → Option (List ℕ)
file_of (Ask task inputs manner) = file_in inputs.text
file_of (Batch asked options tells_status input manner) = file_in input
file_of (Text text status is_quiet) = None
file_of Memory = None

-- the file with the scenario that a certificate is to be of, where one is named
abbrev pub scenario_file_of : Verdict → Option (List ℕ)
scenario_file_of (Ask task inputs manner) = wanted_file inputs.wanted
scenario_file_of other = None

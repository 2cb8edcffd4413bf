-- The faults that the rule of a task allows for a text: none is a device's.
use Rattle.std.proofs.Common.{◌≡◌, ◌⊎◌, inl, inr, ℕ, Bool, true, false, ◌&&◌, not, cond, nat_le, List, Option, Some, None, Result, Ok, Err, length, string_bytes}
use Rattle.std.specs.Option.{option_map}
use Rattle.std.specs.Result.{result_map_both}
use Rattle.convoy_streams.specs.declared.reading.ReadFault.TheVariants.{TooLong}
use Rattle.convoy_draft.specs.declared.duration.TimeUnit.{TimeUnit}
use Rattle.convoy_scenario.specs.Scenario.{Scenario}
use Rattle.convoy_toml.specs.declared.asked.Asked.{Asked}
use Rattle.convoy_toml.specs.declared.written.WrittenTime.{WrittenTime}
use Rattle.convoy_branch.specs.Options.{Settings}
use Rattle.convoy_outages.specs.declared.outage.Outage.{Outage}
use Rattle.convoy_case_answers.specs.declared.late.Late.{Late}
use Rattle.convoy_case_answers.specs.declared.late.Late.TheVariants as lates
use Rattle.convoy_case_answers.specs.CaseAnswers.{latency_of_cases_says}
use Rattle.convoy_case_answers.specs.Founds.{IsCaseRefused, IsLateRefused}
use Rattle.convoy_case_survey.specs.CaseSurveys.{case_asked}
use Rattle.convoy_finish_answers.specs.AcceptedTexts.{accepting}
use Rattle.convoy_finish_replies.specs.FinishForms.{is_finish_certificate}
use Rattle.convoy_toml.specs.Cases.{cases_of_text}
use Rattle.convoy_toml.specs.Reading.{accepts_by_text}
use Rattle.convoy_workflow_words.specs.declared.fault.WorkflowFault.{WorkflowFault}
use Rattle.convoy_workflow_words.specs.declared.fault.WorkflowFault.TheVariants as workflows
use Rattle.convoy_workflows.specs.Reading.{is_workflow_text}
use Rattle.convoy_certificate.specs.Certificate.{Certificate}
use Rattle.convoy_certificate.specs.Reading.{certificate_of}
use Rattle.convoy_certificate.specs.TextForms.{form_of}
use Rattle.convoy_certificate.specs.declared.form.Form.{Form}
use Rattle.convoy_certificate.specs.declared.form.Form.TheVariants as forms
use Rattle.convoy_certificate.specs.declared.text_fault.TextFault.{TextFault}
use Rattle.convoy_tables.specs.declared.format.Format.{Format}
use Rattle.convoy_commands.specs.declared.asking.Asking.TheVariants as askings
use Rattle.convoy_commands.specs.declared.done.Done.TheVariants.{NotChecked}
use Rattle.convoy_commands.specs.declared.fault.Fault.{Fault}
use Rattle.convoy_commands.specs.declared.fault.Fault.TheVariants.{Reading}
use Rattle.convoy_commands.specs.declared.limits.TheConstants.{LONGEST_JOB}
use Rattle.convoy_commands.specs.declared.telling.Telling.{Telling}
use Rattle.convoy_commands.specs.Asks.{AskSays}
use Rattle.convoy_commands.specs.First.{first_text}
use Rattle.convoy_commands.specs.Inputs.{reply_of_reading, reply_to_form}
use Rattle.convoy_commands.specs.Ceilings.{CeilingSays, IsOutageRefused}
use Rattle.convoy_commands.specs.Faults.{told_of_kinds, told_of_plan, told_of_ranges, told_of_trace, told_of_workflow}
use Rattle.convoy_commands.specs.Ranging.{RangesSay, links_told}
use Rattle.convoy_commands.specs.Replies.{fine}
use Rattle.convoy_commands.specs.Searches.{IsFaultyBy}
use Rattle.convoy_commands.specs.Tells.{TellSays, certificate_told, job_told}
use Rattle.convoy_commands.specs.WithCeilings.{explain_says}
use Rattle.convoy_commands.proofs.CheckTexts.{check_no_device, text_fault}
use Rattle.convoy_commands.proofs.DrawTexts.{draw_no_device}
use Rattle.convoy_commands.proofs.ExplainTexts.{explain_no_device}
use Rattle.convoy_commands.proofs.FirstTexts.{first_no_device}
use Rattle.convoy_commands.proofs.NoDevice.{IsNoDevice, no_device_in_scenario}
use Rattle.convoy_commands.proofs.TellTexts.{job_no_device as told_no_device}
use Rattle.convoy_commands.proofs.WithinTexts.{fault_within}
use Rattle.convoy_survey.specs.CeilingTables.{CeilingsSay}
use Rattle.convoy_what_if.specs.WhatIf.{WhatIfSays}
use Rattle.convoy_report.specs.Reports.{ReportSays}
use Rattle.convoy_budget.specs.Answers.{BudgetSays}
use Rattle.convoy_kinds.specs.declared.fault.KindsFault.{KindsFault}
use Rattle.convoy_kinds.specs.declared.fault.KindsFault.TheVariants as kinds
use Rattle.convoy_plans.specs.declared.fault.PlanFault.{PlanFault}
use Rattle.convoy_plans.specs.declared.fault.PlanFault.TheVariants as plans
use Rattle.convoy_best_order.specs.declared.wanted.Wanted.{Wanted}
use Rattle.convoy_best_plan.specs.Answers.{PlacingSays, PlanSays}
use Rattle.convoy_plan_checker.specs.PlanCheckAnswers.{PlanCheckSays}
use Rattle.convoy_plan_ceilings.specs.Answers.{CeilingPlacingSays, PlanCeilingSays}
use Rattle.convoy_plan_proof.specs.PlanProofs.{PlanProofSays}
use Rattle.convoy_ranges.specs.Answers.{ranges_text}
use Rattle.convoy_ranges.specs.declared.asked.RangeRules.{RangeRules}
use Rattle.convoy_ranges.specs.declared.fault.RangesFault.{RangesFault}
use Rattle.convoy_ranges.specs.declared.fault.RangesFault.TheVariants as tables
use Rattle.convoy_sweep.specs.Told.{CurveTold, SweepTold, told_of_sweep}
use Rattle.convoy_sweep.specs.declared.fault.SweepFault.{SweepFault}
use Rattle.convoy_sweep.specs.declared.fault.SweepFault.TheVariants as sweeps
use Rattle.convoy_sweep.specs.declared.kinds.Setting.{Setting}
use Rattle.convoy_sweep.specs.declared.kinds.Sweep.{Sweep as AskedSweep}
use Rattle.convoy_task_list.specs.declared.of_certificates.CertificateTask.{CertificateTask}
use Rattle.convoy_task_list.specs.declared.of_certificates.CertificateTask.TheVariants as certificates
use Rattle.convoy_task_list.specs.declared.of_kinds.KindsTask.{KindsTask}
use Rattle.convoy_task_list.specs.declared.of_kinds.KindsTask.TheVariants as kinds_tasks
use Rattle.convoy_task_list.specs.declared.of_plans.PlanTask.{PlanTask}
use Rattle.convoy_task_list.specs.declared.of_plans.PlanTask.TheVariants as plan_tasks
use Rattle.convoy_task_list.specs.declared.of_scenarios.ScenarioTask.{ScenarioTask}
use Rattle.convoy_task_list.specs.declared.of_scenarios.ScenarioTask.TheVariants as scenario_tasks
use Rattle.convoy_task_list.specs.declared.of_traces.TraceTask.{TraceTask}
use Rattle.convoy_task_list.specs.declared.of_traces.TraceTask.TheVariants as trace_tasks
use Rattle.convoy_task_list.specs.declared.searches.SearchTask.{SearchTask}
use Rattle.convoy_task_list.specs.declared.searches.SearchTask.TheVariants as searches
use Rattle.convoy_task_list.specs.declared.task.Task.{Task}
use Rattle.convoy_task_list.specs.declared.task.Task.TheVariants.{Tell, Scenario as OfScenario, Ceilings, Search, BatchTable, Plan, Certificate as OfCertificate, Kinds, Trace, Ranges}
use Rattle.convoy_text_answers.specs.Abouts.{check_says}
use Rattle.convoy_traces.specs.declared.fault.TraceFault.{TraceFault}
use Rattle.convoy_traces.specs.declared.fault.TraceFault.TheVariants as traces
use Rattle.convoy_fits_told.specs.declared.skew.Skew.{Skew}
use Rattle.convoy_text_answers.specs.FitsAnswers.{JudgedSays, is_unmeasured, says_by, trace_says}
use Rattle.convoy_text_answers.specs.KindAnswers.{AreFaultyKinds}
use Rattle.convoy_text_answers.specs.LinkAnswers.{beside_reply, beside_says, links_told as links_told_of}
use Rattle.convoy_trace_ranges.specs.Answers.{trace_ranges_text}
use Rattle.convoy_trace_ranges.specs.Beside.{beside_told}
use Rattle.convoy_trace_ranges.specs.LinkTables.{trace_table_text}
use Rattle.convoy_workflow_replies.specs.declared.reference.Reference.{Reference}
use Rattle.convoy_workflow_replies.specs.declared.reference.Reference.TheVariants as references
use Rattle.convoy_workflow_replies.specs.WorkflowForms.{is_workflow_certificate}
use Rattle.convoy_tasks.specs.Tasks.{check_against, check_by, form_says, greatest_says, kinds_say, late_by, latency_by, latency_ceiled_by, latency_late_by, of_scenario_says, of_workflow_says, outage_told, plan_says, proof_says, scenario_says, search_says, scenario_wanted, survey_through_by, task_says, telling_says, tells_late_run, trace_of_says, scenario_proof_says, survey_says, of_finish_says, other_says, text_told}

-- the fault of an answer is that of the reply
fault_of_fine : (answer : Result (List ℕ) Fault) (fault : Fault) → Err fault ≡ fine answer → answer ≡ Err fault
fault_of_fine (Ok out) fault is = cc
fault_of_fine (Err refused) fault is = cc

-- a job's fault is one of its text, or that it is too long
job_no_device : (answer : Result (List ℕ) Fault) (fault : Fault) →
    ((refused : Fault) → answer ≡ Err refused → IsNoDevice refused) → (b : Bool) →
    Err fault ≡ cond b (fine answer) (Err (Reading (TooLong LONGEST_JOB))) → IsNoDevice fault
job_no_device answer fault none true is = none fault (fault_of_fine answer fault is)
job_no_device answer fault none false is = let same : fault ≡ Reading (TooLong LONGEST_JOB) = cc in rw same tt

-- a certificate's fault is want of memory
reading_no_device : (made : Certificate → List ℕ) (read : Result Certificate TextFault) (fault : Fault) →
    Err fault ≡ reply_of_reading made read → IsNoDevice fault
reading_no_device made (Ok certificate) fault is = cc
reading_no_device made (Err refused) fault is = let none = text_fault (Err refused) fault is in rw none tt

form_no_device : (made : Certificate → List ℕ) (answer : List ℕ → Result (List ℕ) Fault) (text : List ℕ) (form : Form) (fault : Fault) →
    ((refused : Fault) → answer text ≡ Err refused → IsNoDevice refused) →
    Err fault ≡ reply_to_form made answer text form → IsNoDevice fault
form_no_device made answer text (forms.Certificate version) fault none is = reading_no_device made (certificate_of text) fault is
form_no_device made answer text forms.Other fault none is = job_no_device (answer text) fault none (nat_le (length text) LONGEST_JOB) is

-- the fault of what is told is one of those
tell_no_device : (telling : Telling) (text : List ℕ) (fault : Fault) → TellSays telling text (Err fault) → IsNoDevice fault
tell_no_device telling text fault says =
    form_no_device (certificate_told telling) (job_told telling) text (form_of text) fault (λ refused is. told_no_device telling text refused is) says

-- a search's fault is one of its text
search_no_device : (asked : Asked) (text : List ℕ) (fault : Fault) → IsFaultyBy asked text fault → IsNoDevice fault
search_no_device asked text fault faulty = rw faulty.told (no_device_in_scenario faulty.cause)

-- what the command line names, or leaves out, in the rule of `check`
about_no_device : (wanted : Option Scenario) (tells : Bool) (unit : Option TimeUnit) (text : List ℕ) (fault : Fault) → check_says wanted tells unit text (Err fault) → IsNoDevice fault
about_no_device None false unit text fault says = check_no_device text fault says
about_no_device None true unit text fault says = check_no_device text fault says
about_no_device (Some scenario) tells unit text fault says = check_no_device text fault says

-- and likewise where what is wanted may be a workflow
against_no_device : (reference : Reference) (tells : Bool) (unit : Option TimeUnit) (text : List ℕ) (fault : Fault) → check_against reference tells unit text (Err fault) → IsNoDevice fault
against_no_device (references.Scenario scenario) tells unit text fault says = about_no_device (Some scenario) tells unit text fault says
against_no_device (references.Accepted accepted) tells unit text fault says = check_no_device text fault says
against_no_device (references.Workflow workflow) tells unit text fault says = check_no_device text fault says

check_by_no_device : (wanted : Option Reference) (tells : Bool) (unit : Option TimeUnit) (text : List ℕ) (fault : Fault) → check_by wanted tells unit text (Err fault) → IsNoDevice fault
check_by_no_device None tells unit text fault says = about_no_device None tells unit text fault says
check_by_no_device (Some reference) tells unit text fault says = against_no_device reference tells unit text fault says

explained_no_device : (with_ceiling : Bool) (unit : Option TimeUnit) (text : List ℕ) (fault : Fault) → explain_says with_ceiling unit text (Err fault) → IsNoDevice fault
explained_no_device true unit text fault says = explain_no_device unit text fault says
explained_no_device false unit text fault says = explain_no_device unit text fault says

ceiling_no_device : (outage : Option Outage) (asked : Asked) (unit : Option TimeUnit) (text : List ℕ) (fault : Fault) → CeilingSays outage asked unit text (Err fault) → IsNoDevice fault
ceiling_no_device outage asked unit text fault (inl faulty) = search_no_device asked text fault faulty
ceiling_no_device outage asked unit text fault (inr refused) = rw refused.told tt

ceilings_no_device : (format : Format) (outage : Option Outage) (asked : Asked) (unit : Option TimeUnit) (group : Option (List ℕ)) (text : List ℕ) (fault : Fault)
    → CeilingsSay format outage asked unit group text (Err fault) → IsNoDevice fault
ceilings_no_device format outage asked unit group text fault (inl faulty) = search_no_device asked text fault faulty
ceilings_no_device format outage asked unit group text fault (inr (inl unknown)) = rw unknown.told tt
ceilings_no_device format outage asked unit group text fault (inr (inr refused)) = rw refused.told tt

through_no_device : (outage : Outage) (asked : Asked) (text : List ℕ) (fault : Fault) → IsFaultyBy asked text fault ⊎ IsOutageRefused (Some outage) asked text fault → IsNoDevice fault
through_no_device outage asked text fault (inl faulty) = search_no_device asked text fault faulty
through_no_device outage asked text fault (inr refused) = rw refused.told tt

no_device_in_workflow : (cause : WorkflowFault) → IsNoDevice (told_of_workflow cause)
no_device_in_workflow (workflows.Scenario cause) = no_device_in_scenario cause
no_device_in_workflow other = tt

telling_no_device : (is_late_run : Bool) (telling : Telling) (text : List ℕ) (fault : Fault) → telling_says is_late_run telling text (Err fault) → IsNoDevice fault
telling_no_device true telling text fault faulty = rw faulty.told (no_device_in_workflow faulty.cause)
telling_no_device false telling text fault says = tell_no_device telling text fault says

scenario_proof_no_device : (accepts : Bool) (asked : Asked) (settings : Settings) (text : List ℕ) (fault : Fault)
    → scenario_proof_says accepts asked settings text (Err fault) → IsNoDevice fault
scenario_proof_no_device true asked settings text fault (inl faulty) = search_no_device (accepting asked) text fault faulty
scenario_proof_no_device true asked settings text fault (inr refused) = rw refused.told tt
scenario_proof_no_device false asked settings text fault says = search_no_device asked text fault says

proof_no_device : (is_workflow : Bool) (asked : Asked) (settings : Settings) (text : List ℕ) (fault : Fault) → proof_says is_workflow asked settings text (Err fault) → IsNoDevice fault
proof_no_device true asked settings text fault faulty = rw faulty.told (no_device_in_workflow faulty.cause)
proof_no_device false asked settings text fault says = scenario_proof_no_device (accepts_by_text text) asked settings text fault says

late_no_device : (late : Late) (asked : Asked) (text : List ℕ) (fault : Fault) → IsLateRefused late asked text fault → IsNoDevice fault
late_no_device lates.Nothing asked text fault refused = absurd refused
late_no_device (lates.Outages outage) asked text fault refused = rw refused.told tt
late_no_device (lates.Answers span) asked text fault refused = rw refused.told tt

case_no_device : (late : Late) (asked : Asked) (text : List ℕ) (fault : Fault) → IsCaseRefused late asked text fault → IsNoDevice fault
case_no_device late asked text fault (inl faulty) = search_no_device asked text fault faulty
case_no_device late asked text fault (inr (inl refused)) = late_no_device late asked text fault refused
case_no_device late asked text fault (inr (inr (inl refused))) = rw refused.told (no_device_in_scenario refused.cause)
case_no_device late asked text fault (inr (inr (inr (inl refused)))) = rw refused.told tt
case_no_device late asked text fault (inr (inr (inr (inr late_back)))) = rw late_back.told tt

cases_no_device : (late : Late) (asked : Asked) (settings : Settings) (text : List ℕ) (fault : Fault)
    → latency_of_cases_says late asked settings text (Err fault) → IsNoDevice fault
cases_no_device late asked settings text fault (inl many) = rw many.told tt
cases_no_device late asked settings text fault (inr (inl unaimed)) = rw unaimed.told (no_device_in_scenario unaimed.cause)
cases_no_device late asked settings text fault (inr (inr (inl one))) = case_no_device late one.refused.case text fault one.refused.refused
cases_no_device late asked settings text fault (inr (inr (inr unlike))) = rw unlike.told tt

greatest_no_device : (is_workflow : Bool) (asked : Asked) (settings : Settings) (text : List ℕ) (fault : Fault)
    → greatest_says is_workflow asked settings text (Err fault) → IsNoDevice fault
greatest_no_device true asked settings text fault faulty = rw faulty.told (no_device_in_workflow faulty.cause)
greatest_no_device false asked settings text fault says = cases_no_device lates.Nothing asked settings text fault says

latency_late_no_device : (late : Late) (asked : Asked) (settings : Settings) (text : List ℕ) (fault : Fault)
    → latency_late_by late asked settings text (Err fault) → IsNoDevice fault
latency_late_no_device lates.Nothing asked settings text fault says = greatest_no_device (is_workflow_text text) asked settings text fault says
latency_late_no_device (lates.Outages outage) asked settings text fault says = cases_no_device (lates.Outages outage) asked settings text fault says
latency_late_no_device (lates.Answers span) asked settings text fault says = cases_no_device (lates.Answers span) asked settings text fault says

latency_ceiled_no_device : (outage : Option Outage) (asked : Asked) (settings : Settings) (text : List ℕ) (fault : Fault)
    → latency_ceiled_by outage asked settings text (Err fault) → IsNoDevice fault
latency_ceiled_no_device None asked settings text fault says = search_no_device asked text fault says
latency_ceiled_no_device (Some outage) asked settings text fault says = through_no_device outage asked text fault says

latency_no_device : (accept : Option WrittenTime) (outage : Option Outage) (with_ceiling : Bool) (asked : Asked) (settings : Settings) (text : List ℕ) (fault : Fault)
    → latency_by accept outage with_ceiling asked settings text (Err fault) → IsNoDevice fault
latency_no_device accept outage true asked settings text fault says = latency_ceiled_no_device (outage_told outage text) asked settings text fault says
latency_no_device accept outage false asked settings text fault says = latency_late_no_device (late_by accept outage text) asked settings text fault says

case_survey_no_device : (has_cases : Bool) (format : Format) (with_ceilings : Bool) (asked : Asked) (settings : Settings) (text : List ℕ) (fault : Fault)
    → survey_says has_cases format with_ceilings asked settings text (Err fault) → IsNoDevice fault
case_survey_no_device true format with_ceilings asked settings text fault (inl many) = rw many.told tt
case_survey_no_device true format with_ceilings asked settings text fault (inr one) = search_no_device (case_asked asked one.number) text fault one.faulty
case_survey_no_device false format with_ceilings asked settings text fault says = search_no_device (case_asked asked 0) text fault says

survey_no_device : (outage : Option Outage) (format : Format) (with_ceilings : Bool) (asked : Asked) (settings : Settings) (text : List ℕ) (fault : Fault)
    → survey_through_by outage format with_ceilings asked settings text (Err fault) → IsNoDevice fault
survey_no_device None format with_ceilings asked settings text fault says =
    case_survey_no_device (nat_le 2 (cases_of_text text)) format with_ceilings asked settings text fault says
survey_no_device (Some outage) format with_ceilings asked settings text fault says = through_no_device outage asked text fault says

what_if_no_device : (format : Format) (shows_all : Bool) (asked : Asked) (settings : Settings) (text : List ℕ) (fault : Fault) → WhatIfSays format shows_all asked settings text (Err fault) → IsNoDevice fault
what_if_no_device format shows_all asked settings text fault (inl faulty) = search_no_device asked text fault faulty
what_if_no_device format shows_all asked settings text fault (inr is) = rw is.broken.makes_none.told tt

report_no_device : (asked : Asked) (settings : Settings) (text : List ℕ) (fault : Fault) → ReportSays asked settings text (Err fault) → IsNoDevice fault
report_no_device asked settings text fault (inl faulty) = search_no_device asked text fault faulty
report_no_device asked settings text fault (inr (inl is)) = search_no_device (record asked { target = is.target }) text fault is.faulty
report_no_device asked settings text fault (inr (inr is)) = rw is.broken.makes_none.told tt

budget_no_device : (format : Format) (of_all of_ceiling : Bool) (asked : Asked) (settings : Settings) (text : List ℕ) (fault : Fault) → BudgetSays format of_all of_ceiling asked settings text (Err fault) → IsNoDevice fault
budget_no_device format of_all of_ceiling asked settings text fault (inl faulty) = search_no_device asked text fault faulty
budget_no_device format of_all of_ceiling asked settings text fault (inr (inl none)) = rw none.told tt
budget_no_device format of_all of_ceiling asked settings text fault (inr (inr is)) = rw is.broken.2.1.told tt

-- why there is no sweep is no device's fault
swept_no_device : (cause : SweepFault) → IsNoDevice (told_of_sweep cause)
swept_no_device (sweeps.Text cause) = no_device_in_scenario cause
swept_no_device (sweeps.First cause) = tt
swept_no_device (sweeps.Second cause) = tt
swept_no_device sweeps.SameKey = tt
swept_no_device sweeps.TooManyRows = tt
swept_no_device (sweeps.Value point cause) = tt

sweep_no_device : (format : Format) (sweep : AskedSweep) (envelope : Bool) (asked : Asked) (settings : Settings) (text : List ℕ) (fault : Fault) → SweepTold format sweep envelope asked settings text (Err fault) → IsNoDevice fault
sweep_no_device format sweep envelope asked settings text fault says = rw says.told (swept_no_device says.cause)

curve_no_device : (setting : Setting) (envelope : Bool) (asked : Asked) (settings : Settings) (text : List ℕ) (fault : Fault) → CurveTold setting envelope asked settings text (Err fault) → IsNoDevice fault
curve_no_device setting envelope asked settings text fault says = rw says.told (swept_no_device says.cause)

-- why a table gives no ranges is no device's fault
no_device_in_table : (cause : RangesFault) → IsNoDevice (told_of_ranges cause)
no_device_in_table tables.TooLong = tt
no_device_in_table tables.Empty = tt
no_device_in_table (tables.Line line cause) = tt
no_device_in_table tables.Memory = tt

table_no_device : (answer : Result (List ℕ) RangesFault) (fault : Fault) → result_map_both (λ links. links) told_of_ranges answer ≡ Err fault → IsNoDevice fault
table_no_device (Ok links) fault is = cc
table_no_device (Err cause) fault is = let same : fault ≡ told_of_ranges cause = cc in rw same (no_device_in_table cause)

ranges_no_device : (rules : RangeRules) (text : List ℕ) (fault : Fault) → RangesSay rules text (Err fault) → IsNoDevice fault
ranges_no_device rules text fault says = table_no_device (ranges_text rules text) fault (fault_of_fine (links_told rules text) fault says)

-- why a text is that of no plan is no device's fault
no_device_in_plan : (cause : PlanFault) → IsNoDevice (told_of_plan cause)
no_device_in_plan (plans.Scenario cause) = no_device_in_scenario cause
no_device_in_plan (plans.Shape key) = tt
no_device_in_plan (plans.OverLimit limit) = tt
no_device_in_plan plans.UnknownSite = tt
no_device_in_plan plans.NoSites = tt
no_device_in_plan plans.NoPlace = tt
no_device_in_plan plans.NoRange = tt
no_device_in_plan plans.NoPlacement = tt

plan_no_device : (format : Format) (wanted : Wanted) (with_reasons : Bool) (first : Option ℕ) (asked : Asked) (settings : Settings) (text : List ℕ) (fault : Fault) → PlanSays format wanted with_reasons first asked settings text (Err fault) → IsNoDevice fault
plan_no_device format wanted with_reasons first asked settings text fault (inl faulty) = rw faulty.told (no_device_in_plan faulty.cause)
plan_no_device format wanted with_reasons first asked settings text fault (inr none) = rw none.told tt

placing_no_device : (wanted : Wanted) (first : ℕ) (asked : Asked) (settings : Settings) (text : List ℕ) (fault : Fault) → PlacingSays wanted first asked settings text (Err fault) → IsNoDevice fault
placing_no_device wanted first asked settings text fault (inl faulty) = rw faulty.told (no_device_in_plan faulty.cause)
placing_no_device wanted first asked settings text fault (inr none) = rw none.told tt

plan_proof_no_device : (wanted : Wanted) (asked : Asked) (text : List ℕ) (fault : Fault) → PlanProofSays wanted asked text (Err fault) → IsNoDevice fault
plan_proof_no_device wanted asked text fault (inl faulty) = rw faulty.told (no_device_in_plan faulty.cause)
plan_proof_no_device wanted asked text fault (inr none) = rw none.told tt

plan_ceiling_no_device : (format : Format) (wanted : Wanted) (asked : Asked) (unit : Option TimeUnit) (text : List ℕ) (fault : Fault) → PlanCeilingSays format wanted asked unit text (Err fault) → IsNoDevice fault
plan_ceiling_no_device format wanted asked unit text fault (inl faulty) = rw faulty.told (no_device_in_plan faulty.cause)
plan_ceiling_no_device format wanted asked unit text fault (inr none) = rw none.told tt

ceiling_placing_no_device : (wanted : Wanted) (asked : Asked) (text : List ℕ) (fault : Fault) → CeilingPlacingSays wanted asked text (Err fault) → IsNoDevice fault
ceiling_placing_no_device wanted asked text fault (inl faulty) = rw faulty.told (no_device_in_plan faulty.cause)
ceiling_placing_no_device wanted asked text fault (inr none) = rw none.told tt

plan_check_no_device : (wanted : Wanted) (asked : Asked) (text : List ℕ) (fault : Fault) → PlanCheckSays wanted asked text (Err fault) → IsNoDevice fault
plan_check_no_device wanted asked text fault says = rw says.faulty.told (no_device_in_plan says.faulty.cause)

-- why a text is that of no kinds of messages is no device's fault
no_device_in_kinds : (cause : KindsFault) → IsNoDevice (told_of_kinds cause)
no_device_in_kinds (kinds.Scenario cause) = no_device_in_scenario cause
no_device_in_kinds (kinds.Shape key) = tt
no_device_in_kinds kinds.NotOneTo = tt
no_device_in_kinds (kinds.OverLimit limit) = tt
no_device_in_kinds kinds.DoubleSender = tt

kinds_no_device : (text : List ℕ) (fault : Fault) → AreFaultyKinds text fault → IsNoDevice fault
kinds_no_device text fault faulty = rw faulty.told (no_device_in_kinds faulty.cause)

-- why a text is no trace is no device's fault
no_device_in_trace : (cause : TraceFault) → IsNoDevice (told_of_trace cause)
no_device_in_trace traces.Empty = tt
no_device_in_trace (traces.Line line cause) = tt
no_device_in_trace (traces.TooFine parts) = tt
no_device_in_trace traces.NoPacket = tt
no_device_in_trace traces.Memory = tt

judged_no_device : (scenario : Scenario) (skew : Skew) (unit : Option TimeUnit) (text : List ℕ) (fault : Fault) → JudgedSays scenario skew unit text (Err fault) → IsNoDevice fault
judged_no_device scenario skew unit text fault faulty = rw faulty.told (no_device_in_trace faulty.cause)

skew_no_device : (none : Bool) (scenario : Scenario) (skew : Skew) (unit : Option TimeUnit) (text : List ℕ) (fault : Fault)
    → says_by none scenario skew unit text (Err fault) → IsNoDevice fault
skew_no_device true scenario skew unit text fault is = cc
skew_no_device false scenario skew unit text fault faulty = judged_no_device scenario skew unit text fault faulty

trace_no_device : (wanted : Option Scenario) (skew : Skew) (unit : Option TimeUnit) (text : List ℕ) (fault : Fault) → trace_says wanted skew unit text (Err fault)
    → IsNoDevice fault
trace_no_device None skew unit text fault is = cc
trace_no_device (Some scenario) skew unit text fault says = skew_no_device (is_unmeasured scenario skew) scenario skew unit text fault says

links_no_device : (answer : Result (List ℕ) TraceFault) (fault : Fault) → links_told_of answer ≡ Err fault → IsNoDevice fault
links_no_device (Ok links) fault is = cc
links_no_device (Err cause) fault is = let same : fault ≡ told_of_trace cause = cc in rw same (no_device_in_trace cause)

told_beside_no_device : (answer : Result (Bool × List ℕ) TraceFault) (fault : Fault) → Err fault ≡ beside_reply answer → IsNoDevice fault
told_beside_no_device (Ok (left, out)) fault is = cc
told_beside_no_device (Err cause) fault is = let same : fault ≡ told_of_trace cause = cc in rw same (no_device_in_trace cause)

beside_no_device : (wanted : Option Scenario) (format : Format) (unit : Option TimeUnit) (text : List ℕ) (fault : Fault) → beside_says wanted format unit text (Err fault) → IsNoDevice fault
beside_no_device None format unit text fault is = cc
beside_no_device (Some scenario) format unit text fault is = told_beside_no_device (beside_told format unit scenario text) fault is

scenario_says_no_device : (what : ScenarioTask) (asked : Asked) (text : List ℕ) (fault : Fault) → scenario_says what asked text (Err fault) → IsNoDevice fault
scenario_says_no_device scenario_tasks.First asked text fault says = first_no_device asked text fault (fault_of_fine (first_text asked text) fault says)
scenario_says_no_device scenario_tasks.Text asked text fault says = search_no_device asked text fault says
scenario_says_no_device (scenario_tasks.Ceiling simulations outage unit) asked text fault says = ceiling_no_device (outage_told outage text) asked unit text fault says

search_says_no_device : (what : SearchTask) (asked : Asked) (settings : Settings) (text : List ℕ) (fault : Fault) → search_says what asked settings text (Err fault) → IsNoDevice fault
search_says_no_device searches.Analyse asked settings text fault says = proof_no_device (is_workflow_text text) asked settings text fault says
search_says_no_device (searches.Latency with_ceiling outage accept) asked settings text fault says = latency_no_device accept outage with_ceiling asked settings text fault says
search_says_no_device (searches.Survey format with_ceilings outage) asked settings text fault says = survey_no_device (outage_told outage text) format with_ceilings asked settings text fault says
search_says_no_device (searches.WhatIf format shows_all) asked settings text fault says = what_if_no_device format shows_all asked settings text fault says
search_says_no_device searches.Report asked settings text fault says = report_no_device asked settings text fault says
search_says_no_device (searches.Budget format of_all of_ceiling) asked settings text fault says = budget_no_device format of_all of_ceiling asked settings text fault says
search_says_no_device (searches.Order format wanted with_reasons) asked settings text fault says = search_no_device asked text fault says
search_says_no_device (searches.Listing wanted) asked settings text fault says = search_no_device asked text fault says
search_says_no_device (searches.Sweep format sweep envelope) asked settings text fault says = sweep_no_device format sweep envelope asked settings text fault says
search_says_no_device (searches.Curve setting envelope) asked settings text fault says = curve_no_device setting envelope asked settings text fault says

plan_says_no_device : (what : PlanTask) (wanted : Wanted) (asked : Asked) (text : List ℕ) (fault : Fault) → plan_says what wanted asked text (Err fault) → IsNoDevice fault
plan_says_no_device (plan_tasks.Table format with_reasons first options) wanted asked text fault says = plan_no_device format wanted with_reasons first asked options text fault says
plan_says_no_device (plan_tasks.Scenario first options) wanted asked text fault says = placing_no_device wanted first asked options text fault says
plan_says_no_device (plan_tasks.Proof options) wanted asked text fault says = plan_proof_no_device wanted asked text fault says
plan_says_no_device (plan_tasks.Ceiling format unit) wanted asked text fault says = plan_ceiling_no_device format wanted asked unit text fault says
plan_says_no_device plan_tasks.CeilingScenario wanted asked text fault says = ceiling_placing_no_device wanted asked text fault says
plan_says_no_device plan_tasks.Check wanted asked text fault says = plan_check_no_device wanted asked text fault says

of_scenario_no_device : (what : CertificateTask) (wanted : Option Reference) (unit : Option TimeUnit) (limit : Option ℕ) (text : List ℕ) (fault : Fault)
    → of_scenario_says what wanted unit limit text (Err fault) → IsNoDevice fault
of_scenario_no_device (certificates.Check tells) wanted unit limit text fault says =
    check_by_no_device wanted tells unit text fault (fault_within limit NotChecked (check_by wanted tells unit) text fault says)
of_scenario_no_device (certificates.Explain with_ceiling) wanted unit limit text fault says =
    explained_no_device with_ceiling unit text fault (fault_within limit NotChecked (explain_says with_ceiling unit) text fault says)
of_scenario_no_device certificates.Draw wanted unit limit text fault says =
    draw_no_device unit text fault (fault_within limit NotChecked (AskSays (askings.Draw unit)) text fault says)

-- the certificate of a workflow has no fault
of_workflow_no_device : (what : CertificateTask) (wanted : Option Reference) (unit : Option TimeUnit) (text : List ℕ) (fault : Fault)
    → of_workflow_says what wanted unit text (Err fault) → IsNoDevice fault
of_workflow_no_device (certificates.Check tells) wanted unit text fault none = absurd none
of_workflow_no_device (certificates.Explain with_ceiling) wanted unit text fault none = absurd none
of_workflow_no_device certificates.Draw wanted unit text fault none = absurd none

-- nor has that of finishes
of_finish_no_device : (what : CertificateTask) (wanted : Option Reference) (unit : Option TimeUnit) (limit : Option ℕ) (text : List ℕ) (fault : Fault)
    → of_finish_says what wanted unit limit text (Err fault) → IsNoDevice fault
of_finish_no_device (certificates.Check tells) wanted unit limit text fault none = absurd none
of_finish_no_device (certificates.Explain with_ceiling) wanted unit limit text fault none = absurd none
of_finish_no_device certificates.Draw wanted unit limit text fault says =
    draw_no_device unit text fault (fault_within limit NotChecked (AskSays (askings.Draw unit)) text fault says)

other_no_device : (is_finish : Bool) (what : CertificateTask) (wanted : Option Reference) (unit : Option TimeUnit) (limit : Option ℕ) (text : List ℕ) (fault : Fault)
    → other_says is_finish what wanted unit limit text (Err fault) → IsNoDevice fault
other_no_device true what wanted unit limit text fault says = of_finish_no_device what wanted unit limit text fault says
other_no_device false what wanted unit limit text fault says = of_scenario_no_device what wanted unit limit text fault says

certificate_no_device : (is_workflow : Bool) (what : CertificateTask) (wanted : Option Reference) (unit : Option TimeUnit) (limit : Option ℕ) (text : List ℕ) (fault : Fault)
    → form_says is_workflow what wanted unit limit text (Err fault) → IsNoDevice fault
certificate_no_device true what wanted unit limit text fault says = of_workflow_no_device what wanted unit text fault says
certificate_no_device false what wanted unit limit text fault says = other_no_device (is_finish_certificate text) what wanted unit limit text fault says

kinds_say_no_device : (what : KindsTask) (unit : Option TimeUnit) (text : List ℕ) (fault : Fault) → kinds_say what unit text (Err fault) → IsNoDevice fault
kinds_say_no_device (kinds_tasks.Table format) unit text fault says = kinds_no_device text fault says
kinds_say_no_device (kinds_tasks.Worst simulations) unit text fault says = kinds_no_device text fault says

trace_of_no_device : (what : TraceTask) (wanted : Option Scenario) (text : List ℕ) (fault : Fault) → trace_of_says what wanted text (Err fault) → IsNoDevice fault
trace_of_no_device (trace_tasks.Fits skew unit) wanted text fault says = trace_no_device wanted skew unit text fault says
trace_of_no_device (trace_tasks.Ranges rules unit) wanted text fault says =
    links_no_device (trace_ranges_text rules unit text) fault (fault_of_fine (links_told_of (trace_ranges_text rules unit text)) fault says)
trace_of_no_device (trace_tasks.Table format unit) wanted text fault says =
    links_no_device (trace_table_text format unit text) fault (fault_of_fine (links_told_of (trace_table_text format unit text)) fault says)
trace_of_no_device (trace_tasks.Beside format unit) wanted text fault says = beside_no_device wanted format unit text fault says

pub says_no_device : (task : Task) (wanted : Option Reference) (text : List ℕ) (fault : Fault) → task_says task wanted text (Err fault) → IsNoDevice fault
says_no_device (Tell telling) wanted text fault says = telling_no_device (tells_late_run telling (text_told telling text)) telling (text_told telling text) fault says
says_no_device (OfScenario asked what) wanted text fault says = scenario_says_no_device what asked text fault says
says_no_device (Ceilings format group simulations outage asked unit) wanted text fault says = ceilings_no_device format (outage_told outage text) asked unit (option_map string_bytes group) text fault says
says_no_device (Search asked options what) wanted text fault says = search_says_no_device what asked options text fault says
says_no_device (BatchTable format asked options tells_status) wanted text fault says = rw says.0 tt
says_no_device (Plan targets asked what) wanted text fault says = plan_says_no_device what targets asked text fault says
says_no_device (OfCertificate unit limit what) wanted text fault says = certificate_no_device (is_workflow_certificate text) what wanted unit limit text fault says
says_no_device (Kinds unit what) wanted text fault says = kinds_say_no_device what unit text fault says
says_no_device (Trace what) wanted text fault says = trace_of_no_device what (scenario_wanted wanted) text fault says
says_no_device (Ranges rules) wanted text fault says = ranges_no_device rules text fault says

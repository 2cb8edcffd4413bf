-- The tasks: what each may answer for a text, and how long the text may be.
use Rattle.std.specs.Prelude.{ℕ, nat_le, if◌then◌else◌, Bool, true, false, List, Option, Some, None, string_bytes}
use Rattle.std.specs.Option.{option_map}
use Rattle.convoy_scenario.specs.Scenario.{Scenario}
use Rattle.convoy_scenario.specs.declared.part.Part.TheVariants as parts
use Rattle.convoy_commands.specs.declared.asking.Asking.TheVariants as askings
use Rattle.convoy_commands.specs.declared.done.Done.TheVariants.{NotChecked}
use Rattle.convoy_commands.specs.declared.limits.TheConstants.{LONGEST_CERTIFICATE, LONGEST_JOB}
use Rattle.convoy_commands.specs.Asks.{AskSays}
use Rattle.convoy_commands.specs.Ceilings.{CeilingSays}
use Rattle.convoy_commands.specs.First.{FirstSays}
use Rattle.convoy_commands.specs.Ranging.{RangesSay}
use Rattle.convoy_commands.specs.Replies.{Rule}
use Rattle.convoy_commands.specs.Searches.{AnalyseSays}
use Rattle.convoy_commands.specs.Tells.{TellSays}
use Rattle.convoy_commands.specs.declared.telling.Telling.{Telling}
use Rattle.convoy_commands.specs.declared.telling.Telling.TheVariants as tellings
use Rattle.convoy_toml.specs.Cases.{cases_of_text}
use Rattle.convoy_toml.specs.Reading.{accepts_by_text, as_written, outage_of_text}
use Rattle.convoy_commands.specs.WithCeilings.{explain_says, latency_says}
use Rattle.convoy_commands.specs.Withins.{SaysWithin}
use Rattle.convoy_outages.specs.declared.outage.Outage.{Outage}
use Rattle.convoy_outage_answers.specs.Latencies.{latency_through_says}
use Rattle.convoy_case_answers.specs.declared.late.Late.{Late}
use Rattle.convoy_case_answers.specs.declared.late.Late.TheVariants as lates
use Rattle.convoy_case_answers.specs.CaseAnswers.{latency_of_cases_says}
use Rattle.convoy_case_survey.specs.CaseSurveys.{case_asked, survey_of_cases_says}
use Rattle.convoy_finish_answers.specs.FinishProofs.{FinishProofSays}
use Rattle.convoy_finish_replies.specs.FinishForms.{is_finish_certificate, scenario_text}
use Rattle.convoy_finish_replies.specs.FinishReplies.{CheckFinishSays, ExplainFinishSays}
use Rattle.convoy_workflows.specs.Reading.{is_workflow_text}
use Rattle.convoy_workflow_answers.specs.WorkflowLatencies.{workflow_latency_says}
use Rattle.convoy_workflow_answers.specs.LateRuns.{LateRunSays}
use Rattle.convoy_workflow_answers.specs.WorkflowProofs.{WorkflowProofSays}
use Rattle.convoy_workflow_replies.specs.declared.reference.Reference.{Reference}
use Rattle.convoy_workflow_replies.specs.declared.reference.Reference.TheVariants as references
use Rattle.convoy_workflow_replies.specs.WorkflowAsks.{AskWorkflowSays}
use Rattle.convoy_workflow_replies.specs.WorkflowChecks.{CheckOfOtherSays, CheckWorkflowSays}
use Rattle.convoy_workflow_replies.specs.WorkflowForms.{is_workflow_certificate, told_text}
use Rattle.convoy_outage_answers.specs.SurveysThrough.{SurveyThroughSays}
use Rattle.convoy_survey.specs.CeilingTables.{CeilingsSay}
use Rattle.convoy_survey.specs.Surveys.{SurveySays}
use Rattle.convoy_what_if.specs.WhatIf.{WhatIfSays}
use Rattle.convoy_report.specs.Reports.{ReportSays}
use Rattle.convoy_budget.specs.Answers.{BudgetSays}
use Rattle.convoy_best_order.specs.Answers.{ListingSays, OrderSays}
use Rattle.convoy_best_plan.specs.Answers.{PlacingSays, PlanSays}
use Rattle.convoy_plan_checker.specs.PlanCheckAnswers.{PlanCheckSays}
use Rattle.convoy_plan_ceilings.specs.Answers.{CeilingPlacingSays, PlanCeilingSays}
use Rattle.convoy_plan_proof.specs.PlanProofs.{PlanProofSays}
use Rattle.convoy_ranges.specs.declared.fault.TheConstants.{MOST_BYTES}
use Rattle.convoy_sweep.specs.Told.{CurveTold, SweepTold}
use Rattle.convoy_branch.specs.Options.{Settings}
use Rattle.convoy_draft.specs.declared.duration.TimeUnit.{TimeUnit}
use Rattle.convoy_toml.specs.declared.asked.Asked.{Asked}
use Rattle.convoy_toml.specs.declared.written.WrittenTime.{WrittenTime}
use Rattle.convoy_best_order.specs.declared.wanted.Wanted.{Wanted}
use Rattle.convoy_batches.specs.declared.batch_table.TheConstants.{LONGEST_BATCH}
use Rattle.convoy_batches.specs.BatchTables.{BatchTableSays}
use Rattle.convoy_text_answers.specs.Abouts.{check_says}
use Rattle.convoy_text_answers.specs.FitsAnswers.{trace_says}
use Rattle.convoy_text_answers.specs.KindAnswers.{KindTableSays, WorstKindSays}
use Rattle.convoy_text_answers.specs.LinkAnswers.{TraceRangesSay, TraceTableSays, beside_says}
use Rattle.convoy_tables.specs.declared.format.Format.{Format}
use Rattle.convoy_task_list.specs.Outages.{outage_by}
use Rattle.convoy_task_list.specs.declared.of_certificates.CertificateTask.{CertificateTask}
use Rattle.convoy_task_list.specs.declared.of_certificates.CertificateTask.TheVariants as certificates
use Rattle.convoy_task_list.specs.declared.of_kinds.KindsTask.{KindsTask}
use Rattle.convoy_task_list.specs.declared.of_kinds.KindsTask.TheVariants as kinds
use Rattle.convoy_task_list.specs.declared.of_plans.PlanTask.{PlanTask}
use Rattle.convoy_task_list.specs.declared.of_plans.PlanTask.TheVariants as plans
use Rattle.convoy_task_list.specs.declared.of_scenarios.ScenarioTask.{ScenarioTask}
use Rattle.convoy_task_list.specs.declared.of_scenarios.ScenarioTask.TheVariants as scenarios
use Rattle.convoy_task_list.specs.declared.of_traces.TraceTask.{TraceTask}
use Rattle.convoy_task_list.specs.declared.of_traces.TraceTask.TheVariants as traces
use Rattle.convoy_task_list.specs.declared.searches.SearchTask.{SearchTask}
use Rattle.convoy_task_list.specs.declared.searches.SearchTask.TheVariants as searches
use Rattle.convoy_task_list.specs.declared.task.Task.{Task}
use Rattle.convoy_task_list.specs.declared.task.Task.TheVariants.{Tell, Scenario as OfScenario, Ceilings, Search, BatchTable, Plan, Certificate as OfCertificate, Kinds, Trace, Ranges}
use Rattle.convoy_tasks.specs.ScenarioTexts.{ScenarioTextSays}

-- a late run is told where the scenario of a workflow is asked for
abbrev pub tells_late_run : Telling → List ℕ → Bool
tells_late_run tellings.Simulate text = false
tells_late_run tellings.Timeline text = false
tells_late_run tellings.Packets text = false
tells_late_run tellings.Toml text = is_workflow_text text

-- such a run, or what is told of a scenario or of a certificate
abbrev pub telling_says : Bool → Telling → Rule
telling_says true telling = LateRunSays as_written
telling_says false telling = TellSays telling

-- the one or the other, as the text is
abbrev pub telling_by : Telling → Rule
telling_by telling text = telling_says (tells_late_run telling text) telling text

-- the text of which that is told: of a certificate of a workflow the certificate in it; of one of finishes, too, but for what tells of deliveries, since it has another run in it
abbrev pub text_told : Telling → List ℕ → List ℕ
text_told tellings.Simulate text = told_text text
text_told tellings.Timeline text = told_text text
text_told tellings.Packets text = scenario_text text
text_told tellings.Toml text = scenario_text text

-- what is told of that
abbrev pub told_by : Telling → Rule
told_by telling text = telling_by telling (text_told telling text)

-- the outages that are asked for: those of the option where it is given, or else those that the text tells, if it does
abbrev pub outage_told : Option Outage → List ℕ → Option Outage
outage_told (Some outage) text = Some outage
outage_told None text = option_map outage_by (outage_of_text text)

-- the ceiling, with that through these outages where there are such
abbrev pub ceiling_by : Option Outage → Asked → Option TimeUnit → Rule
ceiling_by outage asked unit text = CeilingSays (outage_told outage text) asked unit text

-- the ceilings of all targets, or of those at one group, likewise
abbrev pub ceilings_by : Format → Option Outage → Asked → Option TimeUnit → Option (List ℕ) → Rule
ceilings_by format outage asked unit group text = CeilingsSay format (outage_told outage text) asked unit group text

-- what a scenario answers without a search
abbrev pub scenario_says : ScenarioTask → Asked → Rule
scenario_says scenarios.First asked = FirstSays asked
scenario_says scenarios.Text asked = ScenarioTextSays asked
scenario_says (scenarios.Ceiling simulations outage unit) asked = ceiling_by outage asked unit

-- a certificate of the greatest latency of a scenario, whose groups are replicated by white box or not
abbrev pub scenario_proof_says : Bool → Asked → Settings → Rule
scenario_proof_says true asked settings = FinishProofSays asked settings
scenario_proof_says false asked settings = AnalyseSays asked settings

-- the one or the other, as the text is
abbrev pub scenario_proof_by : Asked → Settings → Rule
scenario_proof_by asked settings text = scenario_proof_says (accepts_by_text text) asked settings text

-- a certificate of the greatest time of a workflow, or of the greatest latency of a scenario
abbrev pub proof_says : Bool → Asked → Settings → Rule
proof_says true asked settings = WorkflowProofSays asked settings
proof_says false asked settings = scenario_proof_by asked settings

-- the one, where the text is that of a workflow, and else the other
abbrev pub analyse_by : Asked → Settings → Rule
analyse_by asked settings text = proof_says (is_workflow_text text) asked settings text

-- the greatest latency with the ceiling below it, and with what none is above through outages where these are asked for
abbrev pub latency_ceiled_by : Option Outage → Asked → Settings → Rule
latency_ceiled_by None asked settings = latency_says true asked settings
latency_ceiled_by (Some outage) asked settings = latency_through_says true outage asked settings

-- what keeps the target back where these outages are asked for
abbrev pub late_through : Option Outage → Late
late_through None = lates.Nothing
late_through (Some outage) = lates.Outages outage

-- what does by the text alone: the answers of replicas where its groups are replicated by white box, and else the outages that it tells, if it does
abbrev pub late_of_text : List ℕ → Late
late_of_text text = if accepts_by_text text then lates.Answers None else late_through (outage_told None text)

-- what does by an option, or else by the text
abbrev pub late_by : Option WrittenTime → Option Outage → List ℕ → Late
late_by (Some span) outage text = lates.Answers (Some span)
late_by None (Some outage) text = lates.Outages outage
late_by None None text = late_of_text text

-- the greatest latency of a workflow, or in all cases of a scenario text
abbrev pub greatest_says : Bool → Asked → Settings → Rule
greatest_says true asked settings = workflow_latency_says asked settings
greatest_says false asked settings = latency_of_cases_says lates.Nothing asked settings

-- the one or the other, as the text is
abbrev pub greatest_by : Asked → Settings → Rule
greatest_by asked settings text = greatest_says (is_workflow_text text) asked settings text

-- the same with what keeps the target back, where something does: then the text is that of no workflow
abbrev pub latency_late_by : Late → Asked → Settings → Rule
latency_late_by lates.Nothing asked settings = greatest_by asked settings
latency_late_by (lates.Outages outage) asked settings = latency_of_cases_says (lates.Outages outage) asked settings
latency_late_by (lates.Answers span) asked settings = latency_of_cases_says (lates.Answers span) asked settings

-- the greatest latency with what the option or the text tells that keeps the target back; or where the ceiling is asked for as well, of which no case and no replica knows, that of one scenario
abbrev pub latency_by : Option WrittenTime → Option Outage → Bool → Asked → Settings → Rule
latency_by accept outage false asked settings text = latency_late_by (late_by accept outage text) asked settings text
latency_by accept outage true asked settings text = latency_ceiled_by (outage_told outage text) asked settings text

-- the greatest latencies of all targets, in several cases, or in the only one
abbrev pub survey_says : Bool → Format → Bool → Asked → Settings → Rule
survey_says true format with_ceilings asked settings = survey_of_cases_says format with_ceilings asked settings
survey_says false format with_ceilings asked settings = SurveySays format with_ceilings (case_asked asked 0) settings

-- the one, where several may send a message of the text, and else the other
abbrev pub survey_plain_by : Format → Bool → Asked → Settings → Rule
survey_plain_by format with_ceilings asked settings text = survey_says (nat_le 2 (cases_of_text text)) format with_ceilings asked settings text

-- the greatest latencies of all targets, with what none is above through outages where these are asked for
abbrev pub survey_through_by : Option Outage → Format → Bool → Asked → Settings → Rule
survey_through_by None format with_ceilings asked settings = survey_plain_by format with_ceilings asked settings
survey_through_by (Some outage) format with_ceilings asked settings = SurveyThroughSays format with_ceilings outage asked settings

-- the same of the outages that the option or the text tells
abbrev pub survey_by : Option Outage → Format → Bool → Asked → Settings → Rule
survey_by outage format with_ceilings asked settings text = survey_through_by (outage_told outage text) format with_ceilings asked settings text

-- what is found in it by searches with these settings
abbrev pub search_says : SearchTask → Asked → Settings → Rule
search_says searches.Analyse asked settings = analyse_by asked settings
search_says (searches.Latency with_ceiling outage accept) asked settings = latency_by accept outage with_ceiling asked settings
search_says (searches.Survey format with_ceilings outage) asked settings = survey_by outage format with_ceilings asked settings
search_says (searches.WhatIf format shows_all) asked settings = WhatIfSays format shows_all asked settings
search_says searches.Report asked settings = ReportSays asked settings
search_says (searches.Budget format of_all of_ceiling) asked settings = BudgetSays format of_all of_ceiling asked settings
search_says (searches.Order format wanted with_reasons) asked settings = OrderSays format wanted with_reasons asked settings
search_says (searches.Listing wanted) asked settings = ListingSays wanted asked settings
search_says (searches.Sweep format sweep envelope) asked settings = SweepTold format sweep envelope asked settings
search_says (searches.Curve setting envelope) asked settings = CurveTold setting envelope asked settings

-- what a plan answers for the targets that are wanted
abbrev pub plan_says : PlanTask → Wanted → Asked → Rule
plan_says (plans.Table format with_reasons first options) wanted asked = PlanSays format wanted with_reasons first asked options
plan_says (plans.Scenario first options) wanted asked = PlacingSays wanted first asked options
plan_says (plans.Proof options) wanted asked = PlanProofSays wanted asked
plan_says (plans.Ceiling format unit) wanted asked = PlanCeilingSays format wanted asked unit
plan_says plans.CeilingScenario wanted asked = CeilingPlacingSays wanted asked
plan_says plans.Check wanted asked = PlanCheckSays wanted asked

-- whether the certificate of a scenario is of that: of a workflow none is, and of groups that are replicated by white box none
abbrev pub check_against : Reference → Bool → Option TimeUnit → Rule
check_against (references.Scenario scenario) tells unit = check_says (Some scenario) tells unit
check_against (references.Accepted accepted) tells unit = CheckOfOtherSays parts.Groups
check_against (references.Workflow workflow) tells unit = CheckOfOtherSays parts.Multicasts

-- whether it is of what is wanted, if something is
abbrev pub check_by : Option Reference → Bool → Option TimeUnit → Rule
check_by None tells unit = check_says None tells unit
check_by (Some reference) tells unit = check_against reference tells unit

-- what the certificate of a scenario answers, which has to be of what is wanted, if something is
abbrev pub of_scenario_says : CertificateTask → Option Reference → Option TimeUnit → Option ℕ → Rule
of_scenario_says (certificates.Check tells) wanted unit limit = SaysWithin limit NotChecked (check_by wanted tells unit)
of_scenario_says (certificates.Explain with_ceiling) wanted unit limit = SaysWithin limit NotChecked (explain_says with_ceiling unit)
of_scenario_says certificates.Draw wanted unit limit = SaysWithin limit NotChecked (AskSays (askings.Draw unit))

-- what the certificate of a workflow answers, which has to be of what is wanted, if something is: it has no ceiling, and is checked whatever steps that takes
abbrev pub of_workflow_says : CertificateTask → Option Reference → Option TimeUnit → Rule
of_workflow_says (certificates.Check tells) wanted unit = CheckWorkflowSays wanted tells unit
of_workflow_says (certificates.Explain with_ceiling) wanted unit = AskWorkflowSays (askings.Explain unit)
of_workflow_says certificates.Draw wanted unit = AskWorkflowSays (askings.Draw unit)

-- what the certificate of finishes answers, likewise: no image is drawn of it, and so it is refused there as that of no scenario
abbrev pub of_finish_says : CertificateTask → Option Reference → Option TimeUnit → Option ℕ → Rule
of_finish_says (certificates.Check tells) wanted unit limit = CheckFinishSays wanted tells unit
of_finish_says (certificates.Explain with_ceiling) wanted unit limit = ExplainFinishSays unit
of_finish_says certificates.Draw wanted unit limit = SaysWithin limit NotChecked (AskSays (askings.Draw unit))

-- what one answers that is of no workflow: of finishes, or of a scenario
abbrev pub other_says : Bool → CertificateTask → Option Reference → Option TimeUnit → Option ℕ → Rule
other_says true what wanted unit limit = of_finish_says what wanted unit limit
other_says false what wanted unit limit = of_scenario_says what wanted unit limit

-- the one, where the text begins as one of finishes, and else the other
abbrev pub of_others_says : CertificateTask → Option Reference → Option TimeUnit → Option ℕ → Rule
of_others_says what wanted unit limit text = other_says (is_finish_certificate text) what wanted unit limit text

-- what a certificate answers, of a workflow or another one
abbrev pub form_says : Bool → CertificateTask → Option Reference → Option TimeUnit → Option ℕ → Rule
form_says true what wanted unit limit = of_workflow_says what wanted unit
form_says false what wanted unit limit = of_others_says what wanted unit limit

-- the one, where the text begins as one of a workflow, and else the other
abbrev pub certificate_says : CertificateTask → Option Reference → Option TimeUnit → Option ℕ → Rule
certificate_says what wanted unit limit text = form_says (is_workflow_certificate text) what wanted unit limit text

-- what kinds of messages answer
abbrev pub kinds_say : KindsTask → Option TimeUnit → Rule
kinds_say (kinds.Table format) unit = KindTableSays format unit
kinds_say (kinds.Worst simulations) unit = WorstKindSays unit

-- what a trace answers, of a run of the scenario that is wanted
abbrev pub trace_of_says : TraceTask → Option Scenario → Rule
trace_of_says (traces.Fits skew unit) wanted = trace_says wanted skew unit
trace_of_says (traces.Ranges rules unit) wanted = TraceRangesSay rules unit
trace_of_says (traces.Table format unit) wanted = TraceTableSays format unit
trace_of_says (traces.Beside format unit) wanted = beside_says wanted format unit

-- the scenario that is wanted, if one is
abbrev pub scenario_wanted : Option Reference → Option Scenario
scenario_wanted (Some (references.Scenario scenario)) = Some scenario
scenario_wanted other = None

-- what a trace answers of that
abbrev pub trace_task_says : TraceTask → Option Reference → Rule
trace_task_says what wanted = trace_of_says what (scenario_wanted wanted)

-- THE RULE OF A TASK: what may be answered for a text. What is wanted, if something is, is that of which a certificate has to be, or a scenario of a run of which a trace has to be; no other task looks at it.
abbrev pub task_says : Task → Option Reference → Rule
task_says (Tell telling) wanted = told_by telling
task_says (OfScenario asked what) wanted = scenario_says what asked
task_says (Ceilings format group simulations outage asked unit) wanted = ceilings_by format outage asked unit (option_map string_bytes group)
task_says (Search asked options what) wanted = search_says what asked options
task_says (BatchTable format asked options tells_status) wanted = BatchTableSays format asked options
task_says (Plan targets asked what) wanted = plan_says what targets asked
task_says (OfCertificate unit limit what) wanted = certificate_says what wanted unit limit
task_says (Kinds unit what) wanted = kinds_say what unit
task_says (Trace what) wanted = trace_task_says what wanted
task_says (Ranges rules) wanted = RangesSay rules

-- how long a plan may be, in bytes: as long as a job, or as a certificate where one stands below it
abbrev pub longest_for_plan : PlanTask → ℕ
longest_for_plan plans.Check = LONGEST_CERTIFICATE
longest_for_plan other = LONGEST_JOB

-- HOW LONG ITS TEXT MAY BE, in bytes: as long as a certificate's where it may be one or is a trace, and as long as a job's else
abbrev pub longest_for : Task → ℕ
longest_for (Tell telling) = LONGEST_CERTIFICATE
longest_for (OfScenario asked what) = LONGEST_JOB
longest_for (Ceilings format group simulations outage asked unit) = LONGEST_JOB
longest_for (Search asked options what) = LONGEST_JOB
longest_for (BatchTable format asked options tells_status) = LONGEST_BATCH
longest_for (Plan targets asked what) = longest_for_plan what
longest_for (OfCertificate unit limit what) = LONGEST_CERTIFICATE
longest_for (Kinds unit what) = LONGEST_JOB
longest_for (Trace what) = LONGEST_CERTIFICATE
longest_for (Ranges rules) = MOST_BYTES

-- the task is told at once of a scenario or of a certificate, without a search and without rows that are made several at a time
abbrev pub IsToldAtOnce : Task → Type 0
IsToldAtOnce (Tell telling) = Unit {0}
IsToldAtOnce (OfScenario asked what) = Unit {0}
IsToldAtOnce (OfCertificate unit limit what) = Unit {0}
IsToldAtOnce other = ⊥

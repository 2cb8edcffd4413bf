-- How a report is written: as a page in HTML, piece by piece.
use Rattle.std.specs.Prelude.{ℕ, Bool, true, false, List, [], ◌++◌, codes, decimal, Option, Some, None, option_map, string_bytes}
use Rattle.std.specs.List.{flat_map}
use Rattle.convoy_scenario.specs.Scenario.{Scenario, group_name_at, message_at}
use Rattle.convoy_tables.specs.declared.format.Format.TheVariants.{Html}
use Rattle.convoy_tables.specs.Formats.{escaped, table_text}
use Rattle.convoy_commands.specs.declared.done.Done.{Done}
use Rattle.convoy_commands.specs.declared.done.Done.TheVariants.{Fine, Open, Beyond, Faulty, Refused, Differs, Departs, NotChecked}
use Rattle.convoy_commands.specs.Verdicts.{has_deadline}
use Rattle.convoy_survey.specs.Cells.{table_of}
use Rattle.convoy_survey.specs.Surveys.{end_of}
use Rattle.convoy_budget.specs.Ways.{ways_of}
use Rattle.convoy_report.specs.declared.notes.TheConstants.{AROUND_END, AROUND_START, CHANGES_NOTE, DIGEST_END, DIGEST_START, FOUND_NOTE, MESSAGES_START, PAGE_END, PAGE_START, RUN_NOTE, STYLE, SURVEY_NOTE, SYSTEM_START, WAYS_START}
use Rattle.convoy_report.specs.declared.report.Report.{Report}
use Rattle.convoy_report.specs.declared.report.Run.{Run}
use Rattle.convoy_report.specs.declared.report.Shown.{Shown}
use Rattle.convoy_report.specs.declared.report.Shown.TheVariants.{Explained, Found}
use Rattle.convoy_report.specs.Systems.{message_table, way_table}

-- a message at a group, by their names
abbrev pub title_text : Scenario → ℕ → ℕ → List ℕ
title_text scenario m g = escaped (message_at scenario m).name ++ (codes " at " ++ escaped (group_name_at scenario g))

-- the start of a page with that title
unfoldable pub start_text : List ℕ → List ℕ
start_text title =
    PAGE_START.now ++ (title ++ (codes "</title>\n<style>\n"
    ++ (STYLE.now ++ (codes "</style>\n</head>\n<body>\n<main>\n<h1>" ++ (title ++ codes "</h1>\n")))))

-- the verdict in one sentence, by whether a message has a deadline and by how the survey ended
unfoldable pub verdict_text : Bool → Done → List ℕ
verdict_text true Fine = codes "<p class=\"verdict kept\">Each deadline in the table below is kept.</p>\n"
verdict_text false Fine = codes "<p class=\"verdict\">There is no deadline. Each worst case below is exact.</p>\n"
verdict_text judged Beyond = codes "<p class=\"verdict missed\">A deadline is missed.</p>\n"
verdict_text true Open = codes "<p class=\"verdict unknown\">It is not known whether each deadline is kept: a search did not end.</p>\n"
verdict_text false Open = codes "<p class=\"verdict unknown\">There is no deadline, and a search did not end.</p>\n"
verdict_text judged other = codes "<p class=\"verdict unknown\">Memory ran out for a row of the table below.</p>\n"

-- what is said where all is asked around targets, by so long a span
abbrev pub around_text : Option ℕ → List ℕ
around_text None = []
around_text (Some span) = AROUND_START.now ++ (decimal span ++ AROUND_END.now)

-- a section with a table, below its heading and a note
unfoldable pub table_section : List ℕ → List ℕ → List ℕ → List ℕ
table_section heading note table =
    codes "<section>\n<h2>" ++ (heading ++ (codes "</h2>\n<p>" ++ (note ++ (codes "</p>\n<div class=\"wide\">\n" ++ (table ++ codes "</div>\n</section>\n")))))

-- what is shown of a run that is explained: the explanation as text, and the image as it is
unfoldable pub explained_text : List ℕ → List ℕ → List ℕ
explained_text explanation image =
    codes "<p>" ++ (RUN_NOTE.now ++ (codes "</p>\n<div class=\"wide\">\n<pre>"
    ++ (escaped explanation ++ (codes "</pre>\n</div>\n<div class=\"wide\">\n" ++ (image ++ codes "</div>\n")))))

-- what is shown of a run of which the search did not end: what it found, as text
unfoldable pub found_text : List ℕ → List ℕ
found_text found =
    codes "<p>" ++ (FOUND_NOTE.now ++ (codes "</p>\n<div class=\"wide\">\n<pre>" ++ (escaped found ++ codes "</pre>\n</div>\n")))

-- what is shown of a run
abbrev pub shown_text : Shown → List ℕ
shown_text (Explained explanation image) = explained_text explanation.items image.items
shown_text (Found found) = found_text found.items

-- the section of a run
unfoldable pub run_text : Scenario → Run → List ℕ
run_text scenario run =
    codes "<section>\n<h2>Worst case of " ++ (title_text scenario run.message run.group
    ++ (codes "</h2>\n" ++ (shown_text run.shown ++ codes "</section>\n")))

-- the section of the system: a map of it, of which nothing is promised, its messages and its ways
unfoldable pub system_text : List ℕ → List ℕ → List ℕ → List ℕ
system_text map messages ways =
    SYSTEM_START.now ++ (map ++ (MESSAGES_START.now ++ (messages
    ++ (WAYS_START.now ++ (ways ++ codes "</div>\n</section>\n")))))

-- what tells the digest, where there is one
unfoldable pub digest_text : Option (List ℕ) → List ℕ
digest_text None = codes "\n"
digest_text (Some digest) = DIGEST_START.now ++ (digest ++ (DIGEST_END.now ++ codes "\n"))

-- the end of a page: how to check it
unfoldable pub end_text : Option (List ℕ) → List ℕ
end_text digest = codes "<section>\n<h2>How to check this page</h2>\n" ++ (digest_text digest ++ (PAGE_END.now ++ codes "\n"))

-- the table of the survey, with ceilings
abbrev pub survey_of : Report → List ℕ
survey_of report = table_text Html (table_of true report.times report.deadlines.items report.scenario report.rows.items)

-- the start of the page, the verdict, what is asked around targets, and the table of the survey
abbrev pub answers_text : Report → List ℕ
answers_text report =
    start_text (title_text report.scenario report.scenario.target_message report.scenario.target_group)
    ++ (verdict_text (has_deadline report.deadlines.items) (end_of report.deadlines.items report.rows.items)
    ++ (around_text report.span ++ table_section (codes "Worst cases") SURVEY_NOTE.now (survey_of report)))

-- the section of the system, with a map of it
abbrev pub system_of : Report → List ℕ → List ℕ
system_of report map =
    system_text map
    (table_text Html (message_table report.times report.deadlines.items report.scenario))
    (table_text Html (way_table report.times report.scenario (ways_of report.scenario)))

-- the page of a report, with a map of its system
abbrev pub page_text : Report → List ℕ → List ℕ
page_text report map =
    answers_text report
    ++ (flat_map (run_text report.scenario) report.runs.items
    ++ (table_section (codes "What to change first") CHANGES_NOTE.now report.changes.items
    ++ (system_of report map ++ end_text (option_map string_bytes report.digest))))

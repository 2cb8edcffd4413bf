-- Worked cells, computed from the definitions alone.
use Rattle.std.proofs.Common.{◌≡◌, [], ◌∷◌, true, false, None, Some, Err, codes, refl}
use Rattle.std.specs.Fmt.{digits}
use Rattle.convoy_streams.specs.declared.reading.ReadFault.TheVariants.{TooLong}
use Rattle.convoy_tables.specs.Tables.{nothing, word}
use Rattle.convoy_draft.specs.declared.fault.ScenarioFault.TheVariants.{UnknownGroup}
use Rattle.convoy_commands.specs.declared.fault.Fault.TheVariants.{Reading, Scenario}
use Rattle.convoy_commands.specs.declared.limits.TheConstants.{LONGEST_JOB}
use Rattle.convoy_commands.specs.Faults.{fault_line_of}
use Rattle.convoy_times.specs.Measures.{fraction, fraction_digits}
use Rattle.convoy_outside.specs.Percents.{told_millionths}
use Rattle.convoy_batches.specs.JobTables.{column_names, found_cells, label_cell, outside_cell, tick_cell}

names : column_names false false ≡
    word (codes "job") ∷ word (codes "label") ∷ word (codes "answer") ∷ word (codes "least") ∷ word (codes "most")
    ∷ word (codes "least_time") ∷ word (codes "most_time") ∷ word (codes "unit") ∷ word (codes "tick") ∷ word (codes "rival") ∷ word (codes "tied") ∷ word (codes "nodes") ∷ []
names = refl

judged_names : column_names true false ≡
    word (codes "job") ∷ word (codes "label") ∷ word (codes "answer") ∷ word (codes "least") ∷ word (codes "most")
    ∷ word (codes "least_time") ∷ word (codes "most_time") ∷ word (codes "unit") ∷ word (codes "tick") ∷ word (codes "rival") ∷ word (codes "tied") ∷ word (codes "nodes")
    ∷ word (codes "verdict") ∷ word (codes "by") ∷ word (codes "by_time") ∷ []
judged_names = refl

sure_names : column_names false true ≡
    word (codes "job") ∷ word (codes "label") ∷ word (codes "answer") ∷ word (codes "least") ∷ word (codes "most")
    ∷ word (codes "least_time") ∷ word (codes "most_time") ∷ word (codes "unit") ∷ word (codes "tick") ∷ word (codes "rival") ∷ word (codes "tied") ∷ word (codes "nodes")
    ∷ word (codes "outside") ∷ []
sure_names = refl

no_group : found_cells false (Err (Scenario UnknownGroup)) ≡
    word (codes "fault 6 unknown group") ∷ nothing ∷ nothing ∷ nothing ∷ nothing ∷ nothing ∷ nothing ∷ nothing ∷ nothing ∷ nothing ∷ []
unfolding fault_line_of digits
no_group = refl

no_verdict : found_cells true (Err (Scenario UnknownGroup)) ≡
    word (codes "fault 6 unknown group") ∷ nothing ∷ nothing ∷ nothing ∷ nothing ∷ nothing ∷ nothing ∷ nothing ∷ nothing ∷ nothing
    ∷ nothing ∷ nothing ∷ nothing ∷ []
unfolding fault_line_of digits
no_verdict = refl

too_long : found_cells false (Err (Reading (TooLong LONGEST_JOB))) ≡
    word (codes "fault 42 job too long") ∷ nothing ∷ nothing ∷ nothing ∷ nothing ∷ nothing ∷ nothing ∷ nothing ∷ nothing ∷ nothing ∷ []
unfolding fault_line_of digits
too_long = refl

ticks : tick_cell (Some 50000) ≡ word (codes "50 us")
unfolding digits
ticks = refl

percent : outside_cell (Some 13000000) ≡ word (codes "1.3 %")
unfolding told_millionths fraction fraction_digits digits
percent = refl

no_percent : outside_cell None ≡ nothing
no_percent = refl

no_label : label_cell [] ≡ nothing
no_label = refl

-- What a batch writes as a table.
use Rattle.std.specs.Prelude.{◌≡◌, ℕ, ◌<◌, ◌≤◌, List, length, Ok, Err}
use Rattle.std.specs.List.{fold}
use Rattle.convoy_streams.specs.Jobs.{jobs_of}
use Rattle.convoy_toml.specs.declared.asked.Asked.{Asked}
use Rattle.convoy_branch.specs.Options.{Settings}
use Rattle.convoy_tables.specs.declared.format.Format.{Format}
use Rattle.convoy_tables.specs.Formats.{table_text}
use Rattle.convoy_commands.specs.declared.fault.Fault.TheVariants.{TooManyJobs}
use Rattle.convoy_commands.specs.declared.done.Done.{Done}
use Rattle.convoy_commands.specs.declared.done.Done.TheVariants.{Fine}
use Rattle.convoy_commands.specs.Replies.{Rule}
use Rattle.convoy_commands.specs.Ends.{worse}
use Rattle.convoy_batches.specs.declared.limits.TheConstants.{MOST_JOBS}
use Rattle.convoy_batches.specs.declared.job_row.JobRow.{JobRow}
use Rattle.convoy_batches.specs.JobRows.{AreJobRows, end_of_row}
use Rattle.convoy_batches.specs.JobTables.{table_of}

-- how a batch with these rows ends: as the worst of them
abbrev pub end_of_rows : List JobRow → Done
end_of_rows rows = fold (λ end row. worse end (end_of_row row)) Fine rows

-- THE HEADLINE. What is written is the table of a row for each job of the text, where that is asked of each, in this format, and the end is told by the rows.
pub record IsBatchTable (format : Format) (asked : Asked) (settings : Settings) (text : List ℕ) (end : Done) (out : List ℕ) : Type 0 where
  pub rows : List JobRow
  pub found : AreJobRows asked settings (jobs_of text) rows
  pub few : length (jobs_of text) ≤ MOST_JOBS
  pub written : out ≡ table_text format (table_of rows)
  pub ends : end ≡ end_of_rows rows

-- what a batch may answer for a text as a table: a fault just where it has more jobs than a batch may have
abbrev pub BatchTableSays : Format → Asked → Settings → Rule
BatchTableSays format asked settings text (Ok (end, out)) = IsBatchTable format asked settings text end out
BatchTableSays format asked settings text (Err fault) = (fault ≡ TooManyJobs) × (MOST_JOBS < length (jobs_of text))

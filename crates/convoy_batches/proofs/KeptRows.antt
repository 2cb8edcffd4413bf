-- Rows of jobs that were kept.
use Rattle.std.proofs.Common.{◌≡◌, List, [], ◌∷◌, Vec, Result, Ok, Err, IfOk, MatchResult, map, subst}
use Rattle.std.specs.List.{AllZip, Contains}
use Rattle.std.specs.declared.alloc.AllocError.{AllocError}
use Rattle.std.specs.declared.alloc.Global.{Global}
use Rattle.convoy_streams.specs.Jobs.{Job}
use Rattle.convoy_toml.specs.declared.asked.Asked.{Asked}
use Rattle.convoy_branch.specs.Options.{Settings}
use Rattle.convoy_rows.proofs.OfKeys.{all_zip_values}
use Rattle.convoy_batches.specs.declared.job_row.JobRow.{JobRow}
use Rattle.convoy_batches.specs.declared.kept_jobs.KeptJob.{KeptJob}
use Rattle.convoy_batches.specs.JobRows.{AreJobRows, MayBeRow}
use Rattle.convoy_batches.specs.KeptJobs.{AreKeptJobs}

module _ (asked : Asked) (settings : Settings) where
  -- rows of what was kept of jobs are rows of the jobs
  of_jobs : (jobs : List Job) (kept : List KeptJob) (rows : List JobRow) → AreKeptJobs jobs kept → AllZip (λ k row. MayBeRow asked settings k (Ok row)) kept rows
      → AreJobRows asked settings jobs rows
  of_jobs [] [] [] are may = tt
  of_jobs [] [] (row ∷ rows) are may = absurd may
  of_jobs [] (k ∷ kept) rows are may = absurd are
  of_jobs (job ∷ jobs) [] rows are may = absurd are
  of_jobs (job ∷ jobs) (k ∷ kept) [] are may = absurd may
  of_jobs (job ∷ jobs) (k ∷ kept) (row ∷ rows) are may = (may.0 job are.0, of_jobs jobs kept rows are.1 may.1)

  -- and so where a row came of each
  pub rows_of_jobs : (jobs : List Job) (kept : List KeptJob) (rows : List JobRow) → AreKeptJobs jobs kept → AllZip (MayBeRow asked settings) kept (map Ok rows)
      → AreJobRows asked settings jobs rows
  rows_of_jobs jobs kept rows are may = of_jobs jobs kept rows are (all_zip_values (MayBeRow asked settings) kept rows may)

  -- where one result has all rows, or that memory ran out
  pub all_found : (jobs : List Job) (kept : List KeptJob) (rows : List (Result JobRow AllocError)) (all : Result (Vec JobRow Global) AllocError) →
      AreKeptJobs jobs kept → AllZip (MayBeRow asked settings) kept rows →
      MatchResult all (λ (values : Vec JobRow Global). rows ≡ map Ok values.items) (λ error. Contains rows (Err error)) →
      IfOk all (λ (values : Vec JobRow Global). AreJobRows asked settings jobs values.items)
  all_found jobs kept rows (Ok values) are may is =
      rows_of_jobs jobs kept values.items are (subst (λ (rs : List (Result JobRow AllocError)). AllZip (MayBeRow asked settings) kept rs) is may)
  all_found jobs kept rows (Err error) are may has = tt

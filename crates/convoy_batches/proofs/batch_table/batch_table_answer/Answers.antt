use Rattle.std.proofs.Common.{List, inl, arith, ap, ◌∙◌}
use Rattle.convoy_tables.specs.Formats.{table_text}
use Rattle.convoy_batches.specs.declared.job_row.JobRow.{JobRow}
use Rattle.convoy_batches.specs.BatchTables.{end_of_rows}
use Rattle.convoy_batches.specs.JobTables.{table_of}
use Rattle.convoy_batches.proofs.Labels.{labels_are_texts}
use Rattle.convoy_batches.proofs.batch_table.batch_table_answer.Goals as goal

pub text_of-requires : goal.text_of-requires
text_of-requires g c = record { labels = rw c.deref.ensures.value (labels_are_texts c.args.asked.now c.args.options.now c.args.text.now c.in_ok-rows.rows.items c.in_ok-rows.ensures) }

pub returns : goal.returns
returns g c =
    inl (record {
      rows = c.in_ok-rows.rows.items;
      found = c.in_ok-rows.ensures;
      few = omega (arith, c.count_jobs.ensures, c.if-count_jobs.false);
      written = c.in_ok-table.ensures ∙ ap (λ (rows : List JobRow). table_text c.args.format (table_of rows)) c.deref.ensures.value;
      ends = c.end_of_rows.ensures ∙ ap end_of_rows c.deref-2.ensures.value;
    })

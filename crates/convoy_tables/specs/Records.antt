-- What is known of a writer of records between two of them.
use Rattle.std.specs.Prelude.{◌≡◌, ℕ, true, false, List, ◌++◌, Vec}
use Rattle.std.specs.Global.{Global}
use Rattle.csv.specs.declared.writer.Writer.{Writer}
use Rattle.csv.specs.Writing.{default_writer, fields_written, has_written, with_flexible, writer_pending, writer_setup, writer_under}

-- all the bytes that it wrote
abbrev pub written : Writer (Vec ℕ Global) → List ℕ
written writer = (writer_under writer).items ++ writer_pending writer

-- no part of a record is written yet, and records may differ in length
pub record IsBetween (writer : Writer (Vec ℕ Global)) : Type 0 where
  pub fields : fields_written writer ≡ 0
  pub none : has_written writer ≡ false
  pub setup : writer_setup writer ≡ with_flexible default_writer true

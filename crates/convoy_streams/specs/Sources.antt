-- Sources that read inputs.
use Rattle.std.specs.Prelude.{ℕ, List, Option, Result}
use Rattle.std.specs.declared.io.Error.{Error}
use Rattle.convoy_streams.specs.Devices.{Answer}
use Rattle.convoy_streams.specs.Streams.{StreamReads}
use Rattle.convoy_streams.specs.declared.stream.StreamSource.{StreamSource}
use Rattle.convoy_streams.specs.Inputs.{IsInput, left_of}
use Rattle.convoy_streams.specs.declared.input.InputReader.{InputReader}
use Rattle.convoy_streams.specs.declared.kept.KeptReader.{KeptReader}

-- a source that reads an input, and keeps the first bytes
abbrev pub InputSource : Type 0 → Type 0
InputSource F = StreamSource (KeptReader (InputReader F))

-- the source reads the input of that name, or standard input where there is none
abbrev pub IsSource : {F : Type 0} → (List ℕ → Result F Error → Type 0) → Option (List ℕ) → InputSource F → Type 0
IsSource opens name source = IsInput opens name source.reader.reader

-- what one read of such a source may do
abbrev pub InputReads : {F : Type 0} → (F → Option (List ℕ)) → InputSource F → Answer → InputSource F → Type 0
InputReads left_in old answer new = StreamReads (left_of left_in old.reader.reader) answer (left_of left_in new.reader.reader)

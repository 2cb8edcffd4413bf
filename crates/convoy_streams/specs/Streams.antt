-- What the streams of the standard library do, where their bytes are known. Of a file, a pipe or a
-- terminal none are, and any answer may come.
use Rattle.std.specs.Prelude.{◌≡◌, ℕ, List, [], Option}
use Rattle.std.specs.Io.KnownBytes.{Appends, Consumes, IsAtEnd, Keeps}
use Rattle.convoy_streams.specs.Devices.{Answer, Moved, Failed}

-- A read takes its bytes from the front of those that are left, and gives none only at the end.
abbrev pub StreamReads : Option (List ℕ) → Answer → Option (List ℕ) → Type 0
StreamReads old (Moved bytes) new = Consumes old new bytes × (bytes ≡ [] → IsAtEnd new)
StreamReads old Failed new = Keeps old new

-- A write adds its bytes to those that the stream holds.
abbrev pub StreamWrites : Option (List ℕ) → Answer → Option (List ℕ) → Type 0
StreamWrites old (Moved bytes) new = Appends old new bytes
StreamWrites old Failed new = Keeps old new

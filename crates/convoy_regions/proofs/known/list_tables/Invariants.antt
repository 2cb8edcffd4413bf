use Rattle.std.proofs.Common.{◌≡◌, length, take}
use Rattle.convoy_regions.specs.Known.{SayAll}
use Rattle.convoy_regions.proofs.known.list_tables.Given as goal

abbrev pub invariant-loop-pair : goal.invariant-loop-pair
invariant-loop-pair l = record {
  long : length l.tables ≡ 8;
  said : SayAll (take l.pair-index l.before) l.tables;
}

use Rattle.std.proofs.Common.{rules, Ok, Err, inl, refl}
use Rattle.convoy_what_if.proofs.Tries.{told_by}
use Rattle.convoy_what_if.proofs.trying.try_change.Goals as goal

pub returns-in_ok-row_of-in-Ok : goal.returns-in_ok-row_of-in-Ok
returns-in_ok-row_of-in-Ok g c =
    told_by (goal.F-post g c.args.search.now) c.args.change c.args.watch _ (Ok c.in-Ok.searched) c.in-Ok.ensures
    c.in_ok-row_of-in-Ok.ensures.change c.in_ok-row_of-in-Ok.ensures.told

pub returns-in-Err-Memory : goal.returns-in-Err-Memory
returns-in-Err-Memory g c =
    told_by (goal.F-post g c.args.search.now) c.args.change c.args.watch _ (Err c.in-Err-Memory.field-0) c.in-Err-Memory.ensures
    c.row_without.ensures.change (c.in-Err-Memory.field-0-is, c.row_without.ensures.told)

pub returns-in-Err : goal.returns-in-Err
returns-in-Err g c =
    inl (record { cause = c.in-Err.cause; answered = record { watch = c.args.watch; answered = c.in-Err.ensures }; no_memory = search rules; told = refl })

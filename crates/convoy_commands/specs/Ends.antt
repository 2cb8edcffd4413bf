-- How searches ended of which there are several.
use Rattle.std.specs.Prelude.{Bool, if◌then◌else◌}
use Rattle.convoy_commands.specs.declared.done.Done.{Done}
use Rattle.convoy_commands.specs.declared.done.Done.TheVariants.{Fine, Open, Beyond, Faulty}

-- how they ended, by whether one is beyond its deadline, whether one has a fault, and whether one is open: the first of these comes first
abbrev pub end_by : Bool → Bool → Bool → Done
end_by any_beyond any_fault any_open =
    if any_beyond then Beyond
    else if any_fault then Faulty
    else if any_open then Open
    else Fine

-- the worse end of two of them
abbrev pub worse : Done → Done → Done
worse Beyond end = Beyond
worse Faulty Beyond = Beyond
worse Faulty end = Faulty
worse Open Beyond = Beyond
worse Open Faulty = Faulty
worse Open end = Open
worse other end = end

-- How a search runs.
use Rattle.std.specs.Prelude.{ℕ, ◌≤◌, None}
use Rattle.std.specs.Option.{is_some}
use Rattle.convoy_certificate.specs.declared.certificate.TheConstants.{MOST_NODES}
use Rattle.convoy_branch.specs.declared.bounds.Bounds.{Bounds}
use Rattle.convoy_branch.specs.declared.bounds.Bounds.TheVariants.{Plain}
use Rattle.convoy_branch.specs.SearchBounds.{most_nodes}
use Rattle.convoy_shares.specs.declared.shares.TheConstants.{MOST_WORKERS}
use Rattle.convoy_branch.specs.declared.limit.Limit.{Limit}
use Rattle.convoy_branch.specs.declared.options.TheConstants.{MOST_SIMULATIONS}
use Rattle.convoy_branch.specs.declared.options.Settings as options
use Rattle.convoy_branch.specs.declared.options.Ways.{Ways}
use Rattle.convoy_branch.specs.declared.splits.Splits.TheVariants.{Orders}
use Rattle.convoy_branch.specs.declared.options.Ways.TheVariants.{One, Both}

-- the highest limit of tickets: by one kind of bounds as many as nodes of its certificate can be read in any case; both ways any number of nodes that can be read, since few of the tickets are for leads
abbrev pub highest_limit : Ways → ℕ
highest_limit (One bounds) = most_nodes bounds
highest_limit Both = MOST_NODES

-- by what a search begins
abbrev pub first_bounds : Ways → Bounds
first_bounds (One bounds) = bounds
first_bounds Both = Plain

-- how many workers there are, how many tickets they spend at most, how many schedules are simulated before at most, how many reads of the input are made at most, and by which bounds of boxes, or by leads, the search goes, or both ways; after how many seconds it stops, if it is to; and in which unit times are told, where one is asked for
abbrev pub Settings : Type 0
Settings = options.Settings

-- those of a search both ways that starts from the least delays, and that nothing stops
abbrev pub both_ways_settings : ℕ → ℕ → ℕ → Settings
both_ways_settings workers limit most_reads = record {
  workers = workers;
  limit = limit;
  simulations = 0;
  most_reads = most_reads;
  ways = Both;
  seconds = None;
  unit = None;
}

-- how far a search with these settings goes: it may be stopped where there are seconds to stop it after
abbrev pub limit_of : Settings → Limit
limit_of settings = record { tickets = settings.limit; may_stop = is_some settings.seconds; splits = Orders }

-- there is a worker and a ticket, and no more of them, and of simulations, than may be
pub record AreSettings (settings : Settings) : Type 0 where
  pub some_worker : 1 ≤ settings.workers
  pub few_workers : settings.workers ≤ MOST_WORKERS
  pub some_ticket : 1 ≤ settings.limit
  pub few_tickets : settings.limit ≤ highest_limit settings.ways
  pub few_simulations : settings.simulations ≤ MOST_SIMULATIONS

-- Words of the program's own parts: what comes before what at each group, as tables.
use Rattle.std.specs.Prelude.{◌≡◌, ℕ, ◌+◌, ◌*◌, ◌<◌, Bool, false, List, [], All, slice_index_or}
use Rattle.std.specs.List.{fold}
use Rattle.convoy_draft.specs.declared.limits.TheConstants.{MOST_GROUPS, MOST_MULTICASTS}
use Rattle.convoy_sim.specs.declared.moment.MomentKind.{MomentKind}
use Rattle.convoy_sim.specs.declared.moment.MomentKind.TheVariants.{Arrival, Commit}
use Rattle.convoy_regions.specs.declared.stage.Stage.{Stage}
use Rattle.convoy_regions.specs.declared.known.Row.{Row}
use Rattle.convoy_regions.specs.declared.known.Table.{Table}
use Rattle.convoy_regions.specs.Stages.{Precedence, is_own, of_group, with_precedence}

-- the row of a stage: twice the number of its message, and one more for a commit
abbrev pub row_by : MomentKind → ℕ → ℕ
row_by Arrival m = 2 * m
row_by Commit m = 2 * m + 1

abbrev pub row_of : Stage → ℕ
row_of stage = row_by stage.kind stage.message

-- a stage within the limits
pub record IsLow (stage : Stage) : Type 0 where
  pub message : stage.message < MOST_MULTICASTS
  pub group : stage.group < MOST_GROUPS

-- the stages of a precedence are within the limits, and of one group
pub record IsLowPair (pair : Precedence) : Type 0 where
  pub first : IsLow pair.0
  pub second : IsLow pair.1
  pub one_group : pair.0.group ≡ pair.1.group

abbrev pub AreLow : List Precedence → Type 0
AreLow before = All IsLowPair before

-- what a row has in that column, and a table in that row and column
abbrev pub cell : Row → ℕ → Bool
cell row column = slice_index_or row.cells column false

abbrev pub no_row : Row
no_row = record { cells = [] }

abbrev pub entry : Table → ℕ → ℕ → Bool
entry table row column = cell (slice_index_or table.rows row no_row) column

-- the table has of the stages of group g what `known` says of them, by their rows
abbrev pub Says : ℕ → (Stage → Stage → Bool) → Table → Type 0
Says g known table =
    (a b : Stage) → IsLow a → IsLow b → a.group ≡ g → b.group ≡ g → entry table (row_of a) (row_of b) ≡ known a b

-- what comes before what at group g by some precedences
abbrev pub known_at : ℕ → List Precedence → Stage → Stage → Bool
known_at g before = fold with_precedence is_own (of_group g before)

-- there is a table for each group, of what comes before what there
abbrev pub no_table : Table
no_table = record { rows = [] }

abbrev pub SayAll : List Precedence → List Table → Type 0
SayAll before tables = (g : ℕ) → g < MOST_GROUPS → Says g (known_at g before) (slice_index_or tables g no_table)

use Rattle.std.proofs.Common.{◌≡◌, ◌<◌, ◌≤◌, List, [], ◌∷◌, length, Option, Some, None, option_and_then, arith, ap, ◌∙◌}
use Rattle.toml.specs.Data.{Data, Items, as_array}
use Rattle.toml.specs.View.{items_view, view}
use Rattle.toml.specs.declared.value.Value.{Value}
use Rattle.convoy_draft.specs.declared.time.Time.{Time}
use Rattle.convoy_toml.specs.Shape.{as_range, range_in}
use Rattle.convoy_toml.proofs.group_tables.range_told.Goals as goal

-- an array of one value is no range
of_one : (time : Time) (value : Data) (items : List Value) → ◌≡◌ {A = Option Items} (Some (items_view items)) (as_array value) → 1 ≤ length items → length items < 2 → None ≡ as_range time value
of_one time value [] e low high = absurd (omega arith)
of_one time value (a ∷ []) e low high = ap (option_and_then (range_in time)) e
of_one time value (a ∷ b ∷ items) e low high = absurd (omega arith)

-- nor is one of more than two
of_many : (time : Time) (value : Data) (items : List Value) → ◌≡◌ {A = Option Items} (Some (items_view items)) (as_array value) → 3 ≤ length items → None ≡ as_range time value
of_many time value [] e low = absurd (omega arith)
of_many time value (a ∷ []) e low = absurd (omega arith)
of_many time value (a ∷ b ∷ []) e low = absurd (omega arith)
of_many time value (a ∷ b ∷ c ∷ items) e low = ap (option_and_then (range_in time)) e

pub returns-in-len1 : goal.returns-in-len1
returns-in-len1 c =
    of_one c.args.time (view c.args.value.now) c.as_slice.result.now (ap (λ (items : List Value). Some (items_view items)) c.as_slice.ensures.value ∙ c.in_ok-as_array.ensures)
    c.in-len1.len_at_least c.in-len1.len_below

pub returns-in-len3-up : goal.returns-in-len3-up
returns-in-len3-up c =
    of_many c.args.time (view c.args.value.now) c.as_slice.result.now (ap (λ (items : List Value). Some (items_view items)) c.as_slice.ensures.value ∙ c.in_ok-as_array.ensures)
    c.in-len3-up.len_at_least

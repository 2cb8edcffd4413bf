-- How far the program looks at nodes, where it may take no more steps than a limit.
use Rattle.std.specs.Prelude.{ℕ, ◌-◌, if◌then◌else◌, Option, Some, None}
use Rattle.convoy_checker.specs.declared.checking.Looked.{Looked}
use Rattle.convoy_checker.specs.declared.checking.Looked.TheVariants.{All, Short}
use Rattle.convoy_checker.specs.declared.refused.Refused.{Refused}
use Rattle.convoy_checker.specs.Steps.{allows}

-- up to the fault that is the first, if there is one, where the steps to there may be taken
abbrev pub looked_within : Option ℕ → ℕ → Option Refused → Looked
looked_within limit steps fault = if allows limit steps then All fault else Short

-- the steps that are left of a limit, if there is one, once so many are taken
abbrev pub left_after : Option ℕ → ℕ → Option ℕ
left_after None steps = None
left_after (Some limit) steps = Some (limit - steps)

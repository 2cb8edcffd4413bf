-- What a message is to the target of a picture.
use Rattle.std.specs.Prelude.{ℕ, ◌==◌, Bool, true, false, Option, None, Some, if◌then◌else◌}
use Rattle.convoy_scenario.specs.Scenario.{Scenario}
use Rattle.convoy_timeline.specs.declared.explanation.Holder.{Holder as HoldingMessage}
use Rattle.convoy_picture.specs.Pictures.{Picture}
use Rattle.convoy_picture.specs.declared.role.Role.{Role}
use Rattle.convoy_picture.specs.declared.role.Role.TheVariants.{Target, Holder, Other}

-- a message other than the target: what holds the target back, or not
abbrev pub role_beside : Option HoldingMessage → ℕ → Role
role_beside None m = Other
role_beside (Some holder) m = if holder.message == m then Holder else Other

-- the target itself, what holds it back, or any other message
abbrev pub role_of : Scenario → Picture → ℕ → Role
role_of scenario picture m = if m == scenario.target_message then Target else role_beside picture.why.holder m

-- what a picture is about: the target, and what holds it back
abbrev pub is_in_focus : Role → Bool
is_in_focus Target = true
is_in_focus Holder = true
is_in_focus Other = false

-- What a wish run is told from, and where the simulation of wish runs stands between two of them.
use Rattle.std.specs.Prelude.{◌≡◌, ℕ, All, IfSome}
use Rattle.convoy_scenario.specs.Scenario.{Scenario}
use Rattle.convoy_packets.specs.Assignment.{IsAssignment}
use Rattle.convoy_intervals.specs.Boxes.{Box, IsBox, IsIn}
use Rattle.convoy_starts.specs.Links.{IsLink}
use Rattle.convoy_wishes.specs.declared.scene.Scene.{Scene}
use Rattle.convoy_wishes.specs.declared.wishing.Wishing.{Wishing}
use Rattle.convoy_wishes.specs.Wishes.{IsWishRun}

-- the box is one of the scenario, and the chain is of its links
pub record IsScene (scene : Scene) : Type 0 where
  pub inside : IsBox scene.instance.now scene.delay_box.now
  pub chain : All (IsLink scene.instance.now) scene.links.now

-- it is of the box, as is the schedule that is tried, an assignment of the scenario; and what was found is a wish run
pub record IsWishing (scenario : Scenario) (box : Box) (known : ℕ) (wishing : Wishing) : Type 0 where
  pub of_scenario : wishing.scene.instance.now ≡ scenario
  pub of_box : wishing.scene.delay_box.now ≡ box
  pub scene : IsScene wishing.scene
  pub from : wishing.known ≡ known
  pub inside : IsIn box wishing.tried
  pub assignment : IsAssignment scenario wishing.tried
  pub best : IfSome wishing.best (IsWishRun scenario box known)

-- it still stands over the same box, with the same latency known
pub record HasTried (old new : Wishing) : Type 0 where
  pub scene : new.scene ≡ old.scene
  pub known : new.known ≡ old.known
  pub wishing : IsWishing old.scene.instance.now old.scene.delay_box.now old.known new

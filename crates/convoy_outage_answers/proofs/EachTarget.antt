-- Each target of a scenario that has a row may be its target.
use Rattle.std.proofs.Common.{All, ◌≡◌, ◌+◌, ◌<◌, ◌==◌, ℕ, zero, suc, Bool, true, false, cond, List, [], length, map, flat_map, get_or, refl, sym, subst, arith}
use Rattle.std.specs.List.{range_with_len}
use Rattle.std.proofs.lemmas.Bool.{eq-eqb}
use Rattle.std.proofs.lemmas.List.Elements.{All-append, All-map, All-nil}
use Rattle.std.proofs.lemmas.List.Folds.{list_any_at}
use Rattle.convoy_scenario.specs.Room.{HasRoom}
use Rattle.convoy_scenario.specs.Scenario.{GoesTo, Scenario, message_at}
use Rattle.convoy_scenario.specs.Targets.{may_be_target, targets_at, targets_of, with_target}
use Rattle.convoy_scenario.specs.WidenedLaws.{RoomIsDecided}
use Rattle.convoy_stamps.proofs.Loops.{flat_map_range_more}
use Rattle.convoy_survey.specs.Surveys.{IsTargetPair}

-- what holds of what is listed for each number holds of all of it
all_listed : {X : Type 0} (P : X → Type 0) (f : ℕ → List X) (n : ℕ) → ((m : ℕ) → m < n → All P (f m)) → All P (flat_map f (range_with_len 0 n))
all_listed P f zero each = All-nil P
all_listed P f (suc n) each =
    let next : suc n ≡ n + 1 = omega arith in
    subst (λ (k : ℕ). All P (flat_map f (range_with_len 0 k))) (sym next)
    (subst (All P) (sym (flat_map_range_more f n))
    (All-append P (flat_map f (range_with_len 0 n)) (f n) (all_listed P f n (λ m l. each m (omega (arith, l)))) (each n (omega arith))))

-- a message goes to its destinations
goes_to_each : (scenario : Scenario) (m : ℕ) → All (GoesTo scenario m) (message_at scenario m).destinations
goes_to_each scenario m k d small =
    let groups : List ℕ = (message_at scenario m).destinations in
    list_any_at (λ (h : ℕ). h == get_or groups k d) groups k d small (eq-eqb (get_or groups k d) (get_or groups k d) refl)

-- at whichever group it is asked about, it has the same room
room_at : (scenario : Scenario) (m g h : ℕ) → HasRoom (with_target scenario m g) → HasRoom (with_target scenario m h)
room_at scenario m g h room = record { last = room.last; others = room.others }

targets_of_message : RoomIsDecided → (scenario : Scenario) (m : ℕ) → m < length scenario.multicasts → All (IsTargetPair scenario) (targets_at scenario m)
targets_of_message decided scenario m known = by_room (may_be_target scenario m) refl where
  groups : List ℕ
  groups = (message_at scenario m).destinations

  by_room : (room : Bool) → may_be_target scenario m ≡ room → All (IsTargetPair scenario) (cond room (map (λ (g : ℕ). (m, g)) groups) [])
  by_room false is = All-nil (IsTargetPair scenario)
  by_room true is =
      let room : HasRoom (with_target scenario m 0) = (decided (with_target scenario m 0)).0 is in
      All-map (IsTargetPair scenario) (λ (g : ℕ). (m, g)) groups
      (λ k d small. record { known = known; addressed = goes_to_each scenario m k d small; room = room_at scenario m 0 (get_or groups k d) room })

pub targets_lawful : RoomIsDecided → (scenario : Scenario) → All (IsTargetPair scenario) (targets_of scenario)
targets_lawful decided scenario =
    all_listed (IsTargetPair scenario) (targets_at scenario) (length scenario.multicasts) (targets_of_message decided scenario)

-- How long schedules are.
use Rattle.std.proofs.Common.{◌≡◌, ℕ, suc, List, [], ◌∷◌, length, refl, ap}
use Rattle.convoy_packets.specs.Assignment.{AreWithin}

-- there are as many delays as ranges
pub length_within : (ranges : List (ℕ × ℕ)) (delays : List ℕ) → AreWithin ranges delays → length delays ≡ length ranges
length_within [] [] within = refl
length_within [] (d ∷ ds) within = absurd within
length_within (r ∷ rs) [] within = absurd within
length_within (r ∷ rs) (d ∷ ds) within = ap suc (length_within rs ds within.1)

-- Worked values, by hand: what ranges, windows and names of ways are by their definitions alone.
use Rattle.std.proofs.Common.{◌≡◌, true, false, [], ◌∷◌, Some, None, Ok, Err, refl, codes}
use Rattle.convoy_sweep.specs.declared.fault.SettingFault.TheVariants.{TooMany}
use Rattle.convoy_sweep.specs.Keys.{names_link}
use Rattle.convoy_sweep.specs.Values.{givens, range_between}

up_to_ten : range_between 0 10 3 ≡ Ok (record { from = 0; step = 3; steps = 3 })
up_to_ten = refl

too_many : range_between 0 10000 1 ≡ Err TooMany
too_many = refl

-- 0, 3, 6 and 9
values : givens false (record { from = 0; step = 3; steps = 3 })
    ≡ record { value = 0; last = None } ∷ record { value = 3; last = None } ∷ record { value = 6; last = None } ∷ record { value = 9; last = None } ∷ []
values = refl

-- 0 to 3, 3 to 6 and 6 to 9
windows : givens true (record { from = 0; step = 3; steps = 3 })
    ≡ record { value = 0; last = Some 3 } ∷ record { value = 3; last = Some 6 } ∷ record { value = 6; last = Some 9 } ∷ []
windows = refl

-- a-b-c is a way from a to b-c, and one from a-b to c
there : names_link (codes "a-b-c") (record { senders = Some (codes "a" ∷ []); to = codes "b-c" ∷ []; both = false }) ≡ true
there = refl

too : names_link (codes "a-b-c") (record { senders = Some (codes "a-b" ∷ []); to = codes "c" ∷ []; both = false }) ≡ true
too = refl

-- back only where both ways have one table
back : names_link (codes "b-a") (record { senders = Some (codes "a" ∷ []); to = codes "b" ∷ []; both = true }) ≡ true
back = refl

not_back : names_link (codes "b-a") (record { senders = Some (codes "a" ∷ []); to = codes "b" ∷ []; both = false }) ≡ false
not_back = refl

of_clients : names_link (codes "client-b") (record { senders = None; to = codes "b" ∷ []; both = false }) ≡ true
of_clients = refl

not_itself : names_link (codes "a-a") (record { senders = Some (codes "a" ∷ codes "b" ∷ []); to = codes "a" ∷ codes "b" ∷ []; both = false }) ≡ false
not_itself = refl

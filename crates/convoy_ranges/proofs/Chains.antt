-- One thing after another, which may be faulty or find no memory.
use Rattle.std.proofs.Common.{◌≡◌, List, ◌++◌, Result, Ok, Err, append_assoc, refl, ap, sym, ◌∙◌, inl, inr}
use Rattle.convoy_lines.specs.Results.{◌>>=◌}
use Rattle.convoy_scenario.specs.Memory.{IsUnlessMemory}
use Rattle.convoy_ranges.specs.declared.fault.RangesFault.{RangesFault}
use Rattle.convoy_ranges.specs.declared.fault.RangesFault.TheVariants.{Memory}
use Rattle.convoy_ranges.specs.Tables.{with_front}

-- two fronts are one
pub two_fronts : {X : Type 0} (a b : List X) (rest : Result (List X) RangesFault) → with_front (a ++ b) rest ≡ with_front a (with_front b rest)
two_fronts a b (Ok xs) = ap Ok (append_assoc a b xs)
two_fronts a b (Err fault) = refl

-- a piece more
pub goes_on : {X Y : Type 0} (front : List X) (piece : Y → List X) (r : Result Y RangesFault) (y : Y) (rest total : Result (List X) RangesFault)
    → IsUnlessMemory Memory r (Ok y)
    → with_front front (r >>= (λ y. with_front (piece y) rest)) ≡ total
    → with_front (front ++ piece y) rest ≡ total
goes_on front piece r y rest total (inl e) so_far = two_fronts front (piece y) rest ∙ rw (← e) at so_far
goes_on front piece r y rest total (inr e) so_far = absurd cc

-- the first fault ends it
pub stops : {X Y : Type 0} (front : List X) (piece : Y → List X) (r : Result Y RangesFault) (fault : RangesFault) (rest total : Result (List X) RangesFault)
    → IsUnlessMemory Memory r (Err fault)
    → with_front front (r >>= (λ y. with_front (piece y) rest)) ≡ total
    → IsUnlessMemory Memory total (Err fault)
stops front piece r fault rest total (inl e) so_far = inl (rw (← e) at so_far)
stops front piece r fault rest total (inr e) so_far = let same : fault ≡ Memory = cc in inr (ap Err same)

-- what was put behind a front
pub goes_on_behind : {X : Type 0} (front new : List X) (r rest total : Result (List X) RangesFault)
    → IsUnlessMemory Memory (with_front front r) (Ok new)
    → with_front front (r >>= (λ xs. with_front xs rest)) ≡ total
    → with_front new rest ≡ total
goes_on_behind front new (Ok xs) rest total (inl e) so_far = let same : new ≡ front ++ xs = cc in rw same (two_fronts front xs rest ∙ so_far)
goes_on_behind front new (Err fault) rest total (inl e) so_far = absurd cc
goes_on_behind front new r rest total (inr e) so_far = absurd cc

-- the first fault behind a front ends it
pub stops_behind : {X : Type 0} (front : List X) (r : Result (List X) RangesFault) (fault : RangesFault) (rest total : Result (List X) RangesFault)
    → IsUnlessMemory Memory (with_front front r) (Err fault)
    → with_front front (r >>= (λ xs. with_front xs rest)) ≡ total
    → IsUnlessMemory Memory total (Err fault)
stops_behind front (Ok xs) fault rest total (inl e) so_far = absurd cc
stops_behind front (Err other) fault rest total (inl e) so_far = inl (e ∙ so_far)
stops_behind front r fault rest total (inr e) so_far = let same : fault ≡ Memory = cc in inr (ap Err same)

-- what comes after something, where that is faulty
pub then_stops : {X Y : Type 0} (r : Result Y RangesFault) (next : Y → Result X RangesFault) (fault : RangesFault)
    → IsUnlessMemory Memory r (Err fault) → IsUnlessMemory Memory (r >>= next) (Err fault)
then_stops r next fault (inl e) = inl (rw (← e) refl)
then_stops r next fault (inr e) = let same : fault ≡ Memory = cc in inr (ap Err same)

-- what comes after something that was found
pub then_goes : {X Y : Type 0} (r : Result Y RangesFault) (next : Y → Result X RangesFault) (y : Y) (result : Result X RangesFault)
    → IsUnlessMemory Memory r (Ok y) → IsUnlessMemory Memory (next y) result → IsUnlessMemory Memory (r >>= next) result
then_goes r next y result (inl e) told = rw (← e) told
then_goes r next y result (inr e) told = absurd cc

-- what was found after something was
pub bind_ok : {X Y E : Type 0} (r : Result Y E) (next : Y → Result X E) (x : X) → (r >>= next) ≡ Ok x → (y : Y) × (r ≡ Ok y) × (next y ≡ Ok x)
bind_ok (Ok y) next x is = (y, refl, is)
bind_ok (Err fault) next x is = absurd cc

-- what was found behind a front
pub front_ok : {X : Type 0} (front : List X) (r : Result (List X) RangesFault) (all : List X) → with_front front r ≡ Ok all
    → (rest : List X) × (r ≡ Ok rest) × (all ≡ front ++ rest)
front_ok front (Ok rest) all is = let same : front ++ rest ≡ all = cc in (rest, refl, sym same)
front_ok front (Err fault) all is = absurd cc

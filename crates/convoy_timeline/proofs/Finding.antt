-- Looking for the first that passes a test, one after the other.
use Rattle.std.proofs.Common.{◌≡◌, ℕ, zero, suc, ◌+◌, ◌-◌, ◌<◌, ◌==◌, Bool, true, false, List, ◌∷◌, Some, cond, ap, sym, ◌∙◌, arith}
use Rattle.std.specs.List.{find, range_with_len}
use Rattle.std.proofs.lemmas.Bool.{and_parts, eqb-true}
use Rattle.std.proofs.lemmas.Option.{none-some}
use Rattle.convoy_sim.proofs.Membership.{in_of_find}
use Rattle.convoy_timeline.specs.declared.explanation.Rise.{Rise}
use Rattle.convoy_timeline.specs.Causes.{is_rise_to, rise_and, rises_before}
use Rattle.convoy_timeline.specs.RiseWords.{rise_before}

-- the number passes: it is the first from there on
pub find-here : (p : ℕ → Bool) (i n : ℕ) → i < n → p i ≡ true → find p (range_with_len i (n - i)) ≡ Some i
find-here p i n less passes =
    let left : n - i ≡ suc (n - (i + 1)) = omega arith in
    rw left (ap (λ b. cond b (Some i) (find p (range_with_len (i + 1) (n - (i + 1))))) passes)

-- the number does not pass: the first from there on is the first after it
pub find-after : (p : ℕ → Bool) (i n : ℕ) → i < n → p i ≡ false
    → find p (range_with_len i (n - i)) ≡ find p (range_with_len (i + 1) (n - (i + 1)))
find-after p i n less fails =
    let left : n - i ≡ suc (n - (i + 1)) = omega arith in
    rw left (ap (λ b. cond b (Some i) (find p (range_with_len (i + 1) (n - (i + 1))))) fails)

-- a rise has the time before that of the stamp it is before, and is told first of those before that stamp
pub one_rise : (rises : List Rise) (time g : ℕ) (rise : Rise) → rise_before rises time g ≡ Some rise
    → (rise.stamped.stamp.time < time)
    × (rises_before rises time g ≡ rise ∷ rises_before rises rise.stamped.stamp.time rise.stamped.stamp.group)
one_rise rises zero g rise found = absurd (none-some _ found)
one_rise rises (suc time) g rise found =
    let there = (in_of_find (is_rise_to time g) rise rises found).1 in
    let at : rise.stamped.stamp.time ≡ time = eqb-true _ _ (and_parts (rise.moment.group == g) (rise.stamped.stamp.time == time) there).1 in (
      omega (arith, at),
      ap (rise_and (rises_before rises time)) found ∙ ap (λ t. rise ∷ rises_before rises t rise.stamped.stamp.group) (sym at),
    )

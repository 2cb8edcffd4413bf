-- The scenario of one more point.
use Rattle.std.proofs.Common.{◌≡◌, inl, inr, ℕ, ◌+◌, ◌<◌, List, [], ◌∷◌, ◌++◌, length, drop, get_or, Option, Result, Ok, Err, refl, sym, ap, ◌∙◌, append_assoc, add-one, drop-cons}
use Rattle.convoy_lines.specs.Results.{◌>>=◌}
use Rattle.convoy_draft.specs.declared.fault.ScenarioFault.TheVariants.{Memory}
use Rattle.convoy_scenario.specs.Memory.{IsUnlessMemory}
use Rattle.convoy_toml.specs.declared.around.Around.{Around}
use Rattle.convoy_toml.specs.Shape.{WrittenScenario}
use Rattle.convoy_sweep.specs.declared.fault.SweepFault.{SweepFault}
use Rattle.convoy_sweep.specs.declared.fault.SweepFault.TheVariants.{Text}
use Rattle.convoy_sweep.specs.declared.kinds.Point.{Point}
use Rattle.convoy_sweep.specs.declared.kinds.Sweep.{Sweep}
use Rattle.convoy_sweep.specs.declared.preparing.Made.{Made}
use Rattle.convoy_sweep.specs.Points.{all_made, made_at}

then_more : (made : List Made) (one : Made) (result : Result (List Made) SweepFault) →
    ((result >>= λ others. Ok (one ∷ others)) >>= λ rest. Ok (made ++ rest)) ≡ (result >>= λ rest. Ok ((made ++ one ∷ []) ++ rest))
then_more made one (Ok others) = ap (λ (xs : List Made). Ok xs) (sym (append_assoc made (one ∷ []) others))
then_more made one (Err fault) = refl

pub made_more : (around : Option Around) (sweep : Sweep) (written : WrittenScenario) (points : List Point) (i : ℕ) (d : Point) (made : List Made) (one : Made) →
    i < length points → all_made around sweep written points ≡ (all_made around sweep written (drop i points) >>= λ rest. Ok (made ++ rest)) →
    IsUnlessMemory (Text Memory) (made_at around sweep written (get_or points i d)) (Ok one) →
    all_made around sweep written points ≡ (all_made around sweep written (drop (i + 1) points) >>= λ rest. Ok ((made ++ one ∷ []) ++ rest))
made_more around sweep written points i d made one within so_far (inl is) =
    let cut : drop i points ≡ get_or points i d ∷ drop (i + 1) points = rw (add-one, drop-cons points i d) refl in
    so_far
    ∙ ap (λ (ps : List Point). all_made around sweep written ps >>= λ rest. Ok (made ++ rest)) cut
    ∙ ap
    (λ (head : Result Made SweepFault). (head >>= λ first. all_made around sweep written (drop (i + 1) points) >>= λ others. Ok (first ∷ others)) >>= λ rest. Ok (made ++ rest))
    (sym is)
    ∙ then_more made one (all_made around sweep written (drop (i + 1) points))
made_more around sweep written points i d made one within so_far (inr other) = absurd cc

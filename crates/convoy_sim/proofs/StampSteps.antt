-- The time of a local stamp is one more than that of another, or 1.
use Rattle.std.proofs.Common.{◌≡◌, ℕ, ◌+◌, ◌-◌, ◌<◌, true, inl, inr, ap, subst, arith}
use Rattle.std.proofs.lemmas.Bool.{cases_lt}
use Rattle.convoy_sim.specs.Stamps.{local_stamp}
use Rattle.convoy_sim.specs.Moments.{arrival_of, commit_of, is_before}
use Rattle.convoy_sim.specs.RaiseLaws.{StampsHaveSteps, IsLastRaise, IsRaise, IsCounted}
use Rattle.convoy_sim.proofs.RaiseLaws.{last_raise}
use Rattle.convoy_sim.proofs.StampLaws.{own_commit_first}
use Rattle.convoy_sim.proofs.MomentTicks.{tick_of_before, tick_of_commit}

pub have_steps : StampsHaveSteps
have_steps plan schedule well n k goes =
    let r = last_raise plan schedule well n k goes in
    let raise : IsLastRaise plan schedule n k r.0 r.1 = r.2 in
    let low : r.0 < (local_stamp plan schedule n k).time = raise.below in
    elim (cases_lt (r.0 + 1) (local_stamp plan schedule n k).time) [
      | inl l ↦
          let u : ℕ = (local_stamp plan schedule n k).time - 1 in
          let z = raise.counted u (omega arith) (omega arith) in
          let is : IsCounted plan schedule n k r.1 u z.0 = z.1 in
          let stamp : (local_stamp plan schedule z.0 k).time ≡ u = is.stamp in
          inr (inl (
            z.0,
            record {
              goes = is.goes;
              other = λ e.
                  let same : (local_stamp plan schedule z.0 k).time ≡ (local_stamp plan schedule n k).time = ap (λ m. (local_stamp plan schedule m k).time) e in
                  absurd (omega arith);
              no_later = tick_of_before (arrival_of plan schedule z.0 k) (arrival_of plan schedule n k) is.first;
              next = omega arith;
            },
          ))
      | inr l ↦ elim raise.by [
        | inl none ↦ inl (omega (arith, none.0))
        | inr c ↦
            let is : IsRaise plan schedule n k c.0 c.1 r.0 r.1 = c.2 in
            let stamp : (local_stamp plan schedule c.0 c.1).time ≡ r.0 = is.stamp in
            let late = tick_of_commit plan schedule c.0 n k is.first in
            inr (inr (
              c.0,
              c.1,
              record {
                goes = is.goes;
                from = is.from;
                other = λ e. absurd (own_commit_first plan schedule n k goes
                    (subst (λ m. is_before (commit_of plan schedule m k) (arrival_of plan schedule n k) ≡ true) e is.first));
                before = late;
                next = omega arith;
              },
            ))
      ]
    ]

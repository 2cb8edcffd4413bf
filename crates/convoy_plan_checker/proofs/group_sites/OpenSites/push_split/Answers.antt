use Rattle.std.proofs.Common.{ℕ, ◌-◌, ◌∷◌, length, get_or, set, Some, refl, ap, ◌∙◌}
use Rattle.convoy_plan_checker.proofs.Stepping.{put_next}
use Rattle.convoy_plan_checker.proofs.group_sites.OpenSites.push_split.Goals as goal

pub loop-done-preserved : goal.loop-done-preserved
loop-done-preserved c =
    put_next (λ (s : ℕ). set c.args.sites.now c.args.group (Some s)) c.sites_of-homes.result.now (length c.sites_of-homes.result.now) c.loop-done.done
    (get_or c.sites_of-homes.result.now (length c.sites_of-homes.result.now - 1 - c.loop-done.done) 0) c.loop-done.self c.push.new.self c.args.self.now refl
    c.loop-done-test.true refl c.loop-done.invariant (c.in_ok-push.ensures ∙ ap (λ s. s ∷ c.loop-done.self) c.in_ok-with.ensures)

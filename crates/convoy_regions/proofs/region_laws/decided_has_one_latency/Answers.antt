use Rattle.convoy_regions.proofs.DecidedLatency.{one_latency}
use Rattle.convoy_regions.proofs.region_laws.decided_has_one_latency.Goals as goal

pub returns : goal.returns
returns c scenario region schedule well is decided member ordered =
    one_latency (record {
      stamps = record {
        raise = c.last_raise.ensures;
        rise = c.stamps_rise.ensures;
        past = c.stamps_rise_past_commit.ensures;
        names = c.local_stamp_names_group.ensures;
        local = c.final_stamp_is_local.ensures;
        greatest = c.no_local_stamp_is_greater.ensures;
      };
      delivery = c.delivery_law.ensures;
      within = c.delays_are_within.ensures;
      tests = c.tests_decide.ensures;
      point = c.point_has_one_member.ensures;
      known = c.known_holds.ensures;
      run = c.run_is_assignment.ensures;
    }) scenario region schedule well is decided member ordered

use Rattle.convoy_intervals.proofs.Destinations.{arrival_fits}
use Rattle.convoy_intervals.proofs.spans.arrival_from.Goals as goal

pub returns-clause-fits : goal.returns-clause-fits
returns-clause-fits c =
    rw (c.place.ensures.value, c.requires.arrivals c.args.group c.requires.group) (arrival_fits c.args.instance.now c.place.ensures.lawful c.arrives_within_one_delay.ensures c.args.delay_box.now c.requires.inside c.args.message c.args.group c.requires.known)

use Rattle.convoy_laws.proofs.finer.scenarios_are_roundable.Goals as goal

pub returns : goal.returns
returns c scenario well =
    record { groups_high = well.groups_high; multicasts_high = well.multicasts_high; messages = well.messages; addressed = well.addressed }

use Rattle.convoy_budget.proofs.searching.room_by.Goals as goal

pub returns-in-Ok-Beyond-clause-room : goal.returns-in-Ok-Beyond-clause-room
returns-in-Ok-Beyond-clause-room g c = c.room_below.ensures.room c.args.widest

pub returns-in-Ok-Undecided-clause-room : goal.returns-in-Ok-Undecided-clause-room
returns-in-Ok-Undecided-clause-room g c = c.room_below-in-Ok-Undecided.ensures.room c.args.widest

use Rattle.convoy_best_plan.proofs.choice_laws.no_choice_is_better.Goals as goal

pub returns : goal.returns
returns c = λ settings wanted plan told planned placement scenario order is placed new made in_order. is.none_below placement placed new scenario made order in_order

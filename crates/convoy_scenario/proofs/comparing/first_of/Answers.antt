use Rattle.std.proofs.Common.{true, ◌≡◌, ℕ, suc, List, ◌++◌, take, drop, sym, ap, ◌∙◌, drop-cons}
use Rattle.std.proofs.lemmas.List.{take_all, take_more, take-append-drop}
use Rattle.std.proofs.lemmas.List.Elements.{All-push}
use Rattle.convoy_scenario.specs.Differences.{AgreeIn}
use Rattle.convoy_scenario.specs.declared.part.Part.{Part}
use Rattle.convoy_scenario.specs.declared.part.Part.TheVariants.{Time}
use Rattle.convoy_scenario.proofs.comparing.first_of.Goals as goal

pub returns-then-not-agree_in : goal.returns-then-not-agree_in
returns-then-not-agree_in c =
    let i : ℕ = c.loop-part.part-index in
    record {
      before = take i c.args.parts.now;
      after = drop (suc i) c.args.parts.now;
      place = sym (take-append-drop i c.args.parts.now)
          ∙ ap (λ (rest : List Part). take i c.args.parts.now ++ rest) (drop-cons c.args.parts.now i Time c.loop-part-test.true);
      agree = c.loop-part.invariant;
      differ = λ same. let yes : c.agree_in.result ≡ true = c.agree_in.ensures.1 same in cc;
    }

pub loop-part-preserved : goal.loop-part-preserved
loop-part-preserved c =
    rw (take_more c.args.parts.now c.loop-part.part-index Time c.loop-part-test.true)
    (All-push (AgreeIn c.args.wanted.now c.args.other.now) (take c.loop-part.part-index c.args.parts.now) _ c.loop-part.invariant
    (c.agree_in.ensures.0 c.if-not-agree_in.false))

pub returns : goal.returns
returns c = rw (take_all c.loop-part.part-index c.args.parts.now c.loop-part-test.false) at c.loop-part.invariant

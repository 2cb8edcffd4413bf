use Rattle.std.proofs.Common.{◌≡◌, IfOk, List, ℕ, append_assoc, string_bytes}
use Rattle.std.proofs.lemmas.Result.{IfOk-weaker}
use Rattle.convoy_draw.specs.Drawings.{Tells}
use Rattle.convoy_draw.specs.Layers.{IsToldIn, Layers}
use Rattle.convoy_draw.proofs.Telling.{joined, joined_tells}
use Rattle.convoy_draw.proofs.layers.Layers.joined.Goals as goal

pub returns : goal.returns
returns c =
    let layers : Layers = record {
      others = c.as_str-others.result.now;
      holder = c.as_str-holder.result.now;
      target = c.as_str-target.result.now;
    } in
    let whole : IfOk c.format.result (λ text. string_bytes text ≡ joined layers c.args.first.now c.args.second.now c.args.third.now) = simp append_assoc at c.format.ensures.ok in
    rw (← c.self.view_is, ← c.as_str-others.ensures.value, ← c.as_str-holder.ensures.value, ← c.as_str-target.ensures.value)
    (IfOk-weaker c.format.result _ (λ text. (piece : List ℕ) → IsToldIn layers piece → Tells piece (string_bytes text))
    (λ text is. joined_tells layers _ _ _ (string_bytes text) is) whole)

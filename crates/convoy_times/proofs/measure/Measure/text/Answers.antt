use Rattle.std.proofs.Common.{◌≡◌, ◌++◌, sym, ap, ◌∙◌, subst}
use Rattle.std.specs.Str.{IsUtf8}
use Rattle.convoy_times.specs.Measures.{decimal_in}
use Rattle.convoy_times.proofs.Ascii.{told_text}
use Rattle.convoy_times.proofs.measure.Measure.text.Goals as goal

pub unreachable-requires : goal.unreachable-requires
unreachable-requires c =
    let told : c.push_decimal.new.out.items ≡ decimal_in c.args.self.unit c.nanoseconds.result =
    c.in_ok-push_decimal.ensures ∙ ap (λ t. t ++ decimal_in c.args.self.unit c.nanoseconds.result) c.new-bytes.ensures.items in
    let text : IsUtf8 c.push_decimal.new.out.items = subst IsUtf8 (sym told) (told_text c.args.self.unit c.nanoseconds.result c.nanoseconds.type_inv) in
    let refused = c.in-Err.ensures.succeeds text in
    cc

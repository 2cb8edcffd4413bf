use Rattle.std.proofs.Common.{◌≡◌, ◌++◌, ◌<◌, ◌^◌, ℕ, sym, ap, ◌∙◌, subst, arith}
use Rattle.std.specs.Str.{IsUtf8}
use Rattle.convoy_draft.specs.declared.duration.TimeUnit.TheVariants.{Milliseconds}
use Rattle.convoy_times.proofs.Ascii.{told_text}
use Rattle.convoy_outside.specs.Percents.{told_millionths}
use Rattle.convoy_outside.proofs.percent.percent_text.Goals as goal

-- millionths of a per cent are told as nanoseconds are in milliseconds
is_text : (millionths : ℕ) → millionths < 2 ^ 64 → IsUtf8 (told_millionths millionths)
unfolding told_millionths
is_text millionths fits = told_text Milliseconds millionths (omega (arith, fits))

pub unreachable-requires : goal.unreachable-requires
unreachable-requires c =
    let told : c.push_millionths.new.out.items ≡ told_millionths c.millionths_of.result =
    c.in_ok-push_millionths.ensures ∙ ap (λ t. t ++ told_millionths c.millionths_of.result) c.new-bytes.ensures.items in
    let text : IsUtf8 c.push_millionths.new.out.items = subst IsUtf8 (sym told) (is_text c.millionths_of.result c.millionths_of.type_inv) in
    let refused = c.in-Err.ensures.succeeds text in
    cc

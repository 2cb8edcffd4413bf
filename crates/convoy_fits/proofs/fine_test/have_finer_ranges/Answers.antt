use Rattle.std.proofs.Common.{◌≡◌, ◌∙◌, sym, rules, true, false}
use Rattle.convoy_packets.specs.Packets.{packets_of}
use Rattle.convoy_fits.specs.Finer.{has_finer_range}
use Rattle.convoy_fits.proofs.Compared.{all_met, all_passed}
use Rattle.convoy_fits.proofs.fine_test.have_finer_ranges.Goals as goal

pub returns-then-not-has_finer_range : goal.returns-then-not-has_finer_range
returns-then-not-has_finer_range c =
    let test : c.has_finer_range.result ≡ false = search rules in
    let at = rw c.table-table.ensures.value at c.packet.ensures in
    all_met (has_finer_range c.args.factor c.args.scenario.now c.args.finer.now) (packets_of c.args.finer.now) c.loop-at.at c.packet.result _ at
    c.loop-at.invariant (sym c.has_finer_range.ensures ∙ test)

pub loop-at-preserved : goal.loop-at-preserved
loop-at-preserved c =
    let test : c.has_finer_range.result ≡ true = search rules in
    let at = rw c.table-table.ensures.value at c.packet.ensures in
    all_passed (has_finer_range c.args.factor c.args.scenario.now c.args.finer.now) (packets_of c.args.finer.now) c.loop-at.at c.packet.result _ at
    c.loop-at.invariant (sym c.has_finer_range.ensures ∙ test)

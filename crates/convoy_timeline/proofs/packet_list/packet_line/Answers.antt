use Rattle.std.proofs.Common.{ap, sym}
use Rattle.std.specs.Fmt.{digits}
use Rattle.convoy_timeline.specs.PacketLists.{packet_line}
use Rattle.convoy_timeline.proofs.packet_list.packet_line.Goals as goal

pub returns : goal.returns
unfolding packet_line digits
returns c = λ is.
    let least = ap (λ range. range.0) is in
    let most = ap (λ range. range.1) is in
    simp (sym c.in_ok-what.ensures, sym c.in_ok-taken.ensures, sym least, sym most) c.format.ensures.ok

use Rattle.std.proofs.Common.{◌++◌, ◌∷◌, []}
use Rattle.convoy_draw.specs.Legends.{bar_lines, color_lines, legend_lines, note_line, packet_lines, sign_lines, wordless_lines}
use Rattle.convoy_draw.specs.Shown.{ShowsMore}
use Rattle.convoy_draw.proofs.Showing.{more_then}
use Rattle.convoy_draw.proofs.legend.legend.Goals as goal

pub returns : goal.returns
unfolding legend_lines
returns c =
    let scenario = c.args.scene.now.scenario.now in
    let holder = c.why.result.now.holder in
    let wordless = c.wordless.result in
    let text = c.push_words.new.self in
    let from_signs = sign_lines holder ++ note_line ∷ [] in
    let from_wordless = wordless_lines wordless ++ from_signs in
    let from_bar = bar_lines scenario ++ from_wordless in
    let from_packets = packet_lines ++ from_bar in
    let signs : ShowsMore from_signs c.end_row-2.new.self text =
    more_then (sign_lines holder) (note_line ∷ []) _ _ _ c.in_ok-push_signs.ensures (rw c.end_row-3.ensures at c.in_ok-push_words.ensures) in
    let counted : ShowsMore from_wordless c.push_bar.new.self text =
    more_then (wordless_lines wordless) from_signs _ _ _ c.in_ok-push_wordless.ensures (rw c.end_row-2.ensures at signs) in
    let bar : ShowsMore from_bar c.push_packets.new.self text = more_then (bar_lines scenario) from_wordless _ _ _ c.in_ok-push_bar.ensures counted in
    let packets : ShowsMore from_packets c.end_row.new.self text = more_then packet_lines from_bar _ _ _ c.in_ok-push_packets.ensures bar in
    let all : ShowsMore (color_lines scenario holder ++ from_packets) c.new-legend.result text =
    more_then (color_lines scenario holder) from_packets _ _ _ c.in_ok-push_colors.ensures (rw c.end_row.ensures at packets) in
    (wordless, rw c.legend-6.view_is (rw c.why.ensures at (all [] c.new-legend.ensures)))

-- The text of a certificate of finishes: the one text of each.
use Rattle.std.specs.Prelude.{ℕ, List, ◌++◌, flat_map, length, codes, decimal}
use Rattle.std.specs.List.{range_with_len}
use Rattle.convoy_lines.specs.Texts.{ended, spaced}
use Rattle.convoy_certificate.specs.Text.{certificate_text}
use Rattle.convoy_finishes.specs.Finishes.{way_at}
use Rattle.convoy_finish_checker.specs.declared.finish_certificate.FinishCertificate.{FinishCertificate}

-- the first line, by which such a text is known
abbrev pub first_line : List ℕ
first_line = codes "convoy finish 1"

-- the ways of message m by each group, in the order of the groups
abbrev pub ways_line : FinishCertificate → ℕ → List ℕ
ways_line certificate m =
    ended
    (codes "ways"
    ++ flat_map (λ k. spaced (decimal (way_at certificate.ways m k))) (range_with_len 0 (length certificate.run.scenario.groups)))

-- the text of a certificate: a line of ways for each message, in their order, and below them a certificate
abbrev pub finish_certificate_text : FinishCertificate → List ℕ
finish_certificate_text certificate =
    ended first_line
    ++ (flat_map (ways_line certificate) (range_with_len 0 (length certificate.run.scenario.multicasts))
    ++ certificate_text certificate.run)

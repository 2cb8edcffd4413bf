use Rattle.convoy_leads.proofs.ClosingLaws.{behind_not_ahead}
use Rattle.convoy_leads.proofs.lead_laws.behind_is_not_ahead.Goals as goal

pub returns : goal.returns
returns c scenario schedule windows n k tick well assigned enclosed to goes late behind =
    behind_not_ahead c.laws_below.ensures scenario schedule windows n k tick well assigned enclosed to goes late behind

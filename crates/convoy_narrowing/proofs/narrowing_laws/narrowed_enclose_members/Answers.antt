use Rattle.convoy_narrowing.proofs.RegionWindows.{narrowed_enclose_members}
use Rattle.convoy_narrowing.proofs.narrowing_laws.narrowed_enclose_members.Goals as goal

pub returns : goal.returns
returns c scenario region schedule well lawful member =
    narrowed_enclose_members (record {
      members = c.windows_enclose_members.ensures;
      arrival_since = c.cuts_enclose.ensures;
      arrival_by = c.cuts_by_arrival_enclose.ensures;
      commit_since = c.cuts_for_commit_enclose.ensures;
      commit_by = c.cuts_by_commit_enclose.ensures;
    }) scenario region schedule well lawful member

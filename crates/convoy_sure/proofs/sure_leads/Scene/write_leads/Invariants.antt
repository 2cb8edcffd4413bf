use Rattle.std.proofs.Common.{◌≡◌, ◌≤◌, ◌*◌, length, fold, take, All}
use Rattle.convoy_draft.specs.declared.limits.TheConstants.{MOST_GROUPS}
use Rattle.convoy_sure.specs.SureLeads.{with_lead}
use Rattle.convoy_sure.specs.Windows.{tables_by}
use Rattle.convoy_sure.proofs.sure_leads.Scene.write_leads.Given as goal

abbrev pub invariant-loop-pair : goal.invariant-loop-pair
invariant-loop-pair l =
    record {
      so_far : l.leads ≡ fold (with_lead l.self.scenario.now (tables_by l.self.windows.now).times) l.initial.leads (take l.pair-index l.pairs);
      small : All (λ n. n ≤ 129) l.leads;
      long : length l.leads ≡ length l.self.scenario.now.multicasts * MOST_GROUPS;
    }

use Rattle.std.proofs.Common.{refl}
use Rattle.convoy_commands.specs.Searches.{AnalyseSays}
use Rattle.convoy_report.proofs.Replies.{said}
use Rattle.convoy_report.proofs.running.run_of.Goals as goal

pub returns : goal.returns
returns g c = (
  refl,
  record {
    end = c.in_ok-found.found.done;
    found = c.in_ok-found.found.text.items;
    analysed =
        rw c.in_ok-asked.ensures at
        (said (AnalyseSays c.in_ok-asked.asked c.args.options.now) c.args.text.now c.in_ok-found.found.done c.in_ok-found.found.text.items c.in_ok-found.ensures);
    shown = rw c.unit.ensures at c.in_ok-shown.ensures;
  },
)

use Rattle.std.proofs.Common.{◌≡◌, ap, ◌∙◌}
use Rattle.convoy_intervals.specs.Boxes.{root_of}
use Rattle.convoy_sure.specs.Windows.{windows_of}
use Rattle.convoy_causes.specs.CauseWindows.{with_causes}
use Rattle.convoy_causes.proofs.narrowing.Narrowing.first_windows.Goals as goal

pub returns : goal.returns
returns c =
    let scenario = c.args.self.now.cutting.instance.now in
    let is : c.in_ok-windows.windows ≡ windows_of scenario (root_of scenario) = c.in_ok-windows.ensures ∙ ap (windows_of scenario) c.in_ok-root.ensures.value in
    c.in_ok-cut.ensures ∙ ap (with_causes scenario c.args.self.now.causes.now) is

use Rattle.std.proofs.Common.{◌∙◌, sym}
use Rattle.convoy_commands.proofs.telling.tell.Goals as goal

pub returns-in-Certificate : goal.returns-in-Certificate
returns-in-Certificate c = rw (sym c.form_of.ensures ∙ c.in-Certificate.is) c.tell_certificate.ensures

pub returns-in-Other : goal.returns-in-Other
returns-in-Other c = rw (sym c.form_of.ensures ∙ c.in-Other.is) c.tell_job.ensures

use Rattle.std.proofs.Common.{inl, refl, rules}
use Rattle.convoy_finish_replies.proofs.answering.explain_finish.Goals as goal

pub returns-in_ok-told-in-Ok : goal.returns-in_ok-told-in-Ok
returns-in_ok-told-in-Ok c =
    inl
    (rw (c.about.ensures.done, c.about.ensures.text)
    (inl
    (record {
      certificate = c.in-Ok.certificate;
      accepted = record {
        lawful = search rules;
        stands = c.in-Ok.ensures.text;
        valid = c.in-Ok.ensures.valid;
        greatest = c.in-Ok.ensures.greatest;
      };
      written = c.in_ok-told-in-Ok.ensures;
      ends = refl;
    })))

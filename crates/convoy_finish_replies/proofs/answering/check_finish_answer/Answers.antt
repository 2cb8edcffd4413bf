use Rattle.std.proofs.Common.{inl, rules}
use Rattle.convoy_finish_replies.proofs.answering.check_finish_answer.Goals as goal

pub returns-in_ok-done-in-Ok : goal.returns-in_ok-done-in-Ok
returns-in_ok-done-in-Ok c =
    inl
    (rw (c.about.ensures.done, c.about.ensures.text)
    (inl
    (record {
      certificate = c.in-Ok.certificate;
      accepted = record {
        lawful = search rules;
        stands = c.in-Ok.ensures.text;
        valid = c.in-Ok.ensures.valid;
        greatest = c.in-Ok.ensures.greatest;
      };
      answer = c.in_ok-done-in-Ok.ensures;
    })))

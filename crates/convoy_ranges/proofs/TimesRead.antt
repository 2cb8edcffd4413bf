-- What is written for a table is safe for it.
use Rattle.std.proofs.Common.{◌≡◌, ℕ, ◌==◌, Bool, true, false, List, [], length, Result, Ok, Err}
use Rattle.std.specs.Prelude.{nat_lt, if◌then◌else◌}
use Rattle.convoy_ranges.specs.declared.asked.RangeRules.{RangeRules}
use Rattle.convoy_ranges.specs.declared.fault.RangesFault.TheVariants.{Empty, TooLong}
use Rattle.convoy_ranges.specs.declared.fault.TheConstants.{MOST_BYTES}
use Rattle.convoy_ranges.specs.Rules.{AreRules}
use Rattle.convoy_ranges.specs.Tables.{sightings_of, with_front}
use Rattle.convoy_ranges.specs.Ranges.{pairs_from}
use Rattle.convoy_ranges.specs.Texts.{head_text}
use Rattle.convoy_ranges.specs.Answers.{links_text, pairs_of, ranges_text}
use Rattle.convoy_ranges.specs.RangeLaws.{AreRangesTold}
use Rattle.convoy_ranges.proofs.Chains.{bind_ok, front_ok}
use Rattle.convoy_ranges.proofs.Covering.{pairs_cover}
use Rattle.convoy_ranges.proofs.Safe.{links_safe}

-- what is found where some test does not hold
else_ok : {X E : Type 0} (test : Bool) (fault : E) (r : Result X E) (x : X) → (if test then Err fault else r) ≡ Ok x → r ≡ Ok x
else_ok true fault r x is = absurd cc
else_ok false fault r x is = is

pub told_safely : (rules : RangeRules) (text out : List ℕ) → AreRules rules → ranges_text rules text ≡ Ok out → AreRangesTold rules text out
unfolding ranges_text
told_safely rules text out lawful is =
    let (pairs, paired, written) = bind_ok (pairs_of text) (λ pairs. with_front (head_text rules) (links_text rules pairs)) out is in
    let (links, linked, whole) = front_ok (head_text rules) (links_text rules pairs) out written in
    let within = else_ok (nat_lt MOST_BYTES (length text)) TooLong _ pairs paired in
    let (seen, read, joined) = bind_ok (sightings_of text) (λ seen. if length seen == 0 then Err Empty else pairs_from [] seen) pairs within in
    let some = else_ok (length seen == 0) Empty (pairs_from [] seen) pairs joined in
    record {
      seen = seen;
      pairs = pairs;
      links = links;
      read = read;
      paired = paired;
      linked = linked;
      written = whole;
      covered = pairs_cover seen pairs some;
      safe = links_safe rules pairs links lawful linked;
    }

use Rattle.std.proofs.Common.{◌≡◌, ◌++◌, ◌<◌, ◌^◌, IfOk, IsTrue, arith, codes, decimal, refl, rules, string_bytes}
use Rattle.std.proofs.lemmas.Result.{IfOk-weaker}
use Rattle.convoy_draw.specs.Shown.{is_wordless, no_words_after}
use Rattle.convoy_draw.proofs.Showing.{numbers_wordless}
use Rattle.convoy_draw.proofs.signs.sign.Goals as goal

pub returns-in-Issue : goal.returns-in-Issue
unfolding no_words_after
returns-in-Issue c =
    let left = c.args.across in
    let top = c.args.down in
    let back = codes "\" r=\"38\" fill=\"#ffffff\" stroke-width=\"14\"/>" in
    let whole : IfOk c.format.result (λ sign. string_bytes sign ≡ codes "<circle cx=\"" ++ (decimal left ++ (codes "\" cy=\"" ++ (decimal top ++ back)))) = search rules in
    IfOk-weaker c.format.result _ (λ sign. IsTrue (is_wordless (string_bytes sign)))
    (λ sign is. rw is (numbers_wordless (codes "<circle cx=\"") (codes "\" cy=\"") back left top (omega arith) (omega arith) refl refl refl)) whole

pub returns-in-Arrival : goal.returns-in-Arrival
unfolding no_words_after
returns-in-Arrival c =
    let left = c.args.across in
    let top = c.args.down in
    let back = codes "\" r=\"38\"/>" in
    let whole : IfOk c.format-in-Arrival.result (λ sign. string_bytes sign ≡ codes "<circle cx=\"" ++ (decimal left ++ (codes "\" cy=\"" ++ (decimal top ++ back)))) = search rules in
    IfOk-weaker c.format-in-Arrival.result _ (λ sign. IsTrue (is_wordless (string_bytes sign)))
    (λ sign is. rw is (numbers_wordless (codes "<circle cx=\"") (codes "\" cy=\"") back left top (omega arith) (omega arith) refl refl refl)) whole

pub returns-in-Commit : goal.returns-in-Commit
unfolding no_words_after
returns-in-Commit c =
    let left = c.saturating_sub-left.result in
    let top = c.saturating_sub-top.result in
    let back = codes "\" width=\"70\" height=\"70\"/>" in
    let whole : IfOk c.format-in-Commit.result (λ sign. string_bytes sign ≡ codes "<rect x=\"" ++ (decimal left ++ (codes "\" y=\"" ++ (decimal top ++ back)))) = search rules in
    IfOk-weaker c.format-in-Commit.result _ (λ sign. IsTrue (is_wordless (string_bytes sign)))
    (λ sign is. rw is (numbers_wordless (codes "<rect x=\"") (codes "\" y=\"") back left top (omega arith) (omega arith) refl refl refl)) whole

pub returns-in-Wait : goal.returns-in-Wait
unfolding no_words_after
returns-in-Wait c =
    let left = c.saturating_sub-left.result in
    let top = c.saturating_sub-top.result in
    let back = codes "\" width=\"70\" height=\"70\" fill=\"#f0c000\" stroke=\"none\"/>" in
    let whole : IfOk c.format-in-Wait.result (λ sign. string_bytes sign ≡ codes "<rect x=\"" ++ (decimal left ++ (codes "\" y=\"" ++ (decimal top ++ back)))) = search rules in
    IfOk-weaker c.format-in-Wait.result _ (λ sign. IsTrue (is_wordless (string_bytes sign)))
    (λ sign is. rw is (numbers_wordless (codes "<rect x=\"") (codes "\" y=\"") back left top (omega arith) (omega arith) refl refl refl)) whole

pub returns-in-Delivery : goal.returns-in-Delivery
unfolding no_words_after
returns-in-Delivery c =
    let left = c.saturating_sub-left-in-Delivery.result in
    let top = c.saturating_sub-top.result in
    let back = codes "h90l-45 80z\"/>" in
    let whole : IfOk c.format-in-Delivery.result (λ sign. string_bytes sign ≡ codes "<path d=\"M" ++ (decimal left ++ (codes " " ++ (decimal top ++ back)))) = search rules in
    IfOk-weaker c.format-in-Delivery.result _ (λ sign. IsTrue (is_wordless (string_bytes sign)))
    (λ sign is. rw is (numbers_wordless (codes "<path d=\"M") (codes " ") back left top (omega arith) (omega arith) refl refl refl)) whole

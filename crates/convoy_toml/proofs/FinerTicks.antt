-- Numbers of ticks, and so many times as many; messages, tables of links and links with them.
use Rattle.std.proofs.Common.{◌≡◌, ℕ, ◌+◌, ◌-◌, ◌*◌, ◌/◌, ◌%◌, ◌==◌, ◌<◌, ◌≤◌, ℤ, pos, negsuc, int_le, leb, Bool, true, false, cond, Option, Some, None, ok_or, Result, Ok, Err, refl, ap, ◌∙◌, arith, inl, inr}
use Rattle.std.proofs.Math.Nat.{mul-le-mul_left}
use Rattle.std.proofs.lemmas.Bool.{cases_lt, eqb-true}
use Rattle.std.proofs.lemmas.Bool.Decides.{nat_tests}
use Rattle.std.proofs.lemmas.Nat.{div-add-mod', div-mul-add, mod-mul-add}
use Rattle.convoy_lines.specs.Results.{◌>>=◌}
use Rattle.convoy_draft.specs.declared.fault.ScenarioFault.{ScenarioFault}
use Rattle.convoy_draft.specs.Draft.{DraftLink, DraftMessage}
use Rattle.convoy_toml.specs.Links.{Bundle}
use Rattle.convoy_toml.specs.Times.{ticks_in}

-- ---- numbers of ticks

-- so many times the number
abbrev pub finer_ticks : ℕ → ℤ → ℤ
finer_ticks times (pos n) = pos (times * n)
finer_ticks times (negsuc n) = negsuc (times * (n + 1) - 1)

order_kept : (times a b : ℕ) → 1 ≤ times → leb (times * a) (times * b) ≡ leb a b
order_kept times a b some =
    elim (cases_lt b a) [
      | inl less ↦
          let more = mul-le-mul_left times less in
          let above : times * b < times * a = omega (arith, more) in
          grind (arith, nat_tests)
      | inr least ↦
          let more = mul-le-mul_left times least in
          grind (arith, nat_tests)
    ]

-- their order is the same
pub finer_order : (times : ℕ) (a b : ℤ) → 1 ≤ times → int_le (finer_ticks times a) (finer_ticks times b) ≡ int_le a b
finer_order times (pos a) (pos b) some = order_kept times a b some
finer_order times (pos a) (negsuc b) some = refl
finer_order times (negsuc a) (pos b) some = refl
finer_order times (negsuc a) (negsuc b) some =
    let kept = order_kept times (b + 1) (a + 1) some in
    let low = mul-le-mul_left times (one_more a) in
    let high = mul-le-mul_left times (one_more b) in
    less_one (times * (b + 1)) (times * (a + 1)) b a (omega (arith, high)) (omega (arith, low)) kept
  where
    one_more : (n : ℕ) → 1 ≤ n + 1
    one_more n = omega arith

    less_one : (m n b a : ℕ) → 1 ≤ m → 1 ≤ n → leb m n ≡ leb (b + 1) (a + 1) → leb (m - 1) (n - 1) ≡ leb b a
    less_one m n b a p q e = grind (arith, nat_tests)

when_some : (b : Bool) (x z : ℤ) → cond b (Some x) None ≡ Some z → (b ≡ true) × (x ≡ z)
when_some true x z e = (refl, cc)
when_some false x z e = absurd cc

-- a duration that is a whole number of ticks is so many times as many finer ones
pub in_finer : (times tick length : ℕ) (ticks : ℤ) → 1 ≤ tick → ticks_in (times * tick) length ≡ Some ticks → ticks_in tick length ≡ Some (finer_ticks times ticks)
in_finer times tick length ticks some e =
    let count = length / (times * tick) in
    let (divides, is) = when_some (length % (times * tick) == 0) (pos count) ticks e in
    let none : length % (times * tick) ≡ 0 = eqb-true (length % (times * tick)) 0 divides in
    let split : count * (times * tick) + length % (times * tick) ≡ length = div-add-mod' length (times * tick) in
    let whole_again : length ≡ (times * count) * tick + 0 = omega (arith, split, none) in
    let over : length / tick ≡ times * count = ap (λ n. n / tick) whole_again ∙ div-mul-add (times * count) tick 0 some in
    let left : length % tick ≡ 0 = ap (λ n. n % tick) whole_again ∙ mod-mul-add (times * count) tick 0 some in
    let told : ticks_in tick length ≡ Some (pos (times * count)) = rw (left, over) refl in
    told ∙ ap (λ z. Some (finer_ticks times z)) is

-- ---- what is read, and messages, tables of links and links

pub after_ok : {A B : Type 0} (r : Result A ScenarioFault) (f : A → Result B ScenarioFault) (y : B) → (r >>= f) ≡ Ok y → (x : A) × (r ≡ Ok x) × (f x ≡ Ok y)
after_ok (Ok x) f y e = (x, refl, e)
after_ok (Err fault) f y e = absurd cc

pub same_ok : {A : Type 0} (x y : A) → ◌≡◌ {A = Result A ScenarioFault} (Ok x) (Ok y) → x ≡ y
same_ok x y e = cc

pub from_ok : (o : Option ℤ) (fault : ScenarioFault) (z : ℤ) → ok_or o fault ≡ Ok z → o ≡ Some z
from_ok (Some x) fault z e = ap Some (same_ok x z e)
from_ok None fault z e = absurd cc

abbrev pub finer_message : ℕ → DraftMessage → DraftMessage
finer_message times message = record message { at = finer_ticks times message.at; until = finer_ticks times message.until }

abbrev pub finer_bundle : ℕ → Bundle → Bundle
finer_bundle times bundle = record bundle { least = finer_ticks times bundle.least; most = finer_ticks times bundle.most }

abbrev pub finer_link : ℕ → DraftLink → DraftLink
finer_link times link = record link { least = finer_ticks times link.least; most = finer_ticks times link.most }

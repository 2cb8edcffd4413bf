-- What the checker accepts: a valid certificate, by its own latency.
use Rattle.std.proofs.Common.{◌≡◌, ◌==◌, ℕ, Bool, true, false, inl, inr, if◌then◌else◌, [], ◌∷◌, Option, Some, None, Result, Ok, Err, IfOk, IfSome, sym}
use Rattle.std.specs.Result.{result_map_both}
use Rattle.std.proofs.lemmas.Result.{IfOk-weaker}
use Rattle.convoy_scenario.specs.Memory.{IsUnlessMemory}
use Rattle.convoy_sim.specs.Delivery.{latency_of}
use Rattle.convoy_regions.specs.Regions.{root_region}
use Rattle.convoy_certificate.specs.Certificate.{Certificate, IsCertificate}
use Rattle.convoy_checker.specs.declared.refused.Refused.{Refused}
use Rattle.convoy_checker.specs.declared.refused.Refused.TheVariants as refused
use Rattle.convoy_checker.specs.Checks.{checked, verdict, first_fault}
use Rattle.convoy_checker.specs.TreeLaws.{CheckedIsValid, ValidIsGreatest}
use Rattle.convoy_checker.specs.Steps.{allows, checked_within, steps_of}
use Rattle.convoy_checker.specs.Validity.{IsValid}
use Rattle.convoy_sim.specs.Greatest.{IsGreatest}

-- a latency that is answered is that of the certificate
tree_latency : (certificate : Certificate) (fault : Option Refused) (latency : ℕ) → verdict certificate fault ≡ Ok latency → latency ≡ certificate.latency
tree_latency certificate None latency answer = cc
tree_latency certificate (Some fault) latency answer = cc

if_latency : (certificate : Certificate) (fault : Option Refused) (other : Refused) (test : Bool) (latency : ℕ) → (if test then verdict certificate fault else Err other) ≡ Ok latency → latency ≡ certificate.latency
if_latency certificate fault other true latency answer = tree_latency certificate fault latency answer
if_latency certificate fault other false latency answer = cc

checked_latency : (certificate : Certificate) (latency : ℕ) → checked certificate ≡ Ok latency → latency ≡ certificate.latency
unfolding checked
checked_latency certificate latency answer =
    let simulated = latency_of certificate.scenario certificate.schedule in
    let fault = first_fault certificate.scenario certificate.latency 0 (root_region certificate.scenario ∷ []) certificate.nodes in
    if_latency certificate fault (refused.Latency simulated) (simulated == certificate.latency) latency answer

-- what is accepted is valid, and has the latency that is answered
ok_is_valid : (certificate : Certificate) (latency : ℕ) → CheckedIsValid → checked certificate ≡ Ok latency → IsValid certificate × (latency ≡ certificate.latency)
ok_is_valid certificate latency law answer =
    let same = checked_latency certificate latency answer in
    let own : checked certificate ≡ Ok certificate.latency = cc in
    ((law certificate).0 own, same)

pub accepted_is_valid : (certificate : Certificate) (answer : Result ℕ Refused) → CheckedIsValid → IsUnlessMemory refused.Memory (checked certificate) answer → IfOk answer (λ latency. IsValid certificate × (latency ≡ certificate.latency))
accepted_is_valid certificate (Ok latency) law (inl is) = ok_is_valid certificate latency law (sym is)
accepted_is_valid certificate (Ok latency) law (inr is) = absurd (cc)
accepted_is_valid certificate (Err fault) law is = tt

-- so that latency is the greatest of the scenario
pub accepted_is_greatest : (certificate : Certificate) (answer : Result ℕ Refused) → CheckedIsValid → ValidIsGreatest → IsCertificate certificate → IsUnlessMemory refused.Memory (checked certificate) answer → IfOk answer (λ latency. IsGreatest certificate.scenario latency)
accepted_is_greatest certificate answer law greatest lawful is =
    IfOk-weaker answer (λ latency. IsValid certificate × (latency ≡ certificate.latency)) (λ latency. IsGreatest certificate.scenario latency) (λ latency valid. rw valid.1 (greatest certificate lawful valid.0)) (accepted_is_valid certificate answer law is)

-- the same where no more steps may be taken than a limit
unlimited : (read : Result ℕ Refused) (latency : ℕ) →
    IsUnlessMemory refused.Memory (result_map_both (λ latency. Some latency) (λ fault. fault) read) (Ok (Some latency)) → read ≡ Ok latency
unlimited (Ok other) latency (inl is) = cc
unlimited (Err fault) latency (inl is) = cc
unlimited read latency (inr is) = absurd (cc)

unlimited_if : (b : Bool) (read : Result ℕ Refused) (latency : ℕ) →
    IsUnlessMemory refused.Memory (if b then result_map_both (λ latency. Some latency) (λ fault. fault) read else Ok None) (Ok (Some latency)) → read ≡ Ok latency
unlimited_if true read latency is = unlimited read latency is
unlimited_if false read latency (inl is) = cc
unlimited_if false read latency (inr is) = absurd (cc)

pub within_is_valid : (limit : Option ℕ) (certificate : Certificate) (answer : Result (Option ℕ) Refused) → CheckedIsValid →
    IsUnlessMemory refused.Memory (checked_within limit certificate) answer →
    IfOk answer (λ found. IfSome found (λ latency. IsValid certificate × (latency ≡ certificate.latency)))
within_is_valid limit certificate (Ok (Some latency)) law is =
    ok_is_valid certificate latency law (unlimited_if (allows limit (steps_of certificate)) (checked certificate) latency is)
within_is_valid limit certificate (Ok None) law is = tt
within_is_valid limit certificate (Err fault) law is = tt

pub within_is_greatest : (limit : Option ℕ) (certificate : Certificate) (answer : Result (Option ℕ) Refused) → CheckedIsValid → ValidIsGreatest → IsCertificate certificate →
    IsUnlessMemory refused.Memory (checked_within limit certificate) answer →
    IfOk answer (λ found. IfSome found (IsGreatest certificate.scenario))
within_is_greatest limit certificate (Ok (Some latency)) law greatest lawful is =
    let valid = within_is_valid limit certificate (Ok (Some latency)) law is in rw valid.1 (greatest certificate lawful valid.0)
within_is_greatest limit certificate (Ok None) law greatest lawful is = tt
within_is_greatest limit certificate (Err fault) law greatest lawful is = tt

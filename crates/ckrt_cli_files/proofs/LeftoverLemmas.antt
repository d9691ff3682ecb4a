-- Whether a disk's program has begun, by what is recovered from it.
use Rattle.std.proofs.Common.{◌≡◌, ◌∙◌, ◌+◌, ◌-◌, ◌≤◌, ◌&&◌, inl, inr, ℕ, min, nat_eq, Bool, true, false, List, length, take, drop, Result, Ok, Err, refl, sym, ap, subst, true≢false, arith}
use Rattle.std.proofs.lemmas.Bool.{cases_lt}
use Rattle.std.proofs.lemmas.Bool.Decides.{nat_tests}
use Rattle.std.proofs.Math.Seq.{take-add}
use Rattle.std.proofs.lemmas.List.{take_all}
use Rattle.std.proofs.lemmas.List.Folds.{list_all-append}
use Rattle.std.specs.Prelude.{◌↔◌, IsTrue, is_ok}
use Rattle.ckrt_stored.specs.Recovery.{AgreesOnFault, Recovered, Recovers}
use Rattle.ckrt_stored.specs.declared.fault.RecoverFault.{RecoverFault}
use Rattle.ckrt_stored.specs.declared.fault.RecoverFault.TheVariants.{NotFormatted, Version, Damaged, Device, OutOfMemory}
use Rattle.ckrt_stored.proofs.RecoverLemmas.{recovered_once, recovers_once}
use Rattle.ckrt_cli_files.specs.Leftovers.{HasNotBegun, IsOfContent, is_zero}

-- what recovers to a program that is at its start is one that hasn't begun, and nothing else is
pub begun_by : (image : List ℕ) (r : Recovered) (f : Bool) → Recovers image (Ok r) → (IsTrue f ↔ ((r.count ≡ 0) × (r.generation ≡ 1))) → IsTrue f ↔ HasNotBegun image
begun_by image r f recovers is = (
  λ t. let at = is.0 t in record { recovered = r; recovers = recovers; no_event = at.0; no_checkpoint = at.1 },
  λ b. let same : b.recovered ≡ r = recovered_once image b.recovered r b.recovers recovers in
      is.1 (ap (λ (x : Recovered). x.count) (sym same) ∙ b.no_event, ap (λ (x : Recovered). x.generation) (sym same) ∙ b.no_checkpoint),
)

-- of a fault of the content
agreed : (Holds : Result Recovered RecoverFault → Type 0) (fault : RecoverFault) → IsOfContent fault → AgreesOnFault fault Holds → Holds (Err fault)
agreed Holds NotFormatted is h = h
agreed Holds Version is h = h
agreed Holds Damaged is h = h
agreed Holds Device is h = absurd (is.0 refl)
agreed Holds OutOfMemory is h = absurd (is.1 refl)

-- where nothing is recovered there is no program that hasn't begun
pub never_begun : (image : List ℕ) (fault : RecoverFault) (f : Bool) → f ≡ false → IsOfContent fault → AgreesOnFault fault (Recovers image) → IsTrue f ↔ HasNotBegun image
never_begun image fault f never is agrees = (
  λ t. absurd (true≢false (sym (subst IsTrue never t))),
  λ b. absurd (true≢false (ap (λ (x : Result Recovered RecoverFault). is_ok x) (recovers_once image (Ok b.recovered) (Err fault) b.recovers (agreed (Recovers image) fault is agrees)))),
)

-- whether a byte is a zero
abbrev is_0 : ℕ → Bool
is_0 byte = nat_eq byte 0

-- zeros, and then what tells whether these go on
pub zeros_by : (at count : ℕ) (bytes : List ℕ) (b : Bool) → is_zero (take at bytes) ≡ true → is_zero (take count (drop at bytes)) ≡ b → is_zero (take (at + count) bytes) ≡ b
zeros_by at count bytes b front behind =
    ap (λ (l : List ℕ). is_zero l) (take-add at count bytes) ∙ list_all-append is_0 (take at bytes) (take count (drop at bytes)) ∙ ap (λ x. x && is_zero (take count (drop at bytes))) front ∙ behind

pub zeros_stop : (at count size : ℕ) (bytes : List ℕ) → at + count ≤ size → is_zero (take at bytes) ≡ true → is_zero (take count (drop at bytes)) ≡ false → is_zero (take size bytes) ≡ false
zeros_stop at count size bytes le front behind =
    let n = at + count in
    let whole : size ≡ n + (size - n) = omega (arith, le) in
    ap (λ k. is_zero (take k bytes)) whole ∙ ap (λ (l : List ℕ). is_zero l) (take-add n (size - n) bytes) ∙ list_all-append is_0 (take n bytes) (take (size - n) (drop n bytes))
    ∙ ap (λ x. x && is_zero (take (size - n) (drop n bytes))) (zeros_by at count bytes false front behind)

-- the first bytes, all where there are fewer
pub zeros_whole : (end size : ℕ) (bytes : List ℕ) → end ≡ min (length bytes) size → is_zero (take end bytes) ≡ true → is_zero (take size bytes) ≡ true
zeros_whole end size bytes least front = elim (cases_lt size (length bytes)) [
  | inl short ↦ ap (λ k. is_zero (take k bytes)) (let same : size ≡ end = grind (arith, nat_tests, least, short) in same) ∙ front
  | inr long ↦ ap (λ (l : List ℕ). is_zero l) (take_all size bytes long ∙ sym (take_all end bytes (let le : length bytes ≤ end = grind (arith, nat_tests, least, long) in le))) ∙ front
]

-- The status that is read.
use Rattle.std.proofs.Common.{◌≡◌, ℕ, Bool, true, false, eqb, refl, ap, ◌∙◌, arith}
use Rattle.std.proofs.lemmas.Bool.Decides.{nat_tests}
use Rattle.ckrt_rv32i.specs.declared.execution.Cause.{Cause}
use Rattle.ckrt_rv32i.specs.declared.execution.Cause.TheVariants as cause
use Rattle.ckrt_calls.specs.declared.table.Status.{Status}
use Rattle.ckrt_calls.specs.declared.table.Status.TheVariants as status
use Rattle.ckrt_tables.specs.Records.{flag, cause_number}
use Rattle.ckrt_tables.specs.Encoding.{framed, status_bytes, status_from}
use Rattle.ckrt_tables.specs.Savable.{is_byte, is_word, fits_status}
use Rattle.ckrt_tables.proofs.Distinct.{cause_is}

-- what a status is saved as
pub record Frame (s : Status) : Type 0 where
  pub kind : ℕ
  pub thread : ℕ
  pub cause : ℕ
  pub word : ℕ
  pub bytes : status_bytes s ≡ framed kind thread cause word
  pub kind_fits : is_byte kind ≡ true
  pub thread_fits : is_byte thread ≡ true
  pub cause_fits : is_byte cause ≡ true
  pub word_fits : is_word word ≡ true
  pub back : status_from kind thread cause word ≡ s

number_fits : (c : Cause) → is_byte (cause_number c) ≡ true
number_fits cause.FetchRange = refl
number_fits cause.Illegal = refl
number_fits cause.JumpMisaligned = refl
number_fits cause.LoadMisaligned = refl
number_fits cause.LoadRange = refl
number_fits cause.StoreMisaligned = refl
number_fits cause.StoreRange = refl
number_fits cause.Breakpoint = refl
number_fits cause.Gate = refl

pub frame : (s : Status) → fits_status s ≡ true → Frame s
frame status.Running f = record { kind = 0; thread = 0; cause = 0; word = 0; bytes = refl; kind_fits = refl; thread_fits = refl; cause_fits = refl; word_fits = refl; back = refl }
frame (status.Exited code) f = record { kind = 1; thread = 0; cause = 0; word = code; bytes = refl; kind_fits = refl; thread_fits = refl; cause_fits = refl; word_fits = f; back = refl }
frame (status.Faulted t pc c) f = record {
  kind = 2;
  thread = t;
  cause = cause_number c;
  word = pc;
  bytes = refl;
  kind_fits = refl;
  thread_fits = grind (arith, nat_tests, f);
  cause_fits = number_fits c;
  word_fits = grind (arith, nat_tests, f);
  back = ap (λ d. status.Faulted t pc d) (cause_is c);
}

pub status_found : (s : Status) (p : Frame s) (kind thread cause word : ℕ) → kind ≡ p.kind → thread ≡ p.thread → cause ≡ p.cause → word ≡ p.word → status_from kind thread cause word ≡ s
status_found s p kind thread cause word k t c w =
    ap (λ x. status_from x thread cause word) k
    ∙ ap (λ x. status_from p.kind x cause word) t
    ∙ ap (λ x. status_from p.kind p.thread x word) c
    ∙ ap (λ x. status_from p.kind p.thread p.cause x) w
    ∙ p.back

pub closed_found : (b : Bool) → eqb (flag 1 b) 1 ≡ b
closed_found true = refl
closed_found false = refl

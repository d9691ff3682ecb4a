-- What a submit answers, and what is said of an answer.
use Rattle.std.proofs.Common.{◌≡◌, ℕ, Option, Some, None, Result, Ok, Err, refl, subst}
use Rattle.std.specs.Prelude.{OnOk, OnErr, MatchOption}
use Rattle.ckrt_machine.specs.declared.event.Answer.{Answer}
use Rattle.ckrt_recovery.specs.declared.fault.SubmitFault.{SubmitFault}

pub at_ok : {A E : Type 0} (r : Result A E) (P : Type 0) (x : A) → r ≡ Ok x → OnOk r P → P
at_ok r P x is h = subst (λ q. OnOk q P) is h

pub at_err : {A E : Type 0} (r : Result A E) (P : Type 0) (x : E) → r ≡ Err x → OnErr r P → P
at_err r P x is h = subst (λ q. OnErr q P) is h

pub taken : (r : Result (ℕ × Answer) SubmitFault) (o : Option SubmitFault) (x y : ℕ × Answer) → r ≡ Ok x → MatchOption o (r ≡ Ok y) (λ f. r ≡ Err f) → o ≡ None
taken r None x y e h = refl
taken r (Some f) x y e h = absurd (cc)

pub refused : (r : Result (ℕ × Answer) SubmitFault) (o : Option SubmitFault) (fault : SubmitFault) (y : ℕ × Answer) → r ≡ Err fault → MatchOption o (r ≡ Ok y) (λ f. r ≡ Err f) → o ≡ Some fault
refused r None fault y e h = cc
refused r (Some f) fault y e h = cc

pub at_none : (o : Option SubmitFault) (P : Type 0) (Q : SubmitFault → Type 0) → o ≡ None → MatchOption o P Q → P
at_none None P Q e h = h
at_none (Some f) P Q e h = absurd (cc)

pub at_some : (o : Option SubmitFault) (P Q : Type 0) (fault : SubmitFault) → o ≡ Some fault → MatchOption o P (λ _. Q) → Q
at_some None P Q fault e h = absurd (cc)
at_some (Some f) P Q fault e h = h

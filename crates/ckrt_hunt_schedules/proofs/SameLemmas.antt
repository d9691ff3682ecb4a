-- What `==` says of two outcomes: whether they are the same.
use Rattle.std.proofs.Common.{◌≡◌, ◌∙◌, ◌&&◌, ℕ, Bool, true, false, List, Option, Some, None, ap, ap₂, refl, subst, sym, true≢false, rules}
use Rattle.std.specs.Option.{option_eq}
use Rattle.std.specs.Str.{bytes_eq}
use Rattle.std.specs.Bool.{Decides}
use Rattle.std.specs.Cmp.Lexicographic.{pointwise}
use Rattle.std.proofs.lemmas.Slice.Eq.{slice_eq-Decides, bytes_eq-Decides}
use Rattle.ckrt_hunt_schedules.specs.declared.outcome.Waiting.{Waiting}
use Rattle.ckrt_hunt_schedules.specs.declared.outcome.Outcome.{Outcome}
use Rattle.ckrt_hunt_schedules.specs.declared.outcome.Outcome.TheVariants.{Exited, Faulted, Deadlock, WaitsForInput, NoEnd}
use Rattle.ckrt_hunt_schedules.specs.declared.runs.Told.{Told}
use Rattle.ckrt_hunt_schedules.specs.contracts.outcome.WaitingPartialEq.TheImpl as waiting_eq
use Rattle.ckrt_hunt_schedules.specs.contracts.outcome.OutcomePartialEq.TheImpl as outcome_eq
use Rattle.ckrt_hunt_schedules.specs.contracts.runs.ToldPartialEq.TheImpl as told_eq

waiting_decides : (a b : Waiting) → Decides ((waiting_eq.ghosts).eq a b) (a ≡ b)
waiting_decides a b = search rules

waitings_decide : (xs ys : List Waiting) → Decides (pointwise (waiting_eq.ghosts).eq xs ys) (xs ≡ ys)
waitings_decide xs ys = slice_eq-Decides waiting_decides xs ys (pointwise (waiting_eq.ghosts).eq xs ys) refl

same_waitings : (xs ys : List Waiting) → pointwise (waiting_eq.ghosts).eq xs ys ≡ true → xs ≡ ys
same_waitings xs ys = (waitings_decide xs ys).0

itself : (a : Outcome) → (outcome_eq.ghosts).eq a a ≡ true
itself (Exited s) = search rules
itself (Faulted t pc cause) = search rules
itself (Deadlock v) = (waitings_decide v.items v.items).1 refl
itself WaitsForInput = search rules
itself (NoEnd v) = (waitings_decide v.items v.items).1 refl

same_outcome : (a b : Outcome) → (outcome_eq.ghosts).eq a b ≡ true → a ≡ b
same_outcome (Deadlock v) (Deadlock w) h = ap (λ (items : List Waiting). Deadlock (record { items = items })) (same_waitings v.items w.items h)
same_outcome (Deadlock v) (Exited s) h = absurd (cc)
same_outcome (Deadlock v) (Faulted t pc cause) h = absurd (cc)
same_outcome (Deadlock v) WaitsForInput h = absurd (cc)
same_outcome (Deadlock v) (NoEnd w) h = absurd (cc)
same_outcome (Exited s) b h = search rules
same_outcome (Faulted t pc cause) b h = search rules
same_outcome WaitsForInput b h = search rules
same_outcome (NoEnd v) (NoEnd w) h = ap (λ (items : List Waiting). NoEnd (record { items = items })) (same_waitings v.items w.items h)
same_outcome (NoEnd v) (Exited s) h = absurd (cc)
same_outcome (NoEnd v) (Faulted t pc cause) h = absurd (cc)
same_outcome (NoEnd v) (Deadlock w) h = absurd (cc)
same_outcome (NoEnd v) WaitsForInput h = absurd (cc)

outcome_decides : (a b : Outcome) → Decides ((outcome_eq.ghosts).eq a b) (a ≡ b)
outcome_decides a b = (same_outcome a b, λ e. subst (λ (x : Outcome). (outcome_eq.ghosts).eq a x ≡ true) e (itself a))

option_decides : {A : Type 0} {E : A → A → Bool} → ((a b : A) → Decides (E a b) (a ≡ b)) → (a b : Option A) → Decides (option_eq E a b) (a ≡ b)
option_decides each None None = (λ h. refl, λ h. refl)
option_decides each None (Some y) = (λ h. absurd (cc), λ h. cc)
option_decides each (Some x) None = (λ h. absurd (cc), λ h. cc)
option_decides each (Some x) (Some y) = (λ h. ap Some ((each x y).0 h), λ h. (each x y).1 (cc))

digests_decide : (a b : Option (List ℕ)) → Decides (option_eq bytes_eq a b) (a ≡ b)
digests_decide = option_decides bytes_eq-Decides

pub both : (a b : Bool) → (a && b) ≡ true → (a ≡ true) × (b ≡ true)
both true b e = (refl, e)
both false b e = absurd (true≢false (sym e))

same_told : (a b : Told) → (a.outcome ≡ b.outcome) × (a.digest ≡ b.digest) → a ≡ b
same_told a b same =
    ap (λ (o : Outcome). let t : Told = record { outcome = o; digest = a.digest } in t) same.0
    ∙ ap (λ (g : Option (List ℕ)). let t : Told = record { outcome = b.outcome; digest = g } in t) same.1

told_itself : (a : Told) → (told_eq.ghosts).eq a a ≡ true
told_itself a = ap₂ ◌&&◌ (itself a.outcome) ((digests_decide a.digest a.digest).1 refl)

pub told_decides : (a b : Told) → Decides ((told_eq.ghosts).eq a b) (a ≡ b)
told_decides a b =
    let parts : (told_eq.ghosts).eq a b ≡ true → (a.outcome ≡ b.outcome) × (a.digest ≡ b.digest) =
    λ h. (let p = both ((outcome_eq.ghosts).eq a.outcome b.outcome) (option_eq bytes_eq a.digest b.digest) h in ((outcome_decides a.outcome b.outcome).0 p.0, (digests_decide a.digest b.digest).0 p.1)) in
    (λ h. same_told a b (parts h), λ e. subst (λ (x : Told). (told_eq.ghosts).eq a x ≡ true) e (told_itself a))

-- The test of the tables says that they are well-formed: who waits for input, and the status.
use Rattle.std.proofs.Common.{◌≡◌, ◌%◌, ℕ, Bool, true, false, not, if◌then◌else◌, List, [], ◌∷◌, is_some, refl, sym, subst, arith}
use Rattle.std.specs.List.{list_all, find}
use Rattle.std.proofs.lemmas.Bool.Decides.{nat_tests}
use Rattle.ckrt_rv32i.specs.declared.execution.Cause.{Cause}
use Rattle.ckrt_thread.specs.declared.records.Wait.{Wait}
use Rattle.ckrt_thread.specs.declared.records.Object.TheVariants as object
use Rattle.ckrt_thread.specs.Waits.{is_for}
use Rattle.ckrt_thread.specs.State.{State, is_any_live, is_live}
use Rattle.ckrt_calls.specs.WellFormed.{may_be_read, lacks_input, lies_ahead, may_be_its_status}
use Rattle.ckrt_calls.specs.declared.table.Status.{Status}
use Rattle.ckrt_calls.specs.declared.table.Status.TheVariants.{Running, Exited, Faulted}

-- INPUT

pub not_not : (b : Bool) → b ≡ not (not b)
not_not true = refl
not_not false = refl

all_lack : (p : Wait → Bool) (ws : List Wait) → list_all (λ w. if p w then true else true) ws ≡ true
all_lack p [] = refl
all_lack p (w ∷ ws) = grind (arith, nat_tests, all_lack p ws)

none_of : (p : Wait → Bool) (ws : List Wait) → list_all (λ w. if p w then false else true) ws ≡ not (is_some (find p ws))
none_of p [] = refl
none_of p (w ∷ ws) = grind (arith, nat_tests, none_of p ws)

-- nothing is there to be read
pub all_lack_input : (input : List ℕ) (closed : Bool) (ws : List Wait) → may_be_read input closed ≡ false → list_all (lacks_input input closed) ws ≡ true
all_lack_input input closed ws n = subst (λ b. list_all (λ w. if is_for object.Input w then not b else true) ws ≡ true) (sym n) (all_lack (is_for object.Input) ws)

-- something is, and so nobody may wait for it
pub nobody_reads : (input : List ℕ) (closed : Bool) (ws : List Wait) → may_be_read input closed ≡ true → list_all (lacks_input input closed) ws ≡ not (is_some (find (is_for object.Input) ws))
nobody_reads input closed ws n =
    subst (λ b. list_all (λ w. if is_for object.Input w then not b else true) ws ≡ not (is_some (find (is_for object.Input) ws))) (sym n) (none_of (is_for object.Input) ws)

-- THE STATUS

module _ (clock : ℕ) (s : State) where
  pub some_live : (status : Status) → may_be_its_status status clock s ≡ true → status ≡ Running → is_any_live s ≡ true
  some_live status h e = (let r = rw e at h in grind (arith, nat_tests, r))

  pub none_due : (status : Status) → may_be_its_status status clock s ≡ true → status ≡ Running → list_all (lies_ahead clock) s.waits ≡ true
  none_due status h e = (let r = rw e at h in grind (arith, nat_tests, r))

  pub live_at_fault : (status : Status) → may_be_its_status status clock s ≡ true → (t pc : ℕ) (cause : Cause) → status ≡ Faulted t pc cause → is_live s t ≡ true
  live_at_fault status h t pc cause e = (let r = rw e at h in grind (arith, nat_tests, r))

  pub aligned_at_fault : (status : Status) → may_be_its_status status clock s ≡ true → (t pc : ℕ) (cause : Cause) → status ≡ Faulted t pc cause → pc % 4 ≡ 0
  aligned_at_fault status h t pc cause e = (let r = rw e at h in grind (arith, nat_tests, r))

  pub status_met : (status : Status) → (status ≡ Running → is_any_live s ≡ true) → (status ≡ Running → list_all (lies_ahead clock) s.waits ≡ true)
      → ((t pc : ℕ) (cause : Cause) → status ≡ Faulted t pc cause → is_live s t ≡ true) → ((t pc : ℕ) (cause : Cause) → status ≡ Faulted t pc cause → pc % 4 ≡ 0) → may_be_its_status status clock s ≡ true
  status_met Running live ahead fault aligned = (let l = live refl in let a = ahead refl in grind (arith, nat_tests, l, a))
  status_met (Exited code) live ahead fault aligned = refl
  status_met (Faulted t pc cause) live ahead fault aligned = (let l = fault t pc cause refl in let a = aligned t pc cause refl in grind (arith, nat_tests, l, a))

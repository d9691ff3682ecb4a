-- What sessions refuse, and what their disks fail.
use Rattle.std.proofs.Common.{◌≡◌, ◌<◌, ◌∙◌, ℕ, true, false, [], List, length, Option, Some, None, Result, Ok, Err, ap, sym, subst, refl, arith}
use Rattle.std.proofs.lemmas.Bool.Decides.{nat_tests}
use Rattle.std.proofs.lemmas.Bool.{false≢true}
use Rattle.std.specs.Prelude.{MatchOption, IfErr, is_err, is_some, nat_lt}
use Rattle.ckrt_disk.specs.declared.disk.Disk.{Ghosts}
use Rattle.ckrt_events.specs.Bytes.{IsInRange}
use Rattle.ckrt_events.specs.declared.event.Event.{Event}
use Rattle.ckrt_events.specs.Line.{command_of}
use Rattle.ckrt_events.specs.declared.command.LineFault.{LineFault}
use Rattle.ckrt_machine.specs.declared.event.Answer.{Answer}
use Rattle.ckrt_recovery.specs.Calls.{Checkpoints, Commits, IsAfterEvent, IsAnswered, WritesJournal, checkpoint_refusal}
use Rattle.ckrt_recovery.specs.View.{View, after_event, is_refused, opened, refusal_of, view_of}
use Rattle.ckrt_stored.specs.Layout.{is_valid, memory_size}
use Rattle.ckrt_stored.specs.declared.config.Config.{Config}
use Rattle.ckrt_recovery.specs.declared.fault.CommitFault.{CommitFault}
use Rattle.ckrt_recovery.specs.declared.fault.CommitFault.TheVariants as commit
use Rattle.ckrt_recovery.specs.declared.fault.SubmitFault.{SubmitFault}
use Rattle.ckrt_recovery.specs.declared.session.Session.{Session}
use Rattle.ckrt_stored.specs.Recovery.{Recovered}
use Rattle.ckrt_witness.specs.Faults.{FailsCommit, IsLastGeneration, IsRefused}

-- what answers Err was refused, and changed nothing
refused_by : {X Y : Type 0} (old new : Y) (refusal : Option SubmitFault) (x : X) (P : Type 0) (result : Result X SubmitFault) → is_err result ≡ true → MatchOption refusal (result ≡ Ok x) (λ fault. result ≡ Err fault)
    → MatchOption refusal P (λ _. new ≡ old) → (f : SubmitFault) × (refusal ≡ Some f) × (new ≡ old)
refused_by old new None x P result is answer after = absurd (false≢true (sym (ap is_err answer) ∙ is))
refused_by old new (Some f) x P result is answer after = (f, refl, after)

-- what answers Ok wasn't
taken_by : {X : Type 0} (refusal : Option SubmitFault) (x : X) (result : Result X SubmitFault) → is_err result ≡ false → MatchOption refusal (result ≡ Ok x) (λ fault. result ≡ Err fault) → refusal ≡ None
taken_by None x result is answer = refl
taken_by (Some f) x result is answer = absurd (false≢true (sym is ∙ ap is_err answer))

none≢some : (f : SubmitFault) → None ≡ Some f → ⊥
none≢some f is = false≢true (ap is_some is)

still_running : (refusal : Option SubmitFault) (v w u : View) (Q : Type 0) → refusal ≡ None → MatchOption refusal (w ≡ u) (λ _. Q) → u.failed ≡ v.failed → v.failed ≡ false → w.failed ≡ false
still_running None v w u Q is after same running = ap (λ (x : View). x.failed) after ∙ (same ∙ running)
still_running (Some f) v w u Q is after same running = absurd (none≢some f (sym is))

module _ {D : Type 0} {d : Ghosts D} (other event : Event) (first s old new : Session D d) where
  pub fails_commit : (x y : Result (ℕ × Answer) SubmitFault) (z : Result ℕ CommitFault) (r : Recovered) → is_err x ≡ true → is_err y ≡ false → z ≡ Err commit.Device → IsAnswered first other x → IsAfterEvent first other s
      → IsAnswered s event y → IsAfterEvent s event old → view_of first ≡ opened r → WritesJournal old z new → Commits old z new → d.is_honest new.disk → IsInRange event → FailsCommit d
  fails_commit x y z r is_no is_yes is_device answer after taken next opens wrote made honest in_range =
      let writes : WritesJournal old (Err commit.Device) new = subst (λ (q : Result ℕ CommitFault). WritesJournal old q new) is_device wrote in
      let commits : Commits old (Err commit.Device) new = subst (λ (q : Result ℕ CommitFault). Commits old q new) is_device made in
      let refused = refused_by first s (refusal_of (view_of first) other) _ _ x is_no answer after in
      let taken_first : IsAnswered first event y = subst (λ (q : Session D d). IsAnswered q event y) refused.2 taken in
      let next_first : IsAfterEvent first event old = subst (λ (q : Session D d). IsAfterEvent q event old) (refused.2) next in
      let none : refusal_of (view_of first) event ≡ None = taken_by (refusal_of (view_of first) event) _ y is_yes taken_first in
      let running_first : first.failed ≡ false = ap (λ (v : View). v.failed) opens in
      let running : old.failed ≡ false = still_running (refusal_of (view_of first) event) (view_of first) (view_of old) (after_event (view_of first) event) _ none next_first refl running_first in
      record {
        first = first;
        other = other;
        why = refused.0;
        refused = refused.1;
        event = event;
        in_range = in_range;
        taken = none;
        old = old;
        after = next_first;
        running = running;
        pending = λ empty. false≢true (commits.none_pending running empty);
        new = new;
        fails = commits;
        honest = honest;
        grew = writes.fault refl;
        failed = ap (λ (v : View). v.failed) commits.err;
        no_event = ap (λ (v : View). refusal_of v event) commits.err;
        no_checkpoint = ap checkpoint_refusal commits.err;
      }

-- a checkpoint that answers GenerationsUsed had that reason
used_by : (refusal : Option CommitFault) (result : Result ℕ CommitFault) → result ≡ Err commit.GenerationsUsed → MatchOption refusal (commit.GenerationsUsed ≡ commit.Device) (λ fault. result ≡ Err fault) → refusal ≡ Some commit.GenerationsUsed
used_by None result is h = absurd (cc)
used_by (Some f) result is h = cc

kept_by : (refusal : Option CommitFault) (f : CommitFault) (Q : Type 0) → refusal ≡ Some f → MatchOption refusal (Unit {0}) (λ _. Q) → Q
kept_by None f Q is h = absurd (false≢true (ap is_some is))
kept_by (Some g) f Q is h = h

pub refuses_checkpoint : {D : Type 0} {d : Ghosts D} (old new : Session D d) → (z : Result ℕ CommitFault) → z ≡ Err commit.GenerationsUsed → Checkpoints old z new → d.is_honest new.disk → IsLastGeneration d
refuses_checkpoint {d = d} old new z is_used checkpoints honest =
    let made : Checkpoints old (Err commit.GenerationsUsed) new = subst (λ (q : Result ℕ CommitFault). Checkpoints old q new) is_used checkpoints in
    let used = used_by (checkpoint_refusal (view_of old)) (Err commit.GenerationsUsed) refl made.refused in
    let same : new ≡ old = kept_by (checkpoint_refusal (view_of old)) commit.GenerationsUsed (new ≡ old) used made.unchanged in
    record { session = old; honest = subst (λ q. d.is_honest q.disk) same honest; no_checkpoint = used }

-- a line that is no command, and an image that is too long for a configuration in its ranges
pub refuses : (line image : List ℕ) (config : Config) (why : LineFault) → command_of line ≡ Err why → is_valid config ≡ true → memory_size config < length image → IsRefused line image config
refuses line image config why none valid long =
    let is : nat_lt (memory_size config) (length image) ≡ true = grind (arith, nat_tests) in
    record { why = why; no_command = none; valid = valid; too_long = rw valid is }

-- The output that was taken of a session, call after call.
use Rattle.std.proofs.Common.{◌≡◌, ℕ, ◌≤◌, List, [], ◌++◌, length, take, drop, sym, ◌∙◌, ap, subst, arith, append_assoc, append-nil, length-take-le}
use Rattle.std.proofs.lemmas.List.{take-append-drop, take-append-le, drop-append-le, take_at}
use Rattle.ckrt_disk.specs.declared.disk.Disk.{Ghosts}
use Rattle.ckrt_events.specs.declared.event.Event.{Event}
use Rattle.ckrt_machine.specs.Events.{output_of}
use Rattle.ckrt_stored.specs.Programs.{Program, start_of, state_after, output_after}
use Rattle.ckrt_stored.proofs.ReplayLemmas.{output-append}
use Rattle.ckrt_recovery.specs.declared.session.Session.{Session}
use Rattle.ckrt_recovery.specs.Represents.{Represents, acknowledged_of}
use Rattle.ckrt_recovery.specs.View.{View, view_of, confirmed_to}
use Rattle.ckrt_recovery.proofs.SessionLemmas.{output_all, output_end, represents_kept}
use Rattle.ckrt_main.specs.Pieces.{HasTaken}
use Rattle.ckrt_main.specs.Replies.{Reply, output_in, shown_in}
use Rattle.ckrt_main.proofs.ReplyLemmas.{told-append}

module _ {D : Type 0} {g : Ghosts D} where
  pub no_more : (p : Program) (events : List Event) (s : Session D g) → Represents p events s → Represents p (events ++ []) s
  no_more p events s reps = subst (λ (l : List Event). Represents p l s) (sym (append-nil events)) reps

  -- the confirmed offset is within the output
  within : (p : Program) (events : List Event) (s : Session D g) → Represents p events s → s.progress.confirmed ≤ length (output_after p events)
  within p events s reps = omega (arith, output_end p events s reps)

  -- more events change nothing of the output before them
  pub taken_still : (p : Program) (events xs : List Event) (from : ℕ) (bytes : List ℕ) (old new : Session D g) → HasTaken p events from bytes old → new.progress.confirmed ≡ old.progress.confirmed → Represents p (events ++ xs) new → HasTaken p (events ++ xs) from bytes new
  taken_still p events xs from bytes old new has same reps = record {
    represents = reps;
    start = omega (arith, has.start, same);
    taken = has.taken ∙ ap (drop from)
        (sym (take-append-le old.progress.confirmed (output_after p events) (output_of xs (state_after p events)) (within p events old has.represents))
        ∙ ap (take old.progress.confirmed) (sym (output-append events xs (start_of p)))
        ∙ ap (λ n. take n (output_after p (events ++ xs))) (sym same));
  }

  -- what was taken, and the released output behind it
  taken_on : (p : Program) (events : List Event) (from : ℕ) (bytes lent : List ℕ) (old : Session D g) → HasTaken p events from bytes old → lent ≡ drop old.progress.confirmed (output_after p (acknowledged_of events old)) → bytes ++ lent ≡ drop from (take old.released (output_after p events))
  taken_on p events from bytes lent old has is =
      let out = output_after p (acknowledged_of events old) in
      let c = old.progress.confirmed in
      let size : old.released ≡ length out = has.represents.released in
      let le : c ≤ length out = omega (arith, size, old.released_from) in
      let more = output_of (drop old.acknowledged events) (state_after p (take old.acknowledged events)) in
      let whole : output_after p events ≡ out ++ more = output_all p events old has.represents in
      let front : take c (output_after p events) ≡ take c out = ap (take c) whole ∙ take-append-le c out more le in
      let all : take old.released (output_after p events) ≡ out = ap (take old.released) whole ∙ take_at out more old.released (sym size) in
      let count : length (take c out) ≡ c = length-take-le c out le in
      ap (λ (l : List ℕ). l ++ lent) (has.taken ∙ ap (drop from) front)
      ∙ (ap (λ (l : List ℕ). drop from (take c out) ++ l) is
      ∙ (sym (drop-append-le from (take c out) (drop c out) (omega (arith, count, has.start)))
      ∙ (ap (drop from) (take-append-drop c out) ∙ ap (drop from) (sym all))))

  -- the released output was taken and confirmed
  pub taken_output : (p : Program) (events : List Event) (from : ℕ) (bytes lent : List ℕ) (old mid new : Session D g) → view_of mid ≡ view_of old → mid.disk ≡ old.disk → view_of new ≡ confirmed_to (view_of mid) old.released
      → ((p : Program) (events : List Event) → Represents p events mid → Represents p events new)
      → ((p : Program) (events : List Event) → Represents p events old → lent ≡ drop old.progress.confirmed (output_after p (acknowledged_of events old)))
      → HasTaken p events from bytes old → HasTaken p (events ++ []) from (bytes ++ lent) new
  taken_output p events from bytes lent old mid new kept disk view represents is has =
      let view_now : view_of new ≡ confirmed_to (view_of old) old.released = view ∙ ap (λ (v : View). confirmed_to v old.released) kept in
      let confirmed : new.progress.confirmed ≡ old.released = ap (λ (v : View). v.recovered.confirmed) view_now in
      subst (λ (l : List Event). HasTaken p l from (bytes ++ lent) new) (sym (append-nil events)) (record {
        represents = represents p events (represents_kept p events old has.represents mid kept disk);
        start = omega (arith, has.start, confirmed, old.released_from);
        taken = taken_on p events from bytes lent old has (is p events has.represents) ∙ ap (λ n. drop from (take n (output_after p events))) (sym confirmed);
      })

  -- nothing happened
  pub taken_nothing : (p : Program) (events : List Event) (from : ℕ) (bytes : List ℕ) (s : Session D g) → HasTaken p events from bytes s → HasTaken p (events ++ []) from (bytes ++ []) s
  taken_nothing p events from bytes s has = subst (λ (l : List ℕ). HasTaken p (events ++ []) from l s) (sym (append-nil bytes)) (subst (λ (l : List Event). HasTaken p l from bytes s) (sym (append-nil events)) has)

  -- what was taken after what was taken
  pub taken_more : (p : Program) (events xs ys : List Event) (from : ℕ) (bytes : List ℕ) (first second : List Reply) (s : Session D g) → HasTaken p ((events ++ xs) ++ ys) from ((bytes ++ shown_in first) ++ shown_in second) s
      → HasTaken p (events ++ (xs ++ ys)) from (bytes ++ shown_in (first ++ second)) s
  taken_more p events xs ys from bytes first second s has =
      subst (λ (l : List ℕ). HasTaken p (events ++ (xs ++ ys)) from l s) (append_assoc bytes (shown_in first) (shown_in second) ∙ ap (λ (l : List ℕ). bytes ++ l) (sym (told-append output_in first second)))
      (subst (λ (l : List Event). HasTaken p l from ((bytes ++ shown_in first) ++ shown_in second) s) (append_assoc events xs ys) has)

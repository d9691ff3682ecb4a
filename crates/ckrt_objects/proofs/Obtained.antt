-- What is left when a thread got what it waited for: with a result, or gone to its next handler, which may be its end.
use Rattle.std.proofs.Common.{◌≡◌, ℕ, Bool, true, false, Option, Some, refl, ◌∙◌}
use Rattle.std.specs.List.{list_any, find, filter}
use Rattle.ckrt_thread.specs.declared.records.Wait.{Wait}
use Rattle.ckrt_thread.specs.declared.records.Object.TheVariants as object
use Rattle.ckrt_thread.specs.Waits.{is_for, is_of, without}
use Rattle.ckrt_thread.specs.State.{State, IsWellFormed, is_live, is_waiting, unwaited, woken}
use Rattle.ckrt_thread.specs.Granting.{wait_result, answered, obtained}
use Rattle.ckrt_thread.proofs.Changes.{well_formed_without}
use Rattle.ckrt_thread.proofs.Known.{waits_at_most_once}
use Rattle.ckrt_thread.proofs.Unwound.{waits_answered, live_answered}
use Rattle.ckrt_thread.proofs.WaitLemmas.{gone}
use Rattle.ckrt_objects.proofs.Waits.{found_holds, queue_elsewhere, another, IsAmong, none_among, among_without}

-- THE WAITS

-- an answer begins no wait, and perhaps ends the one of who joins the thread
pub among_answered : (o : Option ℕ) (t : ℕ) (s : State) → IsAmong (answered o t s).waits s.waits
among_answered o t s = waits_answered (λ ws. IsAmong ws s.waits) o t s (λ f h. h) (λ j _. among_without j.thread s.waits)

pub among_rest : (w : Wait) (s : State) → IsAmong (obtained w s).waits (without w.thread s.waits)
among_rest w s = among_answered (wait_result w.reason) w.thread (unwaited w.thread s)

pub among_obtained : (w : Wait) (s : State) → IsAmong (obtained w s).waits s.waits
among_obtained w s = λ f h. among_rest w s f (among_without w.thread s.waits f h)

-- the thread waits no more
pub free_obtained : (w : Wait) (s : State) → IsWellFormed s → list_any (is_of w.thread) (obtained w s).waits ≡ false
free_obtained w s k = none_among (obtained w s).waits (without w.thread s.waits) (among_rest w s) (is_of w.thread) (gone w.thread s.waits (waits_at_most_once s w.thread k))

-- THE QUEUE of waits that pass a test, where nobody who joins a thread passes

abbrev pub PassesNoJoiner : (Wait → Bool) → Type 0
PassesNoJoiner p = (t : ℕ) (w : Wait) → is_for (object.End t) w ≡ true → p w ≡ false

-- the thread's joiner is not in it
pub queue_answered : (p : Wait → Bool) → PassesNoJoiner p → (o : Option ℕ) (t : ℕ) (s : State) → IsWellFormed s → filter p (answered o t s).waits ≡ filter p s.waits
queue_answered p joins o t s k =
    waits_answered (λ ws. filter p ws ≡ filter p s.waits) o t s refl
    (λ j e. queue_elsewhere (is_for (object.End t)) p s.waits j e (joins t j (found_holds (is_for (object.End t)) s.waits j e)) (waits_at_most_once s j.thread k))

-- nor is a wait that was found and does not pass
pub queue_obtained : (p : Wait → Bool) → PassesNoJoiner p → (q : Wait → Bool) (w : Wait) (s : State) → IsWellFormed s → find q s.waits ≡ Some w → p w ≡ false
    → filter p (obtained w s).waits ≡ filter p s.waits
queue_obtained p joins q w s k e n =
    queue_answered p joins (wait_result w.reason) w.thread (unwaited w.thread s) (well_formed_without s w.thread k)
    ∙ queue_elsewhere q p s.waits w e n (waits_at_most_once s w.thread k)

-- THE THREADS

-- who does not wait lives on
pub live_obtained : (t : ℕ) (w : Wait) (s : State) → is_live s t ≡ true → is_waiting s t ≡ false → is_waiting s w.thread ≡ true → is_live (obtained w s) t ≡ true
live_obtained t w s l n i = live_answered t (wait_result w.reason) w.thread (unwaited w.thread s) (another w.thread t s.waits i n) l

-- a wait with a result ends with it
pub obtained_result : (v : ℕ) (w : Wait) (s : State) → wait_result w.reason ≡ Some v → obtained w s ≡ woken w.thread v s
obtained_result v w s e = rw e refl

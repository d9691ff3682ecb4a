-- What a session answers, by what is asked.
use Rattle.std.proofs.Common.{◌≡◌, ◌⊎◌, ◌↔◌, IsTrue, inr, ℕ, Bool, true, false, Option, Some, None, List, refl, sym, ap, subst}
use Rattle.std.proofs.lemmas.Bool.{false≢true}
use Rattle.std.specs.Prelude.{IfErr, IfOk, IfSome, IsErrOf, Result, Ok, Err, is_some}
use Rattle.ckrt_gdb_forms.specs.declared.request.Request.{Request}
use Rattle.ckrt_gdb_playback.specs.declared.going.Way.{Way}
use Rattle.ckrt_gdb_stub.specs.declared.fault.DebugFault.{DebugFault}
use Rattle.ckrt_gdb_stub.specs.declared.fault.DebugFault.TheVariants.{OutOfMemory, Refused}
use Rattle.ckrt_gdb_stub.specs.declared.stub.Stub.{Stub}
use Rattle.ckrt_gdb_playback.specs.Look.{fitting}
use Rattle.ckrt_gdb_history.specs.declared.position.Position.{Position}
use Rattle.ckrt_gdb_history.specs.Positions.{History}
use Rattle.ckrt_gdb_playback.specs.Playback.{HasPlace, history_of, position_of}
use Rattle.ckrt_gdb_playback.specs.Requests.{last_text}
use Rattle.ckrt_gdb_stub.specs.Session.{AnswersBy, HasBounds, HasGone, HasMoved, IsOfRun, IsOutside, IsReplayed, IsSame, Names, Reaches}
use Rattle.ckrt_gdb_playback.proofs.MotionLemmas.{is_run, moved_run}

pub same : (s : Stub) → IsSame s s
same s = record { history = refl; view = refl; stops = refl; bounds_are = refl; first = refl; recorded = refl }

pub by_look : (look : Option (List ℕ)) (way : Option Way) (request : Request) (s : Stub) (out : List ℕ) → is_some look ≡ true
    → IfSome look (λ text. out ≡ fitting text) → AnswersBy look way request s s out
by_look None way request s out is payload = absurd (false≢true is)
by_look (Some text) way request s out is payload = (same s, payload)

module _ (look : Option (List ℕ)) (way : Option Way) (request : Request) (old new : Stub) (out : List ℕ) (none : is_some look ≡ false) where
  by_way_of : (look : Option (List ℕ)) (way : Option Way) (w : Way) → is_some look ≡ false → way ≡ Some w → HasMoved w old new
      → out ≡ fitting (last_text new.desk.view) → AnswersBy look way request old new out
  by_way_of (Some text) way w off is moved told = absurd (false≢true (sym off))
  by_way_of None None w off is moved told = absurd (cc)
  by_way_of None (Some x) w off is moved told = let e : w ≡ x = cc in (subst (λ (y : Way). HasMoved y old new) e moved, told)

  pub by_way : (w : Way) → way ≡ Some w → HasMoved w old new → out ≡ fitting (last_text new.desk.view) → AnswersBy look way request old new out
  by_way w is moved told = by_way_of look way w none is moved told

-- what a motion answers
pub by_walk : {E : Type 0} (look : Option (List ℕ)) (way : Option Way) (request : Request) (old : Stub) (out : List ℕ) (r : Result Stub E) (w : Way)
    → is_some look ≡ false → way ≡ Some w → IfOk r (λ new. HasMoved w old new × (out ≡ fitting (last_text new.desk.view)))
    → IfOk r (λ new. AnswersBy look way request old new out)
by_walk look way request old out (Ok new) w none is h = by_way look way request old new out none w is h.0 h.1
by_walk look way request old out (Err e) w none is h = tt

-- it is of the same run
pub answered_run : (look : Option (List ℕ)) (way : Option Way) (request : Request) (old new : Stub) (out : List ℕ) → AnswersBy look way request old new out → IsOfRun old new
answered_run (Some text) way request old new out h = is_run (history_of new.playback) (history_of old.playback) h.0.history
answered_run None (Some way) request old new out h =
    moved_run old.desk.bounds way old.desk.stops (history_of old.playback) (history_of new.playback) h.0.found h.0.moved
answered_run None None request old new out h = is_run (history_of new.playback) (history_of old.playback) (ap history_of h.0.playback)

-- of what takes memory alone
pub never_refused : {P : Type 0} (r : Result Stub DebugFault) → IfErr r (λ e. e ≡ OutOfMemory) → IsErrOf r Refused → P
never_refused (Ok new) h is = absurd (cc)
never_refused (Err e) h is = absurd (cc)

pub only_memory : (r : Result Stub DebugFault) → IfErr r (λ e. e ≡ OutOfMemory) → IfErr r (λ e. (e ≡ Refused) ⊎ (e ≡ OutOfMemory))
only_memory (Ok new) h = tt
only_memory (Err e) h = inr h

-- where it doesn't get to is outside of its run
pub not_reached : (begin : Option ℕ) (k first : ℕ) (h : History) (old new : Stub) (is_there : Bool) → begin ≡ Some k → is_there ≡ false → old.desk.first ≡ first
    → history_of old.playback ≡ h → Reaches k 0 old is_there new → IsOutside begin first h
not_reached begin k first h old new is_there begins off first_is run reaches =
    let never = (subst (λ b. Reaches k 0 old b new) off reaches).0 in
    let from : HasPlace first k 0 (history_of old.playback) → ⊥ = subst (λ f. HasPlace f k 0 (history_of old.playback) → ⊥) first_is never in
    subst (λ o. IsOutside o first h) (sym begins) (subst (λ (x : History). HasPlace first k 0 x → ⊥) run from)

-- where a session has gone, or that there is no such place
pub reaches : (b : Bool) (events steps : ℕ) (old new : Stub) → (IsTrue b ↔ HasPlace old.desk.first events steps (history_of old.playback))
    → (b ≡ true → HasGone (position_of old.desk.first events steps) old new) → (b ≡ false → IsReplayed old new × IsSame old new) → Reaches events steps old b new
reaches true events steps old new has there nowhere = (has.0 refl, there refl)
reaches false events steps old new has there nowhere =
    let is = nowhere refl in
    ((λ place. absurd (let yes : false ≡ true = has.1 place in cc)), is.0, is.1)

-- where its motions end from now on, or that there is no such place
pub names : (p : Option Position) (events steps : ℕ) (old new : Stub) → ((is_some p ≡ true) ↔ HasPlace old.desk.first events steps (history_of old.playback))
    → IsReplayed old new → HasBounds new.desk.bounds old new
    → IfSome p (λ q. (q ≡ position_of old.desk.first events steps) × (new.desk.bounds ≡ record old.desk.bounds { until = Some q }))
    → (is_some p ≡ false → new.desk.bounds ≡ old.desk.bounds) → Names events steps old p new
names (Some p) events steps old new has replayed same there nowhere =
    (has.0 refl, there.0, replayed, record { history = same.history; view = same.view; stops = same.stops; bounds_are = there.1; first = same.first; recorded = same.recorded })
names None events steps old new has replayed same there nowhere = (
  (λ place. absurd (let yes : false ≡ true = has.1 place in cc)),
  replayed,
  record { history = same.history; view = same.view; stops = same.stops; bounds_are = nowhere refl; first = same.first; recorded = same.recorded },
)

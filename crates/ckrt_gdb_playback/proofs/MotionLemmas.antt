-- Where motions stop.
use Rattle.std.proofs.Common.{◌≡◌, ◌⊎◌, inl, inr, ℕ, Bool, refl, sym, ap, subst, ◌∙◌}
use Rattle.ckrt_gdb_history.specs.declared.position.Position.{Position}
use Rattle.ckrt_gdb_history.specs.declared.stop.Stops.{Stops}
use Rattle.ckrt_gdb_history.specs.Positions.{History, IsLeast, next_position, previous_position}
use Rattle.ckrt_gdb_history.specs.Stops.{IsStop}
use Rattle.ckrt_gdb_playback.specs.declared.motion.Found.{Found}
use Rattle.ckrt_gdb_playback.specs.declared.motion.Found.TheVariants.{Met, Halted, Stepped, Nothing}
use Rattle.ckrt_gdb_playback.specs.declared.going.Way.{Way}
use Rattle.ckrt_gdb_playback.specs.declared.going.Way.TheVariants.{On, StepOn, Back, StepBack}
use Rattle.ckrt_gdb_playback.specs.declared.view.Stopped.{Stopped}
use Rattle.ckrt_gdb_playback.specs.declared.limits.Bounds.{Bounds}
use Rattle.ckrt_gdb_playback.specs.Limits.{IsEndBack, IsEndOn}
use Rattle.ckrt_gdb_playback.specs.Told.{has_moved, told, told_back, told_on}
use Rattle.ckrt_gdb_playback.specs.Motions.{HasHalted, HasStepped, MeetsWatch, IsStepping, Moved, SteppedOn, WentBack, WentOn, WentToStep, and_steps_of, at}

-- from the least position with a reason to stop
went_at : (stops : Stops) (last : Position) (h : History) (p : Position) (z : History) (found : Found) → IsLeast (IsStop stops h) h.position last p h
    → HasHalted stops (at p h) z found → WentOn stops last h z found
went_at stops last h p z (Met watch) least halted = (p, least, halted.0, halted.1)
went_at stops last h p z Halted least halted =
    subst (λ (y : History). (y ≡ at y.position h) × IsLeast (IsStop stops h) h.position last y.position h × (MeetsWatch stops h y.position → ⊥))
    (sym halted.1) (refl, least, halted.0)
went_at stops last h p z Stepped least halted = absurd halted
went_at stops last h p z Nothing least halted = absurd halted

pub went : (stops : Stops) (last : Position) (h x z : History) (found : Found) → x ≡ at x.position h → IsLeast (IsStop stops h) h.position last x.position h
    → HasHalted stops x z found → WentOn stops last h z found
went stops last h x z found is least halted =
    went_at stops last h x.position z found least (subst (λ (y : History). HasHalted stops y z found) is halted)

module _ (t : ℕ) (stops : Stops) (last : Position) (h before : History) (halt : Found) (there : WentToStep t stops last h before halt) where
  -- behind the thread's step, or before it
  pub stepped : (others : Stops) (behind z : History) (found : Found) → others ≡ stops → behind ≡ at (next_position before.position before.events before.start) before
      → IsStepping t before halt → HasStepped others behind z found → SteppedOn t stops last h z found
  stepped others behind z found same next stepping halted =
      (before, halt, there, inl (stepping, subst (λ (y : History). HasStepped stops y z found) next (subst (λ (s : Stops). HasStepped s behind z found) same halted)))

  -- something else stopped it before
  pub stopped : (IsStepping t before halt → ⊥) → SteppedOn t stops last h before halt
  stopped never = (before, halt, there, inr (never, refl, refl))

-- ON, from a search that ends at x, and is told at z

module _ (bounds : Bounds) (stops : Stops) (end : Position) (h x z : History) (found : Found) (thread : ℕ) (moved : Bool) (stopped : Stopped)
    (within : IsEndOn bounds h end) (same : z ≡ x) (so : moved ≡ has_moved h.position x.position) (says : stopped ≡ told_on bounds.until found moved thread x) where
  told_there : stopped ≡ told_on bounds.until found (has_moved h.position z.position) thread z
  told_there =
      says ∙ ap (λ m. told_on bounds.until found m thread x) so
      ∙ ap (λ (y : History). told_on bounds.until found (has_moved h.position y.position) thread y) (sym same)

  pub moved_on : WentOn stops end h x found → (f : Found) × Moved bounds On stops h z f × (stopped ≡ told bounds On f thread h z)
  moved_on went = (found, (end, within, subst (λ (y : History). WentOn stops end h y found) (sym same) went), told_there)

  pub stepped_on : (last : ℕ) → SteppedOn thread stops end h x found
      → (f : Found) × Moved bounds (StepOn thread) stops h z f × (stopped ≡ told bounds (StepOn thread) f last h z)
  stepped_on last went = (found, (end, within, subst (λ (y : History). SteppedOn thread stops end h y found) (sym same) went), told_there)

-- BACK, from a search that ends at x, and is told at z

module _ (bounds : Bounds) (stops : Stops) (end : Position) (h x z : History) (found : Found) (last : ℕ) (stopped : Stopped) (within : IsEndBack bounds h end)
    (same : z ≡ x) where
  pub moved_back : stopped ≡ told_back bounds.until found last x → WentBack stops end h x found
      → (f : Found) × Moved bounds Back stops h z f × (stopped ≡ told bounds Back f last h z)
  moved_back says went =
      (found, (end, within, subst (λ (y : History). WentBack stops end h y found) (sym same) went), says ∙ ap (λ y. told_back bounds.until found last y) (sym same))

  pub stepped_back : (t : ℕ) → stopped ≡ told_back bounds.until found t x → WentBack (and_steps_of t stops) end h x found
      → (f : Found) × Moved bounds (StepBack t) stops h z f × (stopped ≡ told bounds (StepBack t) f last h z)
  stepped_back t says went =
      (found, (end, within, subst (λ (y : History). WentBack (and_steps_of t stops) end h y found) (sym same) went), says ∙ ap (λ y. told_back bounds.until found t y) (sym same))

-- A MOTION STAYS IN THE RUN

-- at another position of a history that is of the run
of_run : (p : Position) (z before h : History) → before ≡ at before.position h → z ≡ at p before → z ≡ at z.position h
of_run p z before h there is = subst (λ (y : History). y ≡ at y.position h) (sym (is ∙ ap (λ (y : History). at p y) there)) refl

pub is_run : (z h : History) → z ≡ h → z ≡ at z.position h
is_run z h same = subst (λ (y : History). y ≡ at y.position h) (sym same) refl

went_on_run : (stops : Stops) (last : Position) (h z : History) (found : Found) → WentOn stops last h z found → z ≡ at z.position h
went_on_run stops last h z (Met watch) went = of_run (previous_position went.0 h.events h.start) z h h refl went.3
went_on_run stops last h z Halted went = went.0
went_on_run stops last h z Stepped went = absurd went
went_on_run stops last h z Nothing went = of_run last z h h refl went.0

to_step_run : (t : ℕ) (stops : Stops) (last : Position) (h z : History) (found : Found) → WentToStep t stops last h z found → z ≡ at z.position h
to_step_run t stops last h z found (inl here) = is_run z h here.1
to_step_run t stops last h z found (inr went) = went_on_run (and_steps_of t stops) last h z found went.1

stepped_run : (stops : Stops) (q : Position) (h before z : History) (found : Found) → before ≡ at before.position h → HasStepped stops (at q before) z found → z ≡ at z.position h
stepped_run stops q h before z (Met watch) there done = of_run (previous_position q before.events before.start) z before h there done.1
stepped_run stops q h before z Stepped there done = of_run q z before h there done.1
stepped_run stops q h before z Halted there done = absurd done
stepped_run stops q h before z Nothing there done = absurd done

step_on_run : (t : ℕ) (stops : Stops) (last : Position) (h before z : History) (halt found : Found) → WentToStep t stops last h before halt
    → ((IsStepping t before halt × HasStepped stops (at (next_position before.position before.events before.start) before) z found)
    ⊎ ((IsStepping t before halt → ⊥) × (z ≡ before) × (found ≡ halt))) → z ≡ at z.position h
step_on_run t stops last h before z halt found there (inl on) =
    stepped_run stops (next_position before.position before.events before.start) h before z found (to_step_run t stops last h before halt there) on.1
step_on_run t stops last h before z halt found there (inr off) =
    subst (λ (y : History). y ≡ at y.position h) (sym off.1) (to_step_run t stops last h before halt there)

went_back_run : (stops : Stops) (first : Position) (h z : History) (found : Found) → WentBack stops first h z found → z ≡ at z.position h
went_back_run stops first h z (Met watch) (inl here) = is_run z h here.0
went_back_run stops first h z (Met watch) (inr went) = went.0
went_back_run stops first h z Halted went = went.0
went_back_run stops first h z Stepped went = absurd went
went_back_run stops first h z Nothing went = of_run first z h h refl went.0

pub moved_run : (bounds : Bounds) (way : Way) (stops : Stops) (h z : History) (found : Found) → Moved bounds way stops h z found → z ≡ at z.position h
moved_run bounds On stops h z found moved = went_on_run stops moved.0 h z found moved.2
moved_run bounds (StepOn t) stops h z found moved =
    step_on_run t stops moved.0 h moved.2.0 z moved.2.1 found moved.2.2 moved.2.3
moved_run bounds Back stops h z found moved = went_back_run stops moved.0 h z found moved.2
moved_run bounds (StepBack t) stops h z found moved = went_back_run (and_steps_of t stops) moved.0 h z found moved.2

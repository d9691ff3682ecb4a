-- Steps of a drive, one after another, and its ends.
use Rattle.std.proofs.Common.{◌≡◌, ⊎_elim, ◌+◌, ◌<◌, ◌≤◌, ℕ, nat_lt, true, false, Option, Some, None, List, [], ◌∷◌, ◌++◌, length, Result, Ok, Err, refl, sym, ◌∙◌, ap, subst, arith, append_assoc, append-nil, length-append}
use Rattle.std.specs.Prelude.{IfOk}
use Rattle.std.proofs.lemmas.Bool.Decides.{nat_tests}
use Rattle.ckrt_disk.specs.Disk.{IsImage}
use Rattle.ckrt_disk.specs.declared.disk.Disk.{Ghosts}
use Rattle.ckrt_disk.proofs.Moments.{weaker, goes_on}
use Rattle.ckrt_events.specs.declared.event.Event.{Event}
use Rattle.ckrt_recovery.specs.declared.session.Session.{Session}
use Rattle.ckrt_recovery.specs.View.{View, view_of}
use Rattle.ckrt_recovery.specs.Accepts.{Accepts}
use Rattle.ckrt_recovery.proofs.AcceptLemmas.{accepts_kept, accepts_more, since_start}
use Rattle.ckrt_drive.specs.declared.options.Options.{Options}
use Rattle.ckrt_drive.specs.declared.fault.DriveFault.{DriveFault}
use Rattle.ckrt_drive.specs.declared.fault.DriveFault.TheVariants.{Device, Input, NoRecord, Output, OutputFull, GenerationsUsed, Refused}
use Rattle.ckrt_schedule.specs.declared.next.ScheduleEnd.{ScheduleEnd}
use Rattle.ckrt_schedule.specs.declared.next.ScheduleEnd.TheVariants.{Enough}
use Rattle.ckrt_drive.specs.declared.step_done.StepDone.{StepDone}
use Rattle.ckrt_drive.specs.declared.step_done.StepDone.TheVariants.{Submitted, Committed, Checkpointed, Released, Stopped}
use Rattle.ckrt_drive.specs.declared.supply.Supply.{Supply}
use Rattle.ckrt_drive.specs.Plan.{left_after, plan, schedule_of}
use Rattle.ckrt_drive.specs.Output.{HasOutput, HoldsOutput, Writes, acknowledged_output}
use Rattle.ckrt_drive.specs.Runs.{FollowsPlan, GoesByPlan, IsAtEnd, IsFault, IsOnward, IsPlanned, Runs, Stand, StopsRightly, events_in, stand, stand_after, stand_of}
use Rattle.ckrt_drive.specs.PutOut.{PutsOutput, output_failed, is_output_fault}
use Rattle.ckrt_drive.specs.Steps.{IsWhyStep, Steps, accepted_by, aim_of, view_after}
use Rattle.ckrt_drive.proofs.EndLemmas.{end_of}
use Rattle.ckrt_drive.proofs.PlannedLemmas.{planned_end, some_left}
use Rattle.ckrt_drive.proofs.PutLemmas.{puts_nothing, puts_output_more}
use Rattle.ckrt_drive.proofs.WriteLemmas.{same_output, writes_kept}

-- ENDS

reached : (n m : ℕ) → nat_lt n m ≡ false → n ≤ m → n ≡ m
reached n m e le = grind (arith, nat_tests)

-- an end is planned only where all is saved, and it is what it says
pub at_end : (o : Options) (w : Supply) (v : View) (ending : ScheduleEnd) → v.recovered.confirmed ≤ v.released → plan o w v ≡ Ok (Stopped ending) → IsAtEnd w.left v ending
at_end o w v ending le is =
    let h = planned_end o w v ending is in
    record {
      saved = record { acknowledged = h.settled; confirmed = reached v.recovered.confirmed v.released h.confirmed le };
      is = end_of (schedule_of o) w v.recovered.count v.recovered.state.tables ending h.planned;
    }

-- EVENTS

-- as many events are left as were, less those that were taken
counted : (o : Options) (did : List StepDone) (x y : Stand) → FollowsPlan o did x y → length (events_in did) + y.left ≡ x.left
counted o [] x y h = let same = ap (λ (q : Stand). q.left) h in omega (arith, same)
counted o (Submitted e answer ∷ more) x y h =
    let rest = counted o more (stand_after (Submitted e answer) x) y h.2 in
    omega (arith, rest, h.0.1, some_left o h.0.0 x.view e answer h.0.2)
counted o (Committed ∷ more) x y h = counted o more (stand_after Committed x) y h.2
counted o (Checkpointed ∷ more) x y h = counted o more (stand_after Checkpointed x) y h.2
counted o (Released ∷ more) x y h = counted o more (stand_after Released x) y h.2
counted o (Stopped ending ∷ more) x y h = absurd h.1

-- whatever isn't an end goes on
pub onward : (did : StepDone) → ((ending : ScheduleEnd) → did ≡ Stopped ending → ⊥) → IsOnward did
onward (Submitted e answer) no_stop = tt
onward Committed no_stop = tt
onward Checkpointed no_stop = tt
onward Released no_stop = tt
onward (Stopped ending) no_stop = no_stop ending refl

follows_more : (o : Options) (xs : List StepDone) (did : StepDone) (x y : Stand) → FollowsPlan o xs x y → IsPlanned o y (Ok did) → IsOnward did → FollowsPlan o (xs ++ did ∷ []) x (stand_after did y)
follows_more o [] did x y h is on = (subst (λ (q : Stand). IsPlanned o q (Ok did)) h is, on, ap (stand_after did) h)
follows_more o (first ∷ xs) did x y h is on = (h.0, h.1, follows_more o xs did (stand_after first x) y h.2 is on)

events_more : (xs : List StepDone) (did : StepDone) → events_in (xs ++ did ∷ []) ≡ events_in xs ++ accepted_by did
events_more [] did = append-nil (accepted_by did)
events_more (x ∷ xs) did = ap (λ (l : List Event). accepted_by x ++ l) (events_more xs did) ∙ sym (append_assoc (accepted_by x) (events_in xs) (accepted_by did))

same_stand : (c d : ℕ) (v w : View) → c ≡ d → v ≡ w → stand c v ≡ stand d w
same_stand c d v w e f = ap (λ q. stand q v) e ∙ ap (λ q. stand d q) f

enough_by : (o : Options) (did : List StepDone) (x y : Stand) (ending : ScheduleEnd) → FollowsPlan o did x y → IsAtEnd y.left y.view ending → (result : Result (Option ScheduleEnd) DriveFault) → result ≡ Ok (Some ending) → result ≡ Ok (Some Enough) → length (events_in did) ≡ x.left
enough_by o did x y ending h at result gives is =
    let same : ending ≡ Enough = cc in
    let none = subst (λ e. IsAtEnd y.left y.view e) same at in
    omega (arith, counted o did x y h, none.is.1)

no_room : (fault : DriveFault) (result : Result (Option ScheduleEnd) DriveFault) → result ≡ Err fault → result ≡ Err OutputFull → fault ≡ OutputFull
no_room fault result is full = cc

module _ {D O : Type 0} {g : Ghosts D} (o : Ghosts O) where
  pub stops_rightly : (options : Options) (w : Supply) (c c' : ℕ) (s t : Session D g) (a b : O) (r : Result StepDone DriveFault) → w.left ≡ c → Steps o (aim_of options w (view_of s)) s t a b r
      → IfOk r (λ did. c' ≡ left_after did c) → IfOk r (StopsRightly c' (view_of t))
  stops_rightly options w c c' s t a b (Ok (Submitted e answer)) same h turned = tt
  stops_rightly options w c c' s t a b (Ok Committed) same h turned = tt
  stops_rightly options w c c' s t a b (Ok Checkpointed) same h turned = tt
  stops_rightly options w c c' s t a b (Ok Released) same h turned = tt
  stops_rightly options w c c' s t a b (Ok (Stopped ending)) same h turned = subst (λ (q : Stand). IsAtEnd q.left q.view ending) (sym (same_stand c' w.left (view_of t) (view_of s) (turned ∙ sym same) h.done.1)) (at_end options w (view_of s) ending s.released_from h.done.0)
  stops_rightly options w c c' s t a b (Err e) same h turned = tt

  -- how a step's fault leaves where it stands
  fault_stands : (options : Options) (w : Supply) (c c' : ℕ) (s t : Session D g) (a b : O) (fault : DriveFault) → w.left ≡ c → c' ≡ c → IsWhyStep o (aim_of options w (view_of s)) s t a b fault → IsFault options (stand_of c s) (stand_of c' t) fault
  fault_stands options w c c' s t a b Device left same h = same_stand c' c (view_of t) (record (view_of s) { failed = true }) same h
  fault_stands options w c c' s t a b Input left same h = same_stand c' c (view_of t) (view_of s) same (ap view_of h.0)
  fault_stands options w c c' s t a b NoRecord left same h = ((w, left, h.0), same_stand c' c (view_of t) (view_of s) same (ap view_of h.2))
  fault_stands options w c c' s t a b Output left same h = ((w, left, h.0), same_stand c' c (view_of t) (view_of s) same h.2)
  fault_stands options w c c' s t a b OutputFull left same h = ((w, left, h.0), same_stand c' c (view_of t) (view_of s) same (ap view_of h.2))
  fault_stands options w c c' s t a b GenerationsUsed left same h = (h.0, same_stand c' c (view_of t) (view_of s) same (ap view_of h.1))
  fault_stands options w c c' s t a b (Refused why) left same h = ((w, left, h.0), same_stand c' c (view_of t) (view_of s) same (ap view_of h.1))

  -- where the output has no room it had none at first
  full_by : (options : Options) (w : Supply) (s t : Session D g) (x a b : O) (fault : DriveFault) → o.size x ≡ o.size a → IsWhyStep o (aim_of options w (view_of s)) s t a b fault → fault ≡ OutputFull → o.size x < t.released
  full_by options w s t x a b fault same h is =
      let why = subst (λ f. IsWhyStep o (aim_of options w (view_of s)) s t a b f) is h in
      let released = ap (λ (v : Session D g). v.released) why.2 in
      omega (arith, same, why.1, released)

  -- ONE AFTER ANOTHER

  pub writes_more : (xs ys : List Event) (s m u : Session D g) (a b c : O) → Accepts xs s m → Accepts ys m u → Writes o xs s m a b → Writes o ys m u b c → Writes o (xs ++ ys) s u a c
  writes_more xs ys s m u a b c first second w1 w2 = record {
    holds = λ honest whole p events from reps h.
        let mid = second.honest honest in
        let half = w2.honest whole in
        let there = first.represents mid p events reps in
        subst (λ (l : List Event). HoldsOutput o from u.progress.confirmed (acknowledged_output p l u) c) (append_assoc events xs ys) (w2.holds honest whole p (events ++ xs) from there (w1.holds mid half p events from reps h));
    any_moment = λ honest whole p events from reps h.
        let mid = second.honest honest in
        let half = w2.honest whole in
        let there = first.represents mid p events reps in
        let P = HasOutput from s.progress.confirmed (acknowledged_output p events s) in
        let Q = HasOutput from m.progress.confirmed (acknowledged_output p (events ++ xs) m) in
        goes_on o.moment o.left_since a b c P (w1.any_moment mid half p events from reps h)
        (weaker o.moment o.left_since b c Q P (w2.any_moment honest whole p (events ++ xs) from there (w1.holds mid half p events from reps h))
        (λ image q. λ i le lt. q i le (omega (arith, lt, first.confirmed)) ∙ same_output o p events xs s m i reps first (omega (arith, lt, s.released_from))));
    honest = λ is. w1.honest (w2.honest is);
    size = w2.size ∙ w1.size;
  }

  -- steps so far, of which none failed, and none was an end
  pub record SoFar (options : Options) (made : ℕ) (c c' : ℕ) (s t : Session D g) (a b : O) : Type 0 where
    pub did : List StepDone
    pub follows : FollowsPlan options did (stand_of c s) (stand_of c' t)
    pub count : length did ≡ made
    pub accepts : Accepts (events_in did) s t
    pub writes : Writes o (events_in did) s t a b
    pub puts : PutsOutput o (events_in did) s t a b false
    pub well : o.failures b ≡ o.failures a

  pub so_far_nothing : (options : Options) (c : ℕ) (s : Session D g) (a : O) → SoFar options 0 c c s s a a
  so_far_nothing options c s a = let accepts = accepts_kept s s refl refl in record { did = []; follows = refl; count = refl; accepts = accepts; writes = writes_kept o [] s s a accepts refl; puts = puts_nothing o [] s s a refl; well = refl }

  pub so_far_more : (options : Options) (w : Supply) (made : ℕ) (c d e : ℕ) (did : StepDone) (s m u : Session D g) (x y z : O) → SoFar options made c d s m x y → IsOnward did → w.left ≡ d → Steps o (aim_of options w (view_of m)) m u y z (Ok did)
      → e ≡ left_after did d → o.failures z ≡ o.failures y → SoFar options (made + 1) c e s u x z
  so_far_more options w made c d e did s m u x y z h on left k turned well = record {
    did = h.did ++ did ∷ [];
    follows = subst (λ q. FollowsPlan options (h.did ++ did ∷ []) (stand_of c s) q) (sym (same_stand e (left_after did d) (view_of u) (view_after did (view_of m)) turned k.done.1))
        (follows_more options h.did did (stand_of c s) (stand_of d m) h.follows (w, left, k.done.0) on);
    count = length-append h.did (did ∷ []) ∙ ap (λ n. n + 1) h.count;
    accepts = subst (λ (l : List Event). Accepts l s u) (sym (events_more h.did did)) (accepts_more (events_in h.did) (accepted_by did) s m u h.accepts k.accepts);
    writes = subst (λ (l : List Event). Writes o l s u x z) (sym (events_more h.did did)) (writes_more (events_in h.did) (accepted_by did) s m u x y z h.accepts k.accepts h.writes k.writes);
    puts = subst (λ (l : List Event). PutsOutput o l s u x z false) (sym (events_more h.did did)) (puts_output_more o (events_in h.did) (accepted_by did) s m u x y z false h.accepts k.accepts h.puts k.puts);
    well = well ∙ h.well;
  }

  module _ (law : (disk : D) (image : List ℕ) → g.is_honest disk → g.left_since disk (g.moment disk) image → IsImage (g.content disk) (g.pending disk) image)
      (output_law : (disk : O) (image : List ℕ) → o.is_honest disk → o.left_since disk (o.moment disk) image → IsImage (o.content disk) (o.pending disk) image)
      (options : Options) (steps : ℕ) where
    runs_by : (accepted : List Event) (c e : ℕ) (s u : Session D g) (x z : O) (result : Result (Option ScheduleEnd) DriveFault) → Accepts accepted s u → Writes o accepted s u x z → PutsOutput o accepted s u x z (is_output_fault result)
        → (result ≡ Err OutputFull → o.size x < u.released) → GoesByPlan options steps accepted (stand_of c s) (stand_of e u) result → Runs o options steps c e s u x z result
    runs_by accepted c e s u x z result accepts writes puts full goes = record {
      accepted = accepted;
      accepts = accepts;
      goes = goes;
      writes = writes;
      puts = puts;
      full = full;
      since_start = λ honest p events reps image left. since_start law accepted s u accepts honest p events reps image left;
      output_since_start = λ honest whole p events from reps h image left. ⊎_elim
          (λ (past : _). λ i le lt. (output_law x image (writes.honest whole) past).same i (h.durable i le lt) ∙ h.has i le lt)
          (λ (meant : _). meant)
          ((writes.any_moment honest whole p events from reps h).each (o.moment x) image (omega arith) left);
    }

    -- all the steps were made
    pub runs_all : (c d : ℕ) (s m : Session D g) (x y : O) → SoFar options steps c d s m x y → Runs o options steps c d s m x y (Ok None)
    runs_all c d s m x y h = runs_by (events_in h.did) c d s m x y (Ok None) h.accepts h.writes h.puts (λ no. absurd (cc)) (record {
      did = h.did;
      last = stand_of d m;
      follows = h.follows;
      few = omega (arith, h.count);
      took = refl;
      why = (h.count, refl);
      enough = λ is. absurd (cc);
    })

    -- steps so far, and then an end
    pub runs_to_end : (w : Supply) (made : ℕ) (c d e : ℕ) (ending : ScheduleEnd) (s m u : Session D g) (x y z : O) → made < steps → SoFar options made c d s m x y → w.left ≡ d → Steps o (aim_of options w (view_of m)) m u y z (Ok (Stopped ending))
        → e ≡ d → IsAtEnd e (view_of u) ending → Runs o options steps c e s u x z (Ok (Some ending))
    runs_to_end w made c d e ending s m u x y z some h left k same at =
        let there = same_stand e d (view_of u) (view_of m) same k.done.1 in
        let none = append-nil (events_in h.did) in
        runs_by (events_in h.did) c e s u x z (Ok (Some ending))
        (subst (λ (l : List Event). Accepts l s u) none (accepts_more (events_in h.did) [] s m u h.accepts k.accepts))
        (subst (λ (l : List Event). Writes o l s u x z) none (writes_more (events_in h.did) [] s m u x y z h.accepts k.accepts h.writes k.writes))
        (subst (λ (l : List Event). PutsOutput o l s u x z false) none (puts_output_more o (events_in h.did) [] s m u x y z false h.accepts k.accepts h.puts k.puts))
        (λ no. absurd (cc))
        (record {
          did = h.did;
          last = stand_of d m;
          follows = h.follows;
          few = omega (arith, h.count, some);
          took = refl;
          why = ((w, left, k.done.0), there, at);
          enough = enough_by options h.did (stand_of c s) (stand_of d m) ending h.follows (subst (λ (q : Stand). IsAtEnd q.left q.view ending) there at) (Ok (Some ending)) refl;
        })

    -- steps so far, and then one that failed
    pub runs_to_fault : (w : Supply) (made : ℕ) (c d e : ℕ) (fault : DriveFault) (s m u : Session D g) (x y z : O) → made < steps → SoFar options made c d s m x y → w.left ≡ d → Steps o (aim_of options w (view_of m)) m u y z (Err fault)
        → e ≡ d → Runs o options steps c e s u x z (Err fault)
    runs_to_fault w made c d e fault s m u x y z some h left k same =
        let none = append-nil (events_in h.did) in
        let count : length h.did < steps = omega (arith, h.count, some) in
        runs_by (events_in h.did) c e s u x z (Err fault)
        (subst (λ (l : List Event). Accepts l s u) none (accepts_more (events_in h.did) [] s m u h.accepts k.accepts))
        (subst (λ (l : List Event). Writes o l s u x z) none (writes_more (events_in h.did) [] s m u x y z h.accepts k.accepts h.writes k.writes))
        (subst (λ (l : List Event). PutsOutput o l s u x z (output_failed fault)) none (puts_output_more o (events_in h.did) [] s m u x y z (output_failed fault) h.accepts k.accepts h.puts k.puts))
        (λ is. full_by options w m u x y z fault (sym h.writes.size) k.why (no_room fault (Err fault) refl is))
        (record {
          did = h.did;
          last = stand_of d m;
          follows = h.follows;
          few = omega (arith, count);
          took = refl;
          why = (count, fault_stands options w d e m u y z fault left same k.why);
          enough = λ is. absurd (cc);
        })

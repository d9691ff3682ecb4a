-- Runs go on event by event, and a plan has one from each state.
use Rattle.std.proofs.Common.{◌≡◌, ◌∙◌, ℕ, Option, List, [], ◌∷◌, ◌++◌, ap, sym, subst, refl}
use Rattle.ckrt_events.specs.declared.event.Event.{Event}
use Rattle.ckrt_machine.specs.Steps.{State}
use Rattle.ckrt_machine.specs.declared.event.Answer.{Answer}
use Rattle.ckrt_machine.specs.Events.{After, IsAccepted, output_of, step}
use Rattle.ckrt_machine.proofs.FoldLaws.{state_on, output_on, accepted_on}
use Rattle.ckrt_schedule.specs.declared.next.Next.TheVariants.{Submit, End}
use Rattle.ckrt_schedule.specs.declared.next.ScheduleEnd.{ScheduleEnd}
use Rattle.ckrt_hunt_schedules.specs.declared.plan.Plan.{Plan}
use Rattle.ckrt_hunt_schedules.specs.declared.made.Made.{Made}
use Rattle.ckrt_hunt_schedules.specs.declared.outcome.Outcome.{Outcome}
use Rattle.ckrt_hunt_schedules.specs.declared.heard.Heard.{Heard}
use Rattle.ckrt_hunt_schedules.specs.declared.runs.Finished.{Finished}
use Rattle.ckrt_hunt_schedules.specs.declared.runs.Told.{Told}
use Rattle.ckrt_hunt_schedules.specs.LastLines.{last_line}
use Rattle.ckrt_hunt_schedules.specs.Plans.{made_with, nothing_made}
use Rattle.ckrt_hunt_schedules.specs.Turns.{next, runner_of}
use Rattle.ckrt_hunt_schedules.specs.Outcomes.{digest_of, outcome_of}
use Rattle.ckrt_hunt_schedules.specs.Runs.{AreScheduled, ComesTo, EndsWith, HasComeTo, Hears, Point, beginning, behind, next_at, on}

module _ (p : Plan) where
  pub scheduled_on : (es : List Event) (e : Event) (x : Point) → AreScheduled p es x → next_at p (behind p es x) ≡ Submit e → AreScheduled p (es ++ e ∷ []) x
  scheduled_on [] e x a n = (n, tt)
  scheduled_on (f ∷ es) e x a n = (a.0, scheduled_on es e (on p f x) a.1 n)

  pub behind_on : (es : List Event) (e : Event) (x : Point) → behind p (es ++ e ∷ []) x ≡ on p e (behind p es x)
  behind_on [] e x = refl
  behind_on (f ∷ es) e x = behind_on es e (on p f x)

  -- one event on
  pub come_on : (start : State) (m : Made) (s : State) (e : Event) (heard heard' : Heard) → HasComeTo p start m s heard → next p m s.tables ≡ Submit e → IsAccepted e s → ((out : List ℕ) → Hears heard out → Hears heard' (out ++ (step e s).output)) → HasComeTo p start (made_with p (runner_of e s.tables) (step e s).answer m) (step e s).state heard'
  come_on start m s e heard heard' h n a more =
      let es = h.events in
      let c = h.come in
      record {
        events = es ++ e ∷ [];
        come = record {
          scheduled = scheduled_on es e (beginning start) c.scheduled (subst (λ (x : Point). next_at p x ≡ Submit e) c.point n);
          accepted = accepted_on es e start c.accepted (subst (λ (t : State). IsAccepted e t) c.folded a);
          point = ap (λ (x : Point). on p e x) c.point ∙ sym (behind_on es e (beginning start));
          folded = ap (λ (t : State). (step e t).state) c.folded ∙ sym (state_on es e start);
          output = subst (λ (out : List ℕ). Hears heard' out) (ap (λ (t : State). output_of es start ++ (step e t).output) c.folded ∙ sym (output_on es e start)) (more (output_of es start) c.output);
        };
      }

  -- the same of what the code has at hand
  pub gone_on : (start : State) (m m' : Made) (s s' : State) (e : Event) (who : Option ℕ) (answer : Answer) (out : List ℕ) (heard heard' : Heard) → who ≡ runner_of e s.tables → m' ≡ made_with p who answer m → (let a : After = record { state = s'; answer = answer; output = out } in a) ≡ step e s → next p m s.tables ≡ Submit e → IsAccepted e s → ((o : List ℕ) → Hears heard o → Hears heard' (o ++ out)) → HasComeTo p start m s heard → HasComeTo p start m' s' heard'
  gone_on start m m' s s' e who answer out heard heard' w f r n a more h =
      let answers : answer ≡ (step e s).answer = ap (λ (a : After). a.answer) r in
      let states : s' ≡ (step e s).state = ap (λ (a : After). a.state) r in
      let outputs : out ≡ (step e s).output = ap (λ (a : After). a.output) r in
      let made : m' ≡ made_with p (runner_of e s.tables) (step e s).answer m = f ∙ ap (λ (o : Option ℕ). made_with p o answer m) w ∙ ap (λ (b : Answer). made_with p (runner_of e s.tables) b m) answers in
      rw (made, states) (come_on start m s e heard heard' h n a (subst (λ (out : List ℕ). (o : List ℕ) → Hears heard o → Hears heard' (o ++ out)) outputs more))

  -- a run that begins
  pub comes_from : (s : State) (heard : Heard) → Hears heard [] → HasComeTo p s nothing_made s heard
  comes_from s heard h = record {
    events = [];
    come = record { scheduled = tt; accepted = tt; point = refl; folded = refl; output = h };
  }

  -- a run that has come to its end
  pub comes_to : (start : State) (m : Made) (s : State) (heard : Heard) (ending : ScheduleEnd) (told : Told) → HasComeTo p start m s heard → next p m s.tables ≡ End ending → told.outcome ≡ outcome_of ending s.tables → ((o : List ℕ) → Hears heard o → told.digest ≡ digest_of p.ignores_output told.outcome o) → ComesTo p start told
  comes_to start m s heard ending told h n o d =
      let es = h.events in
      let c = h.come in
      record {
        events = es;
        ending = ending;
        scheduled = c.scheduled;
        ended = subst (λ (x : Point). next_at p x ≡ End ending) c.point n;
        accepted = c.accepted;
        outcome = o ∙ ap (λ (t : State). outcome_of ending t.tables) c.folded;
        digest = d (output_of es start) c.output;
      }

  -- what it has made by then, and the last line that it has put
  pub ends_with : (start : State) (m : Made) (s : State) (heard : Heard) (ending : ScheduleEnd) (run : Finished) → HasComeTo p start m s heard → next p m s.tables ≡ End ending → run.told.outcome ≡ outcome_of ending s.tables → ((o : List ℕ) → Hears heard o → run.told.digest ≡ digest_of p.ignores_output run.told.outcome o) → run.made ≡ m → ((o : List ℕ) → Hears heard o → run.said ≡ last_line o) → EndsWith p start run
  unfolding comes_to
  ends_with start m s heard ending run h n o d made said = record {
    comes = comes_to start m s heard ending run.told h n o d;
    has_made = made ∙ ap (λ (x : Point). x.made) h.come.point;
    said = said (output_of h.events start) h.come.output;
  }

  -- a run has one list of events
  pub same_events : (es fs : List Event) (x : Point) (a b : ScheduleEnd) → AreScheduled p es x → next_at p (behind p es x) ≡ End a → AreScheduled p fs x → next_at p (behind p fs x) ≡ End b → es ≡ fs
  same_events [] [] x a b s n t m = refl
  same_events [] (f ∷ fs) x a b s n t m = let h = t.0 in cc
  same_events (e ∷ es) [] x a b s n t m = let h = s.0 in cc
  same_events (e ∷ es) (f ∷ fs) x a b s n t m =
      let same : e ≡ f = (let h = s.0 in let k = t.0 in cc) in
      let rest : es ≡ fs = same_events es fs (on p e x) a b s.1 n (subst (λ g. AreScheduled p fs (on p g x)) (sym same) t.1) (subst (λ g. next_at p (behind p fs (on p g x)) ≡ End b) (sym same) m) in
      cc

  -- and comes to one outcome
  pub same_told : (start : State) (a b : Told) → ComesTo p start a → ComesTo p start b → a ≡ b
  same_told start a b c d =
      let es : c.events ≡ d.events = same_events c.events d.events (beginning start) c.ending d.ending c.scheduled c.ended d.scheduled d.ended in
      let ends : End c.ending ≡ End d.ending = sym c.ended ∙ ap (λ (es : List Event). next_at p (behind p es (beginning start))) es ∙ d.ended in
      let outcome : a.outcome ≡ b.outcome = c.outcome ∙ (cc) ∙ sym d.outcome in
      let digest : a.digest ≡ b.digest = c.digest ∙ ap (λ (es : List Event). digest_of p.ignores_output a.outcome (output_of es start)) es ∙ ap (λ (o : Outcome). digest_of p.ignores_output o (output_of d.events start)) outcome ∙ sym d.digest in
      ap (λ (o : Outcome). let t : Told = record { outcome = o; digest = a.digest } in t) outcome ∙ ap (λ (g : Option (List ℕ)). let t : Told = record { outcome = b.outcome; digest = g } in t) digest

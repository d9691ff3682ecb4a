-- Whose events are recorded: those of a list, of a beginning of it, and of more of it.
use Rattle.std.proofs.Common.{◌≡◌, ◌+◌, ◌-◌, ◌≤◌, List, ◌++◌, length, drop, refl, sym, ◌∙◌, ap, subst, arith, append_assoc, length-append}
use Rattle.std.proofs.lemmas.List.{drop-drop, drop_all, drop_at}
use Rattle.ckrt_disk.specs.Lists.{IsBeginningOf}
use Rattle.ckrt_disk.proofs.ListLemmas.{begins_behind}
use Rattle.ckrt_events.specs.declared.event.Event.{Event}
use Rattle.ckrt_look_recording.specs.Recording.{Recorded}
use Rattle.ckrt_stored.specs.Programs.{Program}
use Rattle.ckrt_history.specs.Completing.{end_of, missing_of, with_events}
use Rattle.ckrt_history.specs.Kept.{grown}
use Rattle.ckrt_history.specs.Many.{IsHistoryOf}
use Rattle.ckrt_history.proofs.BatchLemmas.{with_none}

-- with events more behind
pub history_more : (p : Program) (events more : List Event) (r : Recorded) → IsHistoryOf p events r → IsHistoryOf p (events ++ more) (with_events more r)
history_more p events more r is = record {
  skipped = is.skipped;
  first = is.first;
  start = is.start;
  all = ap (λ (l : List Event). l ++ more) is.all ∙ append_assoc is.skipped r.events more;
}

-- it ends behind all of them
history_end : (p : Program) (events : List Event) (r : Recorded) → IsHistoryOf p events r → end_of r ≡ length events
history_end p events r is =
    let size = ap length is.all ∙ length-append is.skipped r.events in
    omega (arith, is.first, size)

-- A BEGINNING

-- what has a beginning lacks just the rest of what reaches back to its end
lacks_rest : (p : Program) (all kept : List Event) (ahead own : Recorded) → IsHistoryOf p all ahead → IsHistoryOf p kept own → (begins : IsBeginningOf kept all) → ahead.first ≤ end_of own → missing_of ahead own ≡ begins.0
lacks_rest p all kept ahead own is had begins reaches =
    let end = history_end p kept own had in
    let both : length is.skipped + (end_of own - ahead.first) ≡ length kept = omega (arith, end, reaches, is.first) in
    ap (λ (l : List Event). drop (end_of own - ahead.first) l) (sym (drop_at is.skipped ahead.events (length is.skipped) refl))
    ∙ drop-drop (end_of own - ahead.first) (length is.skipped) (is.skipped ++ ahead.events)
    ∙ ap (λ n. drop n (is.skipped ++ ahead.events)) both
    ∙ ap (λ (l : List Event). drop (length kept) l) (sym is.all ∙ begins.1)
    ∙ drop_at kept begins.0 (length kept) refl

module _ (p : Program) (all kept : List Event) (ahead own : Recorded) (is : IsHistoryOf p all ahead) (had : IsHistoryOf p kept own) (begins : IsBeginningOf kept all) (reaches : ahead.first ≤ end_of own) where
  joined : kept ++ missing_of ahead own ≡ all
  joined = ap (λ (l : List Event). kept ++ l) (lacks_rest p all kept ahead own is had begins reaches) ∙ sym begins.1

  -- with a beginning of what it lacks it has a longer beginning
  pub joined_front : (front : List Event) → IsBeginningOf front (missing_of ahead own) → IsBeginningOf (kept ++ front) all × IsHistoryOf p (kept ++ front) (with_events front own)
  joined_front front more = (subst (λ (l : List Event). IsBeginningOf (kept ++ front) l) joined (begins_behind kept front (missing_of ahead own) more), history_more p kept front own had)

  -- with all of that it has all
  pub joined_whole : IsHistoryOf p all (with_events (missing_of ahead own) own)
  joined_whole = subst (λ (l : List Event). IsHistoryOf p l (with_events (missing_of ahead own) own)) joined (history_more p kept (missing_of ahead own) own had)

-- AS IT GROWS

-- what has some events, grown by those behind them, has all
pub grown_history : (p : Program) (some all : List Event) (r : Recorded) → IsHistoryOf p some r → IsBeginningOf some all → IsHistoryOf p all (grown r (length some) all)
grown_history p some all r is begins =
    let rest : drop (length some) all ≡ begins.0 = ap (λ (l : List Event). drop (length some) l) begins.1 ∙ drop_at some begins.0 (length some) refl in
    subst (λ (l : List Event). IsHistoryOf p l (grown r (length some) all)) (sym begins.1) (subst (λ (l : List Event). IsHistoryOf p (some ++ begins.0) (with_events l r)) (sym rest) (history_more p some begins.0 r is))

-- before the first of those
pub grown_none : (r : Recorded) (events : List Event) → grown r (length events) events ≡ r
grown_none r events = ap (λ (l : List Event). with_events l r) (drop_all (length events) events (omega arith)) ∙ with_none r

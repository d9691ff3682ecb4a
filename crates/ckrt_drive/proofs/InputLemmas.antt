-- What a list by plan gives of the input is what is next of it.
use Rattle.std.proofs.Common.{◌≡◌, ◌⊎◌, inl, inr, ℕ, ◌+◌, Option, Some, List, [], ◌∷◌, ◌++◌, length, drop, sym, ◌∙◌, ap, subst, append-nil}
use Rattle.std.proofs.lemmas.List.{drop-drop}
use Rattle.ckrt_events.specs.declared.event.Event.{Event}
use Rattle.ckrt_events.specs.declared.event.Event.TheVariants.{Place, Run, Input, Eof, Tick, RunLong}
use Rattle.ckrt_stored.specs.Programs.{Program, start_of, state_after}
use Rattle.ckrt_stored.proofs.ReplayLemmas.{state-append}
use Rattle.ckrt_schedule.specs.Next.{AreGiven, IsNext, next_input}
use Rattle.ckrt_schedule.specs.Taken.{bytes_of, taken_by}
use Rattle.ckrt_schedule.proofs.NextLemmas.{beginning, end_behind}
use Rattle.ckrt_drive.proofs.FedLemmas.{taken-append}
use Rattle.ckrt_schedule.specs.Next.{given_in}
use Rattle.ckrt_drive.proofs.GivenLemmas.{IsNoInput, given_or_none}
use Rattle.ckrt_drive.specs.ByPlan.{AreByPlan, Course, IsByPlan}
use Rattle.ckrt_drive.specs.Inputs.{EndBehindAll, GiveBeginning}

is_next : (e : Event) (next : Option Event) → (next ≡ Some e) ⊎ IsNoInput e → IsNext e next
is_next (Place h t) next is = tt
is_next (Run h n) next is = tt
is_next (Input bytes) next (inl is) = is
is_next (Input bytes) next (inr never) = absurd never
is_next Eof next (inl is) = is
is_next Eof next (inr never) = absurd never
is_next (Tick k) next is = tt
is_next (RunLong h n) next is = tt

-- what is left behind one event more
left_behind : (e : Event) (behind : List Event) (file : List ℕ) → drop (taken_by (behind ++ e ∷ [])) file ≡ drop (length (bytes_of e)) (drop (taken_by behind) file)
left_behind e behind file =
    let one : taken_by (e ∷ []) ≡ length (bytes_of e) = ap length (append-nil (bytes_of e)) in
    let all : taken_by (behind ++ e ∷ []) ≡ taken_by behind + length (bytes_of e) = taken-append behind (e ∷ []) ∙ ap (λ n. taken_by behind + n) one in
    ap (λ n. drop n file) all ∙ sym (drop-drop (length (bytes_of e)) (taken_by behind) file)

pub given_by_plan : (u : Course) (p : Program) (file : List ℕ) (behind events : List Event) → u.file ≡ Some file → AreByPlan u p behind events → AreGiven events (drop (taken_by behind) file) (state_after p behind)
given_by_plan u p file behind [] has h = tt
given_by_plan u p file behind (e ∷ es) has h =
    let s = state_after p behind in
    let given = given_or_none u.schedule (given_in u.file (taken_by behind) s.tables) (length behind) s.tables e h.0 in
    let next = subst (λ f. (given_in f (taken_by behind) s.tables ≡ Some e) ⊎ IsNoInput e) has given in
    let rest = given_by_plan u p file (behind ++ e ∷ []) es has h.1 in
    let there = subst (λ (l : List ℕ). AreGiven es l (state_after p (behind ++ e ∷ []))) (left_behind e behind file) rest in (
      is_next e (next_input s.tables (drop (taken_by behind) file)) next,
      subst (λ q. AreGiven es (drop (length (bytes_of e)) (drop (taken_by behind) file)) q) (state-append behind (e ∷ []) (start_of p)) there,
    )

-- from the first event on
given_all : (u : Course) (p : Program) (file : List ℕ) (events : List Event) → u.file ≡ Some file → IsByPlan u p events → AreGiven events file (start_of p)
given_all u p file events has h = subst (λ (l : List Event). AreGiven l file (start_of p)) (sym h.is) (given_by_plan u p file [] h.rest has h.by_plan)

pub give_beginning : GiveBeginning
give_beginning u p events file has h = beginning events file (start_of p) (given_all u p file events has h)

pub ends_behind : EndBehindAll
ends_behind u p front back file has h = end_behind front back file (start_of p) (given_all u p file (front ++ Eof ∷ back) has h)

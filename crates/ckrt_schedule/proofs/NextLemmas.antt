-- What follows where each Input and each end of input was next at its turn.
use Rattle.std.proofs.Common.{◌≡◌, ℕ, ◌+◌, ◌≤◌, ◌==◌, ◌&&◌, not, Bool, true, false, nat_le, nat_lt, if◌then◌else◌, List, [], ◌∷◌, ◌++◌, length, take, drop, min, Some, None, refl, sym, ◌∙◌, ap, subst, arith, append_assoc, length-append}
use Rattle.std.proofs.lemmas.List.{take-append-drop, take-take, take_min, length-take, drop-drop}
use Rattle.std.proofs.lemmas.Bool.Decides.{nat_tests}
use Rattle.std.proofs.lemmas.Grind.{common_steps}
use Rattle.ckrt_calls.specs.declared.table.Tables.{Tables}
use Rattle.ckrt_machine.specs.Events.{fold, step, refusal_of}
use Rattle.ckrt_machine.specs.Runs.{is_running}
use Rattle.ckrt_machine.specs.Steps.{State}
use Rattle.ckrt_events.specs.Bytes.{IsInRange}
use Rattle.ckrt_events.specs.declared.event.Event.{Event}
use Rattle.ckrt_events.specs.declared.event.Event.TheVariants.{Place, Run, Input, Eof, Tick, RunLong}
use Rattle.ckrt_schedule.specs.Taken.{bytes_of, input_of, taken_by}
use Rattle.ckrt_schedule.specs.Next.{AreGiven, EndsBehindAll, GivesBeginning, GoesOnGiven, HangsOnNext, IsAlwaysTaken, IsNext, given_by, has_room, next_bytes, next_input}

-- WHAT IS NEXT

given_where : (b : Bool) (e f : Event) → (if b then Some e else None) ≡ Some f → (b ≡ true) × (e ≡ f)
given_where true e f is = (refl, cc)
given_where false e f is = absurd (cc)

-- what is next comes where there is room, and has the next bytes
pub next_is : (s : Tables) (rest : List ℕ) (e : Event) → next_input s rest ≡ Some e → (has_room s (length (next_bytes rest)) ≡ true) × (given_by (next_bytes rest) ≡ e)
next_is s rest e is = given_where (has_room s (length (next_bytes rest))) (given_by (next_bytes rest)) e is

-- bytes that there are come as an Input
given_some : (b : ℕ) (bs : List ℕ) → given_by (b ∷ bs) ≡ Input (record { items = b ∷ bs })
given_some b bs =
    let some : (length (b ∷ bs) == 0) ≡ false = grind (arith, nat_tests) in
    ap (λ (x : Bool). if x then Eof else Input (record { items = b ∷ bs })) some

-- the bytes of an Input or of an end
pub given_bytes : (bytes : List ℕ) → bytes_of (given_by bytes) ≡ bytes
given_bytes [] = refl
given_bytes (b ∷ bs) = ap bytes_of (given_some b bs)

no_bytes : (bytes : List ℕ) → given_by bytes ≡ Eof → bytes ≡ []
no_bytes [] is = refl
no_bytes (b ∷ bs) is = let no : Input (record { items = b ∷ bs }) ≡ Eof = sym (given_some b bs) ∙ is in absurd (cc)

none_left : (rest : List ℕ) → take 64 rest ≡ [] → rest ≡ []
none_left [] is = refl
none_left (b ∷ bs) is = absurd (cc)

drop_taken : (n : ℕ) (xs : List ℕ) → drop (length (take n xs)) xs ≡ drop n xs
drop_taken n xs = grind (arith, common_steps, length-take n xs)

front_back : (rest : List ℕ) → rest ≡ next_bytes rest ++ drop (length (next_bytes rest)) rest
front_back rest = sym (ap (λ (l : List ℕ). take 64 rest ++ l) (drop_taken 64 rest) ∙ take-append-drop 64 rest)

-- the bytes of an event that was next are the first ones that were left
pub front_of : (e : Event) (s : Tables) (rest : List ℕ) → IsNext e (next_input s rest) → rest ≡ bytes_of e ++ drop (length (bytes_of e)) rest
front_of (Place h t) s rest is = refl
front_of (Run h n) s rest is = refl
front_of (Input bytes) s rest is =
    let same : next_bytes rest ≡ bytes_of (Input bytes) = sym (given_bytes (next_bytes rest)) ∙ ap bytes_of (next_is s rest (Input bytes) is).1 in
    subst (λ (l : List ℕ). rest ≡ l ++ drop (length l) rest) same (front_back rest)
front_of Eof s rest is = refl
front_of (Tick k) s rest is = refl
front_of (RunLong h n) s rest is = refl

-- OVER A LIST

pub beginning : GivesBeginning
beginning [] file s given = (file, refl)
beginning (e ∷ es) file s given =
    let more = beginning es (drop (length (bytes_of e)) file) (step e s).state given.1 in (
      more.0,
      front_of e s.tables file given.0 ∙ ap (λ (l : List ℕ). bytes_of e ++ l) more.1 ∙ sym (append_assoc (bytes_of e) (input_of es) more.0),
    )

pub end_behind : EndsBehindAll
end_behind [] back file s given = sym (none_left file (no_bytes (next_bytes file) (next_is s.tables file Eof given.0).1))
end_behind (e ∷ es) back file s given =
    ap (λ (l : List ℕ). bytes_of e ++ l) (end_behind es back (drop (length (bytes_of e)) file) (step e s).state given.1) ∙ sym (front_of e s.tables file given.0)

pub goes_on : GoesOnGiven
goes_on [] back file s given more = more
goes_on (e ∷ es) back file s given more =
    let left : drop (taken_by (e ∷ es)) file ≡ drop (taken_by es) (drop (length (bytes_of e)) file) =
    ap (λ n. drop n file) (length-append (bytes_of e) (input_of es)) ∙ sym (drop-drop (taken_by es) (length (bytes_of e)) file) in
    (given.0, goes_on es back (drop (length (bytes_of e)) file) (step e s).state given.1 (subst (λ (l : List ℕ). AreGiven back l (fold es (step e s).state).state) left more))

-- WHAT IS TAKEN

room_is : (running closed : Bool) (n : ℕ) → (running && (not closed && nat_le n 4096)) ≡ true → (running ≡ true) × (closed ≡ false) × (n ≤ 4096)
room_is running closed n is = (grind (arith, nat_tests, is), grind (arith, nat_tests, is), grind (arith, nat_tests, is))

few_next : (rest : List ℕ) → length (next_bytes rest) ≤ 64
few_next rest = omega (arith, length-take 64 rest)

in_range : (bytes : List ℕ) → length bytes ≤ 64 → IsInRange (given_by bytes)
in_range [] few = tt
in_range (b ∷ bs) few = subst IsInRange (sym (given_some b bs)) (omega arith, few)

taken : (bytes : List ℕ) (s : State) (held : ℕ) → has_room s.tables (length bytes) ≡ true → refusal_of held (given_by bytes) s ≡ None
taken [] s held room =
    let r = room_is (is_running s.tables.status) s.tables.closed (length s.tables.input + 0) room in
    rw (r.0, r.1) refl
taken (b ∷ bs) s held room =
    let r = room_is (is_running s.tables.status) s.tables.closed (length s.tables.input + length (b ∷ bs)) room in
    let fits : nat_lt 4096 (length s.tables.input + length (b ∷ bs)) ≡ false = grind (arith, nat_tests, r.2) in
    ap (λ (e : Event). refusal_of held e s) (given_some b bs) ∙ rw (r.0, r.1, fits) refl

pub always_taken : IsAlwaysTaken
always_taken s rest e is =
    let n = next_is s.tables rest e is in (
      subst IsInRange n.1 (in_range (next_bytes rest) (few_next rest)),
      λ held. subst (λ (f : Event). refusal_of held f s ≡ None) n.1 (taken (next_bytes rest) s held n.0),
    )

pub hangs_on_next : HangsOnNext
hangs_on_next s rest n enough = ap (λ (l : List ℕ). if has_room s (length l) then Some (given_by l) else None) (take-take 64 n rest enough)

-- the next bytes, as a slice has them
pub next_slice : (rest : List ℕ) → take (min (length rest) 64) rest ≡ next_bytes rest
next_slice rest = ap (λ n. take n rest) (let e : min (length rest) 64 ≡ min 64 (length rest) = omega arith in e) ∙ take_min 64 rest

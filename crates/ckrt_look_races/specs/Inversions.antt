-- Cycles of locks, as text (this project's own format): a line a cycle, and beneath it what each thread held and who called.
use Rattle.std.specs.Prelude.{ℕ, ◌==◌, Bool, true, false, if◌then◌else◌, List, [], ◌∷◌, ◌++◌, codes, decimal, Option, Some, None}
use Rattle.std.specs.List.{flat_map}
use Rattle.ckrt_inspect.specs.Texts.{hex_text}
use Rattle.ckrt_look_clocks.specs.declared.inversion.Inversion.{Inversion}
use Rattle.ckrt_look_clocks.specs.declared.inversion.Link.{Link}
use Rattle.ckrt_look_clocks.specs.declared.lock.LockName.{LockName}
use Rattle.ckrt_look_clocks.specs.declared.lock.LockName.TheVariants.{Mutex, RwLock}
use Rattle.ckrt_look_clocks.specs.declared.lock.Taking.{Taking}
use Rattle.ckrt_look_clocks.specs.declared.operation.Place.{Place}
use Rattle.ckrt_look_clocks.specs.LockHistories.{Ordered}
use Rattle.ckrt_look_calls.specs.declared.moment.Moment.{Moment}
use Rattle.ckrt_look_calls.specs.Replays.{Replay}
use Rattle.ckrt_look_calls.specs.Moments.{made_text, moment_text, position_text}
use Rattle.ckrt_look_races.specs.Moments.{moment_of, place_of}
use Rattle.ckrt_look_calls.specs.Rows.{times_text}

-- `mutex ADDRESS`, `rwlock ADDRESS to read`, `rwlock ADDRESS to write`
abbrev pub reading_text : (reads : Bool) → List ℕ
reading_text true = codes " to read"
reading_text false = codes " to write"

abbrev pub lock_text : LockName → (reads : Bool) → List ℕ
lock_text (Mutex a) r = codes "mutex " ++ hex_text a
lock_text (RwLock a) r = (codes "rwlock " ++ hex_text a) ++ reading_text r

-- ` pc PC from PC`
abbrev pub call_text : Taking → List ℕ
call_text k = (codes " pc " ++ hex_text k.pc) ++ (codes " from " ++ hex_text k.caller)

abbrev pub taking_text : Taking → List ℕ
taking_text k = lock_text k.lock k.reads ++ call_text k

abbrev pub doing_text : (verb : List ℕ) → Taking → List ℕ
doing_text verb k = verb ++ taking_text k

-- `K+S thread T`
abbrev pub at_text : Place → List ℕ
at_text p = decimal p.event ++ (codes "+" ++ decimal p.step)

abbrev pub who_text : Link → List ℕ
who_text l = at_text l.taken.place ++ (codes " thread " ++ decimal l.thread)

-- `K+S thread T takes LOCK pc PC from PC, `
abbrev pub link_text : Link → List ℕ
link_text l = who_text l ++ doing_text (codes " takes ") l.taken

abbrev pub link_piece : Option Link → List ℕ
link_piece None = []
link_piece (Some l) = link_text l ++ codes ", "

-- each of them, and `a cycle of N`
abbrev pub cycle_text : Inversion → List ℕ
cycle_text x = flat_map link_piece x.links ++ (codes "a cycle of " ++ decimal x.length)

-- `, once`, `, N times`
abbrev pub count_text : ℕ → List ℕ
count_text n = codes ", " ++ times_text n

abbrev pub inversion_line : Inversion → List ℕ
inversion_line x = cycle_text x ++ (count_text x.count ++ codes "\n")

-- BENEATH IT: what each thread held, and who called as it took what the line says

abbrev pub moment_at : Link → Moment
moment_at l = moment_of l.thread l.taken.place

-- `    K+S thread T took LOCK pc PC from PC at K+S`
abbrev pub took_text : Link → List ℕ
took_text l = moment_text (moment_at l) ++ doing_text (codes " took ") l.held

abbrev pub took_line : Link → List ℕ
took_line l = took_text l ++ (position_text (codes " at ") (place_of l.held.place) ++ codes "\n")

abbrev pub callers_at : Link → Replay → List ℕ
callers_at l r = made_text (moment_at l) r

abbrev pub link_lines : Replay → Option Link → List ℕ
link_lines r None = []
link_lines r (Some l) = took_line l ++ callers_at l r

abbrev pub inversion_text : Replay → Inversion → List ℕ
inversion_text r x = inversion_line x ++ flat_map (link_lines r) x.links

-- WHAT WAS FOUND

abbrev pub more_text : ℕ → List ℕ
more_text n = codes "and " ++ times_text n

abbrev pub more_line : ℕ → List ℕ
more_line n = if n == 0 then [] else more_text n ++ codes " elsewhere in a cycle\n"

-- where there is none: where it was looked, and where there may be one
abbrev pub span_text : (begin end : ℕ) → List ℕ
span_text k l = (codes "no cycle of locks in events " ++ decimal k) ++ (codes " to " ++ decimal l)

abbrev pub another : (begin : ℕ) → List ℕ
another k =
    if k == 0 then codes " of this schedule; another one may have one\n"
    else codes " of this schedule; events before these were not looked at, and another schedule may have one\n"

abbrev pub no_cycle_text : (begin end : ℕ) → List ℕ
no_cycle_text k l = span_text k l ++ another k

abbrev pub rows_text : (Inversion → List ℕ) → (begin end : ℕ) → List Inversion → ℕ → List ℕ
rows_text each k l [] n = no_cycle_text k l
rows_text each k l (x ∷ xs) n = flat_map each (x ∷ xs) ++ more_line n

-- where the room was used up
abbrev pub full_text : (is_full : Bool) → List ℕ
full_text true = codes "the room for orders of locks was used up, later ones were not looked at\n"
full_text false = []

abbrev pub orders_text : (Inversion → List ℕ) → (begin end : ℕ) → Ordered → List ℕ
orders_text each k l o = rows_text each k l o.found.rows o.found.others ++ full_text o.is_full

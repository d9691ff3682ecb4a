-- A profile as text: a table (this project's own format), or a line a stack (the folded stacks of flame graphs: frames with `;` between,
-- a space, and how often).
use Rattle.std.specs.Prelude.{ℕ, zero, suc, ◌-◌, ◌*◌, ◌/◌, ◌%◌, ◌==◌, nat_lt, min, if◌then◌else◌, List, [], ◌++◌, length, take, drop, slice_get, codes, decimal, Option, Some, None}
use Rattle.std.specs.List.{flat_map}
use Rattle.ckrt_inspect.specs.Texts.{hex_text}
use Rattle.ckrt_look_profile.specs.declared.row.Base.{Base}
use Rattle.ckrt_look_profile.specs.declared.row.Base.TheVariants as base
use Rattle.ckrt_look_profile.specs.declared.row.Row.{Row}
use Rattle.ckrt_look_profile.specs.declared.shares.Share.{Share}
use Rattle.ckrt_look_profile.specs.declared.shares.Subject.{Subject}
use Rattle.ckrt_look_profile.specs.declared.shares.Subject.TheVariants as subject
use Rattle.ckrt_look_profile.specs.declared.waits.Awaited.{Awaited}
use Rattle.ckrt_look_profile.specs.declared.waits.Awaited.TheVariants as awaited
use Rattle.ckrt_look_profile.specs.Counts.{Counts}
use Rattle.ckrt_look_profile.specs.Shares.{functions, ranked, steps_of, thread_shares, total, wait_shares}
use Rattle.ckrt_look_profile.specs.Callgrind.{callgrind_text}
use Rattle.ckrt_look_profile.specs.declared.form.Form.{Form}
use Rattle.ckrt_look_profile.specs.declared.form.Form.TheVariants as form

-- NUMBERS

abbrev pub SPACES : List ℕ
SPACES = codes "                    "

-- in so many columns
abbrev pub padded : (width : ℕ) → ℕ → List ℕ
padded w n = take (w - length (decimal n)) SPACES ++ decimal n

abbrev pub two_digits : ℕ → List ℕ
two_digits n = if nat_lt n 10 then codes "0" ++ decimal n else decimal n

-- the share in hundredths of a percent, rounded down
abbrev pub hundredths : (steps all : ℕ) → ℕ
hundredths n all = if all == 0 then 0 else min n all * 10000 / all

abbrev pub percent_text : ℕ → List ℕ
percent_text n = padded 4 (n / 100) ++ codes "." ++ two_digits (n % 100) ++ codes "%"

-- A LINE: ` 66.31%           2131234  ` and what it is of. One that has no steps is left out

abbrev pub share_text : (all steps : ℕ) → List ℕ
share_text all n = percent_text (hundredths n all) ++ padded 18 n ++ codes "  "

abbrev pub awaited_text : Awaited → List ℕ
awaited_text awaited.Input = codes "input"
awaited_text awaited.Sleep = codes "sleep"
awaited_text (awaited.Join t) = codes "join " ++ decimal t
awaited_text (awaited.Mutex a) = codes "mutex " ++ hex_text a
awaited_text (awaited.Condition a) = codes "cond " ++ hex_text a
awaited_text (awaited.Barrier a) = codes "barrier " ++ hex_text a
awaited_text (awaited.Read a) = codes "read " ++ hex_text a
awaited_text (awaited.Write a) = codes "write " ++ hex_text a

abbrev pub function_text : (address calls : ℕ) → List ℕ
function_text a n = codes "pc " ++ hex_text a ++ (codes ", calls " ++ decimal n)

abbrev pub wait_text : (t : ℕ) → Awaited → List ℕ
wait_text t a = codes "thread " ++ decimal t ++ codes " waits " ++ awaited_text a

abbrev pub subject_text : Subject → List ℕ
subject_text (subject.Function a n) = function_text a n
subject_text (subject.Thread t) = codes "thread " ++ decimal t
subject_text (subject.Wait t a) = wait_text t a

abbrev pub line_of : (all steps : ℕ) → List ℕ → List ℕ
line_of all n text = if n == 0 then [] else share_text all n ++ text ++ codes "\n"

abbrev pub share_line : (all : ℕ) → Share → List ℕ
share_line all x = line_of all x.steps (subject_text x.subject)

-- THE TABLE: of shares, of which that with the most steps stands first, the first twenty, and the steps of the others

abbrev pub TOP : ℕ
TOP = 20

abbrev pub top_text : (all : ℕ) → List Share → List ℕ
top_text all xs =
    flat_map (share_line all) (take TOP xs)
    ++ line_of all (steps_of (drop TOP xs)) (codes "others")

-- behind an empty line and the names of the columns
abbrev pub head_text : List ℕ → List ℕ
head_text word = codes "\n  share             steps  " ++ word ++ codes "\n"

-- with a line for so many steps of no share
abbrev pub section_text : (all : ℕ) → (head : List ℕ) → List Share → ℕ → List ℕ → List ℕ
section_text all head xs n text = head_text head ++ top_text all xs ++ line_of all n text

abbrev pub functions_text : (all : ℕ) → Counts → List ℕ
functions_text all c =
    section_text all (codes "function") (ranked (functions c.stacks.rows)) c.stacks.unkept
    (codes "elsewhere")

abbrev pub threads_text : (all : ℕ) → Counts → List ℕ
threads_text all c =
    section_text all (codes "thread") (ranked (thread_shares c.stacks.frames)) 0 []

abbrev pub waits_text : (all : ℕ) → Counts → List ℕ
waits_text all c =
    section_text all (codes "wait") (ranked (wait_shares c.waits.rows)) c.waits.unkept
    (codes "others")

abbrev pub steps_text : ℕ → List ℕ
steps_text all = codes "steps " ++ decimal all ++ codes "\n"

abbrev pub table_of : (all : ℕ) → Counts → List ℕ
table_of all c = steps_text all ++ functions_text all c ++ threads_text all c ++ waits_text all c

abbrev pub table_text : Counts → List ℕ
table_text c = table_of (total c) c

-- FOLDED STACKS: from the thread to the function, a frame for each call that is on the way

abbrev pub entry_text : ℕ → List ℕ
entry_text a = codes ";" ++ hex_text a

abbrev pub frame_text : (Base → List ℕ) → Option Row → List ℕ
frame_text below None = []
frame_text below (Some r) = below r.base ++ entry_text r.entry

-- where so many calls are on the way at most
abbrev pub base_text : (rows : List Row) → (most : ℕ) → Base → List ℕ
base_text rows n (base.Thread t) = codes "thread " ++ decimal t
base_text rows zero (base.Row k) = []
base_text rows (suc n) (base.Row k) = frame_text (base_text rows n) (slice_get rows k)

abbrev pub stack_line : List Row → Row → List ℕ
stack_line rows r =
    base_text rows (length rows) r.base ++ entry_text r.entry ++ codes " " ++ decimal r.steps
    ++ codes "\n"

abbrev pub row_line : List Row → Row → List ℕ
row_line rows r = if r.steps == 0 then [] else stack_line rows r

abbrev pub others_line : ℕ → List ℕ
others_line n = if n == 0 then [] else codes "others " ++ decimal n ++ codes "\n"

abbrev pub folded_of : List Row → (unkept : ℕ) → List ℕ
folded_of rows n = flat_map (row_line rows) rows ++ others_line n

abbrev pub folded_text : Counts → List ℕ
folded_text c = folded_of c.stacks.rows c.stacks.unkept

-- A PROFILE in its form
abbrev pub profile_text : Form → Counts → List ℕ
profile_text form.Table c = table_text c
profile_text form.Folded c = folded_text c
profile_text form.Callgrind c = callgrind_text c

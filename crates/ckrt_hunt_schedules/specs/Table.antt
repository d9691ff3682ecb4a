-- The table of a hunt (this project's own format): for each outcome a line that says how often it came, by which seed first, and what it is; one with
-- the last line that the first seed's run put, but for `exit 0`; and one with the command that repeats it. They stand by their kinds, those that harm
-- first. An outcome has the number of its row, from 1 on, though of many outputs of `exit 0` not each has lines.
--
--     outcome 1: 3 of 200 runs, first by seed 17: deadlock, thread 2 waits for mutex 00002c58 (thread 3 has it)
--         said: 2 of 3 are done
--         ckrt hunt race.bin --seeds 17-17 --pages 64 --harts 2 --steps 10000000 --keep seed-17.disk
use Rattle.std.specs.Prelude.{ℕ, zero, suc, ◌+◌, ◌-◌, ◌==◌, ◌&&◌, nat_le, nat_lt, Bool, false, true, if◌then◌else◌, List, [], ◌∷◌, ◌++◌, length, take, slice_get, codes, decimal, Option, Some, None, option_map}
use Rattle.std.specs.List.{flat_map}
use Rattle.hex.specs.Hex.{encode_lower}
use Rattle.ckrt_rv32i.specs.Names.{cause_name}
use Rattle.ckrt_inspect.specs.Texts.{hex_text}
use Rattle.ckrt_hunt_schedules.specs.Kinds.{kind_of}
use Rattle.ckrt_hunt_schedules.specs.Shown.{has_many, is_shown, total_of}
use Rattle.ckrt_hunt_schedules.specs.declared.kind.Kind.{Kind}
use Rattle.ckrt_hunt_schedules.specs.declared.kind.Kind.TheVariants as kind
use Rattle.ckrt_hunt_schedules.specs.declared.last_line.LastLine.{LastLine}
use Rattle.ckrt_hunt_schedules.specs.declared.outcome.Awaited.{Awaited}
use Rattle.ckrt_hunt_schedules.specs.declared.outcome.Awaited.TheVariants as awaited
use Rattle.ckrt_hunt_schedules.specs.declared.outcome.Outcome.{Outcome}
use Rattle.ckrt_hunt_schedules.specs.declared.outcome.Outcome.TheVariants as outcome
use Rattle.ckrt_hunt_schedules.specs.declared.outcome.Waiting.{Waiting}
use Rattle.ckrt_hunt_schedules.specs.declared.row.Row.{Row}
use Rattle.ckrt_hunt_schedules.specs.declared.shape.Shape.{Shape}
use Rattle.ckrt_hunt_schedules.specs.declared.shown.Measure.TheVariants as measure
use Rattle.ckrt_hunt_schedules.specs.declared.shorten.Chosen.{Chosen}
use Rattle.ckrt_hunt_schedules.specs.declared.shorten.Found.{Found}
use Rattle.ckrt_hunt_schedules.specs.declared.table.Asked.{Asked}
use Rattle.ckrt_hunt_schedules.specs.declared.table.Look.{Look}
use Rattle.ckrt_hunt_schedules.specs.declared.table.Look.TheVariants as look
use Rattle.ckrt_hunt_schedules.specs.declared.outcomes.Outcomes.{Outcomes}
use Rattle.ckrt_hunt_schedules.specs.declared.telling.HuntDone.{HuntDone}

-- WHAT A RUN CAME TO

-- who has what is waited for
abbrev pub owner_text : Option ℕ → List ℕ
owner_text None = []
owner_text (Some t) = codes " (thread " ++ decimal t ++ codes " has it)"

abbrev pub awaited_text : Awaited → List ℕ
awaited_text awaited.Input = codes "input"
awaited_text awaited.Deadline = codes "its deadline"
awaited_text (awaited.End t) = codes "the end of thread " ++ decimal t
awaited_text (awaited.Mutex a owner) = codes "mutex " ++ hex_text a ++ owner_text owner
awaited_text (awaited.Condition a) = codes "condition " ++ hex_text a
awaited_text (awaited.Barrier a) = codes "barrier " ++ hex_text a
awaited_text (awaited.Read a) = codes "read lock " ++ hex_text a
awaited_text (awaited.Write a) = codes "write lock " ++ hex_text a

abbrev pub waiting_text : Waiting → List ℕ
waiting_text w =
    codes ", thread " ++ decimal w.thread ++ codes " waits for " ++ awaited_text w.awaited

-- of runs of at most that many steps and events
abbrev pub outcome_text : (limit : ℕ) → Outcome → List ℕ
outcome_text limit (outcome.Exited status) = codes "exit " ++ decimal status
outcome_text limit (outcome.Faulted t pc c) =
    codes "fault of thread " ++ decimal t ++ (codes " at " ++ hex_text pc) ++ codes ", " ++ cause_name c
outcome_text limit (outcome.Deadlock waiting) = codes "deadlock" ++ flat_map waiting_text waiting.items
outcome_text limit outcome.WaitsForInput = codes "waits for input"
outcome_text limit (outcome.NoEnd circle) =
    (codes "no end within " ++ decimal limit ++ codes " steps or events") ++ flat_map waiting_text circle.items

-- the first eight digits of the digest of the output
abbrev pub digest_text : Option (List ℕ) → List ℕ
digest_text None = []
digest_text (Some digest) = codes ", output " ++ encode_lower (take 4 digest)

-- WHAT IT SAID, by the last line that it put

-- a byte that isn't printable ASCII by its two hexadecimal digits
abbrev pub byte_text : ℕ → List ℕ
byte_text b = if nat_le 32 b && nat_lt b 127 then b ∷ [] else codes "\\x" ++ encode_lower (b ∷ [])

abbrev pub rest_text : (is_longer : Bool) → List ℕ
rest_text is_longer = if is_longer then codes ".." else []

abbrev pub line_text : LastLine → List ℕ
line_text l = codes "    said: " ++ flat_map byte_text l.bytes.items ++ rest_text l.is_longer ++ 10 ∷ []

-- where no line was put, and of `exit 0`, there is none
abbrev pub is_silent : Kind → LastLine → Bool
is_silent kind.Fault l = length l.bytes.items == 0
is_silent kind.Deadlock l = length l.bytes.items == 0
is_silent kind.OtherStatus l = length l.bytes.items == 0
is_silent kind.NoEnd l = length l.bytes.items == 0
is_silent kind.WaitsForInput l = length l.bytes.items == 0
is_silent kind.ExitZero l = true

abbrev pub said_line : Row → List ℕ
said_line r = if is_silent (kind_of r.told.outcome) r.said then [] else line_text r.said

-- ITS LINES

-- the second number of how many runs of how many
abbrev pub runs_text : Asked → List ℕ
runs_text a = codes " of " ++ decimal (a.seeds.last - a.seeds.first + 1) ++ codes " runs"

abbrev pub head_text : Asked → (number : ℕ) → Row → List ℕ
head_text a number r =
    codes "outcome " ++ decimal number ++ (codes ": " ++ decimal r.count) ++ runs_text a
    ++ (codes ", first by seed " ++ decimal r.first)
    ++ codes ": "

abbrev pub outcome_line : Asked → (number : ℕ) → Row → List ℕ
outcome_line a number r =
    head_text a number r ++ outcome_text a.shape.limit r.told.outcome ++ digest_text r.told.digest ++ 10 ∷ []

-- the command that runs one seed alone, and keeps it
abbrev pub seed_text : (seed : ℕ) → List ℕ
seed_text seed = codes " --seeds " ++ decimal seed ++ (codes "-" ++ decimal seed)

abbrev pub shape_text : Shape → List ℕ
shape_text s =
    codes " --pages " ++ decimal s.pages ++ (codes " --harts " ++ decimal s.harts) ++ (codes " --steps " ++ decimal s.limit)

-- the input, where there is one
abbrev pub input_path_text : Option (List ℕ) → List ℕ
input_path_text None = []
input_path_text (Some path) = codes " --input " ++ path

abbrev pub input_text : Asked → List ℕ
input_text a = input_path_text (option_map (λ path. path.now) a.input)

-- what runs are looked at for, where that is more than their outcomes
abbrev pub is_closer : Look → Bool
is_closer look.Outcomes = false
is_closer look.Races = true
is_closer look.Errors = true

abbrev pub look_word : Look → List ℕ
look_word look.Outcomes = []
look_word look.Races = codes " --races"
look_word look.Errors = codes " --check"

-- that outcomes which differ in their output alone are one, where they are
abbrev pub ignored_word : Bool → List ℕ
ignored_word ignores_output = if ignores_output then codes " --ignore-output" else []

abbrev pub command_line : Asked → (seed : ℕ) → List ℕ
command_line a seed =
    codes "    ckrt hunt " ++ a.image.now ++ seed_text seed ++ shape_text a.shape ++ input_text a
    ++ look_word a.look
    ++ ignored_word a.shape.ignores_output
    ++ (codes " --keep seed-" ++ decimal seed)
    ++ codes ".disk\n"

abbrev pub row_text : Asked → (number : ℕ) → Row → List ℕ
row_text a number r = outcome_line a number r ++ said_line r ++ command_line a r.first

-- THE TABLE

-- a row among these that has lines
abbrev pub shown_text : Asked → List Row → (number : ℕ) → Row → List ℕ
shown_text a rows number r = if is_shown a.all_rows rows r then row_text a number r else []

abbrev pub row_text_at : Asked → List Row → (number : ℕ) → Option Row → List ℕ
row_text_at a rows number None = []
row_text_at a rows number (Some r) = shown_text a rows number r

-- the first n rows
unfoldable pub rows_text : Asked → List Row → (n : ℕ) → List ℕ
rows_text a rows zero = []
rows_text a rows (suc n) = rows_text a rows n ++ row_text_at a rows (suc n) (slice_get rows n)

-- how many outputs of `exit 0` there are, and how many runs had one of them, where not all have lines
abbrev pub many_text : Asked → List Row → List ℕ
many_text a rows =
    (codes "outputs of exit 0: " ++ decimal (total_of measure.Outputs rows (length rows)))
    ++ (codes " in " ++ decimal (total_of measure.Runs rows (length rows)))
    ++ runs_text a
    ++ codes ", the three commonest above\n"

abbrev pub outputs_line : Asked → List Row → List ℕ
outputs_line a rows = if has_many a.all_rows rows then many_text a rows else []

-- the runs for whose outcomes there was no row left, if there are any
abbrev pub others_line : Asked → (others : ℕ) → List ℕ
others_line a others =
    if others == 0 then [] else codes "other outcomes: " ++ decimal others ++ runs_text a ++ 10 ∷ []

abbrev pub table_text : Asked → Outcomes → List ℕ
table_text a o =
    rows_text a o.rows.items (length o.rows.items) ++ outputs_line a o.rows.items ++ others_line a o.others

-- of the seeds that were run
abbrev pub done_text : Asked → HuntDone → List ℕ
done_text a done = table_text (record a { seeds = done.seeds }) done.outcomes

-- A RUN THAT IS KEPT
--
--     kept: the run of seed 17 on bugs/outcome-2.disk, switches: 4, drawn with 4123, fewest of 10 seeds

-- how many switches it was drawn with, where it was shortened
abbrev pub drawn_by : {A : Type 0} → (given : Option A) → (drawn : ℕ) → List ℕ
drawn_by None drawn = codes ", as it was drawn"
drawn_by (Some turns) drawn = codes ", drawn with " ++ decimal drawn

abbrev pub drawn_text : Found → List ℕ
drawn_text found = drawn_by found.plan.turns found.drawn

-- among the runs of how many seeds it was chosen, where they are several
abbrev pub fewest_text : (seeds : ℕ) → List ℕ
fewest_text seeds =
    if nat_le seeds 1 then [] else codes ", fewest of " ++ decimal seeds ++ codes " seeds"

-- a seed behind a word, and the disk of its run
abbrev pub placed_text : (word : List ℕ) → (seed : ℕ) → (path : List ℕ) → List ℕ
placed_text word seed path = word ++ decimal seed ++ codes " on " ++ path

abbrev pub kept_text : (path : List ℕ) → Chosen → List ℕ
kept_text path chosen =
    placed_text (codes "kept: the run of seed ") chosen.seed path
    ++ (codes ", switches: " ++ decimal chosen.found.switches)
    ++ drawn_text chosen.found
    ++ fewest_text chosen.seeds
    ++ 10 ∷ []

-- one that isn't
abbrev pub unkept_text : (seed : ℕ) → (path : List ℕ) → List ℕ
unkept_text seed path = placed_text (codes "not kept: the run of seed ") seed path ++ 10 ∷ []

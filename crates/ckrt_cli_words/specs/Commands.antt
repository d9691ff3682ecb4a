-- The program's command line, as `clap` sees it: `format DISK IMAGE [--pages P] [--harts H] [--journal J] [--env NAME=VALUE]`, `run DISK`,
-- `inspect DISK [--history] [--at K] [--code] [--names FILE]`, `core DISK FILE [--history] [--at K]`, `calls DISK [--history] [--from K] [--to K] [--last N] [--names FILE]`,
-- `debug DISK [--history] [--at K]`, `races DISK [--history] [--from K] [--to K] [--last N] [--names FILE] [--memory BYTES]`,
-- `check DISK [--history] [--from K] [--to K] [--last N] [--names FILE] [--memory BYTES]`,
-- `timeline DISK [--history] [--from K] [--to K] [--last N] [--names FILE] [--width W] [--json]`,
-- `profile DISK [--history] [--from K] [--to K] [--last N] [--names FILE] [--folded | --callgrind]`, `history FILE [--disk DISK | --part PART --from K [--to K]]`,
-- `hunt IMAGE [--seeds A-B | --seconds S] [--pages P] [--harts H] [--input FILE] [--steps N] [--races | --check] [--memory BYTES] [--ignore-output] [--rows] [--keep DISK | FOLDER/] [--table FILE]
-- [--progress SECONDS] [--names FILE] [--env NAME=VALUE]` and
-- `drive DISK [--image IMAGE] [--pages P] [--harts H] [--journal J] [--input FILE] [--input-from OFFSET] [--output FILE] [--history FILE] [--snapshots SECONDS] [--history-may-end] [--turn N]
-- [--rounds-per-commit R] [--events N] [--seed S] [--other-schedule] [--progress SECONDS] [--status FILE] [--from OFFSET] [--names FILE] [--env NAME=VALUE]`.
use Rattle.std.specs.Prelude.{pos, codes, fold, Some, true, List, [], ◌∷◌}
use Rattle.clap.specs.Words.{App, Rule, Text, new_app, new_rule, with_rule, with_subcommand}
use Rattle.clap.specs.declared.builder.value_parser.ValueParser.TheVariants.{Signed, Unsigned}
use Rattle.clap.specs.declared.builder.action.ArgAction.TheVariants.{SetTrue}

-- a word that has to stand there
abbrev pub needed_rule : Text → Rule
needed_rule id = record (new_rule id) { required = true; value_names = 1 }

-- an option `--id N`, a number of 32 bits, with its value where it isn't given
abbrev pub number_rule : Text → Text → Rule
number_rule id default = record (new_rule id) {
  long = Some id;
  value_names = 1;
  parser = Some (Signed (pos 0) (pos 4294967295));
  defaults = default ∷ [];
}

-- an option `--id N`, a number of 32 bits, which may be left out
abbrev pub size_rule : Text → Rule
size_rule id = record (new_rule id) {
  long = Some id;
  value_names = 1;
  parser = Some (Signed (pos 0) (pos 4294967295));
}

-- an option `--id K`, a number of 64 bits, which may be left out
abbrev pub place_rule : Text → Rule
place_rule id = record (new_rule id) {
  long = Some id;
  value_names = 1;
  parser = Some (Unsigned 0 18446744073709551615);
}

-- an option `--id FILE`, a text, which may be left out
abbrev pub option_rule : Text → Rule
option_rule id = record (new_rule id) { long = Some id; value_names = 1 }

-- an option `--id` without a value
abbrev pub flag_rule : Text → Rule
flag_rule id = record (new_rule id) { long = Some id; action = Some SetTrue }

abbrev pub format_app : App
format_app =
    with_rule (with_rule (with_rule (with_rule (with_rule (with_rule (new_app (codes "format"))
    (needed_rule (codes "disk")))
    (needed_rule (codes "image")))
    (number_rule (codes "pages") (codes "64")))
    (number_rule (codes "harts") (codes "1")))
    (number_rule (codes "journal") (codes "65536")))
    (option_rule (codes "env"))

abbrev pub run_app : App
run_app = with_rule (new_app (codes "run")) (needed_rule (codes "disk"))

abbrev pub inspect_app : App
inspect_app =
    with_rule (with_rule (with_rule (with_rule (with_rule (new_app (codes "inspect"))
    (needed_rule (codes "disk")))
    (flag_rule (codes "history")))
    (place_rule (codes "at")))
    (flag_rule (codes "code")))
    (option_rule (codes "names"))

abbrev pub core_app : App
core_app =
    with_rule (with_rule (with_rule (with_rule (new_app (codes "core"))
    (needed_rule (codes "disk")))
    (needed_rule (codes "file")))
    (flag_rule (codes "history")))
    (place_rule (codes "at"))

-- the words of a stretch of what a disk has recorded, behind the name of a command
abbrev pub stretch_app : App → App
stretch_app named =
    with_rule (with_rule (with_rule (with_rule (with_rule (with_rule named
    (needed_rule (codes "disk")))
    (flag_rule (codes "history")))
    (place_rule (codes "from")))
    (place_rule (codes "to")))
    (place_rule (codes "last")))
    (option_rule (codes "names"))

abbrev pub calls_app : App
calls_app = stretch_app (new_app (codes "calls"))

abbrev pub debug_app : App
debug_app =
    with_rule (with_rule (with_rule (new_app (codes "debug"))
    (needed_rule (codes "disk")))
    (flag_rule (codes "history")))
    (place_rule (codes "at"))

-- and how many bytes a shadow may take
abbrev pub shadow_app : App → App
shadow_app named = with_rule (stretch_app named) (place_rule (codes "memory"))

abbrev pub races_app : App
races_app = shadow_app (new_app (codes "races"))

abbrev pub check_app : App
check_app = shadow_app (new_app (codes "check"))

abbrev pub timeline_app : App
timeline_app =
    with_rule (with_rule (stretch_app (new_app (codes "timeline")))
    (number_rule (codes "width") (codes "1200")))
    (flag_rule (codes "json"))

abbrev pub profile_app : App
profile_app =
    with_rule (with_rule (stretch_app (new_app (codes "profile")))
    (flag_rule (codes "folded")))
    (flag_rule (codes "callgrind"))

abbrev pub hunt_app : App
hunt_app =
    with_rule (with_rule (with_rule (with_rule (with_rule (with_rule (with_rule (with_rule (with_rule (with_rule (with_rule (with_rule (with_rule
    (with_rule (with_rule (with_rule (with_rule (new_app (codes "hunt"))
    (needed_rule (codes "image")))
    (option_rule (codes "seeds")))
    (place_rule (codes "seconds")))
    (number_rule (codes "pages") (codes "64")))
    (number_rule (codes "harts") (codes "1")))
    (option_rule (codes "input")))
    (number_rule (codes "steps") (codes "10000000")))
    (flag_rule (codes "races")))
    (flag_rule (codes "check")))
    (place_rule (codes "memory")))
    (flag_rule (codes "ignore-output")))
    (flag_rule (codes "rows")))
    (option_rule (codes "keep")))
    (option_rule (codes "table")))
    (place_rule (codes "progress")))
    (option_rule (codes "names")))
    (option_rule (codes "env"))

abbrev pub history_app : App
history_app =
    with_rule (with_rule (with_rule (with_rule (with_rule (new_app (codes "history"))
    (needed_rule (codes "file")))
    (option_rule (codes "disk")))
    (option_rule (codes "part")))
    (place_rule (codes "from")))
    (place_rule (codes "to"))

abbrev pub drive_app : App
drive_app =
    with_rule (with_rule (with_rule (with_rule (with_rule (with_rule (with_rule (with_rule (with_rule (with_rule (with_rule (with_rule (with_rule
    (with_rule (with_rule (with_rule (with_rule (with_rule (with_rule (with_rule (with_rule (new_app (codes "drive"))
    (needed_rule (codes "disk")))
    (option_rule (codes "image")))
    (size_rule (codes "pages")))
    (size_rule (codes "harts")))
    (size_rule (codes "journal")))
    (option_rule (codes "input")))
    (place_rule (codes "input-from")))
    (option_rule (codes "output")))
    (option_rule (codes "history")))
    (place_rule (codes "snapshots")))
    (flag_rule (codes "history-may-end")))
    (number_rule (codes "turn") (codes "1000000")))
    (number_rule (codes "rounds-per-commit") (codes "16")))
    (place_rule (codes "events")))
    (place_rule (codes "seed")))
    (flag_rule (codes "other-schedule")))
    (place_rule (codes "progress")))
    (option_rule (codes "status")))
    (place_rule (codes "from")))
    (option_rule (codes "names")))
    (option_rule (codes "env"))

-- the program without a command: its words don't begin with its name, and `help` is no command
abbrev pub bare_app : App
bare_app = record {
  top = record (new_app (codes "ckrt")).top { no_binary_name = true; disable_help_subcommand = true; subcommand_required = true };
  subs = [];
}

-- the program with commands, each behind the ones before it
abbrev pub app_with : List App → App
app_with commands = fold (λ whole command. with_subcommand whole command.top) bare_app commands

abbrev pub ckrt_app : App
ckrt_app =
    app_with (format_app ∷ run_app ∷ inspect_app ∷ drive_app ∷ core_app ∷ calls_app ∷ debug_app
    ∷ races_app ∷ timeline_app ∷ profile_app ∷ hunt_app ∷ check_app ∷ history_app ∷ [])

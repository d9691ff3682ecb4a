-- Words that `clap` takes for the program's command line name a job.
use Rattle.std.proofs.Common.{unwrap_or, slice_index_or, slice_get, take, drop, ◌≡◌, ◌∙◌, ◌&&◌, ℕ, Bool, true, false, cond, List, [], ◌∷◌, Option, Some, None, is_some, refl, sym, ap, subst, true≢false, inl, inr, codes, arith}
use Rattle.std.specs.Prelude.{⊤, pos, find, option_and_then, option_map}
use Rattle.std.specs.Str.Parse.{ParsesUnsigned}
use Rattle.std.specs.Str.{bytes_eq}
use Rattle.std.specs.Option.{option_map_or}
use Rattle.clap.specs.Facts.{parser_of_value}
use Rattle.clap.specs.Values.{read_as, reading_of}
use Rattle.clap.specs.declared.builder.value_parser.ValueParser.{ValueParser}
use Rattle.clap.specs.Words.{App, Row, Rule, Text, first_of, subcommand_of, takes}
use Rattle.clap.specs.Lexer.{without_minus}
use Rattle.clap.specs.Walk.{answers_to, arg_by_id, one_of, settled, finished, nothing_held, walk}
use Rattle.clap.specs.Simple.{Shape, built, entered, label_of, names_of, new_rule, rows_at}
use Rattle.clap.specs.Takes.{entered_passes, is_given, level_passes}
use Rattle.clap.specs.ValueTests.{accepts}
use Rattle.clap.specs.declared.builder.value_parser.ValueParser.TheVariants as vp
use Rattle.clap.proofs.CallerReads.{signed_reads}
use Rattle.clap.proofs.ValueTestLemmas.{accepts-Accepts}
use Rattle.ckrt_cli_words.specs.Commands.{ckrt_app}
use Rattle.ckrt_cli_words.specs.Jobs.{DiskStretch, Request, calls, check, core, debug, asks_both_forms, disk_stretch_in, drive, flag_in, form_of, format, has_both_forms, history, hunt, inspect, profile, races, run, number_in, number_of, place_in, request_in, sizes_in, timeline}
use Rattle.ckrt_cli_words.specs.declared.job.ProfileForm.{ProfileForm}
use Rattle.ckrt_cli_words.specs.declared.job.ProfileForm.TheVariants as form
use Rattle.clap.proofs.WalkLemmas.{both}
use Rattle.ckrt_cli_words.proofs.MatchLemmas.{AreRows, AreRules, defaults_give, given_found, has_command, has_required, level_kept, level_valid, row_found, taken_levels, value_there}
use Rattle.ckrt_cli_words.proofs.NumberLemmas.{number_reads}

-- the command line as `clap` builds it
abbrev built_app : App
built_app = built ckrt_app

abbrev format_shape : Shape
format_shape = unwrap_or (slice_get built_app.subs 0) built_app.top

abbrev run_shape : Shape
run_shape = unwrap_or (slice_get built_app.subs 1) built_app.top

abbrev inspect_shape : Shape
inspect_shape = unwrap_or (slice_get built_app.subs 2) built_app.top

abbrev drive_shape : Shape
drive_shape = unwrap_or (slice_get built_app.subs 3) built_app.top

abbrev core_shape : Shape
core_shape = unwrap_or (slice_get built_app.subs 4) built_app.top

abbrev calls_shape : Shape
calls_shape = unwrap_or (slice_get built_app.subs 5) built_app.top

abbrev debug_shape : Shape
debug_shape = unwrap_or (slice_get built_app.subs 6) built_app.top

abbrev races_shape : Shape
races_shape = unwrap_or (slice_get built_app.subs 7) built_app.top

abbrev timeline_shape : Shape
timeline_shape = unwrap_or (slice_get built_app.subs 8) built_app.top

abbrev profile_shape : Shape
profile_shape = unwrap_or (slice_get built_app.subs 9) built_app.top

abbrev hunt_shape : Shape
hunt_shape = unwrap_or (slice_get built_app.subs 10) built_app.top

abbrev check_shape : Shape
check_shape = unwrap_or (slice_get built_app.subs 11) built_app.top

abbrev history_shape : Shape
history_shape = unwrap_or (slice_get built_app.subs 12) built_app.top

format_rules : AreRules format_shape refl format_shape.rules
format_rules = ((refl, inl (refl, refl)), ((refl, inl (refl, refl)), ((refl, inl (refl, refl)), ((refl, inl (refl, refl)), ((refl, inl (refl, refl)), ((refl, inl (refl, refl)), ((refl, inr (inl refl)), tt)))))))

run_rules : AreRules run_shape refl run_shape.rules
run_rules = ((refl, inl (refl, refl)), ((refl, inr (inl refl)), tt))

inspect_rules : AreRules inspect_shape refl inspect_shape.rules
inspect_rules = ((refl, inl (refl, refl)), ((refl, inr (inr (refl, (_, [], refl)))), ((refl, inl (refl, refl)), ((refl, inr (inr (refl, (_, [], refl)))), ((refl, inl (refl, refl)), ((refl, inr (inl refl)), tt))))))

drive_rules : AreRules drive_shape refl drive_shape.rules
drive_rules = ((refl, inl (refl, refl)), ((refl, inl (refl, refl)), ((refl, inl (refl, refl)), ((refl, inl (refl, refl)), ((refl, inl (refl, refl)), ((refl, inl (refl, refl)), ((refl, inl (refl, refl)), ((refl, inl (refl, refl)), ((refl, inl (refl, refl)), ((refl, inl (refl, refl)), ((refl, inr (inr (refl, (_, [], refl)))), ((refl, inl (refl, refl)), ((refl, inl (refl, refl)), ((refl, inl (refl, refl)), ((refl, inl (refl, refl)), ((refl, inr (inr (refl, (_, [], refl)))), ((refl, inl (refl, refl)), ((refl, inl (refl, refl)), ((refl, inl (refl, refl)), ((refl, inl (refl, refl)), ((refl, inl (refl, refl)), ((refl, inr (inl refl)), tt))))))))))))))))))))))

core_rules : AreRules core_shape refl core_shape.rules
core_rules = ((refl, inl (refl, refl)), ((refl, inl (refl, refl)), ((refl, inr (inr (refl, (_, [], refl)))), ((refl, inl (refl, refl)), ((refl, inr (inl refl)), tt)))))

calls_rules : AreRules calls_shape refl calls_shape.rules
calls_rules = ((refl, inl (refl, refl)), ((refl, inr (inr (refl, (_, [], refl)))), ((refl, inl (refl, refl)), ((refl, inl (refl, refl)), ((refl, inl (refl, refl)), ((refl, inl (refl, refl)), ((refl, inr (inl refl)), tt)))))))

debug_rules : AreRules debug_shape refl debug_shape.rules
debug_rules = ((refl, inl (refl, refl)), ((refl, inr (inr (refl, (_, [], refl)))), ((refl, inl (refl, refl)), ((refl, inr (inl refl)), tt))))

races_rules : AreRules races_shape refl races_shape.rules
races_rules = ((refl, inl (refl, refl)), ((refl, inr (inr (refl, (_, [], refl)))), ((refl, inl (refl, refl)), ((refl, inl (refl, refl)), ((refl, inl (refl, refl)), ((refl, inl (refl, refl)), ((refl, inl (refl, refl)), ((refl, inr (inl refl)), tt))))))))

check_rules : AreRules check_shape refl check_shape.rules
check_rules = ((refl, inl (refl, refl)), ((refl, inr (inr (refl, (_, [], refl)))), ((refl, inl (refl, refl)), ((refl, inl (refl, refl)), ((refl, inl (refl, refl)), ((refl, inl (refl, refl)), ((refl, inl (refl, refl)), ((refl, inr (inl refl)), tt))))))))

timeline_rules : AreRules timeline_shape refl timeline_shape.rules
timeline_rules = ((refl, inl (refl, refl)), ((refl, inr (inr (refl, (_, [], refl)))), ((refl, inl (refl, refl)), ((refl, inl (refl, refl)), ((refl, inl (refl, refl)), ((refl, inl (refl, refl)), ((refl, inl (refl, refl)), ((refl, inr (inr (refl, (_, [], refl)))), ((refl, inr (inl refl)), tt)))))))))

profile_rules : AreRules profile_shape refl profile_shape.rules
profile_rules = ((refl, inl (refl, refl)), ((refl, inr (inr (refl, (_, [], refl)))), ((refl, inl (refl, refl)), ((refl, inl (refl, refl)), ((refl, inl (refl, refl)), ((refl, inl (refl, refl)), ((refl, inr (inr (refl, (_, [], refl)))), ((refl, inr (inr (refl, (_, [], refl)))), ((refl, inr (inl refl)), tt)))))))))

hunt_rules : AreRules hunt_shape refl hunt_shape.rules
hunt_rules = ((refl, inl (refl, refl)), ((refl, inl (refl, refl)), ((refl, inl (refl, refl)), ((refl, inl (refl, refl)), ((refl, inl (refl, refl)), ((refl, inl (refl, refl)), ((refl, inl (refl, refl)), ((refl, inr (inr (refl, (_, [], refl)))), ((refl, inr (inr (refl, (_, [], refl)))), ((refl, inl (refl, refl)), ((refl, inr (inr (refl, (_, [], refl)))), ((refl, inr (inr (refl, (_, [], refl)))), ((refl, inl (refl, refl)), ((refl, inl (refl, refl)), ((refl, inl (refl, refl)), ((refl, inl (refl, refl)), ((refl, inl (refl, refl)), ((refl, inr (inl refl)), tt))))))))))))))))))

history_rules : AreRules history_shape refl history_shape.rules
history_rules = ((refl, inl (refl, refl)), ((refl, inl (refl, refl)), ((refl, inl (refl, refl)), ((refl, inl (refl, refl)), ((refl, inl (refl, refl)), ((refl, inr (inl refl)), tt))))))

number_there : (v : Text) → accepts false (vp.Signed (pos 0) (pos 4294967295)) v ≡ true → (n : ℕ) × (number_of 32 (without_minus v) ≡ Some n)
number_there v pass =
    let read = signed_reads ⊤ (ParsesUnsigned 32 10) 32 0 4294967295 v (number_of 32 (without_minus v)) (number_reads 32 (without_minus v)) (λ u x g. g) (omega arith) (accepts-Accepts false (vp.Signed (pos 0) (pos 4294967295)) v pass) in
    (read.0, read.1)

run_named : (words : List Text) → level_passes run_shape [] nothing_held words false ≡ true → (r : Request) × (request_in (rows_at run_shape words) ≡ Some r)
run_named words pass =
    let rows = finished run_shape.rules (walk run_shape.rules [] nothing_held words).held in
    let kept = level_kept run_shape refl run_rules [] nothing_held words false pass tt in
    let given = has_required run_shape rows false (level_valid run_shape [] nothing_held words false pass) refl in
    let disk = value_there run_shape refl (codes "disk") rows _ kept refl (given_found (codes "disk") rows (both (is_given (codes "disk") rows) true given).0) in
    (run disk.0, ap (option_map run) disk.1)

inspect_named : (words : List Text) → level_passes inspect_shape [] nothing_held words false ≡ true → (r : Request) × (request_in (rows_at inspect_shape words) ≡ Some r)
inspect_named words pass =
    let rows = finished inspect_shape.rules (walk inspect_shape.rules [] nothing_held words).held in
    let kept = level_kept inspect_shape refl inspect_rules [] nothing_held words false pass tt in
    let given = has_required inspect_shape rows false (level_valid inspect_shape [] nothing_held words false pass) refl in
    let disk = value_there inspect_shape refl (codes "disk") rows _ kept refl (given_found (codes "disk") rows (both (is_given (codes "disk") rows) true given).0) in
    (inspect (record { disk = disk.0; history = flag_in (codes "history") rows; at = place_in (codes "at") rows; code = flag_in (codes "code") rows }), rw disk.1 refl)

core_named : (words : List Text) → level_passes core_shape [] nothing_held words false ≡ true → (r : Request) × (request_in (rows_at core_shape words) ≡ Some r)
core_named words pass =
    let rows = finished core_shape.rules (walk core_shape.rules [] nothing_held words).held in
    let kept = level_kept core_shape refl core_rules [] nothing_held words false pass tt in
    let given = both (is_given (codes "disk") rows) (is_given (codes "file") rows && true) (has_required core_shape rows false (level_valid core_shape [] nothing_held words false pass) refl) in
    let disk = value_there core_shape refl (codes "disk") rows _ kept refl (given_found (codes "disk") rows given.0) in
    let file = value_there core_shape refl (codes "file") rows _ kept refl (given_found (codes "file") rows (both (is_given (codes "file") rows) true given.1).0) in
    (core (record { disk = disk.0; file = file.0; history = flag_in (codes "history") rows; at = place_in (codes "at") rows }), rw (disk.1, file.1) refl)

-- a stretch, where its disk is given
stretch_there : (shape : Shape) (once : shape.args_override_self ≡ false) (rows : List Row) (a : Rule) → AreRows shape once rows → arg_by_id shape.rules (codes "disk") ≡ Some a
    → is_given (codes "disk") rows ≡ true → (s : DiskStretch) × (disk_stretch_in rows ≡ Some s)
stretch_there shape once rows a kept found given =
    let disk = value_there shape once (codes "disk") rows a kept found (given_found (codes "disk") rows given) in
    (record { disk = disk.0; history = flag_in (codes "history") rows; from = place_in (codes "from") rows; to = place_in (codes "to") rows; last = place_in (codes "last") rows }, rw disk.1 refl)

calls_named : (words : List Text) → level_passes calls_shape [] nothing_held words false ≡ true → (r : Request) × (request_in (rows_at calls_shape words) ≡ Some r)
calls_named words pass =
    let rows = finished calls_shape.rules (walk calls_shape.rules [] nothing_held words).held in
    let kept = level_kept calls_shape refl calls_rules [] nothing_held words false pass tt in
    let given = has_required calls_shape rows false (level_valid calls_shape [] nothing_held words false pass) refl in
    let stretch = stretch_there calls_shape refl rows _ kept refl (both (is_given (codes "disk") rows) true given).0 in
    (calls stretch.0, ap (option_map calls) stretch.1)

debug_named : (words : List Text) → level_passes debug_shape [] nothing_held words false ≡ true → (r : Request) × (request_in (rows_at debug_shape words) ≡ Some r)
debug_named words pass =
    let rows = finished debug_shape.rules (walk debug_shape.rules [] nothing_held words).held in
    let kept = level_kept debug_shape refl debug_rules [] nothing_held words false pass tt in
    let given = has_required debug_shape rows false (level_valid debug_shape [] nothing_held words false pass) refl in
    let disk = value_there debug_shape refl (codes "disk") rows _ kept refl (given_found (codes "disk") rows (both (is_given (codes "disk") rows) true given).0) in
    (debug (record { disk = disk.0; history = flag_in (codes "history") rows; at = place_in (codes "at") rows }), rw disk.1 refl)

races_named : (words : List Text) → level_passes races_shape [] nothing_held words false ≡ true → (r : Request) × (request_in (rows_at races_shape words) ≡ Some r)
races_named words pass =
    let rows = finished races_shape.rules (walk races_shape.rules [] nothing_held words).held in
    let kept = level_kept races_shape refl races_rules [] nothing_held words false pass tt in
    let given = has_required races_shape rows false (level_valid races_shape [] nothing_held words false pass) refl in
    let stretch = stretch_there races_shape refl rows _ kept refl (both (is_given (codes "disk") rows) true given).0 in
    (races (record { stretch = stretch.0; memory = place_in (codes "memory") rows }), rw stretch.1 refl)

check_named : (words : List Text) → level_passes check_shape [] nothing_held words false ≡ true → (r : Request) × (request_in (rows_at check_shape words) ≡ Some r)
check_named words pass =
    let rows = finished check_shape.rules (walk check_shape.rules [] nothing_held words).held in
    let kept = level_kept check_shape refl check_rules [] nothing_held words false pass tt in
    let given = has_required check_shape rows false (level_valid check_shape [] nothing_held words false pass) refl in
    let stretch = stretch_there check_shape refl rows _ kept refl (both (is_given (codes "disk") rows) true given).0 in
    (check (record { stretch = stretch.0; memory = place_in (codes "memory") rows }), rw stretch.1 refl)

-- two flags, not both of them, ask for a form
form_there : (folded callgrind : Bool) → (folded && callgrind) ≡ false → (f : ProfileForm) × (form_of folded callgrind ≡ Some f)
form_there false false one = (form.Table, refl)
form_there true false one = (form.Folded, refl)
form_there false true one = (form.Callgrind, refl)
form_there true true one = absurd (true≢false one)

profile_named : (words : List Text) → level_passes profile_shape [] nothing_held words false ≡ true → has_both_forms (rows_at profile_shape words) ≡ false
    → (r : Request) × (request_in (rows_at profile_shape words) ≡ Some r)
profile_named words pass one =
    let rows = finished profile_shape.rules (walk profile_shape.rules [] nothing_held words).held in
    let kept = level_kept profile_shape refl profile_rules [] nothing_held words false pass tt in
    let given = has_required profile_shape rows false (level_valid profile_shape [] nothing_held words false pass) refl in
    let stretch = stretch_there profile_shape refl rows _ kept refl (both (is_given (codes "disk") rows) true given).0 in
    let shape = form_there (flag_in (codes "folded") rows) (flag_in (codes "callgrind") rows) one in
    (profile (record { stretch = stretch.0; form = shape.0 }), rw (stretch.1, shape.1) refl)

abbrev slot : Shape → ℕ → Rule
slot shape i = slice_index_or shape.rules i (new_rule [])

abbrev slots : Shape → ℕ → List Rule
slots shape i = take i shape.rules

abbrev after : Shape → ℕ → List Rule
after shape i = drop i shape.rules

-- an option that is a number of 32 bits has one
number_at : (shape : Shape) (once : shape.args_override_self ≡ false) (id : Text) (rows : List Row) (a : Rule) → AreRows shape once rows → arg_by_id shape.rules id ≡ Some a
    → (a.parser ≡ Some (vp.Signed (pos 0) (pos 4294967295))) → is_some (find (λ (r : Row). bytes_eq r.id id) rows) ≡ true
    → (n : ℕ) × (number_in id rows ≡ Some n)
number_at shape once id rows a kept found parser has =
    let there = value_there shape once id rows a kept found has in
    let text : one_of id rows ≡ Some (without_minus there.0) = subst (λ (o : Option ValueParser). one_of id rows ≡ Some (read_as (reading_of (parser_of_value o)) there.0)) parser there.2 in
    let passes : accepts a.ignore_case (vp.Signed (pos 0) (pos 4294967295)) there.0 ≡ true = subst (λ (o : Option ValueParser). accepts a.ignore_case (parser_of_value o) there.0 ≡ true) parser there.3 in
    let number = number_there there.0 passes in
    (number.0, ap (option_and_then (number_of 32)) text ∙ number.1)

format_named : (words : List Text) → level_passes format_shape [] nothing_held words false ≡ true → (r : Request) × (request_in (rows_at format_shape words) ≡ Some r)
format_named words pass =
    let end = (walk format_shape.rules [] nothing_held words).held in
    let rows = finished format_shape.rules end in
    let kept = level_kept format_shape refl format_rules [] nothing_held words false pass tt in
    let given = both (is_given (codes "disk") rows) (is_given (codes "image") rows && true) (has_required format_shape rows false (level_valid format_shape [] nothing_held words false pass) refl) in
    let disk = value_there format_shape refl (codes "disk") rows _ kept refl (given_found (codes "disk") rows given.0) in
    let image = value_there format_shape refl (codes "image") rows _ kept refl (given_found (codes "image") rows (both (is_given (codes "image") rows) true given.1).0) in
    let before = (settled format_shape.rules end).rows in
    let pages = number_at format_shape refl (codes "pages") rows _ kept refl refl (row_found (codes "pages") rows (defaults_give (slots format_shape 2) (after format_shape 3) (slot format_shape 2) before refl)) in
    let harts = number_at format_shape refl (codes "harts") rows _ kept refl refl (row_found (codes "harts") rows (defaults_give (slots format_shape 3) (after format_shape 4) (slot format_shape 3) before refl)) in
    let journal = number_at format_shape refl (codes "journal") rows _ kept refl refl (row_found (codes "journal") rows (defaults_give (slots format_shape 4) (after format_shape 5) (slot format_shape 4) before refl)) in
    (format (record { disk = disk.0; image = image.0; pages = pages.0; harts = harts.0; journal = journal.0 }), rw (disk.1, image.1, pages.1, harts.1, journal.1) refl)

timeline_named : (words : List Text) → level_passes timeline_shape [] nothing_held words false ≡ true → (r : Request) × (request_in (rows_at timeline_shape words) ≡ Some r)
timeline_named words pass =
    let end = (walk timeline_shape.rules [] nothing_held words).held in
    let rows = finished timeline_shape.rules end in
    let kept = level_kept timeline_shape refl timeline_rules [] nothing_held words false pass tt in
    let given = has_required timeline_shape rows false (level_valid timeline_shape [] nothing_held words false pass) refl in
    let stretch = stretch_there timeline_shape refl rows _ kept refl (both (is_given (codes "disk") rows) true given).0 in
    let before = (settled timeline_shape.rules end).rows in
    let width = number_at timeline_shape refl (codes "width") rows _ kept refl refl (row_found (codes "width") rows (defaults_give (slots timeline_shape 6) (after timeline_shape 7) (slot timeline_shape 6) before refl)) in
    (timeline (record { stretch = stretch.0; width = width.0; json = flag_in (codes "json") rows }), rw (stretch.1, width.1) refl)

hunt_named : (words : List Text) → level_passes hunt_shape [] nothing_held words false ≡ true → (r : Request) × (request_in (rows_at hunt_shape words) ≡ Some r)
hunt_named words pass =
    let end = (walk hunt_shape.rules [] nothing_held words).held in
    let rows = finished hunt_shape.rules end in
    let kept = level_kept hunt_shape refl hunt_rules [] nothing_held words false pass tt in
    let given = has_required hunt_shape rows false (level_valid hunt_shape [] nothing_held words false pass) refl in
    let image = value_there hunt_shape refl (codes "image") rows _ kept refl (given_found (codes "image") rows (both (is_given (codes "image") rows) true given).0) in
    let before = (settled hunt_shape.rules end).rows in
    let pages = number_at hunt_shape refl (codes "pages") rows _ kept refl refl (row_found (codes "pages") rows (defaults_give (slots hunt_shape 3) (after hunt_shape 4) (slot hunt_shape 3) before refl)) in
    let harts = number_at hunt_shape refl (codes "harts") rows _ kept refl refl (row_found (codes "harts") rows (defaults_give (slots hunt_shape 4) (after hunt_shape 5) (slot hunt_shape 4) before refl)) in
    let steps = number_at hunt_shape refl (codes "steps") rows _ kept refl refl (row_found (codes "steps") rows (defaults_give (slots hunt_shape 6) (after hunt_shape 7) (slot hunt_shape 6) before refl)) in
    let seeds = first_of (codes "seeds") rows in
    let seconds = place_in (codes "seconds") rows in
    let progress = place_in (codes "progress") rows in
    let input = first_of (codes "input") rows in
    (hunt (record { image = image.0; seeds = seeds; seconds = seconds; pages = pages.0; harts = harts.0; input = input; steps = steps.0; races = flag_in (codes "races") rows; check = flag_in (codes "check") rows; memory = place_in (codes "memory") rows; ignore_output = flag_in (codes "ignore-output") rows; all_rows = flag_in (codes "rows") rows; keep = first_of (codes "keep") rows; table = first_of (codes "table") rows; progress = progress }), rw (image.1, pages.1, harts.1, steps.1) refl)

drive_named : (words : List Text) → level_passes drive_shape [] nothing_held words false ≡ true → (r : Request) × (request_in (rows_at drive_shape words) ≡ Some r)
drive_named words pass =
    let end = (walk drive_shape.rules [] nothing_held words).held in
    let rows = finished drive_shape.rules end in
    let kept = level_kept drive_shape refl drive_rules [] nothing_held words false pass tt in
    let given = has_required drive_shape rows false (level_valid drive_shape [] nothing_held words false pass) refl in
    let disk = value_there drive_shape refl (codes "disk") rows _ kept refl (given_found (codes "disk") rows (both (is_given (codes "disk") rows) true given).0) in
    let before = (settled drive_shape.rules end).rows in
    let turn = number_at drive_shape refl (codes "turn") rows _ kept refl refl (row_found (codes "turn") rows (defaults_give (slots drive_shape 11) (after drive_shape 12) (slot drive_shape 11) before refl)) in
    let rounds = number_at drive_shape refl (codes "rounds-per-commit") rows _ kept refl refl (row_found (codes "rounds-per-commit") rows (defaults_give (slots drive_shape 12) (after drive_shape 13) (slot drive_shape 12) before refl)) in
    let events = place_in (codes "events") rows in
    let seed = place_in (codes "seed") rows in
    let progress = place_in (codes "progress") rows in
    let input = first_of (codes "input") rows in
    let input_from = place_in (codes "input-from") rows in
    let output = first_of (codes "output") rows in
    let history = first_of (codes "history") rows in
    let status = first_of (codes "status") rows in
    (drive (record { disk = disk.0; image = first_of (codes "image") rows; sizes = sizes_in rows; input = input; input_from = input_from; output = output; history = history; turn = turn.0; rounds = rounds.0; events = events; seed = seed; other_schedule = flag_in (codes "other-schedule") rows; progress = progress; status = status; from = place_in (codes "from") rows }), rw (disk.1, turn.1, rounds.1) refl)

history_named : (words : List Text) → level_passes history_shape [] nothing_held words false ≡ true → (r : Request) × (request_in (rows_at history_shape words) ≡ Some r)
history_named words pass =
    let rows = finished history_shape.rules (walk history_shape.rules [] nothing_held words).held in
    let kept = level_kept history_shape refl history_rules [] nothing_held words false pass tt in
    let given = has_required history_shape rows false (level_valid history_shape [] nothing_held words false pass) refl in
    let file = value_there history_shape refl (codes "file") rows _ kept refl (given_found (codes "file") rows (both (is_given (codes "file") rows) true given).0) in
    let disk = first_of (codes "disk") rows in
    let part = first_of (codes "part") rows in
    (history (record { file = file.0; disk = disk; part = part; from = place_in (codes "from") rows; to = place_in (codes "to") rows }), rw file.1 refl)

-- words that the command takes ask for something, but for both forms of a profile
abbrev IsNamed : Shape → Type 0
IsNamed s = (words : List Text) → level_passes s [] nothing_held words false ≡ true → has_both_forms (rows_at s words) ≡ false
    → (r : Request) × (request_in (rows_at s words) ≡ Some r)

abbrev AreNamed : List Shape → Type 0
AreNamed [] = ⊤
AreNamed (s ∷ rest) = IsNamed s × AreNamed rest

-- and so do those of whichever command was found
abbrev IsNamedWhereFound : List Text → Option Shape → Type 0
IsNamedWhereFound words found =
    option_map_or (λ s. level_passes s [] nothing_held words false) found true ≡ true
    → is_some (option_map (λ s. rows_at s words) found) ≡ true
    → option_map_or has_both_forms (option_map (λ s. rows_at s words) found) false ≡ false
    → (r : Request) × (option_and_then request_in (option_map (λ s. rows_at s words) found) ≡ Some r)

either_named : (words : List Text) (s : Shape) (rest : Option Shape) (is : Bool) → IsNamed s → IsNamedWhereFound words rest → IsNamedWhereFound words (cond is (Some s) rest)
either_named words s rest true first others = λ pass some one. first words pass one
either_named words s rest false first others = others

found_named : (is_it : Shape → Bool) (words : List Text) (shapes : List Shape) → AreNamed shapes → IsNamedWhereFound words (find is_it shapes)
found_named is_it words [] named = λ pass some one. absurd (true≢false (sym some))
found_named is_it words (s ∷ rest) named = either_named words s (find is_it rest) (is_it s) named.0 (found_named is_it words rest named.1)

-- a command without such forms
without_forms : (s : Shape) → ((words : List Text) → level_passes s [] nothing_held words false ≡ true → (r : Request) × (request_in (rows_at s words) ≡ Some r)) → IsNamed s
without_forms s named = λ words pass one. named words pass

all_named : AreNamed built_app.subs
all_named = (
  without_forms format_shape format_named,
  (
    without_forms run_shape run_named,
    (
      without_forms inspect_shape inspect_named,
      (
        without_forms drive_shape drive_named,
        (
          without_forms core_shape core_named,
          (
            without_forms calls_shape calls_named,
            (
              without_forms debug_shape debug_named,
              (
                without_forms races_shape races_named,
                (
                  without_forms timeline_shape timeline_named,
                  (profile_named, (without_forms hunt_shape hunt_named, (without_forms check_shape check_named, (without_forms history_shape history_named, tt)))),
                ),
              ),
            ),
          ),
        ),
      ),
    ),
  ),
)

-- what a command that takes the words is asked for
entered_named : (stop : Option (Text × List Text)) → entered_passes built_app stop ≡ true → is_some (entered built_app stop) ≡ true
    → option_map_or has_both_forms (entered built_app stop) false ≡ false → (r : Request) × (option_and_then request_in (entered built_app stop) ≡ Some r)
entered_named None pass some one = absurd (true≢false (sym some))
entered_named (Some p) pass some one = found_named (λ s. answers_to p.0 (label_of s)) p.1 built_app.subs all_named pass some one

-- words that the command line takes ask for something, but for both forms of a profile
taken_named : (words : List Text) → takes ckrt_app words ≡ true → asks_both_forms words ≡ false → (r : Request) × (option_and_then request_in (subcommand_of ckrt_app words) ≡ Some r)
taken_named words pass one =
    let levels = taken_levels ckrt_app words pass in
    let end = walk built_app.top.rules (names_of built_app) nothing_held words in
    let valid = level_valid built_app.top (names_of built_app) nothing_held words _ levels.1 in
    entered_named end.stopped levels.0 (has_command built_app.top (finished built_app.top.rules end.held) _ valid refl) one

pub untaken : (words : List Text) (o : Option (Text × List Row)) → o ≡ subcommand_of ckrt_app words → None ≡ option_and_then request_in o → takes ckrt_app words ≡ true
    → asks_both_forms words ≡ false → ⊥
untaken words o is none pass one =
    let named = taken_named words pass one in
    let nothing : None ≡ Some named.0 = none ∙ (ap (option_and_then request_in) is ∙ named.1) in
    true≢false (sym (ap (λ (r : Option Request). is_some r) nothing))

-- What is printed and said of an outcome, and by whom: lines on a writer, and texts of a reporter. What is said of a fault in plain words is
-- left to tests, but not the line with its name.
use Rattle.std.specs.Prelude.{◌≡◌, ℕ, Bool, false, List, [], ◌∷◌, ◌++◌, codes, decimal, string_bytes, Option, Result, Ok, Err}
use Rattle.std.specs.Io.KnownBytes.{Appends}
use Rattle.ckrt_disk.specs.Writing.{AppendsPart}
use Rattle.ckrt_main.specs.declared.fault.ServeFault.TheVariants as serve
use Rattle.ckrt_cli_words.specs.declared.job.WordsFault.{WordsFault}
use Rattle.ckrt_cli_words.specs.declared.job.WordsFault.TheVariants as words
use Rattle.ckrt_cli_reports.specs.Names.{name_of}
use Rattle.ckrt_cli_reports.specs.declared.done.Done.{Done}
use Rattle.ckrt_cli_reports.specs.declared.done.Done.TheVariants as done
use Rattle.ckrt_cli_reports.specs.declared.fault.JobFault.{JobFault}
use Rattle.ckrt_cli_reports.specs.declared.fault.JobFault.TheVariants as job
use Rattle.ckrt_cli_reports.specs.Ends.{end_line}

-- the line on standard output for a disk that was made
abbrev pub formatted_line : ℕ → List ℕ
formatted_line size = codes "formatted " ++ (decimal size ++ 10 ∷ [])

-- the line on standard output for the version, with the kit's line
abbrev pub version_line : List ℕ
version_line = codes "ckrt " ++ (codes "0.1.0, source proved with rattle-kit-13f logic dac8208d650f15bf" ++ 10 ∷ [])

-- the line was written, or the writer failed, and what was written is a beginning of it
abbrev pub SaysLine : (a b : Option (List ℕ)) → List ℕ → Result (Unit {0}) JobFault → Type 0
SaysLine a b line (Ok done) = Appends a b line
SaysLine a b line (Err e) = (e ≡ job.Serve serve.Write) × AppendsPart a b line

-- the line with a fault's name
abbrev pub fault_line : JobFault → List ℕ
fault_line f = codes "ckrt: " ++ (name_of f ++ 10 ∷ [])

-- some text stands behind what was said before
abbrev pub Says : (before after : Option (List ℕ)) → Type 0
Says before after = (text : List ℕ) × Appends before after text

-- some text, and then this line
abbrev pub EndsWith : (before after : Option (List ℕ)) → (line : List ℕ) → Type 0
EndsWith before after line = (text : List ℕ) × Appends before after (text ++ line)

-- a reporter said this text behind what it had said, unless it has failed
abbrev pub Reports : (before after : Option (List ℕ)) → Bool → List ℕ → Type 0
Reports before after has_failed text = has_failed ≡ false → Appends before after text

-- it said what is wrong, and then the line with the fault's name
abbrev pub ReportsFault : JobFault → (before after : Option (List ℕ)) → Bool → Type 0
ReportsFault f before after has_failed = has_failed ≡ false → EndsWith before after (fault_line f)

-- what a reporter said of words that name no job: the text on usage as it is
abbrev pub ReportsWords : WordsFault → (before after : Option (List ℕ)) → Bool → Type 0
ReportsWords (words.Usage text) before after has_failed =
    Reports before after has_failed (string_bytes text)
ReportsWords words.OutOfMemory before after has_failed =
    ReportsFault job.OutOfMemory before after has_failed

-- what a reporter said of an outcome: the line of what a drive came to, the lines of a fault, and else nothing
abbrev pub ReportsOutcome : Result Done JobFault → (before after : Option (List ℕ)) → Bool → Type 0
ReportsOutcome (Ok done.Whole) before after has_failed = after ≡ before
ReportsOutcome (Ok done.Several) before after has_failed = after ≡ before
ReportsOutcome (Ok done.Bad) before after has_failed = after ≡ before
ReportsOutcome (Ok (done.Driven driven)) before after has_failed =
    Reports before after has_failed (end_line driven)
ReportsOutcome (Err fault) before after has_failed = ReportsFault fault before after has_failed

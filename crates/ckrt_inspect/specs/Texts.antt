-- The words and numbers of a listing (this project's own format).
use Rattle.std.specs.Prelude.{ℕ, Bool, List, ◌++◌, if◌then◌else◌, codes, decimal}
use Rattle.std.specs.Int.{w32, to_be_bytes}
use Rattle.hex.specs.Hex.{encode_lower}
use Rattle.ckrt_rv32i.specs.Names.{cause_name}
use Rattle.ckrt_thread.specs.declared.records.RetakeResult.{RetakeResult}
use Rattle.ckrt_thread.specs.declared.records.RetakeResult.TheVariants as retake
use Rattle.ckrt_thread.specs.declared.records.Reason.{Reason}
use Rattle.ckrt_thread.specs.declared.records.Reason.TheVariants as reason
use Rattle.ckrt_mutex.specs.declared.records.Kind.{Kind}
use Rattle.ckrt_mutex.specs.declared.records.Kind.TheVariants as kind
use Rattle.ckrt_calls.specs.declared.table.Status.{Status}
use Rattle.ckrt_calls.specs.declared.table.Status.TheVariants as status

-- an address, a pc or a word: eight lower-case hexadecimal digits, the highest first
abbrev pub hex_text : ℕ → List ℕ
hex_text n = encode_lower (to_be_bytes w32 n)

-- one of two words, after a space
abbrev pub flag_text : List ℕ → List ℕ → Bool → List ℕ
flag_text if_so if_not b = codes " " ++ (if b then if_so else if_not)

-- THE STATUS

abbrev pub status_text : Status → List ℕ
status_text status.Running = codes "running"
status_text (status.Exited code) = codes "exit " ++ decimal code
status_text (status.Faulted t pc c) = codes "fault " ++ decimal t ++ codes " " ++ hex_text pc ++ codes " " ++ cause_name c

-- WAITS

-- what a thread gets once it has its mutex again, after a condition wait
abbrev pub retake_text : RetakeResult → List ℕ
retake_text retake.Done = codes "0"
retake_text retake.TimedOut = codes "110"
retake_text retake.Unwind = codes "unwind"

-- what a thread waits for
abbrev pub reason_text : Reason → List ℕ
reason_text reason.Input = codes "input"
reason_text reason.Sleep = codes "sleep"
reason_text (reason.Join t) = codes "join " ++ decimal t
reason_text (reason.Lock m) = codes "mutex " ++ hex_text m
reason_text (reason.Retake m r) = codes "retake " ++ hex_text m ++ codes " " ++ retake_text r
reason_text (reason.Condition c m) = codes "cond " ++ hex_text c ++ codes " " ++ hex_text m
reason_text (reason.Barrier b) = codes "barrier " ++ hex_text b
reason_text (reason.Read l) = codes "read " ++ hex_text l
reason_text (reason.Write l) = codes "write " ++ hex_text l

-- MUTEXES

abbrev pub kind_text : Kind → List ℕ
kind_text kind.Normal = codes "normal"
kind_text kind.Recursive = codes "recursive"
kind_text kind.ErrorCheck = codes "errorcheck"

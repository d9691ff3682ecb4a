-- Calls of a guest as text: `mutex_lock(00002d04)` (this project's own format). A word that may be an address has eight lower-case hexadecimal
-- digits, other numbers are decimal, and a moment of the clock is one number of its two words.
use Rattle.std.specs.Prelude.{ℕ, ◌==◌, if◌then◌else◌, List, [], ◌++◌, codes, decimal, Option, Some, None}
use Rattle.ckrt_registers.specs.Registers.{Registers, get}
use Rattle.ckrt_calls.specs.declared.number.Call.{Call}
use Rattle.ckrt_calls.specs.declared.number.Call.TheVariants as call
use Rattle.ckrt_calls.specs.declared.number.ProcessCall.{ProcessCall}
use Rattle.ckrt_calls.specs.declared.number.ProcessCall.TheVariants as process_call
use Rattle.ckrt_calls.specs.declared.number.ThreadCall.{ThreadCall}
use Rattle.ckrt_calls.specs.declared.number.ThreadCall.TheVariants as thread_call
use Rattle.ckrt_calls.specs.declared.number.MutexCall.{MutexCall}
use Rattle.ckrt_calls.specs.declared.number.MutexCall.TheVariants as mutex_call
use Rattle.ckrt_calls.specs.declared.number.ConditionCall.{ConditionCall}
use Rattle.ckrt_calls.specs.declared.number.ConditionCall.TheVariants as condition_call
use Rattle.ckrt_calls.specs.declared.number.BarrierCall.{BarrierCall}
use Rattle.ckrt_calls.specs.declared.number.BarrierCall.TheVariants as barrier_call
use Rattle.ckrt_calls.specs.declared.number.RwLockCall.{RwLockCall}
use Rattle.ckrt_calls.specs.declared.number.RwLockCall.TheVariants as rwlock_call
use Rattle.ckrt_calls.specs.declared.number.CancellationCall.{CancellationCall}
use Rattle.ckrt_calls.specs.declared.number.CancellationCall.TheVariants as cancellation_call
use Rattle.ckrt_calls.specs.declared.number.KeyCall.{KeyCall}
use Rattle.ckrt_calls.specs.declared.number.KeyCall.TheVariants as key_call
use Rattle.ckrt_calls.specs.Table.{call_of, moment_of}
use Rattle.ckrt_inspect.specs.Texts.{hex_text}
use Rattle.ckrt_look_calls.specs.declared.names.Answers.{Answers}
use Rattle.ckrt_look_calls.specs.declared.names.Answers.TheVariants as answers
use Rattle.ckrt_look_calls.specs.declared.names.Arguments.{Arguments}
use Rattle.ckrt_look_calls.specs.declared.names.Arguments.TheVariants as arguments

-- NAMES: those of the kit's header of calls, in lower case

abbrev pub process_name : ProcessCall → List ℕ
process_name process_call.Exit = codes "exit"
process_name process_call.Putc = codes "putc"
process_name process_call.Getc = codes "getc"
process_name process_call.Clock = codes "clock"
process_name process_call.SleepUntil = codes "sleep_until"

abbrev pub thread_name : ThreadCall → List ℕ
thread_name thread_call.Create = codes "create"
thread_name thread_call.Join = codes "join"
thread_name thread_call.Detach = codes "detach"
thread_name thread_call.Exit = codes "thread_exit"
thread_name thread_call.SelfId = codes "self"

abbrev pub mutex_name : MutexCall → List ℕ
mutex_name mutex_call.Init = codes "mutex_init"
mutex_name mutex_call.Destroy = codes "mutex_destroy"
mutex_name mutex_call.Lock = codes "mutex_lock"
mutex_name mutex_call.TryLock = codes "mutex_trylock"
mutex_name mutex_call.TimedLock = codes "mutex_timedlock"
mutex_name mutex_call.Unlock = codes "mutex_unlock"

abbrev pub condition_name : ConditionCall → List ℕ
condition_name condition_call.Init = codes "cond_init"
condition_name condition_call.Destroy = codes "cond_destroy"
condition_name condition_call.Wait = codes "cond_wait"
condition_name condition_call.TimedWait = codes "cond_timedwait"
condition_name condition_call.Signal = codes "cond_signal"
condition_name condition_call.Broadcast = codes "cond_broadcast"

abbrev pub barrier_name : BarrierCall → List ℕ
barrier_name barrier_call.Init = codes "barrier_init"
barrier_name barrier_call.Destroy = codes "barrier_destroy"
barrier_name barrier_call.Wait = codes "barrier_wait"

abbrev pub rwlock_name : RwLockCall → List ℕ
rwlock_name rwlock_call.Init = codes "rwlock_init"
rwlock_name rwlock_call.Destroy = codes "rwlock_destroy"
rwlock_name rwlock_call.RdLock = codes "rwlock_rdlock"
rwlock_name rwlock_call.TryRdLock = codes "rwlock_tryrdlock"
rwlock_name rwlock_call.WrLock = codes "rwlock_wrlock"
rwlock_name rwlock_call.TryWrLock = codes "rwlock_trywrlock"
rwlock_name rwlock_call.Unlock = codes "rwlock_unlock"

abbrev pub cancellation_name : CancellationCall → List ℕ
cancellation_name cancellation_call.Cancel = codes "cancel"
cancellation_name cancellation_call.TestCancel = codes "testcancel"
cancellation_name cancellation_call.SetCancelState = codes "setcancelstate"
cancellation_name cancellation_call.SetCancelType = codes "setcanceltype"
cancellation_name cancellation_call.CleanupPush = codes "cleanup_push"
cancellation_name cancellation_call.CleanupPop = codes "cleanup_pop"

abbrev pub key_name : KeyCall → List ℕ
key_name key_call.Create = codes "key_create"
key_name key_call.Delete = codes "key_delete"
key_name key_call.SetSpecific = codes "setspecific"
key_name key_call.GetSpecific = codes "getspecific"

abbrev pub name_of : Call → List ℕ
name_of (call.Process c) = process_name c
name_of (call.Thread c) = thread_name c
name_of (call.Mutex c) = mutex_name c
name_of (call.Condition c) = condition_name c
name_of (call.Barrier c) = barrier_name c
name_of (call.RwLock c) = rwlock_name c
name_of (call.Cancellation c) = cancellation_name c
name_of (call.Key c) = key_name c

-- ARGUMENTS, from x10 on

abbrev pub arguments_of : Call → Arguments
arguments_of (call.Process process_call.Exit) = arguments.Number
arguments_of (call.Process process_call.Putc) = arguments.Number
arguments_of (call.Process process_call.Getc) = arguments.Nothing
arguments_of (call.Process process_call.Clock) = arguments.Nothing
arguments_of (call.Process process_call.SleepUntil) = arguments.Moment
arguments_of (call.Thread thread_call.Create) = arguments.Creation
arguments_of (call.Thread thread_call.Join) = arguments.Number
arguments_of (call.Thread thread_call.Detach) = arguments.Number
arguments_of (call.Thread thread_call.Exit) = arguments.Word
arguments_of (call.Thread thread_call.SelfId) = arguments.Nothing
arguments_of (call.Mutex mutex_call.Init) = arguments.WordNumber
arguments_of (call.Mutex mutex_call.TimedLock) = arguments.WordMoment
arguments_of (call.Mutex _) = arguments.Word
arguments_of (call.Condition condition_call.Wait) = arguments.TwoWords
arguments_of (call.Condition condition_call.TimedWait) = arguments.TwoWordsMoment
arguments_of (call.Condition _) = arguments.Word
arguments_of (call.Barrier barrier_call.Init) = arguments.WordNumber
arguments_of (call.Barrier _) = arguments.Word
arguments_of (call.RwLock _) = arguments.Word
arguments_of (call.Cancellation cancellation_call.TestCancel) = arguments.Nothing
arguments_of (call.Cancellation cancellation_call.CleanupPush) = arguments.TwoWords
arguments_of (call.Cancellation _) = arguments.Number
arguments_of (call.Key key_call.Create) = arguments.Word
arguments_of (call.Key key_call.SetSpecific) = arguments.NumberWord
arguments_of (call.Key _) = arguments.Number

-- two texts with a comma between them
abbrev pub listed : List ℕ → List ℕ → List ℕ
listed a b = a ++ codes ", " ++ b

-- a moment in two registers, of which the first has the low word
abbrev pub moment_text : Registers → ℕ → ℕ → List ℕ
moment_text r low high = decimal (moment_of (get r low) (get r high))

abbrev pub arguments_text : Arguments → Registers → List ℕ
arguments_text arguments.Nothing r = []
arguments_text arguments.Number r = decimal (get r 10)
arguments_text arguments.Word r = hex_text (get r 10)
arguments_text arguments.WordNumber r = listed (hex_text (get r 10)) (decimal (get r 11))
arguments_text arguments.NumberWord r = listed (decimal (get r 10)) (hex_text (get r 11))
arguments_text arguments.TwoWords r = listed (hex_text (get r 10)) (hex_text (get r 11))
arguments_text arguments.Moment r = moment_text r 10 11
arguments_text arguments.WordMoment r = listed (hex_text (get r 10)) (moment_text r 11 12)
arguments_text arguments.TwoWordsMoment r =
    listed (hex_text (get r 10)) (listed (hex_text (get r 11)) (moment_text r 12 13))
arguments_text arguments.Creation r =
    listed (hex_text (get r 10)) (listed (hex_text (get r 11)) (listed (hex_text (get r 12)) (decimal (get r 13))))

-- A CALL

-- a call of the table; one of a number that isn't there is `call N`, and has no arguments
abbrev pub call_text_of : Option Call → Registers → List ℕ
call_text_of None r = codes "call " ++ decimal (get r 17)
call_text_of (Some c) r = name_of c ++ codes "(" ++ arguments_text (arguments_of c) r ++ codes ")"

abbrev pub call_text : Registers → List ℕ
call_text r = call_text_of (call_of (get r 17)) r

-- ANSWERS, in x10 and x11

abbrev pub answers_of : Option Call → Answers
answers_of (Some (call.Process process_call.Clock)) = answers.Moment
answers_of (Some (call.Thread thread_call.Create)) = answers.AndNumber
answers_of (Some (call.Thread thread_call.Join)) = answers.AndWord
answers_of (Some (call.Cancellation cancellation_call.SetCancelState)) = answers.AndNumber
answers_of (Some (call.Cancellation cancellation_call.SetCancelType)) = answers.AndNumber
answers_of (Some (call.Key key_call.Create)) = answers.AndNumber
answers_of (Some (call.Key key_call.GetSpecific)) = answers.AndWord
answers_of _ = answers.One

-- an answer, and a second one behind it where it is 0
abbrev pub with_second : ℕ → List ℕ → List ℕ
with_second first second = decimal first ++ (if first == 0 then codes ", " ++ second else [])

abbrev pub answers_text : Answers → Registers → List ℕ
answers_text answers.One r = decimal (get r 10)
answers_text answers.AndNumber r = with_second (get r 10) (decimal (get r 11))
answers_text answers.AndWord r = with_second (get r 10) (hex_text (get r 11))
answers_text answers.Moment r = moment_text r 10 11

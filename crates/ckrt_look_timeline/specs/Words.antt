-- The words for an activity (this project's own).
use Rattle.std.specs.Prelude.{ℕ, List, [], codes, decimal}
use Rattle.ckrt_inspect.specs.Texts.{hex_text}
use Rattle.ckrt_look_timeline.specs.declared.piece.Activity.{Activity}
use Rattle.ckrt_look_timeline.specs.declared.piece.Activity.TheVariants as activity

-- ONE WORD FOR EACH KIND: its colour goes by it

abbrev pub kind_of : Activity → List ℕ
kind_of activity.Absent = codes "absent"
kind_of activity.Ended = codes "ended"
kind_of activity.Ready = codes "ready"
kind_of (activity.Running h) = codes "running"
kind_of (activity.Mutex a) = codes "mutex"
kind_of (activity.Condition a) = codes "condition"
kind_of (activity.Barrier a) = codes "barrier"
kind_of (activity.RwLock a) = codes "rwlock"
kind_of (activity.Join t) = codes "join"
kind_of activity.Input = codes "input"
kind_of activity.Sleep = codes "sleep"

-- what a thread does, in words
abbrev pub words_of : Activity → List ℕ
words_of activity.Absent = codes "isn't there"
words_of activity.Ended = codes "has ended"
words_of activity.Ready = codes "is ready"
words_of (activity.Running h) = codes "runs on hart "
words_of (activity.Mutex a) = codes "waits for mutex "
words_of (activity.Condition a) = codes "waits for condition "
words_of (activity.Barrier a) = codes "waits at barrier "
words_of (activity.RwLock a) = codes "waits for read-write lock "
words_of (activity.Join t) = codes "waits to join thread "
words_of activity.Input = codes "waits for input"
words_of activity.Sleep = codes "sleeps"

-- and the number or the address behind them, where they have one
abbrev pub object_of : Activity → List ℕ
object_of (activity.Running h) = decimal h
object_of (activity.Mutex a) = hex_text a
object_of (activity.Condition a) = hex_text a
object_of (activity.Barrier a) = hex_text a
object_of (activity.RwLock a) = hex_text a
object_of (activity.Join t) = decimal t
object_of a = []

-- what is ready is a thin line
abbrev pub size_of : Activity → List ℕ
size_of activity.Ready = codes "y=\"7\" height=\"2\""
size_of a = codes "y=\"0\" height=\"16\""

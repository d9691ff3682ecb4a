-- The numbers of holders: threads by their own, locks by their kind and their address. Locks of one kind whose addresses differ by a
-- multiple of 4,096 count as one, so that room can be taken beforehand: a race may go unseen by that, none is told wrongly.
use Rattle.std.specs.Prelude.{ℕ, ◌+◌, ◌/◌, ◌%◌, nat_le, if◌then◌else◌}
use Rattle.ckrt_look_clocks.specs.declared.operation.Place.{Place}
use Rattle.ckrt_look_clocks.specs.declared.operation.Operation.{Operation}
use Rattle.ckrt_look_clocks.specs.declared.operation.Operation.TheVariants.{Pass}
use Rattle.ckrt_look_races.specs.declared.holders.Lock.{Lock}
use Rattle.ckrt_look_races.specs.declared.holders.Lock.TheVariants as lock

-- threads are 1 to 64
abbrev pub thread_holder : ℕ → ℕ
thread_holder t = if nat_le t 64 then t else 0

abbrev pub place_of : (address : ℕ) → ℕ
place_of a = a % 4096

-- atomic operations are of whole words
abbrev pub word_of : (address : ℕ) → ℕ
word_of a = a / 4 % 1024

abbrev pub lock_holder : Lock → ℕ
lock_holder (lock.Mutex a) = 65 + place_of a
lock_holder (lock.Writers a) = 4161 + place_of a
lock_holder (lock.Readers a) = 8257 + place_of a
lock_holder (lock.Word a) = 12353 + word_of a
lock_holder (lock.Request t) = 13377 + thread_holder t
lock_holder (lock.Loaded t) = 13442 + thread_holder t
lock_holder (lock.Fenced t) = 13507 + thread_holder t

-- all holders: 65 numbers of threads, 4,096 locks of each of three kinds, 1,024 words, and for each thread a request, what its relaxed
-- loads have met, and what its last fence gave up
abbrev pub HOLDERS : ℕ
HOLDERS = 13572

-- a thread gives up what others that come later take
abbrev pub released : (t : ℕ) → Lock → Place → Operation
released t l p = Pass (thread_holder t) (lock_holder l) p

abbrev pub acquired : (t : ℕ) → Lock → Place → Operation
acquired t l p = Pass (lock_holder l) (thread_holder t) p

-- what was given up to one goes on to the other
abbrev pub handed_on : (from to : Lock) → Place → Operation
handed_on l m p = Pass (lock_holder l) (lock_holder m) p

-- what one thread has done is before what another does from here on
abbrev pub ordered : (t u : ℕ) → Place → Operation
ordered t u p = Pass (thread_holder t) (thread_holder u) p

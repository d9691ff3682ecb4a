-- What is told of an event that the machine refuses (this project's choice).
use Rattle.std.specs.Prelude.{ℕ, List, codes}
use Rattle.ckrt_machine.specs.declared.event.Refusal.{Refusal}
use Rattle.ckrt_machine.specs.declared.event.Refusal.TheVariants.{Ended, NoSuchHart, NoSuchThread, NotReady, HartIdle, InputClosed, InputFull, ClockEnd, OutputFull}

-- code and name of a refusal
abbrev pub refusal_text : Refusal → List ℕ
refusal_text Ended = codes "1 Ended"
refusal_text NoSuchHart = codes "2 NoSuchHart"
refusal_text NoSuchThread = codes "3 NoSuchThread"
refusal_text NotReady = codes "4 NotReady"
refusal_text HartIdle = codes "5 HartIdle"
refusal_text InputClosed = codes "6 InputClosed"
refusal_text InputFull = codes "7 InputFull"
refusal_text ClockEnd = codes "8 ClockEnd"
refusal_text OutputFull = codes "9 OutputFull"

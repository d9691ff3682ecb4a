-- How a guest uses its registers (RISC-V calling convention), and where it begins and ends (this project's choice).
use Rattle.std.specs.Prelude.{ℕ}

-- the return address
abbrev pub RA : ℕ
RA = 1

-- the stack pointer
abbrev pub SP : ℕ
SP = 2

-- the first argument, and the result
abbrev pub A0 : ℕ
A0 = 10

-- the second value of a call
abbrev pub A1 : ℕ
A1 = 11

-- where a program begins
abbrev pub PROGRAM_START : ℕ
PROGRAM_START = 0x1000

-- where a thread returns to when its first function is done
abbrev pub RETURN_GATE : ℕ
RETURN_GATE = 0xFFFF_FFF0

-- where a clean-up handler or a destructor returns to
abbrev pub UNWIND_GATE : ℕ
UNWIND_GATE = 0xFFFF_FFF4

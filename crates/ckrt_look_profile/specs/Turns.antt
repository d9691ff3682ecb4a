-- How a thread goes on from an instruction. Calls and returns are told by link registers: x1 and x5 hold return addresses (RISC-V
-- psABI, integer register convention; unprivileged manual, 2.5.1, table 3, hints for the return-address stack).
use Rattle.std.specs.Prelude.{ℕ, ◌/◌, ◌%◌, ◌==◌, ◌||◌, Bool, true, false, if◌then◌else◌}
use Rattle.ckrt_look_profile.specs.declared.turn.Turn.{Turn}
use Rattle.ckrt_look_profile.specs.declared.turn.Turn.TheVariants as turn

abbrev pub is_link : ℕ → Bool
is_link r = r == 1 || r == 5

-- the fields of a word (2.2, base instruction formats): the register that is written, and the first that is read
abbrev pub rd_of : ℕ → ℕ
rd_of w = w / 128 % 32

abbrev pub rs1_of : ℕ → ℕ
rs1_of w = w / 32768 % 32

-- JAL calls where it writes a link register
abbrev pub jump_turn : ℕ → Turn
jump_turn w = if is_link (rd_of w) then turn.Call else turn.Onward

-- JALR, by whether it writes a link register and reads one: both call, but where these are two the one that is read returns before
abbrev pub linked_turn : Bool → (rd rs1 : ℕ) → Turn
linked_turn true rd rs1 = if rd == rs1 then turn.Call else turn.Swap
linked_turn false rd rs1 = turn.Call

abbrev pub unlinked_turn : Bool → Turn
unlinked_turn true = turn.Return
unlinked_turn false = turn.Onward

abbrev pub register_turn : ℕ → Turn
register_turn w =
    if is_link (rd_of w) then linked_turn (is_link (rs1_of w)) (rd_of w) (rs1_of w)
    else unlinked_turn (is_link (rs1_of w))

-- any other instruction stays in its function
abbrev pub turn_of : ℕ → Turn
turn_of w =
    if w % 128 == 0x6F then jump_turn w
    else if w % 128 == 0x67 then register_turn w
    else turn.Onward

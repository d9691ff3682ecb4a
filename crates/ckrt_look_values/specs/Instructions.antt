-- What a step does to what is known, and which uses it tells: where a branch, an address or what a call takes hangs on unknown bits.
use Rattle.std.specs.Prelude.{ℕ, ℤ, zero, suc, ◌+◌, ◌-◌, ◌/◌, ◌==◌, nat_lt, Bool, true, false, ◌&&◌, if◌then◌else◌, bit_and, Option, Some, None}
use Rattle.std.specs.Int.{w32, cast_unsigned}
use Rattle.ckrt_registers.specs.Registers.{Registers, get}
use Rattle.ckrt_rv32i.specs.Effect.{alu_result, load_size}
use Rattle.ckrt_rv32i.specs.Words.{word_add_signed, word_sub}
use Rattle.ckrt_rv32i.specs.declared.instruction.Instr.{Instr}
use Rattle.ckrt_rv32i.specs.declared.instruction.Instr.TheVariants as instr
use Rattle.ckrt_rv32i.specs.declared.instruction.AluOp.{AluOp}
use Rattle.ckrt_rv32i.specs.declared.instruction.AluOp.TheVariants as alu
use Rattle.ckrt_rv32i.specs.declared.instruction.Condition.{Condition}
use Rattle.ckrt_rv32i.specs.declared.instruction.LoadKind.{LoadKind}
use Rattle.ckrt_rv32i.specs.declared.memory_bus.Size.{Size}
use Rattle.ckrt_thread.specs.State as threads
use Rattle.ckrt_calls.specs.Table.{call_of}
use Rattle.ckrt_calls.specs.declared.number.Call.{Call}
use Rattle.ckrt_machine.specs.Steps.{State, hart_of, hart_step}
use Rattle.ckrt_look_recording.specs.Accesses.{fetched, may_access}
use Rattle.ckrt_look_recording.specs.Quiet.{is_quiet}
use Rattle.ckrt_look_calls.specs.Calls.{arguments_of}
use Rattle.ckrt_look_calls.specs.declared.lines.Place.{Place}
use Rattle.ckrt_look_calls.specs.declared.names.Arguments.{Arguments}
use Rattle.ckrt_look_calls.specs.declared.names.Arguments.TheVariants as arguments
use Rattle.ckrt_look_calls.specs.Steppings.{stepping_of}
use Rattle.ckrt_look_calls.specs.declared.stepping.Stepping.{Stepping}
use Rattle.ckrt_look_heap.specs.Notes.{is_in_heap, part_at}
use Rattle.ckrt_look_heap.specs.declared.block.Part.{Part}
use Rattle.ckrt_look_values.specs.Bits.{ALL, alu_unknown, is_open, loaded_unknown, ones, op_of, shift_of, some, stored_unknown}
use Rattle.ckrt_look_values.specs.Values.{Shadow, chosen, given, known, register_of, told, with_part, with_register, with_unknown, with_word, without_giving, word_of}
use Rattle.ckrt_look_values.specs.declared.bits.Operand.{Operand}
use Rattle.ckrt_look_values.specs.declared.instruction.Operation.{Operation}
use Rattle.ckrt_look_values.specs.declared.value.Deed.{Deed}
use Rattle.ckrt_look_values.specs.declared.value.Deed.TheVariants as deed
use Rattle.ckrt_look_values.specs.declared.value.Use.{Use}
use Rattle.ckrt_look_values.specs.declared.value.Value.{Value}
use Rattle.ckrt_look_values.specs.declared.values.Giving.{Giving}

-- A USE by a step

abbrev pub use_of : Stepping → Deed → Value → Use
use_of s d v = record {
  deed = d;
  pc = s.regs.pc;
  link = get s.regs 1;
  moment = record { place = s.place; thread = s.thread };
  value = v;
}

-- nothing is told of who owns the lock of the kit's heap
abbrev pub tell_use : State → Stepping → Deed → Value → Shadow → Shadow
tell_use m s d v w = if is_in_heap s.thread m.tables then w else told (use_of s d v) w

abbrev pub unless_known : State → Stepping → Deed → Value → Shadow → Shadow
unless_known m s d v w = if v.unknown == 0 then w else tell_use m s d v w

-- what a register has
abbrev pub operand : Stepping → (r : ℕ) → Value → Operand
operand s r v = record { value = get s.regs r; unknown = v.unknown }

-- memory that is given to a thread: nothing has stored there
abbrev pub whose : Stepping → (is_block : Bool) → Value
whose s b = record { unknown = ALL; is_block = b; thread = s.thread; place = s.place }

-- where an address comes from this register
abbrev pub with_address : State → Stepping → Deed → (rs1 : ℕ) → Shadow → Shadow
with_address m s d i w = unless_known m s d (register_of s.thread i w) w

-- BRANCHES

abbrev pub branch_by : State → Stepping → Bool → (a b : Value) → Shadow → Shadow
branch_by m s is_open a b w = if is_open then tell_use m s deed.Branch (chosen a b) w else w

abbrev pub after_branch : State → Stepping → Condition → (rs1 rs2 : ℕ) → Shadow → Shadow
after_branch m s c i j w =
    branch_by m s
    (is_open c (operand s i (register_of s.thread i w)) (operand s j (register_of s.thread j w)))
    (register_of s.thread i w) (register_of s.thread j w) w

-- LOADS: what is known of the word there goes into the register

abbrev pub loaded_from : LoadKind → (address : ℕ) → Value → Value
loaded_from k a v = if v.unknown == 0 then v else with_unknown v (loaded_unknown k a v.unknown)

abbrev pub put_loaded : Stepping → LoadKind → (rd address : ℕ) → Shadow → Shadow
put_loaded s k rd a w = with_register s.thread rd (loaded_from k a (word_of a w)) w

abbrev pub after_load : State → Stepping → LoadKind → (rd address : ℕ) → Shadow → Shadow
after_load m s k rd a w =
    if may_access m.bytes a (load_size k) then put_loaded s k rd a w else w

-- STORES: what is known of the register goes into the word. What the function stores there that gives a block is the heap's

abbrev pub is_given : Stepping → (address : ℕ) → Giving → Bool
is_given s a g = g.value.thread == s.thread && nat_lt (word_sub (a / 4) g.part.first) g.part.count

abbrev pub given_at : Stepping → (address : ℕ) → Option Giving → Option Value
given_at s a None = None
given_at s a (Some g) = if is_given s a g then Some g.value else None

abbrev pub stored_over : Size → (address : ℕ) → (stored there : Value) → Value
stored_over z a v there =
    with_unknown (chosen (with_unknown v (bit_and v.unknown (ones z))) there)
    (stored_unknown z a v.unknown there.unknown)

-- with all of its word
abbrev pub stored_by : Size → (address : ℕ) → (stored there : Value) → Option Value → Value
stored_by z a v there None = stored_over z a v there
stored_by z a v there (Some g) = g

abbrev pub put_stored : Stepping → Size → (rs2 address : ℕ) → Shadow → Shadow
put_stored s z j a w =
    with_word a
    (stored_by z a (register_of s.thread j w) (word_of a w) (given_at s a w.giving)) w

abbrev pub after_store : State → Stepping → Size → (rs2 address : ℕ) → Shadow → Shadow
after_store m s z j a w = if may_access m.bytes a z then put_stored s z j a w else w

-- RESULTS. A stack pointer that is lowered by what is computed from it gives a frame, unless that only completes an address (LUI or AUIPC is
-- right before it, as where the stack is another one)

abbrev pub is_begun : Option Instr → Bool
is_begun (Some (instr.Lui rd imm)) = rd == 2
is_begun (Some (instr.Auipc rd imm)) = rd == 2
is_begun _ = false

abbrev pub lowered_to : (stack : ℕ) → Stepping → Shadow → Shadow
lowered_to n s w =
    if nat_lt n (get s.regs 2)
    then with_part (record { first = n / 4; count = (get s.regs 2 - n) / 4 }) (whose s false) w
    else w

abbrev pub lowered : State → Stepping → Operation → Shadow → Shadow
lowered m s o w =
    if o.rd == 2 && o.rs1 == 2
    then (if is_begun (fetched m.bytes (word_sub s.regs.pc 4)) then w
    else lowered_to (alu_result o.op (get s.regs 2) o.right) s w)
    else w

abbrev pub right_of : Operation → Operand
right_of o = record { value = o.right; unknown = o.other.unknown }

abbrev pub unknown_by : AluOp → (a b : Operand) → ℕ
unknown_by op a b = if some a b == 0 then 0 else alu_unknown op a b

abbrev pub result_of : Stepping → Operation → Value → Value
result_of s o v =
    with_unknown (chosen v o.other) (unknown_by o.op (operand s o.rs1 v) (right_of o))

abbrev pub computed : State → Stepping → Operation → Shadow → Shadow
computed m s o w =
    with_register s.thread o.rd (result_of s o (register_of s.thread o.rs1 w)) (lowered m s o w)

abbrev pub by_immediate : AluOp → (rd rs1 right : ℕ) → Operation
by_immediate op rd i n = record { op = op; rd = rd; rs1 = i; right = n; other = known }

abbrev pub by_register : Stepping → AluOp → (rd rs1 rs2 : ℕ) → Shadow → Operation
by_register s op rd i j w = record {
  op = op;
  rd = rd;
  rs1 = i;
  right = get s.regs j;
  other = register_of s.thread j w;
}

-- THE KIT TELLS by SLT with rd x0 that a block is given, and by SLTU what is nobody's: told by the function that gives a block, that is what the
-- block has after the bytes that were asked for (docs/ABI.md)

abbrev pub giving_of : Stepping → (rs1 rs2 : ℕ) → Giving
giving_of s i j = record {
  value = whose s true;
  part = part_at (get s.regs i) (get s.regs j);
  stack = get s.regs 2;
}

abbrev pub with_rest : Stepping → Part → Option Giving → Shadow → Shadow
with_rest s p None w = w
with_rest s p (Some g) w = if g.value.thread == s.thread then with_part p g.value w else w

abbrev pub after_hint : Stepping → AluOp → (rs1 rs2 : ℕ) → Shadow → Shadow
after_hint s alu.Slt i j w = given (giving_of s i j) w
after_hint s alu.Sltu i j w = with_rest s (part_at (get s.regs i) (get s.regs j)) w.giving w
after_hint s _ i j w = w

abbrev pub after_alu : State → Stepping → AluOp → (rd rs1 rs2 : ℕ) → Shadow → Shadow
after_alu m s op rd i j w =
    if rd == 0 then after_hint s op i j w else computed m s (by_register s op rd i j w) w

-- up to where that function returns: its thread's stack pointer is above the function's

abbrev pub is_over : Stepping → Giving → Bool
is_over s g = g.value.thread == s.thread && nat_lt g.stack (get s.regs 2)

abbrev pub settled_by : Stepping → Option Giving → Shadow → Shadow
settled_by s None w = w
settled_by s (Some g) w = if is_over s g then without_giving w else w

abbrev pub settled : Stepping → Shadow → Shadow
settled s w = settled_by s w.giving w

-- AN INSTRUCTION

abbrev pub after_jump : State → Stepping → (rd rs1 : ℕ) → Shadow → Shadow
after_jump m s rd i w =
    with_register s.thread rd known (with_address m s deed.Jump i w)

abbrev pub address_by : Stepping → (rs1 : ℕ) → ℤ → ℕ
address_by s i offset = word_add_signed (get s.regs i) offset

abbrev pub after_access : State → Stepping → Instr → Shadow → Shadow
after_access m s (instr.Load k rd i offset) w =
    after_load m s k rd (address_by s i offset) (with_address m s deed.Load i w)
after_access m s (instr.Store z i j offset) w =
    after_store m s z j (address_by s i offset) (with_address m s deed.Store i w)
after_access m s _ w = w

abbrev pub after_instruction : State → Stepping → Option Instr → Shadow → Shadow
after_instruction m s (Some (instr.Lui rd imm)) w = with_register s.thread rd known w
after_instruction m s (Some (instr.Auipc rd imm)) w = with_register s.thread rd known w
after_instruction m s (Some (instr.Jal rd offset)) w = with_register s.thread rd known w
after_instruction m s (Some (instr.Jalr rd i offset)) w = after_jump m s rd i w
after_instruction m s (Some (instr.Branch c i j offset)) w = after_branch m s c i j w
after_instruction m s (Some (instr.AluImm op rd i imm)) w =
    computed m s (by_immediate (op_of op) rd i (cast_unsigned w32 imm)) w
after_instruction m s (Some (instr.Shift op rd i n)) w =
    computed m s (by_immediate (shift_of op) rd i n) w
after_instruction m s (Some (instr.Alu op rd i j)) w = after_alu m s op rd i j w
after_instruction m s (Some i) w = after_access m s i w
after_instruction m s None w = w

abbrev pub after_quiet : State → Stepping → Shadow → Shadow
after_quiet m s w = after_instruction m s (fetched m.bytes s.regs.pc) (settled s w)

-- A CALL takes words from x10 on; x1, x10 and x11 are known after it, and after a gate

abbrev pub count_of : Arguments → ℕ
count_of arguments.Nothing = 0
count_of arguments.Number = 1
count_of arguments.Word = 1
count_of arguments.WordNumber = 2
count_of arguments.NumberWord = 2
count_of arguments.TwoWords = 2
count_of arguments.Moment = 2
count_of arguments.WordMoment = 3
count_of arguments.TwoWordsMoment = 4
count_of arguments.Creation = 4

abbrev pub taken : (n i : ℕ) → Stepping → Shadow → Value
taken n i s w = if nat_lt i n then register_of s.thread (10 + i) w else known

abbrev pub argument : (n : ℕ) → Stepping → Shadow → Value
argument n s w =
    chosen (chosen (taken n 0 s w) (taken n 1 s w)) (chosen (taken n 2 s w) (taken n 3 s w))

abbrev pub asked : State → Stepping → Option Call → Shadow → Shadow
asked m s None w = w
asked m s (Some c) w = unless_known m s deed.Call (argument (count_of (arguments_of c)) s w) w

abbrev pub after_ecall : State → Stepping → Option Instr → Shadow → Shadow
after_ecall m s (Some instr.Ecall) w = asked m s (call_of (get s.regs 17)) w
after_ecall m s _ w = w

abbrev pub answered : (t : ℕ) → Shadow → Shadow
answered t w = with_register t 11 known (with_register t 10 known (with_register t 1 known w))

abbrev pub after_call : State → Stepping → Shadow → Shadow
after_call m s w = answered s.thread (after_ecall m s (fetched m.bytes s.regs.pc) w)

-- of a thread that has ended all is known: another one may have its number

abbrev pub forgotten : (n t : ℕ) → Shadow → Shadow
forgotten zero t w = w
forgotten (suc n) t w = with_register t n known (forgotten n t w)

abbrev pub unless_live : (t : ℕ) → Option Registers → Shadow → Shadow
unless_live t None w = forgotten 32 t w
unless_live t (Some r) w = w

abbrev pub after_end : (t : ℕ) → State → Shadow → Shadow
after_end t s w = unless_live t (threads.regs_of (threads.thread_of s.tables.threads t)) w

-- A STEP of the thread on a hart

abbrev pub plainly : Option Stepping → State → Shadow → Shadow
plainly None m w = w
plainly (Some s) m w = after_quiet m s w

-- with the state after it
abbrev pub specially : Option Stepping → (now new : State) → Shadow → Shadow
specially None m new w = w
specially (Some s) m new w = after_end s.thread new (after_call m s w)

abbrev pub after_step : Place → (h : ℕ) → State → Shadow → Shadow
after_step p h s w =
    if is_quiet (hart_of s.tables h) s
    then plainly (stepping_of p (hart_of s.tables h) s) s w
    else specially (stepping_of p (hart_of s.tables h) s) s (hart_step h s).state w

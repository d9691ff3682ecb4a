-- Frames of functions, from each to its caller, as call frame information has it (DWARF 5, 6.4), and the first call by which a thread came into a kit.
use Rattle.std.specs.Prelude.{ℕ, ◌+◌, ◌-◌, ◌^◌, ◌%◌, List, Bool, ◌&&◌, nat_le, nat_lt, if◌then◌else◌, zero, suc, Option, Some, None}
use Rattle.std.specs.List.{find, list_any}
use Rattle.ckrt_registers.specs.Registers.{Registers, get}
use Rattle.ckrt_rv32i.specs.Memory.{is_aligned, is_valid, loaded}
use Rattle.ckrt_rv32i.specs.declared.memory_bus.Size.TheVariants as size
use Rattle.ckrt_look_recording.specs.declared.frame.Frame.{Frame}
use Rattle.ckrt_look_recording.specs.declared.rule.Base.{Base}
use Rattle.ckrt_look_recording.specs.declared.rule.Base.TheVariants.{FramePointer, StackPointer}
use Rattle.ckrt_look_recording.specs.declared.rule.Rule.{Rule}
use Rattle.ckrt_look_recording.specs.declared.rule.Saved.{Saved}
use Rattle.ckrt_look_recording.specs.declared.rule.Saved.TheVariants.{Below, Kept}
use Rattle.ckrt_look_recording.specs.declared.rule.Stretch.{Stretch}
use Rattle.ckrt_look_recording.specs.declared.walk.Call.{Call}

-- the second step, where the first gave a value: Rust's `?`
infixl 10 ◌>>=◌
abbrev pub ◌>>=◌ : {A B : Type 0} → Option A → (A → Option B) → Option B
(Some x) >>= f = f x
None >>= f = None

-- the word at an address, where that is aligned and in the memory
abbrev pub word_at : List ℕ → ℕ → Option ℕ
word_at bytes address =
    if is_aligned address size.Word && is_valid bytes address size.Word
    then Some (loaded bytes address size.Word) else None

-- the frame of a thread with these registers: one that waits is after its call, which stands four bytes lower
abbrev pub frame_of : Registers → (waits : Bool) → Frame
frame_of registers waits = record {
  place = if waits then registers.pc - 4 else registers.pc;
  return_address = get registers 1;
  stack_pointer = get registers 2;
  frame_pointer = get registers 8;
}

-- an address lies in a stretch
abbrev pub has : ℕ → Stretch → Bool
has address stretch = nat_le stretch.begin address && nat_lt address stretch.end

-- the first rule that is of an address
abbrev pub rule_at : List Rule → ℕ → Option Rule
rule_at rules address = find (λ rule. has address rule.stretch) rules

-- an address is one of the kit's
abbrev pub is_kit : List Stretch → ℕ → Bool
is_kit kit address = list_any (has address) kit

abbrev pub base_of : Base → Frame → ℕ
base_of StackPointer frame = frame.stack_pointer
base_of FramePointer frame = frame.frame_pointer

-- the canonical frame address: what the stack pointer was before the function was called. Addresses wrap
abbrev pub frame_address : Rule → Frame → ℕ
frame_address rule frame = (base_of rule.base frame + rule.offset) % 2 ^ 32

-- what a register was then: what it is, or the word so many bytes below the canonical frame address
abbrev pub before_call : List ℕ → (address now : ℕ) → Saved → Option ℕ
before_call bytes address now Kept = Some now
before_call bytes address now (Below count) = word_at bytes (address - count)

-- the caller of a frame, which stands at its call: in the word before the return address, where there is one
abbrev pub caller_of : List ℕ → Rule → Frame → Option Frame
caller_of bytes rule frame = do
  return ← before_call bytes (frame_address rule frame) frame.return_address rule.return_address
  pointer ← before_call bytes (frame_address rule frame) frame.frame_pointer rule.frame_pointer
  call ← word_at bytes (return - 4)
  Some (record {
    place = return - 4;
    return_address = return;
    stack_pointer = frame_address rule frame;
    frame_pointer = pointer;
  })

-- the caller of a frame by the first rule that is of its place, whoever's code it is
abbrev pub next_frame : List Rule → List ℕ → Frame → Option Frame
next_frame rules bytes frame = do
  rule ← rule_at rules frame.place
  caller_of bytes rule frame

-- from a frame of the kit to its callers, so many at most, up to the first that isn't the kit's
abbrev pub call_within : ℕ → List Stretch → List Rule → List ℕ → Frame → Option Call
call_within zero kit rules bytes frame = None
call_within (suc more) kit rules bytes frame = do
  rule ← rule_at rules frame.place
  caller ← caller_of bytes rule frame
  if is_kit kit caller.place then call_within more kit rules bytes caller
      else Some (record { within = frame.place; from = caller.place })

-- the call by which a thread came into the kit: none where it isn't there, or where a frame of the kit has no caller, or where the 64th
-- caller is the kit's too
abbrev pub call_of : List Stretch → List Rule → List ℕ → Frame → Option Call
call_of kit rules bytes frame =
    if is_kit kit frame.place then call_within 64 kit rules bytes frame else None

-- The lines of replies, each with its line feed (this project's choice).
use Rattle.std.specs.Prelude.{ℕ, ◌+◌, ◌/◌, zero, suc, List, [], ◌∷◌, ◌++◌, length, take, drop, codes, decimal}
use Rattle.hex.specs.Hex.{encode_lower}
use Rattle.ckrt_events.specs.declared.command.LineFault.{LineFault}
use Rattle.ckrt_events.specs.Refusals.{line_fault_text, no_line}
use Rattle.ckrt_machine.specs.declared.event.Answer.{Answer}
use Rattle.ckrt_machine.specs.declared.event.Answer.TheVariants.{Placed, Ran, Taken, Closed, Ticked}
use Rattle.ckrt_machine.specs.declared.event.RunEnd.{RunEnd}
use Rattle.ckrt_machine.specs.declared.event.RunEnd.TheVariants.{On, Off, End}
use Rattle.ckrt_machine.specs.RefusalTexts.{refusal_text}
use Rattle.ckrt_recovery.specs.declared.fault.SubmitFault.{SubmitFault}
use Rattle.ckrt_recovery.specs.declared.fault.SubmitFault.TheVariants as submit
use Rattle.ckrt_recovery.specs.declared.fault.CommitFault.{CommitFault}
use Rattle.ckrt_recovery.specs.declared.fault.CommitFault.TheVariants as commit

-- how a run ended
abbrev pub run_end_text : RunEnd → List ℕ
run_end_text On = codes "on"
run_end_text Off = codes "off"
run_end_text End = codes "end"

abbrev pub answer_text : Answer → List ℕ
answer_text Placed = codes "placed"
answer_text (Ran m how) = codes "ran " ++ decimal m ++ codes " " ++ run_end_text how
answer_text (Taken n) = codes "taken " ++ decimal n
answer_text Closed = codes "closed"
answer_text (Ticked n) = codes "ticked " ++ decimal n

-- the k-th event over all lives was accepted
abbrev pub ok_line : ℕ → Answer → List ℕ
ok_line k answer = codes "ok " ++ decimal k ++ codes " " ++ answer_text answer ++ codes "\n"

-- the first k events are durable
abbrev pub ack_line : ℕ → List ℕ
ack_line k = codes "ack " ++ decimal k ++ codes "\n"

abbrev pub submit_fault_text : SubmitFault → List ℕ
submit_fault_text submit.Failed = codes "21 Failed"
submit_fault_text submit.NeedsCheckpoint = codes "27 NeedsCheckpoint"
submit_fault_text (submit.Refused refusal) = refusal_text refusal
submit_fault_text submit.BatchFull = codes "22 BatchFull"
submit_fault_text submit.JournalFull = codes "23 JournalFull"
submit_fault_text submit.CountersUsed = codes "24 CountersUsed"

abbrev pub commit_fault_text : CommitFault → List ℕ
commit_fault_text commit.Failed = codes "21 Failed"
commit_fault_text commit.Device = codes "25 Device"
commit_fault_text commit.GenerationsUsed = codes "26 GenerationsUsed"

-- output from an offset on
abbrev pub out_line : ℕ → List ℕ → List ℕ
out_line offset bytes = codes "out " ++ decimal offset ++ codes " " ++ encode_lower bytes ++ codes "\n"

-- REPLIES AS THEY ARE MEANT

-- a line of the service
pub data Reply : Type 0 where
  -- the k-th event over all lives was accepted, with its answer
  Accepted : ℕ → Answer → Reply
  -- the first k events are durable
  Acknowledged : ℕ → Reply
  -- an event was refused
  NotAccepted : SubmitFault → Reply
  -- a commit or a checkpoint was refused, or the device failed it
  NotSaved : CommitFault → Reply
  -- a line is no command
  NotUnderstood : LineFault → Reply
  -- output from an offset on
  Output : ℕ → List ℕ → Reply

abbrev pub line_of : Reply → List ℕ
line_of (Accepted k answer) = ok_line k answer
line_of (Acknowledged k) = ack_line k
line_of (NotAccepted why) = no_line (submit_fault_text why)
line_of (NotSaved why) = no_line (commit_fault_text why)
line_of (NotUnderstood why) = no_line (line_fault_text why)
line_of (Output offset bytes) = out_line offset bytes

-- what is told of replies, one after another, by what is told of each
abbrev pub told_of : (Reply → List ℕ) → List Reply → List ℕ
told_of text [] = []
told_of text (r ∷ rs) = text r ++ told_of text rs

-- the text of replies, one after another
abbrev pub text_of : List Reply → List ℕ
text_of = told_of line_of

-- n lines of 64 bytes of output each, the last of what is left
abbrev pub outputs_by : ℕ → ℕ → List ℕ → List Reply
outputs_by zero offset bytes = []
outputs_by (suc n) offset bytes =
    Output offset (take 64 bytes) ∷ outputs_by n (offset + length (take 64 bytes)) (drop 64 bytes)

-- all of the output, as lines of at most 64 bytes
abbrev pub outputs : ℕ → List ℕ → List Reply
outputs offset bytes = outputs_by ((length bytes + 63) / 64) offset bytes

-- WHAT REPLIES SAY

-- how many lines ok there are
abbrev pub oks_of : List Reply → ℕ
oks_of [] = 0
oks_of (Accepted k answer ∷ rs) = suc (oks_of rs)
oks_of (Acknowledged k ∷ rs) = oks_of rs
oks_of (NotAccepted why ∷ rs) = oks_of rs
oks_of (NotSaved why ∷ rs) = oks_of rs
oks_of (NotUnderstood why ∷ rs) = oks_of rs
oks_of (Output offset bytes ∷ rs) = oks_of rs

-- the numbers of the lines ack
abbrev pub acks_of : List Reply → List ℕ
acks_of [] = []
acks_of (Accepted k answer ∷ rs) = acks_of rs
acks_of (Acknowledged k ∷ rs) = k ∷ acks_of rs
acks_of (NotAccepted why ∷ rs) = acks_of rs
acks_of (NotSaved why ∷ rs) = acks_of rs
acks_of (NotUnderstood why ∷ rs) = acks_of rs
acks_of (Output offset bytes ∷ rs) = acks_of rs

-- the lines of output, each an offset and its bytes
abbrev pub outs_of : List Reply → List (ℕ × List ℕ)
outs_of [] = []
outs_of (Accepted k answer ∷ rs) = outs_of rs
outs_of (Acknowledged k ∷ rs) = outs_of rs
outs_of (NotAccepted why ∷ rs) = outs_of rs
outs_of (NotSaved why ∷ rs) = outs_of rs
outs_of (NotUnderstood why ∷ rs) = outs_of rs
outs_of (Output offset bytes ∷ rs) = (offset, bytes) ∷ outs_of rs

-- the output that a reply shows
abbrev pub output_in : Reply → List ℕ
output_in (Accepted k answer) = []
output_in (Acknowledged k) = []
output_in (NotAccepted why) = []
output_in (NotSaved why) = []
output_in (NotUnderstood why) = []
output_in (Output offset bytes) = bytes

-- the output that replies show, one after another
abbrev pub shown_in : List Reply → List ℕ
shown_in = told_of output_in

-- the offset after the last line of output; where there is none the given one
abbrev pub shown_up_to : ℕ → List Reply → ℕ
shown_up_to from [] = from
shown_up_to from (Accepted k answer ∷ rs) = shown_up_to from rs
shown_up_to from (Acknowledged k ∷ rs) = shown_up_to from rs
shown_up_to from (NotAccepted why ∷ rs) = shown_up_to from rs
shown_up_to from (NotSaved why ∷ rs) = shown_up_to from rs
shown_up_to from (NotUnderstood why ∷ rs) = shown_up_to from rs
shown_up_to from (Output offset bytes ∷ rs) = shown_up_to (offset + length bytes) rs

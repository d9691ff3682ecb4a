-- What meets the premises of the laws that what is written stands for one thing: words and texts of instructions, and bytes of events.
use Rattle.std.specs.Prelude.{◌≡◌, ◌≤◌, ◌<◌, ◌^◌, ◌+◌, ◌++◌, ℕ, List, [], length, None}
use Rattle.ckrt_events.specs.Bytes.{BATCH_LIMIT, IsBatch, IsEncodingOf, IsInRange, encoding_of, known_events}
use Rattle.ckrt_events.specs.declared.event.Event.{Event}
use Rattle.ckrt_rv32i.specs.Table as table
use Rattle.ckrt_rv32i.specs.Text.{text_of}
use Rattle.ckrt_rv32i.specs.declared.instruction.Instr.{Instr}

-- A word and the one that its instruction was encoded in again; and that instruction and the one that was read of its text. The laws say that
-- these are the same.
pub record InstructionWitness (word : ℕ) : Type 0 where
  pub instruction : Instr
  pub in_range : table.IsInRange instruction
  pub small : word < 2 ^ 32
  pub encodes : table.Encodes word instruction
  pub again : ℕ
  pub small_again : again < 2 ^ 32
  pub encodes_again : table.Encodes again instruction
  pub other : Instr
  pub other_in_range : table.IsInRange other
  pub same_text : text_of instruction ≡ text_of other

-- Two events that were encoded one behind the other, where there is room for them, and a list of bytes that has no room for the first. What was
-- encoded is a batch, and decodes; other bytes decode to nothing. The laws are of an event that begins with another: an event begins with itself.
pub record EventsWitness (version : ℕ) (first second : Event) (full torn : List ℕ) : Type 0 where
  pub first_in_range : IsInRange first
  pub second_in_range : IsInRange second
  pub begins : encoding_of first ≡ encoding_of first ++ []
  pub bytes : List ℕ
  pub both : bytes ≡ encoding_of first ++ encoding_of second
  pub room : length bytes ≤ BATCH_LIMIT
  pub no_room : BATCH_LIMIT < length full + length (encoding_of first)
  pub events : List Event
  pub encoded : IsEncodingOf version bytes events
  pub batch : IsBatch version bytes
  pub none : known_events version torn ≡ None

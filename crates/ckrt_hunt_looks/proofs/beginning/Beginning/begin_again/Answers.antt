use Rattle.std.proofs.Common.{◌≡◌, ◌∙◌, ap, refl}
use Rattle.ckrt_memory.specs.Marks.{Memory}
use Rattle.ckrt_machine.specs.Steps.{State}
use Rattle.ckrt_calls.specs.declared.table.Tables.{Tables}
use Rattle.ckrt_hunt_schedules.proofs.CopyLemmas.{room_behind}
use Rattle.ckrt_hunt_looks.proofs.beginning.Beginning.begin_again.Goals as goal

-- the room has what the machine had
pub returns : goal.returns
returns c = λ was aside on.
    let start = was.state in
    let new = c.exchange.new.self.state in
    let bytes : new.bytes ≡ start.bytes = ap (λ (m : Memory). m.bytes) c.exchange.ensures.memory ∙ aside.memory in
    let tables : new.tables ≡ start.tables = c.exchange.ensures.tables ∙ aside.tables in
    record {
      state = ap (λ b. let s : State = record { bytes = b; tables = new.tables } in s) bytes ∙ ap (λ (t : Tables). let s : State = record { bytes = start.bytes; tables = t } in s) tables;
      room = room_behind was c.args.self.now.machine was c.exchange.new.memory c.exchange.new.tables aside.some refl refl c.exchange.ensures.given c.exchange.ensures.given_tables on.follows on.harts;
    }

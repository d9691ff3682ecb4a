use Rattle.std.proofs.Common.{◌∙◌, ap, length, subst, sym}
use Rattle.ckrt_memory.specs.Marks.{IsCopyButMarked, Memory}
use Rattle.ckrt_hunt_schedules.proofs.CopyLemmas.{room_behind}
use Rattle.ckrt_hunt_schedules.proofs.hunt.Hunt.note_turns.Goals as goal

pub restore_memory-requires : goal.restore_memory-requires
restore_memory-requires c = record {
  size = c.self.invariant.size ∙ sym (ap (λ (m : Memory). length m.bytes) c.memory.ensures);
  copy = subst (λ (m : Memory). IsCopyButMarked m.bytes c.self.inside.memory) (sym c.memory.ensures) c.self.invariant.copy;
}

-- the room has what the machine ran to
pub invariant_of-self : goal.invariant_of-self
invariant_of-self c =
    let before = c.self.invariant in
    room_behind c.self.inside.machine c.note_turns-has_all.new.machine c.exchange.new.self c.exchange.new.memory c.exchange.new.tables before.some
    (ap (λ (m : Memory). m.bytes) c.exchange.ensures.memory ∙ c.restore_memory.ensures.bytes ∙ ap (λ (m : Memory). m.bytes) c.memory.ensures)
    (c.exchange.ensures.tables ∙ c.restore_tables.ensures ∙ c.tables.ensures.tables)
    c.exchange.ensures.given c.exchange.ensures.given_tables c.note_turns-has_all.ensures.follows c.note_turns-has_all.ensures.harts

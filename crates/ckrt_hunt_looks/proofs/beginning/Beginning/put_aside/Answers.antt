use Rattle.std.proofs.Common.{◌∙◌, ap, length, subst, sym}
use Rattle.ckrt_memory.specs.Marks.{IsCopyButMarked, Memory}
use Rattle.ckrt_calls.specs.WellFormed.{IsWellFormed}
use Rattle.ckrt_calls.specs.declared.table.Tables.{Tables}
use Rattle.ckrt_hunt_looks.proofs.beginning.Beginning.put_aside.Goals as goal

pub restore_memory-requires : goal.restore_memory-requires
restore_memory-requires c = record {
  size = c.requires.size ∙ sym (ap (λ (m : Memory). length m.bytes) c.memory.ensures);
  copy = subst (λ (m : Memory). IsCopyButMarked m.bytes c.args.self.now.memory) (sym c.memory.ensures) c.requires.copy;
}

pub returns-clause-aside : goal.returns-clause-aside
returns-clause-aside c = record {
  memory = c.restore_memory.ensures.bytes ∙ ap (λ (m : Memory). m.bytes) c.memory.ensures;
  tables = c.restore_tables.ensures ∙ c.tables.ensures.tables;
  well_formed = subst (λ (t : Tables). IsWellFormed t) (sym c.restore_tables.ensures) c.tables.ensures.well_formed;
  some = c.requires.some;
}

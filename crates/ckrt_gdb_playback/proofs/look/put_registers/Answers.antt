use Rattle.std.proofs.Common.{ap, ◌∙◌}
use Rattle.ckrt_gdb_playback.specs.Look.{fitting, registers_bytes}
use Rattle.ckrt_gdb_forms.specs.Numbers.{hex_text}
use Rattle.ckrt_gdb_playback.proofs.WordLemmas.{told}
use Rattle.ckrt_gdb_playback.proofs.look.put_registers.Goals as goal

pub returns : goal.returns
returns c =
    told c.push_registers-written.result (registers_bytes c.registers_of.result) c.new-bytes.result.items c.push_registers-written.new.out.items c.put_bytes.new.out.items c.new-bytes.ensures c.push_registers-written.ensures.done c.push_registers-written.ensures.fits c.put_bytes.ensures.done c.put_bytes.ensures.full ∙ ap (λ r. fitting (hex_text (registers_bytes r))) c.registers_of.ensures

use Rattle.std.proofs.Common.{◌≡◌, ◌∙◌, ℕ, List, length, ap, subst, inr, rules}
use Rattle.ckrt_gdb_forms.specs.Core.{core_of}
use Rattle.ckrt_cli_disk.specs.CoreFiles.{WritesInto}
use Rattle.ckrt_cli_disk.proofs.core_file.make_core.Goals as goal

-- the bytes that were written are those of the core, and the file was asked for with as many
pub returns-in-Ok : goal.returns-in-Ok
returns-in-Ok g c =
    let d = g.D.Disk in
    let path = c.args.path.now in
    let core = core_of c.args.machine.now.state in
    let asked = g.S.Closes.openings c.open_core.new.self in
    let new = g.S.Closes.openings c.write_named.new.sources in
    let is : c.in_ok-bytes.bytes.items ≡ core = c.in_ok-bytes.ensures.bytes in
    let size : c.len.result ≡ length c.in_ok-bytes.bytes.items = search rules in
    let written : WritesInto d core path c.in-Ok.core asked new c.write_named.result =
    subst (λ (l : List ℕ). WritesInto d l path c.in-Ok.core asked new c.write_named.result) (c.deref.ensures.value ∙ is) c.write_named.ensures in
    inr (inr (record {
      start = c.in-Ok.core;
      is_opened = subst (λ (n : ℕ). g.S.Sources.fills c.args.sources.now path n c.in-Ok.core) (size ∙ ap length is) c.in-Ok.ensures.core;
      writes = subst (λ o. WritesInto d core path c.in-Ok.core o new c.write_named.result) c.in-Ok.ensures.asked written;
    }))

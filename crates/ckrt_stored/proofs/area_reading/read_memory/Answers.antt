use Rattle.std.proofs.Common.{◌≡◌, ◌≤◌, arith}
use Rattle.std.proofs.lemmas.Grind.{common_steps}
use Rattle.std.proofs.lemmas.Bool.Decides.{nat_tests}
use Rattle.ckrt_stored.specs.Layout.{memory_of}
use Rattle.ckrt_stored.proofs.SlotLemmas.{read_stand}
use Rattle.ckrt_stored.proofs.area_reading.read_memory.Goals as goal

pub returns-clause-pages : goal.returns-clause-pages
returns-clause-pages g c = λ honest.
    let config = c.args.config.now in let area = c.args.area in let image = g.D.Disk.content c.args.disk.now in let valid = c.requires.valid in
    let few : config.pages ≤ 65536 = grind (arith, nat_tests, valid) in
    let is : c.in_ok-memory.memory.bytes ≡ memory_of config area image = grind (arith, common_steps, honest) in
    read_stand config area c.in_ok-memory.memory c.clean.new.self image c.requires.area few c.in_ok-memory.ensures.dirty c.clean.ensures is

use Rattle.std.proofs.Common.{rules, ◌≡◌, [], false, refl, sym, ap, subst}
use Rattle.std.specs.Prelude.{is_err}
use Rattle.ckrt_disk.proofs.FrameLemmas.{where_ok}
use Rattle.ckrt_disk.specs.contracts.memory.MemoryDiskDisk.TheImpl as memory
use Rattle.ckrt_drive.proofs.LeftLemmas.{starts_formatted}
use Rattle.ckrt_recovery.specs.View.{View}
use Rattle.ckrt_stored.specs.Programs.{RecoversToStart}
use Rattle.ckrt_witness.proofs.closed_areas.saved.Goals as goal

pub returns : goal.returns
returns g c =
    let p = c.formatted.ensures in
    let disk = c.memory_disk-disk in
    let start = subst (RecoversToStart p.0) (sym disk.ensures.content) p.1 in
    let none = c.in-Ok.ensures.represents tt p.0 [] 0 (starts_formatted p.0 (memory.ghosts.content disk.result) start) in
    let new = c.checkpoint.new.self in
    let fine : is_err c.checkpoint.result ≡ false = search rules in
    let well : new.failed ≡ false = ap (λ (v : View). v.failed) (where_ok c.checkpoint.result c.checkpoint.ensures.checkpoints.ok fine) in
    let to = ((c.checkpoint.ensures.represents tt p.0 [] none).images well (memory.ghosts.content new.disk) (record { size = refl; same = λ i out. refl })).to in
    rw c.into_disk.ensures (to.recovered, to.recovers)

use Rattle.std.proofs.Common.{◌≡◌, List, ℕ, false, Err, subst, rules}
use Rattle.ckrt_disk.proofs.FrameLemmas.{read_on}
use Rattle.ckrt_stored.specs.Holds.{BothStand}
use Rattle.ckrt_stored.proofs.area_reading.read_area.Goals as goal

pub returns-in_err-memory-in-Ok-Some-clause-read : goal.returns-in_err-memory-in-Ok-Some-clause-read
returns-in_err-memory-in-Ok-Some-clause-read g c =
    let is : c.from_residual-in_err-memory-in-Ok-Some.result ≡ Err c.in_err-memory-in-Ok-Some.field-0.0 = search rules in
    rw is (read_on g.D.Disk c.args.disk.now c.read_table_bytes.new.disk c.read_memory.new.disk _ c.in_ok-bytes.ensures.read c.in_err-memory-in-Ok-Some.ensures.read)

pub returns-in-Ok-Some-clause-pages : goal.returns-in-Ok-Some-clause-pages
returns-in-Ok-Some-clause-pages g c = λ honest.
    let read = c.in_ok-memory-in-Ok-Some.ensures.read in
    let same = c.in_ok-bytes.ensures.read.content (read.same.honest honest) in
    subst (λ (image : List ℕ). BothStand c.args.config.now c.in_ok-memory-in-Ok-Some.memory image) same (c.in_ok-memory-in-Ok-Some.ensures.pages honest)

pub returns-in-Ok-Some-clause-read : goal.returns-in-Ok-Some-clause-read
returns-in-Ok-Some-clause-read g c =
    read_on g.D.Disk c.args.disk.now c.read_table_bytes.new.disk c.read_memory.new.disk false c.in_ok-bytes.ensures.read c.in_ok-memory-in-Ok-Some.ensures.read

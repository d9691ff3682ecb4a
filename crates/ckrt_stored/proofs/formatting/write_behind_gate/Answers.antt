use Rattle.std.proofs.Common.{true, false, is_err, rules}
use Rattle.ckrt_disk.proofs.FrameLemmas.{failed_within, synced, writes_on}
use Rattle.ckrt_stored.specs.Format.{FormatsBehindGate}
use Rattle.ckrt_stored.proofs.formatting.write_behind_gate.Goals as goal

pub returns-in_err-write_area-clause-within : goal.returns-in_err-write_area-clause-within
returns-in_err-write_area-clause-within g c =
    failed_within g.D.Disk (FormatsBehindGate c.args.config.now) 4 8 c.args.disk.now c.write_area.new.disk (is_err c.from_residual.result) c.from_residual.ensures.0 c.in_err-write_area.ensures.within

pub returns-in_err-write_blocks-clause-within : goal.returns-in_err-write_blocks-clause-within
returns-in_err-write_blocks-clause-within g c =
    let d = g.D.Disk in let region = FormatsBehindGate c.args.config.now in
    failed_within d region 7 8 c.args.disk.now c.write_blocks.new.disk (is_err c.from_residual-in_err-write_blocks.result) c.from_residual-in_err-write_blocks.ensures.0
    (writes_on d region 4 3 c.args.disk.now c.write_area.new.disk c.write_blocks.new.disk true c.in_ok-write_area.ensures.within c.in_err-write_blocks.ensures.within)

pub returns-clause-within : goal.returns-clause-within
returns-clause-within g c =
    let d = g.D.Disk in let region = FormatsBehindGate c.args.config.now in let s = c.sync.ensures in
    writes_on d region 7 1 c.args.disk.now c.write_blocks.new.disk c.sync.new.self (is_err c.sync.result)
    (writes_on d region 4 3 c.args.disk.now c.write_area.new.disk c.write_blocks.new.disk false c.in_ok-write_area.ensures.within c.in_ok-write_blocks.ensures.within)
    (synced d c.write_blocks.new.disk c.sync.new.self c.sync.result s.nothing_pending s.content s.torn s.pending s.time s.honest s.size s.named_stop s.calls s.failures region)

pub returns-clause-nothing_pending : goal.returns-clause-nothing_pending
returns-clause-nothing_pending g c = search rules

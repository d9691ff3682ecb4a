use Rattle.ckrt_gdb_playback.specs.Standing.{standing_text}
use Rattle.ckrt_gdb_playback.proofs.WordLemmas.{told}
use Rattle.ckrt_gdb_playback.proofs.look.put_standing.Goals as goal

pub returns : goal.returns
returns c =
    told c.push_standing-written.result (standing_text c.args.thread c.args.tables.now) c.new-bytes.result.items c.push_standing-written.new.out.items c.put_bytes.new.out.items c.new-bytes.ensures c.push_standing-written.ensures.done c.push_standing-written.ensures.fits c.put_bytes.ensures.done c.put_bytes.ensures.full

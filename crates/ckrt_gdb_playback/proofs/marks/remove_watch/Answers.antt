use Rattle.std.proofs.Common.{◌≤◌, arith}
use Rattle.std.specs.Prelude.{not}
use Rattle.ckrt_gdb_history.specs.Stops.{widths}
use Rattle.ckrt_gdb_playback.specs.Marks.{is_watch, without_watch}
use Rattle.ckrt_gdb_playback.proofs.WordLemmas.{fewer_widths}
use Rattle.ckrt_gdb_playback.proofs.marks.remove_watch.Goals as goal

pub returns-clause-width : goal.returns-clause-width
returns-clause-width c =
    let old = c.args.stops.now.watches.items in
    let few : widths (without_watch c.args.wanted c.args.stops.now.watches.items) ≤ widths c.args.stops.now.watches.items = fewer_widths (λ there. not (is_watch c.args.wanted there)) old in
    rw c.retain_others.ensures (omega (arith, few, c.requires))

use Rattle.std.proofs.Common.{◌++◌, ◌∷◌, [], codes, decimal}
use Rattle.std.proofs.lemmas.Result.{on_ok_weaker}
use Rattle.ckrt_hunt_schedules.specs.Table.{drawn_text, fewest_text, placed_text}
use Rattle.ckrt_hunt_schedules.proofs.AppendLemmas.{appends_both}
use Rattle.ckrt_hunt_schedules.proofs.table.write_kept.Goals as goal

-- piece by piece
pub returns : goal.returns
returns g c =
    let has = g.W.Write.contents in
    let a = has c.args.out.now in
    let b = has c.write_placed.new.out in
    let d = has c.write_switches.new.out in
    let e = has c.write_drawn.new.out in
    let f = has c.write_fewest.new.out in
    let z = has c.write_all.new.self in
    let chosen = c.args.chosen.now in
    let placed = placed_text (codes "kept: the run of seed ") chosen.seed c.args.path.now in
    let switches = codes ", switches: " ++ decimal chosen.found.switches in
    let drawn = drawn_text chosen.found in
    let fewest = fewest_text chosen.seeds in
    on_ok_weaker c.write_all.result (λ last.
    appends_both a f z (placed ++ switches ++ drawn ++ fewest) (10 ∷ [])
    (appends_both a e f (placed ++ switches ++ drawn) fewest
    (appends_both a d e (placed ++ switches) drawn (appends_both a b d placed switches c.in_ok-write_placed.ensures c.in_ok-write_switches.ensures) c.in_ok-write_drawn.ensures) c.in_ok-write_fewest.ensures) last) c.write_all.ensures.bytes

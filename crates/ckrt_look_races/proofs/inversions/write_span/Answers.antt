use Rattle.std.proofs.Common.{◌++◌, codes, decimal}
use Rattle.std.proofs.lemmas.Result.{on_ok_weaker}
use Rattle.ckrt_look_calls.proofs.AppendLemmas.{appends_both}
use Rattle.ckrt_look_races.proofs.inversions.write_span.Goals as goal

-- piece by piece
pub returns : goal.returns
returns g c =
    let has = g.W.Write.contents in
    let a = has c.args.out.now in let b = has c.write_counted.new.out in let z = has c.write_counted-2.new.out in
    on_ok_weaker c.write_counted-2.result (λ last. appends_both a b z (codes "no cycle of locks in events " ++ decimal c.args.begin) (codes " to " ++ decimal c.args.end) c.in_ok-write_counted.ensures last) c.write_counted-2.ensures

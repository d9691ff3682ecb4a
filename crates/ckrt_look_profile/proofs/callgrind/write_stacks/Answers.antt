use Rattle.std.proofs.Common.{◌++◌}
use Rattle.std.proofs.lemmas.Result.{on_ok_weaker}
use Rattle.ckrt_look_calls.proofs.AppendLemmas.{appends_both}
use Rattle.ckrt_look_profile.specs.Callgrind.{rest_text, rows_text, start_text}
use Rattle.ckrt_look_profile.proofs.callgrind.write_stacks.Goals as goal

-- piece by piece
pub returns : goal.returns
returns g c =
    let has = g.W.Write.contents in
    let a = has c.args.out.now in let b = has c.write_start.new.out in let d = has c.write_rows.new.out in let z = has c.write_rest.new.out in
    let start = start_text c.args.all in let rows = rows_text c.args.rows.now 0 c.args.rows.now in
    on_ok_weaker c.write_rest.result (λ last. appends_both a d z (start ++ rows) (rest_text c.args.unkept)
    (appends_both a b d start rows c.in_ok-write_start.ensures c.in_ok-write_rows.ensures) last) c.write_rest.ensures

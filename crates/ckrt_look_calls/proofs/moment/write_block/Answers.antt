use Rattle.std.proofs.Common.{◌++◌, codes, decimal}
use Rattle.std.proofs.lemmas.Result.{on_ok_weaker}
use Rattle.ckrt_look_calls.proofs.AppendLemmas.{appends_both}
use Rattle.ckrt_inspect.specs.Texts.{hex_text}
use Rattle.ckrt_look_calls.proofs.moment.write_block.Goals as goal

-- piece by piece
pub returns : goal.returns
returns g c =
    let has = g.W.Write.contents in
    let a = has c.args.out.now in let b = has c.write_counted.new.out in let z = has c.write_address.new.out in
    on_ok_weaker c.write_address.result (λ last. appends_both a b z (codes "    in a block of " ++ decimal c.args.bytes) (codes " bytes from " ++ hex_text c.args.address)
    c.in_ok-write_counted.ensures last) c.write_address.ensures

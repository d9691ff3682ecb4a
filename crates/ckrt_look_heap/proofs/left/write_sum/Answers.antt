use Rattle.std.proofs.Common.{◌++◌, ℕ, codes, decimal, length, subst}
use Rattle.std.proofs.lemmas.Result.{on_ok_weaker}
use Rattle.std.specs.Io.KnownBytes.{Appends}
use Rattle.ckrt_look_calls.proofs.AppendLemmas.{appends_both}
use Rattle.ckrt_look_heap.specs.Texts.{bytes_of}
use Rattle.ckrt_look_heap.proofs.left.write_sum.Goals as goal

-- piece by piece
pub returns : goal.returns
returns g c =
    let has = g.W.Write.contents in let bs = c.args.blocks.now in
    let a = has c.args.out.now in let b = has c.write_counted.new.out in let d = has c.write_counted-2.new.out in let z = has c.write_all.new.self in
    let count = codes "never given back: " ++ decimal (length bs) in let bytes = codes " blocks, bytes: " ++ decimal (bytes_of 0 bs) in
    on_ok_weaker c.write_all.result (λ last. appends_both a d z (count ++ bytes) (codes "\n")
    (appends_both a b d count bytes c.in_ok-write_counted.ensures
    (subst (λ (n : ℕ). Appends b d (codes " blocks, bytes: " ++ decimal n)) c.bytes_of.ensures c.in_ok-write_counted-2.ensures)) last) c.write_all.ensures.bytes

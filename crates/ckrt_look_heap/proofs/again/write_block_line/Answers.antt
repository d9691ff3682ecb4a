use Rattle.std.proofs.Common.{ℕ, subst}
use Rattle.std.proofs.lemmas.Result.{on_ok_weaker}
use Rattle.std.specs.Io.KnownBytes.{Appends}
use Rattle.ckrt_look_calls.specs.Moments.{taken_line}
use Rattle.ckrt_look_heap.specs.Again.{address_of}
use Rattle.ckrt_look_heap.proofs.again.write_block_line.Goals as goal

-- of the address and the bytes that were worked out
pub returns : goal.returns
returns g c =
    let has = g.W.Write.contents in let b = c.args.block.now in
    let a = has c.args.out.now in let z = has c.write_taken_line.new.out in
    on_ok_weaker c.write_taken_line.result (λ last.
    subst (λ (n : ℕ). Appends a z (taken_line (address_of b) n b.taken)) c.from-bytes.ensures
    (subst (λ (n : ℕ). Appends a z (taken_line n c.from-bytes.result b.taken)) c.address_of.ensures last)) c.write_taken_line.ensures

use Rattle.std.proofs.Common.{ℕ, subst}
use Rattle.std.proofs.lemmas.Result.{on_ok_weaker}
use Rattle.std.specs.Io.KnownBytes.{Appends}
use Rattle.ckrt_look_calls.specs.Moments.{taken_line}
use Rattle.ckrt_look_calls.specs.declared.moment.Moment.{Moment}
use Rattle.ckrt_look_races.specs.Again.{begin_of, size_of}
use Rattle.ckrt_look_races.proofs.again.write_block_line.Goals as goal

-- of the address, the bytes and the moment that were worked out
pub returns : goal.returns
returns g c =
    let has = g.W.Write.contents in let b = c.args.block.now in
    let a = has c.args.out.now in let z = has c.write_taken_line.new.out in
    on_ok_weaker c.write_taken_line.result (λ last.
    subst (λ (m : Moment). Appends a z (taken_line (begin_of b) (size_of b) m)) c.taken_at.ensures
    (subst (λ (n : ℕ). Appends a z (taken_line (begin_of b) n c.taken_at.result)) c.size_of.ensures
    (subst (λ (n : ℕ). Appends a z (taken_line n c.size_of.result c.taken_at.result)) c.begin_of.ensures last))) c.write_taken_line.ensures

use Rattle.std.proofs.Common.{subst}
use Rattle.std.proofs.lemmas.Result.{on_ok_weaker}
use Rattle.std.specs.Io.KnownBytes.{Appends}
use Rattle.ckrt_look_calls.proofs.AppendLemmas.{appends_both}
use Rattle.ckrt_look_calls.specs.Moments.{made_text}
use Rattle.ckrt_look_calls.specs.Replays.{replay_of}
use Rattle.ckrt_look_calls.specs.declared.moment.Moment.{Moment}
use Rattle.ckrt_look_races.specs.Again.{block_line, taken_at}
use Rattle.ckrt_look_races.proofs.again.write_taken_block.Goals as goal

-- the line, and then the callers of who took it
pub returns-clause-written : goal.returns-clause-written
returns-clause-written g c =
    let has = g.W.Write.contents in let b = c.args.block.now in let r = replay_of c.args.source.now in
    let x = has c.args.out.now in let y = has c.write_block_line.new.out in let z = has c.write_made.new.out in
    on_ok_weaker c.write_made.result (λ last. appends_both x y z (block_line b) (made_text (taken_at b) r) c.in-Ok.ensures
    (subst (λ (m : Moment). Appends y z (made_text m r)) c.taken_at.ensures last)) c.write_made.ensures.written

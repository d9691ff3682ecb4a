use Rattle.ckrt_drive.specs.PutOut.{is_output_fault}
use Rattle.ckrt_drive.proofs.StreamLemmas.{streams_output}
use Rattle.ckrt_drive.proofs.laws.stream_gets_the_output.Goals as goal

pub returns : goal.returns
returns g c = λ options steps first last result runs.
    streams_output g.W.Write.contents _ (λ a at bytes ok b h. h) (λ a ok b h. h.0) runs.accepted c.args.before.now c.args.after.now c.args.stream.now c.args.end.now (is_output_fault result) runs.accepts runs.puts

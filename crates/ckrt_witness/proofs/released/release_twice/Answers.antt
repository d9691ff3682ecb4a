use Rattle.std.proofs.Common.{◌∷◌, [], arith}
use Rattle.ckrt_drive.proofs.LeftLemmas.{starts_formatted}
use Rattle.ckrt_witness.proofs.LineLemmas.{lines_met}
use Rattle.ckrt_witness.proofs.released.release_twice.Goals as goal

pub returns : goal.returns
returns g c = λ honest p start.
    let one = c.commit_two.ensures in
    let two = c.commit_two-2.ensures in
    let made = c.if-not-commit_two.false in
    let also_made = c.if-not-commit_two-2.false in
    let honest_one = two.honest also_made honest in
    let none = c.in-Ok.ensures.represents (one.honest made honest_one) p [] 0 (starts_formatted p (g.D.Disk.content c.args.disk) start) in
    let first = one.represents made honest_one p [] none in
    let second = two.represents also_made honest p _ first in
    lines_met p c.output_goes_on.ensures.output (c.args.first.0.now ∷ c.args.first.1.now ∷ []) (c.args.second.0.now ∷ c.args.second.1.now ∷ []) c.commit_two.new.session c.commit_two-2.new.session first (one.acknowledged made) second
    (two.acknowledged also_made) (omega (arith, c.confirmed-confirmed.ensures.value, c.released-released.ensures, c.if-released-confirmed.false)) (omega (arith, c.released-released.ensures, c.released.ensures, c.if-released.false))

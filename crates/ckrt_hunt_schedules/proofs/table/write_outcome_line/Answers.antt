use Rattle.std.proofs.Common.{◌++◌, ◌∷◌, []}
use Rattle.std.proofs.lemmas.Result.{on_ok_weaker}
use Rattle.ckrt_hunt_schedules.specs.Table.{digest_text, head_text, outcome_text}
use Rattle.ckrt_hunt_schedules.proofs.AppendLemmas.{appends_both}
use Rattle.ckrt_hunt_schedules.proofs.table.write_outcome_line.Goals as goal

-- piece by piece
pub returns : goal.returns
returns g c =
    let has = g.W.Write.contents in
    let a = has c.args.out.now in
    let b = has c.write_head.new.out in
    let d = has c.write_outcome.new.out in
    let e = has c.write_digest.new.out in
    let z = has c.write_all.new.self in
    let told = c.args.row.now.told in
    let head = head_text c.args.asked.now c.args.number c.args.row.now in
    let outcome = outcome_text c.args.asked.now.shape.limit told.outcome in
    let digest = digest_text told.digest in
    on_ok_weaker c.write_all.result (λ last.
    appends_both a e z (head ++ outcome ++ digest) (10 ∷ [])
    (appends_both a d e (head ++ outcome) digest (appends_both a b d head outcome c.in_ok-write_head.ensures c.in_ok-write_outcome.ensures) c.in_ok-write_digest.ensures) last) c.write_all.ensures.bytes

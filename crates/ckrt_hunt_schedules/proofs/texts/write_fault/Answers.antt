use Rattle.std.proofs.Common.{◌++◌, ◌∙◌, codes, decimal, subst}
use Rattle.std.proofs.lemmas.Result.{on_ok_weaker}
use Rattle.std.specs.Io.KnownBytes.{Appends}
use Rattle.ckrt_inspect.specs.Texts.{hex_text}
use Rattle.ckrt_hunt_schedules.proofs.AppendLemmas.{appends_both}
use Rattle.ckrt_hunt_schedules.proofs.texts.write_fault.Goals as goal

-- piece by piece
pub returns : goal.returns
returns g c =
    let has = g.W.Write.contents in
    let a = has c.args.out.now in
    let b = has c.write_counted.new.out in
    let d = has c.write_at.new.out in
    let e = has c.write_all.new.self in
    let z = has c.write_all-2.new.self in
    let who = codes "fault of thread " ++ decimal c.args.thread in
    let place = codes " at " ++ hex_text c.args.pc in
    let first : Appends a b who = subst (λ n. Appends a b (codes "fault of thread " ++ decimal n)) c.from.ensures c.in_ok-write_counted.ensures in
    on_ok_weaker c.write_all-2.result (λ last.
    subst (λ text. Appends a z (who ++ place ++ codes ", " ++ text)) (c.as_bytes.ensures.value ∙ c.name.ensures)
    (appends_both a e z (who ++ place ++ codes ", ") c.as_bytes.result.now
    (appends_both a d e (who ++ place) (codes ", ") (appends_both a b d who place first c.in_ok-write_at.ensures) c.in_ok-write_all.ensures.bytes) last)) c.write_all-2.ensures.bytes

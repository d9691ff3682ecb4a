use Rattle.std.proofs.Common.{◌++◌, ◌∷◌, [], ℕ, List, codes, subst}
use Rattle.std.specs.List.{flat_map}
use Rattle.std.specs.Io.KnownBytes.{Appends}
use Rattle.std.proofs.lemmas.Result.{on_ok_weaker}
use Rattle.ckrt_hunt_schedules.specs.Table.{byte_text, rest_text}
use Rattle.ckrt_hunt_schedules.proofs.AppendLemmas.{appends_both}
use Rattle.ckrt_hunt_schedules.proofs.saying.write_line.Goals as goal

-- piece by piece
pub returns : goal.returns
returns g c =
    let has = g.W.Write.contents in
    let a = has c.args.out.now in
    let b = has c.write_all.new.self in
    let d = has c.write_bytes.new.out in
    let e = has c.write_rest.new.out in
    let z = has c.write_all-2.new.self in
    let head = codes "    said: " in
    let bytes = flat_map byte_text c.args.line.now.bytes.items in
    let rest = rest_text c.args.line.now.is_longer in
    let second : Appends b d bytes = subst (λ (items : List ℕ). Appends b d (flat_map byte_text items)) c.as_slice.ensures.value c.in_ok-write_bytes.ensures in
    on_ok_weaker c.write_all-2.result (λ last.
    appends_both a e z (head ++ bytes ++ rest) (10 ∷ [])
    (appends_both a d e (head ++ bytes) rest (appends_both a b d head bytes c.in_ok-write_all.ensures.bytes second) c.in_ok-write_rest.ensures) last) c.write_all-2.ensures.bytes

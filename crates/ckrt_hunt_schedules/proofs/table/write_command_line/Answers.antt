use Rattle.std.proofs.Common.{◌++◌, codes, decimal, subst}
use Rattle.std.proofs.lemmas.Result.{on_ok_weaker}
use Rattle.std.specs.Io.KnownBytes.{Appends}
use Rattle.ckrt_hunt_schedules.specs.Table.{ignored_word, input_text, look_word, seed_text, shape_text}
use Rattle.ckrt_hunt_schedules.proofs.AppendLemmas.{appends_both}
use Rattle.ckrt_hunt_schedules.proofs.table.write_command_line.Goals as goal

-- piece by piece
pub returns : goal.returns
returns g c =
    let has = g.W.Write.contents in
    let a = has c.args.out.now in
    let b = has c.write_all.new.self in
    let d = has c.write_all-2.new.self in
    let e = has c.write_seed.new.out in
    let f = has c.write_shape.new.out in
    let i = has c.write_input.new.out in
    let j = has c.write_look_word.new.out in
    let k = has c.write_ignored_word.new.out in
    let h = has c.write_counted.new.out in
    let z = has c.write_all-3.new.self in
    let program = codes "    ckrt hunt " in
    let image = c.args.asked.now.image.now in
    let seed = seed_text c.args.seed in
    let shape = shape_text c.args.asked.now.shape in
    let input = input_text c.args.asked.now in
    let look = look_word c.args.asked.now.look in
    let ignored = ignored_word c.args.asked.now.shape.ignores_output in
    let name = codes " --keep seed-" ++ decimal c.args.seed in
    let second : Appends b d image = subst (λ text. Appends b d text) c.as_bytes.ensures.value c.in_ok-write_all-2.ensures.bytes in
    on_ok_weaker c.write_all-3.result (λ last.
    appends_both a h z (program ++ image ++ seed ++ shape ++ input ++ look ++ ignored ++ name) (codes ".disk\n")
    (appends_both a k h (program ++ image ++ seed ++ shape ++ input ++ look ++ ignored) name
    (appends_both a j k (program ++ image ++ seed ++ shape ++ input ++ look) ignored
    (appends_both a i j (program ++ image ++ seed ++ shape ++ input) look
    (appends_both a f i (program ++ image ++ seed ++ shape) input
    (appends_both a e f (program ++ image ++ seed) shape
    (appends_both a d e (program ++ image) seed (appends_both a b d program image c.in_ok-write_all.ensures.bytes second) c.in_ok-write_seed.ensures) c.in_ok-write_shape.ensures) c.in_ok-write_input.ensures) c.in_ok-write_look_word.ensures) c.in_ok-write_ignored_word.ensures) c.in_ok-write_counted.ensures) last) c.write_all-3.ensures.bytes

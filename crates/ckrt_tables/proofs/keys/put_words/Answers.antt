use Rattle.std.proofs.Common.{◌<◌, [], length, subst, arith}
use Rattle.std.specs.List.{flat_map}
use Rattle.std.proofs.lemmas.List.{take_all}
use Rattle.ckrt_tables.specs.Records.{key_entry_bytes, words_from}
use Rattle.ckrt_tables.specs.Writing.{IsPut}
use Rattle.ckrt_tables.proofs.Slots.{put_word_next, room_word_next}
use Rattle.ckrt_tables.proofs.keys.put_words.Goals as goal

pub put_word-end-requires : goal.put_word-end-requires
put_word-end-requires c =
    let os = c.args.words.now in
    let within : c.loop-key.key < length os = omega (arith, c.requires.few, c.loop-key-test.true) in
    let room = room_word_next c.args.out.now c.args.at [] os c.loop-key.key c.loop-key.out c.loop-key.end within c.loop-key.invariant c.requires.room in
    omega (arith, room, c.loop-key.auto.out)

pub loop-key-preserved : goal.loop-key-preserved
loop-key-preserved c =
    let os = c.args.words.now in
    let within : c.loop-key.key < length os = omega (arith, c.requires.few, c.loop-key-test.true) in
    put_word_next c.args.out.now c.args.at [] os c.loop-key.key c.loop-key.out c.loop-key.end c.put_word-end.new.out c.put_word-end.result within c.loop-key.invariant c.put_word-end.ensures

pub returns : goal.returns
returns c =
    let whole = take_all c.loop-key.key c.args.words.now (omega (arith, c.requires.few, c.loop-key-test.false)) in
    subst (λ l. IsPut c.args.out.now c.args.at (flat_map key_entry_bytes (words_from 0 l)) c.loop-key.out c.loop-key.end) whole c.loop-key.invariant

use Rattle.std.proofs.Common.{◌≡◌, ◌+◌, ◌-◌, ◌∷◌, [], ◌++◌, length, sym, ap, ◌∙◌, arith, append_assoc, length-append}
use Rattle.ckrt_gdb_playback.specs.Look.{bytes_there}
use Rattle.ckrt_gdb_playback.proofs.WordLemmas.{goes_on}
use Rattle.ckrt_gdb_playback.proofs.memory.memory_bytes.Goals as goal

pub loop-left-preserved : goal.loop-left-preserved
loop-left-preserved c =
    let m = c.args.memory.now.bytes in let here = c.loop-left in let b = c.in-Some.byte in
    let more = bytes_there (c.loop-left.left - 1) (c.loop-left.at + 1) c.args.memory.now.bytes in
    let there = sym c.byte_there.ensures ∙ c.in-Some.is in
    let longer : length c.push.new.self.items ≡ length c.loop-left.out.items + 1 = ap length c.push.ensures.items ∙ length-append c.loop-left.out.items (c.in-Some.byte ∷ []) in
    record {
      so = ap (λ l. l ++ more) c.push.ensures.items ∙ append_assoc here.out.items (b ∷ []) more
          ∙ ap (λ l. here.out.items ++ l) (sym (goes_on here.left here.at m b c.loop-left-test.true there)) ∙ here.invariant.so;
      room = omega (arith, longer, here.invariant.room, c.loop-left-test.true);
      place = omega (arith, here.invariant.place, c.loop-left-test.true);
    }

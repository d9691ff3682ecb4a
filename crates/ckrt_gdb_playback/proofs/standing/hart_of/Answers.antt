use Rattle.std.proofs.Common.{◌≡◌, ◌+◌, ◌<◌, length, suc, drop, sym, ap, ◌∙◌, arith}
use Rattle.ckrt_thread.specs.State.{holds}
use Rattle.ckrt_gdb_playback.specs.Standing.{hart_from}
use Rattle.ckrt_gdb_playback.proofs.WordLemmas.{not_there, there}
use Rattle.ckrt_gdb_playback.proofs.standing.hart_of.Goals as goal

pub loop-hart-preserved : goal.loop-hart-preserved
loop-hart-preserved c =
    let h = c.loop-hart.hart in let hs = c.args.threads.now.harts in let t = c.args.thread in
    let within : c.loop-hart.hart < length c.args.threads.now.harts = omega (arith, c.known.ensures.harts, c.loop-hart-test.true) in
    let off = ap (holds t) (sym c.on_hart.ensures.on) ∙ sym c.is_held.ensures ∙ c.if-is_held.false in
    let next : suc c.loop-hart.hart ≡ c.loop-hart.hart + 1 = omega arith in
    ap (λ n. hart_from n t (drop n hs)) (sym next) ∙ sym (not_there t h h hs within off) ∙ c.loop-hart.invariant

pub returns-then-is_held : goal.returns-then-is_held
returns-then-is_held c =
    let h = c.loop-hart.hart in let hs = c.args.threads.now.harts in let t = c.args.thread in
    let within : c.loop-hart.hart < length c.args.threads.now.harts = omega (arith, c.known.ensures.harts, c.loop-hart-test.true) in
    let is_on = ap (holds t) (sym c.on_hart.ensures.on) ∙ sym c.is_held.ensures ∙ c.if-is_held.true in
    sym (there t h h hs within is_on) ∙ c.loop-hart.invariant

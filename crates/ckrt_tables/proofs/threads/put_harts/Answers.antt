use Rattle.std.proofs.Common.{◌≡◌, ◌<◌, ◌∷◌, [], None, length, get_or, ap, subst, ◌∙◌, arith}
use Rattle.ckrt_tables.specs.Records.{id_or_0, hart_bytes}
use Rattle.ckrt_tables.specs.Writing.{IsPut}
use Rattle.ckrt_tables.proofs.Puts.{room_for, put_one, put_all}
use Rattle.ckrt_tables.proofs.Rows.{at_place}
use Rattle.ckrt_tables.proofs.threads.put_harts.Goals as goal

pub put-end-requires : goal.put-end-requires
put-end-requires c =
    let hs = c.args.threads.now.harts in
    let room = room_for c.args.out.now c.args.at [] hart_bytes hs c.loop-hart.hart None c.loop-hart.out c.loop-hart.end (omega (arith, c.known.ensures.harts, c.loop-hart-test.true)) c.loop-hart.invariant c.requires in
    omega (arith, room, c.loop-hart.auto.out)

pub loop-hart-preserved : goal.loop-hart-preserved
loop-hart-preserved c =
    let hs = c.args.threads.now.harts in
    let within : c.loop-hart.hart < length hs = omega (arith, c.known.ensures.harts, c.loop-hart-test.true) in
    let same : c.id_or_0.result ≡ id_or_0 (get_or hs c.loop-hart.hart None) = c.id_or_0.ensures ∙ ap id_or_0 (c.on_hart.ensures.on ∙ at_place hs c.loop-hart.hart within) in
    put_one c.args.out.now c.args.at [] hart_bytes hs c.loop-hart.hart None c.loop-hart.out c.loop-hart.end c.put-end.new.out c.put-end.result within c.loop-hart.invariant
    (subst (λ b. IsPut c.loop-hart.out c.loop-hart.end (b ∷ []) c.put-end.new.out c.put-end.result) same c.put-end.ensures)

pub returns : goal.returns
returns c = put_all c.args.out.now c.args.at [] hart_bytes c.args.threads.now.harts c.loop-hart.hart c.loop-hart.out c.loop-hart.end (omega (arith, c.known.ensures.harts, c.loop-hart-test.false)) c.loop-hart.invariant

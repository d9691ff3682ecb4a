use Rattle.std.proofs.Common.{◌≡◌, ◌≤◌, ◌<◌, ◌+◌, ◌-◌, ◌++◌, ap, ◌∙◌, arith}
use Rattle.ckrt_gdb_history.specs.Search.{seen_from}
use Rattle.ckrt_gdb_history.specs.Stops.{width}
use Rattle.ckrt_gdb_history.proofs.SeenLemmas.{room_to_see, sees_on}
use Rattle.ckrt_gdb_history.proofs.reason.see_range.Goals as goal

pub see_byte-requires : goal.see_byte-requires
see_byte-requires c =
    let w = c.args.watch.now in let a = c.loop-address.address in
    let least : w.first ≤ a = omega (arith, c.from-address.ensures, c.loop-address.auto.address) in
    let most : a < w.last + 1 = omega (arith, c.from-address-end.ensures, c.loop-address-test.true) in
    room_to_see w.first a w.last c.args.bytes.now c.args.seen.now.items c.loop-address.seen.items least most c.requires c.loop-address.invariant.so

pub loop-address-preserved : goal.loop-address-preserved
loop-address-preserved c =
    let w = c.args.watch.now in let a = c.loop-address.address in
    let least : w.first ≤ a = omega (arith, c.from-address.ensures, c.loop-address.auto.address) in
    let most : a < w.last + 1 = omega (arith, c.from-address-end.ensures, c.loop-address-test.true) in
    record {
      so = sees_on w.first a c.args.bytes.now c.args.seen.now.items c.loop-address.seen.items c.see_byte.new.seen.items least c.loop-address.invariant.so c.see_byte.ensures;
      within = omega (arith, least, most);
    }

pub returns : goal.returns
returns c =
    let w = c.args.watch.now in let a = c.loop-address.address in
    let within = c.loop-address.invariant.within in
    let over : w.last + 1 ≤ a = omega (arith, c.from-address-end.ensures, c.loop-address-test.false) in
    let all : a - w.first ≡ width w = omega (arith, within, over) in
    c.loop-address.invariant.so ∙ ap (λ n. c.args.seen.now.items ++ seen_from n w.first c.args.bytes.now) all

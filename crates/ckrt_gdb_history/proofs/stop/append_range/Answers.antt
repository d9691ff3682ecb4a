use Rattle.std.proofs.Common.{◌≡◌, ◌≤◌, ◌<◌, ◌+◌, ◌-◌, ◌++◌, ap, ◌∙◌, arith}
use Rattle.ckrt_gdb_history.specs.Stops.{bytes_from, width}
use Rattle.ckrt_gdb_history.proofs.WatchLemmas.{goes_on, has_room}
use Rattle.ckrt_gdb_history.proofs.stop.append_range.Goals as goal

pub append_byte-requires : goal.append_byte-requires
append_byte-requires c =
    let w = c.args.watch.now in let a = c.loop-address.address in
    let least : w.first ≤ a = omega (arith, c.from-address.ensures, c.loop-address.auto.address) in
    let most : a < w.last + 1 = omega (arith, c.from-address-end.ensures, c.loop-address-test.true) in
    has_room w.first a w.last c.args.memory.now.bytes c.args.bytes.now.items c.loop-address.bytes.items least most c.requires c.loop-address.invariant.so

pub loop-address-preserved : goal.loop-address-preserved
loop-address-preserved c =
    let w = c.args.watch.now in let a = c.loop-address.address in
    let least : w.first ≤ a = omega (arith, c.from-address.ensures, c.loop-address.auto.address) in
    let most : a < w.last + 1 = omega (arith, c.from-address-end.ensures, c.loop-address-test.true) in
    record {
      so = goes_on w.first a c.args.memory.now.bytes c.args.bytes.now.items c.loop-address.bytes.items c.append_byte.new.bytes.items least c.loop-address.invariant.so c.append_byte.ensures;
      within = omega (arith, least, most);
    }

pub returns : goal.returns
returns c =
    let w = c.args.watch.now in let a = c.loop-address.address in
    let within = c.loop-address.invariant.within in
    let over : w.last + 1 ≤ a = omega (arith, c.from-address-end.ensures, c.loop-address-test.false) in
    let all : a - w.first ≡ width w = omega (arith, within, over) in
    c.loop-address.invariant.so ∙ ap (λ n. c.args.bytes.now.items ++ bytes_from n w.first c.args.memory.now.bytes) all

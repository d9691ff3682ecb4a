use Rattle.std.proofs.Common.{◌≤◌, ◌<◌, length, arith}
use Rattle.std.proofs.lemmas.Bool.Decides.{nat_tests}
use Rattle.ckrt_objects.specs.AddressMap.{place_in}
use Rattle.ckrt_objects.proofs.Appended.{refuses_full, refuses_lower, appends_higher}
use Rattle.ckrt_objects.proofs.address_map.append.Goals as goal
use Rattle.ckrt_objects.proofs.address_map.append.Goals.{then-is_full-via-then-is_full, then-is_full-via-else-is_full+then-place_of-len}

pub returns-then-is_full : goal.returns-then-is_full
returns-then-is_full g c =
    let es = c.args.entries.now.items in
    elim c.then-is_full.branch [
      | then-is_full-via-then-is_full w ↦
          let full : g.row.N ≤ length es = grind (arith, nat_tests, c.is_full.ensures.value, w.if-is_full.true) in
          refuses_full g.row.N c.args.entry es full
      | then-is_full-via-else-is_full+then-place_of-len w ↦
          let place = rw w.as_slice.ensures.value at w.place_of.ensures.place in
          let lower : place_in c.args.entry.address es < length es = omega (arith, place, w.len.ensures.value, w.if-place_of-len.true) in
          refuses_lower g.row.N c.args.entry es lower
    ]

pub returns : goal.returns
returns g c =
    let es = c.args.entries.now.items in
    let place = rw c.as_slice.ensures.value at c.place_of.ensures.place in
    let within = rw c.as_slice.ensures.value at c.place_of.ensures.within in
    let room : length es < g.row.N = grind (arith, nat_tests, c.is_full.ensures.value, c.is_full.ensures.fits, c.if-is_full.false) in
    let higher : length es ≤ place_in c.args.entry.address es = omega (arith, place, c.len.ensures.value, c.if-place_of-len.false) in
    let last : place_in c.args.entry.address es ≤ length es = omega (arith, place, within) in
    appends_higher g.row.N c.args.entry es _ c.requires room higher last c.push.ensures.items

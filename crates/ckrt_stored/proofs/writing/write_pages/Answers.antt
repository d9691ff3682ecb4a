use Rattle.std.proofs.Common.{◌+◌, ◌-◌, false, true, is_err, ⊎_elim, arith, subst}
use Rattle.ckrt_disk.specs.Frame.{WritesWithin}
use Rattle.ckrt_disk.proofs.FrameLemmas.{failed_within, untouched}
use Rattle.ckrt_stored.specs.Write.{PagesAt, dirty_pages}
use Rattle.ckrt_stored.proofs.WriteLemmas.{count_same, pages_on, pages_stand, stand_same}
use Rattle.ckrt_stored.proofs.writing.write_pages.Goals as goal

pub loop-page-init : goal.loop-page-init
loop-page-init g c =
    let d = g.D.Disk in let config = c.args.config.now in let area = c.args.area in let m = c.args.memory.now in let p = c.next_dirty-page.result in let next = c.next_dirty-page.ensures in
    record {
      started = next.range.0;
      inside = next.range.1;
      dirty = next.dirty;
      within = subst (λ n. WritesWithin d (PagesAt config area) n c.args.disk.now c.args.disk.now false) (count_same area 0 (p - 1) m (omega arith) (λ q from to. next.clean q (omega (arith, from)) (omega (arith, from, to))))
          (untouched d (PagesAt config area) c.args.disk.now);
      written = λ honest clean q some inside which. clean q some inside (⊎_elim (λ lt. next.clean q some lt) (λ is. is) which);
    }

pub returns-in_err-write_page-clause-within : goal.returns-in_err-write_page-clause-within
returns-in_err-write_page-clause-within g c =
    let d = g.D.Disk in let config = c.args.config.now in let area = c.args.area in let m = c.args.memory.now in let p = c.loop-page.page in
    let new = c.write_page.new.disk in let before = c.loop-page.invariant in
    failed_within d (PagesAt config area) _ (dirty_pages config area m) c.args.disk.now new (is_err c.from_residual.result) c.from_residual.ensures.0
    (pages_on d config area p (p + 1) m c.args.disk.now c.loop-page.disk new true before.started c.loop-page-test.true (before.dirty c.loop-page-test.true) (omega arith) (λ r from to. absurd (omega (arith, from, to))) before.within c.in_err-write_page.ensures.within)

pub loop-page-preserved : goal.loop-page-preserved
loop-page-preserved g c =
    let d = g.D.Disk in let config = c.args.config.now in let area = c.args.area in let m = c.args.memory.now in let p = c.loop-page.page in
    let mid = c.loop-page.disk in let new = c.write_page.new.disk in let before = c.loop-page.invariant in
    let q = c.next_dirty-page-in-loop-page.result in let next = c.next_dirty-page-in-loop-page.ensures in
    record {
      started = omega (arith, next.range);
      inside = next.range.1;
      dirty = next.dirty;
      within = pages_on d config area p q m c.args.disk.now mid new false before.started c.loop-page-test.true (before.dirty c.loop-page-test.true) (omega (arith, next.range)) next.clean before.within c.in_ok-write_page.ensures.within;
      written = λ honest clean.
          let whole = c.in_ok-write_page.ensures.within.same.honest honest in
          stand_same config area (p + 1) q m (d.content new) next.clean
          (pages_stand d config area p m mid new honest before.started c.loop-page-test.true c.in_ok-write_page.ensures.within (c.in_ok-write_page.ensures.written honest) (before.written whole clean));
    }

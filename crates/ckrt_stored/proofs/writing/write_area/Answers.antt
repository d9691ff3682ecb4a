use Rattle.std.proofs.Common.{◌≡◌, ◌≤◌, ◌+◌, Bool, true, false, length, [], ◌∷◌, Result, Ok, ◌∙◌, ap, subst, arith, rules}
use Rattle.ckrt_disk.specs.Frame.{WritesWithin}
use Rattle.ckrt_disk.specs.declared.disk.DeviceFault.{DeviceFault}
use Rattle.ckrt_disk.proofs.FrameLemmas.{untouched}
use Rattle.ckrt_disk.proofs.Images.{written_there}
use Rattle.ckrt_stored.specs.Answers.{is_device}
use Rattle.ckrt_stored.specs.Layout.{is_gate_open}
use Rattle.ckrt_stored.specs.Write.{WritesAt, calls_of_closing, dirty_pages, next_header, other_area}
use Rattle.ckrt_stored.proofs.SavePointLemmas.{clean_there, closing_calls, failed_write, filling, gate_closed, has_saved, opening, then_filled, then_opened}
use Rattle.ckrt_stored.proofs.WriteLemmas.{area_within}
use Rattle.ckrt_stored.proofs.writing.write_area.Goals as goal

abbrev ok : Bool → Result Bool DeviceFault
ok b = Ok b

-- THE CALLS

pub returns-then-point-clause-write : goal.returns-then-point-clause-write
returns-then-point-clause-write g c = record {
  was_open = false;
  read = λ honest. tt;
  within = untouched g.D.Disk (WritesAt c.args.config.now (other_area c.args.point.now)) c.args.disk.now;
}

pub returns-in_err-close_gate-clause-write : goal.returns-in_err-close_gate-clause-write
returns-in_err-close_gate-clause-write g c =
    let d = g.D.Disk in let config = c.args.config.now in let area = other_area c.args.point.now in let m = c.args.memory.now in
    let failed : is_device c.from_residual.result ≡ true = search rules in
    failed_write d config area 0 m c.args.disk.now c.close_gate.new.disk c.from_residual.result failed
    (gate_closed d config area c.area_at-gate_at.result c.area_at-gate_at.ensures 0 c.args.disk.now c.close_gate.new.disk true c.in_err-close_gate.ensures.within)

pub returns-in_err-fill-clause-write : goal.returns-in_err-fill-clause-write
returns-in_err-fill-clause-write g c =
    let d = g.D.Disk in let config = c.args.config.now in let area = other_area c.args.point.now in let m = c.args.memory.now in
    let failed : is_device c.from_residual-in_err-fill.result ≡ true = search rules in
    failed_write d config area _ m c.args.disk.now c.fill.new.disk c.from_residual-in_err-fill.result failed
    (then_filled d config area c.area_at-gate_at.result c.area_at-gate_at.ensures _ (dirty_pages config area m + 4) c.args.disk.now c.close_gate.new.disk c.fill.new.disk true c.in_ok-close_gate.ensures.within c.in_err-fill.ensures.within)

pub returns-in_err-open_gate-clause-write : goal.returns-in_err-open_gate-clause-write
returns-in_err-open_gate-clause-write g c =
    let d = g.D.Disk in let config = c.args.config.now in let area = other_area c.args.point.now in let m = c.args.memory.now in
    let failed : is_device c.from_residual-in_err-open_gate.result ≡ true = search rules in
    failed_write d config area _ m c.args.disk.now c.open_gate.new.disk c.from_residual-in_err-open_gate.result failed
    (then_opened d config area c.area_at-gate_at.result c.area_at-gate_at.ensures _ (dirty_pages config area m + 4) c.args.disk.now c.close_gate.new.disk c.fill.new.disk c.open_gate.new.disk true c.in_ok-close_gate.ensures.within c.in_ok-fill.ensures.within c.in_err-open_gate.ensures.within)

pub returns-clause-write : goal.returns-clause-write
returns-clause-write g c =
    let d = g.D.Disk in let config = c.args.config.now in let area = other_area c.args.point.now in let m = c.args.memory.now in
    let was_open : Bool = c.in_ok-close_gate.field-0 in
    record {
      was_open = was_open;
      read = λ honest.
          let mid = c.fill.ensures.within.same.honest (c.open_gate.ensures.within.same.honest honest) in
          c.in_ok-close_gate.ensures.read mid ∙ ap (λ n. is_gate_open n (d.content c.args.disk.now)) c.area_at-gate_at.ensures;
      within = subst (λ n. WritesWithin d (WritesAt config area) n c.args.disk.now c.open_gate.new.disk false) (closing_calls was_open (dirty_pages config area m))
          (then_opened d config area c.area_at-gate_at.result c.area_at-gate_at.ensures (calls_of_closing (ok was_open)) (dirty_pages config area m + 4) c.args.disk.now c.close_gate.new.disk c.fill.new.disk c.open_gate.new.disk false c.in_ok-close_gate.ensures.within c.in_ok-fill.ensures.within c.in_ok-open_gate.ensures.within);
    }

-- MOMENTS

pub returns-in_err-fill-clause-any_moment : goal.returns-in_err-fill-clause-any_moment
returns-in_err-fill-clause-any_moment g c = λ durable honest.
    let d = g.D.Disk in let config = c.args.config.now in let point = c.args.point.now in let area = other_area point in let m = c.args.memory.now in
    let mid = c.fill.ensures.within.same.honest honest in
    filling d config (other_area point) c.area_at-gate_at.result (next_header point c.args.tables.now) c.args.tables.now m.bytes (omega arith) c.area_at-gate_at.ensures
    _ (dirty_pages config area m + 4) c.args.disk.now c.close_gate.new.disk c.fill.new.disk true mid honest (c.in_ok-close_gate.ensures.durable mid durable) (c.in_ok-close_gate.ensures.closed mid)
    (c.in_ok-close_gate.ensures.any_moment durable mid) c.in_ok-close_gate.ensures.within c.in_err-fill.ensures.within

pub returns-in_err-open_gate-clause-any_moment : goal.returns-in_err-open_gate-clause-any_moment
returns-in_err-open_gate-clause-any_moment g c = λ durable honest.
    let d = g.D.Disk in let config = c.args.config.now in let point = c.args.point.now in let area = other_area point in let m = c.args.memory.now in
    let full = c.open_gate.ensures.within.same.honest honest in let mid = c.fill.ensures.within.same.honest full in
    opening d config (other_area point) c.area_at-gate_at.result (next_header point c.args.tables.now) c.args.tables.now m.bytes (omega arith) c.area_at-gate_at.ensures
    _ (dirty_pages config area m + 4) c.args.disk.now c.close_gate.new.disk c.fill.new.disk c.open_gate.new.disk true mid full honest c.in_ok-close_gate.ensures.within c.in_ok-fill.ensures.within (c.in_ok-fill.ensures.filled full (clean_there d config area m _ c.args.disk.now c.close_gate.new.disk c.area_at-gate_at.result c.area_at-gate_at.ensures mid c.in_ok-close_gate.ensures.within (c.requires.clean (c.close_gate.ensures.within.same.honest mid))))
    (c.in_ok-close_gate.ensures.durable mid durable) (c.in_ok-close_gate.ensures.closed mid) (c.in_ok-close_gate.ensures.any_moment durable mid) (c.in_ok-fill.ensures.durable full) c.in_err-open_gate.ensures.within

pub returns-clause-any_moment : goal.returns-clause-any_moment
returns-clause-any_moment g c = λ durable honest.
    let d = g.D.Disk in let config = c.args.config.now in let point = c.args.point.now in let area = other_area point in let m = c.args.memory.now in
    let full = c.open_gate.ensures.within.same.honest honest in let mid = c.fill.ensures.within.same.honest full in
    opening d config (other_area point) c.area_at-gate_at.result (next_header point c.args.tables.now) c.args.tables.now m.bytes (omega arith) c.area_at-gate_at.ensures
    _ (dirty_pages config area m + 4) c.args.disk.now c.close_gate.new.disk c.fill.new.disk c.open_gate.new.disk false mid full honest c.in_ok-close_gate.ensures.within c.in_ok-fill.ensures.within (c.in_ok-fill.ensures.filled full (clean_there d config area m _ c.args.disk.now c.close_gate.new.disk c.area_at-gate_at.result c.area_at-gate_at.ensures mid c.in_ok-close_gate.ensures.within (c.requires.clean (c.close_gate.ensures.within.same.honest mid))))
    (c.in_ok-close_gate.ensures.durable mid durable) (c.in_ok-close_gate.ensures.closed mid) (c.in_ok-close_gate.ensures.any_moment durable mid) (c.in_ok-fill.ensures.durable full) c.in_ok-open_gate.ensures.within

pub returns-clause-saved : goal.returns-clause-saved
returns-clause-saved g c = λ honest.
    let d = g.D.Disk in let config = c.args.config.now in let point = c.args.point.now in let area = other_area point in let m = c.args.memory.now in
    let full = c.open_gate.ensures.within.same.honest honest in let mid = c.fill.ensures.within.same.honest full in
    let end = area_within config (other_area point) (omega arith) in
    let inside : c.area_at-gate_at.result + 1 ≤ length (d.content c.fill.new.disk) =
    omega (arith, end, c.area_at-gate_at.ensures, c.requires.room, c.close_gate.ensures.within.same.size, c.fill.ensures.within.same.size, g.met.D.Disk.whole c.fill.new.disk full) in
    has_saved d config (other_area point) c.area_at-gate_at.result (next_header point c.args.tables.now) c.args.tables.now m.bytes (omega arith) c.area_at-gate_at.ensures
    _ (dirty_pages config area m + 4) c.args.disk.now c.close_gate.new.disk c.fill.new.disk c.open_gate.new.disk false mid full honest c.in_ok-close_gate.ensures.within c.in_ok-fill.ensures.within (c.in_ok-fill.ensures.filled full (clean_there d config area m _ c.args.disk.now c.close_gate.new.disk c.area_at-gate_at.result c.area_at-gate_at.ensures mid c.in_ok-close_gate.ensures.within (c.requires.clean (c.close_gate.ensures.within.same.honest mid))))
    (written_there (d.content c.fill.new.disk) c.area_at-gate_at.result (165 ∷ []) (d.content c.open_gate.new.disk) (c.in_ok-open_gate.ensures.written honest) inside) c.in_ok-open_gate.ensures.within

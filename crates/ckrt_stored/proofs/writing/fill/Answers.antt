use Rattle.std.proofs.Common.{◌≡◌, ◌+◌, true, false, length, is_err, ◌∙◌, ap, subst, arith}
use Rattle.ckrt_disk.specs.Frame.{WritesWithin}
use Rattle.ckrt_disk.proofs.FrameLemmas.{failed_within}
use Rattle.ckrt_stored.specs.Layout.{memory_at, memory_size}
use Rattle.ckrt_stored.specs.Write.{FillsAt, dirty_pages}
use Rattle.ckrt_stored.proofs.WriteLemmas.{first_gate, is_filled, on_ok_with, part_on, some_pages}
use Rattle.ckrt_stored.proofs.writing.fill.Goals as goal

pub returns-in_err-write_part-clause-within : goal.returns-in_err-write_part-clause-within
returns-in_err-write_part-clause-within g c =
    let d = g.D.Disk in let config = c.args.config.now in let area = c.args.area in let m = c.args.memory.now in let s₀ = c.args.disk.now in let s₁ = c.write_part.new.disk in
    failed_within d (FillsAt config area) 1 (dirty_pages config area m + 4) s₀ s₁ (is_err c.from_residual.result) c.from_residual.ensures.0
    (first_gate d config area c.journal_at.result s₀ s₁ true c.journal_at.ensures c.in_err-write_part.ensures.within)

pub returns-in_err-write_part-2-clause-within : goal.returns-in_err-write_part-2-clause-within
returns-in_err-write_part-2-clause-within g c =
    let d = g.D.Disk in let config = c.args.config.now in let area = c.args.area in let m = c.args.memory.now in let s₀ = c.args.disk.now in let s₁ = c.write_part.new.disk in
    let s₂ = c.write_part-2.new.disk in
    failed_within d (FillsAt config area) 2 (dirty_pages config area m + 4) s₀ s₂ (is_err c.from_residual-in_err-write_part-2.result) c.from_residual-in_err-write_part-2.ensures.0
    (part_on d config area 1 1 c.tables_at.result (length c.args.tables.now) s₀ s₁ s₂ true (omega (arith, c.tables_at.ensures)) (omega (arith, c.tables_at.ensures, c.requires.tables))
    (first_gate d config area c.journal_at.result s₀ s₁ false c.journal_at.ensures c.in_ok-write_part.ensures.within)
    c.in_err-write_part-2.ensures.within)

pub returns-in_err-write_pages-clause-within : goal.returns-in_err-write_pages-clause-within
returns-in_err-write_pages-clause-within g c =
    let d = g.D.Disk in let config = c.args.config.now in let area = c.args.area in let m = c.args.memory.now in let s₀ = c.args.disk.now in let s₁ = c.write_part.new.disk in
    let s₂ = c.write_part-2.new.disk in let s₃ = c.write_pages.new.disk in
    failed_within d (FillsAt config area) (2 + (dirty_pages config area m)) (dirty_pages config area m + 4) s₀ s₃ (is_err c.from_residual-in_err-write_pages.result) c.from_residual-in_err-write_pages.ensures.0
    (part_on d config area 2 (dirty_pages config area m) (memory_at config area) (memory_size config) s₀ s₂ s₃ true (omega arith) (omega (arith, (some_pages config c.requires.valid).0))
    (part_on d config area 1 1 c.tables_at.result (length c.args.tables.now) s₀ s₁ s₂ false (omega (arith, c.tables_at.ensures)) (omega (arith, c.tables_at.ensures, c.requires.tables))
    (first_gate d config area c.journal_at.result s₀ s₁ false c.journal_at.ensures c.in_ok-write_part.ensures.within)
    c.in_ok-write_part-2.ensures.within)
    c.in_err-write_pages.ensures.within)

pub returns-clause-within : goal.returns-clause-within
returns-clause-within g c =
    let d = g.D.Disk in let config = c.args.config.now in let area = c.args.area in let m = c.args.memory.now in let s₀ = c.args.disk.now in let s₁ = c.write_part.new.disk in
    let s₂ = c.write_part-2.new.disk in let s₃ = c.write_pages.new.disk in let s₄ = c.write_synced.new.disk in
    let some = some_pages config c.requires.valid in
    let long : length c.as_slice.result.now ≡ 32 = ap length (c.as_slice.ensures.value ∙ c.header_fields-fields.ensures) in
    let count : 2 + dirty_pages config area m + 2 ≡ dirty_pages config area m + 4 = omega arith in
    subst (λ n. WritesWithin d (FillsAt config area) n s₀ s₄ (is_err c.write_synced.result)) count
    (part_on d config area (2 + (dirty_pages config area m)) 2 (c.area_at.result + 8) (length c.as_slice.result.now) s₀ s₃ s₄ (is_err c.write_synced.result) (omega (arith, c.area_at.ensures)) (omega (arith, c.area_at.ensures, long))
    (part_on d config area 2 (dirty_pages config area m) (memory_at config area) (memory_size config) s₀ s₂ s₃ false (omega arith) (omega (arith, some.0))
    (part_on d config area 1 1 c.tables_at.result (length c.args.tables.now) s₀ s₁ s₂ false (omega (arith, c.tables_at.ensures)) (omega (arith, c.tables_at.ensures, c.requires.tables))
    (first_gate d config area c.journal_at.result s₀ s₁ false c.journal_at.ensures c.in_ok-write_part.ensures.within)
    c.in_ok-write_part-2.ensures.within)
    c.in_ok-write_pages.ensures.within)
    c.write_synced.ensures.within)

pub returns-clause-filled : goal.returns-clause-filled
returns-clause-filled g c = on_ok_with c.write_synced.result c.write_synced.ensures.written c.write_synced.ensures.within (λ written within honest clean.
    let d = g.D.Disk in let config = c.args.config.now in let area = c.args.area in let some = some_pages config c.requires.valid in
    let is_fields = c.as_slice.ensures.value ∙ c.header_fields-fields.ensures in
    is_filled d config area c.args.header.now c.args.tables.now c.args.memory.now (dirty_pages config area c.args.memory.now) c.journal_at.result c.tables_at.result (c.area_at.result + 8) c.as_slice.result.now
    c.args.disk.now c.write_part.new.disk c.write_part-2.new.disk c.write_pages.new.disk c.write_synced.new.disk
    c.requires.area some.0 some.1 c.requires.tables c.journal_at.ensures c.tables_at.ensures (ap (λ n. n + 8) c.area_at.ensures) is_fields (ap length is_fields)
    (λ before. omega (arith, c.requires.room, g.met.D.Disk.whole c.args.disk.now before)) honest
    c.in_ok-write_part.ensures.within c.in_ok-write_part.ensures.written
    c.in_ok-write_part-2.ensures.within c.in_ok-write_part-2.ensures.written
    c.in_ok-write_pages.ensures.within c.in_ok-write_pages.ensures.written
    within written clean)

use Rattle.std.proofs.Common.{◌≡◌, ◌≤◌, ◌+◌, ℕ, true, false, List, [], ◌∷◌, length, is_err, ◌∙◌, ap, subst, arith}
use Rattle.std.proofs.lemmas.Result.{on_ok_weaker}
use Rattle.ckrt_disk.specs.Disk.{IsOverwritten}
use Rattle.ckrt_disk.proofs.FrameLemmas.{failed_within}
use Rattle.ckrt_tables.specs.Fresh.{fresh_bytes}
use Rattle.ckrt_stored.specs.AreaFields.{header_fields}
use Rattle.ckrt_stored.specs.Layout.{size_needed}
use Rattle.ckrt_stored.specs.Fields.{fresh_header}
use Rattle.ckrt_stored.specs.Format.{FormatsBehindGate}
use Rattle.ckrt_stored.proofs.FormatLemmas.{fresh_area, first_part, next_part}
use Rattle.ckrt_stored.proofs.formatting.write_area.Goals as goal

pub returns-in_err-write_part-clause-within : goal.returns-in_err-write_part-clause-within
returns-in_err-write_part-clause-within g c =
    let d = g.D.Disk in let config = c.args.config.now in let s₀ = c.args.disk.now in let s₁ = c.write_part.new.disk in
    failed_within d (FormatsBehindGate config) 1 4 s₀ s₁ (is_err c.from_residual.result) c.from_residual.ensures.0
    (first_part d config c.area_at.result 1 s₀ s₁ true (omega (arith, c.area_at.ensures)) (omega (arith, c.area_at.ensures)) c.in_err-write_part.ensures.within)

pub returns-in_err-write_part-2-clause-within : goal.returns-in_err-write_part-2-clause-within
returns-in_err-write_part-2-clause-within g c =
    let d = g.D.Disk in let config = c.args.config.now in let s₀ = c.args.disk.now in let s₁ = c.write_part.new.disk in
    let s₂ = c.write_part-2.new.disk in let fields : length c.as_slice.result.now ≡ 32 = ap length (c.as_slice.ensures.value ∙ c.header_fields-header.ensures) in
    failed_within d (FormatsBehindGate config) 2 4 s₀ s₂ (is_err c.from_residual-in_err-write_part-2.result) c.from_residual-in_err-write_part-2.ensures.0
    (next_part d config 1 (c.area_at-2.result + 8) (length c.as_slice.result.now) s₀ s₁ s₂ true (omega (arith, c.area_at-2.ensures)) (omega (arith, c.area_at-2.ensures, fields))
    (first_part d config c.area_at.result 1 s₀ s₁ false (omega (arith, c.area_at.ensures)) (omega (arith, c.area_at.ensures)) c.in_ok-write_part.ensures.within)
    c.in_err-write_part-2.ensures.within)

pub returns-in_err-write_part-3-clause-within : goal.returns-in_err-write_part-3-clause-within
returns-in_err-write_part-3-clause-within g c =
    let d = g.D.Disk in let config = c.args.config.now in let s₀ = c.args.disk.now in let s₁ = c.write_part.new.disk in
    let s₂ = c.write_part-2.new.disk in let fields : length c.as_slice.result.now ≡ 32 = ap length (c.as_slice.ensures.value ∙ c.header_fields-header.ensures) in
    let s₃ = c.write_part-3.new.disk in let tables : length c.as_slice-2.result.now ≡ 176 = ap length (c.as_slice-2.ensures.value ∙ c.fresh_tables-tables.ensures) in
    failed_within d (FormatsBehindGate config) 3 4 s₀ s₃ (is_err c.from_residual-in_err-write_part-3.result) c.from_residual-in_err-write_part-3.ensures.0
    (next_part d config 2 c.tables_at.result (length c.as_slice-2.result.now) s₀ s₂ s₃ true (omega (arith, c.tables_at.ensures)) (omega (arith, c.tables_at.ensures, tables))
    (next_part d config 1 (c.area_at-2.result + 8) (length c.as_slice.result.now) s₀ s₁ s₂ false (omega (arith, c.area_at-2.ensures)) (omega (arith, c.area_at-2.ensures, fields))
    (first_part d config c.area_at.result 1 s₀ s₁ false (omega (arith, c.area_at.ensures)) (omega (arith, c.area_at.ensures)) c.in_ok-write_part.ensures.within)
    c.in_ok-write_part-2.ensures.within)
    c.in_err-write_part-3.ensures.within)

pub returns-clause-within : goal.returns-clause-within
returns-clause-within g c =
    let d = g.D.Disk in let config = c.args.config.now in let s₀ = c.args.disk.now in let s₁ = c.write_part.new.disk in
    let s₂ = c.write_part-2.new.disk in let fields : length c.as_slice.result.now ≡ 32 = ap length (c.as_slice.ensures.value ∙ c.header_fields-header.ensures) in
    let s₃ = c.write_part-3.new.disk in let tables : length c.as_slice-2.result.now ≡ 176 = ap length (c.as_slice-2.ensures.value ∙ c.fresh_tables-tables.ensures) in
    let s₄ = c.write_part-4.new.disk in
    next_part d config 3 c.memory_at.result (length c.args.memory.now) s₀ s₃ s₄ (is_err c.write_part-4.result) (omega (arith, c.memory_at.ensures)) (omega (arith, c.memory_at.ensures, c.requires.memory))
    (next_part d config 2 c.tables_at.result (length c.as_slice-2.result.now) s₀ s₂ s₃ false (omega (arith, c.tables_at.ensures)) (omega (arith, c.tables_at.ensures, tables))
    (next_part d config 1 (c.area_at-2.result + 8) (length c.as_slice.result.now) s₀ s₁ s₂ false (omega (arith, c.area_at-2.ensures)) (omega (arith, c.area_at-2.ensures, fields))
    (first_part d config c.area_at.result 1 s₀ s₁ false (omega (arith, c.area_at.ensures)) (omega (arith, c.area_at.ensures)) c.in_ok-write_part.ensures.within)
    c.in_ok-write_part-2.ensures.within)
    c.in_ok-write_part-3.ensures.within)
    c.write_part-4.ensures.within

pub returns-clause-written : goal.returns-clause-written
returns-clause-written g c = on_ok_weaker c.write_part-4.result (λ last honest₄.
    let d = g.D.Disk in let config = c.args.config.now in
    let honest₃ : d.is_honest c.write_part-3.new.disk = c.write_part-4.ensures.within.same.honest honest₄ in
    let honest₂ : d.is_honest c.write_part-2.new.disk = c.write_part-3.ensures.within.same.honest honest₃ in
    let honest₁ : d.is_honest c.write_part.new.disk = c.write_part-2.ensures.within.same.honest honest₂ in
    let honest₀ : d.is_honest c.args.disk.now = c.write_part.ensures.within.same.honest honest₁ in
    let room : size_needed config ≤ length (d.content c.args.disk.now) = omega (arith, c.requires.room, g.met.D.Disk.whole c.args.disk.now honest₀) in
    fresh_area config c.args.memory.now _ _ _ _ _ room c.requires.memory
    (subst (λ at. IsOverwritten (d.content c.args.disk.now) at (165 ∷ []) (d.content c.write_part.new.disk)) c.area_at.ensures (c.in_ok-write_part.ensures.written honest₁))
    (subst (λ at. IsOverwritten (d.content c.write_part.new.disk) (at + 8) (header_fields fresh_header) (d.content c.write_part-2.new.disk)) c.area_at-2.ensures
    (subst (λ (l : List ℕ). IsOverwritten (d.content c.write_part.new.disk) (c.area_at-2.result + 8) l (d.content c.write_part-2.new.disk)) (c.as_slice.ensures.value ∙ c.header_fields-header.ensures) (c.in_ok-write_part-2.ensures.written honest₂)))
    (subst (λ at. IsOverwritten (d.content c.write_part-2.new.disk) at (fresh_bytes config.pages) (d.content c.write_part-3.new.disk)) c.tables_at.ensures
    (subst (λ (l : List ℕ). IsOverwritten (d.content c.write_part-2.new.disk) c.tables_at.result l (d.content c.write_part-3.new.disk)) (c.as_slice-2.ensures.value ∙ c.fresh_tables-tables.ensures) (c.in_ok-write_part-3.ensures.written honest₃)))
    (subst (λ at. IsOverwritten (d.content c.write_part-3.new.disk) at c.args.memory.now (d.content c.write_part-4.new.disk)) c.memory_at.ensures (last honest₄))) c.write_part-4.ensures.written

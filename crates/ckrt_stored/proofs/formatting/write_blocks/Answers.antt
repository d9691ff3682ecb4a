use Rattle.std.proofs.Common.{◌≡◌, ◌≤◌, ℕ, true, false, List, [], ◌∷◌, length, is_err, ◌∙◌, ap, subst, arith}
use Rattle.std.proofs.lemmas.Result.{on_ok_weaker}
use Rattle.ckrt_disk.specs.Disk.{IsOverwritten}
use Rattle.ckrt_disk.proofs.FrameLemmas.{failed_within}
use Rattle.ckrt_stored.specs.Layout.{size_needed}
use Rattle.ckrt_stored.specs.Format.{FormatsBehindGate}
use Rattle.ckrt_stored.proofs.FormatLemmas.{fields_length, is_fresh, some_pages, first_part, next_part}
use Rattle.ckrt_stored.proofs.formatting.write_blocks.Goals as goal

pub returns-in_err-write_part-clause-within : goal.returns-in_err-write_part-clause-within
returns-in_err-write_part-clause-within g c =
    let d = g.D.Disk in let config = c.args.config.now in let s₀ = c.args.disk.now in let s₁ = c.write_part.new.disk in
    let some = some_pages config c.requires.valid in
    failed_within d (FormatsBehindGate config) 1 3 s₀ s₁ (is_err c.from_residual.result) c.from_residual.ensures.0
    (first_part d config c.journal_at.result 1 s₀ s₁ true (omega (arith, c.journal_at.ensures, some.1)) (omega (arith, c.journal_at.ensures, some.1)) c.in_err-write_part.ensures.within)

pub returns-in_err-write_part-2-clause-within : goal.returns-in_err-write_part-2-clause-within
returns-in_err-write_part-2-clause-within g c =
    let d = g.D.Disk in let config = c.args.config.now in let s₀ = c.args.disk.now in let s₁ = c.write_part.new.disk in
    let some = some_pages config c.requires.valid in
    let s₂ = c.write_part-2.new.disk in
    failed_within d (FormatsBehindGate config) 2 3 s₀ s₂ (is_err c.from_residual-in_err-write_part-2.result) c.from_residual-in_err-write_part-2.ensures.0
    (next_part d config 1 c.area_at.result 1 s₀ s₁ s₂ true (omega (arith, c.area_at.ensures)) (omega (arith, c.area_at.ensures))
    (first_part d config c.journal_at.result 1 s₀ s₁ false (omega (arith, c.journal_at.ensures, some.1)) (omega (arith, c.journal_at.ensures, some.1)) c.in_ok-write_part.ensures.within)
    c.in_err-write_part-2.ensures.within)

pub returns-clause-within : goal.returns-clause-within
returns-clause-within g c =
    let d = g.D.Disk in let config = c.args.config.now in let s₀ = c.args.disk.now in let s₁ = c.write_part.new.disk in
    let some = some_pages config c.requires.valid in
    let s₂ = c.write_part-2.new.disk in
    let s₃ = c.write_part-3.new.disk in let fields : length c.as_slice.result.now ≡ 64 = ap length (c.as_slice.ensures.value ∙ c.superblock_fields-superblock.ensures) ∙ fields_length config c.args.image.now in
    next_part d config 2 8 (length c.as_slice.result.now) s₀ s₂ s₃ (is_err c.write_part-3.result) (omega arith) (omega (arith, fields))
    (next_part d config 1 c.area_at.result 1 s₀ s₁ s₂ false (omega (arith, c.area_at.ensures)) (omega (arith, c.area_at.ensures))
    (first_part d config c.journal_at.result 1 s₀ s₁ false (omega (arith, c.journal_at.ensures, some.1)) (omega (arith, c.journal_at.ensures, some.1)) c.in_ok-write_part.ensures.within)
    c.in_ok-write_part-2.ensures.within)
    c.write_part-3.ensures.within

pub returns-clause-written : goal.returns-clause-written
returns-clause-written g c = on_ok_weaker c.write_part-3.result (λ last honest₃ memory size has.
    let d = g.D.Disk in let config = c.args.config.now in
    let honest₂ : d.is_honest c.write_part-2.new.disk = c.write_part-3.ensures.within.same.honest honest₃ in
    let honest₁ : d.is_honest c.write_part.new.disk = c.write_part-2.ensures.within.same.honest honest₂ in
    let honest₀ : d.is_honest c.args.disk.now = c.write_part.ensures.within.same.honest honest₁ in
    let room : size_needed config ≤ length (d.content c.args.disk.now) = omega (arith, c.requires.room, g.met.D.Disk.whole c.args.disk.now honest₀) in
    is_fresh config c.args.image.now memory _ _ _ _ (some_pages config c.requires.valid).0 (some_pages config c.requires.valid).1 room size
    (subst (λ at. IsOverwritten (d.content c.args.disk.now) at (0 ∷ []) (d.content c.write_part.new.disk)) c.journal_at.ensures (c.in_ok-write_part.ensures.written honest₁))
    (subst (λ at. IsOverwritten (d.content c.write_part.new.disk) at (0 ∷ []) (d.content c.write_part-2.new.disk)) c.area_at.ensures (c.in_ok-write_part-2.ensures.written honest₂))
    (subst (λ (l : List ℕ). IsOverwritten (d.content c.write_part-2.new.disk) 8 l (d.content c.write_part-3.new.disk)) (c.as_slice.ensures.value ∙ c.superblock_fields-superblock.ensures) (last honest₃))
    has) c.write_part-3.ensures.written

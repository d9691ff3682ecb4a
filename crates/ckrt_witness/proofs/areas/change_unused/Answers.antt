use Rattle.std.proofs.Common.{◌≡◌, ◌≢◌, ◌∙◌, ◌-◌, ◌≤◌, ◌+◌, ◌∷◌, [], ℕ, List, false, length, take, drop, sym, subst, ap, arith}
use Rattle.std.proofs.lemmas.Bool.{not-true}
use Rattle.std.specs.Prelude.{is_err}
use Rattle.ckrt_disk.specs.Disk.{IsOverwritten, IsWithin}
use Rattle.ckrt_disk.specs.Frame.{IsSameOutside}
use Rattle.ckrt_stored.specs.Layout.{area_at, header_of}
use Rattle.ckrt_stored.specs.declared.header.Header.{Header}
use Rattle.ckrt_disk.proofs.FrameLemmas.{where_ok}
use Rattle.ckrt_witness.specs.Areas.{FrameWitness}
use Rattle.ckrt_witness.proofs.AreaLemmas.{fields_inside, frame_met}
use Rattle.ckrt_witness.proofs.areas.change_unused.Goals as goal

pub has_other-requires : goal.has_other-requires
has_other-requires g c =
    let e = c.in-Ok.ensures in
    let inside = fields_inside c.in-Ok.config (1 - c.in-Ok.area.index) (omega arith) in
    omega (arith, c.area_at-at.ensures, e.read.same.size, inside, e.room)

pub write_synced-requires : goal.write_synced-requires
write_synced-requires g c =
    let e = c.in-Ok.ensures in
    let inside = fields_inside c.in-Ok.config (1 - c.in-Ok.area.index) (omega arith) in
    omega (arith, c.area_at-at.ensures, e.read.same.size, c.in-Ok-true.ensures.read.same.size, inside, e.room)

pub read_header-requires : goal.read_header-requires
read_header-requires g c =
    let e = c.in-Ok.ensures in
    record {
      valid = e.valid;
      room = omega (arith, c.write_synced.ensures.within.same.size, c.in-Ok-true.ensures.read.same.size, e.read.same.size, e.room);
      area = omega arith;
    }

pub returns : goal.returns
returns g c = λ shut honest r recovers.
    let d = g.D.Disk in
    let e = c.in-Ok.ensures in
    let config = c.in-Ok.config in
    let area = c.in-Ok.area in
    let before = d.content c.args.disk.now in
    let image = d.content c.read_header.new.disk in
    let at = area_at config (1 - area.index) + 8 in
    let last = c.in-Ok-read_header.ensures in
    let honest_written : d.is_honest c.write_synced.new.disk = last.read.same.honest honest in
    let honest_looked : d.is_honest c.has_other.new.disk = c.write_synced.ensures.within.same.honest honest_written in
    let honest_begun : d.is_honest c.read_in_use.new.disk = c.in-Ok-true.ensures.read.same.honest honest_looked in
    let begun : d.content c.read_in_use.new.disk ≡ before = e.read.content honest_begun in
    let looked : d.content c.has_other.new.disk ≡ before = c.in-Ok-true.ensures.read.content honest_looked ∙ begun in
    let behind : image ≡ d.content c.write_synced.new.disk = last.read.content honest in
    let is : c.area_at-at.result + 8 ≡ at = ap (λ n. n + 8) c.area_at-at.ensures in
    let well : is_err c.write_synced.result ≡ false = sym c.is_err.ensures.value ∙ c.if-is_err.false in
    let same = subst (λ n. IsSameOutside (IsWithin n 1) (d.content c.has_other.new.disk) (d.content c.write_synced.new.disk)) is (c.write_synced.ensures.within.content well honest_written) in
    let same_there = subst (λ (l : List ℕ). IsSameOutside (IsWithin at 1) l (d.content c.write_synced.new.disk)) looked same in
    let written = subst (λ n. IsOverwritten (d.content c.has_other.new.disk) n (c.args.byte ∷ []) (d.content c.write_synced.new.disk)) is (where_ok c.write_synced.result c.write_synced.ensures.written well honest_written) in
    let written_there = subst (λ (l : List ℕ). IsOverwritten l at (c.args.byte ∷ []) (d.content c.write_synced.new.disk)) looked written in
    let other = subst (λ n. take 1 (drop n (d.content c.read_in_use.new.disk)) ≢ c.args.byte ∷ []) is (c.in-Ok-true.ensures.other c.in-Ok-true.field-0-test honest_looked) in
    let other_there = subst (λ (l : List ℕ). take 1 (drop at l) ≢ c.args.byte ∷ []) begun other in
    let closed : (header_of config (1 - area.index) (d.content c.write_synced.new.disk)).is_open ≡ false = sym (ap (λ (h : Header). h.is_open) (last.exact honest)) ∙ not-true c.in-Ok-read_header.header.is_open shut in
    let inside : at ≤ length before = omega (arith, fields_inside config (1 - area.index) (omega arith), e.room, g.met.D.Disk.whole c.args.disk.now (e.read.same.honest honest_begun)) in
    subst (FrameWitness before) (sym behind) (frame_met before (d.content c.write_synced.new.disk) r config area (e.exact honest_begun) recovers c.args.byte inside same_there written_there other_there closed)

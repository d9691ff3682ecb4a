use Rattle.std.proofs.Common.{◌≡◌, inl, inr, ◌<◌, ◌∙◌, ◌+◌, ◌*◌, ◌/◌, ◌%◌, Bool, false, List, length, get_or, slice_set, refl, ap, sym, true≢false, arith, rules}
use Rattle.std.specs.Vec.{vec_len}
use Rattle.ckrt_look_heap.specs.declared.block.Cell.{Cell}
use Rattle.ckrt_look_heap.specs.declared.parts.Told.TheVariants as told
use Rattle.ckrt_look_heap.specs.Parts.{Parted, Room, altered, cells_of, has_own, room_of}
use Rattle.ckrt_look_heap.proofs.PartLemmas.{cells_size, each_altered, has_get, has_kept, none, room_altered, room_same, same_altered, told_read}
use Rattle.ckrt_look_heap.proofs.parts.Parts.change_part.Goals as goal

pub index-told-requires : goal.index-told-requires
index-told-requires c =
    let r = c.self.inside in let first = c.args.first in let p = first / 1024 in
    let size : length c.args.self.now.cells ≡ r.words = sym (ap (λ (v : Parted). length v.cells) c.self.view_is) ∙ cells_size r.parts.items r.cells.items r.words in
    let inside : p < length r.parts.items = omega (arith, c.self.invariant.parts, size, c.requires.inside) in
    let many : vec_len r.parts ≡ length r.parts.items = search rules in
    omega (arith, inside, many)

pub index_mut-requires : goal.index_mut-requires
index_mut-requires c =
    let r = c.self.inside in let first = c.args.first in let p = first / 1024 in
    let size : length c.args.self.now.cells ≡ r.words = sym (ap (λ (v : Parted). length v.cells) c.self.view_is) ∙ cells_size r.parts.items r.cells.items r.words in
    let inside : p < length r.parts.items = omega (arith, c.self.invariant.parts, size, c.requires.inside) in
    let many : vec_len r.parts ≡ length r.parts.items = search rules in
    omega (arith, inside, many)

pub invariant_of-self : goal.invariant_of-self
invariant_of-self c =
    let r = c.self.inside in let first = c.args.first in let p = first / 1024 in
    let size : length c.args.self.now.cells ≡ r.words = sym (ap (λ (v : Parted). length v.cells) c.self.view_is) ∙ cells_size r.parts.items r.cells.items r.words in
    let inside : p < length r.parts.items = omega (arith, c.self.invariant.parts, size, c.requires.inside) in
    room_same r.parts.items r.cells.items (room_of r.parts.items r.taken r.count r.is_full) _ r.words _ p c.changed_by.result refl refl inside c.self.invariant

pub overflow_mul-slot : goal.overflow_mul-slot
overflow_mul-slot c =
    let r = c.self.inside in let first = c.args.first in let p = first / 1024 in let slot = c.in-Each.slot in
    let size : length c.args.self.now.cells ≡ r.words = sym (ap (λ (v : Parted). length v.cells) c.self.view_is) ∙ cells_size r.parts.items r.cells.items r.words in
    let inside : p < length r.parts.items = omega (arith, c.self.invariant.parts, size, c.requires.inside) in
    let there : get_or r.parts.items p none ≡ told.Each slot = told_read r.parts.items p c.index-told.result.now (told.Each slot) inside c.index-told.ensures c.in-Each.is in
    omega (arith, c.self.invariant.taken p slot there, c.self.invariant.few, c.self.invariant.fits)

pub overflow_add-slot : goal.overflow_add-slot
overflow_add-slot c =
    let r = c.self.inside in let first = c.args.first in let p = first / 1024 in let slot = c.in-Each.slot in
    let size : length c.args.self.now.cells ≡ r.words = sym (ap (λ (v : Parted). length v.cells) c.self.view_is) ∙ cells_size r.parts.items r.cells.items r.words in
    let inside : p < length r.parts.items = omega (arith, c.self.invariant.parts, size, c.requires.inside) in
    let there : get_or r.parts.items p none ≡ told.Each slot = told_read r.parts.items p c.index-told.result.now (told.Each slot) inside c.index-told.ensures c.in-Each.is in
    omega (arith, c.self.invariant.taken p slot there, c.self.invariant.few, c.self.invariant.fits)

pub change_cells-requires : goal.change_cells-requires
change_cells-requires c =
    let r = c.self.inside in let first = c.args.first in let p = first / 1024 in let slot = c.in-Each.slot in
    let size : length c.args.self.now.cells ≡ r.words = sym (ap (λ (v : Parted). length v.cells) c.self.view_is) ∙ cells_size r.parts.items r.cells.items r.words in
    let inside : p < length r.parts.items = omega (arith, c.self.invariant.parts, size, c.requires.inside) in
    let there : get_or r.parts.items p none ≡ told.Each slot = told_read r.parts.items p c.index-told.result.now (told.Each slot) inside c.index-told.ensures c.in-Each.is in
    omega (arith, c.self.invariant.taken p slot there, c.self.invariant.filled, c.requires.within)

pub invariant_of-self-in-Each : goal.invariant_of-self-in-Each
invariant_of-self-in-Each c =
    let r = c.self.inside in let first = c.args.first in let p = first / 1024 in let slot = c.in-Each.slot in
    room_altered r.parts.items r.cells.items c.change_cells.new.cells.items (room_of r.parts.items r.taken r.count r.is_full) r.words _ _ (1024 * slot + first % 1024) c.args.count c.args.change.now
    c.change_cells.ensures.cells c.change_cells.ensures.room c.self.invariant

pub returns-in-Same-clause-cells : goal.returns-in-Same-clause-cells
returns-in-Same-clause-cells c =
    let r = c.self.inside in let first = c.args.first in let p = first / 1024 in let x = c.in-Same.cell in
    let size : length c.args.self.now.cells ≡ r.words = sym (ap (λ (v : Parted). length v.cells) c.self.view_is) ∙ cells_size r.parts.items r.cells.items r.words in
    let inside : p < length r.parts.items = omega (arith, c.self.invariant.parts, size, c.requires.inside) in
    let same : get_or r.parts.items p none ≡ told.Same x = told_read r.parts.items p c.index-told.result.now (told.Same x) inside c.index-told.ensures c.in-Same.is in
    let all : c.args.count ≡ 1024 = elim c.requires.split [
      | inl e ↦ e
      | inr has ↦ absurd (true≢false (sym has ∙ sym (ap (λ (v : Parted). get_or v.room.has p false) c.self.view_is) ∙ has_get r.parts.items p ∙ ap has_own same))
    ] in
    ap (λ (y : Cell). cells_of (slice_set r.parts.items p (told.Same y)) r.cells.items r.words) c.changed_by.ensures
    ∙ same_altered r.parts.items r.cells.items r.words first c.args.count x c.args.change.now same inside all c.requires.within (omega (arith, size, c.requires.inside))
    ∙ ap (λ (v : Parted). altered c.args.count first c.args.change.now v.cells) c.self.view_is

pub returns-in-Same-clause-room : goal.returns-in-Same-clause-room
returns-in-Same-clause-room c =
    let r = c.self.inside in let first = c.args.first in let p = first / 1024 in let x = c.in-Same.cell in
    let size : length c.args.self.now.cells ≡ r.words = sym (ap (λ (v : Parted). length v.cells) c.self.view_is) ∙ cells_size r.parts.items r.cells.items r.words in
    let inside : p < length r.parts.items = omega (arith, c.self.invariant.parts, size, c.requires.inside) in
    let same : get_or r.parts.items p none ≡ told.Same x = told_read r.parts.items p c.index-told.result.now (told.Same x) inside c.index-told.ensures c.in-Same.is in
    ap (λ (h : List Bool). (let q : Room = record { has = h; taken = r.taken; count = r.count; is_full = r.is_full } in q)) (has_kept r.parts.items p x c.changed_by.result same)
    ∙ ap (λ (v : Parted). v.room) c.self.view_is

pub returns-in-Each-clause-cells : goal.returns-in-Each-clause-cells
returns-in-Each-clause-cells c =
    let r = c.self.inside in let first = c.args.first in let p = first / 1024 in let slot = c.in-Each.slot in
    let size : length c.args.self.now.cells ≡ r.words = sym (ap (λ (v : Parted). length v.cells) c.self.view_is) ∙ cells_size r.parts.items r.cells.items r.words in
    let inside : p < length r.parts.items = omega (arith, c.self.invariant.parts, size, c.requires.inside) in
    let there : get_or r.parts.items p none ≡ told.Each slot = told_read r.parts.items p c.index-told.result.now (told.Each slot) inside c.index-told.ensures c.in-Each.is in
    ap (λ (l : List Cell). cells_of r.parts.items l r.words) c.change_cells.ensures.cells
    ∙ each_altered r.parts.items r.cells.items (room_of r.parts.items r.taken r.count r.is_full) r.words _ first slot c.args.count c.args.change.now c.self.invariant there c.requires.within (omega (arith, size, c.requires.inside))
    ∙ ap (λ (v : Parted). altered c.args.count first c.args.change.now v.cells) c.self.view_is

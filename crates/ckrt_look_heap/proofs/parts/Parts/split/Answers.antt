use Rattle.std.proofs.Common.{◌≡◌, ◌<◌, ◌∙◌, List, true, length, get_or, slice_set, ap, arith, rules}
use Rattle.std.specs.Result.{is_ok}
use Rattle.std.specs.Vec.{vec_len}
use Rattle.ckrt_look_heap.specs.declared.block.Cell.{Cell}
use Rattle.ckrt_look_heap.specs.declared.parts.Told.TheVariants as told
use Rattle.ckrt_look_heap.specs.Parts.{Parted, cells_of, room_of, split}
use Rattle.ckrt_look_heap.proofs.PartLemmas.{cells_stay, has_size, more_cells, none, resized, told_read}
use Rattle.ckrt_look_heap.proofs.SplitLemmas.{split_left}
use Rattle.ckrt_look_heap.proofs.parts.Parts.split.Goals as goal

pub returns-clause-room : goal.returns-clause-room
returns-clause-room c =
    let r = c.self.inside in let part = c.args.part in let x = c.in-Same.cell in
    let inside : part < length r.parts.items = omega (arith, has_size r.parts.items, ap (λ (v : Parted). length v.room.has) c.self.view_is, c.requires) in
    let same : get_or r.parts.items part none ≡ told.Same x = told_read r.parts.items part c.index-told.result.now (told.Same x) inside c.index-told.ensures c.in-Same.is in
    split_left r.parts.items r.taken r.count part r.is_full x same (omega (arith, c.if-self.false)) ∙ ap (λ (v : Parted). split part v.room) c.self.view_is

pub returns-clause-cells : goal.returns-clause-cells
returns-clause-cells c =
    let r = c.self.inside in let part = c.args.part in let x = c.in-Same.cell in
    let inside : part < length r.parts.items = omega (arith, has_size r.parts.items, ap (λ (v : Parted). length v.room.has) c.self.view_is, c.requires) in
    let same : get_or r.parts.items part none ≡ told.Same x = told_read r.parts.items part c.index-told.result.now (told.Same x) inside c.index-told.ensures c.in-Same.is in
    let size : vec_len r.cells ≡ length r.cells.items = search rules in
    let well : is_ok c.resize.result ≡ true = (let h = c.resize.ensures.succeeds (omega (arith, c.self.invariant.room_for, c.if-self.false)) in search rules) in
    let more : c.resize.new.self.items ≡ more_cells x r.cells.items =
    resized r.cells.items c.resize.new.self.items r.taken (vec_len r.cells) (is_ok c.resize.result) x size c.self.invariant.filled well c.resize.ensures.items in
    ap (λ (l : List Cell). cells_of (slice_set r.parts.items part (told.Each r.taken)) l r.words) more
    ∙ cells_stay r.parts.items r.cells.items (room_of r.parts.items r.taken r.count r.is_full) r.words _ part x c.self.invariant inside same
    ∙ ap (λ (v : Parted). v.cells) c.self.view_is

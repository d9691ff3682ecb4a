use Rattle.std.proofs.Common.{◌≡◌, ◌<◌, ◌∙◌, ◌+◌, ◌*◌, ◌/◌, ◌%◌, Some, length, get_or, ap, sym, arith, rules}
use Rattle.std.proofs.lemmas.List.{get_or_read}
use Rattle.std.proofs.lemmas.Option.{slice_get-get_or, slice_get_past}
use Rattle.std.specs.Vec.{vec_len}
use Rattle.ckrt_look_heap.specs.declared.block.Cell.{Cell}
use Rattle.ckrt_look_heap.specs.declared.block.Cell.TheVariants as cell
use Rattle.ckrt_look_heap.specs.declared.parts.Told.TheVariants as told
use Rattle.ckrt_look_heap.specs.Parts.{Parted, room_of}
use Rattle.ckrt_look_heap.proofs.PartLemmas.{cells_get, cells_size, in_each, in_same, none, placed, told_read}
use Rattle.ckrt_look_heap.proofs.parts.Parts.get.Goals as goal

pub returns-then-word-self : goal.returns-then-word-self
returns-then-word-self c =
    let r = c.self.inside in
    let size : length c.args.self.now.cells ≡ r.words = sym (ap (λ (v : Parted). length v.cells) c.self.view_is) ∙ cells_size r.parts.items r.cells.items r.words in
    sym (slice_get_past c.args.self.now.cells c.args.word (omega (arith, size, c.if-word-self.true)))

pub overflow_mul-slot : goal.overflow_mul-slot
overflow_mul-slot c =
    let r = c.self.inside in let word = c.args.word in let slot = c.in-Each.slot in
    let there : get_or r.parts.items (word / 1024) none ≡ told.Each slot =
    told_read r.parts.items (word / 1024) c.index-told.result.now (told.Each slot) (omega (arith, c.self.invariant.parts, c.if-word-self.false)) c.index-told.ensures c.in-Each.is in
    omega (arith, c.self.invariant.taken (word / 1024) slot there, c.self.invariant.few, c.self.invariant.fits)

pub overflow_add-slot : goal.overflow_add-slot
overflow_add-slot c =
    let r = c.self.inside in let word = c.args.word in let slot = c.in-Each.slot in
    let there : get_or r.parts.items (word / 1024) none ≡ told.Each slot =
    told_read r.parts.items (word / 1024) c.index-told.result.now (told.Each slot) (omega (arith, c.self.invariant.parts, c.if-word-self.false)) c.index-told.ensures c.in-Each.is in
    omega (arith, c.self.invariant.taken (word / 1024) slot there, c.self.invariant.few, c.self.invariant.fits)

pub index-requires : goal.index-requires
index-requires c =
    let r = c.self.inside in let word = c.args.word in let slot = c.in-Each.slot in
    let there : get_or r.parts.items (word / 1024) none ≡ told.Each slot =
    told_read r.parts.items (word / 1024) c.index-told.result.now (told.Each slot) (omega (arith, c.self.invariant.parts, c.if-word-self.false)) c.index-told.ensures c.in-Each.is in
    let size : vec_len r.cells ≡ length r.cells.items = search rules in
    omega (arith, size, c.self.invariant.filled, c.self.invariant.taken (word / 1024) slot there)

pub returns-in-Same : goal.returns-in-Same
returns-in-Same c =
    let r = c.self.inside in let word = c.args.word in let x = c.in-Same.cell in
    let size : length c.args.self.now.cells ≡ r.words = sym (ap (λ (v : Parted). length v.cells) c.self.view_is) ∙ cells_size r.parts.items r.cells.items r.words in
    let same : get_or r.parts.items (word / 1024) none ≡ told.Same x =
    told_read r.parts.items (word / 1024) c.index-told.result.now (told.Same x) (omega (arith, c.self.invariant.parts, c.if-word-self.false)) c.index-told.ensures c.in-Same.is in
    let is : x ≡ get_or c.args.self.now.cells word cell.Unknown =
    sym (in_same r.parts.items r.cells.items word x same) ∙ sym (cells_get r.parts.items r.cells.items r.words word cell.Unknown (omega (arith, c.if-word-self.false)))
    ∙ ap (λ (v : Parted). get_or v.cells word cell.Unknown) c.self.view_is in
    ap (λ (y : Cell). Some y) is ∙ sym (slice_get-get_or c.args.self.now.cells word cell.Unknown (omega (arith, size, c.if-word-self.false)))

pub returns-in-Each : goal.returns-in-Each
returns-in-Each c =
    let r = c.self.inside in let word = c.args.word in let slot = c.in-Each.slot in
    let size : length c.args.self.now.cells ≡ r.words = sym (ap (λ (v : Parted). length v.cells) c.self.view_is) ∙ cells_size r.parts.items r.cells.items r.words in
    let there : get_or r.parts.items (word / 1024) none ≡ told.Each slot =
    told_read r.parts.items (word / 1024) c.index-told.result.now (told.Each slot) (omega (arith, c.self.invariant.parts, c.if-word-self.false)) c.index-told.ensures c.in-Each.is in
    let at : 1024 * slot + word % 1024 < length r.cells.items = placed r.parts.items r.cells.items (room_of r.parts.items r.taken r.count r.is_full) r.words _ word slot c.self.invariant there in
    let is : c.index.result.now ≡ get_or c.args.self.now.cells word cell.Unknown =
    get_or_read r.cells.items (1024 * slot + word % 1024) c.index.result.now at c.index.ensures cell.Unknown
    ∙ sym (in_each r.parts.items r.cells.items word slot there) ∙ sym (cells_get r.parts.items r.cells.items r.words word cell.Unknown (omega (arith, c.if-word-self.false)))
    ∙ ap (λ (v : Parted). get_or v.cells word cell.Unknown) c.self.view_is in
    ap (λ (y : Cell). Some y) is ∙ sym (slice_get-get_or c.args.self.now.cells word cell.Unknown (omega (arith, size, c.if-word-self.false)))

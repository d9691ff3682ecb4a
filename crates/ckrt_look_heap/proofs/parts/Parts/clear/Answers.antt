use Rattle.std.proofs.Common.{◌≡◌, ◌∙◌, ◌+◌, ◌/◌, ℕ, length, ap, replicate, sym}
use Rattle.ckrt_look_heap.specs.declared.block.Cell.TheVariants as cell
use Rattle.ckrt_look_heap.specs.declared.parts.Told.TheVariants as told
use Rattle.ckrt_look_heap.specs.Parts.{Parted, no_slots}
use Rattle.ckrt_look_heap.proofs.PartLemmas.{cells_size, none_done}
use Rattle.ckrt_look_heap.proofs.parts.Parts.clear.Goals as goal

-- as when it was new
pub returns : goal.returns
returns c =
    let r = c.self.inside in
    let words : r.words ≡ length c.args.self.now.cells = sym (cells_size r.parts.items r.cells.items r.words) ∙ ap (λ (v : Parted). length v.cells) c.self.view_is in
    none_done c.forget.new.parts.items c.clear.new.self.items r.words r.count (c.forget.ensures ∙ ap (λ n. replicate n (told.Same cell.Unknown)) c.self.invariant.parts)
    ∙ ap (λ n. (let x : Parted = record { cells = replicate n cell.Unknown; room = no_slots n r.count } in x)) words
    ∙ ap (λ n. (let x : Parted = record { cells = replicate (length c.args.self.now.cells) cell.Unknown; room = no_slots (length c.args.self.now.cells) n } in x)) (ap (λ (v : Parted). v.room.count) c.self.view_is)

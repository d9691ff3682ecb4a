use Rattle.std.proofs.Common.{◌≡◌, ◌∙◌, true, ap, subst, sym}
use Rattle.ckrt_look_heap.specs.declared.block.Cell.{Cell}
use Rattle.ckrt_look_heap.specs.declared.block.Cell.TheVariants as cell
use Rattle.ckrt_look_heap.specs.declared.block.Change.TheVariants as change
use Rattle.ckrt_look_heap.specs.declared.block.Part.{Part}
use Rattle.ckrt_look_heap.specs.Shadow.{freed_as, is_begin}
use Rattle.ckrt_look_heap.specs.Within.{changes, room_by_free, with_room}
use Rattle.ckrt_look_heap.proofs.ShadowLemmas.{back_noted}
use Rattle.ckrt_look_heap.proofs.shadow.Shadow.free_as.Goals as goal

-- the block that begins there
pub returns-in-Given : goal.returns-in-Given
returns-in-Given c =
    let a = c.args.access.now in let b = c.in-Given.block in let t = c.args.is_told in let s = c.args.self.now in let new = c.change.new.self in
    let begin : is_begin a b ≡ true = sym c.is_begin.ensures ∙ c.if-is_begin.true in
    subst (λ (x : Cell). new ≡ with_room (room_by_free a x s.heap s.room) s.heap (freed_as t a x s.heap)) (sym c.in-Given.is)
    (back_noted a b t s new begin (c.change.ensures ∙ ap (λ (p : Part). changes p (change.Told (cell.GivenBack b a.moment)) s) c.part_of.ensures))

use Rattle.std.proofs.Common.{◌≡◌, ◌∙◌, false, ap, sym}
use Rattle.ckrt_look_heap.specs.declared.block.Cell.TheVariants as cell
use Rattle.ckrt_look_heap.specs.declared.block.Change.TheVariants as change
use Rattle.ckrt_look_heap.specs.declared.block.Part.{Part}
use Rattle.ckrt_look_heap.specs.Within.{Noted, changes, is_full}
use Rattle.ckrt_look_heap.proofs.ShadowLemmas.{give_noted}
use Rattle.ckrt_look_heap.proofs.shadow.Shadow.give.Goals as goal

pub returns-then-not-is_full : goal.returns-then-not-is_full
returns-then-not-is_full c =
    let b = c.args.block.now in let s = c.args.self.now in
    let left : is_full s ≡ false = sym (ap (λ (v : Noted). v.room.is_full) c.self.view_is) ∙ sym c.is_full.ensures ∙ c.if-not-is_full.true in
    give_noted b s c.change.new.self left (c.change.ensures ∙ ap (λ (p : Part). changes p (change.Told (cell.Given b)) s) c.part_of.ensures)

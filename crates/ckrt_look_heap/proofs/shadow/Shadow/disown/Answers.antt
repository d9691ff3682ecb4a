use Rattle.std.proofs.Common.{◌≡◌, ◌∙◌, false, ap, sym}
use Rattle.ckrt_look_heap.specs.Within.{Noted, is_full}
use Rattle.ckrt_look_heap.proofs.ShadowLemmas.{disown_noted}
use Rattle.ckrt_look_heap.proofs.shadow.Shadow.disown.Goals as goal

pub returns : goal.returns
returns c =
    let s = c.args.self.now in
    let left : is_full s ≡ false = sym (ap (λ (v : Noted). v.room.is_full) c.self.view_is) ∙ sym c.is_full.ensures ∙ c.if-is_full.false in
    disown_noted c.args.part c.args.moment s c.change.new.self c.tell.new.self left c.change.ensures c.tell.ensures

use Rattle.std.proofs.Common.{◌≡◌, ◌∙◌, ◌+◌, false, length, ap, sym, subst, arith}
use Rattle.ckrt_look_heap.specs.Parts.{IsSplitAt, Parted, Room, split_at}
use Rattle.ckrt_look_heap.proofs.SplitLemmas.{at_size, is_split, stays_split}
use Rattle.ckrt_look_heap.proofs.WithinLemmas.{open_at}
use Rattle.ckrt_look_heap.proofs.parts.Parts.change.Goals as goal

pub overflow_add-first : goal.overflow_add-first
overflow_add-first c = omega (arith, c.requires.fits)

pub split_at-requires : goal.split_at-requires
split_at-requires c = omega (arith, c.requires.parts)

pub change_parts-requires-clause-begin : goal.change_parts-requires-clause-begin
change_parts-requires-clause-begin c =
    let first = c.args.first in let end = first + c.args.count in let r = c.args.self.now.room in let q = c.split_at.new.self.room in
    let one : q ≡ split_at first r = c.split_at.ensures.room in
    let two : c.split_at-2.new.self.room ≡ split_at end q = c.split_at-2.ensures.room in
    let left : (split_at end q).is_full ≡ false = sym (ap (λ (x : Room). x.is_full) two) ∙ sym (ap (λ (v : Parted). v.room.is_full) c.self.view_is) ∙ c.if-not-self.true in
    let begun : IsSplitAt first q = subst (IsSplitAt first) (sym one) (is_split first r (omega (arith, c.requires.parts)) (sym (ap (λ (x : Room). x.is_full) one) ∙ open_at end q left)) in
    let size : length q.has ≡ length r.has = ap (λ (x : Room). length x.has) one ∙ at_size first r in
    subst (IsSplitAt first) (sym two) (stays_split end first q (omega (arith, c.requires.parts, size)) begun)

pub change_parts-requires-clause-end : goal.change_parts-requires-clause-end
change_parts-requires-clause-end c =
    let first = c.args.first in let end = first + c.args.count in let r = c.args.self.now.room in let q = c.split_at.new.self.room in
    let one : q ≡ split_at first r = c.split_at.ensures.room in
    let two : c.split_at-2.new.self.room ≡ split_at end q = c.split_at-2.ensures.room in
    let left : (split_at end q).is_full ≡ false = sym (ap (λ (x : Room). x.is_full) two) ∙ sym (ap (λ (v : Parted). v.room.is_full) c.self.view_is) ∙ c.if-not-self.true in
    let size : length q.has ≡ length r.has = ap (λ (x : Room). length x.has) one ∙ at_size first r in
    subst (IsSplitAt end) (sym two) (is_split end q (omega (arith, c.requires.parts, size)) left)

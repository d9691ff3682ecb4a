-- Words of a block that is given, or given back.
use Rattle.std.proofs.Common.{◌≡◌, inl, inr, ◌≤◌, ◌<◌, ℕ, zero, suc, ◌+◌, ◌-◌, ◌/◌, min, Bool, if◌then◌else◌, List, length, get_or, slice_get, Option, Some, None, refl, ap, ◌∙◌, arith}
use Rattle.std.proofs.lemmas.Bool.{cases_eq}
use Rattle.std.proofs.lemmas.Grind.{get_or-set_at}
use Rattle.std.proofs.lemmas.List.{get_or-set_other, length-set}
use Rattle.std.proofs.lemmas.Option.{slice_get-get_or}
use Rattle.ckrt_look_heap.specs.declared.block.Block.{Block}
use Rattle.ckrt_look_heap.specs.declared.block.Cell.{Cell}
use Rattle.ckrt_look_heap.specs.declared.block.Cell.TheVariants as cell
use Rattle.ckrt_look_heap.specs.Shadow.{Heap, few, filled, given, given_back, part_of, used_as, wrong}
use Rattle.ckrt_look_heap.specs.Laws.{GivenBackBlocksAreTold, GivenBlocksAreUsed, IsWordOf}

filled_size : (n first : ℕ) (c : Cell) (cells : List Cell) → length (filled n first c cells) ≡ length cells
filled_size zero first c cells = refl
filled_size (suc n) first c cells = length-set (filled n first c cells) (first + n) c ∙ filled_size n first c cells

filled_at : (n first i : ℕ) (c d : Cell) (cells : List Cell) → first ≤ i → i < first + n → first + n ≤ length cells → get_or (filled n first c cells) i d ≡ c
filled_at zero first i c d cells ge lt le = absurd (omega (arith, ge, lt))
filled_at (suc n) first i c d cells ge lt le = elim (cases_eq i (first + n)) [
  | inl is ↦ get_or-set_at (filled n first c cells) (first + n) i c d is (omega (arith, le, filled_size n first c cells))
  | inr other ↦ get_or-set_other (filled n first c cells) (first + n) i c d other ∙ filled_at n first i c d cells ge (omega (arith, lt, other)) (omega (arith, le))
]

few_last : (i first count all : ℕ) → first ≤ i → i < first + count → i < all → i < first + min count (all - first)
few_last i first count all ge lt there = grind (arith, ge, lt, there)

few_there : (i first count all : ℕ) → first ≤ i → i < all → first + min count (all - first) ≤ all
few_there i first count all ge there = grind (arith, ge, there)

-- what is told of a word of a block
told : (i : ℕ) (b : Block) (h : Heap) (c : Cell) → IsWordOf i b h → slice_get (filled (few (part_of b) h.cells) b.first c h.cells) i ≡ Some c
told i b h c is =
    let n = few (part_of b) h.cells in let all = length h.cells in
    slice_get-get_or (filled n b.first c h.cells) i c (omega (arith, filled_size n b.first c h.cells, is.there))
    ∙ ap (λ o. Some o) (filled_at n b.first i c c h.cells is.first (few_last i b.first b.count all is.first is.last is.there) (few_there i b.first b.count all is.first is.there))

pub given_used : GivenBlocksAreUsed
given_used a b h is within =
    ap (λ (o : Option Cell). used_as a (wrong a o) (given b h)) (told (a.address / 4) b h (cell.Given b) is)
    ∙ ap (λ (t : Bool). used_as a (if t then None else Some (cell.Given b)) (given b h)) within

pub back_told : GivenBackBlocksAreTold
back_told a m b h is =
    ap (λ (o : Option Cell). used_as a (wrong a o) (given_back m b h)) (told (a.address / 4) b h (cell.GivenBack b m) is)

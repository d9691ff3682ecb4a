-- Blocks that weren't given back, word by word.
use Rattle.std.proofs.Common.{◌≡◌, ◌≤◌, ◌<◌, ℕ, suc, ◌+◌, List, [], ◌∷◌, ◌++◌, length, take, drop, get_or, sym, ap, ◌∙◌, append_assoc, add-one, arith}
use Rattle.std.proofs.lemmas.List.{append-nil, length-take-le, take_all, take_more}
use Rattle.std.proofs.Math.Seq.{drop-cons}
use Rattle.ckrt_look_heap.specs.declared.block.Block.{Block}
use Rattle.ckrt_look_heap.specs.declared.block.Cell.{Cell}
use Rattle.ckrt_look_heap.specs.Shadow.{left_from, left_in}
use Rattle.ckrt_look_heap.specs.Texts.{bytes_of, plus}

none_more : (k : ℕ) → k ≡ k + 0
none_more k = omega arith

from_zero : (n : ℕ) → n ≡ 0 + n
from_zero n = omega arith

one_along : (k n : ℕ) → k + 1 + n ≡ k + (n + 1)
one_along k n = omega arith

one_longer : (x : Cell) (xs : List Cell) → length xs + 1 ≡ length (x ∷ xs)
one_longer x xs = add-one (length xs)

-- a word at the end
at_end : (k : ℕ) (xs : List Cell) (c : Cell) → left_from k (xs ++ c ∷ []) ≡ left_from k xs ++ left_in (k + length xs) c
at_end k [] c = append-nil (left_in k c) ∙ ap (λ j. left_in j c) (none_more k)
at_end k (x ∷ xs) c =
    ap (λ bs. left_in k x ++ bs) (at_end (k + 1) xs c)
    ∙ ap (λ j. left_in k x ++ (left_from (k + 1) xs ++ left_in j c)) (one_along k (length xs) ∙ ap (λ n. k + n) (one_longer x xs))
    ∙ sym (append_assoc (left_in k x) (left_from (k + 1) xs) (left_in (k + length (x ∷ xs)) c))

-- one word more of a list of them
pub left_next : (xs : List Cell) (i : ℕ) (d : Cell) (bs new : List Block) → i < length xs → bs ≡ left_from 0 (take i xs) → new ≡ bs ++ left_in i (get_or xs i d) → new ≡ left_from 0 (take (i + 1) xs)
left_next xs i d bs new lt so_far is =
    is ∙ ap (λ l. l ++ left_in i (get_or xs i d)) so_far
    ∙ ap (λ j. left_from 0 (take i xs) ++ left_in j (get_or xs i d)) (sym (length-take-le i xs (omega (arith, lt))) ∙ from_zero (length (take i xs)))
    ∙ sym (at_end 0 (take i xs) (get_or xs i d)) ∙ ap (left_from 0) (sym (take_more xs i d lt))

-- all words
pub left_all : (xs : List Cell) (i : ℕ) (bs : List Block) → length xs ≤ i → bs ≡ left_from 0 (take i xs) → bs ≡ left_from 0 xs
left_all xs i bs le so_far = so_far ∙ ap (left_from 0) (take_all i xs le)

-- the bytes of one block more
pub bytes_next : (bs : List Block) (i n m : ℕ) (d : Block) → i < length bs → m ≡ plus n (get_or bs i d).bytes → bytes_of m (drop (i + 1) bs) ≡ bytes_of n (drop i bs)
bytes_next bs i n m d lt is =
    ap (λ j. bytes_of m (drop j bs)) (add-one i)
    ∙ ap (λ j. bytes_of j (drop (suc i) bs)) is
    ∙ sym (ap (bytes_of n) (drop-cons bs i d lt))

-- Words of which something else is told.
use Rattle.std.proofs.Common.{◌≡◌, ◌≢◌, inl, inr, ◌≤◌, ◌<◌, ℕ, zero, suc, ◌+◌, List, [], ◌∷◌, length, get_or, slice_get, slice_set, Some, None, refl, sym, ap, ◌∙◌, arith}
use Rattle.std.proofs.lemmas.Bool.{cases_eq}
use Rattle.std.proofs.lemmas.List.{get_or-set_other, get_or-set_same, length-set}
use Rattle.std.proofs.lemmas.Option.{slice_get-get_or}
use Rattle.ckrt_look_heap.specs.declared.block.Cell.{Cell}
use Rattle.ckrt_look_heap.specs.declared.block.Cell.TheVariants as cell
use Rattle.ckrt_look_heap.specs.declared.block.Change.{Change}
use Rattle.ckrt_look_heap.specs.declared.block.Change.TheVariants as change
use Rattle.ckrt_look_calls.specs.declared.moment.Moment.{Moment}
use Rattle.ckrt_look_heap.specs.Parts.{altered, altered_at}
use Rattle.ckrt_look_heap.specs.Shadow.{changed_by, disowned, filled}

-- what was read of a word is what was told of it
same_read : (xs : List Cell) (i : ℕ) (p : Cell) → p ≡ get_or xs i p → i < length xs → p ≡ get_or xs i cell.Unknown
same_read xs i p is lt =
    let one = slice_get-get_or xs i p lt in let other = slice_get-get_or xs i cell.Unknown lt in
    let both : Some (get_or xs i p) ≡ Some (get_or xs i cell.Unknown) = sym one ∙ other in
    is ∙ (cc)

-- a word that isn't there
pub none_there : (xs : List Cell) (i : ℕ) → slice_get xs i ≡ None → cell.Unknown ≡ get_or xs i cell.Unknown
none_there [] i none = refl
none_there (x ∷ xs) zero none = absurd (cc)
none_there (x ∷ xs) (suc i) none = none_there xs i none

-- one word more
pub changed_on : (xs : List Cell) (i : ℕ) (ch : Change) (p new : Cell) → p ≡ get_or xs i p → i < length xs → new ≡ changed_by ch p → slice_set xs i new ≡ altered_at i ch xs
changed_on xs i ch p new is lt made =
    ap (λ (c : Cell). slice_set xs i c) (made ∙ ap (changed_by ch) (same_read xs i p is lt))

-- AS MANY as before, and each is changed or as it was

pub altered_size : (n first : ℕ) (ch : Change) (l : List Cell) → length (altered n first ch l) ≡ length l
altered_size zero first ch l = refl
altered_size (suc n) first ch l = length-set (altered n first ch l) (first + n) (changed_by ch (get_or (altered n first ch l) (first + n) cell.Unknown)) ∙ altered_size n first ch l

other_at : (n first w : ℕ) (ch : Change) (d : Cell) (l : List Cell) → w ≢ first + n → get_or (altered (suc n) first ch l) w d ≡ get_or (altered n first ch l) w d
other_at n first w ch d l other =
    get_or-set_other (altered n first ch l) (first + n) w (changed_by ch (get_or (altered n first ch l) (first + n) cell.Unknown)) d other

pub altered_before : (n first w : ℕ) (ch : Change) (d : Cell) (l : List Cell) → w < first → get_or (altered n first ch l) w d ≡ get_or l w d
altered_before zero first w ch d l lt = refl
altered_before (suc n) first w ch d l lt =
    other_at n first w ch d l (λ e. omega (arith, e, lt)) ∙ altered_before n first w ch d l lt

pub altered_after : (n first w : ℕ) (ch : Change) (d : Cell) (l : List Cell) → first + n ≤ w → get_or (altered n first ch l) w d ≡ get_or l w d
altered_after zero first w ch d l le = refl
altered_after (suc n) first w ch d l le =
    other_at n first w ch d l (λ e. omega (arith, e, le)) ∙ altered_after n first w ch d l (omega (arith, le))

pub altered_same : (n first w : ℕ) (ch : Change) (d : Cell) (l : List Cell) → first ≤ w → w < first + n → first + n ≤ length l → get_or (altered n first ch l) w d ≡ changed_by ch (get_or l w cell.Unknown)
altered_same zero first w ch d l ge lt le = absurd (omega (arith, ge, lt))
altered_same (suc n) first w ch d l ge lt le = elim (cases_eq w (first + n)) [
  | inl e ↦
      ap (λ k. get_or (altered (suc n) first ch l) k d) e
      ∙ get_or-set_same (altered n first ch l) (first + n) (changed_by ch (get_or (altered n first ch l) (first + n) cell.Unknown)) d (omega (arith, le, altered_size n first ch l))
      ∙ ap (changed_by ch) (altered_after n first (first + n) ch cell.Unknown l (omega arith))
      ∙ ap (λ k. changed_by ch (get_or l k cell.Unknown)) (sym e)
  | inr other ↦ other_at n first w ch d l other ∙ altered_same n first w ch d l ge (omega (arith, lt, other)) (omega (arith, le))
]

-- words in two pieces
pub altered_both : (m n first : ℕ) (ch : Change) (l : List Cell) → altered n (first + m) ch (altered m first ch l) ≡ altered (m + n) first ch l
altered_both m zero first ch l = ap (λ k. altered k first ch l) (let h : m ≡ m + 0 = omega arith in h)
altered_both m (suc n) first ch l =
    ap (λ (k : List Cell). altered_at (first + m + n) ch k) (altered_both m n first ch l)
    ∙ ap (λ k. altered_at k ch (altered (m + n) first ch l)) (let h : first + m + n ≡ first + (m + n) = omega arith in h)
    ∙ ap (λ k. altered k first ch l) (let h : suc (m + n) ≡ m + suc n = omega arith in h)

-- WHAT IS TOLD of words that a block has, and of words that are nobody's
pub filled_is : (n first : ℕ) (c : Cell) (l : List Cell) → altered n first (change.Told c) l ≡ filled n first c l
filled_is zero first c l = refl
filled_is (suc n) first c l = ap (λ (k : List Cell). slice_set k (first + n) c) (filled_is n first c l)

pub disowned_is : (n first : ℕ) (m : Moment) (l : List Cell) → altered n first (change.Left m) l ≡ disowned n first m l
disowned_is zero first m l = refl
disowned_is (suc n) first m l = ap (λ (k : List Cell). altered_at (first + n) (change.Left m) k) (disowned_is n first m l)

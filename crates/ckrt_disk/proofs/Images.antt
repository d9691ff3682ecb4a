-- What a write does to a disk's bytes, place by place, and what a stop leaves of it.
use Rattle.std.proofs.Common.{◌≡◌, inl, inr, ℕ, ◌+◌, ◌-◌, ◌≤◌, ◌<◌, min, List, ◌++◌, length, get_or, take, drop, refl, sym, ◌∙◌, ap, subst, arith, length-append, append_assoc}
use Rattle.std.proofs.lemmas.List.{get_or-take, get_or-drop, get_or_append_left, get_or-append_right, take_at, drop_at, drop-drop, take-take, same_lists}
use borrow.Rule.Slice.PartMut.{put_mid}
use Rattle.std.proofs.Math.Seq.{take-add, take-append-add}
use Rattle.std.proofs.lemmas.Slice.{take-put_mid}
use Rattle.std.proofs.lemmas.Grind.{common_steps, get_or_default_zero}
use Rattle.std.proofs.lemmas.Bool.{cases_lt}
use Rattle.ckrt_disk.specs.Disk.{IsImage, IsOverwritten, IsWithin}
use Rattle.ckrt_disk.specs.Marked.{IsFilled}

length_part : (n at : ℕ) (c : List ℕ) → length (take n (drop at c)) ≡ min n (length c - at)
length_part n at c = grind (arith, common_steps)

pub get_part : (n at : ℕ) (c : List ℕ) (k x : ℕ) → k < n → at + k < length c → get_or (take n (drop at c)) k x ≡ get_or c (at + k) 0
get_part n at c k x lt in_c = get_or-take n (drop at c) k x lt ∙ get_or-drop at c k x ∙ get_or_default_zero c (at + k) x in_c

-- lists that agree at the places from `at` on, n of them, agree as parts
pub part_same : (n at : ℕ) (c d : List ℕ) → length c ≡ length d → ((i : ℕ) → IsWithin at n i → get_or c i 0 ≡ get_or d i 0) → take n (drop at c) ≡ take n (drop at d)
part_same n at c d size same = same_lists _ _ (length_part n at c ∙ ap (λ l. min n (l - at)) size ∙ sym (length_part n at d)) (λ k x lt.
    let short : k < min n (length c - at) = subst (λ l. k < l) (length_part n at c) lt in
    let below : k < n = omega arith in
    let in_c : at + k < length c = omega arith in
    get_part n at c k x below in_c ∙ same (at + k) (omega arith, omega arith) ∙ sym (get_part n at d k x below (omega arith)))

module _ (old : List ℕ) (at : ℕ) (bytes new : List ℕ) (holds : IsOverwritten old at bytes new) (room : at + length bytes ≤ length old) where
  pub written_size : length new ≡ length old
  written_size = grind (arith, common_steps, ap length holds)

  front : length (take at old) ≡ at
  front = grind (arith, common_steps)

  whole : new ≡ take at old ++ (bytes ++ drop (at + length bytes) old)
  whole = holds ∙ append_assoc (take at old) bytes (drop (at + length bytes) old)

  before : (i : ℕ) → i < at → get_or new i 0 ≡ get_or old i 0
  before i lt = ap (λ (l : List ℕ). get_or l i 0) whole ∙ get_or_append_left (take at old) (bytes ++ drop (at + length bytes) old) 0 i (omega (arith, front)) ∙ get_or-take at old i 0 lt

  behind : (i : ℕ) → at + length bytes ≤ i → get_or new i 0 ≡ get_or old i 0
  behind i le = ap (λ (l : List ℕ). get_or l i 0) holds ∙ get_or-append_right (take at old ++ bytes) (drop (at + length bytes) old) (at + length bytes) i 0 (omega (arith, front, length-append (take at old) bytes)) le
      ∙ get_or-drop (at + length bytes) old (i - (at + length bytes)) 0 ∙ ap (λ k. get_or old k 0) (omega arith)

  pub written_elsewhere : (i : ℕ) → ¬ IsWithin at (length bytes) i → get_or new i 0 ≡ get_or old i 0
  written_elsewhere i out = elim (cases_lt i at) [
    | inl lt ↦ before i lt
    | inr le ↦ elim (cases_lt i (at + length bytes)) [ inl lt ↦ absurd (out (le, lt)) | inr past ↦ behind i past ]
  ]

  pub written_there : take (length bytes) (drop at new) ≡ bytes
  written_there = ap (λ (l : List ℕ). take (length bytes) (drop at l)) whole ∙ ap (λ (l : List ℕ). take (length bytes) l) (drop_at (take at old) (bytes ++ drop (at + length bytes) old) at front) ∙ take_at bytes (drop (at + length bytes) old) (length bytes) refl

  -- the write leaves an image of what was there, where its range is pending
  pub written_image : (pending : ℕ → Type 0) → ((i : ℕ) → IsWithin at (length bytes) i → pending i) → IsImage old pending new
  written_image pending marked = record { size = written_size; same = λ i out. written_elsewhere i (λ within. out (marked i within)) }

-- what a stop may leave of an image is an image of the content
pub image_of_image : (pending : ℕ → Type 0) (content mid image : List ℕ) → IsImage content pending mid → IsImage mid pending image → IsImage content pending image
image_of_image pending content mid image first second = record { size = second.size ∙ first.size; same = λ i out. second.same i out ∙ first.same i out }

-- a fill changes pending bytes alone
pub filled_image : (pending : ℕ → Type 0) (fill old new : List ℕ) → IsFilled pending fill old new → IsImage old pending new
filled_image pending fill old new filled = record { size = filled.size; same = filled.kept }

-- an image stays one where more is pending
pub wider_image : (few many : ℕ → Type 0) (content image : List ℕ) → ((i : ℕ) → few i → many i) → IsImage content few image → IsImage content many image
wider_image few many content image more is = record { size = is.size; same = λ i out. is.same i (λ had. out (more i had)) }

-- bytes put behind bytes that were put
pub overwritten_on : (old mid new : List ℕ) (at : ℕ) (front back : List ℕ) → at + length front ≤ length old → IsOverwritten old at front mid → IsOverwritten mid (at + length front) back new → IsOverwritten old at (front ++ back) new
overwritten_on old mid new at front back room first second =
    let seam : length (take at old ++ front) ≡ at + length front = grind (arith, common_steps) in
    let t : take (at + length front) mid ≡ take at old ++ front = ap (λ (l : List ℕ). take (at + length front) l) first ∙ take_at (take at old ++ front) (drop (at + length front) old) (at + length front) seam in
    let d : drop (at + length front) mid ≡ drop (at + length front) old = ap (λ (l : List ℕ). drop (at + length front) l) first ∙ drop_at (take at old ++ front) (drop (at + length front) old) (at + length front) seam in
    let rest : drop (at + length front + length back) mid ≡ drop (at + length front + length back) old = sym (drop-drop (length back) (at + length front) mid) ∙ ap (λ (l : List ℕ). drop (length back) l) d ∙ drop-drop (length back) (at + length front) old in
    let count : at + length front + length back ≡ at + length (front ++ back) = omega (arith, length-append front back) in
    second ∙ ap (λ (l : List ℕ). l ++ back ++ drop (at + length front + length back) mid) t ∙ ap (λ (l : List ℕ). take at old ++ front ++ back ++ l) rest
    ∙ ap (λ (l : List ℕ). l ++ drop (at + length front + length back) old) (append_assoc (take at old) front back) ∙ ap (λ n. take at old ++ (front ++ back) ++ drop n old) count

pub overwritten_more : (old mid new bytes : List ℕ) (at done n : ℕ) → at + length bytes ≤ length old → done + n ≤ length bytes → IsOverwritten old at (take done bytes) mid → IsOverwritten mid (at + done) (take n (drop done bytes)) new → IsOverwritten old at (take (done + n) bytes) new
overwritten_more old mid new bytes at done n room bound first second =
    let count : length (take done bytes) ≡ done = grind (arith, common_steps) in
    let next : IsOverwritten mid (at + length (take done bytes)) (take n (drop done bytes)) new = subst (λ k. IsOverwritten mid (at + k) (take n (drop done bytes)) new) (sym count) second in
    subst (λ (l : List ℕ). IsOverwritten old at l new) (sym (take-add done n bytes)) (overwritten_on old mid new at (take done bytes) (take n (drop done bytes)) (omega (arith, count)) first next)

-- where the first bytes of a range were written, and the range is pending
pub partly_written : (old new bytes : List ℕ) (at done : ℕ) (pending : ℕ → Type 0) → at + length bytes ≤ length old → done ≤ length bytes → IsOverwritten old at (take done bytes) new → ((i : ℕ) → IsWithin at (length bytes) i → pending i) → IsImage old pending new
partly_written old new bytes at done pending room bound first marked =
    let count : length (take done bytes) ≡ done = grind (arith, common_steps) in
    written_image old at (take done bytes) new first (omega (arith, count)) pending (λ i within. marked i (within.0, omega (arith, within.1, count)))

-- what was torn while part of a range was written
pub torn_more : (old mid new bytes : List ℕ) (at done : ℕ) (pending : ℕ → Type 0) → at + length bytes ≤ length old → done ≤ length bytes → IsOverwritten old at (take done bytes) mid → ((i : ℕ) → IsWithin at (length bytes) i → pending i) → IsImage mid pending new → IsImage old pending new
torn_more old mid new bytes at done pending room bound first marked torn = image_of_image pending old mid new (partly_written old mid bytes at done pending room bound first marked) torn

-- bytes read behind bytes that were read
pub read_behind : (content buf part : List ℕ) (at done n : ℕ) → done ≤ length buf → length part ≡ length buf - done → n ≤ length part → take done buf ≡ take done (drop at content) → take n part ≡ take n (drop (at + done) content)
    → take (done + n) (put_mid done (length buf - done) buf part) ≡ take (done + n) (drop at content)
read_behind content buf part at done n bound size few first next =
    let all : take (length buf) (put_mid done (length buf - done) buf part) ≡ take done buf ++ part = take-put_mid done (length buf - done) buf part (length buf) (omega (arith, size)) bound in
    let count : length (take done buf) ≡ done = grind (arith, common_steps) in
    sym (take-take (done + n) (length buf) (put_mid done (length buf - done) buf part) (omega (arith, size)))
    ∙ ap (λ (l : List ℕ). take (done + n) l) all ∙ ap (λ k. take (k + n) (take done buf ++ part)) (sym count) ∙ take-append-add (take done buf) part n
    ∙ ap (λ (l : List ℕ). l ++ take n part) first ∙ ap (λ (l : List ℕ). take done (drop at content) ++ l) (next ∙ ap (λ (l : List ℕ). take n l) (sym (drop-drop done at content)))
    ∙ sym (take-add done n (drop at content))

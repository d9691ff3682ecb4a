-- Bytes that stand somewhere: after a write elsewhere, in parts, and as numbers.
use Rattle.std.proofs.Common.{◌≡◌, ◌⊎◌, inl, inr, ℕ, ◌+◌, ◌-◌, ◌≤◌, ◌<◌, ◌^◌, List, [], ◌∷◌, length, get_or, take, drop, sym, ◌∙◌, ap, arith}
use Rattle.std.proofs.lemmas.List.{drop-drop, drop-take, take-take, get_or-take, append-nil}
use Rattle.byteorder.specs.Endian.{little_number, little_bytes}
use Rattle.byteorder.specs.Numbers.{little_number-reads_back}
use Rattle.ckrt_disk.specs.Disk.{IsOverwritten}
use Rattle.ckrt_disk.proofs.Images.{part_same, written_size, written_elsewhere}
use Rattle.ckrt_stored.specs.Layout.{number_at}
use Rattle.ckrt_stored.specs.AreaFields.{HasBytes}

-- bytes that stand elsewhere still stand after a write
pub stays : (old : List ℕ) (at : ℕ) (bytes new : List ℕ) → IsOverwritten old at bytes new → at + length bytes ≤ length old
    → (place : ℕ) (part : List ℕ) → (place + length part ≤ at) ⊎ (at + length bytes ≤ place) → HasBytes old place part → HasBytes new place part
stays old at bytes new holds room place part apart has =
    part_same (length part) place new old (written_size old at bytes new holds room) (λ i w. written_elsewhere old at bytes new holds room i (λ v. elim apart [ inl below ↦ absurd (omega arith) | inr above ↦ absurd (omega arith) ]))
    ∙ has

-- n bytes of those that stand somewhere
part_of : (image : List ℕ) (at : ℕ) (bytes : List ℕ) (k n : ℕ) → k + n ≤ length bytes → HasBytes image at bytes → take n (drop (at + k) image) ≡ take n (drop k bytes)
part_of image at bytes k n room has =
    let split : length bytes ≡ k + (length bytes - k) = omega arith in
    sym (ap (λ (l : List ℕ). take n (drop k l)) (sym has)
    ∙ ap (λ m. take n (drop k (take m (drop at image)))) split
    ∙ ap (λ (l : List ℕ). take n l) (drop-take k (length bytes - k) (drop at image))
    ∙ take-take n (length bytes - k) (drop k (drop at image)) (omega arith)
    ∙ ap (λ (l : List ℕ). take n l) (drop-drop k at image))

-- n bytes of the first ones
pub part_in : (image : List ℕ) (m k n : ℕ) → k + n ≤ m → take n (drop k (take m image)) ≡ take n (drop k image)
part_in image m k n room =
    let split : m ≡ k + (m - k) = omega arith in
    ap (λ x. take n (drop k (take x image))) split ∙ ap (λ (l : List ℕ). take n l) (drop-take k (m - k) image) ∙ take-take n (m - k) (drop k image) (omega arith)

-- the number in n bytes of those that stand somewhere
pub number_is : (n k m x : ℕ) (image : List ℕ) (at j : ℕ) (bytes : List ℕ) → k ≡ at + j → k + n ≤ m → j + n ≤ length bytes → HasBytes image at bytes → take n (drop j bytes) ≡ little_bytes n x → x < 256 ^ n → number_at n k (take m image) ≡ x
unfolding number_at
number_is n k m x image at j bytes place room within has field small =
    ap (λ (l : List ℕ). little_number n l) (part_in image m k n room ∙ ap (λ i. take n (drop i image)) place ∙ part_of image at bytes j n within has ∙ field)
    ∙ ap (λ (l : List ℕ). little_number n l) (sym (append-nil (little_bytes n x))) ∙ little_number-reads_back n x [] small

-- a byte that stands somewhere
pub byte_is : (image : List ℕ) (at m x : ℕ) → 1 ≤ m → HasBytes image at (x ∷ []) → get_or (take m (drop at image)) 0 0 ≡ x
byte_is image at m x some has = get_or-take m (drop at image) 0 0 (omega arith) ∙ sym (get_or-take 1 (drop at image) 0 0 (omega arith)) ∙ ap (λ (l : List ℕ). get_or l 0 0) has

-- What keeps the pages of a memory in the slots of an area.
use Rattle.std.proofs.Common.{◌≡◌, inl, inr, ⊎_elim, ℕ, zero, suc, ◌+◌, ◌-◌, ◌*◌, ◌≤◌, ◌<◌, ◌≢◌, true, false, List, take, drop, sym, ◌∙◌, ap, subst, arith}
use Rattle.std.proofs.lemmas.Bool.{cases_eq}
use Rattle.std.proofs.lemmas.List.{drop-drop, drop-take, take-take}
use Rattle.ckrt_disk.specs.Disk.{IsWithin}
use Rattle.ckrt_disk.specs.Frame.{IsSameOutside}
use Rattle.ckrt_disk.proofs.Images.{part_same}
use Rattle.ckrt_memory.specs.Marks.{Follows, IsAllDirty, IsCleaned, Memory}
use Rattle.ckrt_memory.specs.Pages.{page_of}
use Rattle.ckrt_stored.specs.declared.config.Config.{Config}
use Rattle.ckrt_stored.specs.Holds.{AllPagesStand, BothStand, CleanPagesStand, slot_at}
use Rattle.ckrt_stored.specs.Layout.{journal_at, memory_at, memory_of, memory_size}
use Rattle.ckrt_stored.specs.Write.{WritesAt}
use Rattle.ckrt_stored.proofs.WriteLemmas.{area_within}

-- STORES

pub follows_stand : (c : Config) (area : ℕ) (old new : Memory) (image : List ℕ) → area ≤ 1 → Follows old new → CleanPagesStand c area old image → CleanPagesStand c area new image
follows_stand c area old new image low follows stand p some below clean =
    let kept = follows.kept area p (omega (arith, low)) some clean in
    stand p some below kept.0 ∙ sym kept.1

-- CLEANED MARKS

-- an area in whose slots all pages stand may be cleaned
pub cleaned_stand : (c : Config) (area : ℕ) (old new : Memory) (image : List ℕ) → IsCleaned area old new → AllPagesStand c area old.bytes image → CleanPagesStand c area new image
cleaned_stand c area old new image cleaned all p some below clean = all p some below ∙ ap (λ (l : List ℕ). page_of l p) (sym cleaned.bytes)

-- the other area stays as it is
pub other_stand : (c : Config) (area b : ℕ) (old new : Memory) (image : List ℕ) → b ≤ 1 → b ≢ area → IsCleaned area old new → CleanPagesStand c b old image → CleanPagesStand c b new image
other_stand c area b old new image low other cleaned stand p some below clean =
    stand p some below (sym (cleaned.others b p (omega (arith, low)) other) ∙ clean) ∙ ap (λ (l : List ℕ). page_of l p) (sym cleaned.bytes)

-- READING

-- the memory that was read of an area stands in its slots
pub memory_stands : (c : Config) (area : ℕ) (memory image : List ℕ) → memory ≡ memory_of c area image → AllPagesStand c area memory image
memory_stands c area memory image is p some below =
    let there : memory_at c area + 4096 * (p - 1) ≡ slot_at c area p = omega (arith, some) in
    sym (ap (λ (l : List ℕ). page_of l p) is ∙ page_of_part (memory_size c) (memory_at c area) image p some (omega (arith, below)) ∙ ap (λ n. take 4096 (drop n image)) there)
  where
    page_of_part : (size at : ℕ) (image : List ℕ) (p : ℕ) → 1 ≤ p → 4096 * p ≤ size → page_of (take size (drop at image)) p ≡ take 4096 (drop (at + 4096 * (p - 1)) image)
    page_of_part size at image p some below =
        let n = 4096 * (p - 1) in let front : List ℕ = drop at image in
        let split : size ≡ n + (size - n) = omega (arith, some, below) in
        ap (λ k. take 4096 (drop n (take k front))) split
        ∙ ap (λ (l : List ℕ). take 4096 l) (drop-take n (size - n) front)
        ∙ take-take 4096 (size - n) (drop n front) (omega (arith, some, below))
        ∙ ap (λ (l : List ℕ). take 4096 l) (drop-drop n at image)

-- so once that area's marks were taken away from a memory that was dirty everywhere, the clean pages stand
pub read_stand : (c : Config) (area : ℕ) (dirty clean : Memory) (image : List ℕ) → area ≤ 1 → c.pages ≤ 65536 → IsAllDirty dirty → IsCleaned area dirty clean → dirty.bytes ≡ memory_of c area image → BothStand c clean image
read_stand c area dirty clean image low few all cleaned is b most = elim (cases_eq b area) [
  | inl same ↦ subst (λ n. CleanPagesStand c n clean image) (sym same) (cleaned_stand c area dirty clean image cleaned (memory_stands c area dirty.bytes image is))
  | inr other ↦ other_stand c area b dirty clean image most other cleaned (λ p some below is_clean. absurd (dirty_or_clean (sym (all b p (omega (arith, most)) (omega (arith, below, few))) ∙ is_clean)))
]
  where
    dirty_or_clean : true ≡ false → ⊥
    dirty_or_clean e = absurd (cc)

-- WRITING

-- a slot of one area isn't among what is written for the other one
slot_apart : (c : Config) (area p i : ℕ) → area ≤ 1 → p < c.pages → IsWithin (slot_at c area p) 4096 i → ¬ WritesAt c (1 - area) i
slot_apart c zero p i low below w writes = ⊎_elim (λ gate. omega (arith, w.1, gate.0, below)) (λ fills. ⊎_elim (λ inside. omega (arith, w.1, inside.0, below)) (λ first. omega (arith, w.1, first.0, below)) fills) writes
slot_apart c (suc zero) p i low below w writes = ⊎_elim (λ gate. omega (arith, w.0, gate.1)) (λ fills. ⊎_elim (λ inside. omega (arith, w.0, inside.1)) (λ first. omega (arith, w.1, first.0, below)) fills) writes
slot_apart c (suc (suc area)) p i low below w writes = omega (arith, low)

-- the writing of one area leaves the pages that stand in the other
pub written_stand : (c : Config) (area : ℕ) (m : Memory) (content image : List ℕ) → area ≤ 1 → IsSameOutside (WritesAt c (1 - area)) content image → CleanPagesStand c area m content → CleanPagesStand c area m image
written_stand c area m content image low same stand p some below clean =
    part_same 4096 (slot_at c area p) image content same.size (λ i w. same.same i (slot_apart c area p i low below w)) ∙ stand p some below clean

-- a slot lies before the journals
journal_apart : (c : Config) (area index p i : ℕ) → area ≤ 1 → p < c.pages → IsWithin (slot_at c area p) 4096 i → ¬ (journal_at c index ≤ i)
journal_apart c area index p i low below w behind = let end = area_within c area low in omega (arith, w.1, behind, below, end)

-- what is written in a journal leaves the pages that stand
pub journal_stand : (c : Config) (area index : ℕ) (m : Memory) (region : ℕ → Type 0) (content image : List ℕ) → area ≤ 1 → ((i : ℕ) → region i → journal_at c index ≤ i) → IsSameOutside region content image
    → CleanPagesStand c area m content → CleanPagesStand c area m image
journal_stand c area index m region content image low behind same stand p some below clean =
    part_same 4096 (slot_at c area p) image content same.size (λ i w. same.same i (λ r. journal_apart c area index p i low below w (behind i r))) ∙ stand p some below clean

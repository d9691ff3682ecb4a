-- What is read of a slot.
use Rattle.std.proofs.Common.{◌≡◌, ℕ, ◌+◌, ◌≤◌, true, false, nat_lt, if◌then◌else◌, List, length, take, drop, Option, Some, None, lit<, refl, sym, ◌∙◌, ap, arith}
use Rattle.std.proofs.lemmas.Bool.Decides.{nat_tests}
use Rattle.std.proofs.lemmas.List.{take_all}
use Rattle.ckrt_disk.specs.Disk.{IsOverwritten, IsWithin}
use Rattle.ckrt_disk.specs.Frame.{IsSameOutside}
use Rattle.ckrt_disk.proofs.Images.{part_same, written_size, written_there}
use Rattle.ckrt_stored.specs.declared.config.Config.{Config}
use Rattle.ckrt_stored.specs.AreaFields.{HasBytes}
use Rattle.ckrt_stored.specs.Layout.{number_at}
use Rattle.ckrt_stored.proofs.ByteLemmas.{number_is}
use Rattle.ckrt_drive.specs.declared.slot.Slot.{Slot}
use Rattle.ckrt_drive.specs.SlotLaws.{IsInRange, ReadsBack}
use Rattle.ckrt_drive.specs.Slot.{MAGIC, SLOT_BYTES, TAKEN_LIMIT, RECORD_VERSION, slot_at, slot_bytes, slot_in, slot_of}

slot_is : (block : List ℕ) (s : Slot) → number_at 8 0 block ≡ MAGIC → number_at 8 8 block ≡ RECORD_VERSION → nat_lt s.taken TAKEN_LIMIT ≡ true
    → number_at 8 16 block ≡ s.generation → number_at 8 24 block ≡ s.count → number_at 8 32 block ≡ s.taken → slot_in block ≡ Some s
slot_is block s magic version few generation count taken = rw (magic, version, generation, count, taken, few) refl

-- a slot that was written reads as it is
pub reads_back : ReadsBack
reads_back s fit =
    let block : List ℕ = slot_bytes s in
    let wide : length block ≡ 40 = refl in
    let all : take 40 block ≡ block = take_all 40 block (omega arith) in
    let has : HasBytes block 0 block = take_all 40 block (omega arith) in
    let few : nat_lt s.taken TAKEN_LIMIT ≡ true = grind (arith, nat_tests, fit.taken) in
    ap slot_in (sym all)
    ∙ slot_is (take 40 block) s
    (number_is 8 0 40 MAGIC block 0 0 block refl (omega arith) (omega arith) has refl (lit< tt))
    (number_is 8 8 40 RECORD_VERSION block 0 8 block refl (omega arith) (omega arith) has refl (lit< tt))
    few
    (number_is 8 16 40 s.generation block 0 16 block refl (omega arith) (omega arith) has refl fit.generation)
    (number_is 8 24 40 s.count block 0 24 block refl (omega arith) (omega arith) has refl fit.count)
    (number_is 8 32 40 s.taken block 0 32 block refl (omega arith) (omega arith) has refl (omega (arith, fit.taken)))

abbrev by_length : Config → ℕ → List ℕ → ℕ → Option Slot
by_length c area block n = if nat_lt n (slot_at c area + SLOT_BYTES) then None else slot_in block

-- a slot that was written on a disk
pub written_slot : (c : Config) (area : ℕ) (s : Slot) (old new : List ℕ) → IsInRange s → slot_at c area + 40 ≤ length old → IsOverwritten old (slot_at c area) (slot_bytes s) new → slot_of c area new ≡ Some s
written_slot c area s old new fit room written =
    let wide : length (slot_bytes s) ≡ 40 = refl in
    let size : length new ≡ length old = written_size old (slot_at c area) (slot_bytes s) new written (omega arith) in
    let long : nat_lt (length new) (slot_at c area + 40) ≡ false = grind (arith, nat_tests, size, room) in
    let there : take 40 (drop (slot_at c area) new) ≡ slot_bytes s = written_there old (slot_at c area) (slot_bytes s) new written (omega arith) in
    ap (λ b. if b then None else slot_in (take 40 (drop (slot_at c area) new))) long ∙ ap slot_in there ∙ reads_back s fit

-- a slot stays where the bytes outside it change
pub slot_stays : (c : Config) (area : ℕ) (region : ℕ → Type 0) (before image : List ℕ) → IsSameOutside region before image → ((i : ℕ) → IsWithin (slot_at c area) 40 i → ¬ region i) → slot_of c area image ≡ slot_of c area before
slot_stays c area region before image same apart =
    ap (by_length c area (take 40 (drop (slot_at c area) image))) same.size
    ∙ ap (λ (l : List ℕ). by_length c area l (length before)) (part_same 40 (slot_at c area) image before same.size (λ i w. same.same i (apart i w)))

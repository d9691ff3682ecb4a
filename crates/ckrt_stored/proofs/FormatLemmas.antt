-- What stands on a freshly formatted disk, what its image recovers to, and where formatting writes at which moments.
use Rattle.std.proofs.Common.{◌≡◌, ◌⊎◌, inl, inr, ⊎_elim, ℕ, ◌+◌, ◌≤◌, ◌<◌, ◌^◌, ◌&&◌, ◌-◌, Bool, true, false, cond, nat_eq, nat_lt, nat_le, List, [], ◌∷◌, ◌++◌, length, get_or, take, drop, Some, None, Result, Ok, Err, lit<, refl, sym, ◌∙◌, ap, arith}
use Rattle.std.proofs.lemmas.List.{get_or-take, get_or-drop, length-append, drop-drop, drop-take, take-take}
use Rattle.std.proofs.Math.Seq.{take-append_seam, drop-append_seam}
use Rattle.std.proofs.lemmas.Bool.Decides.{nat_tests}
use Rattle.std.proofs.lemmas.Grind.{common_steps}
use Rattle.byteorder.specs.Endian.{little_bytes}
use Rattle.sha2.specs.Sha256.{sha256}
use Rattle.sha2.proofs.Facts256.{length-sha256}
use Rattle.ckrt_disk.specs.Disk.{IsImage, IsOverwritten, IsWithin, LeavesOnly}
use Rattle.ckrt_disk.specs.Frame.{Nowhere, WritesWithin}
use Rattle.ckrt_disk.specs.declared.disk.Disk.{Ghosts}
use Rattle.ckrt_disk.proofs.FrameLemmas.{wider, writes_on_within, byte_left}
use Rattle.ckrt_disk.proofs.Moments.{weaker, goes_on}
use Rattle.ckrt_disk.proofs.Images.{part_same, wider_image, written_size, written_there, written_image}
use Rattle.ckrt_calls.specs.Beginnings as beginnings
use Rattle.ckrt_tables.specs.Fresh.{fresh_bytes, IsFreshEncoding}
use Rattle.ckrt_tables.proofs.AllFit.{fresh_savable}
use Rattle.ckrt_stored.specs.declared.config.Config.{Config}
use Rattle.ckrt_stored.specs.AreaFields.{HasBytes, header_fields}
use Rattle.ckrt_stored.specs.Layout.{is_valid, is_open, memory_size, size_needed, area_at, tables_at, memory_at, journal_at, number_at}
use Rattle.ckrt_stored.proofs.ByteLemmas.{stays, number_is, byte_is}
use Rattle.ckrt_stored.proofs.HoldLemmas.{header_gate, header_stands}
use Rattle.ckrt_stored.specs.declared.fault.RecoverFault.TheVariants.{NotFormatted, Damaged}
use Rattle.ckrt_stored.specs.declared.fault.RecoverFault.{RecoverFault}
use Rattle.ckrt_stored.specs.Superblock.{MAGIC, config_within, note_for, note_in, note_of, superblock_fields, superblock_in, superblock_of}
use Rattle.ckrt_stored.specs.Frame.{HoldsState}
use Rattle.ckrt_stored.specs.Recovery.{◌>>=◌, Recovers, area_in_use}
use Rattle.ckrt_stored.specs.Fields.{fresh_header, fresh_memory, HasFreshArea, IsFresh}
use Rattle.ckrt_stored.specs.Format.{FormatsAt, FormatsBehindGate, IsFormatted, IsFormatting}
use Rattle.ckrt_stored.specs.Programs.{RecoversToStart, formatted_program}
use Rattle.ckrt_stored.proofs.RecoverLemmas.{found, from_fault}
use Rattle.ckrt_stored.proofs.SwitchLemmas.{switched}

-- WRITES

pub fresh_area : (c : Config) (memory c₀ c₁ c₂ c₃ c₄ : List ℕ) → size_needed c ≤ length c₀ → length memory ≡ memory_size c
    → IsOverwritten c₀ (area_at c 0) (165 ∷ []) c₁ → IsOverwritten c₁ (area_at c 0 + 8) (header_fields fresh_header) c₂
    → IsOverwritten c₂ (tables_at c 0) (fresh_bytes c.pages) c₃ → IsOverwritten c₃ (memory_at c 0) memory c₄ → HasFreshArea c memory c₄
fresh_area c memory c₀ c₁ c₂ c₃ c₄ room size w₁ w₂ w₃ w₄ =
    let header : length (header_fields fresh_header) ≡ 32 = refl in
    let tables : length (fresh_bytes c.pages) ≡ 176 = refl in
    let l₁ : length c₁ ≡ length c₀ = written_size c₀ (area_at c 0) (165 ∷ []) c₁ w₁ (omega arith) in
    let r₂ : area_at c 0 + 8 + 32 ≤ length c₁ = omega arith in
    let l₂ : length c₂ ≡ length c₁ = written_size c₁ (area_at c 0 + 8) (header_fields fresh_header) c₂ w₂ r₂ in
    let r₃ : tables_at c 0 + 176 ≤ length c₂ = omega arith in
    let l₃ : length c₃ ≡ length c₂ = written_size c₂ (tables_at c 0) (fresh_bytes c.pages) c₃ w₃ r₃ in
    let r₄ : memory_at c 0 + length memory ≤ length c₃ = omega arith in
    record {
      gate = stays c₃ (memory_at c 0) memory c₄ w₄ r₄ (area_at c 0) (165 ∷ []) (inl (omega arith))
          (stays c₂ (tables_at c 0) (fresh_bytes c.pages) c₃ w₃ r₃ (area_at c 0) (165 ∷ []) (inl (omega arith))
          (stays c₁ (area_at c 0 + 8) (header_fields fresh_header) c₂ w₂ r₂ (area_at c 0) (165 ∷ []) (inl (omega arith))
          (written_there c₀ (area_at c 0) (165 ∷ []) c₁ w₁ (omega arith))));
      header = stays c₃ (memory_at c 0) memory c₄ w₄ r₄ (area_at c 0 + 8) (header_fields fresh_header) (inl (omega arith))
          (stays c₂ (tables_at c 0) (fresh_bytes c.pages) c₃ w₃ r₃ (area_at c 0 + 8) (header_fields fresh_header) (inl (omega arith))
          (written_there c₁ (area_at c 0 + 8) (header_fields fresh_header) c₂ w₂ r₂));
      tables = stays c₃ (memory_at c 0) memory c₄ w₄ r₄ (tables_at c 0) (fresh_bytes c.pages) (inl (omega arith))
          (written_there c₂ (tables_at c 0) (fresh_bytes c.pages) c₃ w₃ r₃);
      pages = written_there c₃ (memory_at c 0) memory c₄ w₄ r₄;
    }

-- what stands in area 0 still stands after a write elsewhere
area_stays : (c : Config) (memory old : List ℕ) (at : ℕ) (bytes new : List ℕ) → 1 ≤ c.pages → length memory ≡ memory_size c → IsOverwritten old at bytes new → at + length bytes ≤ length old
    → (at + length bytes ≤ area_at c 0) ⊎ (area_at c 1 ≤ at) → HasFreshArea c memory old → HasFreshArea c memory new
area_stays c memory old at bytes new pages size holds room apart has = record {
  gate = stays old at bytes new holds room (area_at c 0) (165 ∷ []) (away (area_at c 0) 1 (omega arith) (omega arith)) has.gate;
  header = stays old at bytes new holds room (area_at c 0 + 8) (header_fields fresh_header) (away (area_at c 0 + 8) 32 (omega arith) (omega arith)) has.header;
  tables = stays old at bytes new holds room (tables_at c 0) (fresh_bytes c.pages) (away (tables_at c 0) 176 (omega arith) (omega arith)) has.tables;
  pages = stays old at bytes new holds room (memory_at c 0) memory (away (memory_at c 0) (length memory) (omega arith) (omega arith)) has.pages;
}
  where
    away : (place n : ℕ) → area_at c 0 ≤ place → place + n ≤ area_at c 1 → (place + n ≤ at) ⊎ (at + length bytes ≤ place)
    away place n from within = elim apart [ inl below ↦ inr (omega arith) | inr above ↦ inl (omega arith) ]

-- there are 64 of them
pub fields_length : (c : Config) (guest : List ℕ) → length (superblock_fields c guest) ≡ 64
fields_length c guest = omega (arith, length-append (sha256 guest) (little_bytes 8 (length guest)), length-sha256 guest)

pub is_fresh : (c : Config) (guest memory c₀ c₁ c₂ c₃ : List ℕ) → 1 ≤ c.pages → 1 ≤ c.journal → size_needed c ≤ length c₀ → length memory ≡ memory_size c
    → IsOverwritten c₀ (journal_at c 0) (0 ∷ []) c₁ → IsOverwritten c₁ (area_at c 1) (0 ∷ []) c₂ → IsOverwritten c₂ 8 (superblock_fields c guest) c₃
    → HasFreshArea c memory c₀ → IsFresh c guest memory c₃
is_fresh c guest memory c₀ c₁ c₂ c₃ pages journal room size w₁ w₂ w₃ has =
    let fields : length (superblock_fields c guest) ≡ 64 = fields_length c guest in
    let r₁ : journal_at c 0 + 1 ≤ length c₀ = omega arith in
    let l₁ : length c₁ ≡ length c₀ = written_size c₀ (journal_at c 0) (0 ∷ []) c₁ w₁ r₁ in
    let r₂ : area_at c 1 + 1 ≤ length c₁ = omega arith in
    let l₂ : length c₂ ≡ length c₁ = written_size c₁ (area_at c 1) (0 ∷ []) c₂ w₂ r₂ in
    let r₃ : 8 + length (superblock_fields c guest) ≤ length c₂ = omega arith in
    record {
      area = area_stays c memory c₂ 8 (superblock_fields c guest) c₃ pages size w₃ r₃ (inl (omega arith))
          (area_stays c memory c₁ (area_at c 1) (0 ∷ []) c₂ pages size w₂ r₂ (inr (omega arith))
          (area_stays c memory c₀ (journal_at c 0) (0 ∷ []) c₁ pages size w₁ r₁ (inr (omega arith)) has));
      journal = stays c₂ 8 (superblock_fields c guest) c₃ w₃ r₃ (journal_at c 0) (0 ∷ []) (inr (omega arith))
          (stays c₁ (area_at c 1) (0 ∷ []) c₂ w₂ r₂ (journal_at c 0) (0 ∷ []) (inr (omega arith))
          (written_there c₀ (journal_at c 0) (0 ∷ []) c₁ w₁ r₁));
      other_area = stays c₂ 8 (superblock_fields c guest) c₃ w₃ r₃ (area_at c 1) (0 ∷ []) (inr (omega arith))
          (written_there c₁ (area_at c 1) (0 ∷ []) c₂ w₂ r₂);
      superblock = written_there c₂ 8 (superblock_fields c guest) c₃ w₃ r₃;
    }

-- FIELDS

pub some_pages : (c : Config) → is_valid c ≡ true → (1 ≤ c.pages) × (1 ≤ c.journal)
some_pages c valid = (grind (arith, nat_tests, valid), grind (arith, nat_tests, valid))

-- the fields of a configuration that is in its ranges fit four bytes
fits : (c : Config) → is_valid c ≡ true → (c.pages < 256 ^ 4) × (c.harts < 256 ^ 4) × (c.journal < 256 ^ 4)
fits c valid = (grind (arith, nat_tests, valid), grind (arith, nat_tests, valid), grind (arith, nat_tests, valid))

few : (c : Config) → is_valid c ≡ true → (c.pages ≤ 65536) × (c.harts ≤ 8)
few c valid = (grind (arith, nat_tests, valid), grind (arith, nat_tests, valid))

-- the encoding of the tables of a program that hasn't begun
encoded : IsFreshEncoding
encoded pages harts = refl

-- THE FIRST GATE

closed_block : (size : ℕ) (block : List ℕ) → is_open block ≡ false → superblock_in size block ≡ Err NotFormatted
closed_block size block closed = rw closed refl

-- a disk whose first gate is closed isn't formatted
pub closed_recovers : (image : List ℕ) → is_open image ≡ false → Recovers image (Err NotFormatted)
closed_recovers image closed = from_fault image NotFormatted
    (ap (λ (r : Result Config RecoverFault). r >>= λ config. area_in_use config image >>= λ area. found config area) (by_size (nat_lt (length image) 32)))
  where
    first : is_open (take 32 image) ≡ false
    first = ap (λ x. nat_eq x 165) (get_or-take 32 image 0 0 (omega arith)) ∙ closed

    by_size : (b : Bool) → cond b (Err NotFormatted) (superblock_in (length image) (take 32 image)) ≡ Err NotFormatted
    by_size true = refl
    by_size false = closed_block (length image) (take 32 image) first

-- A FRESH DISK

superblock_is : (c : Config) (size : ℕ) (block : List ℕ) → is_open block ≡ true → number_at 8 8 block ≡ MAGIC → number_at 4 16 block ≡ 3
    → number_at 4 20 block ≡ c.pages → number_at 4 24 block ≡ c.harts → number_at 4 28 block ≡ c.journal → superblock_in size block ≡ config_within size c
superblock_is c size block opened magic version pages harts journal = rw (opened, magic, version, pages, harts, journal) refl

within : (c : Config) (size : ℕ) → is_valid c ≡ true → size_needed c ≤ size → config_within size c ≡ Ok c
within c size valid room =
    let enough : nat_le (size_needed c) size ≡ true = grind (arith, nat_tests, room) in
    ap (λ b. cond (b && nat_le (size_needed c) size) (Ok c) (Err Damaged)) valid ∙ ap (λ b. cond b (Ok c) (Err Damaged)) enough

noted_is : (digest : List ℕ) (bytes : ℕ) (block : List ℕ) → is_open block ≡ true → number_at 8 8 block ≡ MAGIC → number_at 4 16 block ≡ 3
    → take 32 (drop 32 block) ≡ digest → number_at 8 64 block ≡ bytes → note_in block ≡ Some (record { digest = digest; bytes = bytes })
noted_is digest bytes block opened magic version is_digest is_bytes = rw (opened, magic, version, is_digest, is_bytes) refl

small_guest : (c : Config) (guest : List ℕ) → is_valid c ≡ true → length guest ≤ memory_size c → length guest < 256 ^ 8
small_guest c guest valid guest_fits =
    let pages = (few c valid).0 in omega (arith, pages, guest_fits, lit< {m = 268435456} {n = 256 ^ 8} tt)

take-append-at : (xs ys : List ℕ) (n : ℕ) → length xs ≡ n → take n (xs ++ ys) ≡ xs
take-append-at xs ys n is = ap (λ m. take m (xs ++ ys)) (sym is) ∙ take-append_seam xs ys

drop-append-at : (xs ys : List ℕ) (n : ℕ) → length xs ≡ n → drop n (xs ++ ys) ≡ ys
drop-append-at xs ys n is = ap (λ m. drop m (xs ++ ys)) (sym is) ∙ drop-append_seam xs ys

-- n bytes of those that stand somewhere, and of the first ones
part_of : (image : List ℕ) (at : ℕ) (bytes : List ℕ) (k n : ℕ) → k + n ≤ length bytes → HasBytes image at bytes → take n (drop (at + k) image) ≡ take n (drop k bytes)
part_of image at bytes k n room has =
    let split : length bytes ≡ k + (length bytes - k) = omega arith in
    sym (ap (λ (l : List ℕ). take n (drop k l)) (sym has)
    ∙ ap (λ m. take n (drop k (take m (drop at image)))) split
    ∙ ap (λ (l : List ℕ). take n l) (drop-take k (length bytes - k) (drop at image))
    ∙ take-take n (length bytes - k) (drop k (drop at image)) (omega arith)
    ∙ ap (λ (l : List ℕ). take n l) (drop-drop k at image))

part_in : (image : List ℕ) (m k n : ℕ) → k + n ≤ m → take n (drop k (take m image)) ≡ take n (drop k image)
part_in image m k n room =
    let split : m ≡ k + (m - k) = omega arith in
    ap (λ x. take n (drop k (take x image))) split ∙ ap (λ (l : List ℕ). take n l) (drop-take k (m - k) image) ∙ take-take n (m - k) (drop k image) (omega arith)

module _ (c : Config) (guest image : List ℕ) (valid : is_valid c ≡ true) (guest_fits : length guest ≤ memory_size c) (room : size_needed c ≤ length image)
    (opened : is_open image ≡ true) (fresh : IsFresh c guest (fresh_memory c guest) image) where
  superblock : superblock_of image ≡ Ok c
  superblock =
      let wide : length (superblock_fields c guest) ≡ 64 = fields_length c guest in
      let long : nat_lt (length image) 32 ≡ false = grind (arith, nat_tests, room) in
      let first : is_open (take 32 image) ≡ true = ap (λ x. nat_eq x 165) (get_or-take 32 image 0 0 (omega arith)) ∙ opened in
      let small = fits c valid in
      ap (λ b. cond b (Err NotFormatted) (superblock_in (length image) (take 32 image))) long
      ∙ superblock_is c (length image) (take 32 image) first
      (number_is 8 8 32 MAGIC image 8 0 (superblock_fields c guest) refl (omega arith) (omega arith) fresh.superblock refl (lit< tt))
      (number_is 4 16 32 3 image 8 8 (superblock_fields c guest) refl (omega arith) (omega arith) fresh.superblock refl (lit< tt))
      (number_is 4 20 32 c.pages image 8 12 (superblock_fields c guest) refl (omega arith) (omega arith) fresh.superblock refl small.0)
      (number_is 4 24 32 c.harts image 8 16 (superblock_fields c guest) refl (omega arith) (omega arith) fresh.superblock refl small.1)
      (number_is 4 28 32 c.journal image 8 20 (superblock_fields c guest) refl (omega arith) (omega arith) fresh.superblock refl small.2)
      ∙ within c (length image) valid room

  holds : HoldsState c (record { index = 0; header = fresh_header }) (fresh_memory c guest) (record { tables = beginnings.fresh c.pages c.harts; held = [] }) image
  holds =
      let size : length (fresh_memory c guest) ≡ memory_size c = grind (arith, common_steps, guest_fits) in
      record {
        index = omega arith;
        header = header_stands c 0 fresh_header image (record { generation = lit< tt; count = lit< tt; offset = lit< tt; tables = lit< tt; version = lit< tt })
            (sym (header_gate c 0 image) ∙ ap (λ x. nat_eq x 165) (byte_is image (area_at c 0) 40 165 (omega arith) fresh.area.gate)) fresh.area.header;
        opened = refl;
        checked = refl;
        end = refl;
        savable = fresh_savable c.pages c.harts (few c valid).0 (few c valid).1;
        tables = fresh.area.tables ∙ sym (encoded c.pages c.harts);
        pages = ap (λ n. take n (drop (memory_at c 0) image)) (sym size) ∙ fresh.area.pages;
        no_batch = ap (λ x. nat_eq x 165) (byte_is image (journal_at c 0) c.journal 0 (some_pages c valid).1 fresh.journal);
      }

  fresh_recovers : RecoversToStart (formatted_program c guest) image
  fresh_recovers = switched c (record { index = 0; header = fresh_header }) (fresh_memory c guest) (record { tables = beginnings.fresh c.pages c.harts; held = [] }) image superblock holds
      (λ is. let no : true ≡ false = sym is ∙ ap (λ x. nat_eq x 165) (byte_is image (area_at c 1) 40 0 (omega arith) fresh.other_area) in absurd (cc))

  noted : note_of image ≡ Some (note_for guest)
  noted =
      let wide : length (superblock_fields c guest) ≡ 64 = fields_length c guest in
      let digest : length (sha256 guest) ≡ 32 = length-sha256 guest in
      let long : nat_lt (length image) 72 ≡ false = grind (arith, nat_tests, room) in
      let first : is_open (take 72 image) ≡ true = ap (λ x. nat_eq x 165) (get_or-take 72 image 0 0 (omega arith)) ∙ opened in
      ap (λ b. cond b None (note_in (take 72 image))) long
      ∙ noted_is (sha256 guest) (length guest) (take 72 image) first
      (number_is 8 8 72 MAGIC image 8 0 (superblock_fields c guest) refl (omega arith) (omega arith) fresh.superblock refl (lit< tt))
      (number_is 4 16 72 3 image 8 8 (superblock_fields c guest) refl (omega arith) (omega arith) fresh.superblock refl (lit< tt))
      (part_in image 72 32 32 (omega arith) ∙ part_of image 8 (superblock_fields c guest) 24 32 (omega arith) fresh.superblock ∙ take-append-at (sha256 guest) (little_bytes 8 (length guest)) 32 digest)
      (number_is 8 64 72 (length guest) image 8 56 (superblock_fields c guest) refl (omega arith) (omega arith) fresh.superblock
      (ap (λ (l : List ℕ). take 8 l) (drop-append-at (sha256 guest) (little_bytes 8 (length guest)) 32 digest)) (small_guest c guest valid guest_fits))

  pub fresh_is_formatted : IsFormatted c guest image
  fresh_is_formatted = record { recovers = fresh_recovers; noted = noted }

-- THE LAST WRITE

-- other bytes than the first are the same
fresh_moves : (c : Config) (guest memory content image : List ℕ) → length image ≡ length content → ((i : ℕ) → 1 ≤ i → get_or image i 0 ≡ get_or content i 0) → IsFresh c guest memory content → IsFresh c guest memory image
fresh_moves c guest memory content image size same fresh = record {
  area = record {
    gate = moves (area_at c 0) (165 ∷ []) (omega arith) fresh.area.gate;
    header = moves (area_at c 0 + 8) (header_fields fresh_header) (omega arith) fresh.area.header;
    tables = moves (tables_at c 0) (fresh_bytes c.pages) (omega arith) fresh.area.tables;
    pages = moves (memory_at c 0) memory (omega arith) fresh.area.pages;
  };
  journal = moves (journal_at c 0) (0 ∷ []) (omega arith) fresh.journal;
  other_area = moves (area_at c 1) (0 ∷ []) (omega arith) fresh.other_area;
  superblock = moves 8 (superblock_fields c guest) (omega arith) fresh.superblock;
}
  where
    moves : (at : ℕ) (bytes : List ℕ) → 1 ≤ at → HasBytes content at bytes → HasBytes image at bytes
    moves at bytes behind has = part_same (length bytes) at image content size (λ i w. same i (omega (arith, w.0))) ∙ has

module _ (c : Config) (guest content : List ℕ) (valid : is_valid c ≡ true) (guest_fits : length guest ≤ memory_size c) (room : size_needed c ≤ length content) (fresh : IsFresh c guest (fresh_memory c guest) content) where
  -- with the first byte open
  pub opened_recovers : (image : List ℕ) → IsImage content (IsWithin 0 1) image → is_open image ≡ true → IsFormatted c guest image
  opened_recovers image left opened =
      fresh_is_formatted c guest image valid guest_fits (omega (arith, left.size, room)) opened
      (fresh_moves c guest (fresh_memory c guest) content image left.size (λ i behind. left.same i (λ w. omega (arith, w.1))) fresh)

  -- with whatever a stop of the last write leaves there
  pub last_moment : (image : List ℕ) → IsImage content (IsWithin 0 1) image → Recovers image (Err NotFormatted) ⊎ IsFormatted c guest image
  last_moment image left = by_gate (is_open image) refl
    where
      by_gate : (b : Bool) → is_open image ≡ b → Recovers image (Err NotFormatted) ⊎ IsFormatted c guest image
      by_gate true opened = inr (opened_recovers image left opened)
      by_gate false closed = inl (closed_recovers image closed)

  -- after the last write
  pub written_recovers : (new : List ℕ) → IsOverwritten content 0 (165 ∷ []) new → IsFormatted c guest new
  written_recovers new written =
      let inside : 0 + 1 ≤ length content = omega (arith, room) in
      let left : IsImage content (IsWithin 0 1) new = written_image content 0 (165 ∷ []) new written inside (IsWithin 0 1) (λ i w. w) in
      opened_recovers new left (ap (λ x. nat_eq x 165) (byte_first new (written_there content 0 (165 ∷ []) new written inside)))
    where
      byte_first : (new : List ℕ) → HasBytes new 0 (165 ∷ []) → get_or new 0 0 ≡ 165
      byte_first new has = sym (get_or-drop 0 new 0 0) ∙ sym (get_or-take 1 (drop 0 new) 0 0 (omega arith)) ∙ ap (λ (l : List ℕ). get_or l 0 0) has

-- WHERE IT WRITES

module _ {D : Type 0} (d : Ghosts D) (c : Config) where
  lies_behind : (at n : ℕ) → 1 ≤ at → at + n ≤ journal_at c 1 → (i : ℕ) → IsWithin at n i → FormatsBehindGate c i
  lies_behind at n behind below i w = (omega (arith, w.0), (omega (arith, w.1), λ v. omega (arith, w.1, v.0)))

  -- the first of some writes
  pub first_part : (at n : ℕ) (old new : D) (failed : Bool) → 1 ≤ at → at + n ≤ journal_at c 1 → WritesWithin d (IsWithin at n) 1 old new failed → WritesWithin d (FormatsBehindGate c) 1 old new failed
  first_part at n old new failed behind below = wider d (IsWithin at n) (FormatsBehindGate c) 1 old new failed (lies_behind at n behind below)

  -- one more
  pub next_part : (m at n : ℕ) (old mid new : D) (failed : Bool) → 1 ≤ at → at + n ≤ journal_at c 1 → WritesWithin d (FormatsBehindGate c) m old mid false → WritesWithin d (IsWithin at n) 1 mid new failed → WritesWithin d (FormatsBehindGate c) (m + 1) old new failed
  next_part m at n old mid new failed behind below = writes_on_within d (FormatsBehindGate c) (IsWithin at n) m 1 old mid new failed (lies_behind at n behind below)

  -- the look at the first gate, and then the writes behind it
  pub looked : (old read : D) (failed : Bool) → WritesWithin d Nowhere 1 old read failed → WritesWithin d (FormatsAt c) 1 old read failed
  looked old read failed = wider d Nowhere (FormatsAt c) 1 old read failed (λ i no. absurd no)

  pub laid : (old read new : D) (failed : Bool) → WritesWithin d Nowhere 1 old read false → WritesWithin d (FormatsBehindGate c) 8 read new failed → WritesWithin d (FormatsAt c) 9 old new failed
  laid old read new failed first = writes_on_within d (FormatsAt c) (FormatsBehindGate c) 1 8 old read new failed (λ i behind. behind.1) (looked old read false first)

  pub opened_last : (old read new last : D) (failed : Bool) → WritesWithin d Nowhere 1 old read false → WritesWithin d (FormatsBehindGate c) 8 read new false → WritesWithin d (IsWithin 0 1) 2 new last failed → WritesWithin d (FormatsAt c) 11 old last failed
  opened_last old read new last failed first second = writes_on_within d (FormatsAt c) (IsWithin 0 1) 9 2 old new last failed (λ i w. (omega (arith, w.1), λ v. omega (arith, w.1, v.0))) (laid old read new false first second)

-- MOMENTS

module _ {D : Type 0} (d : Ghosts D) (c : Config) (guest : List ℕ) where
  -- a stop of the look at the first gate
  pub in_look : (old read : D) (failed : Bool) → d.is_honest read → WritesWithin d Nowhere 1 old read failed → LeavesOnly d.moment d.left_since old read (IsImage (d.content old) (d.pending old))
  in_look old read failed honest look = weaker d.moment d.left_since old read _ _ (look.any_moment honest)
      (λ image left. wider_image _ (d.pending old) (d.content old) image (λ i either. ⊎_elim (λ p. p) (λ no. absurd no) either) left)

  -- up to the last write
  pub in_layout : (old read laid : D) (failed : Bool) → d.is_honest laid → LeavesOnly d.moment d.left_since old read (IsImage (d.content old) (d.pending old))
      → is_open (d.content read) ≡ false → ((i : ℕ) → ¬ d.pending read i) → WritesWithin d (FormatsBehindGate c) 8 read laid failed
      → LeavesOnly d.moment d.left_since old laid (IsFormatting c guest d old)
  in_layout old read laid failed honest first closed durable second = goes_on d.moment d.left_since old read laid _
      (weaker d.moment d.left_since old read _ (IsFormatting c guest d old) first (λ image left. inl left))
      (weaker d.moment d.left_since read laid _ (IsFormatting c guest d old) (byte_left d (FormatsBehindGate c) 8 read laid failed second honest 0 (durable 0) (λ behind. omega (arith, behind.0)))
      (λ image same. inr (inl (closed_recovers image (ap (λ x. nat_eq x 165) same ∙ closed)))))

  -- and in it
  pub in_last_write : (old read laid new : D) (failed : Bool) → d.is_honest laid → d.is_honest new → is_valid c ≡ true → length guest ≤ memory_size c → size_needed c ≤ length (d.content laid)
      → LeavesOnly d.moment d.left_since old read (IsImage (d.content old) (d.pending old))
      → is_open (d.content read) ≡ false → ((i : ℕ) → ¬ d.pending read i) → WritesWithin d (FormatsBehindGate c) 8 read laid false
      → IsFresh c guest (fresh_memory c guest) (d.content laid) → ((i : ℕ) → ¬ d.pending laid i)
      → WritesWithin d (IsWithin 0 1) 2 laid new failed → LeavesOnly d.moment d.left_since old new (IsFormatting c guest d old)
  in_last_write old read laid new failed honest-1 honest valid guest_fits room first closed durable second fresh nothing_pending last =
      goes_on d.moment d.left_since old laid new _ (in_layout old read laid false honest-1 first closed durable second)
      (weaker d.moment d.left_since laid new _ (IsFormatting c guest d old) (last.any_moment honest) (λ image left. inr (last_moment c guest (d.content laid) valid guest_fits room fresh image
      (record { size = left.size; same = λ i out. left.same i (λ either. ⊎_elim (nothing_pending i) out either) }))))

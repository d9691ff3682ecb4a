-- What is read of an area that holds a state: its header, its tables' bytes, its memory.
use Rattle.std.proofs.Common.{◌≡◌, ℕ, zero, suc, ◌+◌, ◌-◌, ◌*◌, ◌≤◌, ◌<◌, ◌^◌, true, false, nat_eq, List, [], ◌∷◌, ◌++◌, length, get_or, take, drop, refl, sym, ◌∙◌, ap, arith}
use Rattle.std.proofs.lemmas.List.{drop-drop, get_or-take, take_all}
use Rattle.std.proofs.Math.Seq.{take-add}
use Rattle.ckrt_memory.specs.Pages.{page_of}
use Rattle.ckrt_journal.specs.Chain.{journal_bytes}
use Rattle.ckrt_stored.specs.declared.area.Area.{Area}
use Rattle.ckrt_stored.specs.declared.config.Config.{Config}
use Rattle.ckrt_stored.specs.declared.header.Header.{Header}
use Rattle.ckrt_stored.specs.AreaFields.{HasBytes, header_fields}
use Rattle.ckrt_stored.specs.Holds.{HasNoBatch, HoldsArea, slot}
use Rattle.ckrt_stored.specs.Layout.{area_at, header_in, header_of, is_gate_open, is_open, journal_at, journal_of, memory_at, memory_of, memory_size, number_at, tables_of}
use Rattle.ckrt_stored.proofs.ByteLemmas.{byte_is, number_is}

-- GATES

-- the gate of an area's header is the byte at the area's beginning
pub header_gate : (c : Config) (area : ℕ) (image : List ℕ) → (header_of c area image).is_open ≡ is_gate_open (area_at c area) image
header_gate c area image = ap (λ x. nat_eq x 165) (get_or-take 40 (drop (area_at c area) image) 0 0 (omega arith))

-- a journal without a batch has a first gate that isn't open
pub closed_journal : (c : Config) (area version : ℕ) (image : List ℕ) → 1 ≤ c.journal → HasNoBatch c area image → is_open (journal_bytes (journal_of c area version) image) ≡ false
closed_journal c area version image some has = ap (λ x. nat_eq x 165) (byte_is image (journal_at c area) c.journal 0 some has)

-- THE HEADER

-- each field is below the bound of its bytes
pub record AreFieldsFit (h : Header) : Type 0 where
  pub generation : h.generation < 256 ^ 8
  pub count : h.count < 256 ^ 8
  pub offset : h.offset < 256 ^ 8
  pub tables : h.tables < 256 ^ 4
  pub version : h.version < 256 ^ 4

header_is : (block : List ℕ) (h : Header) → is_open block ≡ h.is_open → number_at 8 8 block ≡ h.generation → number_at 8 16 block ≡ h.count → number_at 8 24 block ≡ h.offset → number_at 4 32 block ≡ h.tables → number_at 4 36 block ≡ h.version → header_in block ≡ h
header_is block h opened generation count offset tables version = rw (opened, generation, count, offset, tables, version) refl

pub header_stands : (c : Config) (area : ℕ) (h : Header) (image : List ℕ) → AreFieldsFit h → is_gate_open (area_at c area) image ≡ h.is_open → HasBytes image (area_at c area + 8) (header_fields h) → header_of c area image ≡ h
header_stands c area h image fit gate fields =
    let wide : length (header_fields h) ≡ 32 = refl in
    let block = drop (area_at c area) image in
    let has : HasBytes block 8 (header_fields h) = ap (λ (l : List ℕ). take 32 l) (drop-drop 8 (area_at c area) image) ∙ fields in
    header_is (take 40 block) h (header_gate c area image ∙ gate)
    (number_is 8 8 40 h.generation block 8 0 (header_fields h) refl (omega arith) (omega arith) has refl fit.generation)
    (number_is 8 16 40 h.count block 8 8 (header_fields h) refl (omega arith) (omega arith) has refl fit.count)
    (number_is 8 24 40 h.offset block 8 16 (header_fields h) refl (omega arith) (omega arith) has refl fit.offset)
    (number_is 4 32 40 h.tables block 8 24 (header_fields h) refl (omega arith) (omega arith) has refl fit.tables)
    (number_is 4 36 40 h.version block 8 28 (header_fields h) refl (omega arith) (omega arith) has refl fit.version)

-- THE MEMORY

-- where each slot is the page of a memory, the first pages are those of the memory
first_pages : (c : Config) (area : ℕ) (memory image : List ℕ) → ((p : ℕ) → 1 ≤ p → p < c.pages → slot c area p image ≡ page_of memory p)
    → (n : ℕ) → n + 1 ≤ c.pages → take (4096 * n) (drop (memory_at c area) image) ≡ take (4096 * n) memory
first_pages c area memory image pages zero below = refl
first_pages c area memory image pages (suc n) below =
    let bytes : List ℕ = drop (memory_at c area) image in
    let split : 4096 * suc n ≡ 4096 * n + 4096 = omega arith in
    let there : 4096 * n + memory_at c area ≡ area_at c area + 102400 + 4096 * (n + 1) = omega arith in
    let back : memory_at c area + 4096 * n ≡ area_at c area + 102400 + 4096 * (n + 1) = omega arith in
    let page : take 4096 (drop (4096 * n) bytes) ≡ take 4096 (drop (4096 * n) memory) =
    ap (λ (l : List ℕ). take 4096 l) (drop-drop (4096 * n) (memory_at c area) image) ∙ ap (λ k. take 4096 (drop k image)) back
    ∙ pages (n + 1) (omega arith) (omega (arith, below)) ∙ ap (λ k. take 4096 (drop (4096 * k) memory)) (let e : n + 1 - 1 ≡ n = omega arith in e) in
    ap (λ k. take k bytes) split ∙ take-add (4096 * n) 4096 bytes
    ∙ ap (λ (l : List ℕ). l ++ take 4096 (drop (4096 * n) bytes)) (first_pages c area memory image pages n (omega (arith, below)))
    ∙ ap (λ (l : List ℕ). take (4096 * n) memory ++ l) page
    ∙ sym (take-add (4096 * n) 4096 memory) ∙ ap (λ k. take k memory) (sym split)

-- where each slot is the page of a memory, the area's memory is that one
pub memory_by_pages : (c : Config) (area : ℕ) (memory image : List ℕ) → 1 ≤ c.pages → length memory ≡ memory_size c → ((p : ℕ) → 1 ≤ p → p < c.pages → slot c area p image ≡ page_of memory p) → memory_of c area image ≡ memory
memory_by_pages c area memory image some size pages =
    first_pages c area memory image pages (c.pages - 1) (omega (arith, some)) ∙ take_all (4096 * (c.pages - 1)) memory (omega (arith, size))

-- AN AREA THAT HOLDS A STATE

module _ (c : Config) (area : ℕ) (h : Header) (tables memory image : List ℕ) (holds : HoldsArea c area h tables memory image) where
  pub holds_gate : is_gate_open (area_at c area) image ≡ true
  holds_gate = ap (λ x. nat_eq x 165) (byte_first (drop (area_at c area) image) holds.gate)
    where
      byte_first : (l : List ℕ) → take 1 l ≡ 165 ∷ [] → get_or l 0 0 ≡ 165
      byte_first l is = sym (get_or-take 1 l 0 0 (omega arith)) ∙ ap (λ (l : List ℕ). get_or l 0 0) is

  pub holds_header : AreFieldsFit h → h.is_open ≡ true → header_of c area image ≡ h
  holds_header fit opened = header_stands c area h image fit (holds_gate ∙ sym opened) holds.state.fields

  pub holds_tables : (found : Area) → found.index ≡ area → found.header.tables ≡ length tables → tables_of c found image ≡ tables
  holds_tables found there long = ap (λ n. take n (drop (area_at c found.index + 4096) image)) long ∙ ap (λ i. take (length tables) (drop (area_at c i + 4096) image)) there ∙ holds.state.encoded

  pub holds_memory : 1 ≤ c.pages → length memory ≡ memory_size c → memory_of c area image ≡ memory
  holds_memory some size = memory_by_pages c area memory image some size holds.state.pages

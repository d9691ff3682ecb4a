-- How the calls that write an area join, and what they leave standing.
use Rattle.std.proofs.Common.{◌≡◌, ◌⊎◌, inl, inr, ⊎_elim, ℕ, zero, suc, ◌+◌, ◌-◌, ◌*◌, ◌≤◌, ◌<◌, Bool, true, false, List, [], ◌∷◌, length, take, drop, Result, Ok, Err, OnOk, is_err, refl, sym, ◌∙◌, ap, subst, arith, cond, length-drop}
use Rattle.std.proofs.lemmas.Bool.{cases_eq, cases_lt}
use Rattle.std.proofs.lemmas.Bool.Decides.{nat_tests}
use Rattle.std.proofs.lemmas.List.{length-take-le}
use Rattle.ckrt_disk.specs.Disk.{IsOverwritten, IsWithin}
use Rattle.ckrt_disk.specs.Frame.{WritesWithin}
use Rattle.ckrt_disk.specs.declared.disk.Disk.{Ghosts}
use Rattle.ckrt_disk.proofs.FrameLemmas.{wider, writes_on_within}
use Rattle.ckrt_disk.proofs.Images.{part_same, written_there}
use Rattle.ckrt_memory.specs.Marks.{Memory, is_dirty}
use Rattle.ckrt_memory.specs.Pages.{page_of}
use Rattle.ckrt_stored.specs.declared.config.Config.{Config}
use Rattle.ckrt_stored.specs.declared.header.Header.{Header}
use Rattle.ckrt_stored.specs.AreaFields.{HasBytes, header_fields}
use Rattle.ckrt_stored.specs.Holds.{CleanPagesStand, HasNoBatch, slot, slot_at}
use Rattle.ckrt_stored.proofs.PickLemmas.{area_end}
use Rattle.ckrt_stored.specs.Layout.{is_valid, area_at, area_size, journal_at, size_needed, tables_at}
use Rattle.ckrt_stored.specs.Write.{FillsAt, IsFilled, PagesAt, dirty_count}

-- what holds where the last call answered Ok, from what it says of that
pub on_ok_with : {D T E P Q : Type 0} {d : Ghosts D} {region : ℕ → Type 0} {n : ℕ} {old new : D} (result : Result T E) → OnOk result P → WritesWithin d region n old new (is_err result)
    → (P → WritesWithin d region n old new false → Q) → OnOk result Q
on_ok_with (Ok x) p within f = f p within
on_ok_with (Err e) p within f = tt

-- PAGES

pub page_length : (memory : List ℕ) (pages p : ℕ) → length memory ≡ 4096 * (pages - 1) → 1 ≤ p → p < pages → length (page_of memory p) ≡ 4096
page_length memory pages p size some below = length-take-le 4096 (drop (4096 * (p - 1)) memory) (omega (arith, length-drop (4096 * (p - 1)) memory, size, some, below))

-- an area lies before the journals
pub area_within : (c : Config) (area : ℕ) → area ≤ 1 → area_at c area + area_size c ≤ 4096 + 2 * area_size c
area_within c area low = elim (cases_lt area 1) [
  | inl lt ↦ area_end c area (inl (omega (arith, lt)))
  | inr le ↦ area_end c area (inr (omega (arith, le, low)))
]

-- a configuration in its ranges has pages, and journals of some bytes
pub some_pages : (c : Config) → is_valid c ≡ true → (1 ≤ c.pages) × (1 ≤ c.journal)
some_pages c valid = (grind (arith, nat_tests, valid), grind (arith, nat_tests, valid))

pub journal_inside : (c : Config) (area size : ℕ) → area ≤ 1 → 1 ≤ c.journal → size_needed c ≤ size → journal_at c area + 1 ≤ size
journal_inside c area size low some room = elim (cases_lt area 1) [
  | inl lt ↦ subst (λ i. journal_at c i + 1 ≤ size) (let e : 0 ≡ area = omega (arith, lt) in e) (omega (arith, some, room))
  | inr le ↦ subst (λ i. journal_at c i + 1 ≤ size) (let e : 1 ≡ area = omega (arith, le, low) in e) (omega (arith, some, room))
]

-- the pages below n, and those that are clean, stand in their slots
abbrev pub StandUpTo : Config → (area n : ℕ) → Memory → List ℕ → Type 0
StandUpTo c area n m image = (p : ℕ) → 1 ≤ p → p < c.pages → (p < n) ⊎ (is_dirty area p m ≡ false) → slot c area p image ≡ page_of m.bytes p

-- a page that is dirty counts as one
count_on : (area p : ℕ) (m : Memory) → 1 ≤ p → is_dirty area p m ≡ true → dirty_count area (p - 1) m + 1 ≡ dirty_count area p m
count_on area zero m some dirty = absurd (omega (arith, some))
count_on area (suc p) m some dirty =
    let before : suc p - 1 ≡ p = omega arith in
    ap (λ n. dirty_count area n m + 1) before ∙ ap (λ b. dirty_count area p m + cond b 1 0) (sym dirty)

-- clean pages behind page n don't count
pub count_same : (area n q : ℕ) (m : Memory) → n ≤ q → ((p : ℕ) → n < p → p ≤ q → is_dirty area p m ≡ false) → dirty_count area n m ≡ dirty_count area q m
count_same area n zero m le clean = ap (λ k. dirty_count area k m) (let none : n ≡ zero = omega (arith, le) in none)
count_same area n (suc q) m le clean = elim (cases_eq n (suc q)) [
  | inl same ↦ ap (λ k. dirty_count area k m) same
  | inr other ↦
      (let last : dirty_count area q m ≡ dirty_count area q m + 0 = omega arith in
      count_same area n q m (omega (arith, le, other)) (λ p from to. clean p from (omega (arith, to)))
      ∙ last ∙ ap (λ b. dirty_count area q m + cond b 1 0) (sym (clean (suc q) (omega (arith, le, other)) (omega arith))))
]

-- and stand in their slots
pub stand_same : (c : Config) (area n q : ℕ) (m : Memory) (image : List ℕ) → ((p : ℕ) → n ≤ p → p < q → is_dirty area p m ≡ false) → StandUpTo c area n m image → StandUpTo c area q m image
stand_same c area n q m image clean stand p some inside (inl lt) = elim (cases_lt p n) [
  | inl before ↦ stand p some inside (inl before)
  | inr from ↦ stand p some inside (inr (clean p from lt))
]
stand_same c area n q m image clean stand p some inside (inr is) = stand p some inside (inr is)

pub page_inside : (c : Config) (area p size : ℕ) → area ≤ 1 → p < c.pages → size_needed c ≤ size → slot_at c area p + 4096 ≤ size
page_inside c area p size low below room = let end = area_within c area low in omega (arith, end, below, room)

module _ {D : Type 0} (d : Ghosts D) where
  -- bytes outside the region of some calls read as before
  pub part_kept : (region : ℕ → Type 0) (k : ℕ) (old new : D) → d.is_honest new → WritesWithin d region k old new false
      → (at n : ℕ) → ((i : ℕ) → IsWithin at n i → ¬ region i) → take n (drop at (d.content new)) ≡ take n (drop at (d.content old))
  part_kept region k old new honest calls at n apart =
      let same = calls.content refl honest in
      part_same n at (d.content new) (d.content old) same.size (λ i w. same.same i (apart i w))

  -- a page was written into its slot
  pub page_stands : (c : Config) (area p : ℕ) (memory page : List ℕ) (at : ℕ) (old new : D) → at ≡ slot_at c area p → page ≡ page_of memory p → length page ≡ 4096 → at + 4096 ≤ length (d.content old)
      → IsOverwritten (d.content old) at page (d.content new) → slot c area p (d.content new) ≡ page_of memory p
  page_stands c area p memory page at old new there is long room written =
      ap (λ n. take 4096 (drop n (d.content new))) (sym there)
      ∙ ap (λ n. take n (drop at (d.content new))) (sym long)
      ∙ written_there (d.content old) at page (d.content new) written (omega (arith, long, room))
      ∙ is

  -- one dirty page more was written, and those behind it up to page q are clean
  pub pages_on : (c : Config) (area p q : ℕ) (m : Memory) (start mid new : D) (failed : Bool) → 1 ≤ p → p < c.pages → is_dirty area p m ≡ true → p < q → ((r : ℕ) → p + 1 ≤ r → r < q → is_dirty area r m ≡ false)
      → WritesWithin d (PagesAt c area) (dirty_count area (p - 1) m) start mid false → WritesWithin d (IsWithin (slot_at c area p) 4096) 1 mid new failed
      → WritesWithin d (PagesAt c area) (dirty_count area (q - 1) m) start new failed
  pages_on c area p q m start mid new failed some below dirty on clean first second =
      subst (λ n. WritesWithin d (PagesAt c area) n start new failed) (count_on area p m some dirty ∙ count_same area p (q - 1) m (omega (arith, on)) (λ r from to. clean r (omega (arith, from)) (omega (arith, from, to))))
      (writes_on_within d (PagesAt c area) (IsWithin (slot_at c area p) 4096) (dirty_count area (p - 1) m) 1 start mid new failed (λ i w. (omega (arith, w.0), omega (arith, w.1))) first second)

  -- so it stands in its slot, and the others stand as before
  pub pages_stand : (c : Config) (area p : ℕ) (m : Memory) (mid new : D) → d.is_honest new → 1 ≤ p → p < c.pages
      → WritesWithin d (IsWithin (slot_at c area p) 4096) 1 mid new false → slot c area p (d.content new) ≡ page_of m.bytes p
      → StandUpTo c area p m (d.content mid) → StandUpTo c area (p + 1) m (d.content new)
  pages_stand c area p m mid new honest low below calls written before q some inside which = elim (cases_eq q p) [
    | inl same ↦ subst (λ n. slot c area n (d.content new) ≡ page_of m.bytes n) (sym same) written
    | inr other ↦
        part_kept (IsWithin (slot_at c area p) 4096) 1 mid new honest calls (slot_at c area q) 4096 (λ i w v. other (omega (arith, w.0, w.1, v.0, v.1)))
        ∙ before q some inside (⊎_elim (λ lt. inl (omega (arith, lt, other))) inr which)
  ]

  -- calls that write no slot leave the clean pages in theirs
  pub clean_stand : (region : ℕ → Type 0) (k : ℕ) (c : Config) (area : ℕ) (m : Memory) (old new : D) → d.is_honest new → WritesWithin d region k old new false
      → ((p i : ℕ) → 1 ≤ p → p < c.pages → IsWithin (slot_at c area p) 4096 i → ¬ region i) → CleanPagesStand c area m (d.content old) → CleanPagesStand c area m (d.content new)
  clean_stand region k c area m old new honest calls apart stand p some below clean =
      part_kept region k old new honest calls (slot_at c area p) 4096 (λ i w. apart p i some below w) ∙ stand p some below clean

  -- BEHIND THE GATE

  -- the journal's first gate was written
  pub first_gate : (c : Config) (area at : ℕ) (old new : D) (failed : Bool) → at ≡ journal_at c area → WritesWithin d (IsWithin at 1) 1 old new failed → WritesWithin d (FillsAt c area) 1 old new failed
  first_gate c area at old new failed there = wider d (IsWithin at 1) (FillsAt c area) 1 old new failed (λ i w. inr (omega (arith, w.0, there), omega (arith, w.1, there)))

  -- and then a part of the area
  pub part_on : (c : Config) (area m k at n : ℕ) (old mid new : D) (failed : Bool) → area_at c area + 1 ≤ at → at + n ≤ area_at c area + area_size c
      → WritesWithin d (FillsAt c area) m old mid false → WritesWithin d (IsWithin at n) k mid new failed → WritesWithin d (FillsAt c area) (m + k) old new failed
  part_on c area m k at n old mid new failed low high = writes_on_within d (FillsAt c area) (IsWithin at n) m k old mid new failed (λ i w. inl (omega (arith, w.0, low), omega (arith, w.1, high)))

  -- what stands behind the gate then
  module _ (c : Config) (area : ℕ) (h : Header) (tables : List ℕ) (m : Memory) (k gate_at at fields_at : ℕ) (fields : List ℕ) (s₀ s₁ s₂ s₃ s₄ : D)
      (low : area ≤ 1) (some : 1 ≤ c.pages) (some_journal : 1 ≤ c.journal) (few : length tables ≤ 98304)
      (gate_there : gate_at ≡ journal_at c area) (there : at ≡ tables_at c area) (fields_there : fields_at ≡ area_at c area + 8) (is_fields : fields ≡ header_fields h) (long : length fields ≡ 32)
      (room : d.is_honest s₀ → size_needed c ≤ length (d.content s₀)) (honest : d.is_honest s₄)
      (w₁ : WritesWithin d (IsWithin gate_at 1) 1 s₀ s₁ false) (o₁ : d.is_honest s₁ → IsOverwritten (d.content s₀) gate_at (0 ∷ []) (d.content s₁))
      (w₂ : WritesWithin d (IsWithin at (length tables)) 1 s₁ s₂ false) (o₂ : d.is_honest s₂ → IsOverwritten (d.content s₁) at tables (d.content s₂))
      (w₃ : WritesWithin d (PagesAt c area) k s₂ s₃ false) (o₃ : d.is_honest s₃ → CleanPagesStand c area m (d.content s₂) → (p : ℕ) → 1 ≤ p → p < c.pages → slot c area p (d.content s₃) ≡ page_of m.bytes p)
      (w₄ : WritesWithin d (IsWithin fields_at (length fields)) 2 s₃ s₄ false) (o₄ : d.is_honest s₄ → IsOverwritten (d.content s₃) fields_at fields (d.content s₄)) where
    honest₃ : d.is_honest s₃
    honest₃ = w₄.same.honest honest

    honest₂ : d.is_honest s₂
    honest₂ = w₃.same.honest honest₃

    honest₁ : d.is_honest s₁
    honest₁ = w₂.same.honest honest₂

    honest₀ : d.is_honest s₀
    honest₀ = w₁.same.honest honest₁

    end : area_at c area + area_size c ≤ 4096 + 2 * area_size c
    end = area_within c area low

    size₁ : length (d.content s₁) ≡ length (d.content s₀)
    size₁ = (w₁.content refl honest₁).size

    size₂ : length (d.content s₂) ≡ length (d.content s₁)
    size₂ = (w₂.content refl honest₂).size

    size₃ : length (d.content s₃) ≡ length (d.content s₂)
    size₃ = (w₃.content refl honest₃).size

    inside : at + length tables ≤ length (d.content s₁)
    inside = omega (arith, there, few, end, size₁, room honest₀)

    gate_inside : gate_at + 1 ≤ length (d.content s₀)
    gate_inside = subst (λ n. n + 1 ≤ length (d.content s₀)) (sym gate_there) (journal_inside c area _ low some_journal (room honest₀))

    fields_inside : fields_at + length fields ≤ length (d.content s₃)
    fields_inside = omega (arith, fields_there, long, end, size₁, size₂, size₃, room honest₀)

    has_fields : HasBytes (d.content s₄) (area_at c area + 8) (header_fields h)
    has_fields =
        subst (λ (l : List ℕ). HasBytes (d.content s₄) (area_at c area + 8) l) is_fields
        (subst (λ n. HasBytes (d.content s₄) n fields) fields_there (written_there (d.content s₃) fields_at fields (d.content s₄) (o₄ honest) fields_inside))

    -- the header's fields aren't among other bytes
    behind_fields : (place n : ℕ) → area_at c area + 40 ≤ place → take n (drop place (d.content s₄)) ≡ take n (drop place (d.content s₃))
    behind_fields place n behind = part_kept (IsWithin fields_at (length fields)) 2 s₃ s₄ honest w₄ place n (λ i w v. omega (arith, w.0, v.1, fields_there, long, behind))

    has_tables : HasBytes (d.content s₄) (tables_at c area) tables
    has_tables =
        behind_fields (tables_at c area) (length tables) (omega arith)
        ∙ part_kept (PagesAt c area) k s₂ s₃ honest₃ w₃ (tables_at c area) (length tables) (λ i w v. omega (arith, w.1, v.0, few))
        ∙ subst (λ n. HasBytes (d.content s₂) n tables) there (written_there (d.content s₁) at tables (d.content s₂) (o₂ honest₂) inside)

    has_gate : HasNoBatch c area (d.content s₄)
    has_gate =
        behind_fields (journal_at c area) 1 (omega (arith, end))
        ∙ part_kept (PagesAt c area) k s₂ s₃ honest₃ w₃ (journal_at c area) 1 (λ i w v. omega (arith, w.0, v.1, end, some))
        ∙ part_kept (IsWithin at (length tables)) 1 s₁ s₂ honest₂ w₂ (journal_at c area) 1 (λ i w v. omega (arith, w.0, v.1, end, there, few))
        ∙ subst (λ n. HasBytes (d.content s₁) n (0 ∷ [])) gate_there (written_there (d.content s₀) gate_at (0 ∷ []) (d.content s₁) (o₁ honest₁) gate_inside)

    -- the first two writes leave the slots
    clean₂ : CleanPagesStand c area m (d.content s₀) → CleanPagesStand c area m (d.content s₂)
    clean₂ clean =
        clean_stand (IsWithin at (length tables)) 1 c area m s₁ s₂ honest₂ w₂ (λ p i low below w v. omega (arith, w.0, v.1, there, few))
        (clean_stand (IsWithin gate_at 1) 1 c area m s₀ s₁ honest₁ w₁ (λ p i low below w v. omega (arith, w.1, v.0, below, end, gate_there)) clean)

    pub is_filled : CleanPagesStand c area m (d.content s₀) → IsFilled c area h tables m.bytes (d.content s₄)
    is_filled clean = record {
      state = record {
        fields = has_fields;
        encoded = has_tables;
        pages = λ p from below. behind_fields (slot_at c area p) 4096 (omega arith) ∙ o₃ honest₃ (clean₂ clean) p from below;
      };
      no_batch = has_gate;
    }

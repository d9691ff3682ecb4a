-- What a save of a program leaves of what its disk recovers to.
use Rattle.std.proofs.Common.{◌≡◌, inl, inr, ⊎_elim, ℕ, ◌+◌, ◌-◌, ◌≤◌, ◌<◌, ◌^◌, Bool, true, false, nat_eq, List, length, get_or, drop, Ok, refl, sym, ◌∙◌, ap, subst, arith}
use Rattle.std.proofs.lemmas.Bool.{cases_lt}
use Rattle.std.proofs.lemmas.Bool.Decides.{nat_tests}
use Rattle.std.proofs.lemmas.Grind.{same_number_lists}
use Rattle.std.proofs.lemmas.List.{get_or-drop}
use Rattle.ckrt_disk.specs.Frame.{IsSameOutside}
use Rattle.ckrt_disk.proofs.Images.{wider_image}
use Rattle.ckrt_tables.specs.Decoding.{Saved}
use Rattle.ckrt_tables.specs.Encoding.{encoding_of}
use Rattle.ckrt_tables.specs.Savable.{CanBeSaved}
use Rattle.ckrt_stored.specs.declared.area.Area.{Area}
use Rattle.ckrt_stored.specs.declared.config.Config.{Config}
use Rattle.ckrt_stored.specs.declared.header.Header.{Header}
use Rattle.ckrt_stored.specs.Areas.{checked_area, is_in_range}
use Rattle.ckrt_stored.specs.Layout.{area_at, header_of, is_gate_open}
use Rattle.ckrt_stored.specs.Write.{HasSaved, IsClosing, IsFilling, IsSaving, WritesAt, next_header}
use Rattle.ckrt_stored.specs.declared.save_point.SavePoint.{SavePoint}
use Rattle.ckrt_stored.proofs.SlotLemmas.{written_stand}
use Rattle.ckrt_memory.specs.Marks.{Memory}
use Rattle.ckrt_machine.specs.Events.{memory_in}
use Rattle.ckrt_stored.proofs.HoldLemmas.{AreFieldsFit, closed_journal, header_gate, holds_header, holds_memory, holds_tables}
use Rattle.ckrt_stored.specs.declared.progress.Progress.{Progress}
use Rattle.ckrt_stored.specs.Frame.{BelongsTo, HoldsState, IsNewest, in_other_area}
use Rattle.ckrt_stored.specs.Progress.{ArePagesSaved, IsBehind, IsOtherLeft, PagesStand, RecoversToOldOrNew, recovered_of, save_point_of}
use Rattle.ckrt_stored.specs.Recovery.{Recovered, Recovers}
use Rattle.ckrt_stored.specs.Superblock.{superblock_of}
use Rattle.ckrt_stored.proofs.GrowthLemmas.{framed, kept_header, kept_superblock}
use Rattle.ckrt_stored.proofs.RecoverLemmas.{IsKnown, known}
use Rattle.ckrt_stored.proofs.SwitchLemmas.{switched}

-- GATES

-- a gate that is open is one byte
open_byte : (at : ℕ) (image : List ℕ) → is_gate_open at image ≡ true → get_or image at 0 ≡ 165
open_byte at image is =
    let there : get_or (drop at image) 0 0 ≡ get_or image (at + 0) 0 = get_or-drop at image 0 0 in
    let byte : get_or (drop at image) 0 0 ≡ 165 = grind (arith, nat_tests, is) in
    ap (λ k. get_or image k 0) (let e : at ≡ at + 0 = omega arith in e) ∙ sym there ∙ byte

-- an image in which an open gate alone may have changed, and is open, hasn't changed
unchanged : (at : ℕ) (content image : List ℕ) → IsClosing at content image → is_gate_open at image ≡ true → image ≡ content
unchanged at content image closing opened = same_number_lists image content closing.outside.size (λ k _. byte k)
  where
    byte : (k : ℕ) → get_or image k 0 ≡ get_or content k 0
    byte k = elim (cases_lt k at) [
      | inl below ↦ closing.outside.same k (λ w. omega (arith, w.0, below))
      | inr from ↦ elim (cases_lt at k) [
        | inl past ↦ closing.outside.same k (λ w. omega (arith, w.1, past))
        | inr to ↦ let here : k ≡ at = omega arith in ap (λ i. get_or image i 0) here ∙ open_byte at image opened ∙ sym (open_byte at content closing.was_open) ∙ ap (λ i. get_or content i 0) (sym here)
      ]
    ]

-- AN AREA THAT WAS WRITTEN

checked_by : (a : Area) → nat_eq a.header.generation 0 ≡ false → a.header.version ≡ 2 → is_in_range a.header ≡ true → checked_area a ≡ Ok a
checked_by a generation version in_range = rw (generation, version, in_range) refl

-- the fields of its header have room there
fits : (p : Progress) (tables : List ℕ) → length tables ≤ 98304 → p.generation + 1 < 2 ^ 64 → AreFieldsFit (next_header (save_point_of p) tables)
fits p tables few last =
    let count = p.bounded_count in
    let end = p.bounded_end in
    record {
      generation = omega (arith, last);
      count = omega (arith, count);
      offset = omega (arith, end);
      tables = omega (arith, few);
      version = omega arith;
    }

module _ (p : Progress) (tables content image : List ℕ) (r : Recovered) (was : IsBehind p content r) where
  there : ◌≡◌ {A = Config × ℕ} (r.config, 1 - r.area) (p.config, 1 - p.area)
  there = let config = was.config in let area = was.area in cc

  some_pages : 1 ≤ p.config.pages
  some_pages = let valid = p.valid in grind (arith, nat_tests, valid)

  some_journal : 1 ≤ p.config.journal
  some_journal = let valid = p.valid in grind (arith, nat_tests, valid)

  belongs : (i : ℕ) → WritesAt p.config (1 - p.area) i → BelongsTo p.config (1 - p.area) i
  belongs i w = ⊎_elim (λ gate. inl (gate.0, omega (arith, gate.1)))
      (λ fill. ⊎_elim (λ inside. inl (omega (arith, inside.0), omega (arith, inside.0, inside.1))) (λ first. inr (first.0, omega (arith, first.1, some_journal))) fill) w

  outside : IsSameOutside (WritesAt p.config (1 - p.area)) content image → IsSameOutside (BelongsTo r.config (1 - r.area)) content image
  outside same = subst (λ (u : Config × ℕ). IsSameOutside (BelongsTo u.0 u.1) content image) (sym there) (wider_image _ _ content image belongs same)

  -- with the gate closed
  kept : IsSameOutside (WritesAt p.config (1 - p.area)) content image → is_gate_open (area_at p.config (1 - p.area)) image ≡ false → Recovers image (Ok r)
  kept same shut = framed content image r was.recovers (outside same)
      (subst (λ (u : Config × ℕ). (header_of u.0 u.1 image).is_open ≡ false) (sym there) (header_gate p.config (1 - p.area) image ∙ shut))

  closing : IsClosing (area_at p.config (1 - p.area)) content image → Recovers image (Ok r)
  closing c = by_gate (is_gate_open (area_at p.config (1 - p.area)) image) refl
    where
      by_gate : (b : Bool) → is_gate_open (area_at p.config (1 - p.area)) image ≡ b → Recovers image (Ok r)
      by_gate true opened = subst (λ (l : List ℕ). Recovers l (Ok r)) (sym (unchanged (area_at p.config (1 - p.area)) content image c opened)) was.recovers
      by_gate false shut = kept (wider_image _ _ content image (λ i w. inl w) c.outside) shut

  module _ (savable : CanBeSaved 2 p.config.harts p.machine.state.tables p.held.items) (encoded : tables ≡ encoding_of 2 p.machine.state.tables p.held.items) (few : length tables ≤ 98304) (last : p.generation + 1 < 2 ^ 64)
      (has : HasSaved p.config (1 - p.area) (next_header (save_point_of p) tables) tables p.machine.state.bytes content image) where
    abbrev h : Header
    h = next_header (save_point_of p) tables

    abbrev area : Area
    area = record { index = 1 - p.area; header = h }

    abbrev s : Saved
    s = record { tables = p.machine.state.tables; held = p.held.items }

    before : IsKnown content r
    before = known content r was.recovers

    config : before.config ≡ p.config
    config = ap (λ (x : Recovered). x.config) before.is_replayed ∙ was.config

    index : before.area.index ≡ p.area
    index = ap (λ (x : Recovered). x.area) before.is_replayed ∙ was.area

    generation : before.area.header.generation ≡ p.generation
    generation = ap (λ (x : Recovered). x.generation) before.is_replayed ∙ was.generation

    known_there : ◌≡◌ {A = Config × ℕ} (before.config, 1 - before.area.index) (p.config, 1 - p.area)
    known_there = let c = config in let i = index in cc

    same : IsSameOutside (BelongsTo before.config (1 - before.area.index)) content image
    same = subst (λ (u : Config × ℕ). IsSameOutside (BelongsTo u.0 u.1) content image) (sym known_there) (wider_image _ _ content image belongs has.outside)

    superblock : superblock_of image ≡ Ok p.config
    superblock = kept_superblock content image r before same ∙ ap (λ (c : Config). Ok c) config

    -- the other area is the one that was in use
    other : header_of p.config (1 - (1 - p.area)) image ≡ before.area.header
    other =
        let one : p.area ≤ 1 = p.one_area in
        let back : 1 - (1 - p.area) ≡ before.area.index = omega (arith, index, one) in
        ap (λ c. header_of c (1 - (1 - p.area)) image) (sym config) ∙ ap (λ i. header_of before.config i image) back ∙ kept_header content image r before same

    newest : IsNewest p.config area image
    newest is = subst (λ (k : Header). k.generation < p.generation + 1) (sym other) (omega (arith, generation))

    fit : AreFieldsFit h
    fit = fits p tables few last

    checked : checked_area area ≡ Ok area
    checked =
        let count = p.bounded_count in
        let end = p.bounded_end in
        let some : nat_eq (p.generation + 1) 0 ≡ false = grind (arith, nat_tests) in
        let in_range : is_in_range h ≡ true = grind (arith, nat_tests, count, end, few) in
        checked_by area some refl in_range

    holds : HoldsState p.config area p.machine.state.bytes s image
    holds =
        let end = p.bounded_end in
        record {
          index = omega arith;
          header = holds_header p.config (1 - p.area) h tables p.machine.state.bytes image has.holds fit refl;
          opened = refl;
          checked = checked;
          end = grind (arith, nat_tests, end);
          savable = savable;
          tables = holds_tables p.config (1 - p.area) h tables p.machine.state.bytes image has.holds area refl refl ∙ encoded;
          pages = holds_memory p.config (1 - p.area) h tables p.machine.state.bytes image has.holds some_pages p.memory;
          no_batch = closed_journal p.config (1 - p.area) 2 image some_journal has.no_batch;
        }

    pub saved_recovers : Recovers image (Ok (in_other_area (recovered_of p)))
    saved_recovers = switched p.config area p.machine.state.bytes s image superblock holds newest

-- whatever a stop of a save leaves
pub saving_recovers : (p : Progress) (tables content image : List ℕ) (r : Recovered) → IsBehind p content r
    → CanBeSaved 2 p.config.harts p.machine.state.tables p.held.items → tables ≡ encoding_of 2 p.machine.state.tables p.held.items → length tables ≤ 98304 → p.generation + 1 < 2 ^ 64
    → IsSaving p.config (save_point_of p) tables p.machine.state.bytes content image → RecoversToOldOrNew p r image
saving_recovers p tables content image r was savable encoded few last saving = ⊎_elim
    (λ closed. inl (closing p tables content image r was closed))
    (λ more. ⊎_elim
    (λ (filling : IsFilling p.config (1 - p.area) content image). inl (kept p tables content image r was filling.outside filling.gate))
    (λ has. inr (saved_recovers p tables content image r was savable encoded few last has))
    more)
    saving

-- and of the other area
pub saving_other : (p : Progress) (tables content image : List ℕ) → length tables ≤ 98304 → p.generation + 1 < 2 ^ 64 → IsSaving p.config (save_point_of p) tables p.machine.state.bytes content image → IsOtherLeft p content image
saving_other p tables content image few last saving = ⊎_elim closed
    (λ more. ⊎_elim
    (λ (filling : IsFilling p.config (1 - p.area) content image). inl (header_gate p.config (1 - p.area) image ∙ filling.gate))
    (λ (has : HasSaved p.config (1 - p.area) (next_header (save_point_of p) tables) tables p.machine.state.bytes content image). inr (inr (ap (λ (h : Header). h.generation) (holds_header p.config (1 - p.area) (next_header (save_point_of p) tables) tables p.machine.state.bytes image has.holds (fits p tables few last) refl))))
    more)
    saving
  where
    closed : IsClosing (area_at p.config (1 - p.area)) content image → IsOtherLeft p content image
    closed c = by_gate (is_gate_open (area_at p.config (1 - p.area)) image) refl
      where
        by_gate : (b : Bool) → is_gate_open (area_at p.config (1 - p.area)) image ≡ b → IsOtherLeft p content image
        by_gate true opened = inr (inl (unchanged (area_at p.config (1 - p.area)) content image c opened))
        by_gate false shut = inl (header_gate p.config (1 - p.area) image ∙ shut)

-- what a save leaves of the pages
pub pages_saved : (p : Progress) (content image : List ℕ) (h : Header) (tables : List ℕ) (m : Memory) (point : SavePoint) → point ≡ save_point_of p → m ≡ memory_in p.machine → PagesStand p content
    → HasSaved p.config (1 - point.area) h tables m.bytes content image → ArePagesSaved p image
pages_saved p content image h tables m point there is stand has =
    let index : point.area ≡ p.area = ap (λ (s : SavePoint). s.area) there in
    let saved = subst (λ (m : Memory). HasSaved p.config (1 - p.area) h tables m.bytes content image) is (subst (λ n. HasSaved p.config (1 - n) h tables m.bytes content image) index has) in
    record {
      in_use = written_stand p.config p.area (memory_in p.machine) content image p.one_area saved.outside (stand p.area p.one_area);
      saved = saved.holds.state.pages;
    }

-- What the writing of an area leaves at every moment, and how its three parts join.
use Rattle.std.proofs.Common.{◌≡◌, ◌⊎◌, inl, inr, ⊎_elim, ℕ, ◌+◌, ◌≤◌, Bool, true, false, nat_eq, if◌then◌else◌, List, [], ◌∷◌, length, get_or, take, drop, Result, Ok, Err, OnOk, refl, sym, ◌∙◌, ap, subst, arith}
use Rattle.std.proofs.lemmas.Bool.Decides.{nat_tests}
use Rattle.std.proofs.lemmas.List.{get_or-drop}
use Rattle.ckrt_disk.specs.Disk.{IsWithin, LeavesOnly}
use Rattle.ckrt_disk.specs.Frame.{IsSameOutside, WritesWithin}
use Rattle.ckrt_disk.specs.declared.disk.DeviceFault.{DeviceFault}
use Rattle.ckrt_disk.specs.declared.disk.Disk.{Ghosts}
use Rattle.ckrt_disk.proofs.FrameLemmas.{failed_within, wider, writes_on_within}
use Rattle.ckrt_disk.proofs.Images.{part_same}
use Rattle.ckrt_disk.proofs.Moments.{goes_on, weaker}
use Rattle.ckrt_memory.specs.Marks.{Memory}
use Rattle.ckrt_stored.specs.declared.config.Config.{Config}
use Rattle.ckrt_stored.specs.declared.area_fault.AreaFault.{AreaFault}
use Rattle.ckrt_stored.specs.declared.header.Header.{Header}
use Rattle.ckrt_stored.specs.Answers.{is_device}
use Rattle.ckrt_stored.specs.AreaFields.{HasBytes, header_fields}
use Rattle.ckrt_stored.specs.Holds.{CleanPagesStand, HasNoBatch, HoldsArea, slot_at}
use Rattle.ckrt_stored.specs.Layout.{area_at, is_gate_open, journal_at, tables_at}
use Rattle.ckrt_stored.specs.Write.{FillsAt, GateAt, HasSaved, IsAreaWrite, IsClosing, IsDurable, IsFilled, IsFilling, WritesAt, calls_of, calls_of_closing, dirty_pages}
use Rattle.ckrt_stored.proofs.WriteLemmas.{area_within, clean_stand}

-- GATES

gate_byte : (at : ℕ) (image : List ℕ) → get_or (drop at image) 0 0 ≡ get_or image at 0
gate_byte at image = get_or-drop at image 0 0 ∙ ap (λ n. get_or image n 0) (let e : at + 0 ≡ at = omega arith in e)

-- a gate is open where it is the same byte as one that is
pub same_gate : (at : ℕ) (image content : List ℕ) → get_or image at 0 ≡ get_or content at 0 → is_gate_open at image ≡ is_gate_open at content
same_gate at image content same = ap (λ x. nat_eq x 165) (gate_byte at image ∙ same ∙ sym (gate_byte at content))

open_byte : (l : List ℕ) → nat_eq (get_or l 0 0) 165 ≡ true → take 1 l ≡ 165 ∷ []
open_byte [] e = absurd (cc)
open_byte (x ∷ xs) e = let is : x ≡ 165 = grind (arith, nat_tests, e) in ap (λ n. n ∷ []) is

pub byte_open : (l : List ℕ) → take 1 l ≡ 165 ∷ [] → nat_eq (get_or l 0 0) 165 ≡ true
byte_open [] e = absurd (cc)
byte_open (x ∷ xs) e = let is : x ≡ 165 = ap (λ (l : List ℕ). get_or l 0 0) e in ap (λ n. nat_eq n 165) is

-- a gate is open or not
pub open_or_not : (b : Bool) → (b ≡ true) ⊎ (b ≡ false)
open_or_not true = inl refl
open_or_not false = inr refl

-- A STATE BEHIND A GATE

module _ (c : Config) (area : ℕ) (h : Header) (tables memory content image : List ℕ) (low : area ≤ 1) (filled : IsFilled c area h tables memory content) (same : IsSameOutside (GateAt c area) content image) where
  part : (n at : ℕ) → area_at c area + 1 ≤ at → take n (drop at image) ≡ take n (drop at content)
  part n at behind = part_same n at image content same.size (λ i w. same.same i (λ gate. omega (arith, w.0, gate.1, behind)))

  -- with its gate open the area holds it
  pub holds : is_gate_open (area_at c area) image ≡ true → HoldsArea c area h tables memory image
  holds opened = record {
    gate = open_byte (drop (area_at c area) image) opened;
    state = record {
      fields = part (length (header_fields h)) (area_at c area + 8) (omega arith) ∙ filled.state.fields;
      encoded = part (length tables) (tables_at c area) (omega arith) ∙ filled.state.encoded;
      pages = λ p from below. part 4096 (slot_at c area p) (omega arith) ∙ filled.state.pages p from below;
    };
  }

  pub has_no_batch : HasNoBatch c area image
  has_no_batch = part 1 (journal_at c area) (omega (arith, area_within c area low)) ∙ filled.no_batch

-- MOMENTS

module _ {D : Type 0} (d : Ghosts D) (c : Config) (area gate_at : ℕ) (h : Header) (tables memory : List ℕ) (low : area ≤ 1) (there : gate_at ≡ area_at c area) where
  abbrev AnyOf : D → List ℕ → Type 0
  AnyOf old image = IsClosing (area_at c area) (d.content old) image ⊎ IsFilling c area (d.content old) image ⊎ HasSaved c area h tables memory (d.content old) image

  -- while the gate is closed
  pub closing : (old mid : D) → LeavesOnly d.moment d.left_since old mid (IsClosing gate_at (d.content old)) → LeavesOnly d.moment d.left_since old mid (AnyOf old)
  closing old mid first = weaker d.moment d.left_since old mid _ (AnyOf old) first (λ image left. inl (subst (λ n. IsClosing n (d.content old) image) there left))

  -- what is as before but for the gate, and then but for what is filled
  outside_both : (old mid : D) (image : List ℕ) → IsSameOutside (IsWithin gate_at 1) (d.content old) (d.content mid) → IsSameOutside (FillsAt c area) (d.content mid) image → IsSameOutside (WritesAt c area) (d.content old) image
  outside_both old mid image first second = record {
    size = second.size ∙ first.size;
    same = λ i out. second.same i (λ fills. out (inr fills)) ∙ first.same i (λ gate. out (inl (omega (arith, gate.0, there), omega (arith, gate.1, there))));
  }

  -- the gate isn't filled
  spared : ¬ FillsAt c area gate_at
  spared fills = ⊎_elim (λ inside. omega (arith, inside.0, there)) (λ first. omega (arith, first.0, there, area_within c area low)) fills

  -- up to the end of the filling
  pub filling : (k m : ℕ) (old mid new : D) (failed : Bool) → d.is_honest mid → d.is_honest new → IsDurable d mid → is_gate_open gate_at (d.content mid) ≡ false
      → LeavesOnly d.moment d.left_since old mid (IsClosing gate_at (d.content old)) → WritesWithin d (IsWithin gate_at 1) k old mid false
      → WritesWithin d (FillsAt c area) m mid new failed → LeavesOnly d.moment d.left_since old new (AnyOf old)
  filling k m old mid new failed honest_mid honest durable closed first gate fill =
      goes_on d.moment d.left_since old mid new (AnyOf old) (closing old mid first)
      (weaker d.moment d.left_since mid new _ (AnyOf old) (fill.any_moment honest) (λ image left.
      let now : IsSameOutside (FillsAt c area) (d.content mid) image = record { size = left.size; same = λ i out. left.same i (λ risk. ⊎_elim (durable i) out risk) } in
      inr (inl (record {
        gate = subst (λ n. is_gate_open n image ≡ false) there (same_gate gate_at image (d.content mid) (now.same gate_at spared) ∙ closed);
        outside = outside_both old mid image (gate.content refl honest_mid) now;
      }))))

  -- as before but for the gate, of what was filled
  outside_all : (old mid : D) (content image : List ℕ) → IsSameOutside (WritesAt c area) (d.content old) content → IsSameOutside (GateAt c area) content image → IsSameOutside (WritesAt c area) (d.content old) image
  outside_all old mid content image first second = record {
    size = second.size ∙ first.size;
    same = λ i out. second.same i (λ gate. out (inl gate)) ∙ first.same i out;
  }

  at_gate : (content image : List ℕ) → IsSameOutside (IsWithin gate_at 1) content image → IsSameOutside (GateAt c area) content image
  at_gate content image same = subst (λ n. IsSameOutside (IsWithin n 1) content image) there same

  module _ (k m : ℕ) (old mid full new : D) (failed : Bool) (honest_mid : d.is_honest mid) (honest_full : d.is_honest full) (honest : d.is_honest new)
      (gate : WritesWithin d (IsWithin gate_at 1) k old mid false) (fill : WritesWithin d (FillsAt c area) m mid full false)
      (filled : IsFilled c area h tables memory (d.content full)) where
    so_far : IsSameOutside (WritesAt c area) (d.content old) (d.content full)
    so_far = outside_both old mid (d.content full) (gate.content refl honest_mid) (fill.content refl honest_full)

    -- an image that differs in the gate alone from what was filled
    pub saved_or_filling : (image : List ℕ) → IsSameOutside (GateAt c area) (d.content full) image → IsFilling c area (d.content old) image ⊎ HasSaved c area h tables memory (d.content old) image
    saved_or_filling image same = ⊎_elim
        (λ opened. inr (record {
          holds = holds c area h tables memory (d.content full) image low filled same opened;
          no_batch = has_no_batch c area h tables memory (d.content full) image low filled same;
          outside = outside_all old mid (d.content full) image so_far same;
        }))
        (λ shut. inl (record { gate = shut; outside = outside_all old mid (d.content full) image so_far same }))
        (open_or_not (is_gate_open (area_at c area) image))

    -- up to the end
    pub opening : IsDurable d mid → is_gate_open gate_at (d.content mid) ≡ false → LeavesOnly d.moment d.left_since old mid (IsClosing gate_at (d.content old)) → IsDurable d full
        → WritesWithin d (IsWithin gate_at 1) 2 full new failed → LeavesOnly d.moment d.left_since old new (AnyOf old)
    opening durable closed first durable_full last =
        goes_on d.moment d.left_since old full new (AnyOf old) (filling k m old mid full false honest_mid honest_full durable closed first gate fill)
        (weaker d.moment d.left_since full new _ (AnyOf old) (last.any_moment honest) (λ image left.
        inr (saved_or_filling image (at_gate (d.content full) image (record { size = left.size; same = λ i out. left.same i (λ risk. ⊎_elim (durable_full i) out risk) })))))

    -- and then
    pub has_saved : HasBytes (d.content new) gate_at (165 ∷ []) → WritesWithin d (IsWithin gate_at 1) 2 full new false → HasSaved c area h tables memory (d.content old) (d.content new)
    has_saved stands last =
        let same : IsSameOutside (GateAt c area) (d.content full) (d.content new) = at_gate (d.content full) (d.content new) (last.content refl honest) in
        record {
          holds = holds c area h tables memory (d.content full) (d.content new) low filled same (byte_open (drop (area_at c area) (d.content new)) (subst (λ n. HasBytes (d.content new) n (165 ∷ [])) there stands));
          no_batch = has_no_batch c area h tables memory (d.content full) (d.content new) low filled same;
          outside = outside_all old mid (d.content full) (d.content new) so_far same;
        }

-- CALLS

not_ok : {X : Type 0} (P : Type 0) (result : Result X AreaFault) → is_device result ≡ true → OnOk result P
not_ok P (Ok x) e = absurd (cc)
not_ok P (Err u) e = tt

module _ {D : Type 0} (d : Ghosts D) (c : Config) (area gate_at : ℕ) (there : gate_at ≡ area_at c area) where
  is_gate : (i : ℕ) → IsWithin gate_at 1 i → WritesAt c area i
  is_gate i w = inl (subst (λ n. IsWithin n 1 i) there w)

  pub gate_closed : (k : ℕ) (old mid : D) (failed : Bool) → WritesWithin d (IsWithin gate_at 1) k old mid failed → WritesWithin d (WritesAt c area) k old mid failed
  gate_closed k old mid failed = wider d (IsWithin gate_at 1) (WritesAt c area) k old mid failed is_gate

  pub then_filled : (k m : ℕ) (old mid full : D) (failed : Bool) → WritesWithin d (IsWithin gate_at 1) k old mid false → WritesWithin d (FillsAt c area) m mid full failed → WritesWithin d (WritesAt c area) (k + m) old full failed
  then_filled k m old mid full failed gate = writes_on_within d (WritesAt c area) (FillsAt c area) k m old mid full failed (λ i fills. inr fills) (gate_closed k old mid false gate)

  pub then_opened : (k m : ℕ) (old mid full new : D) (failed : Bool) → WritesWithin d (IsWithin gate_at 1) k old mid false → WritesWithin d (FillsAt c area) m mid full false → WritesWithin d (IsWithin gate_at 1) 2 full new failed
      → WritesWithin d (WritesAt c area) (k + m + 2) old new failed
  then_opened k m old mid full new failed gate fill = writes_on_within d (WritesAt c area) (IsWithin gate_at 1) (k + m) 2 old full new failed is_gate (then_filled k m old mid full false gate fill)

-- the gate is in no slot
pub clean_there : {D : Type 0} (d : Ghosts D) (c : Config) (area : ℕ) (m : Memory) (k : ℕ) (old mid : D) (gate_at : ℕ) → gate_at ≡ area_at c area → d.is_honest mid → WritesWithin d (IsWithin gate_at 1) k old mid false
    → CleanPagesStand c area m (d.content old) → CleanPagesStand c area m (d.content mid)
clean_there d c area m k old mid gate_at there honest gate = clean_stand d (IsWithin gate_at 1) k c area m old mid honest gate (λ p i low below w v. omega (arith, w.0, v.1, there))

-- where the disk failed the last call, the number of calls isn't said
pub failed_write : {D X : Type 0} (d : Ghosts D) (c : Config) (area n : ℕ) (m : Memory) (old new : D) (result : Result X AreaFault) → is_device result ≡ true → WritesWithin d (WritesAt c area) n old new true → IsAreaWrite d c area m old new result
failed_write d c area n m old new result failed calls = record {
  was_open = false;
  read = λ honest. not_ok _ result failed;
  within = failed_within d (WritesAt c area) n (calls_of (dirty_pages c area m) false result) old new (is_device result) failed calls;
}

pub closing_calls : (was_open : Bool) (k : ℕ) → calls_of_closing {X = DeviceFault} (Ok was_open) + (k + 4) + 2 ≡ (if was_open then 2 else 0) + k + 6
closing_calls true k = omega arith
closing_calls false k = omega arith

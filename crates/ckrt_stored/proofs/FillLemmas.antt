-- How a filling goes on from part to part, and what a stop leaves of it.
use Rattle.std.specs.Prelude.{OnOk}
use Rattle.std.proofs.Common.{◌≡◌, ◌⊎◌, inl, inr, ℕ, zero, suc, min, ◌+◌, ◌-◌, ◌≤◌, ◌<◌, Bool, true, false, List, [], ◌∷◌, ◌++◌, length, get_or, take, drop, replicate, nat_eq, Result, Ok, Err, is_err, refl, sym, ◌∙◌, ap, subst, arith}
use Rattle.std.proofs.lemmas.Bool.{cases_lt}
use Rattle.std.proofs.lemmas.Bool.Decides.{nat_tests}
use Rattle.std.proofs.lemmas.List.{get_or_past}
use Rattle.ckrt_disk.specs.Disk.{IsOverwritten, IsWithin, LeavesOnly}
use Rattle.ckrt_disk.specs.Frame.{AtAnyMoment, WritesWithin}
use Rattle.ckrt_disk.specs.declared.disk.Disk.{Ghosts}
use Rattle.ckrt_disk.proofs.FrameLemmas.{byte_left, failed_within, wider, writes_on_within}
use Rattle.ckrt_disk.proofs.Images.{get_part, written_there}
use Rattle.ckrt_disk.proofs.Moments.{goes_on, weaker}
use Rattle.ckrt_stored.specs.Layout.{is_open}
use Rattle.ckrt_stored.specs.Filling.{IsBegun, block, filled_byte, making_front}

pub zeros_front : (count n k : ℕ) → get_or {A = ℕ} (take count (replicate n 0)) k 0 ≡ 0
zeros_front zero n k = refl
zeros_front (suc count) zero k = refl
zeros_front (suc count) (suc n) zero = refl
zeros_front (suc count) (suc n) (suc k) = zeros_front count n k

pub zeros_behind : (count n k : ℕ) → get_or {A = ℕ} (drop count (replicate n 0)) k 0 ≡ 0
zeros_behind zero zero k = refl
zeros_behind zero (suc n) zero = refl
zeros_behind zero (suc n) (suc k) = zeros_behind zero n k
zeros_behind (suc count) zero k = refl
zeros_behind (suc count) (suc n) k = zeros_behind count n k

-- zeros after some bytes are what any byte after the end of these reads as
pub front_and_zeros : (front zeros : List ℕ) → ((k : ℕ) → get_or zeros k 0 ≡ 0) → (k : ℕ) → get_or (front ++ zeros) k 0 ≡ get_or front k 0
front_and_zeros [] zeros are k = are k
front_and_zeros (x ∷ xs) zeros are zero = refl
front_and_zeros (x ∷ xs) zeros are (suc k) = front_and_zeros xs zeros are k

pub front_length : (count : ℕ) (bytes : List ℕ) → count ≤ length bytes → length (take count bytes) ≡ count
front_length zero bytes le = refl
front_length (suc count) [] le = absurd (omega arith)
front_length (suc count) (x ∷ xs) le = ap (λ k. suc k) (front_length count xs (omega arith))

pub front_byte : (count : ℕ) (bytes : List ℕ) (k : ℕ) → k < count → get_or (take count bytes) k 0 ≡ get_or bytes k 0
front_byte zero bytes k lt = absurd (omega arith)
front_byte (suc count) [] k lt = refl
front_byte (suc count) (x ∷ xs) zero lt = refl
front_byte (suc count) (x ∷ xs) (suc k) lt = front_byte count xs k (omega arith)

-- what was written reads so
pub written_bytes : (f : ℕ → ℕ) (old : List ℕ) (at count : ℕ) (bytes new : List ℕ) → IsOverwritten old at bytes new → length bytes ≡ count → at + count ≤ length old → length new ≡ length old
    → ((k : ℕ) → k < count → get_or bytes k 0 ≡ f (at + k)) → (i : ℕ) → IsWithin at count i → get_or new i 0 ≡ f i
written_bytes f old at count bytes new is long room size are i within =
    let k = i - at in
    let there : at + k ≡ i = omega (arith, within.0) in
    let fits : k < count = omega (arith, within.0, within.1) in
    let below : k < length bytes = omega (arith, fits, long) in
    let inside : at + k < length new = omega (arith, below, long, room, size) in
    ap (λ n. get_or new n 0) (sym there) ∙ sym (get_part (length bytes) at new k 0 below inside) ∙ ap (λ (l : List ℕ). get_or l k 0) (written_there old at bytes new is (omega (arith, long, room))) ∙ are k fits ∙ ap f there

pub written_zeros : (old : List ℕ) (at count : ℕ) (bytes new : List ℕ) → IsOverwritten old at bytes new → length bytes ≡ count → at + count ≤ length old → length new ≡ length old → ((k : ℕ) → get_or bytes k 0 ≡ 0) → (i : ℕ) → IsWithin at count i → get_or new i 0 ≡ 0
written_zeros old at count bytes new is long room size zeros = written_bytes (λ i. 0) old at count bytes new is long room size (λ k lt. zeros k)

-- a first block, or all of a list that is shorter
pub first_bytes : (f : ℕ → ℕ) (n count : ℕ) (old bytes new : List ℕ) → IsOverwritten old 0 bytes new → length bytes ≡ count → length new ≡ length old → count ≡ min (length old) n → ((k : ℕ) → k < count → get_or bytes k 0 ≡ f k) → (i : ℕ) → i < n → i < length new → get_or new i 0 ≡ f i
first_bytes f n count old bytes new is long size least are i lt inside =
    written_bytes f old 0 count bytes new is long (grind (arith, nat_tests, least)) size (λ k below. let same : k ≡ 0 + k = omega arith in are k below ∙ ap f same) i (omega arith, (grind (arith, nat_tests, least, size, lt, inside)))

-- a clause of a call that went well
pub on_well : {X E P Q : Type 0} (result : Result X E) → (is_err result ≡ false → P → Q) → OnOk result P → OnOk result Q
on_well (Ok x) goes p = goes refl p
on_well (Err e) goes p = tt

-- behind its front a file that is filled has zeros
pub filled_behind : (i : ℕ) → 16 ≤ i → filled_byte i ≡ 0
filled_behind i le = get_or_past making_front i 0 le

-- no gate is open where nothing is, or a zero
pub closed_first : (bytes : List ℕ) → (0 < length bytes → get_or bytes 0 0 ≡ 0) → is_open bytes ≡ false
closed_first [] zero_there = refl
closed_first (x ∷ xs) zero_there = ap (λ byte. nat_eq byte 165) (zero_there (omega arith))

module _ {D : Type 0} (d : Ghosts D) where
  -- one part more, behind an offset
  pub fills_on : (from at count : ℕ) (old mid new : D) (failed : Bool) → from ≤ at → WritesWithin d (λ i. from ≤ i) (d.calls mid - d.calls old) old mid false → WritesWithin d (IsWithin at count) 1 mid new failed
      → WritesWithin d (λ i. from ≤ i) (d.calls new - d.calls old) old new failed
  fills_on from at count old mid new false le first second =
      let both = writes_on_within d (λ i. from ≤ i) (IsWithin at count) (d.calls mid - d.calls old) 1 old mid new false (λ i w. omega (arith, le, w.0)) first second in
      let counted : (d.calls mid - d.calls old) + 1 ≡ d.calls new - d.calls old = omega (arith, first.calls refl, second.calls refl) in
      subst (λ n. WritesWithin d (λ i. from ≤ i) n old new false) counted both
  fills_on from at count old mid new true le first second =
      failed_within d (λ i. from ≤ i) ((d.calls mid - d.calls old) + 1) (d.calls new - d.calls old) old new true refl
      (writes_on_within d (λ i. from ≤ i) (IsWithin at count) (d.calls mid - d.calls old) 1 old mid new true (λ i w. omega (arith, le, w.0)) first second)

  -- and the zeros go on so
  pub zeros_on : (from at count : ℕ) (mid new : D) → WritesWithin d (IsWithin at count) 1 mid new false → (d.is_honest new → (i : ℕ) → IsWithin at count i → get_or (d.content new) i 0 ≡ 0)
      → (d.is_honest mid → (i : ℕ) → from ≤ i → i < at → get_or (d.content mid) i 0 ≡ 0) → d.is_honest new → (i : ℕ) → from ≤ i → i < at + count → get_or (d.content new) i 0 ≡ 0
  zeros_on from at count mid new within there before honest i le lt = elim (cases_lt i at) [
    | inl front ↦ (within.content refl honest).same i (λ w. absurd (omega (arith, front, w.0))) ∙ before (within.same.honest honest) i le front
    | inr behind ↦ there honest i (behind, lt)
  ]

  -- two parts, of which the second has counted its calls
  pub both_parts : (first_at region : ℕ → Type 0) (m : ℕ) (old mid new : D) (failed : Bool) → ((i : ℕ) → first_at i → region i) → (second_at : ℕ → Type 0) → ((i : ℕ) → second_at i → region i)
      → WritesWithin d first_at m old mid false → WritesWithin d second_at (d.calls new - d.calls mid) mid new failed → WritesWithin d region (d.calls new - d.calls old) old new failed
  both_parts first_at region m old mid new false in_first second_at in_second first second =
      let both = writes_on_within d region second_at m (d.calls new - d.calls mid) old mid new false in_second (wider d first_at region m old mid false in_first first) second in
      let counted : m + (d.calls new - d.calls mid) ≡ d.calls new - d.calls old = omega (arith, first.calls refl, second.calls refl) in
      subst (λ n. WritesWithin d region n old new false) counted both
  both_parts first_at region m old mid new true in_first second_at in_second first second =
      failed_within d region (m + (d.calls new - d.calls mid)) (d.calls new - d.calls old) old new true refl
      (writes_on_within d region second_at m (d.calls new - d.calls mid) old mid new true in_second (wider d first_at region m old mid false in_first first) second)

  -- behind a gate that is closed and durable a filling leaves it so at any moment
  pub stays_closed : (from n : ℕ) (mid new : D) (failed : Bool) → 1 ≤ from → WritesWithin d (λ i. from ≤ i) n mid new failed → d.is_honest new → ¬ d.pending mid 0 → is_open (d.content mid) ≡ false
      → LeavesOnly d.moment d.left_since mid new (λ image. is_open image ≡ false)
  stays_closed from n mid new failed some within honest durable closed =
      weaker d.moment d.left_since mid new _ _ (byte_left d (λ i. from ≤ i) n mid new failed within honest 0 durable (λ le. absurd (omega (arith, some, le))))
      (λ image same. ap (λ byte. nat_eq byte 165) same ∙ closed)

  -- what a stop leaves of the first block's filling
  pub begins : (n : ℕ) (old mid : D) (failed : Bool) → WritesWithin d (λ i. i < block) n old mid failed → AtAnyMoment d old mid (IsBegun d old)
  begins n old mid failed within honest = weaker d.moment d.left_since old mid _ _ (within.any_moment honest) (λ image left. inl left)

  -- and of what is behind it
  pub goes_on_closed : (P : List ℕ → Type 0) (from n : ℕ) (old mid new : D) (failed : Bool) → 1 ≤ from → (d.is_honest mid → LeavesOnly d.moment d.left_since old mid (λ image. P image ⊎ (is_open image ≡ false))) → WritesWithin d (λ i. from ≤ i) n mid new failed
      → (d.is_honest mid → ¬ d.pending mid 0) → (d.is_honest mid → is_open (d.content mid) ≡ false) → AtAnyMoment d old new (λ image. P image ⊎ (is_open image ≡ false))
  goes_on_closed P from n old mid new failed some first within durable closed honest =
      let was = within.same.honest honest in
      goes_on d.moment d.left_since old mid new _ (first was)
      (weaker d.moment d.left_since mid new _ _ (stays_closed from n mid new failed some within honest (durable was) (closed was)) (λ image is. inr is))

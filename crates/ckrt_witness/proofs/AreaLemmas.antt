-- What an image has that recovers: its superblock, the area in use, and the other one.
use Rattle.std.proofs.Common.{◌≡◌, inl, ⊎_elim, ℕ, zero, suc, ◌≤◌, ◌<◌, ◌+◌, ◌-◌, ◌&&◌, ◌||◌, not, Bool, true, false, cond, nat_eq, nat_lt, List, [], ◌∷◌, ◌++◌, length, take, drop, Result, Ok, Err, refl, sym, ◌∙◌, ap, subst, arith, append_assoc}
use Rattle.std.specs.Prelude.{◌≢◌}
use Rattle.std.proofs.lemmas.Bool.{false≢true}
use Rattle.std.proofs.lemmas.Bool.Decides.{nat_tests}
use Rattle.ckrt_disk.specs.Disk.{IsOverwritten, IsWithin}
use Rattle.ckrt_disk.specs.Frame.{IsSameOutside}
use Rattle.ckrt_disk.proofs.Images.{wider_image}
use Rattle.ckrt_stored.specs.declared.area.Area.{Area}
use Rattle.ckrt_stored.specs.declared.config.Config.{Config}
use Rattle.ckrt_stored.specs.declared.area_fault.AreaFault.{AreaFault}
use Rattle.ckrt_stored.specs.declared.area_fault.AreaFault.TheVariants.{Damaged}
use Rattle.ckrt_stored.specs.declared.header.Header.{Header}
use Rattle.ckrt_stored.specs.Areas.{area_of, checked_area}
use Rattle.ckrt_stored.specs.Layout.{area_at, area_size, header_of, is_open, is_valid, journal_at, memory_of, size_needed}
use Rattle.ckrt_stored.proofs.PickLemmas.{area_end, checked_same}
use Rattle.ckrt_stored.specs.Frame.{BelongsTo, IsNewest}
use Rattle.ckrt_stored.specs.Recovery.{Recovered, Recovers, in_use}
use Rattle.ckrt_stored.proofs.AreaLemmas.{IsInUse, is_in_use}
use Rattle.ckrt_stored.proofs.GrowthLemmas.{Uses, uses}
use Rattle.ckrt_stored.proofs.RecoverLemmas.{IsKnown, known, same_found}
use Rattle.ckrt_stored.proofs.SwitchLemmas.{index_is}
use Rattle.ckrt_witness.specs.Areas.{FrameWitness, SwitchWitness}

-- THE OTHER AREA

-- the choice of two areas by its tests: the first is open, the second is, their generations are the same, that of the second is the lower one
abbrev choice : (a b e l : Bool) → (x y : Result Area AreaFault) → Result Area AreaFault
choice a b e l x y = cond (not a && not b) (Err Damaged) (cond (a && b && e) (Err Damaged) (cond (a && (not b || l)) x y))

module _ (c : Config) (image : List ℕ) (z : Area) where
  abbrev h : Header
  h = header_of c 0 image

  abbrev k : Header
  k = header_of c 1 image

  abbrev zeroth : Area
  zeroth = record { index = 0; header = h }

  abbrev first : Area
  first = record { index = 1; header = k }

  is_zeroth : (k.is_open ≡ true → k.generation < h.generation) → checked_area zeroth ≡ Ok z → IsNewest c z image
  is_zeroth older is = subst (λ (a : Area). IsNewest c a image) (checked_same zeroth z is) older

  is_first : (h.is_open ≡ true → h.generation < k.generation) → checked_area first ≡ Ok z → IsNewest c z image
  is_first older is = subst (λ (a : Area). IsNewest c a image) (checked_same first z is) older

  chosen : (a b e l : Bool) → h.is_open ≡ a → k.is_open ≡ b → nat_eq h.generation k.generation ≡ e → nat_lt k.generation h.generation ≡ l → choice a b e l (checked_area zeroth) (checked_area first) ≡ Ok z → IsNewest c z image
  chosen true true true l one other same less is = absurd (cc)
  chosen true true false true one other same less is = is_zeroth (λ _. grind (arith, nat_tests, less)) is
  chosen true true false false one other same less is = is_first (λ _. grind (arith, nat_tests, same, less)) is
  chosen true false e l one other same less is = is_zeroth (λ there. absurd (false≢true (sym other ∙ there))) is
  chosen false true e l one other same less is = is_first (λ there. absurd (false≢true (sym one ∙ there))) is
  chosen false false e l one other same less is = absurd (cc)

  newest : area_of c image ≡ Ok z → IsNewest c z image
  newest is = chosen h.is_open k.is_open (nat_eq h.generation k.generation) (nat_lt k.generation h.generation) refl refl refl refl is

-- PLACES

pub some_journal : (c : Config) → is_valid c ≡ true → 1 ≤ c.journal
some_journal c valid = grind (arith, nat_tests, valid)

-- the first gate of a journal, and the fields of an area's header, lie on the disk
pub gate_inside : (c : Config) (index : ℕ) → is_valid c ≡ true → index ≤ 1 → journal_at c index + 1 ≤ size_needed c
gate_inside c index valid few = ⊎_elim
    (λ zeroth. subst (λ i. journal_at c i + 1 ≤ size_needed c) (sym zeroth) (omega (arith, some_journal c valid)))
    (λ first. subst (λ i. journal_at c i + 1 ≤ size_needed c) (sym first) (omega (arith, some_journal c valid)))
    (index_is index few)

pub fields_inside : (c : Config) (index : ℕ) → index ≤ 1 → area_at c index + 9 ≤ size_needed c
fields_inside c index few = omega (arith, area_end c index (index_is index few))

-- NO BATCH

-- a gate is the first byte of what stands there, however much that is
gate_alone : (n : ℕ) (l : List ℕ) → 1 ≤ n → is_open (take 1 l) ≡ false → is_open (take n l) ≡ false
gate_alone zero l some shut = absurd (omega (arith, some))
gate_alone (suc n) [] some shut = shut
gate_alone (suc n) (x ∷ l) some shut = shut

-- BOTH AREAS

module _ (image : List ℕ) (r : Recovered) (c : Config) (a : Area) (used : in_use image ≡ Ok (c, a)) (recovers : Recovers image (Ok r)) where
  abbrev is_known : IsKnown image r
  is_known = known image r recovers

  same_area : ◌≡◌ {A = Config × Area} (c, a) (is_known.config, is_known.area)
  same_area = same_found c is_known.config a is_known.area (sym used ∙ is_known.used)

  pub switch_met : 1 ≤ c.journal → is_open (take 1 (drop (journal_at c a.index) image)) ≡ false → (header_of c (1 - a.index) image).is_open ≡ true → SwitchWitness image
  switch_met some shut opened =
      let k = is_known in
      let u : Uses k.config k.area image = uses k.config k.area image k.used in
      let i : IsInUse k.config k.area image = is_in_use k.config image k.area u.area in
      let gate : is_open (take k.config.journal (drop (journal_at k.config k.area.index) image)) ≡ false = subst (λ (p : Config × Area). is_open (take p.0.journal (drop (journal_at p.0 p.1.index) image)) ≡ false) same_area (gate_alone c.journal (drop (journal_at c a.index) image) some shut) in
      record {
        config = k.config;
        superblock = u.superblock;
        area = k.area;
        memory = memory_of k.config k.area.index image;
        saved = k.saved;
        holds = record {
          index = ⊎_elim (λ is. omega (arith, is)) (λ is. omega (arith, is)) i.index;
          header = i.header;
          opened = i.is_open;
          checked = i.checked;
          end = k.in_range;
          savable = k.decodes.savable;
          tables = k.decodes.encoded;
          pages = refl;
          no_batch = gate;
        };
        newest = newest k.config image k.area u.area;
        both = subst (λ (p : Config × Area). (header_of p.0 (1 - p.1.index) image).is_open ≡ true) same_area opened;
      }

-- AN UNUSED BYTE

behind_front : (at : ℕ) (l m : List ℕ) → at ≤ length l → drop at (take at l ++ m) ≡ m
behind_front zero l m long = refl
behind_front (suc n) [] m long = absurd (omega (arith, long))
behind_front (suc n) (x ∷ l) m long = behind_front n l m (omega (arith, long))

-- a byte that was written stands there
stands : (at byte : ℕ) (before image m : List ℕ) → at ≤ length before → image ≡ take at before ++ m → take 1 m ≡ byte ∷ [] → take 1 (drop at image) ≡ byte ∷ []
stands at byte before image m inside written is = ap (λ (l : List ℕ). take 1 (drop at l)) written ∙ ap (λ (l : List ℕ). take 1 l) (behind_front at before m inside) ∙ is

in_area : (base size i : ℕ) → 102400 ≤ size → IsWithin (base + 8) 1 i → IsWithin base size i
in_area base size i large within = (omega (arith, within.0), omega (arith, within.1, large))

module _ (before image : List ℕ) (r : Recovered) (c : Config) (a : Area) (used : in_use before ≡ Ok (c, a)) (recovers : Recovers before (Ok r)) where
  own_place : ◌≡◌ {A = Config × ℕ} (c, a.index) (r.config, r.area)
  own_place =
      let k = is_known before r c a used recovers in
      ap (λ (p : Config × Area). (p.0, p.1.index)) (same_area before r c a used recovers) ∙ ap (λ (x : Recovered). (x.config, x.area)) k.is_replayed

  pub frame_met : (byte : ℕ) → area_at c (1 - a.index) + 8 ≤ length before → IsSameOutside (IsWithin (area_at c (1 - a.index) + 8) 1) before image → IsOverwritten before (area_at c (1 - a.index) + 8) (byte ∷ []) image
      → take 1 (drop (area_at c (1 - a.index) + 8) before) ≢ byte ∷ [] → (header_of c (1 - a.index) image).is_open ≡ false → FrameWitness before image
  frame_met byte inside same written other shut =
      let at = area_at c (1 - a.index) + 8 in
      let wide : IsSameOutside (BelongsTo c (1 - a.index)) before image = wider_image (IsWithin at 1) (BelongsTo c (1 - a.index)) before image (λ i w. inl (in_area (area_at c (1 - a.index)) (area_size c) i (omega arith) w)) same in
      record {
        recovered = r;
        recovers = recovers;
        outside = subst (λ (p : Config × ℕ). IsSameOutside (BelongsTo p.0 (1 - p.1)) before image) own_place wide;
        shut = subst (λ (p : Config × ℕ). (header_of p.0 (1 - p.1) image).is_open ≡ false) own_place shut;
        other = λ is. other (ap (λ (l : List ℕ). take 1 (drop at l)) (sym is) ∙ stands at byte before image ((byte ∷ []) ++ drop (at + length (byte ∷ [])) before) inside (written ∙ append_assoc (take at before) (byte ∷ []) (drop (at + length (byte ∷ [])) before)) refl);
      }

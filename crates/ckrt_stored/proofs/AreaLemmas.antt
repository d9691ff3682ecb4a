-- Which area is in use: what is known of it, and what makes it so.
use Rattle.std.proofs.Common.{◌≡◌, ◌⊎◌, inl, inr, ⊎_elim, ℕ, ◌-◌, ◌<◌, ◌&&◌, ◌||◌, not, Bool, true, false, cond, nat_eq, nat_lt, List, Result, Ok, Err, refl, sym, ◌∙◌, ap, subst, arith}
use Rattle.std.proofs.lemmas.Bool.Decides.{nat_tests}
use Rattle.ckrt_stored.specs.declared.area.Area.{Area}
use Rattle.ckrt_stored.specs.declared.config.Config.{Config}
use Rattle.ckrt_stored.specs.declared.area_fault.AreaFault.{AreaFault}
use Rattle.ckrt_stored.specs.declared.area_fault.AreaFault.TheVariants.{Version, Damaged}
use Rattle.ckrt_stored.specs.declared.header.Header.{Header}
use Rattle.ckrt_stored.specs.Areas.{area_of, checked_area, is_in_range, is_known_version, newest_area}
use Rattle.ckrt_stored.specs.Layout.{header_of}

-- THE TWO AREAS

-- the choice by its tests: the first is open, the second is, their generations are the same, that of the second is the lower one
abbrev choice : (a b e l : Bool) → (x y : Result Area AreaFault) → Result Area AreaFault
choice a b e l x y = cond (not a && not b) (Err Damaged) (cond (a && b && e) (Err Damaged) (cond (a && (not b || l)) x y))

-- what was chosen is open
by_choice : (a b e l : Bool) (x y : Result Area AreaFault) (z : Area) → choice a b e l x y ≡ Ok z → ((a ≡ true) × (x ≡ Ok z)) ⊎ ((b ≡ true) × (y ≡ Ok z))
by_choice true true true l x y z is = absurd (cc)
by_choice true true false true x y z is = inl (refl, is)
by_choice true true false false x y z is = inr (refl, is)
by_choice true false true l x y z is = inl (refl, is)
by_choice true false false l x y z is = inl (refl, is)
by_choice false true e l x y z is = inr (refl, is)
by_choice false false e l x y z is = absurd (cc)

checked_is : (a b c : Bool) (x y : Area) → ◌≡◌ {A = Result Area AreaFault} (cond a (Err Damaged) (cond b (Err Version) (cond c (Ok x) (Err Damaged)))) (Ok y) → (x ≡ y) × (a ≡ false) × (c ≡ true)
checked_is true b c x y e = absurd (cc)
checked_is false true c x y e = absurd (cc)
checked_is false false true x y e = (cc, refl, refl)
checked_is false false false x y e = absurd (cc)

-- what is known of the area in use
pub record IsInUse (c : Config) (area : Area) (image : List ℕ) : Type 0 where
  pub index : (area.index ≡ 0) ⊎ (area.index ≡ 1)
  -- its header is the one that stands there
  pub header : header_of c area.index image ≡ area.header
  pub is_open : area.header.is_open ≡ true
  pub checked : checked_area area ≡ Ok area
  pub in_range : is_in_range area.header ≡ true

checked_in_range : (x z : Area) → checked_area x ≡ Ok z → (x ≡ z) × (is_in_range x.header ≡ true)
checked_in_range x z e = let p = checked_is (nat_eq x.header.generation 0) (not (is_known_version x.header.version)) (is_in_range x.header) x z e in (p.0, p.2)

module _ (c : Config) (image : List ℕ) (z : Area) where
  abbrev zeroth : Area
  zeroth = record { index = 0; header = header_of c 0 image }

  abbrev first : Area
  first = record { index = 1; header = header_of c 1 image }

  is_zeroth : (zeroth.header.is_open ≡ true) × (checked_area zeroth ≡ Ok z) → IsInUse c z image
  is_zeroth p = let q = checked_in_range zeroth z p.1 in subst (λ (a : Area). IsInUse c a image) q.0 (record { index = inl refl; header = refl; is_open = p.0; checked = p.1 ∙ ap (λ (a : Area). Ok a) (sym q.0); in_range = q.1 })

  is_first : (first.header.is_open ≡ true) × (checked_area first ≡ Ok z) → IsInUse c z image
  is_first p = let q = checked_in_range first z p.1 in subst (λ (a : Area). IsInUse c a image) q.0 (record { index = inr refl; header = refl; is_open = p.0; checked = p.1 ∙ ap (λ (a : Area). Ok a) (sym q.0); in_range = q.1 })

  pub is_in_use : area_of c image ≡ Ok z → IsInUse c z image
  is_in_use is = ⊎_elim is_zeroth is_first
      (by_choice (header_of c 0 image).is_open (header_of c 1 image).is_open (nat_eq (header_of c 0 image).generation (header_of c 1 image).generation)
      (nat_lt (header_of c 1 image).generation (header_of c 0 image).generation) (checked_area zeroth) (checked_area first) z is)

-- WHAT IS CHOSEN

-- the first is open, and the second isn't or is older
newest_zeroth : (h k : Header) → h.is_open ≡ true → (k.is_open ≡ true → k.generation < h.generation) → newest_area h k ≡ checked_area (record { index = 0; header = h })
newest_zeroth h k opened older = by_other k.is_open refl
  where
    by_other : (b : Bool) → k.is_open ≡ b → newest_area h k ≡ checked_area (record { index = 0; header = h })
    by_other false closed = rw (opened, closed) refl
    by_other true is_there =
        let other : nat_eq h.generation k.generation ≡ false = grind (arith, nat_tests, older is_there) in
        let lower : nat_lt k.generation h.generation ≡ true = grind (arith, nat_tests, older is_there) in
        rw (opened, is_there, other, lower) refl

newest_first : (h k : Header) → k.is_open ≡ true → (h.is_open ≡ true → h.generation < k.generation) → newest_area h k ≡ checked_area (record { index = 1; header = k })
newest_first h k opened older = by_other h.is_open refl
  where
    by_other : (b : Bool) → h.is_open ≡ b → newest_area h k ≡ checked_area (record { index = 1; header = k })
    by_other false closed = rw (opened, closed) refl
    by_other true is_there =
        let other : nat_eq h.generation k.generation ≡ false = grind (arith, nat_tests, older is_there) in
        let lower : nat_lt k.generation h.generation ≡ false = grind (arith, nat_tests, older is_there) in
        rw (opened, is_there, other, lower) refl

-- an open area whose other one is closed or older is in use
pub picked_newest : (c : Config) (image : List ℕ) (z : Area) → (z.index ≡ 0) ⊎ (z.index ≡ 1) → header_of c z.index image ≡ z.header → z.header.is_open ≡ true
    → ((header_of c (1 - z.index) image).is_open ≡ true → (header_of c (1 - z.index) image).generation < z.header.generation) → checked_area z ≡ Ok z → area_of c image ≡ Ok z
picked_newest c image z index header opened older checked = ⊎_elim at_0 at_1 index
  where
    at_0 : z.index ≡ 0 → area_of c image ≡ Ok z
    at_0 is =
        let here : header_of c 0 image ≡ z.header = ap (λ i. header_of c i image) (sym is) ∙ header in
        let there : header_of c (1 - z.index) image ≡ header_of c 1 image = ap (λ i. header_of c (1 - i) image) is in
        ap (λ h. newest_area h (header_of c 1 image)) here
        ∙ newest_zeroth z.header (header_of c 1 image) opened (λ there_open. subst (λ (h : Header). h.generation < z.header.generation) there (older (ap (λ (h : Header). h.is_open) there ∙ there_open)))
        ∙ ap (λ i. checked_area (record { index = i; header = z.header })) (sym is) ∙ checked

    at_1 : z.index ≡ 1 → area_of c image ≡ Ok z
    at_1 is =
        let here : header_of c 1 image ≡ z.header = ap (λ i. header_of c i image) (sym is) ∙ header in
        let there : header_of c (1 - z.index) image ≡ header_of c 0 image = ap (λ i. header_of c (1 - i) image) is in
        ap (λ h. newest_area (header_of c 0 image) h) here
        ∙ newest_first (header_of c 0 image) z.header opened (λ there_open. subst (λ (h : Header). h.generation < z.header.generation) there (older (ap (λ (h : Header). h.is_open) there ∙ there_open)))
        ∙ ap (λ i. checked_area (record { index = i; header = z.header })) (sym is) ∙ checked

-- Each race with an access that is kept is found.
use Rattle.std.proofs.Common.{◌≡◌, inl, inr, ◌≤◌, ◌<◌, ℕ, zero, suc, ◌+◌, ◌*◌, ◌^◌, nat_lt, ◌==◌, ◌||◌, ◌&&◌, not, Bool, true, false, List, [], ◌∷◌, ◌++◌, length, take, get_or, slice_get, Option, Some, None, refl, sym, ap, ◌∙◌, subst, arith}
use Rattle.std.proofs.lemmas.Bool.Decides.{nat_tests}
use Rattle.std.specs.List.{AllByRecursion, list_any}
use Rattle.ckrt_look_clocks.specs.declared.operation.Access.{Access}
use Rattle.ckrt_look_clocks.specs.declared.operation.Block.{Block}
use Rattle.ckrt_look_clocks.specs.declared.operation.Operation.{Operation}
use Rattle.ckrt_look_clocks.specs.declared.operation.Operation.TheVariants as operation
use Rattle.ckrt_look_clocks.specs.declared.operation.TheConstants.{THREADS}
use Rattle.ckrt_look_clocks.specs.declared.clock.Clock.{Clock}
use Rattle.ckrt_look_clocks.specs.declared.shadow.Cell.{Cell}
use Rattle.ckrt_look_clocks.specs.declared.pair.Pair.{Pair}
use Rattle.ckrt_look_clocks.specs.declared.pair.TheConstants.{PAIRS}
use Rattle.ckrt_look_clocks.specs.Histories.{History, conflict, moment, op_at}
use Rattle.ckrt_look_clocks.specs.Detection.{Found, Watched, access_at, compared, compared_all, compared_stores, counted, first_pair, is_at, is_repeated, is_same, knows, noted, one_more, races, watched, with_pair, word_of}
use Rattle.ckrt_look_clocks.specs.Laws.{AreFound, IsKept, IsOrderly, KeptRacesAreFound, MeetsKept, moment_of, next_moment}
use Rattle.ckrt_look_clocks.proofs.ListLemmas.{chosen, passed_over}
use Rattle.ckrt_look_clocks.proofs.ClockLemmas.{is_other, is_same as is_equal}
use Rattle.ckrt_look_clocks.proofs.SeenLemmas.{op_case, tells}
use Rattle.ckrt_look_clocks.proofs.RaceLemmas.{AreAccesses, WasAccess, are_races, at_place, was_at}

-- WHAT IS FOUND STAYS FOUND

or_first : (t u : Bool) → t ≡ true → (t || u) ≡ true
or_first true u e = refl
or_first false u e = absurd (cc)

or_second : (t u : Bool) → u ≡ true → (t || u) ≡ true
or_second true u e = refl
or_second false u e = e

any_counted : (a b x y : Access) (ps : List Pair) → list_any (is_at a b) (counted x y ps) ≡ list_any (is_at a b) ps
any_counted a b x y [] = refl
any_counted a b x y (p ∷ ps) = go (is_at x y p) refl (any_counted a b x y ps)
  where
    go : (t : Bool) → is_at x y p ≡ t → list_any (is_at a b) (counted x y ps) ≡ list_any (is_at a b) ps → list_any (is_at a b) (counted x y (p ∷ ps)) ≡ list_any (is_at a b) (p ∷ ps)
    go true e rest = ap (list_any (is_at a b)) (chosen (is_at x y p) (record p { count = one_more p.count } ∷ ps) (p ∷ counted x y ps) e)
    go false e rest = ap (list_any (is_at a b)) (passed_over (is_at x y p) (record p { count = one_more p.count } ∷ ps) (p ∷ counted x y ps) e) ∙ ap (λ t. is_at a b p || t) rest

any_more : (a b : Access) (ps qs : List Pair) → list_any (is_at a b) ps ≡ true → list_any (is_at a b) (ps ++ qs) ≡ true
any_more a b [] qs e = absurd (cc)
any_more a b (p ∷ ps) qs e = go (is_at a b p) refl (any_more a b ps qs)
  where
    go : (t : Bool) → is_at a b p ≡ t → (list_any (is_at a b) ps ≡ true → list_any (is_at a b) (ps ++ qs) ≡ true) → (is_at a b p || list_any (is_at a b) (ps ++ qs)) ≡ true
    go true is rest = or_first (is_at a b p) (list_any (is_at a b) (ps ++ qs)) is
    go false is rest = or_second (is_at a b p) (list_any (is_at a b) (ps ++ qs)) (rest (sym (ap (λ t. t || list_any (is_at a b) ps) is) ∙ e))

any_last : (a b : Access) (ps : List Pair) (p : Pair) → is_at a b p ≡ true → list_any (is_at a b) (ps ++ p ∷ []) ≡ true
any_last a b [] p is = or_first (is_at a b p) false is
any_last a b (q ∷ ps) p is = or_second (is_at a b q) (list_any (is_at a b) (ps ++ p ∷ [])) (any_last a b ps p is)

found_in_pair : (block : Option Block) (a b x y : Access) (f : Found) (t : Bool) → nat_lt (length f.pairs) PAIRS ≡ t → AreFound a b f → AreFound a b (with_pair block x y f)
found_in_pair block a b x y f true e (inl any) = subst (λ (g : Found). AreFound a b g) (sym (chosen (nat_lt (length f.pairs) PAIRS) (record f { pairs = f.pairs ++ first_pair block x y ∷ [] }) (record f { others = one_more f.others }) e))
    (inl (any_more a b f.pairs (first_pair block x y ∷ []) any))
found_in_pair block a b x y f true e (inr some) = subst (λ (g : Found). AreFound a b g) (sym (chosen (nat_lt (length f.pairs) PAIRS) (record f { pairs = f.pairs ++ first_pair block x y ∷ [] }) (record f { others = one_more f.others }) e)) (inr some)
found_in_pair block a b x y f false e (inl any) = subst (λ (g : Found). AreFound a b g) (sym (passed_over (nat_lt (length f.pairs) PAIRS) (record f { pairs = f.pairs ++ first_pair block x y ∷ [] }) (record f { others = one_more f.others }) e)) (inl any)
found_in_pair block a b x y f false e (inr some) = subst (λ (g : Found). AreFound a b g) (sym (passed_over (nat_lt (length f.pairs) PAIRS) (record f { pairs = f.pairs ++ first_pair block x y ∷ [] }) (record f { others = one_more f.others }) e)) (inr (omega arith))

found_in_counted : (a b x y : Access) (f : Found) → AreFound a b f → AreFound a b (record f { pairs = counted x y f.pairs })
found_in_counted a b x y f (inl any) = inl (any_counted a b x y f.pairs ∙ any)
found_in_counted a b x y f (inr some) = inr some

found_in_noted : (block : Option Block) (a b x y : Access) (f : Found) (t : Bool) → list_any (is_at x y) f.pairs ≡ t → AreFound a b f → AreFound a b (noted block x y f)
found_in_noted block a b x y f true e found = subst (λ (g : Found). AreFound a b g) (sym (chosen (list_any (is_at x y) f.pairs) (record f { pairs = counted x y f.pairs }) (with_pair block x y f) e)) (found_in_counted a b x y f found)
found_in_noted block a b x y f false e found = subst (λ (g : Found). AreFound a b g) (sym (passed_over (list_any (is_at x y) f.pairs) (record f { pairs = counted x y f.pairs }) (with_pair block x y f) e))
    (found_in_pair block a b x y f (nat_lt (length f.pairs) PAIRS) refl found)

found_by_test : (block : Option Block) (a b : Access) (clocks : List Clock) (y x : Access) (f : Found) (t : Bool) → races clocks y x ≡ t → AreFound a b f → AreFound a b (compared block clocks y (Some x) f)
found_by_test block a b clocks y x f true e found = subst (λ (g : Found). AreFound a b g) (sym (chosen (races clocks y x) (noted block x y f) f e)) (found_in_noted block a b x y f (list_any (is_at x y) f.pairs) refl found)
found_by_test block a b clocks y x f false e found = subst (λ (g : Found). AreFound a b g) (sym (passed_over (races clocks y x) (noted block x y f) f e)) found

found_on : (block : Option Block) (a b : Access) (clocks : List Clock) (y : Access) (o : Option Access) (f : Found) → AreFound a b f → AreFound a b (compared block clocks y o f)
found_on block a b clocks y None f found = found
found_on block a b clocks y (Some x) f found = found_by_test block a b clocks y x f (races clocks y x) refl found

found_by_repeats : (block : Option Block) (a b : Access) (clocks : List Clock) (y : Access) (k : ℕ) (stores : List (Option Access)) (f : Found) (t : Bool) → is_repeated k stores ≡ t
    → AreFound a b (compared_stores k block clocks y stores f) → AreFound a b (compared_stores (suc k) block clocks y stores f)
found_by_repeats block a b clocks y k stores f true e found =
    subst (λ (g : Found). AreFound a b g) (sym (chosen (is_repeated k stores) (compared_stores k block clocks y stores f) (compared block clocks y (get_or stores k None) (compared_stores k block clocks y stores f)) e)) found
found_by_repeats block a b clocks y k stores f false e found =
    subst (λ (g : Found). AreFound a b g) (sym (passed_over (is_repeated k stores) (compared_stores k block clocks y stores f) (compared block clocks y (get_or stores k None) (compared_stores k block clocks y stores f)) e))
    (found_on block a b clocks y (get_or stores k None) (compared_stores k block clocks y stores f) found)

found_on_stores : (block : Option Block) (a b : Access) (clocks : List Clock) (y : Access) (k : ℕ) (stores : List (Option Access)) (f : Found) → AreFound a b f → AreFound a b (compared_stores k block clocks y stores f)
found_on_stores block a b clocks y zero stores f found = found
found_on_stores block a b clocks y (suc k) stores f found = found_by_repeats block a b clocks y k stores f (is_repeated k stores) refl (found_on_stores block a b clocks y k stores f found)

found_at : (a b y : Access) (o : Option Cell) (w : Watched) → AreFound a b w.found → AreFound a b (access_at y o w).found
found_at a b y None w found = found
found_at a b y (Some c) w found =
    let behind_stores = compared_stores (length c.stores) c.block w.clocks y c.stores w.found in
    found_on c.block a b w.clocks y c.other (compared c.block w.clocks y c.load behind_stores)
    (found_on c.block a b w.clocks y c.load behind_stores (found_on_stores c.block a b w.clocks y (length c.stores) c.stores w.found found))

found_behind : (a b : Access) (later past : History) (n words : ℕ) → AreFound a b (watched past n words).found → AreFound a b (watched (later ++ past) n words).found
found_behind a b [] past n words found = found
found_behind a b (operation.Access y ∷ later) past n words found = found_at a b y (slice_get (watched (later ++ past) n words).shadow (word_of y)) (watched (later ++ past) n words) (found_behind a b later past n words found)
found_behind a b (operation.Pass from to p ∷ later) past n words found = found_behind a b later past n words found
found_behind a b (operation.Renew m ∷ later) past n words found = found_behind a b later past n words found
found_behind a b (operation.Lock l p ∷ later) past n words found = found_behind a b later past n words found

-- A RACE THAT IS NOTED IS FOUND

same_number : (n : ℕ) → (n == n) ≡ true
same_number n = grind (arith, nat_tests)

is_at_first : (block : Option Block) (a b : Access) → is_at a b (first_pair block a b) ≡ true
is_at_first block a b = or_first (a.pc == a.pc && b.pc == b.pc) (a.pc == b.pc && b.pc == a.pc) (ap (λ t. t && b.pc == b.pc) (same_number a.pc) ∙ same_number b.pc)

new_pair : (block : Option Block) (a b : Access) (f : Found) (t : Bool) → nat_lt (length f.pairs) PAIRS ≡ t → AreFound a b (with_pair block a b f)
new_pair block a b f true e = subst (λ (g : Found). AreFound a b g) (sym (chosen (nat_lt (length f.pairs) PAIRS) (record f { pairs = f.pairs ++ first_pair block a b ∷ [] }) (record f { others = one_more f.others }) e))
    (inl (any_last a b f.pairs (first_pair block a b) (is_at_first block a b)))
new_pair block a b f false e = subst (λ (g : Found). AreFound a b g) (sym (passed_over (nat_lt (length f.pairs) PAIRS) (record f { pairs = f.pairs ++ first_pair block a b ∷ [] }) (record f { others = one_more f.others }) e)) (inr (omega arith))

new_found : (block : Option Block) (a b : Access) (f : Found) (t : Bool) → list_any (is_at a b) f.pairs ≡ t → AreFound a b (noted block a b f)
new_found block a b f true e = subst (λ (g : Found). AreFound a b g) (sym (chosen (list_any (is_at a b) f.pairs) (record f { pairs = counted a b f.pairs }) (with_pair block a b f) e)) (inl (any_counted a b a b f.pairs ∙ e))
new_found block a b f false e = subst (λ (g : Found). AreFound a b g) (sym (passed_over (list_any (is_at a b) f.pairs) (record f { pairs = counted a b f.pairs }) (with_pair block a b f) e)) (new_pair block a b f (nat_lt (length f.pairs) PAIRS) refl)

now_found : (block : Option Block) (a b : Access) (clocks : List Clock) (o : Option Access) (f : Found) → o ≡ Some a → races clocks b a ≡ true → AreFound a b (compared block clocks b o f)
now_found block a b clocks o f is race = subst (λ (p : Option Access). AreFound a b (compared block clocks b p f)) (sym is)
    (subst (λ (g : Found). AreFound a b g) (sym (chosen (races clocks b a) (noted block a b f) f race)) (new_found block a b f (list_any (is_at a b) f.pairs) refl))

-- AN ACCESS HAS ITS PLACE ALONE

both_same : (t u : Bool) → (t && u) ≡ true → (t ≡ true) × (u ≡ true)
both_same true u e = (refl, e)
both_same false u e = absurd (cc)

same_place : (a b : Access) → is_same (Some a) (Some b) ≡ true → moment a.place ≡ moment b.place
same_place a b is =
    let same = both_same (a.place.event == b.place.event) (a.place.step == b.place.step) is in
    ap (λ e. e * 2 ^ 32 + a.place.step) (is_equal a.place.event b.place.event same.0) ∙ ap (λ s. b.place.event * 2 ^ 32 + s) (is_equal a.place.step b.place.step same.1)

same_access : (q : Operation) (a b : Access) → q ≡ operation.Access a → q ≡ operation.Access b → a ≡ b
same_access q a b one other = cc

-- one that was last is behind each before it
is_behind : (n words : ℕ) (past : History) (q : Operation) (a b : Access) (j : ℕ) → IsOrderly n (q ∷ past) → q ≡ operation.Access a → op_at past j ≡ Some (operation.Access b) → moment b.place < moment a.place
is_behind n words past q a b j orderly is there =
    let told = tells n words past orderly.0 in
    let rises : next_moment past ≤ moment a.place = subst (λ o. next_moment past ≤ moment_of o) is orderly.2 in
    omega (arith, told.earlier j b there, rises)

alone : (n words : ℕ) (past : History) (a b : Access) (i j : ℕ) → IsOrderly n past → op_at past i ≡ Some (operation.Access a) → op_at past j ≡ Some (operation.Access b) → moment a.place ≡ moment b.place → a ≡ b
alone n words [] a b i j orderly one other same = absurd (cc)
alone n words (q ∷ past) a b i j orderly one other same =
    op_case past q (operation.Access a) i one
    (λ e is. op_case past q (operation.Access b) j other
    (λ d is_too. same_access q a b is is_too)
    (λ d rest. absurd (omega (arith, is_behind n words past q a b j orderly is rest, same))))
    (λ e rest. op_case past q (operation.Access b) j other
    (λ d is. absurd (omega (arith, is_behind n words past q b a i orderly is rest, same)))
    (λ d rest_too. alone n words past a b i j orderly.0 rest rest_too same))

-- one of the first bytes has the same store
has_same : (o : Option Access) (stores : List (Option Access)) (k : ℕ) → list_any (is_same o) (take k stores) ≡ true → (j : ℕ) × (j < k) × (is_same o (get_or stores j None) ≡ true)
has_same o [] zero any = absurd (cc)
has_same o [] (suc k) any = absurd (cc)
has_same o (s ∷ stores) zero any = absurd (cc)
has_same o (s ∷ stores) (suc k) any = go (is_same o s) refl (has_same o stores k)
  where
    go : (t : Bool) → is_same o s ≡ t → (list_any (is_same o) (take k stores) ≡ true → (j : ℕ) × (j < k) × (is_same o (get_or stores j None) ≡ true))
        → (j : ℕ) × (j < suc k) × (is_same o (get_or (s ∷ stores) j None) ≡ true)
    go true e rest = (0, omega arith, e)
    go false e rest = (let found = rest (sym (ap (λ t. t || list_any (is_same o) (take k stores)) e) ∙ any) in (suc found.0, omega (arith, found.1), found.2))

-- a byte that has a store is one of the word
is_byte : (stores : List (Option Access)) (k : ℕ) (a : Access) → get_or stores k None ≡ Some a → k < length stores
is_byte [] k a is = absurd (cc)
is_byte (s ∷ stores) zero a is = omega arith
is_byte (s ∷ stores) (suc k) a is = omega (arith, is_byte stores k a is)

-- OF WHAT IS KEPT

module _ (n words : ℕ) (past : History) (a b : Access) (all : THREADS ≤ n) (meets : MeetsKept n words past a b) where
  clocks_of_past : List Clock
  clocks_of_past = (watched past n words).clocks

  both : (t u : Bool) → t ≡ true → u ≡ false → (t && not u) ≡ true
  both true false e g = refl
  both true true e g = absurd (cc)
  both false u e g = absurd (cc)

  it_races : races (watched past n words).clocks b a ≡ true
  it_races = both (conflict a b) (knows (watched past n words).clocks b.thread a) meets.conflict
      (sym ((tells n words past meets.orderly.0).exact b.thread meets.i a (omega (arith, all, meets.orderly.1)) meets.at) ∙ meets.unseen)

  -- what has the same place as this access is it
  is_it : (o : Option Access) → WasAccess past o → is_same (Some a) o ≡ true → o ≡ Some a
  is_it None was is = absurd (cc)
  is_it (Some x) was is = ap (λ y. Some y) (sym (alone n words past a x meets.i was.0 meets.orderly.0 meets.at was.1 (same_place a x is)))

  -- the last store to a byte, which may be that of an earlier one, too
  found_by_byte : (block : Option Block) (stores : List (Option Access)) → AllByRecursion (WasAccess past) stores → (f : Found) (m k : ℕ) → k < m → get_or stores k None ≡ Some a
      → AreFound a b (compared_stores m block (watched past n words).clocks b stores f)
  found_by_byte block stores were f zero k less is = absurd (omega (arith, less))
  found_by_byte block stores were f (suc m) k less is = go (k == m) refl (found_by_byte block stores were f m)
    where
      repeated : (t : Bool) → is_repeated m stores ≡ t → get_or stores m None ≡ Some a
          → ((j : ℕ) → j < m → get_or stores j None ≡ Some a → AreFound a b (compared_stores m block (watched past n words).clocks b stores f))
          → AreFound a b (compared_stores (suc m) block (watched past n words).clocks b stores f)
      repeated true e at_m before =
          let same : list_any (is_same (Some a)) (take m stores) ≡ true = ap (λ o. list_any (is_same o) (take m stores)) (sym at_m) ∙ e in
          let earlier = has_same (Some a) stores m same in
          found_by_repeats block a b (watched past n words).clocks b m stores f true e
          (before earlier.0 earlier.1 (is_it (get_or stores earlier.0 None) (was_at past stores earlier.0 were) earlier.2))
      repeated false e at_m before =
          let cs = (watched past n words).clocks in
          subst (λ (g : Found). AreFound a b g) (sym (passed_over (is_repeated m stores) (compared_stores m block cs b stores f) (compared block cs b (get_or stores m None) (compared_stores m block cs b stores f)) e))
          (now_found block a b cs (get_or stores m None) (compared_stores m block cs b stores f) at_m it_races)

      go : (t : Bool) → (k == m) ≡ t → ((j : ℕ) → j < m → get_or stores j None ≡ Some a → AreFound a b (compared_stores m block (watched past n words).clocks b stores f))
          → AreFound a b (compared_stores (suc m) block (watched past n words).clocks b stores f)
      go true e before = repeated (is_repeated m stores) refl (subst (λ j. get_or stores j None ≡ Some a) (is_equal k m e) is) before
      go false e before = found_by_repeats block a b (watched past n words).clocks b m stores f (is_repeated m stores) refl (before k (omega (arith, less, is_other k m e)) is)

  found_of_cell : (c : Cell) (f : Found) → AllByRecursion (WasAccess past) c.stores → IsKept a c → AreFound a b (compared_all (watched past n words).clocks b c f)
  found_of_cell c f were (inl is) = (let cs = (watched past n words).clocks in let behind_stores = compared_stores (length c.stores) c.block cs b c.stores f in
      found_on c.block a b cs b c.other (compared c.block cs b c.load behind_stores) (found_on c.block a b cs b c.load behind_stores
      (found_by_byte c.block c.stores were f (length c.stores) is.0 (is_byte c.stores is.0 a is.1) is.1)))
  found_of_cell c f were (inr (inl is)) = (let cs = (watched past n words).clocks in let behind_stores = compared_stores (length c.stores) c.block cs b c.stores f in
      found_on c.block a b cs b c.other (compared c.block cs b c.load behind_stores) (now_found c.block a b cs c.load behind_stores is it_races))
  found_of_cell c f were (inr (inr is)) = (let cs = (watched past n words).clocks in let behind_stores = compared_stores (length c.stores) c.block cs b c.stores f in
      now_found c.block a b cs c.other (compared c.block cs b c.load behind_stores) is it_races)

  stores_were : AllByRecursion (WasAccess past) meets.cell.stores
  stores_were = (at_place (AreAccesses past) (watched past n words).shadow (word_of b) meets.cell (are_races n words past all meets.orderly.0).shadow meets.has).stores

  found_now : AreFound a b (watched (operation.Access b ∷ past) n words).found
  found_now = subst (λ (o : Option Cell). AreFound a b (access_at b o (watched past n words)).found) (sym meets.has) (found_of_cell meets.cell (watched past n words).found stores_were meets.kept)

pub kept_races : KeptRacesAreFound
kept_races n words later past a b all meets = found_behind a b later (operation.Access b ∷ past) n words (found_now n words past a b all meets)

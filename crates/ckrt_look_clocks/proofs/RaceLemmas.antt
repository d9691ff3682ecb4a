-- Only races are found.
use Rattle.std.proofs.Common.{◌≡◌, ◌≤◌, ◌<◌, ℕ, zero, suc, ◌+◌, ◌%◌, nat_lt, ◌==◌, ◌&&◌, not, Bool, true, false, List, [], ◌∷◌, ◌++◌, length, get_or, slice_get, slice_set, replicate, Option, Some, None, refl, sym, ap, ◌∙◌, subst, arith}
use Rattle.std.proofs.lemmas.Bool.Decides.{nat_tests}
use Rattle.std.specs.List.{AllByRecursion, list_any}
use Rattle.ckrt_look_clocks.specs.declared.operation.Access.{Access}
use Rattle.ckrt_look_clocks.specs.declared.operation.Block.{Block}
use Rattle.ckrt_look_clocks.specs.declared.operation.Operation.{Operation}
use Rattle.ckrt_look_clocks.specs.declared.operation.Operation.TheVariants as operation
use Rattle.ckrt_look_clocks.specs.declared.operation.TheConstants.{THREADS}
use Rattle.ckrt_look_clocks.specs.declared.shadow.Cell.{Cell}
use Rattle.ckrt_look_clocks.specs.declared.pair.Pair.{Pair}
use Rattle.ckrt_look_clocks.specs.declared.pair.TheConstants.{PAIRS}
use Rattle.ckrt_look_clocks.specs.Histories.{History, IsRace, conflict, op_at}
use Rattle.ckrt_look_clocks.specs.Detection.{Found, access_at, compared, compared_all, compared_stores, counted, few_words, first_pair, given_with, is_at, is_by, is_repeated, kept, knows, no_accesses, noted, one_more, races, renewed, stored, watched, with_load, with_pair, word_of}
use Rattle.ckrt_look_clocks.specs.Laws.{ClocksAreExact, IsOrderly, IsRaceOf, OnlyRacesAreFound}
use Rattle.ckrt_look_clocks.proofs.ListLemmas.{chosen, passed_over}
use Rattle.ckrt_look_clocks.proofs.SeenLemmas.{Tell, op_stays, tells}

-- CLOCKS ARE EXACT

pub clocks_are_exact : ClocksAreExact
clocks_are_exact n words past t i a all orderly less is = sym ((tells n words past orderly).exact t i a less is)

-- WHAT IS KEPT was an access

abbrev pub WasAccess : History → Option Access → Type 0
WasAccess past None = Unit {0}
WasAccess past (Some a) = (i : ℕ) × (op_at past i ≡ Some (operation.Access a))

pub record AreAccesses (past : History) (c : Cell) : Type 0 where
  pub stores : AllByRecursion (WasAccess past) c.stores
  pub load : WasAccess past c.load
  pub other : WasAccess past c.other

stays : (past : History) (q : Operation) (o : Option Access) → WasAccess past o → WasAccess (q ∷ past) o
stays past q None was = tt
stays past q (Some a) was = (was.0, op_stays past was.0 (operation.Access a) q was.1)

stores_stay : (past : History) (q : Operation) (os : List (Option Access)) → AllByRecursion (WasAccess past) os → AllByRecursion (WasAccess (q ∷ past)) os
stores_stay past q [] all = tt
stores_stay past q (o ∷ os) all = (stays past q o all.0, stores_stay past q os all.1)

stay : (past : History) (q : Operation) (c : Cell) → AreAccesses past c → AreAccesses (q ∷ past) c
stay past q c are = record { stores = stores_stay past q c.stores are.stores; load = stays past q c.load are.load; other = stays past q c.other are.other }

all_stay : (past : History) (q : Operation) (cs : List Cell) → AllByRecursion (AreAccesses past) cs → AllByRecursion (AreAccesses (q ∷ past)) cs
all_stay past q [] all = tt
all_stay past q (c ∷ cs) all = (stay past q c all.0, all_stay past q cs all.1)

-- the access itself is the last operation
same_number : (n : ℕ) → (n == n) ≡ true
same_number n = grind (arith, nat_tests)

is_last : (past : History) (a : Access) → WasAccess (operation.Access a ∷ past) (Some a)
is_last past a = (length past, chosen (length past == length past) (Some (operation.Access a)) (op_at past (length past)) (same_number (length past)))

kept_load : (past : History) (a : Access) (c : Cell) (t : Bool) → is_by a.thread c.load ≡ t → AreAccesses (operation.Access a ∷ past) c → AreAccesses (operation.Access a ∷ past) (with_load a c)
kept_load past a c true is are = subst (AreAccesses (operation.Access a ∷ past)) (sym (chosen (is_by a.thread c.load) (record c { load = Some a }) (record c { load = Some a; other = c.load }) is))
    (record { stores = are.stores; load = is_last past a; other = are.other })
kept_load past a c false is are = subst (AreAccesses (operation.Access a ∷ past)) (sym (passed_over (is_by a.thread c.load) (record c { load = Some a }) (record c { load = Some a; other = c.load }) is))
    (record { stores = are.stores; load = is_last past a; other = are.load })

all_set : {X : Type 0} (P : X → Type 0) (xs : List X) (i : ℕ) (x : X) → AllByRecursion P xs → P x → AllByRecursion P (slice_set xs i x)
all_set P [] i x all p = tt
all_set P (y ∷ ys) zero x all p = (p, all.1)
all_set P (y ∷ ys) (suc i) x all p = (all.0, all_set P ys i x all.1 p)

all_stored : (past : History) (a : Access) (n first : ℕ) (os : List (Option Access)) → AllByRecursion (WasAccess (operation.Access a ∷ past)) os
    → AllByRecursion (WasAccess (operation.Access a ∷ past)) (stored n first a os)
all_stored past a zero first os all = all
all_stored past a (suc n) first os all =
    all_set (WasAccess (operation.Access a ∷ past)) (stored n first a os) (first + n) (Some a) (all_stored past a n first os all) (is_last past a)

pub was_at : (past : History) (os : List (Option Access)) (i : ℕ) → AllByRecursion (WasAccess past) os → WasAccess past (get_or os i None)
was_at past [] i all = tt
was_at past (o ∷ os) zero all = all.0
was_at past (o ∷ os) (suc i) all = was_at past os i all.1

is_kept : (past : History) (a : Access) (c : Cell) (t : Bool) → a.is_store ≡ t → AreAccesses past c → AreAccesses (operation.Access a ∷ past) (kept a c)
is_kept past a c true is are = (let still = stay past (operation.Access a) c are in
    subst (AreAccesses (operation.Access a ∷ past)) (sym (chosen a.is_store (record c { stores = stored a.size (a.address % 4) a c.stores }) (with_load a c) is))
    (record { stores = all_stored past a a.size (a.address % 4) c.stores still.stores; load = still.load; other = still.other }))
is_kept past a c false is are = (let still = stay past (operation.Access a) c are in
    subst (AreAccesses (operation.Access a ∷ past)) (sym (passed_over a.is_store (record c { stores = stored a.size (a.address % 4) a c.stores }) (with_load a c) is))
    (kept_load past a c (is_by a.thread c.load) refl still))

pub at_place : {X : Type 0} (P : X → Type 0) (xs : List X) (i : ℕ) (x : X) → AllByRecursion P xs → slice_get xs i ≡ Some x → P x
at_place P [] i x all is = absurd (cc)
at_place P (y ∷ ys) zero x all is = (let same : y ≡ x = cc in subst P same all.0)
at_place P (y ∷ ys) (suc i) x all is = at_place P ys i x all.1 is

-- WHAT IS FOUND is a race

goes_on : (past : History) (q : Operation) (p : Pair) → IsRaceOf past p → IsRaceOf (q ∷ past) p
goes_on past q p race = record { later = q ∷ race.later; earlier = race.earlier; split = ap (λ l. q ∷ l) race.split; i = race.i; at = race.at; conflict = race.conflict; unseen = race.unseen }

all_go_on : (past : History) (q : Operation) (ps : List Pair) → AllByRecursion (IsRaceOf past) ps → AllByRecursion (IsRaceOf (q ∷ past)) ps
all_go_on past q [] all = tt
all_go_on past q (p ∷ ps) all = (goes_on past q p all.0, all_go_on past q ps all.1)

by_test : (past : History) (a b : Access) (p : Pair) (ps : List Pair) (t : Bool) → is_at a b p ≡ t → AllByRecursion (IsRaceOf past) (p ∷ ps) → AllByRecursion (IsRaceOf past) (counted a b ps)
    → AllByRecursion (IsRaceOf past) (counted a b (p ∷ ps))
by_test past a b p ps true e all rest = subst (AllByRecursion (IsRaceOf past)) (sym (chosen (is_at a b p) (record p { count = one_more p.count } ∷ ps) (p ∷ counted a b ps) e)) (all.0, all.1)
by_test past a b p ps false e all rest = subst (AllByRecursion (IsRaceOf past)) (sym (passed_over (is_at a b p) (record p { count = one_more p.count } ∷ ps) (p ∷ counted a b ps) e)) (all.0, rest)

all_counted : (past : History) (a b : Access) (ps : List Pair) → AllByRecursion (IsRaceOf past) ps → AllByRecursion (IsRaceOf past) (counted a b ps)
all_counted past a b [] all = tt
all_counted past a b (p ∷ ps) all = by_test past a b p ps (is_at a b p) refl all (all_counted past a b ps all.1)

all_more : {X : Type 0} (P : X → Type 0) (xs : List X) (x : X) → AllByRecursion P xs → P x → AllByRecursion P (xs ++ x ∷ [])
all_more P [] x all p = (p, tt)
all_more P (y ∷ ys) x all p = (all.0, all_more P ys x all.1 p)

all_with_pair : (block : Option Block) (past : History) (a b : Access) (f : Found) (t : Bool) → nat_lt (length f.pairs) PAIRS ≡ t → AllByRecursion (IsRaceOf past) f.pairs → IsRace past a b → AllByRecursion (IsRaceOf past) (with_pair block a b f).pairs
all_with_pair block past a b f true e all race = subst (λ (g : Found). AllByRecursion (IsRaceOf past) g.pairs) (sym (chosen (nat_lt (length f.pairs) PAIRS) (record f { pairs = f.pairs ++ first_pair block a b ∷ [] }) (record f { others = one_more f.others }) e))
    (all_more (IsRaceOf past) f.pairs (first_pair block a b) all race)
all_with_pair block past a b f false e all race = subst (λ (g : Found). AllByRecursion (IsRaceOf past) g.pairs) (sym (passed_over (nat_lt (length f.pairs) PAIRS) (record f { pairs = f.pairs ++ first_pair block a b ∷ [] }) (record f { others = one_more f.others }) e)) all

all_noted : (block : Option Block) (past : History) (a b : Access) (f : Found) (t : Bool) → list_any (is_at a b) f.pairs ≡ t → AllByRecursion (IsRaceOf past) f.pairs → IsRace past a b → AllByRecursion (IsRaceOf past) (noted block a b f).pairs
all_noted block past a b f true e all race = subst (λ (g : Found). AllByRecursion (IsRaceOf past) g.pairs) (sym (chosen (list_any (is_at a b) f.pairs) (record f { pairs = counted a b f.pairs }) (with_pair block a b f) e)) (all_counted past a b f.pairs all)
all_noted block past a b f false e all race = subst (λ (g : Found). AllByRecursion (IsRaceOf past) g.pairs) (sym (passed_over (list_any (is_at a b) f.pairs) (record f { pairs = counted a b f.pairs }) (with_pair block a b f) e))
    (all_with_pair block past a b f (nat_lt (length f.pairs) PAIRS) refl all race)

-- of an access that is the last operation
module _ (n words : ℕ) (past : History) (b : Access) (told : Tell n words past) (is_thread : b.thread < n) where
  and_first : (t u : Bool) → (t && u) ≡ true → t ≡ true
  and_first true u e = refl
  and_first false u e = absurd (cc)

  and_second : (t u : Bool) → (t && not u) ≡ true → u ≡ false
  and_second true false e = refl
  and_second true true e = absurd (cc)
  and_second false u e = absurd (cc)

  is_race : (a : Access) → WasAccess past (Some a) → races (watched past n words).clocks b a ≡ true → IsRace (operation.Access b ∷ past) a b
  is_race a was e = record {
    later = [];
    earlier = past;
    split = refl;
    i = was.0;
    at = was.1;
    conflict = and_first (conflict a b) (not (knows (watched past n words).clocks b.thread a)) e;
    unseen = told.exact b.thread was.0 a is_thread was.1 ∙ and_second (conflict a b) (knows (watched past n words).clocks b.thread a) e;
  }

  all_compared_by : (block : Option Block) (a : Access) (f : Found) (t : Bool) → races (watched past n words).clocks b a ≡ t → WasAccess past (Some a) → AllByRecursion (IsRaceOf (operation.Access b ∷ past)) f.pairs
      → AllByRecursion (IsRaceOf (operation.Access b ∷ past)) (compared block (watched past n words).clocks b (Some a) f).pairs
  all_compared_by block a f true e was all = subst (λ (g : Found). AllByRecursion (IsRaceOf (operation.Access b ∷ past)) g.pairs) (sym (chosen (races (watched past n words).clocks b a) (noted block a b f) f e))
      (all_noted block (operation.Access b ∷ past) a b f (list_any (is_at a b) f.pairs) refl all (is_race a was e))
  all_compared_by block a f false e was all = subst (λ (g : Found). AllByRecursion (IsRaceOf (operation.Access b ∷ past)) g.pairs) (sym (passed_over (races (watched past n words).clocks b a) (noted block a b f) f e)) all

  all_compared : (block : Option Block) (o : Option Access) (f : Found) → WasAccess past o → AllByRecursion (IsRaceOf (operation.Access b ∷ past)) f.pairs
      → AllByRecursion (IsRaceOf (operation.Access b ∷ past)) (compared block (watched past n words).clocks b o f).pairs
  all_compared block None f was all = all
  all_compared block (Some a) f was all = all_compared_by block a f (races (watched past n words).clocks b a) refl was all

  all_by_repeats : (block : Option Block) (k : ℕ) (stores : List (Option Access)) (f : Found) (t : Bool) → is_repeated k stores ≡ t → AllByRecursion (WasAccess past) stores
      → AllByRecursion (IsRaceOf (operation.Access b ∷ past)) (compared_stores k block (watched past n words).clocks b stores f).pairs
      → AllByRecursion (IsRaceOf (operation.Access b ∷ past)) (compared_stores (suc k) block (watched past n words).clocks b stores f).pairs
  all_by_repeats block k stores f true e were all = (let clocks = (watched past n words).clocks in
      subst (λ (g : Found). AllByRecursion (IsRaceOf (operation.Access b ∷ past)) g.pairs)
      (sym (chosen (is_repeated k stores) (compared_stores k block clocks b stores f) (compared block clocks b (get_or stores k None) (compared_stores k block clocks b stores f)) e)) all)
  all_by_repeats block k stores f false e were all = (let clocks = (watched past n words).clocks in
      subst (λ (g : Found). AllByRecursion (IsRaceOf (operation.Access b ∷ past)) g.pairs)
      (sym (passed_over (is_repeated k stores) (compared_stores k block clocks b stores f) (compared block clocks b (get_or stores k None) (compared_stores k block clocks b stores f)) e))
      (all_compared block (get_or stores k None) (compared_stores k block clocks b stores f) (was_at past stores k were) all))

  all_of_stores : (block : Option Block) (k : ℕ) (stores : List (Option Access)) (f : Found) → AllByRecursion (WasAccess past) stores → AllByRecursion (IsRaceOf (operation.Access b ∷ past)) f.pairs
      → AllByRecursion (IsRaceOf (operation.Access b ∷ past)) (compared_stores k block (watched past n words).clocks b stores f).pairs
  all_of_stores block zero stores f were all = all
  all_of_stores block (suc k) stores f were all = all_by_repeats block k stores f (is_repeated k stores) refl were (all_of_stores block k stores f were all)

  all_of_cell : (c : Cell) (f : Found) → AreAccesses past c → AllByRecursion (IsRaceOf (operation.Access b ∷ past)) f.pairs
      → AllByRecursion (IsRaceOf (operation.Access b ∷ past)) (compared_all (watched past n words).clocks b c f).pairs
  all_of_cell c f are all =
      let clocks = (watched past n words).clocks in
      let behind_stores = compared_stores (length c.stores) c.block clocks b c.stores f in
      all_compared c.block c.other (compared c.block clocks b c.load behind_stores) are.other
      (all_compared c.block c.load behind_stores are.load (all_of_stores c.block (length c.stores) c.stores f are.stores all))

-- OPERATION BY OPERATION

pub record AreRaces (n words : ℕ) (past : History) : Type 0 where
  pub shadow : AllByRecursion (AreAccesses past) (watched past n words).shadow
  pub pairs : AllByRecursion (IsRaceOf past) (watched past n words).found.pairs

nothing_kept : (past : History) → AreAccesses past no_accesses
nothing_kept past = record { stores = (tt, (tt, (tt, (tt, tt)))); load = tt; other = tt }

nothing_given : (past : History) (block : Block) → AreAccesses past (given_with block)
nothing_given past block = record { stores = (tt, (tt, (tt, (tt, tt)))); load = tt; other = tt }

all_renewed : (past : History) (n : ℕ) (block : Block) (shadow : List Cell) → AllByRecursion (AreAccesses past) shadow → AllByRecursion (AreAccesses past) (renewed n block shadow)
all_renewed past zero block shadow all = all
all_renewed past (suc n) block shadow all =
    all_set (AreAccesses past) (renewed n block shadow) (block.first + n) (given_with block) (all_renewed past n block shadow all) (nothing_given past block)

none_kept : (words : ℕ) → AllByRecursion (AreAccesses []) (replicate words no_accesses)
none_kept zero = tt
none_kept (suc words) = (nothing_kept [], none_kept words)

access_races : (n words : ℕ) (past : History) (b : Access) (o : Option Cell) → slice_get (watched past n words).shadow (word_of b) ≡ o → Tell n words past → b.thread < n → AreRaces n words past
    → AllByRecursion (AreAccesses (operation.Access b ∷ past)) (access_at b o (watched past n words)).shadow × AllByRecursion (IsRaceOf (operation.Access b ∷ past)) (access_at b o (watched past n words)).found.pairs
access_races n words past b None is told thread are = (
  all_stay past (operation.Access b) (watched past n words).shadow are.shadow,
  all_go_on past (operation.Access b) (watched past n words).found.pairs are.pairs,
)
access_races n words past b (Some c) is told thread are = (
  all_set (AreAccesses (operation.Access b ∷ past)) (watched past n words).shadow (word_of b) (kept b c) (all_stay past (operation.Access b) (watched past n words).shadow are.shadow)
      (is_kept past b c b.is_store refl (at_place (AreAccesses past) (watched past n words).shadow (word_of b) c are.shadow is)),
  all_of_cell n words past b told thread c (watched past n words).found (at_place (AreAccesses past) (watched past n words).shadow (word_of b) c are.shadow is)
      (all_go_on past (operation.Access b) (watched past n words).found.pairs are.pairs),
)

pub are_races : (n words : ℕ) (past : History) → THREADS ≤ n → IsOrderly n past → AreRaces n words past
are_races n words [] all orderly = record { shadow = none_kept words; pairs = tt }
are_races n words (operation.Access b ∷ past) all orderly =
    let both = access_races n words past b (slice_get (watched past n words).shadow (word_of b)) refl (tells n words past orderly.0) (omega (arith, all, orderly.1)) (are_races n words past all orderly.0) in
    record { shadow = both.0; pairs = both.1 }
are_races n words (operation.Pass from to p ∷ past) all orderly =
    let are = are_races n words past all orderly.0 in
    record {
      shadow = all_stay past (operation.Pass from to p) (watched past n words).shadow are.shadow;
      pairs = all_go_on past (operation.Pass from to p) (watched past n words).found.pairs are.pairs;
    }
are_races n words (operation.Renew m ∷ past) all orderly =
    let are = are_races n words past all orderly.0 in
    let q = operation.Renew m in
    let shadow = (watched past n words).shadow in
    record {
      shadow = all_renewed (q ∷ past) (few_words m shadow) m shadow (all_stay past q shadow are.shadow);
      pairs = all_go_on past q (watched past n words).found.pairs are.pairs;
    }
are_races n words (operation.Lock l p ∷ past) all orderly =
    let are = are_races n words past all orderly.0 in
    record {
      shadow = all_stay past (operation.Lock l p) (watched past n words).shadow are.shadow;
      pairs = all_go_on past (operation.Lock l p) (watched past n words).found.pairs are.pairs;
    }

pub only_races : OnlyRacesAreFound
only_races n words past all orderly = (are_races n words past all orderly).pairs

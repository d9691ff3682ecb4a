-- Paths that the search makes, and the cycles that are noted.
use Rattle.std.proofs.Common.{◌≡◌, ◌≢◌, ◌⊎◌, inl, inr, ◌≤◌, ◌<◌, ℕ, zero, suc, ◌+◌, ◌-◌, nat_lt, ◌&&◌, not, Bool, true, false, if◌then◌else◌, List, [], ◌∷◌, ◌++◌, length, get_or, slice_get, slice_set, replicate, Option, None, Some, is_some, is_none, refl, sym, ap, ◌∙◌, subst, arith}
use Rattle.std.proofs.lemmas.Bool.{cases_eq}
use Rattle.std.proofs.lemmas.Bool.Decides.{nat_tests}
use Rattle.std.proofs.lemmas.List.{get_or-set_other, get_or-set_same, length-set}
use Rattle.std.specs.List.{AllByRecursion, list_all, list_any}
use Rattle.ckrt_events.specs.declared.event.Event.{Event}
use Rattle.ckrt_machine.specs.Steps.{State}
use Rattle.ckrt_look_clocks.specs.declared.inversion.Inversion.{Inversion}
use Rattle.ckrt_look_clocks.specs.declared.inversion.TheConstants.{INVERSIONS}
use Rattle.ckrt_look_clocks.specs.declared.lock.Locking.{Locking}
use Rattle.ckrt_look_clocks.specs.declared.lock.Locking.TheVariants as locking
use Rattle.ckrt_look_clocks.specs.declared.lock.Taking.{Taking}
use Rattle.ckrt_look_clocks.specs.declared.operation.Access.{Access}
use Rattle.ckrt_look_clocks.specs.declared.operation.Operation.{Operation}
use Rattle.ckrt_look_clocks.specs.declared.operation.Operation.TheVariants as operation
use Rattle.ckrt_look_clocks.specs.declared.order.Order.{Order}
use Rattle.ckrt_look_clocks.specs.declared.search.Path.{Path}
use Rattle.ckrt_look_clocks.specs.declared.search.TheConstants.{LINKS, ORDERS}
use Rattle.ckrt_look_clocks.specs.declared.shadow.Cell.{Cell}
use Rattle.ckrt_look_clocks.specs.Cycles.{Inversions, Reached, begun, closes, counted_again, first_path, gone_on, inversion_of, is_apart_from, is_apart_from_all, is_reached, longer, may_go_on, no_inversion, noted_at, noted_cycle, noted_inversion, once_more, path_at, row_of, searched, visited, visited_from, visited_one, with_inversion, with_path}
use Rattle.ckrt_look_clocks.specs.Detection.{Watched, access_at, behind, behind_all, fresh, word_of}
use Rattle.ckrt_look_clocks.specs.LockHistories.{Ordered, behind_lock, held_by, locked, next_place, order_of, ordered_by, sought, took, with_held, with_lock, with_lock_at, with_order, with_order_at}
use Rattle.ckrt_look_clocks.specs.LockOrders.{are_apart, awaits, free_order, holds, holds_some, is_repeat, order_at}
use Rattle.ckrt_look_races.specs.CycleLaws as laws
use Rattle.ckrt_look_races.specs.Holders.{HOLDERS}
use Rattle.ckrt_look_calls.specs.Rooms.{words_of}
use Rattle.ckrt_look_races.specs.Steps.{of_events}

-- CHOICES AND LISTS

chosen : {X : Type 0} (P : X → Type 0) (b : Bool) (x y : X) → (b ≡ true → P x) → (b ≡ false → P y) → P (if b then x else y)
chosen P true x y so other = so refl
chosen P false x y so other = other refl

first_of : (a b : Bool) → (a && b) ≡ true → a ≡ true
first_of true b e = refl
first_of false b e = absurd (cc)

second_of : (a b : Bool) → (a && b) ≡ true → b ≡ true
second_of true b e = e
second_of false b e = absurd (cc)

all_at : {X : Type 0} (f : X → Bool) (xs : List X) (n : ℕ) (d : X) → list_all f xs ≡ true → n < length xs → f (get_or xs n d) ≡ true
all_at f [] n d all lt = absurd (omega arith)
all_at f (x ∷ xs) zero d all lt = first_of (f x) (list_all f xs) all
all_at f (x ∷ xs) (suc n) d all lt = all_at f xs n d (second_of (f x) (list_all f xs) all) (omega arith)

all_more : {X : Type 0} (P : X → Type 0) (xs : List X) (x : X) → AllByRecursion P xs → P x → AllByRecursion P (xs ++ x ∷ [])
all_more P [] x all p = (p, tt)
all_more P (y ∷ ys) x all p = (all.0, all_more P ys x all.1 p)

all_changed : {X : Type 0} (P : X → Type 0) (f : X → X) (d : X) → ((x : X) → P x → P (f x)) → (xs : List X) (i : ℕ) → AllByRecursion P xs → AllByRecursion P (slice_set xs i (f (get_or xs i d)))
all_changed P f d keeps [] i all = tt
all_changed P f d keeps (x ∷ xs) zero all = (keeps x all.0, all.1)
all_changed P f d keeps (x ∷ xs) (suc i) all = (all.0, all_changed P f d keeps xs i all.1)

more_is : (n : ℕ) → n < 8 → once_more n ≡ n + 1
more_is n lt = omega (arith, lt)

-- A PATH of orders from the first one on
record IsWay (os : List Order) (first : ℕ) (p : Path) : Type 0 where
  eight : length p.places ≡ 8
  some : 1 ≤ p.count
  few : p.count ≤ 8
  there : (n : ℕ) → n < p.count → (i : ℕ) × (get_or p.places n None ≡ Some i)
  begins : get_or p.places 0 None ≡ Some first
  ends : get_or p.places (p.count - 1) None ≡ Some p.last
  next : (n : ℕ) → n + 1 < p.count → awaits (laws.nth n os p) (laws.nth (n + 1) os p) ≡ true
  apart : (n m : ℕ) → n < m → m < p.count → are_apart (laws.nth n os p) (laws.nth m os p) ≡ true

abbrev IsClosed : List Order → (first : ℕ) → Option Path → Type 0
IsClosed os first None = Unit {0}
IsClosed os first (Some p) = IsWay os first p × ((2 ≤ p.count) × (closes os first p.last ≡ true))

record AreWays (os : List Order) (first : ℕ) (r : Reached) : Type 0 where
  paths : AllByRecursion (IsWay os first) r.paths
  cycle : IsClosed os first r.cycle

module _ (os : List Order) (first : ℕ) where
  -- of one order
  one : IsWay os first (first_path first)
  one = record {
    eight = refl;
    some = omega arith;
    few = omega arith;
    there = λ n lt. (first, ap (λ k. get_or (first_path first).places k None) (zero_is n lt));
    begins = refl;
    ends = refl;
    next = λ n lt. absurd (omega (arith, lt));
    apart = λ n m less lt. absurd (omega (arith, less, lt));
  }
    where
      zero_is : (n : ℕ) → n < 1 → n ≡ 0
      zero_is n lt = omega (arith, lt)

  -- with one more, which is not there yet
  module _ (p : Path) (way : IsWay os first p) (i : ℕ) (room : p.count < 8) (awaited : awaits (order_at p.last os) (order_at i os) ≡ true) (apart_from : is_apart_from_all os (order_at i os) p ≡ true) where
    abbrev places : List (Option ℕ)
    places = slice_set p.places p.count (Some i)

    before : (n : ℕ) → n < p.count → get_or places n None ≡ get_or p.places n None
    before n lt = get_or-set_other p.places p.count n (Some i) None (λ e. absurd (omega (arith, e, lt)))

    at : get_or places p.count None ≡ Some i
    at = get_or-set_same p.places p.count (Some i) None (omega (arith, way.eight, room))

    is_apart : (o : Option ℕ) (j : ℕ) → o ≡ Some j → is_apart_from os (order_at i os) o ≡ true → are_apart (laws.order_of os o) (order_at i os) ≡ true
    is_apart None j e is = absurd (cc)
    is_apart (Some k) j e is = is

    apart_at : (n : ℕ) → n < p.count → are_apart (laws.nth n os p) (order_at i os) ≡ true
    apart_at n lt =
        let has = way.there n lt in
        is_apart (get_or p.places n None) has.0 has.1
        (all_at (is_apart_from os (order_at i os)) p.places n None apart_from (omega (arith, way.eight, way.few, lt)))

    more : (c : ℕ) → c ≡ p.count + 1 → IsWay os first (record { places = places; count = c; last = i })
    more c is = record {
      eight = length-set p.places p.count (Some i) ∙ way.eight;
      some = omega (arith, is);
      few = omega (arith, is, room);
      there = λ n lt. elim (cases_eq n p.count) [
        | inl e ↦ (i, ap (λ k. get_or places k None) e ∙ at)
        | inr ne ↦ (let has = way.there n (omega (arith, is, lt, ne)) in (has.0, before n (omega (arith, is, lt, ne)) ∙ has.1))
      ];
      begins = before 0 (omega (arith, way.some)) ∙ way.begins;
      ends = ap (λ k. get_or places k None) (omega (arith, is)) ∙ at;
      next = λ n lt. elim (cases_eq (n + 1) p.count) [
        | inl e ↦
            let last : get_or p.places n None ≡ Some p.last = ap (λ k. get_or p.places k None) (omega (arith, e)) ∙ way.ends in
            let from : get_or places n None ≡ Some p.last = before n (omega (arith, e)) ∙ last in
            let to : get_or places (n + 1) None ≡ Some i = ap (λ k. get_or places k None) e ∙ at in
            ap (λ a. awaits (laws.order_of os a) (laws.order_of os (get_or places (n + 1) None))) from
            ∙ ap (λ b. awaits (order_at p.last os) (laws.order_of os b)) to ∙ awaited
        | inr ne ↦
            ap (λ a. awaits (laws.order_of os a) (laws.order_of os (get_or places (n + 1) None))) (before n (omega (arith, is, lt, ne)))
            ∙ ap (λ b. awaits (laws.nth n os p) (laws.order_of os b)) (before (n + 1) (omega (arith, is, lt, ne))) ∙ way.next n (omega (arith, is, lt, ne))
      ];
      apart = λ n m less lt. elim (cases_eq m p.count) [
        | inl e ↦
            ap (λ a. are_apart (laws.order_of os a) (laws.order_of os (get_or places m None))) (before n (omega (arith, less, e)))
            ∙ ap (λ b. are_apart (laws.nth n os p) (laws.order_of os b)) (ap (λ k. get_or places k None) e ∙ at) ∙ apart_at n (omega (arith, less, e))
        | inr ne ↦
            ap (λ a. are_apart (laws.order_of os a) (laws.order_of os (get_or places m None))) (before n (omega (arith, is, less, lt, ne)))
            ∙ ap (λ b. are_apart (laws.nth n os p) (laws.order_of os b)) (before m (omega (arith, is, lt, ne))) ∙ way.apart n m less (omega (arith, is, lt, ne))
      ];
    }

    one_more : IsWay os first (longer i p)
    one_more = more (once_more p.count) (more_is p.count room)

  -- THE SEARCH

  with_one : (r : Reached) (p : Path) → AreWays os first r → IsWay os first p → AreWays os first (with_path p r)
  with_one r p are way =
      chosen (AreWays os first) (nat_lt (length r.paths) ORDERS) (record r { paths = r.paths ++ p ∷ [] }) r
      (λ e. record { paths = all_more (IsWay os first) r.paths p are.paths way; cycle = are.cycle }) (λ e. are)

  went_on : (r : Reached) (i : ℕ) (p : Path) → AreWays os first r → (1 ≤ p.count) → (p.count < 8) → IsWay os first (longer i p) → AreWays os first (gone_on os first i p r)
  went_on r i p are some room way =
      chosen (AreWays os first) (closes os first i) (record r { cycle = Some (longer i p) }) (with_path (longer i p) r)
      (λ e. record { paths = are.paths; cycle = (way, (omega (arith, some, more_is p.count room), e)) })
      (λ e. with_one r (longer i p) are way)

  room_of : (c : ℕ) → nat_lt c LINKS ≡ true → c < 8
  room_of c e = grind (arith, nat_tests, e)

  way_at : (from : ℕ) (ps : List Path) → AllByRecursion (IsWay os first) ps → nat_lt (path_at from ps).count LINKS ≡ true → IsWay os first (path_at from ps)
  way_at from [] all less = absurd (cc)
  way_at zero (p ∷ ps) all less = all.0
  way_at (suc n) (p ∷ ps) all less = way_at n ps all.1 less

  went : (r : Reached) (from i : ℕ) → AreWays os first r → may_go_on os i (path_at from r.paths) r.paths ≡ true → AreWays os first (gone_on os first i (path_at from r.paths) r)
  went r from i are may =
      let p = path_at from r.paths in
      let less : nat_lt p.count LINKS ≡ true = first_of (nat_lt p.count LINKS) _ may in
      let rest = second_of (nat_lt p.count LINKS) _ may in
      let awaited : awaits (order_at p.last os) (order_at i os) ≡ true = first_of (awaits (order_at p.last os) (order_at i os)) _ rest in
      let last = second_of (awaits (order_at p.last os) (order_at i os)) _ rest in
      let apart : is_apart_from_all os (order_at i os) p ≡ true = second_of (not (is_reached i r.paths)) (is_apart_from_all os (order_at i os) p) last in
      let way = way_at from r.paths are.paths less in
      went_on r i p are way.some (room_of p.count less) (one_more p way i (room_of p.count less) awaited apart)

  one_visited : (r : Reached) (from i : ℕ) → AreWays os first r → AreWays os first (visited_one os first from i r)
  one_visited r from i are =
      let p = path_at from r.paths in
      chosen (AreWays os first) (is_some r.cycle) r (if may_go_on os i p r.paths then gone_on os first i p r else r) (λ e. are)
      (λ e. chosen (AreWays os first) (may_go_on os i p r.paths) (gone_on os first i p r) r (went r from i are) (λ f. are))

  all_visited : (n : ℕ) (r : Reached) (from : ℕ) → AreWays os first r → AreWays os first (visited n os first from r)
  all_visited zero r from are = are
  all_visited (suc n) r from are = one_visited (visited n os first from r) from n (all_visited n r from are)

  from_visited : (r : Reached) (from : ℕ) → AreWays os first r → AreWays os first (visited_from os first from r)
  from_visited r from are =
      chosen (AreWays os first) (nat_lt from (length r.paths) && is_none r.cycle) (visited (length os) os first from r) r
      (λ e. all_visited (length os) r from are) (λ e. are)

  all_searched : (n : ℕ) → AreWays os first (searched n os first)
  all_searched zero = record { paths = (one, tt); cycle = tt }
  all_searched (suc n) = from_visited (searched n os first) n (all_searched n)

  -- A CYCLE that is found
  is_cycle : (p : Path) → IsClosed os first (Some p) → laws.IsCycle os p
  is_cycle p is =
      let way = is.0 in
      record {
        several = is.1.0;
        few = way.few;
        next = way.next;
        closes = ap (λ a. awaits (laws.order_of os a) (laws.nth 0 os p)) way.ends ∙ ap (λ b. awaits (order_at p.last os) (laws.order_of os b)) way.begins ∙ is.1.1;
        apart = way.apart;
      }

-- ROWS

abbrev AreTold : Inversions → Type 0
AreTold f = AllByRecursion laws.TellsCycle f.rows

again_told : (x : Inversion) → laws.TellsCycle x → laws.TellsCycle (counted_again x)
again_told x is = record { orders = is.orders; path = is.path; cycle = is.cycle; told = is.told; counted = is.counted }

with_told : (x : Inversion) (f : Inversions) → AreTold f → laws.TellsCycle x → AreTold (with_inversion x f)
with_told x f are is = chosen AreTold (nat_lt (length f.rows) INVERSIONS) (record f { rows = f.rows ++ x ∷ [] }) (record f { others = once_more f.others }) (λ e. all_more laws.TellsCycle f.rows x are is) (λ e. are)

at_told : (o : Option ℕ) (x : Inversion) (f : Inversions) → AreTold f → laws.TellsCycle x → AreTold (noted_at o x f)
at_told None x f are is = with_told x f are is
at_told (Some i) x f are is = all_changed laws.TellsCycle counted_again no_inversion again_told f.rows i are

cycle_told : (os : List Order) (first : ℕ) (o : Option Path) (f : Inversions) → AreTold f → IsClosed os first o → AreTold (noted_cycle os o f)
cycle_told os first None f are is = are
cycle_told os first (Some p) f are is =
    let x = inversion_of os p in
    at_told (row_of (length f.rows) x f.rows) x f are (record { orders = os; path = p; cycle = is_cycle os first p is; told = refl; counted = refl })

-- HISTORIES

abbrev Tells : Ordered → Type 0
Tells s = AreTold s.found

sought_told : (i : ℕ) (s : Ordered) → Tells s → Tells (sought i s)
sought_told i s are = cycle_told s.orders i (searched (length s.orders) s.orders i).cycle s.found are (all_searched s.orders i (length s.orders)).cycle

order_told : (i : Option ℕ) (o : Order) (s : Ordered) → Tells s → Tells (with_order_at i o s)
order_told None o s are =
    chosen Tells (nat_lt (length s.orders) ORDERS) (sought (length s.orders) (record s { orders = s.orders ++ o ∷ [] })) (record s { is_full = true })
    (λ e. sought_told (length s.orders) (record s { orders = s.orders ++ o ∷ [] }) are) (λ e. are)
order_told (Some i) o s are = sought_told i (record s { orders = slice_set s.orders i o }) are

new_told : (o : Order) (s : Ordered) → Tells s → Tells (with_order o s)
new_told o s are =
    let at = free_order (length s.orders) s.orders in
    chosen Tells (list_any (is_repeat o) s.orders) s (with_order_at at o s) (λ e. are) (λ e. order_told at o s are)

ordered_told : (t : ℕ) (w : Bool) (k : Taking) (s : Ordered) → Tells s → Tells (ordered_by t w k s)
ordered_told t w k s are = chosen Tells (w && holds_some (held_by t s.held)) (with_order (order_of t k s) s) s (λ e. new_told (order_of t k s) s are) (λ e. are)

lock_told : (i : Option ℕ) (t : ℕ) (k : Taking) (s : Ordered) → Tells s → Tells (with_lock_at i t k s)
lock_told None t k s are = are
lock_told (Some i) t k s are = are

took_told : (t : ℕ) (w : Bool) (k : Taking) (s : Ordered) → Tells s → Tells (took t w k s)
took_told t w k s are =
    let z = ordered_by t w k s in
    chosen Tells (holds k.lock (held_by t s.held)) s (with_lock t k z) (λ e. are) (λ e. lock_told (next_place (held_by t z.held)) t k z (ordered_told t w k s are))

locked_told : (l : Locking) (s : Ordered) → Tells s → Tells (locked l s)
locked_told (locking.Take t w k) s are = took_told t w k s are
locked_told (locking.GiveUp t l) s are = are
locked_told (locking.Renew l) s are = are
locked_told (locking.Begin t) s are = are

one_told : (l : Locking) (s : Ordered) → Tells s → Tells (behind_lock l s)
one_told l s are = chosen Tells s.is_full s (locked l s) (λ e. are) (λ e. locked_told l s are)

-- an access, a pass or what is given anew changes nothing of it
accessed : (a : Access) (c : Option Cell) (w : Watched) → Tells w.orders → Tells (access_at a c w).orders
accessed a None w are = are
accessed a (Some c) w are = are

same_orders : (o : Operation) (w : Watched) → Tells w.orders → Tells (behind o w).orders
same_orders (operation.Access a) w are = accessed a (slice_get w.shadow (word_of a)) w are
same_orders (operation.Pass from to p) w are = are
same_orders (operation.Renew m) w are = are
same_orders (operation.Lock l p) w are = one_told l w.orders are

all_told : (os : List Operation) (w : Watched) → Tells w.orders → Tells (behind_all os w).orders
all_told [] w are = are
all_told (o ∷ os) w are = all_told os (behind o w) (same_orders o w are)

pub only_cycles_told : laws.OnlyCyclesAreTold
only_cycles_told k es s = all_told (of_events k es s) (fresh HOLDERS (words_of s)) tt

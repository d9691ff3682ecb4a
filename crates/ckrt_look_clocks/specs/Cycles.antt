-- The search for a cycle that an order closes: breadth first over the orders, so that the shortest comes first, each order reached once.
use Rattle.std.specs.Prelude.{ℕ, zero, suc, ◌+◌, ◌==◌, nat_lt, min, Bool, true, false, ◌&&◌, not, if◌then◌else◌, List, [], ◌∷◌, ◌++◌, length, get_or, slice_set, replicate, Option, Some, None, is_some, is_none, unwrap_or}
use Rattle.std.specs.List.{list_all, list_any}
use Rattle.ckrt_look_clocks.specs.declared.inversion.Inversion.{Inversion}
use Rattle.ckrt_look_clocks.specs.declared.inversion.Link.{Link}
use Rattle.ckrt_look_clocks.specs.declared.inversion.TheConstants.{INVERSIONS}
use Rattle.ckrt_look_clocks.specs.declared.lock.Taking.{Taking}
use Rattle.ckrt_look_clocks.specs.declared.order.Order.{Order}
use Rattle.ckrt_look_clocks.specs.declared.search.Path.{Path}
use Rattle.ckrt_look_clocks.specs.declared.search.Search.{Search}
use Rattle.ckrt_look_clocks.specs.declared.search.TheConstants.{ORDERS, LINKS}
use Rattle.ckrt_look_clocks.specs.LockOrders.{are_apart, awaits, blocker, order_at}

-- once more, as far as 64 bits count
abbrev pub once_more : ℕ → ℕ
once_more n = min (n + 1) 18446744073709551615

-- A PATH: orders by their places, each but the first awaited by the one before, and each apart from all others

abbrev pub no_path : Path
no_path = record { places = replicate 8 None; count = LINKS; last = 0 }

abbrev pub first_path : (place : ℕ) → Path
first_path i = record { places = slice_set (replicate 8 None) 0 (Some i); count = 1; last = i }

abbrev pub longer : (place : ℕ) → Path → Path
longer i p = record {
  places = slice_set p.places p.count (Some i);
  count = once_more p.count;
  last = i;
}

abbrev pub path_at : (from : ℕ) → List Path → Path
path_at from ps = get_or ps from no_path

-- an order is apart from the one at a place of a path
abbrev pub is_apart_from : List Order → Order → Option ℕ → Bool
is_apart_from os o None = true
is_apart_from os o (Some i) = are_apart (order_at i os) o

abbrev pub is_apart_from_all : List Order → Order → Path → Bool
is_apart_from_all os o p = list_all (is_apart_from os o) p.places

abbrev pub ends_at : (place : ℕ) → Path → Bool
ends_at i p = p.last == i

abbrev pub is_reached : (place : ℕ) → List Path → Bool
is_reached i ps = list_any (ends_at i) ps

-- a path of fewer than 8 goes on with an order that no path has ended with before
abbrev pub may_go_on : List Order → (place : ℕ) → Path → List Path → Bool
may_go_on os i p ps =
    nat_lt p.count LINKS
    && (awaits (order_at p.last os) (order_at i os)
    && (not (is_reached i ps) && is_apart_from_all os (order_at i os) p))

-- THE SEARCH: the paths so far, and the one that is a cycle
pub record Reached : Type 0 where
  pub paths : List Path
  pub cycle : Option Path

abbrev pub found_of : Search → Reached
found_of s = record { paths = s.paths.items; cycle = s.cycle }

-- each order is reached once, so there is room for all
abbrev pub with_path : Path → Reached → Reached
with_path p r = if nat_lt (length r.paths) ORDERS then record r { paths = r.paths ++ p ∷ [] } else r

-- the last order takes what the first one's thread held
abbrev pub closes : List Order → (first place : ℕ) → Bool
closes os first i = awaits (order_at i os) (order_at first os)

abbrev pub gone_on : List Order → (first place : ℕ) → Path → Reached → Reached
gone_on os first i p r =
    if closes os first i then record r { cycle = Some (longer i p) }
    else with_path (longer i p) r

abbrev pub visited_one : List Order → (first from place : ℕ) → Reached → Reached
visited_one os first from i r =
    if is_some r.cycle then r
    else (if may_go_on os i (path_at from r.paths) r.paths
    then gone_on os first i (path_at from r.paths) r else r)

-- the first n orders, behind a path
abbrev pub visited : (n : ℕ) → List Order → (first from : ℕ) → Reached → Reached
visited zero os first from r = r
visited (suc n) os first from r = visited_one os first from n (visited n os first from r)

abbrev pub visited_from : List Order → (first from : ℕ) → Reached → Reached
visited_from os first from r =
    if nat_lt from (length r.paths) && is_none r.cycle then visited (length os) os first from r
    else r

abbrev pub begun : (first : ℕ) → Reached
begun first = record { paths = first_path first ∷ []; cycle = None }

-- behind the first n paths
abbrev pub searched : (n : ℕ) → List Order → (first : ℕ) → Reached
searched zero os first = begun first
searched (suc n) os first = visited_from os first n (searched n os first)

-- A CYCLE, as it is told: who took what while holding what the one before took

-- an order behind another one
abbrev pub link_behind : (before order : Order) → Link
link_behind a b = record {
  thread = b.thread;
  taken = b.taken;
  held = unwrap_or (blocker (length b.held.locks) a.taken b.held.locks) b.taken;
}

-- the order at a place of a path, or the one that closes it
abbrev pub order_in : List Order → Path → Option ℕ → Order
order_in os p None = order_at p.last os
order_in os p (Some i) = order_at i os

-- the one before the n-th, which is the last before the first
abbrev pub order_before : (n : ℕ) → List Order → Path → Order
order_before zero os p = order_at p.last os
order_before (suc n) os p = order_in os p (get_or p.places n None)

abbrev pub link_of : (n : ℕ) → List Order → Path → Option ℕ → Option Link
link_of n os p None = None
link_of n os p (Some i) = Some (link_behind (order_before n os p) (order_at i os))

abbrev pub link_at : (n : ℕ) → List Order → Path → Option Link
link_at n os p = link_of n os p (get_or p.places n None)

-- the first n links
abbrev pub links : (n : ℕ) → List Order → Path → List (Option Link)
links zero os p = replicate 8 None
links (suc n) os p = slice_set (links n os p) n (link_at n os p)

abbrev pub inversion_of : List Order → Path → Inversion
inversion_of os p = record { links = links (length p.places) os p; length = p.count; count = 1 }

-- THE SAME PLACES: two cycles of as many links, whose locks were taken at the same places

abbrev pub is_at_place : Taking → Taking → Bool
is_at_place a b = a.pc == b.pc && a.caller == b.caller

abbrev pub is_link_at : Link → Option Link → Bool
is_link_at a None = false
is_link_at a (Some b) = is_at_place a.taken b.taken

abbrev pub has_link : List (Option Link) → Link → Bool
has_link links a = list_any (is_link_at a) links

abbrev pub is_link_in : List (Option Link) → Option Link → Bool
is_link_in links None = true
is_link_in links (Some a) = has_link links a

abbrev pub are_links_in : (links more : List (Option Link)) → Bool
are_links_in links more = list_all (is_link_in links) more

abbrev pub are_at : Inversion → Inversion → Bool
are_at x y =
    x.length == y.length && (are_links_in y.links x.links && are_links_in x.links y.links)

-- WHAT WAS FOUND: cycles by their places, each with the first there and how often, and how often there was one without a row
pub record Inversions : Type 0 where
  pub rows : List Inversion
  pub others : ℕ

abbrev pub no_inversions : Inversions
no_inversions = record { rows = []; others = 0 }

abbrev pub no_inversion : Inversion
no_inversion = record { links = replicate 8 None; length = 0; count = 0 }

abbrev pub row_at : (place : ℕ) → List Inversion → Inversion
row_at i rows = get_or rows i no_inversion

-- a place, if it is one that is looked for, or else the one before it
abbrev pub latest : Option ℕ → (place : ℕ) → (is_one : Bool) → Option ℕ
latest before i is = if is then Some i else before

-- the last of the first n rows with these places
abbrev pub row_of : (n : ℕ) → Inversion → List Inversion → Option ℕ
row_of zero x rows = None
row_of (suc n) x rows = latest (row_of n x rows) n (are_at x (row_at n rows))

abbrev pub counted_again : Inversion → Inversion
counted_again r = record r { count = once_more r.count }

abbrev pub counted_at : (place : ℕ) → List Inversion → List Inversion
counted_at i rows = slice_set rows i (counted_again (row_at i rows))

abbrev pub with_inversion : Inversion → Inversions → Inversions
with_inversion x f =
    if nat_lt (length f.rows) INVERSIONS then record f { rows = f.rows ++ x ∷ [] }
    else record f { others = once_more f.others }

abbrev pub noted_at : Option ℕ → Inversion → Inversions → Inversions
noted_at None x f = with_inversion x f
noted_at (Some i) x f = record f { rows = counted_at i f.rows }

abbrev pub noted_inversion : Inversion → Inversions → Inversions
noted_inversion x f = noted_at (row_of (length f.rows) x f.rows) x f

abbrev pub noted_cycle : List Order → Option Path → Inversions → Inversions
noted_cycle os None f = f
noted_cycle os (Some p) f = noted_inversion (inversion_of os p) f

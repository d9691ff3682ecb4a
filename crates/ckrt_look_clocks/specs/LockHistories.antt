-- What is known of locks, operation by operation: who holds which, which orders there were, and which cycles they closed.
use Rattle.std.specs.Prelude.{ℕ, zero, suc, nat_lt, Bool, true, false, ◌&&◌, if◌then◌else◌, List, [], ◌∷◌, ◌++◌, length, get_or, slice_set, replicate, Option, Some, None}
use Rattle.std.specs.List.{list_any}
use Rattle.ckrt_look_clocks.specs.declared.inversion.InversionRows.{InversionRows}
use Rattle.ckrt_look_clocks.specs.declared.lock.LockName.{LockName}
use Rattle.ckrt_look_clocks.specs.declared.lock.Locking.{Locking}
use Rattle.ckrt_look_clocks.specs.declared.lock.Locking.TheVariants as locking
use Rattle.ckrt_look_clocks.specs.declared.lock.Taking.{Taking}
use Rattle.ckrt_look_clocks.specs.declared.locks.Locks.{Locks}
use Rattle.ckrt_look_clocks.specs.declared.order.Held.{Held}
use Rattle.ckrt_look_clocks.specs.declared.order.Order.{Order}
use Rattle.ckrt_look_clocks.specs.declared.search.TheConstants.{ORDERS}
use Rattle.ckrt_look_clocks.specs.Cycles.{Inversions, no_inversions, noted_cycle, searched}
use Rattle.ckrt_look_clocks.specs.LockOrders.{free_order, free_place, holds, holds_some, is_lock, is_repeat, no_order, nothing_held, put_at, without}

-- by thread the locks that it holds, the orders, the cycles that were found, and whether a room was used up
pub record Ordered : Type 0 where
  pub held : List Held
  pub orders : List Order
  pub found : Inversions
  pub is_full : Bool

abbrev pub inversions_in : InversionRows → Inversions
inversions_in r = record { rows = r.rows.items; others = r.others }

abbrev pub ordered_in : Locks → Ordered
ordered_in l = record {
  held = l.held.items;
  orders = l.orders.items;
  found = inversions_in l.found;
  is_full = l.is_full;
}

abbrev pub no_orders : Ordered
no_orders = record {
  held = replicate 65 nothing_held;
  orders = [];
  found = no_inversions;
  is_full = false;
}

abbrev pub held_by : (thread : ℕ) → List Held → Held
held_by t hs = get_or hs t nothing_held

abbrev pub with_held : (thread : ℕ) → Held → Ordered → Ordered
with_held t h s = record s { held = slice_set s.held t h }

-- A LOCK MORE is held, if a place is free
abbrev pub with_lock_at : Option ℕ → (thread : ℕ) → Taking → Ordered → Ordered
with_lock_at None t k s = record s { is_full = true }
with_lock_at (Some i) t k s = with_held t (put_at i k (held_by t s.held)) s

abbrev pub next_place : Held → Option ℕ
next_place h = free_place (length h.locks) h.locks

abbrev pub with_lock : (thread : ℕ) → Taking → Ordered → Ordered
with_lock t k s = with_lock_at (next_place (held_by t s.held)) t k s

-- AN ORDER MORE, unless it is known, at the last place whose order is idle, or behind all
abbrev pub sought : (place : ℕ) → Ordered → Ordered
sought i s =
    record s {
      found = noted_cycle s.orders (searched (length s.orders) s.orders i).cycle s.found;
    }

abbrev pub with_order_at : Option ℕ → Order → Ordered → Ordered
with_order_at None o s =
    if nat_lt (length s.orders) ORDERS
    then sought (length s.orders) (record s { orders = s.orders ++ o ∷ [] })
    else record s { is_full = true }
with_order_at (Some i) o s = sought i (record s { orders = slice_set s.orders i o })

abbrev pub with_order : Order → Ordered → Ordered
with_order o s =
    if list_any (is_repeat o) s.orders then s
    else with_order_at (free_order (length s.orders) s.orders) o s

-- A THREAD TAKES A LOCK. There is an order where it would have waited, and holds others
abbrev pub order_of : (thread : ℕ) → Taking → Ordered → Order
order_of t k s = record { thread = t; taken = k; held = held_by t s.held }

abbrev pub ordered_by : (thread : ℕ) → (waits : Bool) → Taking → Ordered → Ordered
ordered_by t w k s =
    if w && holds_some (held_by t s.held) then with_order (order_of t k s) s else s

-- what it holds already it only holds once more
abbrev pub took : (thread : ℕ) → (waits : Bool) → Taking → Ordered → Ordered
took t w k s =
    if holds k.lock (held_by t s.held) then s else with_lock t k (ordered_by t w k s)

-- IT GIVES ONE UP
abbrev pub held_without : LockName → Held → Held
held_without l h = record { locks = without (length h.locks) l h.locks }

abbrev pub gave_up : (thread : ℕ) → LockName → Ordered → Ordered
gave_up t l s = with_held t (held_without l (held_by t s.held)) s

-- A LOCK IS ANOTHER ONE from here on: no order tells of it any more
abbrev pub order_without : LockName → Order → Order
order_without l o =
    record o {
      held = if is_lock l o.taken.lock then nothing_held
          else held_without l o.held;
    }

-- so many of the orders
abbrev pub orders_without : (n : ℕ) → LockName → List Order → List Order
orders_without zero l os = os
orders_without (suc n) l os =
    slice_set (orders_without n l os) n
    (order_without l (get_or (orders_without n l os) n no_order))

abbrev pub made_anew : LockName → Ordered → Ordered
made_anew l s = record s { orders = orders_without (length s.orders) l s.orders }

-- OPERATION BY OPERATION, until a room is used up
abbrev pub locked : Locking → Ordered → Ordered
locked (locking.Take t w k) s = took t w k s
locked (locking.GiveUp t l) s = gave_up t l s
locked (locking.Renew l) s = made_anew l s
locked (locking.Begin t) s = with_held t nothing_held s

abbrev pub behind_lock : Locking → Ordered → Ordered
behind_lock o s = if s.is_full then s else locked o s

-- What is told of orders of locks is a cycle: stated of the orders alone, without the search.
use Rattle.std.specs.Prelude.{◌≡◌, ◌≤◌, ◌<◌, ℕ, ◌+◌, ◌-◌, true, List, length, get_or, Option, Some, None}
use Rattle.std.specs.List.{AllByRecursion}
use Rattle.ckrt_events.specs.declared.event.Event.{Event}
use Rattle.ckrt_machine.specs.Steps.{State}
use Rattle.ckrt_look_clocks.specs.declared.inversion.Inversion.{Inversion}
use Rattle.ckrt_look_clocks.specs.declared.order.Order.{Order}
use Rattle.ckrt_look_clocks.specs.declared.search.Path.{Path}
use Rattle.ckrt_look_clocks.specs.declared.search.TheConstants.{LINKS}
use Rattle.ckrt_look_clocks.specs.Cycles.{links}
use Rattle.ckrt_look_clocks.specs.LockOrders.{are_apart, awaits, no_order, order_at}
use Rattle.ckrt_look_races.specs.Recorded.{orders_by}

-- the n-th order of a path
abbrev pub order_of : List Order → Option ℕ → Order
order_of os None = no_order
order_of os (Some i) = order_at i os

abbrev pub nth : (n : ℕ) → List Order → Path → Order
nth n os p = order_of os (get_or p.places n None)

-- A CYCLE: two orders or more, each of which awaits the next one, and the last one the first. Any two are of two threads, and no lock that the one's
-- thread held keeps out what the other's held: so one thread alone makes none, nor do threads below a common lock.
pub record IsCycle (os : List Order) (p : Path) : Type 0 where
  pub several : 2 ≤ p.count
  pub few : p.count ≤ LINKS
  pub next : (n : ℕ) → n + 1 < p.count → awaits (nth n os p) (nth (n + 1) os p) ≡ true
  pub closes : awaits (nth (p.count - 1) os p) (nth 0 os p) ≡ true
  pub apart : (n m : ℕ) → n < m → m < p.count → are_apart (nth n os p) (nth m os p) ≡ true

-- a row tells of such a cycle of some orders
pub record TellsCycle (x : Inversion) : Type 0 where
  pub orders : List Order
  pub path : Path
  pub cycle : IsCycle orders path
  pub told : x.links ≡ links (length path.places) orders path
  pub counted : x.length ≡ path.count

-- ONLY CYCLES ARE TOLD
abbrev pub OnlyCyclesAreTold : Type 0
OnlyCyclesAreTold =
    (k : ℕ) (es : List Event) (s : State)
    → AllByRecursion TellsCycle (orders_by k es s).found.rows

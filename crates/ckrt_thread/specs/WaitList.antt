-- How the list of waits is kept: each thread's wait by its number, who waits, the order by links, and the queues of the
-- objects (this project's choice).
use Rattle.std.specs.Prelude.{◌≡◌, ◌<◌, ℕ, Bool, false, List, [], ◌∷◌, map, length, Option, Some, None, slice_index_or, ⊤}
use Rattle.std.specs.List.{list_any, find}
use Rattle.ckrt_thread.specs.declared.records.Wait.{Wait}
use Rattle.ckrt_thread.specs.declared.records.Reason.TheVariants as reason
use Rattle.ckrt_thread.specs.declared.records.Object.{Object}
use Rattle.ckrt_thread.specs.declared.links.Links.{Links}
use Rattle.ckrt_thread.specs.declared.links.Ends.{Ends}
use Rattle.ckrt_thread.specs.declared.queues.Queues.{Queues}
use Rattle.ckrt_thread.specs.Waits.{is_of, is_for, without}
use Rattle.ckrt_thread.specs.Links.{row, IsChain}
use Rattle.ckrt_thread.specs.Queues.{ids, AreQueues}

pub record AreMarked (marks : List Bool) (ws : List Wait) : Type 0 where
  pub size : length marks ≡ 256
  pub marked : (t : ℕ) → t < 256 → slice_index_or marks t false ≡ list_any (is_of t) ws

-- the wait of nobody
abbrev pub nobody : Wait
nobody = record { thread = 0; reason = reason.Input; deadline = None }

abbrev pub entry_at : List Wait → ℕ → Wait
entry_at entries t = slice_index_or entries t nobody

-- each of the waits stands at the number of its thread
abbrev pub AreEntries : List Wait → List Wait → Type 0
AreEntries entries [] = ⊤
AreEntries entries (w ∷ ws) = (entry_at entries w.thread ≡ w) × AreEntries entries ws

-- the waits by the links from the first on
abbrev pub waits_along : List Wait → Links → Ends → List Wait
waits_along entries links ends = map (entry_at entries) (row links ends)

-- the parts of the table are those of these waits
pub record AreKept (table : List Wait) (waiting : List Bool) (links : Links) (ends : Ends)
    (heads : Queues) (ws : List Wait) : Type 0 where
  pub size : length table ≡ 65
  pub entries : AreEntries table ws
  pub marks : AreMarked waiting ws
  pub order : IsChain links ends (ids ws)
  pub queues : AreQueues heads ws

-- the list when a wait has been taken out, if there is one
abbrev pub without_wait : Option Wait → List Wait → List Wait
without_wait None ws = ws
without_wait (Some w) ws = without w.thread ws

abbrev pub without_first : Object → List Wait → List Wait
without_first o ws = without_wait (find (is_for o) ws) ws

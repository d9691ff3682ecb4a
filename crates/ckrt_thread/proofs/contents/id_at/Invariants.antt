use Rattle.std.proofs.Common.{◌≡◌, drop, slice_get}
use Rattle.ckrt_thread.specs.Contents.{rows_from}
use Rattle.ckrt_thread.proofs.contents.id_at.Given as goal

-- the thread that is looked for is at the place that is left, among the slots that are left
abbrev pub invariant-loop-id : goal.invariant-loop-id
invariant-loop-id l = slice_get (rows_from l.id (drop l.id l.slots)) l.left ≡ slice_get (rows_from 0 l.slots) l.fn.place

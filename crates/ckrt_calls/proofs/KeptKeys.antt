-- The calls on thread-specific data keep the rules of the tables.
use Rattle.std.proofs.Common.{ℕ}
use Rattle.ckrt_registers.specs.Registers.{Registers}
use Rattle.ckrt_registers.specs.Registers.{get}
use Rattle.ckrt_cancel.specs.KeyRows.{key_create_row, key_delete_row, setspecific_row, getspecific_row}
use Rattle.ckrt_cancel.proofs.KeysKept.{threads_key_create, threads_key_delete, threads_setspecific, threads_getspecific, waits_key_create, waits_key_delete, waits_setspecific, waits_getspecific, live_key_create, live_key_delete, live_setspecific, live_getspecific}
use Rattle.ckrt_calls.specs.declared.table.Tables.{Tables}
use Rattle.ckrt_calls.specs.WellFormed.{IsWellFormed}
use Rattle.ckrt_calls.specs.declared.number.KeyCall.{KeyCall}
use Rattle.ckrt_calls.specs.declared.number.KeyCall.TheVariants as key_call
use Rattle.ckrt_calls.specs.Table.{key_row}
use Rattle.ckrt_calls.specs.Calling.{MayCall}
use Rattle.ckrt_calls.proofs.Calling.{IsAfter, changed}
use Rattle.ckrt_calls.proofs.KeptCancellation.{kept_same}

kept_key_create : (t d : ℕ) (s : Tables) → MayCall t s → IsAfter s (key_create_row t d s.threads).threads s.mutexes
kept_key_create t d s m =
    kept_same t s (key_create_row t d s.threads).threads m (threads_key_create t s.threads m.well_formed.threads d) (waits_key_create t d s.threads) (live_key_create t t d s.threads m.live)

kept_key_delete : (t k : ℕ) (s : Tables) → MayCall t s → IsAfter s (key_delete_row k s.threads).threads s.mutexes
kept_key_delete t k s m =
    kept_same t s (key_delete_row k s.threads).threads m (threads_key_delete t s.threads m.well_formed.threads k) (waits_key_delete k s.threads) (live_key_delete t k s.threads m.live)

kept_setspecific : (t k v : ℕ) (s : Tables) → MayCall t s → IsAfter s (setspecific_row t k v s.threads).threads s.mutexes
kept_setspecific t k v s m =
    kept_same t s (setspecific_row t k v s.threads).threads m (threads_setspecific t s.threads m.well_formed.threads k v m.live) (waits_setspecific t k v s.threads) (live_setspecific t t k v s.threads m.live)

kept_getspecific : (t k : ℕ) (s : Tables) → MayCall t s → IsAfter s (getspecific_row t k s.threads).threads s.mutexes
kept_getspecific t k s m =
    kept_same t s (getspecific_row t k s.threads).threads m (threads_getspecific t s.threads m.well_formed.threads k) (waits_getspecific t k s.threads) (live_getspecific t t k s.threads m.live)

pub kept_key : (c : KeyCall) (t : ℕ) (r : Registers) (s : Tables) → MayCall t s → IsWellFormed (key_row c t r s).tables
kept_key key_call.Create t r s m = changed t s _ _ m (kept_key_create t (get r 10) s m)
kept_key key_call.Delete t r s m = changed t s _ _ m (kept_key_delete t (get r 10) s m)
kept_key key_call.SetSpecific t r s m = changed t s _ _ m (kept_setspecific t (get r 10) (get r 11) s m)
kept_key key_call.GetSpecific t r s m = changed t s _ _ m (kept_getspecific t (get r 10) s m)

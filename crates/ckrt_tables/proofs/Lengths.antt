-- How many bytes the parts of an encoding have.
use Rattle.std.proofs.Common.{◌≡◌, ℕ, ◌+◌, List, [], ◌∷◌, length, length-append, refl, arith}
use Rattle.std.specs.List.{flat_map, concat}
use Rattle.ckrt_thread.specs.Contents.{thread_rows}
use Rattle.ckrt_calls.specs.declared.table.Status.{Status}
use Rattle.ckrt_calls.specs.declared.table.Status.TheVariants as status
use Rattle.ckrt_calls.specs.declared.table.Tables.{Tables}
use Rattle.ckrt_tables.specs.Records.{counted, one_byte, two_bytes, hart_bytes, thread_bytes, wait_bytes, mutex_bytes, barrier_bytes, rwlock_bytes, keys_bytes}
use Rattle.ckrt_tables.specs.Encoding.{status_bytes, queue_bytes, encoding_of}

length_concat : (x : List ℕ) (xs : List (List ℕ)) → length (concat (x ∷ xs)) ≡ length x + length (concat xs)
length_concat x xs = length-append x (concat xs)

pub status_length : (s : Status) → length (status_bytes s) ≡ 7
status_length status.Running = refl
status_length (status.Exited code) = refl
status_length (status.Faulted t pc c) = refl

pub encoding_length : (version : ℕ) (s : Tables) (held : List ℕ) → length (encoding_of version s held) ≡
    8 + (1 + (length (status_bytes s.status) + (length (flat_map hart_bytes s.threads.harts)
    + (length (counted one_byte (thread_bytes version) (thread_rows s.threads)) + (length (counted one_byte wait_bytes s.threads.waits)
    + (length (counted two_bytes mutex_bytes s.mutexes) + (length (counted one_byte barrier_bytes s.barriers)
    + (length (counted one_byte rwlock_bytes s.rwlocks) + (length (keys_bytes version s.threads.keys) + (length (queue_bytes s.input) + length (queue_bytes held)))))))))))
encoding_length version s held =
    let p₁₁ = queue_bytes held ∷ [] in
    let p₁₀ = queue_bytes s.input ∷ p₁₁ in
    let pₖ = keys_bytes version s.threads.keys ∷ p₁₀ in
    let p₉ = counted one_byte rwlock_bytes s.rwlocks ∷ pₖ in
    let p₈ = counted one_byte barrier_bytes s.barriers ∷ p₉ in
    let p₇ = counted two_bytes mutex_bytes s.mutexes ∷ p₈ in
    let p₆ = counted one_byte wait_bytes s.threads.waits ∷ p₇ in
    let p₅ = counted one_byte (thread_bytes version) (thread_rows s.threads) ∷ p₆ in
    let p₄ = flat_map hart_bytes s.threads.harts ∷ p₅ in
    let e₃ = length_concat (status_bytes s.status) p₄ in
    let e₄ = length_concat (flat_map hart_bytes s.threads.harts) p₅ in
    let e₅ = length_concat (counted one_byte (thread_bytes version) (thread_rows s.threads)) p₆ in
    let e₆ = length_concat (counted one_byte wait_bytes s.threads.waits) p₇ in
    let e₇ = length_concat (counted two_bytes mutex_bytes s.mutexes) p₈ in
    let e₈ = length_concat (counted one_byte barrier_bytes s.barriers) p₉ in
    let e₉ = length_concat (counted one_byte rwlock_bytes s.rwlocks) pₖ in
    let eₖ = length_concat (keys_bytes version s.threads.keys) p₁₀ in
    let e₁₀ = length_concat (queue_bytes s.input) p₁₁ in
    let e₁₁ = length_concat (queue_bytes held) [] in
    omega (arith, e₃, e₄, e₅, e₆, e₇, e₈, e₉, eₖ, e₁₀, e₁₁)

-- The counts of a lock's readers are known by the readers that they are.
use Rattle.std.proofs.Common.{◌≡◌, ℕ, zero, suc, ◌+◌, ◌≤◌, ◌==◌, Bool, true, false, if◌then◌else◌, List, [], ◌∷◌, ◌++◌, length, length-append, replicate, refl, sym, ap, ◌∙◌, append_assoc, arith}
use Rattle.std.proofs.lemmas.Bool.Decides.{nat_tests}
use Rattle.std.proofs.Math.Seq.{set-append_seam}
use Rattle.std.specs.Prelude.{slice_set}
use Rattle.std.specs.List.{list_all}
use Rattle.ckrt_tables.specs.Records.{reader_at, readers_from}
use Rattle.ckrt_tables.specs.Savable.{is_half}
use Rattle.ckrt_tables.specs.Objects.{fits_reader, with_readers}

reads : (k n : ℕ) → reader_at k (suc n) ≡ (record { id = k; count = suc n }) ∷ []
reads k n = (let some : (suc n == 0) ≡ false = grind (arith, nat_tests) in ap (λ (b : Bool). if b then [] else (record { id = k; count = suc n }) ∷ []) some)

pub reader_here : (k n : ℕ) (ns : List ℕ) → readers_from k (suc n ∷ ns) ≡ (record { id = k; count = suc n }) ∷ readers_from (suc k) ns
reader_here k n ns = ap (λ l. l ++ readers_from (suc k) ns) (reads k n)

-- there are no more readers than counts
pub readers_fewer : (k : ℕ) (ns : List ℕ) → length (readers_from k ns) ≤ length ns
readers_fewer k [] = omega arith
readers_fewer k (zero ∷ ns) = omega (arith, readers_fewer (suc k) ns)
readers_fewer k (suc n ∷ ns) = omega (arith, ap length (reader_here k n ns), readers_fewer (suc k) ns)

-- their numbers fit their fields where there are no more than 65 counts
pub readers_fit : (k : ℕ) (ns : List ℕ) → k + length ns ≤ 65 → list_all is_half ns ≡ true → list_all fits_reader (readers_from k ns) ≡ true
readers_fit k [] few f = refl
readers_fit k (zero ∷ ns) few f = readers_fit (suc k) ns (omega (arith, few)) (grind (arith, nat_tests, f))
readers_fit k (suc n ∷ ns) few f =
    let rest = readers_fit (suc k) ns (omega (arith, few)) (grind (arith, nat_tests, f)) in
    let within : k ≤ 64 = omega (arith, few) in
    ap (list_all fits_reader) (reader_here k n ns) ∙ grind (arith, nat_tests, f, rest, within)

-- the counts behind those of the first ids
counts_behind : (k : ℕ) (done ns : List ℕ) → length done ≡ k → with_readers (readers_from k ns) (done ++ replicate (length ns) 0) ≡ done ++ ns
counts_behind k done [] at = refl
counts_behind k done (zero ∷ ns) at =
    let zeros : List ℕ = replicate (length ns) 0 in
    let size : length (done ++ 0 ∷ []) ≡ suc k = omega (arith, length-append done (0 ∷ []), at) in
    ap (with_readers (readers_from (suc k) ns)) (sym (append_assoc done (0 ∷ []) zeros)) ∙ counts_behind (suc k) (done ++ 0 ∷ []) ns size ∙ append_assoc done (0 ∷ []) ns
counts_behind k done (suc n ∷ ns) at =
    let zeros : List ℕ = replicate (length ns) 0 in
    let size : length (done ++ suc n ∷ []) ≡ suc k = omega (arith, length-append done (suc n ∷ []), at) in
    let here : slice_set (done ++ 0 ∷ zeros) k (suc n) ≡ (done ++ suc n ∷ []) ++ zeros =
    ap (λ i. slice_set (done ++ 0 ∷ zeros) i (suc n)) (sym at) ∙ set-append_seam done 0 zeros (suc n) ∙ sym (append_assoc done (suc n ∷ []) zeros) in
    ap (λ rs. with_readers rs (done ++ 0 ∷ zeros)) (reader_here k n ns)
    ∙ ap (with_readers (readers_from (suc k) ns)) here
    ∙ counts_behind (suc k) (done ++ suc n ∷ []) ns size
    ∙ append_assoc done (suc n ∷ []) ns

-- all counts
pub counts_found : (ns : List ℕ) → length ns ≡ 65 → with_readers (readers_from 0 ns) (replicate 65 0) ≡ ns
counts_found ns size = ap (λ n. with_readers (readers_from 0 ns) (replicate n 0)) (sym size) ∙ counts_behind 0 [] ns refl

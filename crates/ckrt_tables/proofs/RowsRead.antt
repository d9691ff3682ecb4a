-- Rows that are read one behind another.
use Rattle.std.proofs.Common.{◌≡◌, ℕ, zero, suc, ◌+◌, ◌≤◌, ◌<◌, ◌^◌, Bool, true, List, [], ◌∷◌, ◌++◌, length, get_or, drop, sym, ap, subst, ◌∙◌, append_assoc, arith}
use Rattle.std.proofs.Math.Seq.{drop-cons}
use Rattle.std.proofs.lemmas.Grind.{common_steps}
use Rattle.std.proofs.lemmas.Bool.Decides.{nat_tests}
use Rattle.std.specs.List.{list_all, flat_map}
use Rattle.byteorder.specs.Endian.{little_bytes}
use Rattle.ckrt_tables.specs.Decoding.{Finds, Reaches}
use Rattle.ckrt_tables.specs.Records.{counted, one_byte, two_bytes}
use Rattle.ckrt_tables.specs.Savable.{is_byte, is_half}

-- an element of a list of which all pass a test
pub fits_at : {X : Type 0} (fits : X → Bool) (xs : List X) (i : ℕ) (d : X) → list_all fits xs ≡ true → i < length xs → fits (get_or xs i d) ≡ true
fits_at fits [] i d all lt = absurd (omega (arith, lt))
fits_at fits (x ∷ xs) zero d all lt = grind (arith, all)
fits_at fits (x ∷ xs) (suc i) d all lt = let all_xs : list_all fits xs ≡ true = grind (arith, all) in fits_at fits xs i d all_xs (omega arith)

module _ {T R : Type 0} (LeadsTo : T → List R → T → Type 0) (fits : R → Bool) (each : R → List ℕ) where
  -- so far i of the rows were read, of so many
  abbrev pub HasRead : ℕ → ℕ → List ℕ → T → T → List ℕ → Type 0
  HasRead count i bytes begun reached left =
      (goal : T) (rows : List R) (rest : List ℕ) → length rows ≡ count → list_all fits rows ≡ true → LeadsTo begun rows goal → bytes ≡ flat_map each rows ++ rest
      → LeadsTo reached (drop i rows) goal × (left ≡ flat_map each (drop i rows) ++ rest)

  -- one row more
  pub reads_more : (count i : ℕ) (bytes : List ℕ) (begun now new : T) (left after : List ℕ) (row : R) → i < count → HasRead count i bytes begun now left
      → Finds fits each left row after → ((goal : T) (more : List R) → LeadsTo now (row ∷ more) goal → LeadsTo new more goal) → HasRead count (i + 1) bytes begun new after
  reads_more count i bytes begun now new left after row lt so_far finds append = λ goal rows rest n all leads e.
      let h = so_far goal rows rest n all leads e in
      let within : i < length rows = omega (arith, lt, n) in
      let step : i + 1 ≡ suc i = omega arith in
      let x = get_or rows i row in
      let split : drop i rows ≡ x ∷ drop (i + 1) rows = drop-cons rows i row within ∙ ap (λ k. x ∷ drop k rows) (sym step) in
      let here : left ≡ each x ++ (flat_map each (drop (i + 1) rows) ++ rest) = h.1 ∙ ap (λ l. flat_map each l ++ rest) split ∙ append_assoc (each x) (flat_map each (drop (i + 1) rows)) rest in
      let got = finds x (flat_map each (drop (i + 1) rows) ++ rest) (fits_at fits rows i row all within) here in
      let ahead : drop i rows ≡ row ∷ drop (i + 1) rows = split ∙ ap (λ y. y ∷ drop (i + 1) rows) (sym got.0) in
      (append goal (drop (i + 1) rows) (subst (λ l. LeadsTo now l goal) ahead h.0), got.1)

  -- all of them
  pub reads_all : (count i : ℕ) (bytes : List ℕ) (begun now : T) (left : List ℕ) → count ≤ i → HasRead count i bytes begun now left
      → Reaches LeadsTo fits (flat_map each) (λ n. n ≡ count) bytes begun now left
  reads_all count i bytes begun now left le so_far = λ goal rows rest n all leads e.
      let h = so_far goal rows rest n all leads e in
      let none : drop i rows ≡ [] = grind (arith, common_steps) in
      (subst (λ l. LeadsTo now l goal) none h.0, h.1 ∙ ap (λ l. flat_map each l ++ rest) none)

  -- with their count

  pub reads_few : (bytes mid left : List ℕ) (count so_many : ℕ) (begun reached : T) → so_many ≡ count → Finds is_byte one_byte bytes count mid → Reaches LeadsTo fits (flat_map each) (λ n. n ≡ so_many) mid begun reached left
      → Reaches LeadsTo fits (counted one_byte each) (λ n. n < 256) bytes begun reached left
  reads_few bytes mid left count so_many begun reached same number reach = λ goal rows rest n all leads e.
      let c = number (length rows) (flat_map each rows ++ rest) (grind (arith, nat_tests, n)) e in
      reach goal rows rest (sym c.0 ∙ sym same) all leads c.1

  pub reads_many : (bytes mid left : List ℕ) (count so_many : ℕ) (begun reached : T) → so_many ≡ count → Finds is_half (little_bytes 2) bytes count mid → Reaches LeadsTo fits (flat_map each) (λ n. n ≡ so_many) mid begun reached left
      → Reaches LeadsTo fits (counted two_bytes each) (λ n. n < 256 ^ 2) bytes begun reached left
  reads_many bytes mid left count so_many begun reached same number reach = λ goal rows rest n all leads e.
      let c = number (length rows) (flat_map each rows ++ rest) (grind (arith, nat_tests, n)) e in
      reach goal rows rest (sym c.0 ∙ sym same) all leads c.1

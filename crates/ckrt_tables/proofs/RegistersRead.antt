-- Registers that are read one behind another.
use Rattle.std.proofs.Common.{◌≡◌, ℕ, suc, ◌+◌, ◌<◌, ◌==◌, Bool, true, false, if◌then◌else◌, List, [], ◌∷◌, ◌++◌, length, get_or, take, drop, replicate, slice_set, refl, sym, ap, subst, ◌∙◌, append_assoc, arith}
use Rattle.std.proofs.Math.Seq.{drop-cons}
use Rattle.std.proofs.lemmas.Bool.Decides.{nat_tests}
use Rattle.std.proofs.lemmas.List.{append-nil, take_all, drop_all}
use Rattle.std.specs.List.{flat_map}
use Rattle.byteorder.specs.Endian.{little_bytes}
use Rattle.ckrt_registers.specs.Registers.{Registers, put}
use Rattle.ckrt_tables.specs.Decoding.{Finds}
use Rattle.ckrt_tables.specs.Records.{registers_bytes}
use Rattle.ckrt_tables.specs.Savable.{is_word, fit_registers}
use Rattle.ckrt_tables.proofs.Distinct.{registers_fit, words_at}
use Rattle.ckrt_tables.proofs.Filled.{filled, filled_next, filled_same}
use Rattle.ckrt_tables.proofs.RowsRead.{fits_at}

-- the pc and the registers below k were read
abbrev pub HasRead : List ℕ → ℕ → Registers → List ℕ → Type 0
HasRead bytes k regs left =
    (r : Registers) (rest : List ℕ) → fit_registers r ≡ true → bytes ≡ registers_bytes r ++ rest
    → (regs ≡ record { pc = r.pc; x = filled 0 32 k r.x }) × (left ≡ flat_map (little_bytes 4) (drop k r.x) ++ rest)

pub reads_pc : (bytes : List ℕ) (pc : ℕ) (left : List ℕ) → Finds is_word (little_bytes 4) bytes pc left → HasRead bytes 1 (record { pc = pc; x = replicate 32 0 }) left
reads_pc bytes pc left word = λ r rest f e.
    let p = registers_fit r f in
    let words = words_at r.x 1 31 (let n = p.size in omega (arith, n)) in
    let w = word r.pc (flat_map (little_bytes 4) (drop 1 r.x) ++ rest) p.pc (e ∙ ap (λ l. little_bytes 4 r.pc ++ (l ++ rest)) words) in
    let x0 = filled_same 0 32 r.x 0 p.size (omega arith) p.first in
    (rw (w.0) (ap (λ x. record { pc = r.pc; x = x }) x0), w.1)

pub reads_next : (bytes : List ℕ) (k : ℕ) (regs : Registers) (left : List ℕ) (w : ℕ) (after : List ℕ) → 0 < k → k < 32 → HasRead bytes k regs left → Finds is_word (little_bytes 4) left w after
    → HasRead bytes (k + 1) (record { pc = regs.pc; x = put regs k w }) after
reads_next bytes k regs left w after pos lt so_far word = λ r rest f e.
    let p = registers_fit r f in
    let size = p.size in
    let h = so_far r rest f e in
    let within : k < length r.x = omega (arith, size, lt) in
    let step : k + 1 ≡ suc k = omega arith in
    let xk = get_or r.x k 0 in
    let split : drop k r.x ≡ xk ∷ drop (k + 1) r.x = drop-cons r.x k 0 within ∙ ap (λ j. xk ∷ drop j r.x) (sym step) in
    let here : left ≡ little_bytes 4 xk ++ (flat_map (little_bytes 4) (drop (k + 1) r.x) ++ rest) =
    h.1 ∙ ap (λ l. flat_map (little_bytes 4) l ++ rest) split ∙ append_assoc (little_bytes 4 xk) (flat_map (little_bytes 4) (drop (k + 1) r.x)) rest in
    let got = word xk (flat_map (little_bytes 4) (drop (k + 1) r.x) ++ rest) (fits_at is_word r.x k 0 p.words within) here in
    let not_first : (k == 0) ≡ false = grind (arith, nat_tests, pos) in
    let pcs : regs.pc ≡ r.pc = ap (λ (q : Registers). q.pc) h.0 in
    let xs : put regs k w ≡ filled 0 32 (k + 1) r.x =
    ap (λ (b : Bool). if b then regs.x else slice_set regs.x k w) not_first
    ∙ ap (λ (q : Registers). slice_set q.x k w) h.0
    ∙ ap (λ y. slice_set (filled 0 32 k r.x) k y) got.0
    ∙ filled_next 0 32 r.x k size lt in
    (same regs.pc (put regs k w) r.pc (filled 0 32 (k + 1) r.x) pcs xs, got.1)
  where
    same : (pc : ℕ) (x : List ℕ) (qc : ℕ) (y : List ℕ) → pc ≡ qc → x ≡ y → ◌≡◌ {A = Registers} (record { pc = pc; x = x }) (record { pc = qc; x = y })
    same pc x qc y e₁ e₂ = rw (e₁, e₂) refl

pub reads_all : (bytes : List ℕ) (k : ℕ) (regs : Registers) (left : List ℕ) → k ≡ 32 → HasRead bytes k regs left → Finds fit_registers registers_bytes bytes regs left
reads_all bytes k regs left done so_far = λ r rest f e.
    let size = (registers_fit r f).size in
    let h = subst (λ j. (regs ≡ record { pc = r.pc; x = filled 0 32 j r.x }) × (left ≡ flat_map (little_bytes 4) (drop j r.x) ++ rest)) done (so_far r rest f e) in
    let all : take 32 r.x ++ [] ≡ r.x = append-nil (take 32 r.x) ∙ whole r.x size in
    (h.0 ∙ ap (λ x. record { pc = r.pc; x = x }) all, h.1 ∙ ap (λ l. flat_map (little_bytes 4) l ++ rest) (none r.x size))
  where
    whole : (xs : List ℕ) → length xs ≡ 32 → take 32 xs ≡ xs
    whole xs e = take_all 32 xs (omega (arith, e))

    none : (xs : List ℕ) → length xs ≡ 32 → drop 32 xs ≡ []
    none xs e = drop_all 32 xs (omega (arith, e))

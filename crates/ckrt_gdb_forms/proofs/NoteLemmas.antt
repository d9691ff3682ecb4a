-- Notes of threads, and their sizes.
use Rattle.std.proofs.Common.{◌≡◌, ℕ, suc, ◌+◌, ◌*◌, Bool, true, false, if◌then◌else◌, List, [], ◌∷◌, ◌++◌, length, take, drop, replicate, Option, Some, None, refl, sym, ap, subst, ◌∙◌, length-append, arith}
use Rattle.std.proofs.lemmas.List.{append-nil, drop-take, length-drop}
use Rattle.std.proofs.lemmas.Grind.{flat_map-append}
use Rattle.std.specs.List.{flat_map}
use Rattle.std.specs.Io.KnownBytes.{Appends}
use Rattle.ckrt_registers.specs.Registers.{Registers, registers_of}
use Rattle.ckrt_thread.specs.declared.records.Thread.{Thread}
use Rattle.ckrt_thread.specs.Contents.{ThreadRow, rows_of, rows_from}
use Rattle.ckrt_thread.specs.State as threads
use Rattle.ckrt_calls.specs.declared.table.Status.{Status}
use Rattle.ckrt_gdb_forms.specs.Elf.{word, words}
use Rattle.ckrt_gdb_forms.specs.Notes.{general, has_faulted, note_head, notes_at, other_notes_of, prstatus, signal_of, thread_note}
use Rattle.ckrt_gdb_forms.proofs.AppendLemmas.{Completes, appends_both, appends_none, completes_more}

-- SIZES

pub length-words : (ns : List ℕ) → length (words ns) ≡ 4 * length ns
length-words [] = refl
length-words (n ∷ ns) = omega (arith, length-append (word n) (words ns), length-words ns)

pub length-prstatus : (signal id : ℕ) (r : Registers) → length r.x ≡ 32 → length (prstatus signal id r) ≡ 204
length-prstatus signal id r size =
    let head = words (signal ∷ 0 ∷ 0 ∷ signal ∷ 0 ∷ 0 ∷ id ∷ replicate 11 0) in
    let first : length (words (signal ∷ 0 ∷ 0 ∷ signal ∷ 0 ∷ 0 ∷ id ∷ replicate 11 0)) ≡ 72 = refl in
    let last : length (word 0) ≡ 4 = refl in
    let some : length (drop 1 r.x) ≡ 31 = length-drop 1 r.x ∙ omega (arith, size) in
    let middle : length (general r) ≡ 128 = length-words (r.pc ∷ drop 1 r.x) ∙ omega (arith, some) in
    omega (arith, length-append head (general r ++ word 0), length-append (general r) (word 0), first, middle, last)

pub size_of_note : (signal id : ℕ) (r : Registers) → length r.x ≡ 32 → 224 ≡ length (thread_note signal id r)
size_of_note signal id r size =
    let first : length (note_head 1 (length (prstatus signal id r))) ≡ 20 = refl in
    omega (arith, length-append (note_head 1 (length (prstatus signal id r))) (prstatus signal id r), first, length-prstatus signal id r size)

-- PARTS OF A NOTE

pub appends_registers : (r : Registers) (file : List ℕ) (a b c : Option (List ℕ)) → registers_of r.pc file ≡ r → Appends a b (words (r.pc ∷ [])) → Appends b c (words (take 31 (drop 1 file))) → Appends a c (general r)
appends_registers r file a b c is p q =
    let behind : drop 1 r.x ≡ take 31 (drop 1 file) = ap (λ (h : Registers). drop 1 h.x) (sym is) ∙ drop-take 1 31 file in
    subst (Appends a c) (sym (flat_map-append word (r.pc ∷ []) (take 31 (drop 1 file))) ∙ ap (λ ns. words (r.pc ∷ ns)) (sym behind))
    (appends_both a b c (words (r.pc ∷ [])) (words (take 31 (drop 1 file))) p q)

pub appends_note : (signal id : ℕ) (r : Registers) (a b c : Option (List ℕ)) → length r.x ≡ 32 → Appends a b (note_head 1 204) → Appends b c (prstatus signal id r) → Appends a c (thread_note signal id r)
appends_note signal id r a b c size p q =
    subst (λ n. Appends a c (note_head 1 n ++ prstatus signal id r)) (sym (length-prstatus signal id r size))
    (appends_both a b c (note_head 1 204) (prstatus signal id r) p q)

-- WHAT STANDS FOR AN ID

-- who faulted isn't among the others
pub faulted_row : (st : Status) (id : ℕ) (o : Option Thread) → has_faulted st id ≡ true → flat_map (other_notes_of st) (rows_of id o) ≡ []
faulted_row st id None e = refl
faulted_row st id (Some t) e = ap (λ (b : Bool). (if b then [] else notes_at (signal_of st) id (threads.regs_of (Some t))) ++ []) e

pub other_row : (st : Status) (id : ℕ) (o : Option Thread) → has_faulted st id ≡ false → flat_map (other_notes_of st) (rows_of id o) ≡ notes_at (signal_of st) id (threads.regs_of o)
other_row st id None e = refl
other_row st id (Some t) e = ap (λ (b : Bool). (if b then [] else notes_at (signal_of st) id (threads.regs_of (Some t))) ++ []) e ∙ append-nil (notes_at (signal_of st) id (threads.regs_of (Some t)))

-- what stands for an id, and what stands for those behind it
pub rows_behind : (f : ThreadRow → List ℕ) (id next : ℕ) (o : Option Thread) (more : List (Option Thread)) → next ≡ id + 1 → flat_map f (rows_from id (o ∷ more)) ≡ flat_map f (rows_of id o) ++ flat_map f (rows_from next more)
rows_behind f id next o more e =
    let on : suc id ≡ next = omega (arith, e) in
    flat_map-append f (rows_of id o) (rows_from (suc id) more) ∙ ap (λ n. flat_map f (rows_of id o) ++ flat_map f (rows_from n more)) on

-- who faulted isn't written among the others
pub appends_faulted : (st : Status) (id : ℕ) (o : Option Thread) (a : Option (List ℕ)) → has_faulted st id ≡ true → Appends a a (flat_map (other_notes_of st) (rows_of id o))
appends_faulted st id o a e = subst (Appends a a) (sym (faulted_row st id o e)) (appends_none a)

pub appends_other : (st : Status) (id : ℕ) (o : Option Thread) (a b : Option (List ℕ)) → has_faulted st id ≡ false → Appends a b (notes_at (signal_of st) id (threads.regs_of o)) → Appends a b (flat_map (other_notes_of st) (rows_of id o))
appends_other st id o a b e p = subst (Appends a b) (sym (other_row st id o e)) p

pub size_of_faulted : (st : Status) (id : ℕ) (o : Option Thread) → has_faulted st id ≡ true → 0 ≡ length (flat_map (other_notes_of st) (rows_of id o))
size_of_faulted st id o e = sym (ap length (faulted_row st id o e))

pub size_of_other : (st : Status) (id n : ℕ) (o : Option Thread) → has_faulted st id ≡ false → n ≡ length (notes_at (signal_of st) id (threads.regs_of o)) → n ≡ length (flat_map (other_notes_of st) (rows_of id o))
size_of_other st id n o e size = size ∙ ap length (sym (other_row st id o e))

-- one more of what stands for the ids
pub others_more : (f : ThreadRow → List ℕ) (id next : ℕ) (o : Option Thread) (more : List (Option Thread)) (a b c : Option (List ℕ)) (all : List ℕ) → next ≡ id + 1 → Completes a b (flat_map f (rows_from id (o ∷ more))) all → Appends b c (flat_map f (rows_of id o)) → Completes a c (flat_map f (rows_from next more)) all
others_more f id next o more a b c all e so_far p =
    completes_more a b c (flat_map f (rows_of id o)) (flat_map f (rows_from next more)) all (subst (λ l. Completes a b l all) (rows_behind f id next o more e) so_far) p

-- and its size
pub sizes_more : (f : ThreadRow → List ℕ) (id next : ℕ) (o : Option Thread) (more : List (Option Thread)) → next ≡ id + 1 → length (flat_map f (rows_from id (o ∷ more))) ≡ length (flat_map f (rows_of id o)) + length (flat_map f (rows_from next more))
sizes_more f id next o more e = ap length (rows_behind f id next o more e) ∙ length-append (flat_map f (rows_of id o)) (flat_map f (rows_from next more))

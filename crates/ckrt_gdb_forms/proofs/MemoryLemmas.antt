-- A memory, page by page, and a core with it.
use Rattle.std.proofs.Common.{◌≡◌, ℕ, ◌+◌, ◌-◌, ◌*◌, ◌≤◌, List, ◌++◌, length, take, sym, ap, subst, ◌∙◌, Option, arith}
use Rattle.std.proofs.Math.Seq.{take-add}
use Rattle.std.proofs.lemmas.List.{take_all}
use Rattle.std.specs.Io.KnownBytes.{Appends, Keeps}
use Rattle.ckrt_memory.specs.Pages.{page_of}
use Rattle.ckrt_calls.specs.declared.table.Tables.{Tables}
use Rattle.ckrt_machine.specs.Steps.{State}
use Rattle.ckrt_gdb_forms.specs.Notes.{all_notes}
use Rattle.ckrt_gdb_forms.specs.Core.{core_of, core_with, headers}
use Rattle.ckrt_gdb_forms.proofs.AppendLemmas.{appends_both, appends_kept}

-- one page more
pub pages_more : (bytes : List ℕ) (page : ℕ) → 1 ≤ page → take (4096 * (page + 1 - 1)) bytes ≡ take (4096 * (page - 1)) bytes ++ page_of bytes page
pages_more bytes page from =
    let next : 4096 * (page + 1 - 1) ≡ 4096 * (page - 1) + 4096 = omega (arith, from) in
    ap (λ n. take n bytes) next ∙ take-add (4096 * (page - 1)) 4096 bytes

pub appends_page : (bytes : List ℕ) (page : ℕ) (a b c : Option (List ℕ)) → 1 ≤ page → Appends a b (take (4096 * (page - 1)) bytes) → Appends b c (page_of bytes page) → Appends a c (take (4096 * (page + 1 - 1)) bytes)
appends_page bytes page a b c from p q =
    subst (Appends a c) (sym (pages_more bytes page from)) (appends_both a b c (take (4096 * (page - 1)) bytes) (page_of bytes page) p q)

-- all pages
pub appends_pages : (bytes : List ℕ) (pages : ℕ) (a b : Option (List ℕ)) → length bytes ≤ 4096 * (pages - 1) → Appends a b (take (4096 * (pages - 1)) bytes) → Appends a b bytes
appends_pages bytes pages a b size p = subst (Appends a b) (take_all (4096 * (pages - 1)) bytes size) p

-- headers of these sizes, the notes, the memory, and a flush
appends_parts : (notes bytes : List ℕ) (n m : ℕ) (a b c d e : Option (List ℕ)) → n ≡ length notes → m ≡ length bytes → Appends a b (headers n m) → Appends b c notes → Appends c d bytes → Keeps d e → Appends a e (core_with notes bytes)
appends_parts notes bytes n m a b c d e sized measured p q r k =
    let all : Appends a b (headers (length notes) (length bytes)) = subst (λ i. Appends a b (headers (length notes) i)) measured (subst (λ i. Appends a b (headers i m)) sized p) in
    appends_kept a d e (core_with notes bytes) (appends_both a b d (headers (length notes) (length bytes)) (notes ++ bytes) all (appends_both b c d notes bytes q r)) k

pub appends_core : (s : State) (t : Tables) (bytes : List ℕ) (n m : ℕ) (a b c d e : Option (List ℕ)) → t ≡ s.tables → bytes ≡ s.bytes → n ≡ length (all_notes t) → m ≡ length bytes → Appends a b (headers n m) → Appends b c (all_notes t) → Appends c d bytes → Keeps d e → Appends a e (core_of s)
appends_core s t bytes n m a b c d e of from sized measured p q r k =
    subst (λ l. Appends a e (core_with (all_notes s.tables) l)) from
    (subst (λ z. Appends a e (core_with (all_notes z) bytes)) of (appends_parts (all_notes t) bytes n m a b c d e sized measured p q r k))

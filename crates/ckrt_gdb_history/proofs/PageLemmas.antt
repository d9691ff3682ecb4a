-- The bytes of a memory, page by page.
use Rattle.std.proofs.Common.{◌≡◌, ℕ, ◌+◌, ◌-◌, ◌*◌, ◌≤◌, ◌++◌, List, take, drop, sym, ap, ◌∙◌, arith, take-add}
use Rattle.std.proofs.lemmas.List.{take-append-drop}
use Rattle.ckrt_memory.specs.Pages.{page_of, with_page}

-- a page that is put where it is changes nothing
pub page_again : (bytes : List ℕ) (p : ℕ) → 1 ≤ p → with_page bytes p (page_of bytes p) ≡ bytes
page_again bytes p some =
    let a = 4096 * (p - 1) in
    let behind : 4096 * p ≡ a + 4096 = omega (arith, some) in
    ap (λ (l : List ℕ). l ++ drop (4096 * p) bytes) (sym (take-add a 4096 bytes)) ∙ ap (λ n. take (a + 4096) bytes ++ drop n bytes) behind ∙ take-append-drop (a + 4096) bytes

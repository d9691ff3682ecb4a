-- Pages that stand in slots.
use Rattle.std.proofs.Common.{◌≡◌, ℕ, zero, suc, ◌+◌, ◌-◌, ◌*◌, ◌<◌, ◌≤◌, true, false, List, [], ◌∷◌, ◌++◌, take, drop, replicate, length, vec_capacity, get_or, slice_set, inl, inr, refl, sym, ap, ◌∙◌, subst, arith}
use Rattle.std.proofs.lemmas.Bool.{cases_lt, true≢false}
use Rattle.std.proofs.lemmas.List.{drop-drop, get_or_past, length-append, length-drop, take-append-drop}
use Rattle.ckrt_memory.specs.Pages.{page_of}
use Rattle.ckrt_gdb_history.specs.declared.pool.PagePool.{PagePool}
use Rattle.ckrt_gdb_history.specs.Pool.{AreNamed, AreSlots, HasSamePages, IsPool, Keeps, gathered, is_named, page_in}

-- A SLOT

below_marks : (p : PagePool) (n : ℕ) → is_named p n ≡ true → n < length p.named.items
below_marks p n named = elim (cases_lt n (length p.named.items)) [
  | inl less ↦ less
  | inr past ↦ absurd (true≢false (sym named ∙ get_or_past p.named.items n false past))
]

pub below : (p : PagePool) (n : ℕ) → IsPool p → is_named p n ≡ true → n < length p.slots.items
below p n is named = (let less = below_marks p n named in let marks = is.marks in omega (arith, less, marks))

-- SLOTS OF A MEMORY

pub named_in : (p : PagePool) (ns : List ℕ) (i : ℕ) → AreNamed p ns → i < length ns → is_named p (get_or ns i 0) ≡ true
named_in p [] i are less = absurd (omega (arith, less))
named_in p (n ∷ ns) zero are less = are.0
named_in p (n ∷ ns) (suc i) are less = named_in p ns i are.1 (omega (arith, less))

pub named_from : (p : PagePool) (ns : List ℕ) → ((i : ℕ) → i < length ns → is_named p (get_or ns i 0) ≡ true) → AreNamed p ns
named_from p [] each = tt
named_from p (n ∷ ns) each = (each 0 (omega arith), named_from p ns (λ i less. each (suc i) (omega (arith, less))))

pub named_set : (p : PagePool) (ns : List ℕ) (i n : ℕ) → AreNamed p ns → is_named p n ≡ true → AreNamed p (slice_set ns i n)
named_set p [] i n are is = tt
named_set p (x ∷ ns) zero n are is = (is, are.1)
named_set p (x ∷ ns) (suc i) n are is = (are.0, named_set p ns i n are.1 is)

pub named_replicate : (p : PagePool) (n count : ℕ) → is_named p n ≡ true → AreNamed p (replicate count n)
named_replicate p n zero is = tt
named_replicate p n (suc count) is = (is, named_replicate p n count is)

pub slots_of : (p : PagePool) (ns : List ℕ) → AreNamed p ns → AreSlots p ns
slots_of p ns are = λ i less. below_marks p (get_or ns i 0) (named_in p ns i are less)

pub gathered_size : (p : PagePool) (ns : List ℕ) → IsPool p → AreNamed p ns → length (gathered p ns) ≡ 4096 * length ns
gathered_size p [] is are = refl
gathered_size p (n ∷ ns) is are =
    let both = length-append (page_in p n) (gathered p ns) in
    let page = is.whole n (below p n is are.0) in
    let rest = gathered_size p ns is are.1 in
    omega (arith, both, page, rest)

none_of : (bytes : List ℕ) → length bytes ≡ 0 → [] ≡ bytes
none_of [] none = refl
none_of (b ∷ bytes) none = absurd (omega (arith, none))

-- a memory has the pages that stand in its slots
pub gathered_is : (p : PagePool) (ns bytes : List ℕ) → length bytes ≡ 4096 * length ns
    → ((q : ℕ) → 1 ≤ q → q ≤ length ns → page_in p (get_or ns (q - 1) 0) ≡ page_of bytes q) → gathered p ns ≡ bytes
gathered_is p [] bytes size same = none_of bytes (omega (arith, size))
gathered_is p (n ∷ ns) bytes size same =
    let rest = length-drop 4096 bytes in
    let first : page_in p n ≡ take 4096 bytes = same 1 (omega arith) (omega arith) in
    let more : gathered p ns ≡ drop 4096 bytes = gathered_is p ns (drop 4096 bytes) (omega (arith, rest, size)) (λ q some most.
    let back : q + 1 - 1 ≡ suc (q - 1) = omega (arith, some) in
    let at : 4096 * (q + 1 - 1) ≡ 4096 + 4096 * (q - 1) = omega (arith, some) in
    ap (λ i. page_in p (get_or (n ∷ ns) i 0)) (sym back)
    ∙ same (q + 1) (omega arith) (omega (arith, most))
    ∙ ap (λ k. take 4096 (drop k bytes)) at
    ∙ ap (take 4096) (sym (drop-drop (4096 * (q - 1)) 4096 bytes))) in
    ap (λ l. l ++ gathered p ns) first ∙ ap (λ l. take 4096 bytes ++ l) more ∙ take-append-drop 4096 bytes

-- WHAT IS KEPT

pub keeps_all : (p : PagePool) → Keeps p p
keeps_all p = record { named = λ n is. is; page = λ n is. refl }

pub keeps_more : (p q r : PagePool) → Keeps p q → Keeps q r → Keeps p r
keeps_more p q r one two = record {
  named = λ n is. two.named n (one.named n is);
  page = λ n is. two.page n (one.named n is) ∙ one.page n is;
}

pub named_kept : (p q : PagePool) (ns : List ℕ) → Keeps p q → AreNamed p ns → AreNamed q ns
named_kept p q [] keeps are = tt
named_kept p q (n ∷ ns) keeps are = (keeps.named n are.0, named_kept p q ns keeps are.1)

pub gathered_kept : (p q : PagePool) (ns : List ℕ) → Keeps p q → AreNamed p ns → gathered q ns ≡ gathered p ns
gathered_kept p q [] keeps are = refl
gathered_kept p q (n ∷ ns) keeps are = ap (λ l. l ++ gathered q ns) (keeps.page n are.0) ∙ ap (λ l. page_in p n ++ l) (gathered_kept p q ns keeps are.1)

-- the pages are the same where no page was put
pub gathered_same : (p q : PagePool) (ns : List ℕ) → HasSamePages p q → gathered q ns ≡ gathered p ns
gathered_same p q [] same = refl
gathered_same p q (n ∷ ns) same =
    ap (λ (s : _). get_or s.items n [] ++ gathered q ns) same.slots ∙ ap (λ l. page_in p n ++ l) (gathered_same p q ns same)

pub same_more : (p q r : PagePool) → HasSamePages p q → HasSamePages q r → HasSamePages p r
same_more p q r one two = record { slots = two.slots ∙ one.slots; marks = two.marks ∙ one.marks; room = two.room ∙ one.room }

pub pool_same : (p q : PagePool) → HasSamePages p q → IsPool p → IsPool q
pool_same p q same is = record {
  marks = same.marks ∙ is.marks ∙ ap (λ (s : _). length s.items) (sym same.slots);
  room = same.room ∙ is.room ∙ ap vec_capacity (sym same.slots);
  few = subst (λ (s : _). vec_capacity s ≤ 4294967296) (sym same.slots) is.few;
  whole = subst (λ (s : _). (n : ℕ) → n < length s.items → length (get_or s.items n []) ≡ 4096) (sym same.slots) is.whole;
}

-- slots of one are slots of the other
pub slots_same : (p q : PagePool) (ns : List ℕ) → HasSamePages p q → AreSlots p ns → AreSlots q ns
slots_same p q ns same are = λ i less. (let below = are i less in let marks = same.marks in omega (arith, below, marks))

pub named_more : (p q : PagePool) (ns : List ℕ) → ((n : ℕ) → is_named p n ≡ true → is_named q n ≡ true) → AreNamed p ns → AreNamed q ns
named_more p q [] more are = tt
named_more p q (n ∷ ns) more are = (more n are.0, named_more p q ns more are.1)

-- Mutexes that go behind the others of a table, and each beginning of a table.
use Rattle.std.proofs.Common.{◌≡◌, true, false, not, List, [], ◌∷◌, ◌++◌, length, ap, subst, ◌∙◌, arith}
use Rattle.std.proofs.lemmas.Bool.Decides.{nat_tests}
use Rattle.std.proofs.lemmas.List.Folds.{list_all-append}
use Rattle.ckrt_objects.specs.declared.address_map.Entry.{Entry}
use Rattle.ckrt_objects.specs.AddressMap.{is_rising}
use Rattle.ckrt_objects.specs.Appended.{with_last, IsTableUpTo, Appends}
use Rattle.ckrt_objects.proofs.Appended.{appends, rising_beginning, all_beginning, size_beginning}
use Rattle.ckrt_objects.proofs.Parts.{length_part, last_part}
use Rattle.ckrt_mutex.specs.declared.records.Mutex.{Mutex}
use Rattle.ckrt_mutex.specs.Mutex.{is_plain, is_proper, is_kept, kept, AreEntries, IsTable}
use Rattle.ckrt_mutex.proofs.Kept.{kept_twice, entries_kept, table_kept}

pub table_beginning : (xs ys : List (Entry Mutex)) → IsTableUpTo 256 IsTable (xs ++ ys) → IsTableUpTo 256 IsTable xs
table_beginning xs ys t = record {
  table = record {
    rising = rising_beginning xs ys t.table.rising;
    canonical = all_beginning (λ e. not (is_plain e.value)) xs ys t.table.canonical;
    proper = all_beginning (λ e. is_proper e.value) xs ys t.table.proper;
  };
  size = size_beginning 256 xs ys t.size;
}

-- ENTRIES of which some are of free normal mutexes

pub entries_last : (e : Entry Mutex) (es : List (Entry Mutex)) → AreEntries es → is_proper e.value ≡ true → is_rising (with_last e es) ≡ true → AreEntries (with_last e es)
entries_last e es h p r = record {
  rising = r;
  proper = (let a = list_all-append (λ x. is_proper x.value) es (e ∷ []) in let k = h.proper in grind (arith, nat_tests, a, k, p));
}

kept_last : (e : Entry Mutex) (es : List (Entry Mutex)) → is_plain e.value ≡ false → kept (with_last e es) ≡ with_last e (kept es)
kept_last e es n = last_part is_kept e es (ap not n)

pub appends_first : (e : Entry Mutex) (es new : List (Entry Mutex)) → AreEntries es → is_plain e.value ≡ false → is_proper e.value ≡ true → IsTableUpTo 256 (λ ns. is_rising ns ≡ true) (with_last e es)
    → new ≡ with_last e es → Appends (IsTableUpTo 256 IsTable) e (kept es) (kept new) true
appends_first e es new h n p t i =
    let k = kept_last e es n in
    appends (IsTableUpTo 256 IsTable) e (kept es) (kept new) (rw i k)
    (record {
      table = subst IsTable k (table_kept (with_last e es) (entries_last e es h p t.table));
      size = (let l = length_part is_kept (with_last e es) in let m = ap length k in let u = t.size in omega (arith, l, m, u));
    })

-- the same where the entries of free normal mutexes had to go
pub appends_second : (e : Entry Mutex) (es left new : List (Entry Mutex)) → AreEntries es → left ≡ kept es → is_plain e.value ≡ false → is_proper e.value ≡ true
    → IsTableUpTo 256 (λ ns. is_rising ns ≡ true) (with_last e left) → new ≡ with_last e left → Appends (IsTableUpTo 256 IsTable) e (kept es) (kept new) true
appends_second e es left new h l n p t i =
    let there : AreEntries left = rw l (entries_kept es h) in
    let same : kept left ≡ kept es = ap kept l ∙ kept_twice es in
    subst (λ ms. Appends (IsTableUpTo 256 IsTable) e ms (kept new) true) same (appends_first e left new there n p t i)

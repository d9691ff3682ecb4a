-- An error that is noted.
use Rattle.std.proofs.Common.{◌≡◌, ◌≤◌, ◌<◌, ℕ, nat_lt, true, false, List, [], ◌∷◌, ◌++◌, length, sym, ap, ◌∙◌, arith}
use Rattle.std.proofs.lemmas.Bool.Decides.{nat_tests}
use Rattle.std.specs.List.{list_any}
use Rattle.ckrt_look_values.specs.declared.value.Use.{Use}
use Rattle.ckrt_look_values.specs.declared.finding.Finding.{Finding}
use Rattle.ckrt_look_values.specs.declared.finding.TheConstants.{FINDINGS}
use Rattle.ckrt_look_values.specs.Values.{Found, counted, first_one, is_at, noted, with_row}
use Rattle.ckrt_look_heap.specs.Shadow.{one_more}
use Rattle.ckrt_look_heap.proofs.ListLemmas.{chosen, passed_over}
use Rattle.ckrt_look_values.proofs.ListLemmas.{counted_none}

-- where its place has a row
pub noted_again : (a : Use) (f : Found) (new : List Finding) → list_any (is_at a) f.rows ≡ true → new ≡ counted a f.rows → record { rows = new; others = f.others } ≡ noted a f
noted_again a f new is same =
    ap (λ l. record { rows = l; others = f.others }) same
    ∙ sym (chosen (list_any (is_at a) f.rows) (record f { rows = counted a f.rows }) (with_row a f) is)

-- where it has none, and one is left
pub noted_first : (a : Use) (f : Found) (now new : List Finding) → list_any (is_at a) f.rows ≡ false → now ≡ counted a f.rows → length now < FINDINGS → new ≡ now ++ first_one a ∷ []
    → record { rows = new; others = f.others } ≡ noted a f
noted_first a f now new none same less is =
    let as_it_was : now ≡ f.rows = same ∙ counted_none a f.rows none in
    let is_less : nat_lt (length f.rows) FINDINGS ≡ true = grind (arith, nat_tests, ap length as_it_was, less) in
    ap (λ l. record { rows = l; others = f.others }) (is ∙ ap (λ l. l ++ first_one a ∷ []) as_it_was)
    ∙ sym (chosen (nat_lt (length f.rows) FINDINGS) (record f { rows = f.rows ++ first_one a ∷ [] }) (record f { others = one_more f.others }) is_less)
    ∙ sym (passed_over (list_any (is_at a) f.rows) (record f { rows = counted a f.rows }) (with_row a f) none)

-- and where none is left
pub noted_full : (a : Use) (f : Found) (now : List Finding) (n : ℕ) → list_any (is_at a) f.rows ≡ false → now ≡ counted a f.rows → FINDINGS ≤ length now → n ≡ one_more f.others
    → record { rows = now; others = n } ≡ noted a f
noted_full a f now n none same all is =
    let as_it_was : now ≡ f.rows = same ∙ counted_none a f.rows none in
    let is_full : nat_lt (length f.rows) FINDINGS ≡ false = grind (arith, nat_tests, ap length as_it_was, all) in
    ap (λ l. record { rows = l; others = n }) as_it_was ∙ ap (λ m. record { rows = f.rows; others = m }) is
    ∙ sym (passed_over (nat_lt (length f.rows) FINDINGS) (record f { rows = f.rows ++ first_one a ∷ [] }) (record f { others = one_more f.others }) is_full)
    ∙ sym (passed_over (list_any (is_at a) f.rows) (record f { rows = counted a f.rows }) (with_row a f) none)

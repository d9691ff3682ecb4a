-- An error that is noted.
use Rattle.std.proofs.Common.{◌≡◌, ◌≤◌, ◌<◌, ℕ, nat_lt, true, false, List, [], ◌∷◌, ◌++◌, length, sym, ap, ◌∙◌, arith}
use Rattle.std.proofs.lemmas.Bool.Decides.{nat_tests}
use Rattle.std.specs.List.{list_any}
use Rattle.ckrt_look_heap.specs.declared.block.Access.{Access}
use Rattle.ckrt_look_heap.specs.declared.block.Cell.{Cell}
use Rattle.ckrt_look_heap.specs.declared.finding.Finding.{Finding}
use Rattle.ckrt_look_heap.specs.declared.finding.TheConstants.{FINDINGS}
use Rattle.ckrt_look_heap.specs.Shadow.{Found, counted, first_one, is_at, noted, one_more, with_row}
use Rattle.ckrt_look_heap.proofs.ListLemmas.{chosen, counted_none, passed_over}

-- where its place has a row
pub noted_again : (a : Access) (b : Cell) (f : Found) (new : List Finding) → list_any (is_at a b) f.rows ≡ true → new ≡ counted a b f.rows → record { rows = new; others = f.others } ≡ noted a b f
noted_again a b f new is same =
    ap (λ l. record { rows = l; others = f.others }) same
    ∙ sym (chosen (list_any (is_at a b) f.rows) (record f { rows = counted a b f.rows }) (with_row a b f) is)

-- where it has none, and one is left
pub noted_first : (a : Access) (b : Cell) (f : Found) (now new : List Finding) → list_any (is_at a b) f.rows ≡ false → now ≡ counted a b f.rows → length now < FINDINGS → new ≡ now ++ first_one a b ∷ []
    → record { rows = new; others = f.others } ≡ noted a b f
noted_first a b f now new none same less is =
    let as_it_was : now ≡ f.rows = same ∙ counted_none a b f.rows none in
    let is_less : nat_lt (length f.rows) FINDINGS ≡ true = grind (arith, nat_tests, ap length as_it_was, less) in
    ap (λ l. record { rows = l; others = f.others }) (is ∙ ap (λ l. l ++ first_one a b ∷ []) as_it_was)
    ∙ sym (chosen (nat_lt (length f.rows) FINDINGS) (record f { rows = f.rows ++ first_one a b ∷ [] }) (record f { others = one_more f.others }) is_less)
    ∙ sym (passed_over (list_any (is_at a b) f.rows) (record f { rows = counted a b f.rows }) (with_row a b f) none)

-- and where none is left
pub noted_full : (a : Access) (b : Cell) (f : Found) (now : List Finding) (n : ℕ) → list_any (is_at a b) f.rows ≡ false → now ≡ counted a b f.rows → FINDINGS ≤ length now → n ≡ one_more f.others
    → record { rows = now; others = n } ≡ noted a b f
noted_full a b f now n none same all is =
    let as_it_was : now ≡ f.rows = same ∙ counted_none a b f.rows none in
    let is_full : nat_lt (length f.rows) FINDINGS ≡ false = grind (arith, nat_tests, ap length as_it_was, all) in
    ap (λ l. record { rows = l; others = n }) as_it_was ∙ ap (λ m. record { rows = f.rows; others = m }) is
    ∙ sym (passed_over (nat_lt (length f.rows) FINDINGS) (record f { rows = f.rows ++ first_one a b ∷ [] }) (record f { others = one_more f.others }) is_full)
    ∙ sym (passed_over (list_any (is_at a b) f.rows) (record f { rows = counted a b f.rows }) (with_row a b f) none)

-- Rows in order, and one more.
use Rattle.std.proofs.Common.{◌≤◌, ℕ, List, [], ◌∷◌, ◌++◌, get_or, arith, All}
use Rattle.std.proofs.lemmas.List.Elements.{All-get_or, All-push, All-weaker}
use Rattle.std.proofs.lemmas.List.Quantifiers.{all_pairs_push}
use Rattle.ckrt_cli_names.specs.declared.rows.Row.{Row}
use Rattle.ckrt_cli_names.specs.Rows.{IsInOrder}

-- all end at most there
abbrev pub EndBy : ℕ → List Row → Type 0
EndBy last rows = All (λ r. r.end ≤ last) rows

pub order_more : (rows : List Row) (row : Row) (last : ℕ) → IsInOrder rows → EndBy last rows → last ≤ row.begin → IsInOrder (rows ++ row ∷ [])
order_more rows row last order ends begins =
    all_pairs_push (λ x y. x.end ≤ y.begin) rows row order (λ k d below. let ended : (get_or rows k d).end ≤ last = All-get_or (λ r. r.end ≤ last) rows k d below ends in omega arith)

pub ends_more : (rows : List Row) (row : Row) (last : ℕ) → EndBy last rows → last ≤ row.begin → row.begin ≤ row.end → EndBy row.end (rows ++ row ∷ [])
ends_more rows row last ends begins rises =
    All-push (λ r. r.end ≤ row.end) rows row (All-weaker (λ r. r.end ≤ last) (λ r. r.end ≤ row.end) (λ r ended. omega arith) rows ends) (omega arith)

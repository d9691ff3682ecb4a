-- A race that is noted.
use Rattle.std.proofs.Common.{◌≡◌, ◌≤◌, ◌<◌, ℕ, nat_lt, true, false, List, [], ◌∷◌, ◌++◌, length, Option, sym, ap, ◌∙◌, arith}
use Rattle.std.proofs.lemmas.Bool.Decides.{nat_tests}
use Rattle.std.specs.List.{list_any}
use Rattle.ckrt_look_clocks.specs.declared.operation.Access.{Access}
use Rattle.ckrt_look_clocks.specs.declared.operation.Block.{Block}
use Rattle.ckrt_look_clocks.specs.declared.pair.Pair.{Pair}
use Rattle.ckrt_look_clocks.specs.declared.pair.TheConstants.{PAIRS}
use Rattle.ckrt_look_clocks.specs.Detection.{Found, counted, first_pair, is_at, noted, one_more, with_pair}
use Rattle.ckrt_look_clocks.proofs.ListLemmas.{chosen, counted_none, passed_over}

-- where its places have a row
pub noted_again : (block : Option Block) (a b : Access) (f : Found) (new : List Pair) → list_any (is_at a b) f.pairs ≡ true → new ≡ counted a b f.pairs → record { pairs = new; others = f.others } ≡ noted block a b f
noted_again block a b f new is same =
    ap (λ l. record { pairs = l; others = f.others }) same
    ∙ sym (chosen (list_any (is_at a b) f.pairs) (record f { pairs = counted a b f.pairs }) (with_pair block a b f) is)

-- where they have none, and one is left
pub noted_first : (block : Option Block) (a b : Access) (f : Found) (now new : List Pair) → list_any (is_at a b) f.pairs ≡ false → now ≡ counted a b f.pairs → length now < PAIRS → new ≡ now ++ first_pair block a b ∷ []
    → record { pairs = new; others = f.others } ≡ noted block a b f
noted_first block a b f now new none same less is =
    let as_it_was : now ≡ f.pairs = same ∙ counted_none a b f.pairs none in
    let is_less : nat_lt (length f.pairs) PAIRS ≡ true = grind (arith, nat_tests, ap length as_it_was, less) in
    ap (λ l. record { pairs = l; others = f.others }) (is ∙ ap (λ l. l ++ first_pair block a b ∷ []) as_it_was)
    ∙ sym (chosen (nat_lt (length f.pairs) PAIRS) (record f { pairs = f.pairs ++ first_pair block a b ∷ [] }) (record f { others = one_more f.others }) is_less)
    ∙ sym (passed_over (list_any (is_at a b) f.pairs) (record f { pairs = counted a b f.pairs }) (with_pair block a b f) none)

-- and where none is left
pub noted_full : (block : Option Block) (a b : Access) (f : Found) (now : List Pair) (n : ℕ) → list_any (is_at a b) f.pairs ≡ false → now ≡ counted a b f.pairs → PAIRS ≤ length now → n ≡ one_more f.others
    → record { pairs = now; others = n } ≡ noted block a b f
noted_full block a b f now n none same all is =
    let as_it_was : now ≡ f.pairs = same ∙ counted_none a b f.pairs none in
    let is_full : nat_lt (length f.pairs) PAIRS ≡ false = grind (arith, nat_tests, ap length as_it_was, all) in
    ap (λ l. record { pairs = l; others = n }) as_it_was ∙ ap (λ m. record { pairs = f.pairs; others = m }) is
    ∙ sym (passed_over (nat_lt (length f.pairs) PAIRS) (record f { pairs = f.pairs ++ first_pair block a b ∷ [] }) (record f { others = one_more f.others }) is_full)
    ∙ sym (passed_over (list_any (is_at a b) f.pairs) (record f { pairs = counted a b f.pairs }) (with_pair block a b f) none)

-- Operations that are noted one behind another.
use Rattle.std.proofs.Common.{◌≡◌, ◌≤◌, ◌<◌, ℕ, ◌+◌, Bool, true, false, List, [], ◌∷◌, ◌++◌, length, take, get_or, refl, sym, ap, ◌∙◌, true≢false}
use Rattle.std.proofs.lemmas.List.{append-nil, take_all, take_more}
use Rattle.std.proofs.lemmas.Grind.{flat_map-append}
use Rattle.std.specs.List.{flat_map}
use Rattle.ckrt_look_clocks.specs.declared.operation.Operation.{Operation}
use Rattle.ckrt_look_clocks.specs.Within.{Detected, is_full, noted_all, noted_one}
use Rattle.ckrt_look_clocks.proofs.WithinLemmas.{open_all}

-- two pieces
pub behind_both : (xs ys : List Operation) (w : Detected) → noted_all (xs ++ ys) w ≡ noted_all ys (noted_all xs w)
behind_both [] ys w = refl
behind_both (x ∷ xs) ys w = behind_both xs ys (noted_one x w)

-- one piece more of a list of them
pub behind_more : {X : Type 0} (each : X → List Operation) (xs : List X) (i : ℕ) (d : X) (w : Detected) → i < length xs
    → noted_all (flat_map each (take (i + 1) xs)) w ≡ noted_all (each (get_or xs i d)) (noted_all (flat_map each (take i xs)) w)
behind_more each xs i d w lt =
    let x = get_or xs i d in
    let one : flat_map each (take i xs ++ x ∷ []) ≡ flat_map each (take i xs) ++ each x =
    flat_map-append each (take i xs) (x ∷ []) ∙ ap (λ l. flat_map each (take i xs) ++ l) (append-nil (each x)) in
    ap (λ l. noted_all (flat_map each l) w) (take_more xs i d lt) ∙ ap (λ l. noted_all l w) one ∙ behind_both (flat_map each (take i xs)) (each x) w

-- all pieces
pub behind_each : {X : Type 0} (each : X → List Operation) (xs : List X) (i : ℕ) (w : Detected) → length xs ≤ i → noted_all (flat_map each (take i xs)) w ≡ noted_all (flat_map each xs) w
behind_each each xs i w le = ap (λ l. noted_all (flat_map each l) w) (take_all i xs le)

-- the loop over them goes on
pub behind_on : {X : Type 0} (each : X → List Operation) (xs : List X) (i : ℕ) (d : X) (w now new : Detected) → i < length xs → now ≡ noted_all (flat_map each (take i xs)) w
    → new ≡ noted_all (each (get_or xs i d)) now → new ≡ noted_all (flat_map each (take (i + 1) xs)) w
behind_on each xs i d w now new lt so_far is = is ∙ ap (λ (v : Detected). noted_all (each (get_or xs i d)) v) so_far ∙ sym (behind_more each xs i d w lt)

-- a room that is used up stays so
pub full_stays : (os : List Operation) (d : Detected) → is_full d ≡ true → is_full (noted_all os d) ≡ true
full_stays os d full = go (is_full (noted_all os d)) refl
  where
    go : (t : Bool) → is_full (noted_all os d) ≡ t → is_full (noted_all os d) ≡ true
    go true e = e
    go false e = absurd (true≢false (sym full ∙ open_all os d e))

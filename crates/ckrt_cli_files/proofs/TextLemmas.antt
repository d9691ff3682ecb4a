-- Texts that were pushed, one after another.
use Rattle.std.proofs.Common.{◌≡◌, ◌∙◌, ℕ, zero, suc, ◌+◌, ◌<◌, ◌≤◌, List, [], ◌∷◌, ◌++◌, Bor, drop, length, map, refl, sym, ap, arith, append_assoc, append-nil, add-one, get_or, length-append, ◌*◌, ◌-◌, subst, false, nat_lt}
use Rattle.std.proofs.Math.Seq.{drop-cons}
use Rattle.std.proofs.lemmas.List.{length-map}
use Rattle.std.proofs.lemmas.Bool.Decides.{nat_tests}
use Rattle.ckrt_disk.specs.Disk.{IsOverwritten}
use Rattle.ckrt_cli_files.specs.ImageWords.{MOST, record_of, texts}

-- those of the words from a place on
abbrev pub from : ℕ → List (Bor (List ℕ)) → List ℕ
from i ws = texts (map (λ s. s.now) (drop i ws))

-- behind the last word there are none
pub none_left : (ws : List (Bor (List ℕ))) (i : ℕ) → length ws ≤ i → from i ws ≡ []
none_left [] zero e = refl
none_left [] (suc i) e = refl
none_left (w ∷ ws) zero e = absurd (omega (arith, e))
none_left (w ∷ ws) (suc i) e = none_left ws i (omega (arith, e))

pub all_pushed : (ws : List (Bor (List ℕ))) (i : ℕ) (now all : List ℕ) → length ws ≤ i
    → now ++ from i ws ≡ all → now ≡ all
all_pushed ws i now all e so =
    sym (append-nil now) ∙ ap (λ l. now ++ l) (sym (none_left ws i e)) ∙ so

module _ (ws : List (Bor (List ℕ))) (i : ℕ) (d : Bor (List ℕ)) (now new all : List ℕ) (less : i < length ws)
    (more : new ≡ now ++ ((get_or ws i d).now ++ (0 ∷ []))) where
  ahead : from i ws ≡ (get_or ws i d).now ++ (0 ∷ from (i + 1) ws)
  ahead =
      ap (λ (l : List (Bor (List ℕ))). texts (map (λ s. s.now) l)) (drop-cons ws i d less)
      ∙ ap (λ j. (get_or ws i d).now ++ (0 ∷ from j ws)) (sym (add-one i))

  pub one_more : now ++ from i ws ≡ all → new ++ from (i + 1) ws ≡ all
  one_more so =
      ap (λ l. l ++ from (i + 1) ws) more
      ∙ append_assoc now ((get_or ws i d).now ++ (0 ∷ [])) (from (i + 1) ws)
      ∙ ap (λ l. now ++ l) (append_assoc (get_or ws i d).now (0 ∷ []) (from (i + 1) ws) ∙ sym ahead)
      ∙ so

-- each text takes a byte at least
pub longer : (begin i : ℕ) (t now new : List ℕ) → new ≡ now ++ (t ++ (0 ∷ []))
    → begin + i ≤ length now → begin + (i + 1) ≤ length new
longer begin i t now new more so =
    let all = ap length more ∙ length-append now (t ++ (0 ∷ [])) in
    let one = length-append t (0 ∷ []) in
    omega (arith, all, one, so)

-- the same bytes over the same image
pub put_over : (place : ℕ) (old old' bytes bytes' new : List ℕ) → old ≡ old' → bytes ≡ bytes'
    → IsOverwritten old place bytes new → IsOverwritten old' place bytes' new
put_over place old old' bytes bytes' new same same' so =
    subst (λ o. IsOverwritten o place bytes' new) same
    (subst (λ b. IsOverwritten old place b new) same' so)

-- as many texts as words, and as many bytes
pub same_record : (size end : ℕ) (old now all : List ℕ) (ws vs : List (Bor (List ℕ))) → size ≡ length old
    → end ≡ length now → now ≡ all → record_of size (end - size) (length ws) (length vs)
    ≡ record_of (length old) (length all - length old) (length (map (λ s. s.now) ws)) (length (map (λ s. s.now) vs))
same_record size end old now all ws vs begins ends same =
    ap (λ n. record_of n (end - n) (length ws) (length vs)) begins
    ∙ ap (λ n. record_of (length old) (n - length old) (length ws) (length vs)) (ends ∙ ap length same)
    ∙ ap (λ n. record_of (length old) (length all - length old) n (length vs)) (sym (length-map ws (λ s. s.now)))
    ∙ ap (λ n. record_of (length old) (length all - length old) (length (map (λ s. s.now) ws)) n) (sym (length-map vs (λ s. s.now)))

pub no_longer : (end : ℕ) (now all : List ℕ) → end ≡ length now → now ≡ all → end ≤ 4096 * 65535 → nat_lt MOST (length all) ≡ false
no_longer end now all ends same e = subst (λ n. nat_lt MOST n ≡ false) (ends ∙ ap length same) (few end e)
  where
    few : (n : ℕ) → n ≤ 4096 * 65535 → nat_lt MOST n ≡ false
    few n e = grind (nat_tests, arith)

-- Who waits, by number, while the list of waits changes.
use Rattle.std.proofs.Common.{◌≡◌, ℕ, ◌<◌, ◌≤◌, Bool, true, false, eqb, eqb-true, List, [], ◌∷◌, ◌++◌, length, replicate, get_or, refl, ap, sym, ◌∙◌, arith, slice_set}
use Rattle.std.specs.List.{list_any}
use Rattle.std.proofs.lemmas.Bool.Decides.{nat_tests}
use Rattle.std.proofs.lemmas.List.{length-set, get_or-replicate, get_or-set_other}
use Rattle.std.proofs.lemmas.List.Folds.{list_any-append}
use Rattle.std.proofs.lemmas.Grind.{get_or-set_at}
use Rattle.ckrt_thread.specs.declared.records.Wait.{Wait}
use Rattle.ckrt_thread.specs.Waits.{is_of, without}
use Rattle.ckrt_thread.specs.State.{count_of}
use Rattle.ckrt_thread.specs.WaitList.{AreMarked}
use Rattle.ckrt_thread.proofs.Counting.{none_of_count}

pub marks_none : AreMarked (replicate 256 false) []
marks_none = record { size = refl; marked = λ t l. get_or-replicate 256 t false false l }

-- one more waits

marked_more : (marks : List Bool) (ws : List Wait) (w : Wait) (t : ℕ) → AreMarked marks ws → w.thread < 256 → t < 256 → get_or (slice_set marks w.thread true) t false ≡ list_any (is_of t) (ws ++ w ∷ [])
marked_more marks ws w t h l k =
    let room : w.thread < length marks = (let n = h.size in omega arith) in
    elim (eqb t w.thread) as (λ b. eqb t w.thread ≡ b → get_or (slice_set marks w.thread true) t false ≡ list_any (is_of t) (ws ++ w ∷ [])) [
      | true ↦ λ e.
          let same : t ≡ w.thread = eqb-true t w.thread e in
          get_or-set_at marks w.thread t true false same room ∙ sym (grind (arith, nat_tests, list_any-append (is_of t) ws (w ∷ []), e))
      | false ↦ λ e.
          let apart : t ≡ w.thread → ⊥ = λ s. grind (arith, nat_tests, s, e) in
          get_or-set_other marks w.thread t true false apart ∙ (h.marked t k ∙ sym (grind (arith, nat_tests, list_any-append (is_of t) ws (w ∷ []), e)))
    ] refl

pub marks_more : (marks : List Bool) (ws : List Wait) (w : Wait) → AreMarked marks ws → w.thread < 256 → AreMarked (slice_set marks w.thread true) (ws ++ w ∷ [])
marks_more marks ws w h l = record {
  size = length-set marks w.thread true ∙ h.size;
  marked = λ t k. marked_more marks ws w t h l k;
}

-- a wait is taken out

none_left : (t : ℕ) (ws : List Wait) → count_of (is_of t) ws ≤ 1 → list_any (is_of t) (without t ws) ≡ false
none_left t [] c = refl
none_left t (w ∷ ws) c = grind (arith, nat_tests, none_left t ws, none_of_count (is_of t) ws)

others_stay : (t q : ℕ) (ws : List Wait) → eqb t q ≡ false → list_any (is_of q) (without t ws) ≡ list_any (is_of q) ws
others_stay t q [] e = refl
others_stay t q (w ∷ ws) e = grind (arith, nat_tests, others_stay t q ws)

marked_without : (marks : List Bool) (ws : List Wait) (t q : ℕ) → AreMarked marks ws → count_of (is_of t) ws ≤ 1 → t < 256 → q < 256 → get_or (slice_set marks t false) q false ≡ list_any (is_of q) (without t ws)
marked_without marks ws t q h c l k =
    let room : t < length marks = (let n = h.size in omega arith) in
    elim (eqb t q) as (λ b. eqb t q ≡ b → get_or (slice_set marks t false) q false ≡ list_any (is_of q) (without t ws)) [
      | true ↦ λ e.
          let same : t ≡ q = eqb-true t q e in
          get_or-set_at marks t q false false (sym same) room ∙ sym (ap (λ i. list_any (is_of i) (without t ws)) (sym same) ∙ none_left t ws c)
      | false ↦ λ e.
          let apart : q ≡ t → ⊥ = λ s. grind (arith, nat_tests, s, e) in
          get_or-set_other marks t q false false apart ∙ (h.marked q k ∙ sym (others_stay t q ws e))
    ] refl

pub marks_without : (marks : List Bool) (ws : List Wait) (t : ℕ) → AreMarked marks ws → count_of (is_of t) ws ≤ 1 → t < 256 → AreMarked (slice_set marks t false) (without t ws)
marks_without marks ws t h c l = record {
  size = length-set marks t false ∙ h.size;
  marked = λ q k. marked_without marks ws t q h c l k;
}

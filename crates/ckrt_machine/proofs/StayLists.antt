-- Lists in which a thread doesn't stand, and the harts where it does.
use Rattle.std.proofs.Common.{◌≡◌, ◌==◌, ℕ, zero, suc, Bool, true, false, ◌||◌, cond, List, [], ◌∷◌, ◌++◌, take, map, Option, Some, None, refl, ap, sym, ◌∙◌, arith, slice_get, slice_set}
use Rattle.std.specs.List.{list_any, find, filter}
use Rattle.std.specs.Option.{option_flatten}
use Rattle.std.proofs.lemmas.Bool.Decides.{nat_tests}
use Rattle.ckrt_thread.specs.declared.records.Wait.{Wait}
use Rattle.ckrt_thread.specs.Deadlines.{due_waits, in_order, inserted, is_before, is_due}
use Rattle.ckrt_thread.specs.State as threads
use Rattle.ckrt_thread.specs.Waits.{is_of, without}

pub neither : (b c : Bool) → (b || c) ≡ false → (b ≡ false) × (c ≡ false)
neither false c e = (refl, e)
neither true c e = absurd (cc)

pub not_either : (b c : Bool) → b ≡ false → c ≡ false → (b || c) ≡ false
not_either false c x y = y
not_either true c x y = absurd (cc)

module _ {X : Type 0} (p : X → Bool) where
  pub none_filtered : (f : X → Bool) (xs : List X) → list_any p xs ≡ false → list_any p (filter f xs) ≡ false
  none_filtered f [] e = refl
  none_filtered f (x ∷ xs) e =
      let k = neither (p x) (list_any p xs) e in
      by_test (f x) k.0 (none_filtered f xs k.1)
    where
      by_test : (b : Bool) → p x ≡ false → list_any p (filter f xs) ≡ false → list_any p (cond b (x ∷ filter f xs) (filter f xs)) ≡ false
      by_test true i j = not_either (p x) (list_any p (filter f xs)) i j
      by_test false i j = j

  pub none_taken : (n : ℕ) (xs : List X) → list_any p xs ≡ false → list_any p (take n xs) ≡ false
  none_taken zero xs e = refl
  none_taken (suc n) [] e = refl
  none_taken (suc n) (x ∷ xs) e =
      let k = neither (p x) (list_any p xs) e in
      not_either (p x) (list_any p (take n xs)) k.0 (none_taken n xs k.1)

  pub none_appended : (xs ys : List X) → list_any p xs ≡ false → list_any p ys ≡ false → list_any p (xs ++ ys) ≡ false
  none_appended [] ys e f = f
  none_appended (x ∷ xs) ys e f =
      let k = neither (p x) (list_any p xs) e in
      not_either (p x) (list_any p (xs ++ ys)) k.0 (none_appended xs ys k.1 f)

  pub none_found : (xs : List X) → list_any p xs ≡ false → find p xs ≡ None
  none_found [] e = refl
  none_found (x ∷ xs) e =
      let k = neither (p x) (list_any p xs) e in
      ap (λ b. cond b (Some x) (find p xs)) k.0 ∙ none_found xs k.1

-- the first of some has what all have
abbrev pub Fails : {X : Type 0} → (X → Bool) → Option X → Type 0
Fails p None = Unit {0}
Fails p (Some x) = p x ≡ false

pub first_fails : {X : Type 0} (p f : X → Bool) (xs : List X) → list_any p xs ≡ false → Fails p (find f xs)
first_fails p f [] e = tt
first_fails p f (x ∷ xs) e =
    let k = neither (p x) (list_any p xs) e in
    by_test (f x) k.0 (first_fails p f xs k.1)
  where
    by_test : (b : Bool) → p x ≡ false → Fails p (find f xs) → Fails p (cond b (Some x) (find f xs))
    by_test true i j = i
    by_test false i j = j

module _ (q : ℕ) where
  pub none_without : (t : ℕ) (ws : List Wait) → list_any (is_of q) ws ≡ false → list_any (is_of q) (without t ws) ≡ false
  none_without t [] e = refl
  none_without t (w ∷ ws) e =
      let k = neither (is_of q w) (list_any (is_of q) ws) e in
      by_test (is_of t w) k.0 k.1 (none_without t ws k.1)
    where
      by_test : (b : Bool) → is_of q w ≡ false → list_any (is_of q) ws ≡ false → list_any (is_of q) (without t ws) ≡ false → list_any (is_of q) (cond b ws (w ∷ without t ws)) ≡ false
      by_test true i j k = j
      by_test false i j k = not_either (is_of q w) (list_any (is_of q) (without t ws)) i k

  none_inserted : (w : Wait) (ws : List Wait) → is_of q w ≡ false → list_any (is_of q) ws ≡ false → list_any (is_of q) (inserted w ws) ≡ false
  none_inserted w [] i e = not_either (is_of q w) false i refl
  none_inserted w (v ∷ vs) i e =
      let k = neither (is_of q v) (list_any (is_of q) vs) e in
      by_test (is_before v w) k.0 (none_inserted w vs i k.1)
    where
      by_test : (b : Bool) → is_of q v ≡ false → list_any (is_of q) (inserted w vs) ≡ false → list_any (is_of q) (cond b (v ∷ inserted w vs) (w ∷ v ∷ vs)) ≡ false
      by_test true j k = not_either (is_of q v) (list_any (is_of q) (inserted w vs)) j k
      by_test false j k = not_either (is_of q w) (list_any (is_of q) (v ∷ vs)) i e

  none_in_order : (ws : List Wait) → list_any (is_of q) ws ≡ false → list_any (is_of q) (in_order ws) ≡ false
  none_in_order [] e = refl
  none_in_order (w ∷ ws) e =
      let k = neither (is_of q w) (list_any (is_of q) ws) e in
      none_inserted w (in_order ws) k.0 (none_in_order ws k.1)

  pub none_due : (now : ℕ) (ws : List Wait) → list_any (is_of q) ws ≡ false → list_any (is_of q) (due_waits now ws) ≡ false
  none_due now ws e = none_in_order (filter (is_due now) ws) (none_filtered (is_of q) (is_due now) ws e)

  -- on each hart it stands as before after another thread is taken off
  pub still_off : (t k : ℕ) (hs : List (Option ℕ)) → (q == t) ≡ false → threads.holds q (option_flatten (slice_get (map (threads.off t) hs) k)) ≡ threads.holds q (option_flatten (slice_get hs k))
  still_off t k [] n = refl
  still_off t zero (None ∷ hs) n = refl
  still_off t zero (Some u ∷ hs) n = grind (arith, nat_tests)
  still_off t (suc k) (x ∷ hs) n = still_off t k hs n

  -- and after another thread is put onto a hart where it isn't
  pub still_put : (h t k : ℕ) (hs : List (Option ℕ)) → (q == t) ≡ false → threads.holds q (option_flatten (slice_get hs h)) ≡ false → threads.holds q (option_flatten (slice_get (slice_set hs h (Some t)) k)) ≡ threads.holds q (option_flatten (slice_get hs k))
  still_put h t k [] n e = refl
  still_put zero t zero (x ∷ hs) n e = n ∙ sym e
  still_put zero t (suc k) (x ∷ hs) n e = refl
  still_put (suc h) t zero (x ∷ hs) n e = refl
  still_put (suc h) t (suc k) (x ∷ hs) n e = still_put h t k hs n e

  -- on no hart, hart by hart and altogether
  pub none_at : (hs : List (Option ℕ)) (h : ℕ) → list_any (threads.holds q) hs ≡ false → threads.holds q (option_flatten (slice_get hs h)) ≡ false
  none_at [] h e = refl
  none_at (x ∷ hs) zero e = (neither (threads.holds q x) (list_any (threads.holds q) hs) e).0
  none_at (x ∷ hs) (suc h) e = none_at hs h (neither (threads.holds q x) (list_any (threads.holds q) hs) e).1

  pub none_there : (hs : List (Option ℕ)) → ((h : ℕ) → threads.holds q (option_flatten (slice_get hs h)) ≡ false) → list_any (threads.holds q) hs ≡ false
  none_there [] e = refl
  none_there (x ∷ hs) e = not_either (threads.holds q x) (list_any (threads.holds q) hs) (e 0) (none_there hs (λ h. e (suc h)))

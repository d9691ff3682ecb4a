-- What is seen, and what clocks tell of it.
use Rattle.std.proofs.Common.{◌≡◌, ◌≢◌, ◌≤◌, ◌<◌, ℕ, suc, ◌+◌, max, nat_lt, ◌==◌, ◌||◌, ◌&&◌, Bool, true, false, List, [], ◌∷◌, length, slice_get, Option, Some, None, refl, sym, ap, ◌∙◌, subst, arith}
use Rattle.ckrt_look_clocks.specs.declared.operation.Place.{Place}
use Rattle.ckrt_look_clocks.specs.declared.lock.Locking.{Locking}
use Rattle.ckrt_look_clocks.specs.declared.operation.Access.{Access}
use Rattle.ckrt_look_clocks.specs.declared.operation.Block.{Block}
use Rattle.ckrt_look_clocks.specs.declared.operation.Operation.{Operation}
use Rattle.ckrt_look_clocks.specs.declared.operation.Operation.TheVariants as operation
use Rattle.ckrt_look_clocks.specs.declared.operation.TheConstants.{THREADS}
use Rattle.ckrt_look_clocks.specs.declared.clock.Clock.{Clock}
use Rattle.ckrt_look_clocks.specs.declared.shadow.Cell.{Cell}
use Rattle.ckrt_look_clocks.specs.Histories.{History, moment, op_at, seen}
use Rattle.ckrt_look_clocks.specs.Detection.{Watched, access_at, passed, watched, word_of}
use Rattle.ckrt_look_clocks.specs.Laws.{IsOrderly, next_moment}
use Rattle.ckrt_look_clocks.proofs.ListLemmas.{chosen, passed_over}
use Rattle.ckrt_look_clocks.proofs.ClockLemmas.{AreClocks, are_fresh, are_passed, at_most, fresh_time, is_other, is_same, kept_time, less_test, lt_max, not_less_test, other_test, other_time, own_time, passed_time, same_test, time, time_at}

-- THE CLOCKS OF A HISTORY

abbrev pub clocks_in : History → (n words : ℕ) → List Clock
clocks_in past n words = (watched past n words).clocks

pub access_clocks : (a : Access) (o : Option Cell) (w : Watched) → (access_at a o w).clocks ≡ w.clocks
access_clocks a None w = refl
access_clocks a (Some c) w = refl

behind_clocks : (a : Access) (past : History) (n words : ℕ) → clocks_in (operation.Access a ∷ past) n words ≡ clocks_in past n words
behind_clocks a past n words = access_clocks a (slice_get (watched past n words).shadow (word_of a)) (watched past n words)

-- OPERATIONS BY THEIR NUMBER

-- the last one, or one of those before
pub op_case : {P : Type 0} (past : History) (q o : Operation) (i : ℕ) → op_at (q ∷ past) i ≡ Some o → (i ≡ length past → q ≡ o → P) → (i ≢ length past → op_at past i ≡ Some o → P) → P
op_case {P} past q o i is last before = go (i == length past) refl
  where
    go : (t : Bool) → (i == length past) ≡ t → P
    go true e = last (is_same i (length past) e) (let two = sym (chosen (i == length past) (Some q) (op_at past i) e) ∙ is in cc)
    go false e = before (is_other i (length past) e) (sym (passed_over (i == length past) (Some q) (op_at past i) e) ∙ is)

-- one that is there is below the length
pub op_below : (past : History) (i : ℕ) (o : Operation) → op_at past i ≡ Some o → i < length past
op_below [] i o is = absurd (cc)
op_below (q ∷ past) i o is = op_case past q o i is (λ e same. omega (arith, e)) (λ e rest. omega (arith, op_below past i o rest))

-- it stays there
pub op_stays : (past : History) (i : ℕ) (o q : Operation) → op_at past i ≡ Some o → op_at (q ∷ past) i ≡ Some o
op_stays past i o q is =
    let below = op_below past i o is in
    let other : (i == length past) ≡ false = other_test i (length past) (λ e. (let h = e in absurd (omega (arith, below, h)))) in
    passed_over (i == length past) (Some q) (op_at past i) other ∙ is

-- only what is there is seen
below_access : (t u v : Bool) (i n : ℕ) → (u ≡ true → i ≡ n) → (v ≡ true → i < n) → ((t && u) || v) ≡ true → i < suc n
below_access true true v i n e l is = omega (arith, e refl)
below_access true false true i n e l is = omega (arith, l refl)
below_access true false false i n e l is = absurd (cc)
below_access false u true i n e l is = omega (arith, l refl)
below_access false u false i n e l is = absurd (cc)

below_pass : (t u v : Bool) (i n : ℕ) → (t ≡ true → i < n) → (v ≡ true → i < n) → (t || (u && v)) ≡ true → i < suc n
below_pass true u v i n e l is = omega (arith, e refl)
below_pass false true true i n e l is = omega (arith, l refl)
below_pass false true false i n e l is = absurd (cc)
below_pass false false v i n e l is = absurd (cc)

pub seen_below : (past : History) (h i : ℕ) → seen past h i ≡ true → i < length past
seen_below [] h i is = absurd (cc)
seen_below (operation.Access a ∷ past) h i is = below_access (h == a.thread) (i == length past) (seen past h i) i (length past) (is_same i (length past)) (seen_below past h i) is
seen_below (operation.Pass from to p ∷ past) h i is = below_pass (seen past h i) (h == to) (seen past from i) i (length past) (seen_below past h i) (seen_below past from i) is
seen_below (operation.Renew m ∷ past) h i is = omega (arith, seen_below past h i is)
seen_below (operation.Lock l p ∷ past) h i is = omega (arith, seen_below past h i is)

unseen_yet : (past : History) (h i : ℕ) → i ≡ length past → seen past h i ≡ false
unseen_yet past h i is = go (seen past h i) refl
  where
    go : (t : Bool) → seen past h i ≡ t → seen past h i ≡ false
    go true e = absurd (omega (arith, seen_below past h i e, is))
    go false e = e

-- WHAT CLOCKS TELL OF A HISTORY

pub record Tell (n words : ℕ) (past : History) : Type 0 where
  pub clocks : AreClocks n (clocks_in past n words)
  -- no clock is ahead
  pub low : (h u : ℕ) → time (clocks_in past n words) h u ≤ next_moment past
  -- nor is an access
  pub earlier : (i : ℕ) (a : Access) → op_at past i ≡ Some (operation.Access a) → moment a.place < next_moment past
  pub threads : (i : ℕ) (a : Access) → op_at past i ≡ Some (operation.Access a) → a.thread < THREADS
  -- what is seen
  pub exact : (h i : ℕ) (a : Access) → h < n → op_at past i ≡ Some (operation.Access a)
      → seen past h i ≡ (h == a.thread || nat_lt (moment a.place) (time (clocks_in past n words) h a.thread))

tell_nothing : (n words : ℕ) → Tell n words []
tell_nothing n words = record {
  clocks = are_fresh n;
  low = λ h u. omega (arith, fresh_time n h u);
  earlier = λ i a is. absurd (cc);
  threads = λ i a is. absurd (cc);
  exact = λ h i a l is. absurd (cc);
}

-- what a test of two parts comes to
and_true : (t : Bool) → (t && true) ≡ t
and_true true = refl
and_true false = refl

and_false : (t : Bool) → (t && false) ≡ false
and_false true = refl
and_false false = refl

or_false : (t : Bool) → (t || false) ≡ t
or_false true = refl
or_false false = refl

or_true : (t : Bool) → (t || true) ≡ true
or_true true = refl
or_true false = refl

or_or : (t u v : Bool) → ((t || u) || v) ≡ (t || (u || v))
or_or true u v = refl
or_or false u v = refl

-- an access more
module _ (n words : ℕ) (past : History) (b : Access) (told : Tell n words past) (is_thread : b.thread < THREADS) (rises : next_moment past ≤ moment b.place) where
  same_clocks : clocks_in (operation.Access b ∷ past) n words ≡ clocks_in past n words
  same_clocks = behind_clocks b past n words

  seen_last : (h i : ℕ) → i ≡ length past → seen (operation.Access b ∷ past) h i ≡ (h == b.thread || nat_lt (moment b.place) (time (clocks_in past n words) h b.thread))
  seen_last h i is =
      ap (λ t. (h == b.thread && t) || seen past h i) (same_test i (length past) is) ∙ ap (λ t. (h == b.thread && true) || t) (unseen_yet past h i is)
      ∙ ap (λ t. t || false) (and_true (h == b.thread))
      ∙ ap (λ t. h == b.thread || t) (sym (not_less_test (moment b.place) (time (clocks_in past n words) h b.thread) (omega (arith, told.low h b.thread, rises))))

  seen_before : (h i : ℕ) → i ≢ length past → seen (operation.Access b ∷ past) h i ≡ seen past h i
  seen_before h i is = ap (λ t. (h == b.thread && t) || seen past h i) (other_test i (length past) is) ∙ ap (λ t. t || seen past h i) (and_false (h == b.thread))

  exact_access : (h i : ℕ) (a : Access) → h < n → op_at (operation.Access b ∷ past) i ≡ Some (operation.Access a)
      → seen (operation.Access b ∷ past) h i ≡ (h == a.thread || nat_lt (moment a.place) (time (clocks_in past n words) h a.thread))
  exact_access h i a l is =
      op_case past (operation.Access b) (operation.Access a) i is
      (λ e same. (let one : b ≡ a = cc in subst (λ (d : Access). seen (operation.Access b ∷ past) h i ≡ (h == d.thread || nat_lt (moment d.place) (time (clocks_in past n words) h d.thread))) one (seen_last h i e)))
      (λ e rest. seen_before h i e ∙ told.exact h i a l rest)

  tell_access : Tell n words (operation.Access b ∷ past)
  tell_access = record {
    clocks = subst (AreClocks n) (sym same_clocks) told.clocks;
    low = λ h u. omega (arith, ap (λ (cs : List Clock). time cs h u) same_clocks, told.low h u, rises);
    earlier = λ i a is. op_case past (operation.Access b) (operation.Access a) i is
        (λ e same. (let one : b ≡ a = cc in subst (λ (d : Access). moment d.place < moment b.place + 1) one (omega arith)))
        (λ e rest. omega (arith, told.earlier i a rest, rises));
    threads = λ i a is. op_case past (operation.Access b) (operation.Access a) i is
        (λ e same. (let one : b ≡ a = cc in subst (λ (d : Access). d.thread < THREADS) one is_thread))
        (λ e rest. told.threads i a rest);
    exact = λ h i a l is. exact_access h i a l is ∙ ap (λ (cs : List Clock). h == a.thread || nat_lt (moment a.place) (time cs h a.thread)) (sym same_clocks);
  }

-- a pass more
module _ (n words : ℕ) (past : History) (from to : ℕ) (p : Place) (told : Tell n words past) (has : from < n) (there : to < n) (rises : next_moment past ≤ moment p) where
  -- it is no access
  before : (i : ℕ) (a : Access) → op_at (operation.Pass from to p ∷ past) i ≡ Some (operation.Access a) → op_at past i ≡ Some (operation.Access a)
  before i a is = op_case past (operation.Pass from to p) (operation.Access a) i is (λ e same. absurd (cc)) (λ e rest. rest)

  low_pass : (h u : ℕ) → time (passed from to p (clocks_in past n words)) h u ≤ moment p
  low_pass h u = go (h == to) refl
    where
      go : (t : Bool) → (h == to) ≡ t → time (passed from to p (clocks_in past n words)) h u ≤ moment p
      go true e = subst (λ k. time (passed from to p (clocks_in past n words)) k u ≤ moment p) (sym (is_same h to e))
          (omega (arith, passed_time n from to p (clocks_in past n words) u told.clocks there, told.low to u, rises, at_most n from p (clocks_in past n words) u (moment p) told.clocks (omega (arith, told.low from u, rises)) (omega arith)))
      go false e = omega (arith, kept_time from to p (clocks_in past n words) h u (is_other h to e), told.low h u, rises)

  -- what it passes on of an access
  passes : (i : ℕ) (a : Access) → op_at past i ≡ Some (operation.Access a)
      → (seen past to i || seen past from i) ≡ (to == a.thread || nat_lt (moment a.place) (max (time (clocks_in past n words) to a.thread) (time_at from p (clocks_in past n words) a.thread)))
  passes i a is = go (from == a.thread) refl
    where
      cs : List Clock
      cs = clocks_in past n words

      Passes : Type 0
      Passes = (seen past to i || seen past from i) ≡ (to == a.thread || nat_lt (moment a.place) (max (time (clocks_in past n words) to a.thread) (time_at from p (clocks_in past n words) a.thread)))

      go : (t : Bool) → (from == a.thread) ≡ t → (seen past to i || seen past from i) ≡ (to == a.thread || nat_lt (moment a.place) (max (time (clocks_in past n words) to a.thread) (time_at from p (clocks_in past n words) a.thread)))
      go true e =
          let same : from ≡ a.thread = is_same from a.thread e in
          let own : time_at from p (clocks_in past n words) a.thread ≡ moment p = subst (λ u. time_at from p (clocks_in past n words) u ≡ moment p) same
          (own_time n from p (clocks_in past n words) told.clocks (subst (λ u. u < THREADS) (sym same) (told.threads i a is))) in
          let less : nat_lt (moment a.place) (max (time (clocks_in past n words) to a.thread) (time_at from p (clocks_in past n words) a.thread)) ≡ true =
          less_test (moment a.place) (max (time (clocks_in past n words) to a.thread) (time_at from p (clocks_in past n words) a.thread)) (omega (arith, own, told.earlier i a is, rises)) in
          let seen_from : seen past from i ≡ true = told.exact from i a has is ∙ ap (λ t. t || nat_lt (moment a.place) (time (clocks_in past n words) from a.thread)) e in
          ap (λ t. seen past to i || t) seen_from ∙ or_true (seen past to i) ∙ sym (ap (λ t. to == a.thread || t) less ∙ or_true (to == a.thread))
      go false e =
          let other : a.thread ≢ from = λ same. is_other from a.thread e (sym same) in
          let seen_from : seen past from i ≡ nat_lt (moment a.place) (time_at from p (clocks_in past n words) a.thread) =
          told.exact from i a has is ∙ ap (λ t. t || nat_lt (moment a.place) (time (clocks_in past n words) from a.thread)) e
          ∙ ap (λ m. nat_lt (moment a.place) m) (sym (other_time from p (clocks_in past n words) a.thread other)) in
          ap (λ t. seen past to i || t) seen_from ∙ ap (λ t. t || nat_lt (moment a.place) (time_at from p (clocks_in past n words) a.thread)) (told.exact to i a there is)
          ∙ or_or (to == a.thread) (nat_lt (moment a.place) (time (clocks_in past n words) to a.thread)) (nat_lt (moment a.place) (time_at from p (clocks_in past n words) a.thread))
          ∙ ap (λ t. to == a.thread || t) (sym (lt_max (moment a.place) (time (clocks_in past n words) to a.thread) (time_at from p (clocks_in past n words) a.thread)))

  exact_pass : (h i : ℕ) (a : Access) → h < n → op_at past i ≡ Some (operation.Access a)
      → seen (operation.Pass from to p ∷ past) h i ≡ (h == a.thread || nat_lt (moment a.place) (time (passed from to p (clocks_in past n words)) h a.thread))
  exact_pass h i a l is = go (h == to) refl
    where
      go : (t : Bool) → (h == to) ≡ t → seen (operation.Pass from to p ∷ past) h i ≡ (h == a.thread || nat_lt (moment a.place) (time (passed from to p (clocks_in past n words)) h a.thread))
      go true e =
          ap (λ t. seen past h i || (t && seen past from i)) e
          ∙ subst (λ k. (seen past k i || seen past from i) ≡ (k == a.thread || nat_lt (moment a.place) (time (passed from to p (clocks_in past n words)) k a.thread))) (sym (is_same h to e))
          (passes i a is ∙ ap (λ m. to == a.thread || nat_lt (moment a.place) m) (sym (passed_time n from to p (clocks_in past n words) a.thread told.clocks there)))
      go false e =
          ap (λ t. seen past h i || (t && seen past from i)) e ∙ or_false (seen past h i) ∙ told.exact h i a l is
          ∙ ap (λ m. h == a.thread || nat_lt (moment a.place) m) (sym (kept_time from to p (clocks_in past n words) h a.thread (is_other h to e)))

  tell_pass : Tell n words (operation.Pass from to p ∷ past)
  tell_pass = record {
    clocks = are_passed n from to p (clocks_in past n words) told.clocks there;
    low = low_pass;
    earlier = λ i a is. omega (arith, told.earlier i a (before i a is), rises);
    threads = λ i a is. told.threads i a (before i a is);
    exact = λ h i a l is. exact_pass h i a l (before i a is);
  }

-- memory that is given anew
module _ (n words : ℕ) (past : History) (m : Block) (told : Tell n words past) (rises : next_moment past ≤ moment m.place) where
  earlier_than : (i : ℕ) (a : Access) → op_at (operation.Renew m ∷ past) i ≡ Some (operation.Access a) → op_at past i ≡ Some (operation.Access a)
  earlier_than i a is = op_case past (operation.Renew m) (operation.Access a) i is (λ e same. absurd (cc)) (λ e rest. rest)

  tell_renewal : Tell n words (operation.Renew m ∷ past)
  tell_renewal = record {
    clocks = told.clocks;
    low = λ h u. omega (arith, told.low h u, rises);
    earlier = λ i a is. omega (arith, told.earlier i a (earlier_than i a is), rises);
    threads = λ i a is. told.threads i a (earlier_than i a is);
    exact = λ h i a l is. told.exact h i a l (earlier_than i a is);
  }

-- a lock that is taken or given up
module _ (n words : ℕ) (past : History) (l : Locking) (p : Place) (told : Tell n words past) (rises : next_moment past ≤ moment p) where
  earlier_still : (i : ℕ) (a : Access) → op_at (operation.Lock l p ∷ past) i ≡ Some (operation.Access a) → op_at past i ≡ Some (operation.Access a)
  earlier_still i a is = op_case past (operation.Lock l p) (operation.Access a) i is (λ e same. absurd (cc)) (λ e rest. rest)

  tell_lock : Tell n words (operation.Lock l p ∷ past)
  tell_lock = record {
    clocks = told.clocks;
    low = λ h u. omega (arith, told.low h u, rises);
    earlier = λ i a is. omega (arith, told.earlier i a (earlier_still i a is), rises);
    threads = λ i a is. told.threads i a (earlier_still i a is);
    exact = λ h i a less is. told.exact h i a less (earlier_still i a is);
  }

pub tells : (n words : ℕ) (past : History) → IsOrderly n past → Tell n words past
tells n words [] orderly = tell_nothing n words
tells n words (operation.Access b ∷ past) orderly = tell_access n words past b (tells n words past orderly.0) orderly.1 orderly.2
tells n words (operation.Pass from to p ∷ past) orderly = tell_pass n words past from to p (tells n words past orderly.0) orderly.1.0 orderly.1.1 orderly.2
tells n words (operation.Renew m ∷ past) orderly = tell_renewal n words past m (tells n words past orderly.0) orderly.2
tells n words (operation.Lock l p ∷ past) orderly = tell_lock n words past l p (tells n words past orderly.0) orderly.2

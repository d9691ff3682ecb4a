-- What is seen is what chains of passes lead to.
use Rattle.std.proofs.Common.{◌≡◌, ◌≤◌, ◌<◌, ℕ, suc, ◌==◌, ◌||◌, ◌&&◌, Bool, true, false, List, [], ◌∷◌, length, Some, refl, sym, ap, ◌∙◌, subst, arith}
use Rattle.ckrt_look_clocks.specs.declared.operation.Place.{Place}
use Rattle.ckrt_look_clocks.specs.declared.operation.Access.{Access}
use Rattle.ckrt_look_clocks.specs.declared.operation.Operation.{Operation}
use Rattle.ckrt_look_clocks.specs.declared.operation.Operation.TheVariants as operation
use Rattle.ckrt_look_clocks.specs.Histories.{History, IsChain, op_at, seen}
use Rattle.ckrt_look_clocks.specs.Laws.{SeenByChains}
use Rattle.ckrt_look_clocks.proofs.ListLemmas.{chosen}
use Rattle.ckrt_look_clocks.proofs.ClockLemmas.{is_same, same_test}
use Rattle.ckrt_look_clocks.proofs.SeenLemmas.{op_below, op_case, op_stays}

-- A CHAIN IN A LONGER HISTORY, AND IN A SHORTER ONE

lifted : (past : History) (q : Operation) (m n i : ℕ) (ks : List ℕ) (h : ℕ) → m ≤ n → IsChain past m i ks h → IsChain (q ∷ past) n i ks h
lifted past q m n i [] h le chain = (omega (arith, le, chain.0), (chain.1.0, op_stays past i (operation.Access chain.1.0) q chain.1.1, chain.1.2))
lifted past q m n i (k ∷ ks) h le chain =
    (omega (arith, le, chain.0), (chain.1.0, chain.1.1, op_stays past k (operation.Pass chain.1.0 h chain.1.1) q chain.1.2, lifted past q k k i ks chain.1.0 (omega arith) chain.1.3))

below : (past : History) (q o : Operation) (k : ℕ) → k < length past → op_at (q ∷ past) k ≡ Some o → op_at past k ≡ Some o
below past q o k less is = op_case past q o k is (λ e same. absurd (omega (arith, less, e))) (λ e rest. rest)

lowered : (past : History) (q : Operation) (m i : ℕ) (ks : List ℕ) (h : ℕ) → m ≤ length past → IsChain (q ∷ past) m i ks h → IsChain past m i ks h
lowered past q m i [] h le chain = (chain.0, (chain.1.0, below past q (operation.Access chain.1.0) i (omega (arith, le, chain.0)) chain.1.1, chain.1.2))
lowered past q m i (k ∷ ks) h le chain =
    (chain.0, (chain.1.0, chain.1.1, below past q (operation.Pass chain.1.0 h chain.1.1) k (omega (arith, le, chain.0)) chain.1.2, lowered past q k i ks chain.1.0 (omega (arith, le, chain.0)) chain.1.3))

-- WHAT IS SEEN HAS A CHAIN

abbrev pub HasChain : History → (h i : ℕ) → Type 0
HasChain past h i = (ks : List ℕ) × IsChain past (length past) i ks h

goes_on : (past : History) (q : Operation) (h i : ℕ) → HasChain past h i → HasChain (q ∷ past) h i
goes_on past q h i chain = (chain.0, lifted past q (length past) (suc (length past)) i chain.0 h (omega arith) chain.1)

last_op : (past : History) (q : Operation) → op_at (q ∷ past) (length past) ≡ Some q
last_op past q = chosen (length past == length past) (Some q) (op_at past (length past)) (same_test (length past) (length past) refl)

by_access : (past : History) (a : Access) (h i : ℕ) (t u v : Bool) → (t ≡ true → h ≡ a.thread) → (u ≡ true → i ≡ length past) → (v ≡ true → HasChain past h i) → ((t && u) || v) ≡ true
    → HasChain (operation.Access a ∷ past) h i
by_access past a h i true true v same last rest is =
    ([], (omega (arith, last refl), (a, subst (λ k. op_at (operation.Access a ∷ past) k ≡ Some (operation.Access a)) (sym (last refl)) (last_op past (operation.Access a)), sym (same refl))))
by_access past a h i true false true same last rest is = goes_on past (operation.Access a) h i (rest refl)
by_access past a h i true false false same last rest is = absurd (cc)
by_access past a h i false u true same last rest is = goes_on past (operation.Access a) h i (rest refl)
by_access past a h i false u false same last rest is = absurd (cc)

by_pass : (past : History) (from to : ℕ) (p : Place) (h i : ℕ) (t u v : Bool) → (t ≡ true → HasChain past h i) → (u ≡ true → h ≡ to) → (v ≡ true → HasChain past from i) → (t || (u && v)) ≡ true
    → HasChain (operation.Pass from to p ∷ past) h i
by_pass past from to p h i true u v rest same passed is = goes_on past (operation.Pass from to p) h i (rest refl)
by_pass past from to p h i false true true rest same passed is =
    let chain = passed refl in
    let there : op_at (operation.Pass from to p ∷ past) (length past) ≡ Some (operation.Pass from h p) = last_op past (operation.Pass from to p) ∙ ap (λ k. Some (operation.Pass from k p)) (sym (same refl)) in
    (length past ∷ chain.0, (omega arith, (from, p, there, lifted past (operation.Pass from to p) (length past) (length past) i chain.0 from (omega arith) chain.1)))
by_pass past from to p h i false true false rest same passed is = absurd (cc)
by_pass past from to p h i false false v rest same passed is = absurd (cc)

has_chain : (past : History) (h i : ℕ) → seen past h i ≡ true → HasChain past h i
has_chain [] h i is = absurd (cc)
has_chain (operation.Access a ∷ past) h i is = by_access past a h i (h == a.thread) (i == length past) (seen past h i) (is_same h a.thread) (is_same i (length past)) (has_chain past h i) is
has_chain (operation.Pass from to p ∷ past) h i is = by_pass past from to p h i (seen past h i) (h == to) (seen past from i) (has_chain past h i) (is_same h to) (has_chain past from i) is
has_chain (operation.Renew m ∷ past) h i is = goes_on past (operation.Renew m) h i (has_chain past h i is)
has_chain (operation.Lock l p ∷ past) h i is = goes_on past (operation.Lock l p) h i (has_chain past h i is)

-- WHAT A CHAIN LEADS TO IS SEEN

or_second : (t u : Bool) → u ≡ true → (t || u) ≡ true
or_second true u e = refl
or_second false u e = e

or_first : (t u : Bool) → t ≡ true → (t || u) ≡ true
or_first true u e = refl
or_first false u e = absurd (cc)

and_both : (t u : Bool) → t ≡ true → u ≡ true → (t && u) ≡ true
and_both true u e f = f
and_both false u e f = absurd (cc)

still_seen : (past : History) (q : Operation) (h i : ℕ) → seen past h i ≡ true → seen (q ∷ past) h i ≡ true
still_seen past (operation.Access a) h i is = or_second (h == a.thread && i == length past) (seen past h i) is
still_seen past (operation.Pass from to p) h i is = or_first (seen past h i) (h == to && seen past from i) is
still_seen past (operation.Renew m) h i is = is
still_seen past (operation.Lock l p) h i is = is

own_seen : (past : History) (q : Operation) (a : Access) (h i : ℕ) → i ≡ length past → q ≡ operation.Access a → a.thread ≡ h → seen (q ∷ past) h i ≡ true
own_seen past q a h i last is of_it = subst (λ o. seen (o ∷ past) h i ≡ true) (sym is)
    (or_first (h == a.thread && i == length past) (seen past h i) (and_both (h == a.thread) (i == length past) (same_test h a.thread (sym of_it)) (same_test i (length past) last)))

passed_seen : (past : History) (q : Operation) (from h : ℕ) (p : Place) (i : ℕ) → q ≡ operation.Pass from h p → seen past from i ≡ true → seen (q ∷ past) h i ≡ true
passed_seen past q from h p i is it_is = subst (λ o. seen (o ∷ past) h i ≡ true) (sym is)
    (or_second (seen past h i) (h == h && seen past from i) (and_both (h == h) (seen past from i) (same_test h h refl) it_is))

is_seen : (past : History) (m i : ℕ) (ks : List ℕ) (h : ℕ) → IsChain past m i ks h → seen past h i ≡ true
is_seen [] m i [] h chain = (let none = chain.1.1 in absurd (cc))
is_seen [] m i (k ∷ ks) h chain = (let none = chain.1.2 in absurd (cc))
is_seen (q ∷ past) m i [] h chain =
    op_case past q (operation.Access chain.1.0) i chain.1.1
    (λ e same. own_seen past q chain.1.0 h i e same chain.1.2)
    (λ e rest. still_seen past q h i (is_seen past (suc i) i [] h (omega arith, (chain.1.0, rest, chain.1.2))))
is_seen (q ∷ past) m i (k ∷ ks) h chain =
    let from = chain.1.0 in let p = chain.1.1 in
    op_case past q (operation.Pass from h p) k chain.1.2
    (λ e same. passed_seen past q from h p i same (is_seen past k i ks from (lowered past q k i ks from (omega (arith, e)) chain.1.3)))
    (λ e rest. (let less = op_below past k (operation.Pass from h p) rest in
    still_seen past q h i (is_seen past (suc k) i (k ∷ ks) h (omega arith, (from, p, rest, lowered past q k i ks from (omega (arith, less)) chain.1.3)))))

pub seen_chains : SeenByChains
seen_chains past h i = (has_chain past h i, λ chain. is_seen past (length past) i chain.0 h chain.1)

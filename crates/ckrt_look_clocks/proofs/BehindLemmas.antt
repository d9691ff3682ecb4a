-- Who has seen an access has seen all that its thread had seen by then.
use Rattle.std.proofs.Common.{◌≡◌, ◌<◌, ℕ, ◌==◌, ◌||◌, ◌&&◌, Bool, true, false, [], ◌∷◌, ◌++◌, length, refl, sym, ap, ◌∙◌, subst, arith}
use Rattle.ckrt_look_clocks.specs.declared.operation.Access.{Access}
use Rattle.ckrt_look_clocks.specs.declared.operation.Operation.{Operation}
use Rattle.ckrt_look_clocks.specs.declared.operation.Operation.TheVariants as operation
use Rattle.ckrt_look_clocks.specs.Histories.{History, seen}
use Rattle.ckrt_look_clocks.specs.Laws.{SeenBehindSeen}
use Rattle.ckrt_look_clocks.proofs.ClockLemmas.{is_same, other_test}
use Rattle.ckrt_look_clocks.proofs.SeenLemmas.{seen_below}

longer : (later earlier : History) (o : Operation) → length earlier < length (later ++ o ∷ earlier)
longer [] earlier o = omega arith
longer (q ∷ later) earlier o = omega (arith, longer later earlier o)

first_of : (t u : Bool) → (t && u) ≡ true → t ≡ true
first_of true u e = refl
first_of false u e = absurd (cc)

second_of : (t u : Bool) → (t && u) ≡ true → u ≡ true
second_of true u e = e
second_of false u e = absurd (cc)

both_are : (t u : Bool) → t ≡ true → u ≡ true → (t && u) ≡ true
both_are t u one other = ap (λ v. v && u) one ∙ other

or_first : (t u : Bool) → t ≡ true → (t || u) ≡ true
or_first t u e = ap (λ v. v || u) e

or_second : (t u : Bool) → u ≡ true → (t || u) ≡ true
or_second true u e = refl
or_second false u e = e

-- where the first isn't
left_over : (t u : Bool) → t ≡ false → (t || u) ≡ true → u ≡ true
left_over t u none e = sym (ap (λ v. v || u) none) ∙ e

none_of : (t u : Bool) → u ≡ false → (t && u) ≡ false
none_of true u e = e
none_of false u e = refl

-- the access itself is the last operation
at_once : (earlier : History) (a : Access) (h i : ℕ) (t : Bool) → (h == a.thread) ≡ t → seen (operation.Access a ∷ earlier) h (length earlier) ≡ true → seen earlier a.thread i ≡ true
    → seen (operation.Access a ∷ earlier) h i ≡ true
at_once earlier a h i true e is had =
    or_second (h == a.thread && i == length earlier) (seen earlier h i) (subst (λ u. seen earlier u i ≡ true) (sym (is_same h a.thread e)) had)
at_once earlier a h i false e is had =
    let rest : seen earlier h (length earlier) ≡ true =
    left_over (h == a.thread && length earlier == length earlier) (seen earlier h (length earlier)) (ap (λ t. t && length earlier == length earlier) e) is in
    absurd (omega (arith, seen_below earlier h (length earlier) rest))

-- a pass more
passed_on : (full : History) (from to h n i : ℕ) (t : Bool) → seen full h n ≡ t → (seen full h n || (h == to && seen full from n)) ≡ true
    → (seen full h n ≡ true → seen full h i ≡ true) → (seen full from n ≡ true → seen full from i ≡ true) → (seen full h i || (h == to && seen full from i)) ≡ true
passed_on full from to h n i true e is own other = or_first (seen full h i) (h == to && seen full from i) (own e)
passed_on full from to h n i false e is own other =
    let by : (h == to && seen full from n) ≡ true = left_over (seen full h n) (h == to && seen full from n) e is in
    or_second (seen full h i) (h == to && seen full from i)
    (both_are (h == to) (seen full from i) (first_of (h == to) (seen full from n) by) (other (second_of (h == to) (seen full from n) by)))

pub seen_behind : SeenBehindSeen
seen_behind [] earlier a h i is had = at_once earlier a h i (h == a.thread) refl is had
seen_behind (operation.Access b ∷ later) earlier a h i is had =
    let full : History = later ++ operation.Access a ∷ earlier in
    let below : length earlier < length full = longer later earlier (operation.Access a) in
    let before : (length earlier == length full) ≡ false = other_test (length earlier) (length full) (λ e. (let same = e in absurd (omega (arith, below, same)))) in
    let rest : seen full h (length earlier) ≡ true =
    left_over (h == b.thread && length earlier == length full) (seen full h (length earlier)) (none_of (h == b.thread) (length earlier == length full) before) is in
    or_second (h == b.thread && i == length full) (seen full h i) (seen_behind later earlier a h i rest had)
seen_behind (operation.Pass from to p ∷ later) earlier a h i is had =
    let full : History = later ++ operation.Access a ∷ earlier in
    passed_on full from to h (length earlier) i (seen full h (length earlier)) refl is
    (λ own. seen_behind later earlier a h i own had) (λ other. seen_behind later earlier a from i other had)
seen_behind (operation.Renew m ∷ later) earlier a h i is had = seen_behind later earlier a h i is had
seen_behind (operation.Lock l p ∷ later) earlier a h i is had = seen_behind later earlier a h i is had

-- The row that is looked for.
use Rattle.std.proofs.Common.{◌≡◌, ◌≢◌, ◌<◌, ◌≤◌, ◌==◌, ℕ, zero, suc, ◌+◌, nat_lt, Bool, true, false, if◌then◌else◌, List, [], ◌∷◌, ◌++◌, length, drop, get_or, slice_get, slice_set, Some, refl, sym, ap, ◌∙◌, subst, arith}
use Rattle.std.proofs.lemmas.Option.{slice_get-get_or}
use Rattle.ckrt_look_profile.specs.declared.functions.Function.{Function}
use Rattle.ckrt_look_profile.specs.declared.row.Base.{Base}
use Rattle.ckrt_look_profile.specs.declared.row.Row.{Row}
use Rattle.ckrt_look_profile.specs.declared.waits.Awaited.{Awaited}
use Rattle.ckrt_look_profile.specs.declared.waits.Waited.{Waited}
use Rattle.std.proofs.lemmas.Bool.Decides.{nat_tests}
use Rattle.std.specs.List.{insert}
use Rattle.ckrt_look_profile.specs.declared.shares.Share.{Share}
use Rattle.ckrt_look_profile.specs.Functions.{first_of, function_place, joined, with_stack}
use Rattle.ckrt_look_profile.specs.Shares.{placed, rank_of}
use Rattle.ckrt_look_profile.specs.Stacks.{is_row, place_of}
use Rattle.ckrt_look_profile.specs.Waits.{is_waited, wait_place}

-- THE FIRST OF A LIST THAT MEETS A TEST, by its number

abbrev pub has_fewer : ℕ → Share → Bool
has_fewer n y = nat_lt y.steps n

abbrev pub first : {X : Type 0} → (X → Bool) → List X → ℕ
first test [] = 0
first test (x ∷ xs) = if test x then 0 else suc (first test xs)

-- what is read at a place
pub read_at : {X : Type 0} (xs : List X) (i : ℕ) (x : X) → x ≡ get_or xs i x → i < length xs → slice_get xs i ≡ Some x
read_at xs i x is lt = slice_get-get_or xs i x lt ∙ ap (λ y. Some y) (sym is)

-- none ahead
none_ahead : {X : Type 0} (test : X → Bool) (xs : List X) (i : ℕ) → length xs ≤ i → first test (drop i xs) ≡ 0
none_ahead test [] i le = go i
  where
    go : (j : ℕ) → first test (drop j []) ≡ 0
    go zero = refl
    go (suc j) = refl
none_ahead test (x ∷ xs) zero le = absurd (omega arith)
none_ahead test (x ∷ xs) (suc i) le = none_ahead test xs i (omega arith)

-- this one is it
here : {X : Type 0} (test : X → Bool) (xs : List X) (i : ℕ) (x : X) → slice_get xs i ≡ Some x → test x ≡ true → first test (drop i xs) ≡ 0
here test [] i x there is = absurd (cc)
here test (y ∷ xs) zero x there is = go (test y) (let same : y ≡ x = cc in ap test same ∙ is)
  where
    go : (t : Bool) → t ≡ true → (if t then 0 else suc (first test xs)) ≡ 0
    go true e = refl
    go false e = absurd (cc)
here test (y ∷ xs) (suc i) x there is = here test xs i x there is

-- this one isn't
not_here : {X : Type 0} (test : X → Bool) (xs : List X) (i : ℕ) (x : X) → slice_get xs i ≡ Some x → test x ≡ false → first test (drop i xs) ≡ suc (first test (drop (suc i) xs))
not_here test [] i x there is = absurd (cc)
not_here test (y ∷ xs) zero x there is = go (test y) (let same : y ≡ x = cc in ap test same ∙ is)
  where
    go : (t : Bool) → t ≡ false → (if t then 0 else suc (first test xs)) ≡ suc (first test xs)
    go false e = refl
    go true e = absurd (cc)
not_here test (y ∷ xs) (suc i) x there is = not_here test xs i x there is

place_is_first : (b : Base) (p : ℕ) (rs : List Row) → place_of b p rs ≡ first (is_row b p) rs
place_is_first b p [] = refl
place_is_first b p (r ∷ rs) = ap (λ n. if is_row b p r then 0 else suc n) (place_is_first b p rs)

wait_is_first : (t : ℕ) (a : Awaited) (ws : List Waited) → wait_place t a ws ≡ first (is_waited t a) ws
wait_is_first t a [] = refl
wait_is_first t a (w ∷ ws) = ap (λ n. if is_waited t a w then 0 else suc n) (wait_is_first t a ws)

-- A ROW

pub row_here : (b : Base) (p : ℕ) (rs : List Row) (i : ℕ) (r : Row) → r ≡ get_or rs i r → i < length rs → is_row b p r ≡ true → place_of b p (drop i rs) ≡ 0
row_here b p rs i r read lt is = place_is_first b p (drop i rs) ∙ here (is_row b p) rs i r (read_at rs i r read lt) is

pub row_further : (b : Base) (p : ℕ) (rs : List Row) (i : ℕ) (r : Row) → r ≡ get_or rs i r → i < length rs → is_row b p r ≡ false → place_of b p (drop i rs) ≡ suc (place_of b p (drop (i + 1) rs))
row_further b p rs i r read lt is =
    place_is_first b p (drop i rs) ∙ not_here (is_row b p) rs i r (read_at rs i r read lt) is
    ∙ ap suc (ap (λ j. first (is_row b p) (drop j rs)) (sym one) ∙ sym (place_is_first b p (drop (i + 1) rs)))
  where
    one : i + 1 ≡ suc i
    one = omega arith

pub no_row_ahead : (b : Base) (p : ℕ) (rs : List Row) (i : ℕ) → length rs ≤ i → place_of b p (drop i rs) ≡ 0
no_row_ahead b p rs i le = place_is_first b p (drop i rs) ∙ none_ahead (is_row b p) rs i le

-- A FUNCTION

abbrev pub is_at : ℕ → Function → Bool
is_at p f = f.entry == p

function_is_first : (p : ℕ) (fs : List Function) → function_place p fs ≡ first (is_at p) fs
function_is_first p [] = refl
function_is_first p (f ∷ fs) = ap (λ n. if f.entry == p then 0 else suc n) (function_is_first p fs)

pub function_here : (p : ℕ) (fs : List Function) (i : ℕ) (f : Function) → f ≡ get_or fs i f → i < length fs → f.entry ≡ p → function_place p (drop i fs) ≡ 0
function_here p fs i f read lt is = function_is_first p (drop i fs) ∙ here (is_at p) fs i f (read_at fs i f read lt) (grind (arith, nat_tests, is))

pub function_further : (p : ℕ) (fs : List Function) (i : ℕ) (f : Function) → f ≡ get_or fs i f → i < length fs → f.entry ≢ p → function_place p (drop i fs) ≡ suc (function_place p (drop (i + 1) fs))
function_further p fs i f read lt is =
    function_is_first p (drop i fs) ∙ not_here (is_at p) fs i f (read_at fs i f read lt) (grind (arith, nat_tests, is))
    ∙ ap suc (ap (λ j. first (is_at p) (drop j fs)) (sym one) ∙ sym (function_is_first p (drop (i + 1) fs)))
  where
    one : i + 1 ≡ suc i
    one = omega arith

pub no_function_ahead : (p : ℕ) (fs : List Function) (i : ℕ) → length fs ≤ i → function_place p (drop i fs) ≡ 0
no_function_ahead p fs i le = function_is_first p (drop i fs) ∙ none_ahead (is_at p) fs i le

-- a stack joins the one at its place
pub joined_there : (r : Row) (fs : List Function) (i : ℕ) (f : Function) → f ≡ get_or fs i f → i < length fs → i ≡ function_place r.entry fs → slice_set fs i (joined f r) ≡ with_stack r fs
joined_there r fs i f read less there =
    let is : slice_get fs (function_place r.entry fs) ≡ Some f = subst (λ k. slice_get fs k ≡ Some f) there (read_at fs i f read less) in
    ap (λ k. slice_set fs k (joined f r)) there ∙ joins r fs f is
  where
    joins : (r : Row) (fs : List Function) (f : Function) → slice_get fs (function_place r.entry fs) ≡ Some f → slice_set fs (function_place r.entry fs) (joined f r) ≡ with_stack r fs
    joins r [] f there = absurd (cc)
    joins r (g ∷ fs) f there = go (g.entry == r.entry) (joins r fs f) there
      where
        go : (t : Bool) → (slice_get fs (function_place r.entry fs) ≡ Some f → slice_set fs (function_place r.entry fs) (joined f r) ≡ with_stack r fs)
            → slice_get (g ∷ fs) (if t then 0 else suc (function_place r.entry fs)) ≡ Some f
            → slice_set (g ∷ fs) (if t then 0 else suc (function_place r.entry fs)) (joined f r) ≡ (if t then joined g r ∷ fs else g ∷ with_stack r fs)
        go true rest is = (let same : g ≡ f = cc in ap (λ (h : Function). joined h r ∷ fs) (sym same))
        go false rest is = ap (λ l. g ∷ l) (rest is)

-- or stands behind all, where there is none
pub joined_last : (r : Row) (fs : List Function) → length fs ≤ function_place r.entry fs → fs ++ first_of r ∷ [] ≡ with_stack r fs
joined_last r [] le = refl
joined_last r (g ∷ fs) le = go (g.entry == r.entry) (joined_last r fs) le
  where
    go : (t : Bool) → (length fs ≤ function_place r.entry fs → fs ++ first_of r ∷ [] ≡ with_stack r fs)
        → suc (length fs) ≤ (if t then 0 else suc (function_place r.entry fs))
        → g ∷ (fs ++ first_of r ∷ []) ≡ (if t then joined g r ∷ fs else g ∷ with_stack r fs)
    go true rest fewer = absurd (omega (arith, fewer))
    go false rest fewer = ap (λ l. g ∷ l) (rest (omega (arith, fewer)))

-- A SHARE

rank_is_first : (n : ℕ) (ys : List Share) → rank_of n ys ≡ first (has_fewer n) ys
rank_is_first n [] = refl
rank_is_first n (y ∷ ys) = ap (λ m. if nat_lt y.steps n then 0 else suc m) (rank_is_first n ys)

pub rank_here : (n : ℕ) (ys : List Share) (i : ℕ) (y : Share) → y ≡ get_or ys i y → i < length ys → y.steps < n → rank_of n (drop i ys) ≡ 0
rank_here n ys i y read lt is = rank_is_first n (drop i ys) ∙ here (has_fewer n) ys i y (read_at ys i y read lt) (grind (arith, nat_tests, is))

pub rank_further : (n : ℕ) (ys : List Share) (i : ℕ) (y : Share) → y ≡ get_or ys i y → i < length ys → n ≤ y.steps → rank_of n (drop i ys) ≡ suc (rank_of n (drop (i + 1) ys))
rank_further n ys i y read lt is =
    rank_is_first n (drop i ys) ∙ not_here (has_fewer n) ys i y (read_at ys i y read lt) (grind (arith, nat_tests, is))
    ∙ ap suc (ap (λ j. first (has_fewer n) (drop j ys)) (sym one) ∙ sym (rank_is_first n (drop (i + 1) ys)))
  where
    one : i + 1 ≡ suc i
    one = omega arith

pub no_rank_ahead : (n : ℕ) (ys : List Share) (i : ℕ) → length ys ≤ i → rank_of n (drop i ys) ≡ 0
no_rank_ahead n ys i le = rank_is_first n (drop i ys) ∙ none_ahead (has_fewer n) ys i le

-- it is placed at its rank
pub placed_there : (x : Share) (ys : List Share) → insert ys (rank_of x.steps ys) x ≡ placed x ys
placed_there x [] = refl
placed_there x (y ∷ ys) = go (nat_lt y.steps x.steps) (placed_there x ys)
  where
    go : (t : Bool) → insert ys (rank_of x.steps ys) x ≡ placed x ys → insert (y ∷ ys) (if t then 0 else suc (rank_of x.steps ys)) x ≡ (if t then x ∷ y ∷ ys else y ∷ placed x ys)
    go true rest = refl
    go false rest = ap (λ l. y ∷ l) rest

-- A WAIT

pub wait_here : (t : ℕ) (a : Awaited) (ws : List Waited) (i : ℕ) (w : Waited) → w ≡ get_or ws i w → i < length ws → is_waited t a w ≡ true → wait_place t a (drop i ws) ≡ 0
wait_here t a ws i w read lt is = wait_is_first t a (drop i ws) ∙ here (is_waited t a) ws i w (read_at ws i w read lt) is

pub wait_further : (t : ℕ) (a : Awaited) (ws : List Waited) (i : ℕ) (w : Waited) → w ≡ get_or ws i w → i < length ws → is_waited t a w ≡ false → wait_place t a (drop i ws) ≡ suc (wait_place t a (drop (i + 1) ws))
wait_further t a ws i w read lt is =
    wait_is_first t a (drop i ws) ∙ not_here (is_waited t a) ws i w (read_at ws i w read lt) is
    ∙ ap suc (ap (λ j. first (is_waited t a) (drop j ws)) (sym one) ∙ sym (wait_is_first t a (drop (i + 1) ws)))
  where
    one : i + 1 ≡ suc i
    one = omega arith

pub no_wait_ahead : (t : ℕ) (a : Awaited) (ws : List Waited) (i : ℕ) → length ws ≤ i → wait_place t a (drop i ws) ≡ 0
no_wait_ahead t a ws i le = wait_is_first t a (drop i ws) ∙ none_ahead (is_waited t a) ws i le

-- Columns of steps, piece by piece.
use Rattle.std.proofs.Common.{◌≡◌, ◌∙◌, ◌≤◌, ◌<◌, ◌+◌, ◌-◌, ◌==◌, ℕ, zero, suc, Bool, true, false, if◌then◌else◌, List, [], ◌∷◌, ◌++◌, length, take, drop, replicate, get_or, refl, sym, ap, subst, arith}
use Rattle.std.specs.Prelude.{nat_lt, slice_set}
use Rattle.std.proofs.Common.{eqb, eqb-true, ◌≢◌}
use Rattle.std.proofs.lemmas.List.{length-append, length-replicate, length-set, get_or-set_other, get_or-set_same}
use Rattle.std.proofs.lemmas.Bool.Decides.{nat_tests}
use Rattle.ckrt_look_timeline.specs.declared.piece.Activity.{Activity}
use Rattle.ckrt_look_timeline.specs.declared.piece.Activity.TheVariants as activity
use Rattle.ckrt_look_timeline.specs.declared.piece.Piece.{Piece}
use Rattle.ckrt_look_timeline.specs.declared.shares.Column.{Column}
use Rattle.ckrt_look_timeline.specs.declared.shares.Share.{Share}
use Rattle.ckrt_look_timeline.specs.declared.shares.Spot.{Spot}
use Rattle.ckrt_look_timeline.specs.Pieces.{laid}
use Rattle.ckrt_look_timeline.specs.Shares.{IsColumn, IsSpot, behind, by_kind, column_text, counted_column, filled_text, kind_at, rest_of, share, shares_of, total}

-- LISTS

pub drop_more : {X : Type 0} (u n : ℕ) (xs : List X) → drop (u + n) xs ≡ drop n (drop u xs)
drop_more zero n xs = (let same : 0 + n ≡ n = omega arith in ap (λ j. drop j xs) same)
drop_more (suc u) zero [] = (let next : suc u + 0 ≡ suc u = omega arith in ap (λ j. drop j []) next)
drop_more (suc u) (suc n) [] = (let next : suc u + suc n ≡ suc (u + suc n) = omega arith in ap (λ j. drop j []) next)
drop_more (suc u) n (x ∷ xs) = (let next : suc u + n ≡ suc (u + n) = omega arith in ap (λ j. drop j (x ∷ xs)) next ∙ drop_more u n xs)

pub take_more_of : {X : Type 0} (n m : ℕ) (xs : List X) → take (n + m) xs ≡ take n xs ++ take m (drop n xs)
take_more_of zero m xs = (let same : 0 + m ≡ m = omega arith in ap (λ j. take j xs) same)
take_more_of (suc n) zero [] = (let next : suc n + 0 ≡ suc n = omega arith in ap (λ j. take j []) next)
take_more_of (suc n) (suc m) [] = (let next : suc n + suc m ≡ suc (n + suc m) = omega arith in ap (λ j. take j []) next)
take_more_of (suc n) m (x ∷ xs) = (let next : suc n + m ≡ suc (n + m) = omega arith in ap (λ j. take j (x ∷ xs)) next ∙ ap (λ l. x ∷ l) (take_more_of n m xs))

pub alike : {X : Type 0} (s u n : ℕ) (a : X) (more : List X) → u + n ≤ s → take n (drop u (replicate s a ++ more)) ≡ replicate n a
alike s zero zero a more le = refl
alike zero zero (suc n) a more le = absurd (omega (arith, le))
alike (suc s) zero (suc n) a more le = ap (λ l. a ∷ l) (alike s zero n a more (omega (arith, le)))
alike zero (suc u) n a more le = absurd (omega (arith, le))
alike (suc s) (suc u) n a more le = alike s u n a more (omega (arith, le))

pub through : {X : Type 0} (s : ℕ) (a : X) (more : List X) → drop s (replicate s a ++ more) ≡ more
through zero a more = refl
through (suc s) a more = through s a more

pub drop_item : {X : Type 0} (i : ℕ) (xs : List X) (d : X) → i < length xs → drop i xs ≡ get_or xs i d ∷ drop (i + 1) xs
drop_item i [] d less = absurd (omega (arith, less))
drop_item zero (x ∷ xs) d less = (let one : 1 ≡ 0 + 1 = omega arith in ap (λ j. x ∷ drop j (x ∷ xs)) one)
drop_item (suc i) (x ∷ xs) d less =
    let next : suc (i + 1) ≡ suc i + 1 = omega arith in
    drop_item i xs d (omega (arith, less)) ∙ ap (λ j. get_or xs i d ∷ drop j (x ∷ xs)) next

-- SHARES

if_more : (b : Bool) (x y z : ℕ) → x ≡ y + z → (if b then x + 1 else x) ≡ (if b then y + 1 else y) + z
if_more true x y z is = omega (arith, is)
if_more false x y z is = is

pub share_both : (k : ℕ) (xs ys : List Activity) → share k (xs ++ ys) ≡ share k xs + share k ys
share_both k [] ys = omega arith
share_both k (a ∷ xs) ys = if_more (kind_at a == k) (share k (xs ++ ys)) (share k xs) (share k ys) (share_both k xs ys)

if_none : (b : Bool) (x : ℕ) → x ≡ 0 → x ≡ (if b then x else 0)
if_none true x is = refl
if_none false x is = is

if_next : (b : Bool) (x n : ℕ) → x ≡ (if b then n else 0) → (if b then x + 1 else x) ≡ (if b then suc n else 0)
if_next true x n is = omega (arith, is)
if_next false x n is = is

pub share_alike : (k n : ℕ) (a : Activity) → share k (replicate n a) ≡ (if kind_at a == k then n else 0)
share_alike k zero a = if_none (kind_at a == k) 0 refl
share_alike k (suc n) a = if_next (kind_at a == k) (share k (replicate n a)) n (share_alike k n a)

-- A PIECE, some steps of it

abbrev pub nothing : Piece
nothing = record { activity = activity.Absent; steps = 0 }

module _ (ps : List Piece) (at : Spot) (n : ℕ) (less : at.index < length ps) (fits : at.used + n ≤ (get_or ps at.index nothing).steps) where
  abbrev pub p : Piece
  p = get_or ps at.index nothing

  abbrev pub more : List Activity
  more = laid (drop (at.index + 1) ps)

  laid_is : laid (drop at.index ps) ≡ replicate p.steps p.activity ++ more
  laid_is = ap (λ (l : List Piece). laid l) (drop_item at.index ps nothing less)

  pub some_of : take n (rest_of ps at) ≡ replicate n p.activity
  some_of = ap (λ l. take n (drop at.used l)) laid_is ∙ alike p.steps at.used n p.activity more fits

  pub rest_within : rest_of ps (record at { used = at.used + n }) ≡ drop n (rest_of ps at)
  rest_within = drop_more at.used n (laid (drop at.index ps))

  pub rest_behind : at.used + n ≡ p.steps → rest_of ps (record { index = at.index + 1; used = 0 }) ≡ drop n (rest_of ps at)
  rest_behind all =
      sym (sym (drop_more at.used n (laid (drop at.index ps))) ∙ ap (λ j. drop j (laid (drop at.index ps))) all ∙ ap (λ l. drop p.steps l) laid_is ∙ through p.steps p.activity more)

  pub behind_is : rest_of ps (behind at p n) ≡ drop n (rest_of ps at)
  behind_is = go (nat_lt (at.used + n) p.steps) refl
    where
      go : (b : Bool) → nat_lt (at.used + n) p.steps ≡ b → rest_of ps (if b then record at { used = at.used + n } else record { index = at.index + 1; used = 0 }) ≡ drop n (rest_of ps at)
      go true e = rest_within
      go false e = rest_behind (let more_left : p.steps ≤ at.used + n = grind (arith, nat_tests, e) in omega (arith, fits, more_left))

  pub behind_spot : IsSpot ps (behind at p n)
  behind_spot = go (nat_lt (at.used + n) p.steps)
    where
      go : (b : Bool) → IsSpot ps (if b then record at { used = at.used + n } else record { index = at.index + 1; used = 0 })
      go true = λ inside. fits
      go false = λ inside. omega arith

pub piece_within : (ps : List Piece) (i : ℕ) → i < length ps → (get_or ps i nothing).steps ≤ length (laid ps)
piece_within [] i less = absurd (omega (arith, less))
piece_within (p ∷ ps) zero less =
    let both = length-append (replicate p.steps p.activity) (laid ps) in
    let here = length-replicate p.steps p.activity in
    omega (arith, both, here)
piece_within (p ∷ ps) (suc i) less =
    let both = length-append (replicate p.steps p.activity) (laid ps) in
    let behind_it = piece_within ps i (omega (arith, less)) in
    omega (arith, both, behind_it)

pub lengths : {X : Type 0} (n : ℕ) (xs : List X) → length (take n xs) + length (drop n xs) ≡ length xs
lengths zero xs = omega arith
lengths (suc n) [] = omega arith
lengths (suc n) (x ∷ xs) = (let rest = lengths n xs in omega (arith, rest))

-- A COLUMN THAT IS COUNTED, piece by piece

-- so many steps of it are left
pub record IsCounting (ps : List Piece) (span : ℕ) (from : List Activity) (shares : List ℕ) (left : ℕ) (at : Spot) : Type 0 where
  pub size : length shares ≡ 11
  pub within : left ≤ span
  pub spot : at.index < length ps → at.used ≤ (get_or ps at.index nothing).steps
  pub few : (k : ℕ) → k ≤ 10 → get_or shares k 0 + left ≤ span
  pub counted : (k : ℕ) → k ≤ 10 → get_or shares k 0 + share k (take left (rest_of ps at)) ≡ share k (take span from)
  pub steps : span - left + length (take left (rest_of ps at)) ≡ length (take span from)
  pub rest : drop left (rest_of ps at) ≡ drop span from

module _ (ps : List Piece) (span : ℕ) (from : List Activity) (shares : List ℕ) (left : ℕ) (at : Spot) (so_far : IsCounting ps span from shares left at) (n : ℕ) (less : at.index < length ps)
    (fits : at.used + n ≤ (get_or ps at.index nothing).steps) (few : n ≤ left) (z : Spot) (is_behind : rest_of ps z ≡ drop n (rest_of ps at)) where
  abbrev pub kind : Activity
  kind = (get_or ps at.index nothing).activity

  abbrev pub i : ℕ
  i = kind_at kind

  abbrev pub after : List ℕ
  after = slice_set shares i (get_or shares i 0 + n)

  abbrev pub rest : List Activity
  rest = rest_of ps at

  split : take left rest ≡ replicate n kind ++ take (left - n) (rest_of ps z)
  split =
      let is : left ≡ n + (left - n) = omega (arith, few) in
      ap (λ j. take j rest) is ∙ take_more_of n (left - n) rest ∙ ap (λ l. l ++ take (left - n) (drop n rest)) (some_of ps at n less fits)
      ∙ ap (λ l. replicate n kind ++ take (left - n) l) (sym is_behind)

  split_share : (k : ℕ) → share k (take left rest) ≡ (if i == k then n else 0) + share k (take (left - n) (rest_of ps z))
  split_share k = ap (share k) split ∙ share_both k (replicate n kind) (take (left - n) (rest_of ps z)) ∙ ap (λ j. j + share k (take (left - n) (rest_of ps z))) (share_alike k n kind)

  counts_at : (k : ℕ) → i < 11 → get_or after k 0 ≡ get_or shares k 0 + (if i == k then n else 0)
  counts_at k low = go (eqb i k) refl
    where
      go : (b : Bool) → eqb i k ≡ b → get_or after k 0 ≡ get_or shares k 0 + (if eqb i k then n else 0)
      go true e =
          subst (λ j. get_or after j 0 ≡ get_or shares j 0 + (if eqb i k then n else 0)) (eqb-true i k e)
          (get_or-set_same shares i (get_or shares i 0 + n) 0 (omega (arith, so_far.size, low)) ∙ ap (λ (c : Bool). get_or shares i 0 + (if c then n else 0)) (sym e))
      go false e =
          let other : k ≢ i = λ same. absurd (grind (arith, nat_tests, e, same)) in
          let none : get_or shares k 0 ≡ get_or shares k 0 + 0 = omega arith in
          get_or-set_other shares i k (get_or shares i 0 + n) 0 other ∙ none ∙ ap (λ (c : Bool). get_or shares k 0 + (if c then n else 0)) (sym e)

  -- and so many more are counted
  pub counting : i < 11 → (z.index < length ps → z.used ≤ (get_or ps z.index nothing).steps) → IsCounting ps span from after (left - n) z
  counting low spot = record {
    size = length-set shares i (get_or shares i 0 + n) ∙ so_far.size;
    within = omega (arith, so_far.within);
    spot = spot;
    few = λ k small. (let before = so_far.few k small in let at_k = counts_at k low in go_few k (i == k) (get_or after k 0) before at_k);
    counted = λ k small. (let all = so_far.counted k small in let at_k = counts_at k low in let parts = split_share k in
        omega (arith, all, at_k, parts));
    steps = (let all = so_far.steps in let parts : length (take left rest) ≡ n + length (take (left - n) (rest_of ps z)) =
        ap (λ l. length l) split ∙ length-append (replicate n kind) (take (left - n) (rest_of ps z)) ∙ ap (λ j. j + length (take (left - n) (rest_of ps z))) (length-replicate n kind) in
        omega (arith, all, parts, few, so_far.within));
    rest =
        (let is : left ≡ n + (left - n) = omega (arith, few) in
        ap (λ l. drop (left - n) l) is_behind ∙ sym (drop_more n (left - n) rest) ∙ ap (λ j. drop j rest) (sym is) ∙ so_far.rest);
  }
    where
      go_few : (k : ℕ) (b : Bool) (m : ℕ) → get_or shares k 0 + left ≤ span → m ≡ get_or shares k 0 + (if b then n else 0) → m + (left - n) ≤ span
      go_few k true m before is = omega (arith, before, is, few)
      go_few k false m before is = omega (arith, before, is)

-- A COLUMN THAT WAS COUNTED

-- all shares together are no more than its steps
pub total_within : (done : List Activity) → total (shares_of done) ≤ length done
total_within [] = omega arith
total_within (activity.Absent ∷ done) = (let before = total_within done in omega (arith, before))
total_within (activity.Ended ∷ done) = (let before = total_within done in omega (arith, before))
total_within (activity.Ready ∷ done) = (let before = total_within done in omega (arith, before))
total_within (activity.Running h ∷ done) = (let before = total_within done in omega (arith, before))
total_within (activity.Mutex a ∷ done) = (let before = total_within done in omega (arith, before))
total_within (activity.Condition a ∷ done) = (let before = total_within done in omega (arith, before))
total_within (activity.Barrier a ∷ done) = (let before = total_within done in omega (arith, before))
total_within (activity.RwLock a ∷ done) = (let before = total_within done in omega (arith, before))
total_within (activity.Join t ∷ done) = (let before = total_within done in omega (arith, before))
total_within (activity.Input ∷ done) = (let before = total_within done in omega (arith, before))
total_within (activity.Sleep ∷ done) = (let before = total_within done in omega (arith, before))

module _ (span : ℕ) (done : List Activity) (column : Column) (is : IsColumn span done column) where
  same : by_kind (λ k. get_or column.shares k 0) ≡ shares_of (take span done)
  same =
      rw (is.shares 0 (omega arith), is.shares 1 (omega arith), is.shares 2 (omega arith), is.shares 3 (omega arith), is.shares 4 (omega arith), is.shares 5 (omega arith), is.shares 6 (omega arith), is.shares 7 (omega arith), is.shares 8 (omega arith), is.shares 9 (omega arith)) refl

  pub total_counted : total (by_kind (λ k. get_or column.shares k 0)) ≤ column.steps
  total_counted = subst (λ n. total (by_kind (λ k. get_or column.shares k 0)) ≤ n) (sym is.steps) (subst (λ (l : List Share). total l ≤ length (take span done)) (sym same) (total_within (take span done)))

  pub counted_text : (t x : ℕ) → counted_column t x column ≡ column_text t x (take span done)
  counted_text t x =
      ap (λ n. if n == column.steps then [] else filled_text t x column.steps (by_kind (λ k. get_or column.shares k 0))) (is.shares 10 (omega arith))
      ∙ ap (λ n. if share 10 (take span done) == n then [] else filled_text t x n (by_kind (λ k. get_or column.shares k 0))) is.steps
      ∙ ap (λ (l : List Share). if share 10 (take span done) == length (take span done) then [] else filled_text t x (length (take span done)) l) same

-- Steps of a thread in one function, counted at once.
use Rattle.std.proofs.Common.{◌≡◌, ◌<◌, ℕ, zero, suc, ◌+◌, ◌==◌, Bool, true, false, if◌then◌else◌, List, [], ◌∷◌, length, slice_get, slice_set, Option, Some, None, refl, sym, ap, ◌∙◌, arith}
use Rattle.std.proofs.lemmas.List.{get_or-set_same}
use Rattle.ckrt_look_profile.specs.declared.row.Base.{Base}
use Rattle.ckrt_look_profile.specs.declared.row.Base.TheVariants as base
use Rattle.ckrt_look_profile.specs.declared.row.Position.{Position}
use Rattle.ckrt_look_profile.specs.declared.row.Row.{Row}
use Rattle.ckrt_look_profile.specs.declared.stacks.Frame.{Frame}
use Rattle.ckrt_look_profile.specs.declared.stacks.TheConstants.{THREADS}
use Rattle.ckrt_look_profile.specs.declared.counts.Note.TheVariants as note
use Rattle.ckrt_look_profile.specs.declared.turn.Turn.{Turn}
use Rattle.ckrt_look_profile.specs.declared.turn.Turn.TheVariants as turn
use Rattle.ckrt_look_profile.specs.Stacks.{Counted, Stacks, arrived, begin, counted, counted_at, frame_of, next_frame, row_at, stepped, stepped_from, together}
use Rattle.ckrt_look_profile.specs.Waits.{Waits, passed}
use Rattle.ckrt_look_profile.specs.Counts.{Counts, behind, behind_all, number_of, onward}
use Rattle.ckrt_look_profile.proofs.CountSumLemmas.{number_small}

-- one more on top of m more
one_on : (n m : ℕ) → together (together n m) 1 ≡ together n (suc m)
one_on n m = omega arith

-- LISTS

get_set : {X : Type 0} (xs : List X) (i : ℕ) (x y : X) → slice_get xs i ≡ Some x → slice_get (slice_set xs i y) i ≡ Some y
get_set [] i x y there = absurd (cc)
get_set (z ∷ zs) zero x y there = refl
get_set (z ∷ zs) (suc i) x y there = get_set zs i x y there

set_set : {X : Type 0} (xs : List X) (i : ℕ) (y z : X) → slice_set (slice_set xs i y) i z ≡ slice_set xs i z
set_set [] i y z = refl
set_set (x ∷ xs) zero y z = refl
set_set (x ∷ xs) (suc i) y z = ap (λ l. x ∷ l) (set_set xs i y z)

-- ROWS

abbrev unkept_too : List Row → ℕ → Counted
unkept_too rows n = record { rows = rows; unkept = n }

at_more : (m : ℕ) (b : Base) (rows : List Row) (n : ℕ) (o : Option Row) → row_at b rows ≡ o
    → counted_at 1 b (row_at b (counted_at m b o rows n).rows) (counted_at m b o rows n).rows (counted_at m b o rows n).unkept ≡ counted_at (suc m) b o rows n
at_more m (base.Thread t) rows n (Some r) there = ap (unkept_too rows) (one_on n m)
at_more m (base.Thread t) rows n None there = ap (unkept_too rows) (one_on n m)
at_more m (base.Row k) rows n None there =
    ap (λ o. counted_at 1 (base.Row k) o rows (together n m)) there ∙ ap (unkept_too rows) (one_on n m)
at_more m (base.Row k) rows n (Some r) there =
    let more : Row = record r { steps = together r.steps m } in
    let now : List Row = slice_set rows k more in
    ap (λ o. counted_at 1 (base.Row k) o now n) (get_set rows k r more there)
    ∙ ap (λ l. unkept_too l n) (set_set rows k more (record r { steps = together (together r.steps m) 1 }))
    ∙ ap (λ j. unkept_too (slice_set rows k (record r { steps = j })) n) (one_on r.steps m)

counted_more : (m : ℕ) (q : Position) (rows : List Row) (n : ℕ) → counted 1 q (counted m q rows n).rows (counted m q rows n).unkept ≡ counted (suc m) q rows n
counted_more m q rows n = go (q.lost == 0)
  where
    by : Bool → ℕ → List Row → ℕ → Counted
    by b k l u = if◌then◌else◌ {A = Counted} b (counted_at k q.base (row_at q.base l) l u) (record { rows = l; unkept = together u k })

    go : (b : Bool) → by b 1 (by b m rows n).rows (by b m rows n).unkept ≡ by b (suc m) rows n
    go true = at_more m q.base rows n (row_at q.base rows) refl
    go false = ap (unkept_too rows) (one_on n m)

-- STACKS

stacks_more : (m t p q : ℕ) (u : Turn) (s : Stacks) → t < length s.frames → stepped 1 t q u (stepped m t p turn.Onward s) ≡ stepped (suc m) t p u s
stacks_more m t p q u s less =
    let f = frame_of t s in
    let e = arrived t p f.position f.last s.rows in
    let so_far = stepped m t p turn.Onward s in
    let g = next_frame m f e.position turn.Onward in
    let there : frame_of t so_far ≡ g = get_or-set_same s.frames t g begin less in
    let last = next_frame 1 g e.position u in
    ap (λ (h : Frame). stepped_from 1 t u h (arrived t q h.position h.last so_far.rows) so_far) there
    ∙ ap (λ (c : Counted). both c (slice_set so_far.frames t last)) (counted_more m e.position e.rows s.unkept)
    ∙ ap (λ l. both (counted (suc m) e.position e.rows s.unkept) l) (set_set s.frames t g last)
    ∙ ap (λ j. both (counted (suc m) e.position e.rows s.unkept) (slice_set s.frames t (record last { steps = j }))) (one_on f.steps m)
  where
    both : Counted → List Frame → Stacks
    both c l = record { rows = c.rows; unkept = c.unkept; frames = l }

-- ALL THAT IS COUNTED

-- behind m steps, from the last of which the thread goes on so
abbrev after : (m t p : ℕ) → Turn → Counts → Counts
after m t p u c = record { stacks = stepped m t p u c.stacks; waits = passed m c.waits }

waits_more : (m : ℕ) (w : Waits) → passed 1 (passed m w) ≡ passed (suc m) w
waits_more m w = ap (λ n. record w { since = n }) (one_on w.since m)

after_more : (m t p q : ℕ) (u : Turn) (c : Counts) → t < length c.stacks.frames
    → record { stacks = stepped 1 t q u (after m t p turn.Onward c).stacks; waits = passed 1 (after m t p turn.Onward c).waits } ≡ after (suc m) t p u c
after_more m t p q u c less =
    ap (λ (s : Stacks). both s (passed 1 (passed m c.waits))) (stacks_more m t p q u c.stacks less)
    ∙ ap (λ (w : Waits). both (stepped (suc m) t p u c.stacks) w) (waits_more m c.waits)
  where
    both : Stacks → Waits → Counts
    both s w = record { stacks = s; waits = w }

further_counted : (ps : List ℕ) (m u p : ℕ) (c : Counts) → number_of u < length c.stacks.frames → behind_all (onward u ps) (after m (number_of u) p turn.Onward c) ≡ after (m + length ps) (number_of u) p turn.Onward c
further_counted [] m u p c less = (let same : m ≡ m + 0 = omega arith in ap (λ n. after n (number_of u) p turn.Onward c) same)
further_counted (q ∷ ps) m u p c less =
    let next : suc m + length ps ≡ m + suc (length ps) = omega arith in
    ap (λ (d : Counts). behind_all (onward u ps) d) (after_more m (number_of u) p q turn.Onward c less)
    ∙ further_counted ps (suc m) u p c less
    ∙ ap (λ n. after n (number_of u) p turn.Onward c) next

-- the first at p, and these further ones
all_onward : (n u p : ℕ) (c : Counts) → length c.stacks.frames ≡ THREADS → (ps : List ℕ) → suc (length ps) ≡ n → after n (number_of u) p turn.Onward c ≡ behind_all (onward u (p ∷ ps)) c
all_onward n u p c threads ps is =
    let all : n ≡ 1 + length ps = omega (arith, is) in
    let less : number_of u < length c.stacks.frames = omega (arith, number_small u, threads) in
    ap (λ j. after j (number_of u) p turn.Onward c) all ∙ sym (further_counted ps 1 u p c less)

both_are : (n u p : ℕ) (t : Turn) (c d : Counts) → d.stacks ≡ stepped n (number_of u) p t c.stacks → d.waits ≡ passed n c.waits → d ≡ after n (number_of u) p t c
both_are n u p t c d stacks waits =
    ap (λ (s : Stacks). both s d.waits) stacks ∙ ap (λ (w : Waits). both (stepped n (number_of u) p t c.stacks) w) waits
  where
    both : Stacks → Waits → Counts
    both s w = record { stacks = s; waits = w }

pub onward_counted : (n u p : ℕ) (c d : Counts) → d.stacks ≡ stepped n (number_of u) p turn.Onward c.stacks → d.waits ≡ passed n c.waits → length c.stacks.frames ≡ THREADS
    → (ps : List ℕ) → suc (length ps) ≡ n → d ≡ behind_all (onward u (p ∷ ps)) c
onward_counted n u p c d stacks waits threads ps is = both_are n u p turn.Onward c d stacks waits ∙ all_onward n u p c threads ps is

-- and one more at q, from which it goes on so
pub leaving_counted : (m n u p : ℕ) (t : Turn) (c d : Counts) → n ≡ suc m → d.stacks ≡ stepped n (number_of u) p t c.stacks → d.waits ≡ passed n c.waits → length c.stacks.frames ≡ THREADS
    → (ps : List ℕ) (q : ℕ) → suc (length ps) ≡ m → d ≡ behind (note.Step (record { thread = u; pc = q; turn = t })) (behind_all (onward u (p ∷ ps)) c)
leaving_counted m n u p t c d more stacks waits threads ps q is =
    let less : number_of u < length c.stacks.frames = omega (arith, number_small u, threads) in
    both_are n u p t c d stacks waits ∙ ap (λ j. after j (number_of u) p t c) more
    ∙ sym (after_more m (number_of u) p q t c less)
    ∙ ap (λ (e : Counts). behind (note.Step (record { thread = u; pc = q; turn = t })) e) (all_onward m u p c threads ps is)

-- The one outcome of a hunt is that of each of its seeds: no outcome that was noted is lost.
use Rattle.std.proofs.Common.{◌≡◌, ◌≢◌, ◌∙◌, ◌⊎◌, ◌==◌, ◌&&◌, ℕ, zero, suc, ◌+◌, ◌-◌, ◌≤◌, ◌<◌, false, inl, inr, Some, List, [], ◌∷◌, ◌++◌, length, ap, sym, subst, refl, arith, slice_get, slice_set, cond}
use Rattle.std.proofs.lemmas.Bool.{cases_order}
use Rattle.std.proofs.lemmas.Bool.Decides.{nat_tests}
use Rattle.ckrt_hunt_schedules.specs.declared.group.Group.{Group}
use Rattle.ckrt_hunt_schedules.specs.declared.kind.Kind.{Kind}
use Rattle.ckrt_hunt_schedules.specs.declared.kind.Kind.TheVariants as kind
use Rattle.ckrt_hunt_schedules.specs.declared.outcomes.Outcomes.{Outcomes}
use Rattle.ckrt_hunt_schedules.specs.declared.row.Row.{Row}
use Rattle.ckrt_hunt_schedules.specs.declared.runs.Finished.{Finished}
use Rattle.ckrt_hunt_schedules.specs.declared.runs.Told.{Told}
use Rattle.ckrt_hunt_schedules.specs.declared.seeds.Seeds.{Seeds}
use Rattle.ckrt_hunt_schedules.specs.declared.tally.Tally.{Tally}
use Rattle.ckrt_hunt_schedules.specs.declared.verdict.Verdict.TheVariants.{Several}
use Rattle.ckrt_hunt_schedules.specs.Kinds.{kind_of, verdict_by, verdict_of, verdict_of_row}
use Rattle.ckrt_hunt_schedules.specs.Tallies.{AreNoted, Grew, Hunted, IsNoted, IsNotedIn, IsTallyOf, SeedComesTo, counted_again, first_row, group_of, one_more, others_of, plan_in, plus, rows_of, with_group}
use Rattle.ckrt_hunt_schedules.specs.Verdicts.{IsOneOfAll}
use Rattle.ckrt_hunt_schedules.proofs.RunLemmas.{same_told}

-- WHAT HAS A ROW

abbrev IsIn : Told → List Row → Type 0
IsIn t [] = ⊥
IsIn t (r ∷ rs) = (r.told ≡ t) ⊎ IsIn t rs

in_front : (t : Told) (xs ys : List Row) → IsIn t xs → IsIn t (xs ++ ys)
in_front t [] ys h = absurd h
in_front t (r ∷ rs) ys (inl e) = inl e
in_front t (r ∷ rs) ys (inr h) = inr (in_front t rs ys h)

in_behind : (t : Told) (xs ys : List Row) → IsIn t ys → IsIn t (xs ++ ys)
in_behind t [] ys h = h
in_behind t (r ∷ rs) ys h = inr (in_behind t rs ys h)

further : (t : Told) (r : Row) (rs ys : List Row) → IsIn t rs ⊎ IsIn t ys → IsIn t (r ∷ rs) ⊎ IsIn t ys
further t r rs ys (inl h) = inl (inr h)
further t r rs ys (inr h) = inr h

in_either : (t : Told) (xs ys : List Row) → IsIn t (xs ++ ys) → IsIn t xs ⊎ IsIn t ys
in_either t [] ys h = inr h
in_either t (r ∷ rs) ys (inl e) = inl (inl e)
in_either t (r ∷ rs) ys (inr h) = further t r rs ys (in_either t rs ys h)

-- a row that counts once more
in_set : (t : Told) (xs : List Row) (k : ℕ) (r s : Row) → slice_get xs k ≡ Some r → s.told ≡ r.told → IsIn t xs → IsIn t (slice_set xs k s)
in_set t [] k r s g e h = absurd h
in_set t (x ∷ xs) zero r s g e (inl same) = let is : x ≡ r = cc in inl (e ∙ ap (λ (y : Row). y.told) (sym is) ∙ same)
in_set t (x ∷ xs) zero r s g e (inr h) = inr h
in_set t (x ∷ xs) (suc k) r s g e (inl same) = inl same
in_set t (x ∷ xs) (suc k) r s g e (inr h) = inr (in_set t xs k r s g e h)

at_set : (t : Told) (xs : List Row) (k : ℕ) (r s : Row) → slice_get xs k ≡ Some r → s.told ≡ t → IsIn t (slice_set xs k s)
at_set t [] k r s g e = absurd (cc)
at_set t (x ∷ xs) zero r s g e = inl e
at_set t (x ∷ xs) (suc k) r s g e = inr (at_set t xs k r s g e)

module _ (seed : ℕ) (run : Finished) (old new : Group) where
  -- what was noted has a row, or there was none for it
  noted_here : IsNotedIn seed run old new → new.others ≡ 0 → IsIn run.told new.rows.items
  noted_here (inl a) z = subst (IsIn run.told) (sym a.rows) (at_set run.told old.rows.items a.place a.row (counted_again seed a.row) a.is_first.row a.is_first.same)
  noted_here (inr (inl g)) z = subst (IsIn run.told) (sym g.rows) (in_behind run.told old.rows.items (first_row seed run ∷ []) (inl refl))
  noted_here (inr (inr l)) z = let none : one_more old.others ≡ 0 = sym l.others ∙ z in absurd (grind (arith, none))

  -- and what had one has it
  stays : IsNotedIn seed run old new → (t : Told) → IsIn t old.rows.items → IsIn t new.rows.items
  stays (inl a) t h = subst (IsIn t) (sym a.rows) (in_set t old.rows.items a.place a.row (counted_again seed a.row) a.is_first.row refl h)
  stays (inr (inl g)) t h = subst (IsIn t) (sym g.rows) (in_front t old.rows.items (first_row seed run ∷ []) h)
  stays (inr (inr l)) t h = subst (IsIn t) (sym l.rows) h

  -- where none is without a row, none was
  were_none : IsNotedIn seed run old new → new.others ≡ 0 → old.others ≡ 0
  were_none (inl a) z = sym a.others ∙ z
  were_none (inr (inl g)) z = sym g.others ∙ z
  were_none (inr (inr l)) z = let none : one_more old.others ≡ 0 = sym l.others ∙ z in absurd (grind (arith, none))

-- ALL KINDS

both : (t : Told) (a b x y : List Row) → (IsIn t a → IsIn t x) → (IsIn t b → IsIn t y) → IsIn t (a ++ b) → IsIn t (x ++ y)
both t a b x y f g h = at (in_either t a b h)
  where
    at : IsIn t a ⊎ IsIn t b → IsIn t (x ++ y)
    at (inl i) = in_front t x y (f i)
    at (inr i) = in_behind t x y (g i)

-- what is in a part of a tally is in all of it
in_group : (k : Kind) (t : Told) (it : Tally) → IsIn t (group_of k it).rows.items → IsIn t (rows_of it)
in_group kind.Fault t it h = in_front t _ it.exits.rows.items (in_front t _ it.input_waits.rows.items (in_front t _ it.no_ends.rows.items (in_front t _ it.other_statuses.rows.items (in_front t it.faults.rows.items it.deadlocks.rows.items h))))
in_group kind.Deadlock t it h = in_front t _ it.exits.rows.items (in_front t _ it.input_waits.rows.items (in_front t _ it.no_ends.rows.items (in_front t _ it.other_statuses.rows.items (in_behind t it.faults.rows.items it.deadlocks.rows.items h))))
in_group kind.OtherStatus t it h = in_front t _ it.exits.rows.items (in_front t _ it.input_waits.rows.items (in_front t _ it.no_ends.rows.items (in_behind t _ it.other_statuses.rows.items h)))
in_group kind.NoEnd t it h = in_front t _ it.exits.rows.items (in_front t _ it.input_waits.rows.items (in_behind t _ it.no_ends.rows.items h))
in_group kind.WaitsForInput t it h = in_front t _ it.exits.rows.items (in_behind t _ it.input_waits.rows.items h)
in_group kind.ExitZero t it h = in_behind t _ it.exits.rows.items h

id : (t : Told) (xs : List Row) → IsIn t xs → IsIn t xs
id t xs h = h

-- a tally whose parts each have what others have
parts : (t : Told) (a b c d e f u v w x y z : List Row) → (IsIn t a → IsIn t u) → (IsIn t b → IsIn t v) → (IsIn t c → IsIn t w) → (IsIn t d → IsIn t x) → (IsIn t e → IsIn t y) → (IsIn t f → IsIn t z)
    → IsIn t (a ++ b ++ c ++ d ++ e ++ f) → IsIn t (u ++ v ++ w ++ x ++ y ++ z)
parts t a b c d e f u v w x y z p q r s o n = both t _ f _ z (both t _ e _ y (both t _ d _ x (both t _ c _ w (both t a b u v p q) r) s) o) n

kept : (j : Kind) (t : Told) (g : Group) (it : Tally) → (IsIn t (group_of j it).rows.items → IsIn t g.rows.items) → IsIn t (rows_of it) → IsIn t (rows_of (with_group j g it))
kept kind.Fault t g it more = parts t it.faults.rows.items it.deadlocks.rows.items it.other_statuses.rows.items it.no_ends.rows.items it.input_waits.rows.items it.exits.rows.items g.rows.items it.deadlocks.rows.items it.other_statuses.rows.items it.no_ends.rows.items it.input_waits.rows.items it.exits.rows.items more (id t it.deadlocks.rows.items) (id t it.other_statuses.rows.items) (id t it.no_ends.rows.items) (id t it.input_waits.rows.items) (id t it.exits.rows.items)
kept kind.Deadlock t g it more = parts t it.faults.rows.items it.deadlocks.rows.items it.other_statuses.rows.items it.no_ends.rows.items it.input_waits.rows.items it.exits.rows.items it.faults.rows.items g.rows.items it.other_statuses.rows.items it.no_ends.rows.items it.input_waits.rows.items it.exits.rows.items (id t it.faults.rows.items) more (id t it.other_statuses.rows.items) (id t it.no_ends.rows.items) (id t it.input_waits.rows.items) (id t it.exits.rows.items)
kept kind.OtherStatus t g it more = parts t it.faults.rows.items it.deadlocks.rows.items it.other_statuses.rows.items it.no_ends.rows.items it.input_waits.rows.items it.exits.rows.items it.faults.rows.items it.deadlocks.rows.items g.rows.items it.no_ends.rows.items it.input_waits.rows.items it.exits.rows.items (id t it.faults.rows.items) (id t it.deadlocks.rows.items) more (id t it.no_ends.rows.items) (id t it.input_waits.rows.items) (id t it.exits.rows.items)
kept kind.NoEnd t g it more = parts t it.faults.rows.items it.deadlocks.rows.items it.other_statuses.rows.items it.no_ends.rows.items it.input_waits.rows.items it.exits.rows.items it.faults.rows.items it.deadlocks.rows.items it.other_statuses.rows.items g.rows.items it.input_waits.rows.items it.exits.rows.items (id t it.faults.rows.items) (id t it.deadlocks.rows.items) (id t it.other_statuses.rows.items) more (id t it.input_waits.rows.items) (id t it.exits.rows.items)
kept kind.WaitsForInput t g it more = parts t it.faults.rows.items it.deadlocks.rows.items it.other_statuses.rows.items it.no_ends.rows.items it.input_waits.rows.items it.exits.rows.items it.faults.rows.items it.deadlocks.rows.items it.other_statuses.rows.items it.no_ends.rows.items g.rows.items it.exits.rows.items (id t it.faults.rows.items) (id t it.deadlocks.rows.items) (id t it.other_statuses.rows.items) (id t it.no_ends.rows.items) more (id t it.exits.rows.items)
kept kind.ExitZero t g it more = parts t it.faults.rows.items it.deadlocks.rows.items it.other_statuses.rows.items it.no_ends.rows.items it.input_waits.rows.items it.exits.rows.items it.faults.rows.items it.deadlocks.rows.items it.other_statuses.rows.items it.no_ends.rows.items it.input_waits.rows.items g.rows.items (id t it.faults.rows.items) (id t it.deadlocks.rows.items) (id t it.other_statuses.rows.items) (id t it.no_ends.rows.items) (id t it.input_waits.rows.items) more

group_with : (j : Kind) (g : Group) (it : Tally) → group_of j (with_group j g it) ≡ g
group_with kind.Fault g it = refl
group_with kind.Deadlock g it = refl
group_with kind.OtherStatus g it = refl
group_with kind.NoEnd g it = refl
group_with kind.WaitsForInput g it = refl
group_with kind.ExitZero g it = refl

-- NO RUN WITHOUT A ROW

plus_zero : (a b : ℕ) → plus a b ≡ 0 → (a ≡ 0) × (b ≡ 0)
plus_zero a b z = (grind (arith, z), grind (arith, z))

record AreZero (a b c d e f : ℕ) : Type 0 where
  first : a ≡ 0
  second : b ≡ 0
  third : c ≡ 0
  fourth : d ≡ 0
  fifth : e ≡ 0
  sixth : f ≡ 0

zeros : (a b c d e f : ℕ) → plus (plus (plus (plus (plus a b) c) d) e) f ≡ 0 → AreZero a b c d e f
zeros a b c d e f z =
    let p = plus_zero (plus (plus (plus (plus a b) c) d) e) f z in
    let q = plus_zero (plus (plus (plus a b) c) d) e p.0 in
    let r = plus_zero (plus (plus a b) c) d q.0 in
    let s = plus_zero (plus a b) c r.0 in
    let o = plus_zero a b s.0 in
    record { first = o.0; second = o.1; third = s.1; fourth = r.1; fifth = q.1; sixth = p.1 }

all_zero : (a b c d e f : ℕ) → AreZero a b c d e f → plus (plus (plus (plus (plus a b) c) d) e) f ≡ 0
all_zero a b c d e f z = rw (z.first, z.second, z.third, z.fourth, z.fifth, z.sixth) refl

zeros_of : (it : Tally) → others_of it ≡ 0 → AreZero it.faults.others it.deadlocks.others it.other_statuses.others it.no_ends.others it.input_waits.others it.exits.others
zeros_of it z = zeros it.faults.others it.deadlocks.others it.other_statuses.others it.no_ends.others it.input_waits.others it.exits.others z

none_in : (k : Kind) (it : Tally) → others_of it ≡ 0 → (group_of k it).others ≡ 0
none_in kind.Fault it z = (zeros_of it z).first
none_in kind.Deadlock it z = (zeros_of it z).second
none_in kind.OtherStatus it z = (zeros_of it z).third
none_in kind.NoEnd it z = (zeros_of it z).fourth
none_in kind.WaitsForInput it z = (zeros_of it z).fifth
none_in kind.ExitZero it z = (zeros_of it z).sixth

none_before : (j : Kind) (g : Group) (it : Tally) → (group_of j it).others ≡ 0 → others_of (with_group j g it) ≡ 0 → others_of it ≡ 0
none_before kind.Fault g it n z = let p = zeros_of (with_group kind.Fault g it) z in all_zero _ _ _ _ _ _ (record { first = n; second = p.second; third = p.third; fourth = p.fourth; fifth = p.fifth; sixth = p.sixth })
none_before kind.Deadlock g it n z = let p = zeros_of (with_group kind.Deadlock g it) z in all_zero _ _ _ _ _ _ (record { first = p.first; second = n; third = p.third; fourth = p.fourth; fifth = p.fifth; sixth = p.sixth })
none_before kind.OtherStatus g it n z = let p = zeros_of (with_group kind.OtherStatus g it) z in all_zero _ _ _ _ _ _ (record { first = p.first; second = p.second; third = n; fourth = p.fourth; fifth = p.fifth; sixth = p.sixth })
none_before kind.NoEnd g it n z = let p = zeros_of (with_group kind.NoEnd g it) z in all_zero _ _ _ _ _ _ (record { first = p.first; second = p.second; third = p.third; fourth = n; fifth = p.fifth; sixth = p.sixth })
none_before kind.WaitsForInput g it n z = let p = zeros_of (with_group kind.WaitsForInput g it) z in all_zero _ _ _ _ _ _ (record { first = p.first; second = p.second; third = p.third; fourth = p.fourth; fifth = n; sixth = p.sixth })
none_before kind.ExitZero g it n z = let p = zeros_of (with_group kind.ExitZero g it) z in all_zero _ _ _ _ _ _ (record { first = p.first; second = p.second; third = p.third; fourth = p.fourth; fifth = p.fifth; sixth = n })

-- ONE SEED AFTER ANOTHER

module _ (seed : ℕ) (run : Finished) (old new : Tally) (n : IsNoted seed run old new) (z : others_of new ≡ 0) where
  own : n.group.others ≡ 0
  own =
      let k = kind_of run.told.outcome in
      ap (λ (g : Group). g.others) (sym (group_with k n.group old)) ∙ ap (λ (t : Tally). (group_of k t).others) (sym n.is) ∙ none_in k new z

  none_was : others_of old ≡ 0
  none_was = none_before (kind_of run.told.outcome) n.group old (were_none seed run (group_of (kind_of run.told.outcome) old) n.group n.noted own) (ap others_of (sym n.is) ∙ z)

  has_row : IsIn run.told (rows_of new)
  has_row =
      let k = kind_of run.told.outcome in
      let here = noted_here seed run (group_of k old) n.group n.noted own in
      subst (λ (t : Tally). IsIn run.told (rows_of t)) (sym n.is) (in_group k run.told (with_group k n.group old) (subst (λ (g : Group). IsIn run.told g.rows.items) (sym (group_with k n.group old)) here))

  has_stayed : (t : Told) → IsIn t (rows_of old) → IsIn t (rows_of new)
  has_stayed t h =
      let k = kind_of run.told.outcome in
      subst (λ (it : Tally). IsIn t (rows_of it)) (sym n.is) (kept k t n.group old (stays seed run (group_of k old) n.group n.noted t) h)

-- the last seed, and those before it
last_or_before : (h : Hunted) (first n : ℕ) (old new : Tally) (a : Grew (AreNoted h first n old) h (first + n) new) → others_of new ≡ 0 → (seed : ℕ) (told : Told) → SeedComesTo h seed told
    → (seed < first + n → IsIn told (rows_of a.before)) → (seed ≡ first + n) ⊎ ((seed < first + n) ⊎ (first + n < seed)) → seed < first + suc n → IsIn told (rows_of new)
last_or_before h first n old new a z seed told comes before (inl same) high =
    let own : SeedComesTo h (first + n) told = subst (λ (k : ℕ). SeedComesTo h k told) same comes in
    subst (λ (t : Told). IsIn t (rows_of new)) (same_told (plan_in h (first + n)) h.start a.run.told told a.ends.comes own) (has_row (first + n) a.run a.before new a.noted z)
last_or_before h first n old new a z seed told comes before (inr (inl less)) high = has_stayed (first + n) a.run a.before new a.noted z told (before less)
last_or_before h first n old new a z seed told comes before (inr (inr more)) high = absurd (omega (arith, high, more))

all_in : (h : Hunted) (first n : ℕ) (old new : Tally) → AreNoted h first n old new → others_of new ≡ 0 → (seed : ℕ) (told : Told) → first ≤ seed → seed < first + n → SeedComesTo h seed told → IsIn told (rows_of new)
all_in h first zero old new a z seed told low high comes = absurd (omega (arith, low, high))
all_in h first (suc n) old new a z seed told low high comes =
    last_or_before h first n old new a z seed told comes
    (λ less. all_in h first n old a.before a.was_so (none_was (first + n) a.run a.before new a.noted z) seed told low less comes) (cases_order seed (first + n)) high

-- THE VERDICT

record IsOne (rows : List Row) (others : ℕ) : Type 0 where
  row : Row
  is : rows ≡ row ∷ []
  none : others ≡ 0
  verdict : verdict_of rows others ≡ verdict_by (kind_of row.told.outcome)

one_row : (rows : List Row) (others : ℕ) → verdict_of rows others ≢ Several → IsOne rows others
one_row [] others h = absurd (h refl)
one_row (r ∷ []) zero h = record { row = r; is = refl; none = refl; verdict = refl }
one_row (r ∷ []) (suc n) h =
    let no : (suc n == 0) ≡ false = grind (arith, nat_tests) in
    absurd (h (ap (λ b. cond b (verdict_of_row (Some r)) Several) no))
one_row (r ∷ s ∷ rs) others h =
    let no : (length (r ∷ s ∷ rs) == 1 && others == 0) ≡ false = ap (λ b. b && others == 0) (let l : (length (r ∷ s ∷ rs) == 1) ≡ false = grind (arith, nat_tests) in l) in
    absurd (h (ap (λ b. cond b (verdict_of_row (Some r)) Several) no))

only : (r : Row) (t : Told) → IsIn t (r ∷ []) → t ≡ r.told
only r t (inl e) = sym e
only r t (inr h) = absurd h

pub one_of_all : (h : Hunted) (seeds : Seeds) (o : Outcomes) → IsTallyOf h seeds o → verdict_of o.rows.items o.others ≢ Several → IsOneOfAll h seeds o
one_of_all h seeds o t v =
    let one = one_row o.rows.items o.others v in
    let none : others_of t.counted ≡ 0 = sym t.told.others ∙ one.none in
    record {
      told = one.row.told;
      verdict = one.verdict;
      all = λ seed other low high comes.
          let within : seed < seeds.first + (seeds.last - seeds.first + 1) = omega (arith, low, high, seeds.ordered) in
          let found = all_in h seeds.first (seeds.last - seeds.first + 1) t.begun t.counted t.noted none seed other low within comes in
          only one.row other (subst (λ (rows : List Row). IsIn other rows) (sym t.told.rows ∙ one.is) found);
    }

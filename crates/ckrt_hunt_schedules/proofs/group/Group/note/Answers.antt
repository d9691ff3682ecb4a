use Rattle.std.proofs.Common.{◌≡◌, ◌∙◌, ◌++◌, length, take, drop, slice_get, slice_set, inl, inr, refl, ap, subst, arith, rules}
use Rattle.std.proofs.Math.Seq.{take-append_seam}
use Rattle.ckrt_hunt_schedules.specs.Tallies.{HasNone, IsFirst, counted_again}
use Rattle.ckrt_hunt_schedules.proofs.group.Group.note.Goals as goal

pub returns-in-Some : goal.returns-in-Some
returns-in-Some c =
    let found = c.in-Some.ensures.found in
    let first : IsFirst c.args.run.told c.args.self.now.rows.items c.in-Some.place found.0 = subst (λ rows. IsFirst c.args.run.told rows c.in-Some.place found.0) c.as_slice.ensures.value found.1 in
    let xs = c.count_again.new.rows in
    let row = ap (λ rows. slice_get rows c.in-Some.place) c.as_mut_slice.ensures.value ∙ first.row in
    let set : xs ≡ slice_set c.args.self.now.rows.items c.in-Some.place (counted_again c.args.seed found.0) = c.count_again.ensures found.0 row ∙ ap (λ rows. slice_set rows c.in-Some.place (counted_again c.args.seed found.0)) c.as_mut_slice.ensures.value in
    let n : length xs ≡ c.args.self.now.rows.len = grind (arith, c.count_again.auto.rows, c.as_mut_slice.ensures.len, ap length c.as_mut_slice.ensures.value) in
    let taken : take c.args.self.now.rows.len (xs ++ drop (length xs) c.args.self.now.rows.items) ≡ xs = subst (λ k. take k (xs ++ drop (length xs) c.args.self.now.rows.items) ≡ xs) n (take-append_seam xs (drop (length xs) c.args.self.now.rows.items)) in
    inl (record { place = c.in-Some.place; row = found.0; is_first = first; rows = taken ∙ set; others = refl })

pub returns-in-None : goal.returns-in-None
returns-in-None c =
    let none : HasNone c.args.run.told c.args.self.now.rows.items (length c.args.self.now.rows.items) = subst (λ rows. HasNone c.args.run.told rows (length rows)) c.as_slice.ensures.value (c.in-None.ensures.none refl) in
    inr (inl (record {
      none = none;
      room = omega (arith, c.len.ensures, c.if-len-lt-GROUP_ROWS.true);
      rows = let h = c.push.ensures in search rules;
      others = refl;
    }))

pub returns-in-None-2 : goal.returns-in-None-2
returns-in-None-2 c =
    let none : HasNone c.args.run.told c.args.self.now.rows.items (length c.args.self.now.rows.items) = subst (λ rows. HasNone c.args.run.told rows (length rows)) c.as_slice.ensures.value (c.in-None-2.ensures.none refl) in
    inr (inr (record {
      none = none;
      full = omega (arith, c.len.ensures, c.if-len-lt-GROUP_ROWS.false);
      rows = refl;
      others = search rules;
    }))

-- What the matches of a command hold where `clap` takes its words: each row has a value, each value passes its argument's parser, and they are read as that parser says.
use Rattle.std.proofs.lemmas.Bool.{ne_eqb}
use Rattle.std.proofs.Common.{arith, inl, inr, ◌≡◌, ◌∙◌, ◌⊎◌, ◌&&◌, ◌||◌, ◌++◌, ℕ, zero, suc, Bool, true, false, not, cond, List, [], ◌∷◌, Option, Some, None, is_some, refl, sym, ap, subst, true≢false, length}
use Rattle.std.specs.Prelude.{⊤, IfSome, find, fold, drop, unwrap_or, slice_get, nat_le, option_and_then}
use Rattle.std.specs.List.{list_all, list_any}
use Rattle.std.specs.Option.{option_map_or}
use Rattle.std.specs.Str.{bytes_eq, chars}
use Rattle.std.specs.Char.{encode_utf8}
use Rattle.std.proofs.lemmas.Slice.Eq.{bytes_eq-Decides}
use Rattle.std.proofs.Common.{append-nil}
use Rattle.clap.proofs.WalkLemmas.{both}
use Rattle.clap.specs.Lexer.{long_of, short_of}
use Rattle.clap.specs.Facts.{explicit_source, unwrap_or_range}
use Rattle.clap.specs.Walk.{attached_value, bundle, is_empty, short_or_plain, Held, Names, Outcome, Row, Rule, Step, Text, Waiting, Walk, action_of, after_flag, after_step, arg_by_id, arg_by_index, arg_by_long, arg_by_short, at_row, bundle_met, bundle_step, default_rows, finished, first_of, flag_met, has_row, is_pending, nothing_held, long_met, long_or_other, more_values, option_met, option_word, plain_word, reacted, reading_by, row_text, one_of, settled, settled_rows, short_met, subcommand_met, subcommand_or_other, takes_several, takes_values, to_positional, used, used_as, used_by_id, values_or_missing, walk, walk_from, walked, walked_from, with_default, with_values, without, word_met}
use Rattle.clap.specs.Walk.{done, waits, plain, refused, idle, option, positional, next, trailing, subcommand, value}
use Rattle.clap.specs.Simple.{App, Shape, argument_words, built, entered, names_of}
use Rattle.clap.specs.Values.{read_as}
use Rattle.clap.specs.Takes.{bundle_passes, entered_passes, is_valid, takes, action_passes, bundle_step_passes, default_passes, flag_word_passes, flags_pass, is_given, level_passes, long_passes, option_passes, other_passes, positional_passes, react_passes, set_passes, settle_passes, short_passes, step_passes, turn_passes, use_passes, value_passes, values_pass, walk_passes, word_passes}
use Rattle.clap.specs.declared.builder.action.ArgAction.TheVariants.{Set, SetTrue, Help}
use Rattle.clap.specs.declared.parser.matches.ValueSource.{ValueSource}
use Rattle.clap.specs.declared.parser.matches.ValueSource.TheVariants.{CommandLine, DefaultValue}

neither : (a b : Bool) → (a || b) ≡ false → (a ≡ false) × (b ≡ false)
neither true b e = absurd (true≢false e)
neither false b e = (refl, e)

fresh_only : (has again : Bool) → again ≡ false → (not has || again) ≡ true → has ≡ false
fresh_only true again once e = absurd (true≢false (sym (sym once ∙ e)))
fresh_only false again once e = refl

filled : (v : Text) (vs : List Text) → is_empty (v ∷ vs) ≡ false
filled v vs = ne_eqb _ _ (λ e. omega arith)

-- where no row has the id a new one comes behind the others
at_new : (id : Text) (change : Row → List Row) (missing rows : List Row) → has_row id rows ≡ false → at_row id change missing rows ≡ rows ++ missing
at_new id change missing [] e = refl
at_new id change missing (r ∷ rs) e =
    let no = neither (bytes_eq r.id id) (has_row id rs) e in
    rw no.0 (ap (λ xs. r ∷ xs) (at_new id change missing rs no.1))

module _ (s : Shape) (once : s.args_override_self ≡ false) where
  -- the row has a value, each passes the parser, and they are read as it says
  abbrev Holds : Rule → Row → Type 0
  Holds a r = (v : Text) × (vs : List Text) × (r.values ≡ v ∷ vs) × (values_pass a (v ∷ vs) ≡ true) × (r.reading ≡ reading_by a)

  abbrev IsRow : Row → Type 0
  IsRow r = (a : Rule) → arg_by_id s.rules r.id ≡ Some a → Holds a r

  abbrev pub AreRows : List Row → Type 0
  AreRows [] = ⊤
  AreRows (r ∷ rs) = IsRow r × AreRows rs

  -- a flag, with the value that stands for it
  abbrev IsFlag : Rule → Type 0
  IsFlag a = (action_of a ≡ SetTrue) × ((v : Text) × (vs : List Text) × (a.missing ≡ v ∷ vs))

  -- an argument with a value, a flag that asks for help, or another flag
  abbrev pub IsRule : Rule → Type 0
  IsRule a = (arg_by_id s.rules a.id ≡ Some a) × (((action_of a ≡ Set) × ((unwrap_or_range a.range).start_inclusive ≡ 1)) ⊎ ((action_of a ≡ Help) ⊎ IsFlag a))

  abbrev pub AreRules : List Rule → Type 0
  AreRules [] = ⊤
  AreRules (a ∷ rest) = IsRule a × AreRules rest

  rows_append : (xs ys : List Row) → AreRows xs → AreRows ys → AreRows (xs ++ ys)
  rows_append [] ys x y = y
  rows_append (r ∷ rs) ys x y = (x.0, rows_append rs ys x.1 y)

  found_rule : (p : Rule → Bool) (xs : List Rule) → AreRules xs → IfSome (find p xs) IsRule
  found_rule p [] good = tt
  found_rule p (x ∷ xs) good = go (p x) (found_rule p xs good.1)
    where
      go : (b : Bool) → IfSome (find p xs) IsRule → IfSome (cond b (Some x) (find p xs)) IsRule
      go true rest = good.0
      go false rest = rest

  -- values of an argument without a row
  with_values_kept : (a : Rule) (from : ValueSource) (v : Text) (vs : List Text) (rows : List Row) → arg_by_id s.rules a.id ≡ Some a → has_row a.id rows ≡ false
      → values_pass a (v ∷ vs) ≡ true → AreRows rows → AreRows (with_values a.id (reading_by a) from (v ∷ vs) rows)
  with_values_kept a from v vs rows found new pass ok =
      let row : Row = record { id = a.id; values = v ∷ vs; count = None; source = Some from; reading = reading_by a } in
      let is : IsRow row = λ b e. subst (λ (x : Rule). Holds x row) (ap (λ o. unwrap_or o a) (sym found ∙ e)) (v, vs, refl, pass, refl) in
      subst AreRows (sym (at_new a.id (more_values from (v ∷ vs)) (row ∷ []) rows new)) (rows_append rows (row ∷ []) ok (is, tt))

  set_kept : (a : Rule) (v : Text) (vs : List Text) (rows : List Row) → arg_by_id s.rules a.id ≡ Some a
      → set_passes s.args_override_self a (v ∷ vs) rows ≡ true → AreRows rows → AreRows (used_as Set a.id (reading_by a) (v ∷ vs) rows)
  set_kept a v vs rows found pass ok =
      let parts = both _ _ pass in
      let new : has_row a.id rows ≡ false = fresh_only _ _ once parts.0 in
      let same : without a.id rows ≡ rows = at_new a.id (λ _. []) [] rows new ∙ append-nil rows in
      subst (λ rs. AreRows (with_values a.id (reading_by a) CommandLine (v ∷ vs) rs)) (sym same) (with_values_kept a CommandLine v vs rows found new parts.1 ok)

  used_kept : (a : Rule) → IsRule a → (values : List Text) (rows : List Row) → use_passes s.args_override_self a values rows ≡ true → AreRows rows → AreRows (used a values rows)
  used_kept a (found, inl is) values rows pass ok = go values (both _ _ pass)
    where
      go : (values : List Text) → (nat_le (unwrap_or_range a.range).start_inclusive (length values) ≡ true) × ((nat_le (length values) (unwrap_or_range a.range).end_inclusive
          && action_passes (action_of a) s.args_override_self a (values_or_missing a values) rows) ≡ true) → AreRows (used a values rows)
      go [] p =
          let none : nat_le 1 0 ≡ true = subst (λ n. nat_le n 0 ≡ true) is.1 p.0 in
          absurd (true≢false (sym none))
      go (v ∷ vs) p =
          let set = subst (λ x. action_passes x s.args_override_self a (v ∷ vs) rows ≡ true) is.0 (both _ _ p.1).1 in
          subst (λ x. AreRows (used_as x a.id (reading_by a) (v ∷ vs) rows)) (sym is.0) (set_kept a v vs rows found set ok)
  used_kept a (found, inr (inr is)) values rows pass ok = go values (both _ _ (both _ _ pass).1).1
    where
      go : (values : List Text) → action_passes (action_of a) s.args_override_self a (values_or_missing a values) rows ≡ true → AreRows (used a values rows)
      go [] p =
          let flag = subst (λ x. action_passes x s.args_override_self a a.missing rows ≡ true) is.0 p in
          let set = subst (λ xs. action_passes SetTrue s.args_override_self a xs rows ≡ true) is.1.2 flag in
          let kept : AreRows (used_as SetTrue a.id (reading_by a) a.missing rows) =
          subst (λ xs. AreRows (used_as SetTrue a.id (reading_by a) xs rows)) (sym is.1.2) (set_kept a is.1.0 is.1.1 rows found set ok) in
          subst (λ x. AreRows (used_as x a.id (reading_by a) a.missing rows)) (sym is.0) kept
      go (v ∷ vs) p =
          let set = subst (λ x. action_passes x s.args_override_self a (v ∷ vs) rows ≡ true) is.0 p in
          subst (λ x. AreRows (used_as x a.id (reading_by a) (v ∷ vs) rows)) (sym is.0) (set_kept a v vs rows found set ok)
  used_kept a (found, inr (inl is)) values rows pass ok =
      let never : action_passes Help s.args_override_self a (values_or_missing a values) rows ≡ true =
      subst (λ x. action_passes x s.args_override_self a (values_or_missing a values) rows ≡ true) is (both _ _ (both _ _ pass).1).1 in
      absurd (true≢false (sym never))

  by_id_kept : (o : Option Rule) → IfSome o IsRule → (values : List Text) (rows : List Row)
      → option_map_or (λ a. use_passes s.args_override_self a values rows) o true ≡ true → AreRows rows → AreRows (used_by_id o values rows)
  by_id_kept None good values rows pass ok = ok
  by_id_kept (Some a) good values rows pass ok = used_kept a good values rows pass ok

  module _ (good : AreRules s.rules) where
    settled_kept : (h : Held) → settle_passes s.rules s.args_override_self h ≡ true → AreRows h.rows → AreRows (settled s.rules h).rows
    settled_kept h pass ok = go h.pending pass
      where
        go : (p : Option (Text × List Text))
            → option_map_or (λ p. option_map_or (λ a. use_passes s.args_override_self a p.1 h.rows) (arg_by_id s.rules p.0) true) p true ≡ true
            → AreRows (settled_rows s.rules p h.rows)
        go None e = ok
        go (Some p) e = by_id_kept (arg_by_id s.rules p.0) (found_rule _ s.rules good) p.1 h.rows e ok

    reacted_kept : (a : Rule) → IsRule a → (values : List Text) (h : Held) → react_passes s.rules s.args_override_self a values h ≡ true → AreRows h.rows
        → AreRows (reacted s.rules a values h).rows
    reacted_kept a is values h pass ok =
        let parts = both _ _ pass in
        used_kept a is values (settled s.rules h).rows parts.1 (settled_kept h parts.0 ok)

    option_kept : (a : Rule) → IsRule a → (v : Option Text) (h : Held) → option_passes s.rules s.args_override_self a v h ≡ true → AreRows h.rows
        → AreRows (option_met s.rules a v h).0.rows
    option_kept a is (Some v) h pass ok = reacted_kept a is (v ∷ []) h pass ok
    option_kept a is None h pass ok = settled_kept h pass ok

    flag_kept : (a : Rule) → IsRule a → (v : Option Text) (h : Held) → (not (is_some v) && react_passes s.rules s.args_override_self a [] h) ≡ true → AreRows h.rows
        → AreRows (flag_met s.rules a v h).0.rows
    flag_kept a is (Some v) h pass ok = ok
    flag_kept a is None h pass ok = reacted_kept a is [] h pass ok

    long_kept : (o : Option Rule) → IfSome o IsRule → (v : Option Text) (h : Held) → long_passes s.rules s.args_override_self o v h ≡ true → AreRows h.rows
        → AreRows (long_met s.rules o v h).0.rows
    long_kept None is v h pass ok = ok
    long_kept (Some a) is v h pass ok = go (takes_values a) pass
      where
        go : (b : Bool) → cond b (option_passes s.rules s.args_override_self a v h) (not (is_some v) && react_passes s.rules s.args_override_self a [] h) ≡ true
            → AreRows (cond b (option_met s.rules a v h) (flag_met s.rules a v h)).0.rows
        go true e = option_kept a is v h e ok
        go false e = flag_kept a is v h e ok

    short_kept : (o : Option Rule) → IfSome o IsRule → (rest : Text) (h : Held) (passes : Held → Bool) (met : Held → Held × Outcome)
        → ((k : Held) → passes k ≡ true → AreRows k.rows → AreRows (met k).0.rows)
        → short_passes s.rules s.args_override_self o rest h passes ≡ true → AreRows h.rows → AreRows (short_met s.rules o rest h met).0.rows
    short_kept None is rest h passes met more pass ok = ok
    short_kept (Some a) is rest h passes met more pass ok = go (takes_values a) pass
      where
        go : (b : Bool)
            → cond b (option_passes s.rules s.args_override_self a (attached_value rest) h) (react_passes s.rules s.args_override_self a [] h && passes (reacted s.rules a [] h)) ≡ true
            → AreRows (cond b (option_met s.rules a (attached_value rest) h) (met (reacted s.rules a [] h))).0.rows
        go true e = option_kept a is (attached_value rest) h e ok
        go false e =
            let parts = both _ _ e in
            more (reacted s.rules a [] h) parts.1 (reacted_kept a is [] h parts.0 ok)

    bundle_kept : (k : ℕ) (flags : Text) (skip : ℕ) (so_far : Outcome) (h : Held) → flags_pass s.rules s.args_override_self k flags skip h ≡ true → AreRows h.rows
        → AreRows (bundle_met s.rules k flags skip so_far h).0.rows
    unfolding flags_pass bundle_met
    bundle_kept zero flags skip so_far h pass ok = ok
    bundle_kept (suc k) flags skip so_far h pass ok = go (slice_get (chars flags) 0) skip (bundle_kept k) pass
      where
        go : (o : Option ℕ) (skip : ℕ)
            → ((flags : Text) (skip : ℕ) (so_far : Outcome) (h : Held) → flags_pass s.rules s.args_override_self k flags skip h ≡ true → AreRows h.rows → AreRows (bundle_met s.rules k flags skip so_far h).0.rows)
            → bundle_step_passes s.rules s.args_override_self o flags skip h (flags_pass s.rules s.args_override_self k) ≡ true
            → AreRows (bundle_step s.rules o flags skip so_far h (bundle_met s.rules k)).0.rows
        go None skip rest e = ok
        go (Some x) zero rest e =
            let left = drop (length (encode_utf8 x)) flags in
            short_kept (arg_by_short s.rules x) (found_rule _ s.rules good) left h (flags_pass s.rules s.args_override_self k left 0) (bundle_met s.rules k left 0 done)
            (λ h p o. rest left 0 done h p o) e ok
        go (Some x) (suc skip) rest e = rest (drop (length (encode_utf8 x)) flags) skip so_far h e ok

    option_rows : (o : Option Rule) (id word : Text) (h : Held) → (option_word o id word h).0.rows ≡ h.rows
    option_rows None id word h = refl
    option_rows (Some a) id word h = refl

    plain_rows : (waiting : Waiting) (word : Text) (h : Held) → (plain_word s.rules waiting word h).0.rows ≡ h.rows
    plain_rows idle word h = refl
    plain_rows (option id) word h = option_rows (arg_by_id s.rules id) id word h
    plain_rows positional word h = refl

    after_rows : (waiting : Waiting) (word : Text) (h : Held) (o : Outcome) → (after_flag s.rules waiting word h o).0.rows ≡ h.rows
    after_rows waiting word h done = refl
    after_rows waiting word h (waits id) = refl
    after_rows waiting word h plain = plain_rows waiting word h
    after_rows waiting word h refused = plain_rows waiting word h

    bundle_word_kept : (o : Option Text) (waiting : Waiting) (word : Text) (h : Held) → option_map_or (λ flags. bundle_passes s.rules s.args_override_self flags h) o true ≡ true → AreRows h.rows
        → AreRows (short_or_plain s.rules waiting word o h).0.rows
    bundle_word_kept None waiting word h pass ok = subst AreRows (sym (plain_rows waiting word h)) ok
    bundle_word_kept (Some flags) waiting word h pass ok =
        subst AreRows (sym (after_rows waiting word (bundle s.rules flags h).0 (bundle s.rules flags h).1))
        (bundle_kept (length flags) flags h.skip plain (record h { skip = 0 }) pass ok)

    flag_word_kept : (o : Option (Text × Option Text)) (waiting : Waiting) (word : Text) (h : Held) → flag_word_passes s.rules s.args_override_self o word h ≡ true → AreRows h.rows
        → AreRows (long_or_other s.rules waiting word o h).0.rows
    flag_word_kept (Some p) waiting word h pass ok =
        let met = long_met s.rules (arg_by_long s.rules p.0) p.1 h in
        subst AreRows (sym (after_rows waiting word met.0 met.1)) (long_kept (arg_by_long s.rules p.0) (found_rule _ s.rules good) p.1 h pass ok)
    flag_word_kept None waiting word h pass ok = bundle_word_kept (short_of word) waiting word h pass ok

    other_kept : (o : Option Text) (waiting : Waiting) (position : ℕ) (word : Text) (h : Held) → other_passes s o word h ≡ true → AreRows h.rows
        → AreRows (subcommand_or_other s.rules o waiting position word h).0.rows
    other_kept (Some name) waiting position word h pass ok = ok
    other_kept None waiting position word h pass ok = go (bytes_eq word (45 ∷ 45 ∷ [])) pass
      where
        go : (b : Bool) → (b || flag_word_passes s.rules s.args_override_self (long_of word) word h) ≡ true
            → AreRows (cond b (h, trailing position) (long_or_other s.rules waiting word (long_of word) h)).0.rows
        go true e = ok
        go false e = flag_word_kept (long_of word) waiting word h e ok

    word_kept : (names : Names) (is_trailing : Bool) (waiting : Waiting) (position : ℕ) (word : Text) (h : Held) → word_passes s names is_trailing waiting word h ≡ true → AreRows h.rows
        → AreRows (word_met s.rules names is_trailing waiting position word h).0.rows
    word_kept names true waiting position word h pass ok = ok
    word_kept names false waiting position word h pass ok = other_kept (subcommand_met names waiting word) waiting position word h pass ok

    positional_kept : (o : Option Rule) (w : Walk) (word : Text) (h : Held) → option_map_or (λ a. positional_passes s.rules s.args_override_self a h) o false ≡ true → AreRows h.rows
        → AreRows (to_positional s.rules o word w h).held.rows
    positional_kept None w word h pass ok = ok
    positional_kept (Some a) w word h pass ok = go (is_pending a h.pending && takes_several a) pass
      where
        go : (b : Bool) → (b || settle_passes s.rules s.args_override_self h) ≡ true → AreRows (cond b h (settled s.rules h)).rows
        go true e = ok
        go false e = settled_kept h e ok

    step_kept : (w : Walk) (word : Text) (h : Held) (step : Step) → step_passes s w.position h step ≡ true → AreRows h.rows → AreRows (after_step s.rules word w h step).held.rows
    step_kept w word h (next waiting) pass ok = ok
    step_kept w word h (trailing position) pass ok = ok
    step_kept w word h (subcommand name) pass ok = ok
    step_kept w word h value pass ok = positional_kept (arg_by_index s.rules w.position) w word h pass ok

    turn_kept : (names : Names) (w : Walk) (word : Text) → turn_passes s names w word ≡ true → AreRows w.held.rows → AreRows (walked s.rules names w word).held.rows
    unfolding walked
    turn_kept names w word pass ok = go w.stopped pass
      where
        go : (o : Option (Text × List Text))
            → (is_some o || (word_passes s names w.is_trailing w.waiting word w.held
            && step_passes s w.position (word_met s.rules names w.is_trailing w.waiting w.position word w.held).0 (word_met s.rules names w.is_trailing w.waiting w.position word w.held).1)) ≡ true
            → AreRows (walked_from s.rules names o w word).held.rows
        go (Some p) e = ok
        go None e =
            let parts = both _ _ e in
            step_kept w word _ _ parts.1 (word_kept names w.is_trailing w.waiting w.position word w.held parts.0 ok)

    walk_kept : (names : Names) (w : Walk) (words : List Text) → walk_passes s names w words ≡ true → AreRows w.held.rows → AreRows (fold (walked s.rules names) w words).held.rows
    unfolding walk_passes
    walk_kept names w [] pass ok = ok
    walk_kept names w (word ∷ rest) pass ok =
        let parts = both _ _ pass in
        walk_kept names (walked s.rules names w word) rest parts.1 (turn_kept names w word parts.0 ok)

    default_rows_kept : (a : Rule) → IsRule a → (ds : List Text) (asks : Bool) (rows : List Row) → (is_empty ds || (asks && values_pass a ds)) ≡ true → has_row a.id rows ≡ false → AreRows rows
        → AreRows (default_rows a.id (reading_by a) ds rows)
    default_rows_kept a is [] asks rows pass new ok = ok
    default_rows_kept a is (v ∷ vs) asks rows pass new ok = with_values_kept a DefaultValue v vs rows is.0 new (both asks (values_pass a (v ∷ vs)) (subst (λ b. (b || (asks && values_pass a (v ∷ vs))) ≡ true) (filled v vs) pass)).1 ok

    default_kept : (a : Rule) → IsRule a → (rows : List Row) → default_passes a ≡ true → AreRows rows → AreRows (with_default rows a)
    default_kept a is rows pass ok = go (has_row a.id rows) refl
      where
        go : (b : Bool) → has_row a.id rows ≡ b → AreRows (cond b rows (default_rows a.id (reading_by a) a.defaults rows))
        go true e = ok
        go false e = default_rows_kept a is a.defaults _ rows pass e ok

    defaults_kept : (rules : List Rule) → AreRules rules → (rows : List Row) → list_all default_passes rules ≡ true → AreRows rows → AreRows (fold with_default rows rules)
    defaults_kept [] is rows pass ok = ok
    defaults_kept (a ∷ rest) is rows pass ok =
        let parts = both _ _ pass in
        defaults_kept rest is.1 (with_default rows a) parts.1 (default_kept a is.0 rows parts.0 ok)

    -- the matches of a command that takes the words
    pub level_kept : (names : Names) (h : Held) (words : List Text) (has : Bool) → level_passes s names h words has ≡ true → AreRows h.rows
        → AreRows (finished s.rules (walk s.rules names h words).held)
    level_kept names h words has pass ok =
        let walks = both _ _ pass in
        let settles = both _ _ walks.1 in
        let ends = both _ _ settles.1 in
        let end = (walk s.rules names h words).held in
        defaults_kept s.rules good (settled s.rules end).rows ends.0 (settled_kept end settles.0 (walk_kept names (walk_from h) words walks.0 ok))

  found_row : (id : Text) (rows : List Row) → AreRows rows → IfSome (find (λ r. bytes_eq r.id id) rows) (λ r. IsRow r × (r.id ≡ id))
  found_row id [] ok = tt
  found_row id (r ∷ rs) ok = go (bytes_eq r.id id) refl (found_row id rs ok.1)
    where
      go : (b : Bool) → bytes_eq r.id id ≡ b → IfSome (find (λ r. bytes_eq r.id id) rs) (λ r. IsRow r × (r.id ≡ id))
          → IfSome (cond b (Some r) (find (λ r. bytes_eq r.id id) rs)) (λ r. IsRow r × (r.id ≡ id))
      go true e rest = (ok.0, (bytes_eq-Decides r.id id).0 e)
      go false e rest = rest

  -- an argument with a row has a value
  pub value_there : (id : Text) (rows : List Row) (a : Rule) → AreRows rows → arg_by_id s.rules id ≡ Some a → is_some (find (λ r. bytes_eq r.id id) rows) ≡ true
      → (v : Text) × (first_of id rows ≡ Some v) × (one_of id rows ≡ Some (read_as (reading_by a) v)) × (value_passes a v ≡ true)
  value_there id rows a ok found has = go (find (λ r. bytes_eq r.id id) rows) has (found_row id rows ok)
    where
      go : (o : Option Row) → is_some o ≡ true → IfSome o (λ r. IsRow r × (r.id ≡ id))
          → (v : Text) × (option_and_then (λ (r : Row). slice_get r.values 0) o ≡ Some v) × (option_and_then row_text o ≡ Some (read_as (reading_by a) v)) × (value_passes a v ≡ true)
      go None some is = absurd (true≢false (sym some))
      go (Some r) some is =
          let row = is.0 a (ap (arg_by_id s.rules) is.1 ∙ found) in
          (row.0, ap (λ (vs : List Text). slice_get vs 0) row.2, rw (row.2, row.4) refl, (both _ _ row.3).0)

-- who was given has a row
pub given_found : (id : Text) (rows : List Row) → is_given id rows ≡ true → is_some (find (λ r. bytes_eq r.id id) rows) ≡ true
given_found id rows given = go (find (λ r. bytes_eq r.id id) rows) given
  where
    go : (o : Option Row) → option_map_or (λ (r : Row). explicit_source r.source) o false ≡ true → is_some o ≡ true
    go None e = absurd (true≢false (sym e))
    go (Some r) e = refl

pub row_found : (id : Text) (rows : List Row) → has_row id rows ≡ true → is_some (find (λ r. bytes_eq r.id id) rows) ≡ true
row_found id [] has = absurd (true≢false (sym has))
row_found id (r ∷ rs) has = go (bytes_eq r.id id) has (row_found id rs)
  where
    go : (b : Bool) → (b || has_row id rs) ≡ true → (has_row id rs ≡ true → is_some (find (λ r. bytes_eq r.id id) rs) ≡ true)
        → is_some (cond b (Some r) (find (λ r. bytes_eq r.id id) rs)) ≡ true
    go true e rest = refl
    go false e rest = rest e

has_append : (id : Text) (xs ys : List Row) → has_row id (xs ++ ys) ≡ (has_row id xs || has_row id ys)
has_append id [] ys = refl
has_append id (x ∷ xs) ys = go (bytes_eq x.id id) (has_append id xs ys)
  where
    go : (b : Bool) → has_row id (xs ++ ys) ≡ (has_row id xs || has_row id ys) → (b || has_row id (xs ++ ys)) ≡ ((b || has_row id xs) || has_row id ys)
    go true e = refl
    go false e = e

-- a default where no row has the id
default_new : (id : Text) (a : Rule) (v : Text) (vs : List Text) (rows : List Row) → has_row a.id rows ≡ false
    → has_row id (default_rows a.id (reading_by a) (v ∷ vs) rows) ≡ (has_row id rows || (bytes_eq a.id id || false))
default_new id a v vs rows new =
    let row : Row = record { id = a.id; values = v ∷ vs; count = None; source = Some DefaultValue; reading = reading_by a } in
    ap (has_row id) (at_new a.id (more_values DefaultValue (v ∷ vs)) (row ∷ []) rows new) ∙ has_append id rows (row ∷ [])

or_true : (a b : Bool) → a ≡ true → (a || b) ≡ true
or_true a b e = rw e refl

-- a default takes no row away
default_adds : (id : Text) (a : Rule) (rows : List Row) → has_row id rows ≡ true → has_row id (with_default rows a) ≡ true
default_adds id a rows has = go (has_row a.id rows) refl
  where
    rows_of_default : (ds : List Text) → has_row a.id rows ≡ false → has_row id (default_rows a.id (reading_by a) ds rows) ≡ true
    rows_of_default [] new = has
    rows_of_default (v ∷ vs) new = default_new id a v vs rows new ∙ or_true (has_row id rows) (bytes_eq a.id id || false) has

    go : (b : Bool) → has_row a.id rows ≡ b → has_row id (cond b rows (default_rows a.id (reading_by a) a.defaults rows)) ≡ true
    go true e = has
    go false e = rows_of_default a.defaults e

-- an argument with a default has a row
default_gives : (a : Rule) (rows : List Row) → is_empty a.defaults ≡ false → has_row a.id (with_default rows a) ≡ true
default_gives a rows some = go (has_row a.id rows) refl
  where
    of_row : (x y : Bool) → y ≡ true → (x || (y || false)) ≡ true
    of_row true y e = refl
    of_row false y e = rw e refl

    rows_of_default : (ds : List Text) → is_empty ds ≡ false → has_row a.id rows ≡ false → has_row a.id (default_rows a.id (reading_by a) ds rows) ≡ true
    rows_of_default [] e new = absurd (true≢false e)
    rows_of_default (v ∷ vs) e new = default_new a.id a v vs rows new ∙ of_row (has_row a.id rows) (bytes_eq a.id a.id) ((bytes_eq-Decides a.id a.id).1 refl)

    go : (b : Bool) → has_row a.id rows ≡ b → has_row a.id (cond b rows (default_rows a.id (reading_by a) a.defaults rows)) ≡ true
    go true e = e
    go false e = rows_of_default a.defaults some e

defaults_add : (id : Text) (rules : List Rule) (rows : List Row) → has_row id rows ≡ true → has_row id (fold with_default rows rules) ≡ true
defaults_add id [] rows has = has
defaults_add id (a ∷ rest) rows has = defaults_add id rest (with_default rows a) (default_adds id a rows has)

-- and so has each among the rules
pub defaults_give : (before after : List Rule) (a : Rule) (rows : List Row) → is_empty a.defaults ≡ false → has_row a.id (fold with_default rows (before ++ a ∷ after)) ≡ true
defaults_give [] after a rows some = defaults_add a.id after (with_default rows a) (default_gives a rows some)
defaults_give (b ∷ before) after a rows some = defaults_give before after a (with_default rows b) some

-- what the last checks of a command say
pub level_valid : (s : Shape) (names : Names) (h : Held) (words : List Text) (has : Bool) → level_passes s names h words has ≡ true
    → is_valid s (finished s.rules (walk s.rules names h words).held) has ≡ true
level_valid s names h words has pass =
    let end = (walk s.rules names h words).held in
    let valid = is_valid s (finished s.rules end) has in
    let defaults = list_all default_passes s.rules in
    let settles = settle_passes s.rules s.args_override_self end in
    (both defaults valid (both settles (defaults && valid) (both (walk_passes s names (walk_from h) words) (settles && (defaults && valid)) pass).1).1).1

pub has_command : (s : Shape) (rows : List Row) (has : Bool) → is_valid s rows has ≡ true → s.subcommand_required ≡ true → has ≡ true
has_command s rows has valid required =
    let demands = both _ _ valid in
    subst (λ b. (not b || has) ≡ true) required (both _ _ demands.1).0

pub has_required : (s : Shape) (rows : List Row) (has : Bool) → is_valid s rows has ≡ true → s.subcommand_negates_reqs ≡ false
    → list_all (λ a. not a.required || is_given a.id rows) s.rules ≡ true
has_required s rows has valid demands =
    let given = list_all (λ a. not a.required || is_given a.id rows) s.rules in
    let free = list_all (λ a. a.is_free) s.rules in
    let checked = (s.subcommand_negates_reqs && has) || given in
    let named = not s.subcommand_required || has in
    let some = not s.arg_required_else_help || (has || list_any (λ r. explicit_source r.source) rows) in
    subst (λ b. ((b && has) || given) ≡ true) demands (both free checked (both named (free && checked) (both some (named && (free && checked)) valid).1).1).1

-- both levels of a command line take the words
pub taken_levels : (a : App) (words : List Text) → takes a words ≡ true
    → (entered_passes (built a) (walk (built a).top.rules (names_of (built a)) nothing_held (argument_words a words)).stopped ≡ true)
    × (level_passes (built a).top (names_of (built a)) nothing_held (argument_words a words)
    (is_some (entered (built a) (walk (built a).top.rules (names_of (built a)) nothing_held (argument_words a words)).stopped)) ≡ true)
taken_levels a words pass =
    let simple = both _ _ pass in
    both _ _ simple.1

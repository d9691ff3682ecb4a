-- Entries that go onto a table one behind another.
use Rattle.std.proofs.Common.{◌≡◌, ℕ, Bool, List, [], ◌∷◌, ◌++◌, length, sym, ap, subst, ◌∙◌, append_assoc}
use Rattle.std.proofs.lemmas.List.{append-nil}
use Rattle.ckrt_objects.specs.declared.address_map.Entry.{Entry}
use Rattle.ckrt_objects.specs.Appended.{with_last, Appends}
use Rattle.ckrt_tables.specs.Decoding.{Reaches}
use Rattle.ckrt_tables.specs.Objects.{FindsAll, AreEntries, LeadsToTable}

module _ {T : Type 0} (IsTable : List (Entry T) → Type 0) where
  -- one entry more, where each beginning of a table is one
  pub goes_on : ((xs ys : List (Entry T)) → IsTable (xs ++ ys) → IsTable xs) → (e : Entry T) (old new : List (Entry T)) (result : Bool) → Appends IsTable e old new result
      → (goal more : List (Entry T)) → LeadsToTable IsTable old (e ∷ more) goal → LeadsToTable IsTable new more goal
  goes_on beginning e old new result appends goal more l =
      let behind : goal ≡ with_last e old ++ more = l.entries ∙ sym (append_assoc old (e ∷ []) more) in
      let is : IsTable (with_last e old) = beginning (with_last e old) more (subst IsTable behind l.table) in
      let appended : new ≡ with_last e old = appends.appended (appends.exact.1 is) in
      record {
        table = l.table;
        entries = behind ∙ ap (λ es. es ++ more) (sym appended);
      }

  -- a table that was empty has just the entries that were read
  pub entries_found : (fits : Entry T → Bool) (encoding : List (Entry T) → List ℕ) (IsCount : ℕ → Type 0) → ((es : List (Entry T)) → AreEntries IsTable fits es → IsCount (length es))
      → (bytes : List ℕ) (begun found : List (Entry T)) (left : List ℕ) → begun ≡ [] → Reaches (LeadsToTable IsTable) fits encoding IsCount bytes begun found left
      → FindsAll (AreEntries IsTable fits) encoding bytes found left
  entries_found fits encoding IsCount few bytes begun found left none reaches es rest are e =
      let all = reaches es es rest (few es are) are.fit (record { table = are.table; entries = sym (ap (λ b. b ++ es) none) }) e in
      (sym (all.0.entries ∙ append-nil found), all.1)

-- A snapshot that is a history's own begins just the part of it from there on.
use Rattle.std.proofs.Common.{◌≡◌, ℕ, zero, suc, ◌+◌, ◌-◌, ◌<◌, get_or, min, List, [], ◌∷◌, ◌++◌, length, take, drop, None, Result, Ok, Err, refl, sym, ◌∙◌, ap, subst, arith, append_assoc, length-append}
use Rattle.std.proofs.Math.Seq.{drop-append_seam}
use Rattle.std.proofs.lemmas.Grind.{common_steps, flat_map-append}
use Rattle.std.proofs.lemmas.List.{append-nil, get_or-take}
use Rattle.ckrt_disk.proofs.Images.{part_same}
use Rattle.ckrt_events.specs.declared.event.Event.{Event}
use Rattle.ckrt_events.specs.Bytes.{events_in}
use Rattle.ckrt_journal.specs.Chain.{batches_of, gate_behind}
use Rattle.ckrt_journal.specs.declared.fault.JournalFault.{JournalFault}
use Rattle.ckrt_journal.proofs.AppendLemmas.{stable}
use Rattle.ckrt_journal.proofs.ChainLemmas.{batches_then}
use Rattle.ckrt_stored.specs.Layout.{size_needed}
use Rattle.ckrt_stored.specs.Recovery.{events_of_batches}
use Rattle.ckrt_stored.specs.declared.area.Area.{Area}
use Rattle.ckrt_stored.specs.declared.config.Config.{Config}
use Rattle.ckrt_look_recording.specs.Recording.{Recorded}
use Rattle.ckrt_history.specs.Front.{front_of}
use Rattle.ckrt_history.specs.History.{HasHistory, long_chain, with_batches}
use Rattle.ckrt_history.specs.Parting.{IsPart}
use Rattle.ckrt_history.specs.Snapshots.{DontCollide, IsOwn, IsSavedBehind, SavedAreOwn, SavedState, SnapshotsBeginParts, from_snapshot, gate_at}
use Rattle.ckrt_history.proofs.GrowingLemmas.{front_stays, is_here, with_chain}
use Rattle.ckrt_history.proofs.HistoryLemmas.{front_once, recorded_once, same_chain}

-- BYTES

take_none : (n : ℕ) → take {A = ℕ} n [] ≡ []
take_none zero = refl
take_none (suc n) = refl

take_comm : (n m : ℕ) (xs : List ℕ) → take n (take m xs) ≡ take m (take n xs)
take_comm zero m xs = sym (take_none m)
take_comm (suc n) zero xs = refl
take_comm (suc n) (suc m) [] = refl
take_comm (suc n) (suc m) (x ∷ xs) = ap (λ (l : List ℕ). x ∷ l) (take_comm n m xs)

same_front : (n m : ℕ) (xs ys : List ℕ) → take n xs ≡ take n ys → take n (take m xs) ≡ take n (take m ys)
same_front n m xs ys same = take_comm n m xs ∙ ap (λ (l : List ℕ). take m l) same ∙ sym (take_comm n m ys)

length_rest : (n at : ℕ) (xs : List ℕ) → length (take n (drop at xs)) ≡ min n (length xs - at)
length_rest n at xs = grind (arith, common_steps)

-- a chain that begins with these batches
goes_on_by : (batches : List (List ℕ)) (r : Result (List (List ℕ)) JournalFault) (all : List (List ℕ)) → batches_then batches r ≡ Ok all → (more : List (List ℕ)) × (all ≡ batches ++ more)
goes_on_by batches (Ok more) all is = (more, same_chain all (batches ++ more) (sym is))
goes_on_by batches (Err e) all is = absurd (cc)

module _ (saved now : List ℕ) (r₀ r : Recorded) (s : SavedState) (by : IsSavedBehind saved r₀ s) (size : length now ≡ length saved) (has : HasHistory now r) (own : IsOwn now s)
    (apart : DontCollide (take s.bytes now) (take s.bytes saved)) where
  abbrev had : HasHistory saved r₀
  had = by.has

  abbrev c : Config
  c = had.config

  abbrev end : ℕ
  end = gate_behind had.batches

  same_bytes : take s.bytes now ≡ take s.bytes saved
  same_bytes = apart (own.digest ∙ by.digest)

  place_is : s.bytes ≡ size_needed c + end
  place_is = by.bytes ∙ ap gate_at (is_here by.place [] saved now r₀ (record { has = had; place = by.ends }))

  same_at : (i : ℕ) → i < size_needed c + end → get_or now i 0 ≡ get_or saved i 0
  same_at i lt =
      let inside : i < s.bytes = omega (arith, lt, place_is) in
      sym (get_or-take s.bytes now i 0 inside) ∙ ap (λ (l : List ℕ). get_or l i 0) same_bytes ∙ get_or-take s.bytes saved i 0 inside

  front_same : (i : ℕ) → i < size_needed c → get_or now i 0 ≡ get_or saved i 0
  front_same i lt = same_at i (omega (arith, lt))

  front_is : front_of now ≡ Ok (c, had.area)
  front_is = front_stays c had.area saved now had.front size front_same

  rest_same : take end (take (length saved - size_needed c) (drop (size_needed c) now)) ≡ take end (take (length saved - size_needed c) (drop (size_needed c) saved))
  rest_same = same_front end (length saved - size_needed c) (drop (size_needed c) now) (drop (size_needed c) saved)
      (part_same end (size_needed c) now saved size (λ i w. same_at i w.1))

  rest_long : length (take (length saved - size_needed c) (drop (size_needed c) now)) ≡ length (take (length saved - size_needed c) (drop (size_needed c) saved))
  rest_long = length_rest (length saved - size_needed c) (size_needed c) now ∙ ap (λ n. min (length saved - size_needed c) (n - size_needed c)) size
      ∙ sym (length_rest (length saved - size_needed c) (size_needed c) saved)

  -- its chain begins with the batches that there were
  chain_begins : batches_of 2 (take (length saved - size_needed c) (drop (size_needed c) now))
      ≡ batches_then had.batches (batches_of 2 (drop end (take (length saved - size_needed c) (drop (size_needed c) now))))
  chain_begins =
      let old : List ℕ = take (length saved - size_needed c) (drop (size_needed c) saved) in
      stable 2 (length old) old (take (length saved - size_needed c) (drop (size_needed c) now)) had.batches rest_long had.chain rest_same

  config_is : has.config ≡ c
  config_is = ap (λ (x : Config × Area). x.0) (front_once now c had.area r front_is has)

  chain_now : batches_of 2 (take (length saved - size_needed c) (drop (size_needed c) now)) ≡ Ok has.batches
  chain_now =
      ap (λ n. batches_of 2 (take (n - size_needed c) (drop (size_needed c) now))) (sym size)
      ∙ ap (λ (d : Config). long_chain d now) (sym config_is) ∙ has.chain

  goes_on : (more : List (List ℕ)) × (has.batches ≡ had.batches ++ more)
  goes_on = goes_on_by had.batches (batches_of 2 (drop end (take (length saved - size_needed c) (drop (size_needed c) now)))) has.batches (sym chain_begins ∙ chain_now)

  abbrev more : List Event
  more = events_of_batches goes_on.0

  abbrev grown : Recorded
  grown = record { first = r₀.first; start = r₀.start; events = r₀.events ++ more }

  grown_is : grown ≡ with_batches (had.batches ++ goes_on.0) had.begun
  grown_is =
      ap (λ (q : Recorded). record { first = q.first; start = q.start; events = q.events ++ more }) had.is
      ∙ ap (λ (es : List Event). record { first = had.begun.first; start = had.begun.start; events = es })
      (append_assoc had.begun.events (events_of_batches had.batches) more ∙ ap (λ (es : List Event). had.begun.events ++ es) (sym (flat_map-append events_in had.batches goes_on.0)))

  -- so the history has what it had, and more
  has_grown : HasHistory now grown
  has_grown = with_chain [] saved now r₀ had size front_same grown (had.batches ++ goes_on.0) (chain_now ∙ ap (λ (l : List (List ℕ)). Ok l) goes_on.1) grown_is

  is_grown : r ≡ grown
  is_grown = recorded_once now r grown has has_grown

  part_of_grown : IsPart (record { from = s.first; to = None }) grown (from_snapshot s grown)
  part_of_grown =
      let skipped : s.first - r₀.first ≡ length r₀.events = omega (arith, by.first) in
      let rest : drop (s.first - r₀.first) (r₀.events ++ more) ≡ more = ap (λ n. drop n (r₀.events ++ more)) skipped ∙ drop-append_seam r₀.events more in
      record {
        before = r₀.events;
        behind = [];
        all = ap (λ (es : List Event). r₀.events ++ es) (sym rest ∙ sym (append-nil (drop (s.first - r₀.first) (r₀.events ++ more))));
        first = refl;
        count = by.first;
        end = omega (arith, by.first, ap length rest, length-append r₀.events more);
        accepted = by.accepted;
        start = by.start;
      }

  pub begins_part : IsPart (record { from = s.first; to = None }) r (from_snapshot s r)
  begins_part = subst (λ (q : Recorded). IsPart (record { from = s.first; to = None }) q (from_snapshot s q)) (sym is_grown) part_of_grown

pub snapshots_begin_parts : SnapshotsBeginParts
snapshots_begin_parts saved now r₀ r s by size has own apart = begins_part saved now r₀ r s by size has own apart

pub saved_own : SavedAreOwn
saved_own whole image r count state saved has accepted first start = (
  record { first = count; start = state; bytes = gate_at saved.place; digest = saved.digest },
  saved.is,
  record { has = has; accepted = accepted; place = saved.place; ends = saved.ends; bytes = refl; digest = saved.is_digest; first = first; start = start },
  record { place = saved.place; ends = saved.ends; within = omega arith; digest = sym saved.is_digest },
)

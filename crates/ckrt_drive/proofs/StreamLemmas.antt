-- What a stream hands on of what it is given.
use Rattle.std.proofs.Common.{◌≡◌, inl, inr, ◌+◌, ◌-◌, ℕ, zero, suc, max, Bool, true, false, List, [], ◌∷◌, ◌++◌, length, take, drop, Option, refl, sym, ◌∙◌, ap, subst, arith, append-nil, length-append}
use Rattle.std.specs.List.{concat}
use Rattle.std.specs.Io.KnownBytes.{Appends}
use Rattle.std.proofs.lemmas.List.{drop-drop}
use Rattle.std.proofs.lemmas.Bool.Decides.{nat_tests}
use Rattle.std.proofs.Math.Seq.{drop-nil}
use Rattle.ckrt_disk.specs.declared.disk.Disk.{Ghosts}
use Rattle.ckrt_events.specs.declared.event.Event.{Event}
use Rattle.ckrt_stored.specs.Programs.{Program}
use Rattle.ckrt_recovery.specs.declared.session.Session.{Session}
use Rattle.ckrt_recovery.specs.Represents.{Represents}
use Rattle.ckrt_recovery.specs.View.{View, view_of, released_output}
use Rattle.ckrt_recovery.proofs.SessionLemmas.{held_front}
use Rattle.ckrt_disk.specs.Writing.{AppendsPart}
use Rattle.ckrt_recovery.specs.Accepts.{Accepts}
use Rattle.ckrt_disk.proofs.WriteLemmas.{Appends-append, Appends-nothing}
use Rattle.ckrt_drive.specs.Output.{acknowledged_output}
use Rattle.ckrt_disk.specs.Synced.{FailsToWriteSynced}
use Rattle.ckrt_drive.specs.PutOut.{EndsOrFails, PutsAllOut, PutsOutput, between}
use Rattle.ckrt_drive.specs.Streams.{HandsBetween, HandsNothingOn, HandsOn, HasBroken, HasSameWriter, StreamsOutput, got_to, writer_of}
use Rattle.ckrt_drive.specs.declared.stream.StreamOutput.{StreamOutput}

drop_joined : (k : ℕ) (xs ys : List ℕ) → drop k xs ++ drop (k - length xs) ys ≡ drop k (xs ++ ys)
drop_joined zero xs ys = let none : 0 - length xs ≡ 0 = omega arith in ap (λ n. xs ++ drop n ys) none
drop_joined (suc k) [] ys = let all : suc k - 0 ≡ suc k = omega arith in ap (λ n. drop n ys) all
drop_joined (suc k) (x ∷ xs) ys = let less : suc k - suc (length xs) ≡ k - length xs = omega arith in ap (λ n. drop k xs ++ drop n ys) less ∙ drop_joined k xs ys

-- what is behind both of two offsets
behind_both : (n k : ℕ) (bytes : List ℕ) → drop (n - k) (drop k bytes) ≡ drop (max n k) bytes
behind_both n k bytes = let both : k + (n - k) ≡ max n k = grind (arith, nat_tests) in drop-drop (n - k) k bytes ∙ ap (λ m. drop m bytes) both

-- as much of what is behind an offset is left out
same_reach : (m n to : ℕ) → m - to ≡ n - to → max m to ≡ max n to
same_reach m n to e = grind (arith, nat_tests, e)

true_or_false : true ≡ false → ⊥
true_or_false is = absurd (cc)

module _ {W : Type 0} (contents : W → Option (List ℕ)) (o : Ghosts (StreamOutput W))
    (writes : (a : StreamOutput W) (at : ℕ) (bytes : List ℕ) (ok : Bool) (b : StreamOutput W) → o.write_gives a at bytes ok b → HandsOn contents a at bytes ok b)
    (syncs : (a : StreamOutput W) (ok : Bool) (b : StreamOutput W) → o.sync_gives a ok b → HandsNothingOn a ok b) where
  -- what was handed on of pieces, and how much of what is behind them the stream leaves out
  pub record HandsPieces (at : ℕ) (bytes : List ℕ) (a b : StreamOutput W) : Type 0 where
    pub handed : Appends (contents (writer_of a)) (contents (writer_of b)) (drop (got_to a - at) bytes)
    pub left_out : got_to b - (at + length bytes) ≡ got_to a - (at + length bytes)

  hands_pieces : (at : ℕ) (pieces : List (List ℕ)) (a b : StreamOutput W) → PutsAllOut o at pieces a b → HandsPieces at (concat pieces) a b
  hands_pieces at [] a b h = subst (λ (x : StreamOutput W). HandsPieces at [] a x) (sym h) (record {
    handed = subst (λ (l : List ℕ). Appends (contents (writer_of a)) (contents (writer_of a)) l) (sym (drop-nil (got_to a - at))) (Appends-nothing (contents (writer_of a)));
    left_out = refl;
  })
  hands_pieces at (x ∷ xs) a b (mid, put, h) =
      let w = writes a at x true put.written put.write in
      let still = syncs put.written true mid put.sync in
      let moved : got_to mid ≡ max (got_to a) (at + length x) = still.next ∙ w.moved refl in
      let first : Appends (contents (writer_of a)) (contents (writer_of mid)) (drop (got_to a - at) x) = subst (λ (y : W). Appends (contents (writer_of a)) (contents y) (drop (got_to a - at) x)) (sym still.writer) (w.whole refl) in
      let more = hands_pieces (at + length x) xs mid b h in
      let skip : got_to mid - (at + length x) ≡ (got_to a - at) - length x = grind (arith, nat_tests, moved) in
      let joined : drop (got_to a - at) x ++ drop (got_to mid - (at + length x)) (concat xs) ≡ drop (got_to a - at) (x ++ concat xs) =
      ap (λ n. drop (got_to a - at) x ++ drop n (concat xs)) skip ∙ drop_joined (got_to a - at) x (concat xs) in
      let size : length (x ++ concat xs) ≡ length x + length (concat xs) = length-append x (concat xs) in
      record {
        handed = subst (λ (l : List ℕ). Appends (contents (writer_of a)) (contents (writer_of b)) l) joined (Appends-append (contents (writer_of a)) (contents (writer_of mid)) (contents (writer_of b)) (drop (got_to a - at) x) (drop (got_to mid - (at + length x)) (concat xs)) first more.handed);
        left_out = grind (arith, nat_tests, moved, more.left_out, size);
      }

  -- it is lent the same writer all the while
  lent_pieces : (at : ℕ) (pieces : List (List ℕ)) (a b : StreamOutput W) → PutsAllOut o at pieces a b → HasSameWriter a b
  lent_pieces at [] a b h = subst (λ (x : StreamOutput W). HasSameWriter a x) (sym h) refl
  lent_pieces at (x ∷ xs) a b (mid, put, h) = lent_pieces (at + length x) xs mid b h ∙ (syncs put.written true mid put.sync).lent ∙ (writes a at x true put.written put.write).lent

  lent_part : (at : ℕ) (piece : List ℕ) (a b : StreamOutput W) → FailsToWriteSynced o at piece a b → HasSameWriter a b
  lent_part at piece a b (inl write) = (writes a at piece false b write).lent
  lent_part at piece a b (inr (written, write, sync)) = (syncs written false b sync).lent ∙ (writes a at piece true written write).lent

  lent_by : (v : View) (last b : StreamOutput W) (failed : Bool) → EndsOrFails o v last b failed → HasSameWriter last b
  lent_by v last b false h = subst (λ (x : StreamOutput W). HasSameWriter last x) (sym h) refl
  lent_by v last b true h = lent_part v.recovered.confirmed (released_output v) last b h

  -- of the last piece a part
  hands_part : (at : ℕ) (piece : List ℕ) (a b : StreamOutput W) → FailsToWriteSynced o at piece a b → AppendsPart (contents (writer_of a)) (contents (writer_of b)) (drop (got_to a - at) piece)
  hands_part at piece a b (inl write) = (writes a at piece false b write).part refl
  hands_part at piece a b (inr (written, write, sync)) = (
    drop (got_to a - at) piece,
    ([], sym (append-nil (drop (got_to a - at) piece))),
    subst (λ (y : W). Appends (contents (writer_of a)) (contents y) (drop (got_to a - at) piece)) (sym (syncs written false b sync).writer) ((writes a at piece true written write).whole refl),
  )

  -- a stream that had broken hands nothing on
  broken_piece : (at : ℕ) (piece : List ℕ) (a b : StreamOutput W) → HasBroken a → FailsToWriteSynced o at piece a b → writer_of b ≡ writer_of a
  broken_piece at piece a b was (inl write) = ((writes a at piece false b write).broken was).1
  broken_piece at piece a b was (inr (written, write, sync)) = absurd (true_or_false ((writes a at piece true written write).broken was).0)

  broken_pieces : (at : ℕ) (pieces : List (List ℕ)) (a b : StreamOutput W) → HasBroken a → PutsAllOut o at pieces a b → b ≡ a
  broken_pieces at [] a b was h = h
  broken_pieces at (x ∷ xs) a b was (mid, put, h) = absurd (true_or_false ((writes a at x true put.written put.write).broken was).0)

  breaks_by : (at : ℕ) (piece : List ℕ) (a b : StreamOutput W) → FailsToWriteSynced o at piece a b → HasBroken b
  breaks_by at piece a b (inl write) = (writes a at piece false b write).breaks refl
  breaks_by at piece a b (inr (written, write, sync)) = (syncs written false b sync).breaks refl

  ends_by : (v : View) (last b : StreamOutput W) (failed : Bool) → HasBroken last → EndsOrFails o v last b failed → writer_of b ≡ writer_of last
  ends_by v last b false was h = ap writer_of h
  ends_by v last b true was h = broken_piece v.recovered.confirmed (released_output v) last b was h

  ends_broken : (v : View) (last b : StreamOutput W) (failed : Bool) → EndsOrFails o v last b failed → failed ≡ true → HasBroken b
  ends_broken v last b false h is = absurd (true_or_false (sym is))
  ends_broken v last b true h is = breaks_by v.recovered.confirmed (released_output v) last b h

  ends_at : (v : View) (last b : StreamOutput W) (failed : Bool) → EndsOrFails o v last b failed → failed ≡ false → b ≡ last
  ends_at v last b false h is = h
  ends_at v last b true h is = absurd (true_or_false is)

  module _ {D : Type 0} {g : Ghosts D} (accepted : List Event) (s t : Session D g) (a b : StreamOutput W) where
    hands_output : (failed : Bool) → Accepts accepted s t → PutsOutput o accepted s t a b failed → g.is_honest t.disk → (p : Program) (events : List Event) → Represents p events s
        → HandsBetween contents s.progress.confirmed t.progress.confirmed (acknowledged_output p (events ++ accepted) t) a b failed
    hands_output false accepts h honest p events reps =
        let out = acknowledged_output p (events ++ accepted) t in
        let all = hands_pieces s.progress.confirmed h.pieces a h.last h.puts in
        let bytes = ap (drop (got_to a - s.progress.confirmed)) (h.are honest p events reps) ∙ behind_both (got_to a) s.progress.confirmed (take t.progress.confirmed out) in
        subst (λ (x : StreamOutput W). Appends (contents (writer_of a)) (contents (writer_of x)) (between (max (got_to a) s.progress.confirmed) t.progress.confirmed out)) (sym h.rest)
        (subst (λ (l : List ℕ). Appends (contents (writer_of a)) (contents (writer_of h.last)) l) bytes all.handed)
    hands_output true accepts h honest p events reps =
        let out = acknowledged_output p (events ++ accepted) t in
        let there = accepts.represents honest p events reps in
        let all = hands_pieces s.progress.confirmed h.pieces a h.last h.puts in
        let bytes = ap (drop (got_to a - s.progress.confirmed)) (h.are honest p events reps) ∙ behind_both (got_to a) s.progress.confirmed (take t.progress.confirmed out) in
        let front = hands_part t.progress.confirmed (released_output (view_of t)) h.last b h.rest in
        let skip : got_to h.last - t.progress.confirmed ≡ got_to a - t.progress.confirmed = subst (λ n. got_to h.last - n ≡ got_to a - n) h.reach all.left_out in
        let next : drop (got_to h.last - t.progress.confirmed) (released_output (view_of t)) ≡ drop (max (got_to a) t.progress.confirmed) out =
        ap (λ n. drop n (released_output (view_of t))) skip
        ∙ (ap (drop (got_to a - t.progress.confirmed)) (held_front p (events ++ accepted) t there) ∙ behind_both (got_to a) t.progress.confirmed out) in (
          front.0,
          (front.1.0, sym next ∙ front.1.1),
          Appends-append (contents (writer_of a)) (contents (writer_of h.last)) (contents (writer_of b)) (between (max (got_to a) s.progress.confirmed) t.progress.confirmed out) front.0
              (subst (λ (l : List ℕ). Appends (contents (writer_of a)) (contents (writer_of h.last)) l) bytes all.handed) front.2,
        )

    -- a stream that was given a drive's output is lent the same writer still
    pub still_lent : (failed : Bool) → PutsOutput o accepted s t a b failed → HasSameWriter a b
    still_lent failed h = lent_by (view_of t) h.last b failed h.rest ∙ lent_pieces s.progress.confirmed h.pieces a h.last h.puts

    -- what is put out of the fold's output is handed on
    pub streams_output : (failed : Bool) → Accepts accepted s t → PutsOutput o accepted s t a b failed → StreamsOutput contents accepted s t a b failed
    streams_output failed accepts h =
        let all = hands_pieces s.progress.confirmed h.pieces a h.last h.puts in
        record {
          hands = λ honest p events reps. hands_output failed accepts h honest p events reps;
          left_out = λ is.
              let skip : got_to h.last - t.progress.confirmed ≡ got_to a - t.progress.confirmed = subst (λ n. got_to h.last - n ≡ got_to a - n) h.reach all.left_out in
              let end = ap got_to (ends_at (view_of t) h.last b failed h.rest is) in
              same_reach (got_to b) (got_to a) t.progress.confirmed (ap (λ n. n - t.progress.confirmed) end ∙ skip);
          breaks = λ is. ends_broken (view_of t) h.last b failed h.rest is;
          broken = λ was.
              let still = broken_pieces s.progress.confirmed h.pieces a h.last was h.puts in
              ends_by (view_of t) h.last b failed (subst HasBroken (sym still) was) h.rest ∙ ap writer_of still;
          lent = still_lent failed h;
        }

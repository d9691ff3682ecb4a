-- What a file has in which a snapshot was saved.
use Rattle.std.proofs.Common.{◌≡◌, inl, inr, ℕ, ◌≤◌, ◌<◌, ◌^◌, List, [], length, take, drop, sym, ◌∙◌, ap, arith, length-append}
use Rattle.std.proofs.lemmas.List.{append-nil, take_all}
use Rattle.byteorder.specs.Endian.{little_bytes, little_number}
use Rattle.byteorder.specs.Numbers.{little_number-reads_back}
use Rattle.ckrt_stored.specs.AreaFields.{HasBytes}
use Rattle.ckrt_stored.specs.Layout.{number_at}
use Rattle.ckrt_look_recording.specs.Recording.{Recorded}
use Rattle.ckrt_history.specs.Excerpts.{IsClosedOrEmpty, IsEmptyPart, IsStateOf, LaidState}
use Rattle.ckrt_history.specs.History.{HasHistory}
use Rattle.ckrt_history.specs.Snapshots.{HasSnapshot, IsClosedOrState, note_of, saved_with, state_alone}
use Rattle.ckrt_history.proofs.FrontLemmas.{FitsFront, HasFront, config_fits, front_parts}
use Rattle.ckrt_history.proofs.LaidLemmas.{has_empty}

-- THE NOTE

note_number : (n : ℕ) (digest : List ℕ) → n < 256 ^ 8 → number_at 8 0 (note_of n digest) ≡ n
unfolding number_at
note_number n digest small =
    ap (λ (l : List ℕ). little_number 8 l) (sym (append-nil (little_bytes 8 n))) ∙ little_number-reads_back 8 n [] small

note_digest : (n : ℕ) (digest : List ℕ) → length digest ≡ 32 → take 32 (drop 8 (note_of n digest)) ≡ digest
note_digest n digest long = take_all 32 digest (omega (arith, long))

pub note_long : (n : ℕ) (digest : List ℕ) → length digest ≡ 32 → length (note_of n digest) ≡ 40
note_long n digest long = omega (arith, length-append (little_bytes 8 n) digest, long)

-- WHAT STANDS

module _ (whole : List ℕ) (e : LaidState) (of : IsStateOf whole e) where
  pub state_there : (image : List ℕ) → IsEmptyPart e image → HasHistory image (state_alone e.first e.state)
  state_there image (opened, (tables, saved, laid)) = has_empty whole e of image opened tables saved laid

  pub closed_or_state : (image : List ℕ) → IsClosedOrEmpty e image → IsClosedOrState e.first e.state image
  closed_or_state image (inl closed) = inl closed
  closed_or_state image (inr empty) = inr (state_there image empty)

  pub snapshot_there : (image : List ℕ) (n : ℕ) (digest : List ℕ) → n < 256 ^ 8 → length digest ≡ 32 → IsEmptyPart e image → HasBytes image 72 (note_of n digest)
      → HasSnapshot image (record { first = e.first; start = e.state; bytes = n; digest = digest })
  snapshot_there image n digest small long empty has =
      let r : Recorded = state_alone e.first e.state in
      let note : List ℕ = note_of n digest in
      let read : take 40 (drop 72 image) ≡ note = ap (λ k. take k (drop 72 image)) (sym (note_long n digest long)) ∙ has in
      record {
        recorded = r;
        has = state_there image empty;
        is = sym (ap (λ (l : List ℕ). saved_with r l) read
            ∙ ap (λ m. record { first = e.first; start = e.state; bytes = m; digest = take 32 (drop 8 note) }) (note_number n digest small)
            ∙ ap (λ (l : List ℕ). record { first = e.first; start = e.state; bytes = n; digest = l }) (note_digest n digest long));
      }

-- a history has all of a front
pub front_long : (image : List ℕ) (r : Recorded) → HasHistory image r → 112 ≤ length image
front_long image r has =
    let front : HasFront has.config has.area image = front_parts has.config has.area image has.front in
    let fits : FitsFront has.config (length image) = config_fits has.config image front.config in
    omega (arith, fits.room)

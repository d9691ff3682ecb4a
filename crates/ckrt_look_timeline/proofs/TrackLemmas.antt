-- The pieces of one of several threads.
use Rattle.std.proofs.Common.{◌≡◌, ◌≢◌, ◌<◌, ◌++◌, ◌∷◌, ℕ, zero, suc, List, [], replicate, length-append, get_or, length, refl, sym, ap, subst, ◌∙◌, ◌+◌, ◌⊎◌, inl, inr, arith}
use Rattle.std.specs.Global.{Vec}
use Rattle.std.specs.Prelude.{slice_set}
use Rattle.std.proofs.lemmas.Bool.{cases_order}
use Rattle.std.proofs.lemmas.List.{length-map, length-replicate, map-append, replicate_more, get_or-map, get_or-set_other, get_or-set_same, map-set}
use Rattle.ckrt_look_timeline.specs.declared.piece.Activity.{Activity}
use Rattle.ckrt_look_timeline.specs.declared.piece.Activity.TheVariants as activity
use Rattle.ckrt_look_timeline.specs.declared.piece.Piece.{Piece}
use Rattle.ckrt_look_timeline.specs.declared.timeline.Timeline.{Timeline}
use Rattle.ckrt_look_timeline.specs.Pieces.{AreMaximal, ArePieces, GoOn, laid, pieces_at, tracks_of}
use Rattle.ckrt_look_timeline.specs.Tracks.{GoesOn, IsWhole, track_in}

is_set : (vs : List (Vec Piece)) (i : ℕ) (v : Vec Piece) → tracks_of (slice_set vs i v) ≡ slice_set (tracks_of vs) i v.items
is_set vs i v = map-set (λ w. w.items) vs i v

pub pieces_set : (vs : List (Vec Piece)) (i : ℕ) (v : Vec Piece) → i < length vs → pieces_at (slice_set vs i v) i ≡ v.items
pieces_set vs i v less = ap (λ (l : List (List Piece)). get_or l i []) (is_set vs i v) ∙ get_or-set_same (tracks_of vs) i v.items [] (subst (λ n. i < n) (sym (length-map vs (λ (w : Vec Piece). w.items))) less)

pub pieces_kept : (vs : List (Vec Piece)) (i j : ℕ) (v : Vec Piece) → j ≢ i → pieces_at (slice_set vs i v) j ≡ pieces_at vs j
pieces_kept vs i j v other = ap (λ (l : List (List Piece)). get_or l j []) (is_set vs i v) ∙ get_or-set_other (tracks_of vs) i j v.items [] other

pub pieces_are : (vs : List (Vec Piece)) (i : ℕ) (d : Vec Piece) → i < length vs → pieces_at vs i ≡ (get_or vs i d).items
pieces_are vs i d less = get_or-map (λ (w : Vec Piece). w.items) vs i d [] less

-- of each up to a number, where of each below it and of itself
pub up_to : (P : ℕ → Type 0) (i j : ℕ) → ((k : ℕ) → k < i → P k) → P i → j < i + 1 → P j
up_to P i j below here less = go (cases_order j i)
  where
    go : (j ≡ i) ⊎ ((j < i) ⊎ (i < j)) → P j
    go (inl same) = subst P (sym same) here
    go (inr (inl before)) = below j before
    go (inr (inr behind)) = absurd (omega (arith, behind, less))

-- A TIMELINE THAT GOES ON

pub goes_on : (now : List Activity) (n : ℕ) (old new : Timeline) → IsWhole old → length new.tracks.items ≡ length old.tracks.items → GoOn now n old.tracks.items new.tracks.items → new.steps ≡ old.steps + n
    → GoesOn (λ i. replicate n (get_or now i activity.Absent)) old new
goes_on now n old new whole many on steps =
    let behind : (i : ℕ) → i < 64 → ArePieces (track_in old i ++ replicate n (get_or now i activity.Absent)) (pieces_at new.tracks.items i) =
    λ i less. on i (track_in old i) (omega (arith, whole.threads, less)) (record { partition = refl; maximal = whole.maximal i less }) in
    record {
      whole = record {
        threads = many ∙ whole.threads;
        maximal = λ i less. (behind i less).maximal;
        even = λ i less.
            ap (λ l. length l) (behind i less).partition ∙ length-append (track_in old i) (replicate n (get_or now i activity.Absent))
            ∙ ap (λ k. k + length (replicate n (get_or now i activity.Absent))) (whole.even i less) ∙ ap (λ k. old.steps + k) (length-replicate n (get_or now i activity.Absent)) ∙ sym steps;
      };
      tracks = λ i less. (behind i less).partition;
    }

-- NO STEPS YET

abbrev no_pieces : List Piece
no_pieces = []

none_at : (n i : ℕ) → get_or (replicate n no_pieces) i [] ≡ []
none_at zero i = refl
none_at (suc n) zero = refl
none_at (suc n) (suc i) = none_at n i

pub nothing_yet : (z : Timeline) → tracks_of z.tracks.items ≡ replicate 64 [] → z.steps ≡ 0 → IsWhole z
nothing_yet z is none =
    let at : (i : ℕ) → pieces_at z.tracks.items i ≡ [] = λ i. ap (λ (l : List (List Piece)). get_or l i []) is ∙ none_at 64 i in
    record {
      threads = sym (length-map z.tracks.items (λ (w : Vec Piece). w.items)) ∙ ap (λ (l : List (List Piece)). length l) is;
      maximal = λ i less. subst AreMaximal (sym (at i)) tt;
      even = λ i less. ap (λ ps. length (laid ps)) (at i) ∙ sym none;
    }

pub nothing_done : (z : Timeline) (i : ℕ) → tracks_of z.tracks.items ≡ replicate 64 [] → track_in z i ≡ []
nothing_done z i is = ap laid (ap (λ (l : List (List Piece)). get_or l i []) is ∙ none_at 64 i)

pub one_more : (vs : List (Vec Piece)) (v : Vec Piece) (n : ℕ) → tracks_of vs ≡ replicate n [] → v.items ≡ [] → tracks_of (vs ++ v ∷ []) ≡ replicate (n + 1) []
one_more vs v n is none =
    map-append (λ (w : Vec Piece). w.items) vs (v ∷ []) ∙ ap (λ (l : List (List Piece)). l ++ v.items ∷ []) is ∙ ap (λ (ps : List Piece). replicate n [] ++ ps ∷ []) none ∙ replicate_more n []

-- Pieces that go on.
use Rattle.std.proofs.Common.{◌≡◌, ◌≢◌, ◌≤◌, ◌+◌, ℕ, List, [], ◌∷◌, ◌++◌, replicate, refl, sym, ap, ◌∙◌, append_assoc, arith}
use Rattle.std.proofs.lemmas.List.{append-nil, replicate-append-replicate}
use Rattle.std.proofs.lemmas.Grind.{flat_map-append}
use Rattle.ckrt_look_timeline.specs.declared.piece.Activity.{Activity}
use Rattle.ckrt_look_timeline.specs.declared.piece.Piece.{Piece}
use Rattle.ckrt_look_timeline.specs.Pieces.{AreMaximal, ArePieces, IsOther, laid, steps_of}

abbrev pub piece : Activity → ℕ → Piece
piece a n = record { activity = a; steps = n }

-- WHAT IS DONE AT EACH STEP

laid_last : (init : List Piece) (p : Piece) → laid (init ++ p ∷ []) ≡ laid init ++ steps_of p
laid_last init p = flat_map-append steps_of init (p ∷ []) ∙ ap (λ l. laid init ++ l) (append-nil (steps_of p))

-- THE NEXT ONE IS ANOTHER

other_last : (a : Activity) (init : List Piece) (p q : Piece) → p.activity ≡ q.activity → IsOther a (init ++ p ∷ []) → IsOther a (init ++ q ∷ [])
other_last a [] p q same other = λ e. other (e ∙ sym same)
other_last a (x ∷ xs) p q same other = other

other_more : (a : Activity) (init : List Piece) (p q : Piece) → IsOther a (init ++ p ∷ []) → IsOther a ((init ++ p ∷ []) ++ q ∷ [])
other_more a [] p q other = other
other_more a (x ∷ xs) p q other = other

-- THE LAST ONE GOES ON

maximal_grown : (init : List Piece) (p q : Piece) → p.activity ≡ q.activity → 1 ≤ q.steps → AreMaximal (init ++ p ∷ []) → AreMaximal (init ++ q ∷ [])
maximal_grown [] p q same some maximal = (some, tt, tt)
maximal_grown (x ∷ xs) p q same some maximal = (maximal.0, other_last x.activity xs p q same maximal.1, maximal_grown xs p q same some maximal.2)

-- ANOTHER ONE FOLLOWS

maximal_more : (init : List Piece) (p q : Piece) → p.activity ≢ q.activity → 1 ≤ q.steps → AreMaximal (init ++ p ∷ []) → AreMaximal ((init ++ p ∷ []) ++ q ∷ [])
maximal_more [] p q other some maximal = (maximal.0, other, (some, tt, tt))
maximal_more (x ∷ xs) p q other some maximal = (maximal.0, other_more x.activity xs p q maximal.1, maximal_more xs p q other some maximal.2)

-- PIECES OF A LONGER WAY

pub grown : (init : List Piece) (a : Activity) (n m : ℕ) (track : List Activity) → 1 ≤ m → ArePieces track (init ++ piece a n ∷ []) → ArePieces (track ++ replicate m a) (init ++ piece a (n + m) ∷ [])
grown init a n m track some are = record {
  partition =
      laid_last init (piece a (n + m)) ∙ ap (λ l. laid init ++ l) (sym (replicate-append-replicate n m a)) ∙ sym (append_assoc (laid init) (replicate n a) (replicate m a))
      ∙ ap (λ l. l ++ replicate m a) (sym (laid_last init (piece a n)) ∙ are.partition);
  maximal = maximal_grown init (piece a n) (piece a (n + m)) refl (omega (arith, some)) are.maximal;
}

pub followed : (init : List Piece) (last : Piece) (a : Activity) (m : ℕ) (track : List Activity) → last.activity ≢ a → 1 ≤ m → ArePieces track (init ++ last ∷ [])
    → ArePieces (track ++ replicate m a) ((init ++ last ∷ []) ++ piece a m ∷ [])
followed init last a m track other some are = record {
  partition = laid_last (init ++ last ∷ []) (piece a m) ∙ ap (λ l. l ++ replicate m a) are.partition;
  maximal = maximal_more init last (piece a m) other some are.maximal;
}

pub begun : (a : Activity) (m : ℕ) (track : List Activity) → 1 ≤ m → ArePieces track [] → ArePieces (track ++ replicate m a) (piece a m ∷ [])
begun a m track some are = record {
  partition = append-nil (replicate m a) ∙ ap (λ l. l ++ replicate m a) are.partition;
  maximal = (some, tt, tt);
}

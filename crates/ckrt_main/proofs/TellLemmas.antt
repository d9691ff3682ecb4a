-- What a listener is told, one reply after another.
use Rattle.std.proofs.Common.{◌≡◌, ℕ, List, [], ◌∷◌, ◌++◌, Option, refl, sym, ◌∙◌, ap, subst, append_assoc, append-nil}
use Rattle.std.specs.Io.KnownBytes.{Appends}
use Rattle.ckrt_disk.specs.Lists.{IsBeginningOf}
use Rattle.ckrt_main.specs.Pieces.{Tells}
use Rattle.ckrt_main.specs.Replies.{Reply, told_of}
use Rattle.ckrt_disk.specs.Writing.{AppendsPart}
use Rattle.ckrt_main.proofs.ReplyLemmas.{told-append}
use Rattle.ckrt_disk.proofs.WriteLemmas.{Appends-append, Appends-nothing}

begins_nothing : (part : List ℕ) → IsBeginningOf part [] → part ≡ []
begins_nothing [] h = refl
begins_nothing (b ∷ part) h = let no : b ∷ (part ++ h.0) ≡ [] = sym h.1 in cc

module _ (text : Reply → List ℕ) where
  -- whole replies are all that was told
  pub told_whole : (a b : Option (List ℕ)) (replies : List Reply) → Tells text a b replies [] → Appends a b (told_of text replies)
  told_whole a b replies h = subst (Appends a b) (ap (λ (l : List ℕ). told_of text replies ++ l) (begins_nothing h.part h.begun) ∙ append-nil (told_of text replies)) h.written

  pub tells_more : (a b c : Option (List ℕ)) (xs ys broken : List Reply) → Tells text a b xs [] → Tells text b c ys broken → Tells text a c (xs ++ ys) broken
  tells_more a b c xs ys broken first second = record {
    part = second.part;
    written = subst (Appends a c) (sym (append_assoc (told_of text xs) (told_of text ys) second.part) ∙ ap (λ (l : List ℕ). l ++ second.part) (sym (told-append text xs ys)))
        (Appends-append a b c (told_of text xs) (told_of text ys ++ second.part) (told_whole a b xs first) second.written);
    begun = second.begun;
  }

  pub tells_nothing : (a : Option (List ℕ)) → Tells text a a [] []
  tells_nothing a = record { part = []; written = Appends-nothing a; begun = ([], refl) }

  pub tells_all : (a b : Option (List ℕ)) (replies : List Reply) → Appends a b (told_of text replies) → Tells text a b replies []
  tells_all a b replies h = record { part = []; written = subst (Appends a b) (sym (append-nil (told_of text replies))) h; begun = ([], refl) }

  -- one reply was told
  pub tells_one : (a b : Option (List ℕ)) (r : Reply) → Appends a b (text r) → Tells text a b (r ∷ []) []
  tells_one a b r h = tells_all a b (r ∷ []) (subst (Appends a b) (sym (append-nil (text r))) h)

  -- or a part of it
  pub tells_half : (a b : Option (List ℕ)) (r : Reply) → AppendsPart a b (text r) → Tells text a b [] (r ∷ [])
  tells_half a b r h = record { part = h.0; written = h.2; begun = subst (IsBeginningOf h.0) (sym (append-nil (text r))) h.1 }

-- Lines of output, one after another; and a reader that gives bytes after bytes.
use Rattle.std.proofs.Common.{◌≡◌, ℕ, ◌+◌, ◌<◌, List, [], ◌∷◌, ◌++◌, length, take, drop, min, arith, sym, ◌∙◌, ap, subst, append_assoc, append-nil, Option, Some, None}
use Rattle.std.specs.Io.KnownBytes.{Appends, Consumes}
use Rattle.ckrt_main.specs.Pieces.{TellsPart}
use Rattle.ckrt_main.specs.Replies.{Reply, Output, line_of, out_line, outputs}
use Rattle.ckrt_disk.specs.Writing.{AppendsPart}
use Rattle.ckrt_main.proofs.ReplyLemmas.{outputs-next}
use Rattle.ckrt_main.proofs.TellLemmas.{tells_half, tells_more, tells_one}
use Rattle.ckrt_main.specs.Service.{Writes}

pub Consumes-append : (a b c : Option (List ℕ)) (x y : List ℕ) → Consumes a b x → Consumes b c y → Consumes a c (x ++ y)
Consumes-append None b c x y p q = tt
Consumes-append (Some s) None c x y p q = absurd p
Consumes-append (Some s) (Some t) None x y p q = absurd q
Consumes-append (Some s) (Some t) (Some u) x y p q = p ∙ (ap (λ (l : List ℕ). x ++ l) q ∙ sym (append_assoc x y u))

-- LINES OF OUTPUT

module _ (a b d : Option (List ℕ)) (offset at n : ℕ) (rest bytes line more : List ℕ) (shown : List Reply) (count : n ≡ min (length rest) 64) (some : 0 < length rest) (front : line ≡ take n rest) (back : more ≡ drop n rest)
    (written : Writes a b shown []) (left : shown ++ outputs at rest ≡ outputs offset bytes) where
  next_line : outputs at rest ≡ Output at line ∷ outputs (at + length line) more
  next_line = outputs-next at n rest count some
      ∙ (ap (λ (l : List ℕ). Output at l ∷ outputs (at + length l) (drop n rest)) (sym front) ∙ ap (λ (l : List ℕ). Output at line ∷ outputs (at + length line) l) (sym back))

  all_lines : (shown ++ Output at line ∷ []) ++ outputs (at + length line) more ≡ outputs offset bytes
  all_lines = append_assoc shown (Output at line ∷ []) (outputs (at + length line) more) ∙ (ap (λ (l : List Reply). shown ++ l) (sym next_line) ∙ left)

  -- a line more was written
  pub line_more : Appends b d (out_line at line) → (all : List Reply) × Writes a d all [] × (all ++ outputs (at + length line) more ≡ outputs offset bytes)
  line_more text = (shown ++ Output at line ∷ [], tells_more line_of a b d shown (Output at line ∷ []) [] written (tells_one line_of b d (Output at line) text), all_lines)

  -- the writer broke it off
  pub line_broken : AppendsPart b d (out_line at line) → TellsPart line_of a d (outputs offset bytes)
  line_broken text = record {
    replies = shown;
    broken = Output at line ∷ [];
    one = omega arith;
    tells = subst (λ (l : List Reply). Writes a d l (Output at line ∷ [])) (append-nil shown) (tells_more line_of a b d shown [] (Output at line ∷ []) written (tells_half line_of b d (Output at line) text));
    among = (outputs (at + length line) more, sym all_lines);
  }

-- A room for all parts isn't used up.
use Rattle.std.proofs.Common.{◌≡◌, ◌≤◌, ◌<◌, ℕ, zero, suc, ◌+◌, ◌/◌, nat_lt, Bool, true, false, List, [], ◌∷◌, length, get_or, slice_get, slice_set, replicate, Option, None, Some, refl, sym, ◌∙◌, subst, arith}
use Rattle.std.proofs.lemmas.Bool.Decides.{nat_tests}
use Rattle.std.proofs.lemmas.List.{length-replicate, length-set}
use Rattle.ckrt_look_clocks.specs.declared.operation.Access.{Access}
use Rattle.ckrt_look_clocks.specs.declared.operation.Block.{Block}
use Rattle.ckrt_look_clocks.specs.declared.operation.Operation.{Operation}
use Rattle.ckrt_look_clocks.specs.declared.operation.Operation.TheVariants as operation
use Rattle.ckrt_look_clocks.specs.declared.shadow.Cell.{Cell}
use Rattle.ckrt_look_clocks.specs.Detection.{Watched, access_at, behind, few_words, given_with, kept, no_accesses, renewed, word_of}
use Rattle.ckrt_look_clocks.specs.Parts.{Slots, has_slot, parts_over, taking, touched, touched_parts}
use Rattle.ckrt_look_clocks.specs.Within.{Detected, RoomForAllSuffices, noted_all, noted_one, fresh_within, slots_for}
use Rattle.ckrt_look_clocks.proofs.ListLemmas.{chosen, passed_over}
use Rattle.ckrt_look_clocks.proofs.ClockLemmas.{less_test}
use Rattle.ckrt_look_clocks.proofs.PartLemmas.{no_slot}
use Rattle.ckrt_look_clocks.proofs.WithinLemmas.{noted_open, some_parts, taken_slot, within_some}

-- HOW MANY PARTS HAVE A SLOT
some_count : List (Option ℕ) → ℕ
some_count [] = 0
some_count (None ∷ b) = some_count b
some_count (Some slot ∷ b) = suc (some_count b)

at_most : (b : List (Option ℕ)) → some_count b ≤ length b
unfolding some_count
at_most [] = omega arith
at_most (None ∷ b) = omega (arith, at_most b)
at_most (Some slot ∷ b) = omega (arith, at_most b)

fewer : (b : List (Option ℕ)) (p : ℕ) → p < length b → get_or b p None ≡ None → some_count b < length b
unfolding some_count
fewer [] p l none = absurd (omega (arith, l))
fewer (None ∷ b) zero l none = omega (arith, at_most b)
fewer (None ∷ b) (suc p) l none = omega (arith, fewer b p (omega (arith, l)) none)
fewer (Some slot ∷ b) zero l none = absurd (cc)
fewer (Some slot ∷ b) (suc p) l none = omega (arith, fewer b p (omega (arith, l)) none)

one_more : (b : List (Option ℕ)) (p x : ℕ) → p < length b → get_or b p None ≡ None → some_count (slice_set b p (Some x)) ≡ some_count b + 1
unfolding some_count
one_more [] p x l none = absurd (omega (arith, l))
one_more (None ∷ b) zero x l none = omega arith
one_more (None ∷ b) (suc p) x l none = one_more b p x (omega (arith, l)) none
one_more (Some slot ∷ b) zero x l none = absurd (cc)
one_more (Some slot ∷ b) (suc p) x l none = omega (arith, one_more b p x (omega (arith, l)) none)

none_yet : (n : ℕ) → some_count (replicate n None) ≡ 0
unfolding some_count
none_yet zero = refl
none_yet (suc n) = none_yet n

-- A ROOM FOR ALL
record Suffices (words : ℕ) (s : Slots) : Type 0 where
  pub left : s.is_full ≡ false
  pub parts : length s.by_part ≡ words / 1024 + 1
  pub few : s.taken ≡ some_count s.by_part
  pub enough : words / 1024 + 1 ≤ s.count

touched_suffices : (words part : ℕ) (s : Slots) → part < words / 1024 + 1 → Suffices words s → Suffices words (touched part s)
touched_suffices words part s inside is = go (has_slot part s) refl
  where
    go : (t : Bool) → has_slot part s ≡ t → Suffices words (touched part s)
    go true e = subst (Suffices words) (sym (chosen (has_slot part s) s (taking part s) e)) is
    go false e =
        let none : get_or s.by_part part None ≡ None = no_slot (get_or s.by_part part None) e in
        let less : part < length s.by_part = omega (arith, inside, is.parts) in
        let free : nat_lt s.taken s.count ≡ true = less_test s.taken s.count (omega (arith, fewer s.by_part part less none, is.few, is.parts, is.enough)) in
        subst (Suffices words) (sym (passed_over (has_slot part s) s (taking part s) e ∙ taken_slot part s free)) (record {
          left = is.left;
          parts = length-set s.by_part part (Some s.taken) ∙ is.parts;
          few = omega (arith, is.few, one_more s.by_part part s.taken less none);
          enough = is.enough;
        })

parts_suffice : (words n first : ℕ) (s : Slots) → (1 ≤ n → first + n ≤ words / 1024 + 1) → Suffices words s → Suffices words (touched_parts n first s)
parts_suffice words zero first s inside is = is
parts_suffice words (suc n) first s inside is =
    let below : first + suc n ≤ words / 1024 + 1 = inside (omega arith) in
    touched_suffices words (first + n) (touched_parts n first s) (omega (arith, below)) (parts_suffice words n first s (λ some. omega (arith, below)) is)

-- the shadow has as many words behind each operation
access_size : (a : Access) (c : Option Cell) (w : Watched) → length (access_at a c w).shadow ≡ length w.shadow
access_size a None w = refl
access_size a (Some c) w = length-set w.shadow (word_of a) (kept a c)

renewed_size : (n : ℕ) (m : Block) (l : List Cell) → length (renewed n m l) ≡ length l
renewed_size zero m l = refl
renewed_size (suc n) m l = length-set (renewed n m l) (m.first + n) (given_with m) ∙ renewed_size n m l

pub behind_size : (o : Operation) (w : Watched) → length (behind o w).shadow ≡ length w.shadow
behind_size (operation.Access a) w = access_size a (slice_get w.shadow (word_of a)) w
behind_size (operation.Pass from to p) w = refl
behind_size (operation.Lock l p) w = refl
behind_size (operation.Renew m) w = renewed_size (few_words m w.shadow) m w.shadow

slots_suffice : (words : ℕ) (o : Operation) (w : Watched) (s : Slots) → length w.shadow ≡ words → Suffices words s → Suffices words (slots_for o w s)
slots_suffice words (operation.Access a) w s size is = go (nat_lt (word_of a) (length w.shadow)) refl
  where
    go : (t : Bool) → nat_lt (word_of a) (length w.shadow) ≡ t → Suffices words (slots_for (operation.Access a) w s)
    go true e =
        let less : word_of a < length w.shadow = grind (arith, nat_tests, e) in
        subst (Suffices words) (sym (chosen (nat_lt (word_of a) (length w.shadow)) (touched (word_of a / 1024) s) s e))
        (touched_suffices words (word_of a / 1024) s (omega (arith, less, size)) is)
    go false e = subst (Suffices words) (sym (passed_over (nat_lt (word_of a) (length w.shadow)) (touched (word_of a / 1024) s) s e)) is
slots_suffice words (operation.Pass from to p) w s size is = is
slots_suffice words (operation.Lock l p) w s size is = is
slots_suffice words (operation.Renew m) w s size is = go (few_words m w.shadow) refl
  where
    go : (n : ℕ) → n ≡ few_words m w.shadow → Suffices words (touched_parts (parts_over n m.first) (m.first / 1024) s)
    go zero e = is
    go (suc n) e = parts_suffice words (parts_over (suc n) m.first) (m.first / 1024) s (λ some. omega (arith, e, size, some_parts (suc n) m.first (omega arith))) is

record Fine (words : ℕ) (d : Detected) : Type 0 where
  pub slots : Suffices words d.slots
  pub size : length d.watched.shadow ≡ words

fine_behind : (words : ℕ) (o : Operation) (d : Detected) → Fine words d → Fine words (noted_one o d)
fine_behind words o d is =
    let s : Slots = slots_for o d.watched d.slots in
    let more : Suffices words s = slots_suffice words o d.watched d.slots is.size is.slots in
    subst (Fine words) (noted_open s o d.watched more.left ∙ within_some o d s is.slots.left refl) (record {
      slots = more;
      size = behind_size o d.watched ∙ is.size;
    })

fine_all : (words : ℕ) (os : List Operation) (d : Detected) → Fine words d → Fine words (noted_all os d)
fine_all words [] d is = is
fine_all words (o ∷ os) d is = fine_all words os (noted_one o d) (fine_behind words o d is)

pub room_for_all : RoomForAllSuffices
room_for_all holders words slots os enough =
    (fine_all words os (fresh_within holders words slots) (record {
      slots = record {
        left = refl;
        parts = length-replicate (words / 1024 + 1) None;
        few = sym (none_yet (words / 1024 + 1));
        enough = enough;
      };
      size = length-replicate words no_accesses;
    })).slots.left

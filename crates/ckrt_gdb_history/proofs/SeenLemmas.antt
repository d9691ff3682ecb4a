-- The bytes that were seen under watches.
use Rattle.std.proofs.Common.{◌≡◌, ℕ, zero, suc, ◌+◌, ◌-◌, ◌<◌, ◌≤◌, ◌&&◌, Bool, true, false, if◌then◌else◌, nat_le, List, [], ◌∷◌, ◌++◌, drop, length, Option, Some, None, slice_get, refl, sym, ap, ◌∙◌, arith, append_assoc, add-zero, add-one, length-append, get_or}
use Rattle.std.proofs.Math.Seq.{drop-cons}
use Rattle.std.proofs.lemmas.List.Folds.{list_all-append}
use Rattle.std.proofs.lemmas.Bool.{and_parts}
use Rattle.std.proofs.lemmas.Bool.Decides.{nat_tests}
use Rattle.std.proofs.lemmas.Option.{slice_get-get_or, slice_get_past}
use Rattle.ckrt_rv32i.specs.Memory.{byte_at}
use Rattle.ckrt_gdb_history.specs.declared.reason.SeenByte.{SeenByte}
use Rattle.ckrt_gdb_history.specs.declared.stop.Watch.{Watch}
use Rattle.ckrt_gdb_history.specs.declared.stop.WatchKind.{WatchKind}
use Rattle.ckrt_gdb_history.specs.declared.stop.WatchKind.TheVariants.{Changes, Loads, Accesses}
use Rattle.ckrt_gdb_history.specs.Stops.{bytes_at, bytes_for, bytes_from, bytes_in, watched, width, widths}
use Rattle.ckrt_gdb_history.specs.Search.{are_there, byte_if, is_same, is_there, seen_byte, seen_for, seen_from, seen_in, seen_under}

-- A RANGE

pub seen_length : (n a : ℕ) (bytes : List ℕ) → length (seen_from n a bytes) ≡ n
seen_length zero a bytes = refl
seen_length (suc n) a bytes = ap suc (seen_length n (suc a) bytes)

one_more : (n a : ℕ) (bytes : List ℕ) → seen_from (suc n) a bytes ≡ seen_from n a bytes ++ seen_byte (a + n) bytes ∷ []
one_more zero a bytes = ap (λ (x : ℕ). seen_byte x bytes ∷ []) (sym (add-zero a))
one_more (suc n) a bytes =
    let next : suc a + n ≡ a + suc n = omega arith in
    ap (λ (l : List SeenByte). seen_byte a bytes ∷ l) (one_more n (suc a) bytes ∙ ap (λ (x : ℕ). seen_from n (suc a) bytes ++ seen_byte x bytes ∷ []) next)

-- an address more
pub sees_on : (first a : ℕ) (bytes : List ℕ) (old now new : List SeenByte) → first ≤ a → now ≡ old ++ seen_from (a - first) first bytes → new ≡ now ++ seen_byte a bytes ∷ [] → new ≡ old ++ seen_from (a + 1 - first) first bytes
sees_on first a bytes old now new least so more =
    let next : suc (a - first) ≡ a + 1 - first = omega (arith, least) in
    let here : first + (a - first) ≡ a = omega (arith, least) in
    more ∙ ap (λ (l : List SeenByte). l ++ seen_byte a bytes ∷ []) so
    ∙ append_assoc old (seen_from (a - first) first bytes) (seen_byte a bytes ∷ [])
    ∙ ap (λ (l : List SeenByte). old ++ l) (ap (λ (x : ℕ). seen_from (a - first) first bytes ++ seen_byte x bytes ∷ []) (sym here) ∙ sym (one_more (a - first) first bytes) ∙ ap (λ n. seen_from n first bytes) next)

-- there is room for one
pub room_to_see : (first a last : ℕ) (bytes : List ℕ) (old now : List SeenByte) → first ≤ a → a < last + 1 → length old + (last + 1 - first) ≤ 256 → now ≡ old ++ seen_from (a - first) first bytes → length now < 256
room_to_see first a last bytes old now least most room so =
    let few = seen_length (a - first) first bytes in
    let both : length now ≡ length old + length (seen_from (a - first) first bytes) = ap length so ∙ length-append old (seen_from (a - first) first bytes) in
    omega (arith, least, most, room, few, both)

-- under a watch there are as many as it has addresses, or none
few_for : (k : WatchKind) (w : Watch) (bytes : List ℕ) → length (seen_for k w bytes) ≤ width w
few_for Changes w bytes = (let all = seen_length (width w) w.first bytes in omega (arith, all))
few_for Loads w bytes = omega arith
few_for Accesses w bytes = omega arith

-- A WATCH MORE

module _ (ws : List Watch) (i : ℕ) (d : Watch) (bytes : List ℕ) (now new : List SeenByte) (less : i < length ws) (more : new ≡ now ++ seen_in bytes (get_or ws i d)) where
  ahead : drop i ws ≡ get_or ws i d ∷ drop (i + 1) ws
  ahead = drop-cons ws i d less ∙ ap (λ j. get_or ws i d ∷ drop j ws) (sym (add-one i))

  pub more_seen : now ++ seen_under (drop i ws) bytes ≡ seen_under ws bytes → new ++ seen_under (drop (i + 1) ws) bytes ≡ seen_under ws bytes
  more_seen so =
      ap (λ l. l ++ seen_under (drop (i + 1) ws) bytes) more
      ∙ append_assoc now (seen_in bytes (get_or ws i d)) (seen_under (drop (i + 1) ws) bytes)
      ∙ sym (ap (λ l. now ++ seen_under l bytes) ahead) ∙ so

  pub less_room_to_see : length now + widths (drop i ws) ≤ 256 → length new + widths (drop (i + 1) ws) ≤ 256
  less_room_to_see room =
      let few = few_for (get_or ws i d).kind (get_or ws i d) bytes in
      let both : length new ≡ length now + length (seen_in bytes (get_or ws i d)) = ap length more ∙ length-append now (seen_in bytes (get_or ws i d)) in
      let all : widths (drop i ws) ≡ width (get_or ws i d) + widths (drop (i + 1) ws) = ap widths ahead in
      omega (arith, room, few, both, all)

-- WHAT IS THERE AS IT WAS

abbrev listed : Option ℕ → List ℕ
listed None = []
listed (Some b) = b ∷ []

within : (b c : Bool) (o : Option ℕ) (v : ℕ) → (b ≡ true → c ≡ true → o ≡ Some v) → (b ≡ true → c ≡ false → o ≡ None) → (if b && c then v ∷ [] else []) ≡ listed (if b then o else None)
within false c o v inside past = refl
within true true o v inside past = sym (ap listed (inside refl refl))
within true false o v inside past = sym (ap listed (past refl refl))

byte_listed : (a : ℕ) (bytes : List ℕ) → bytes_at a bytes ≡ listed (byte_if a bytes)
byte_listed a bytes =
    within (nat_le 4096 a) (nat_le (a + 1) (4096 + length bytes)) (slice_get bytes (a - 4096)) (byte_at bytes a)
    (λ low high. let less : a - 4096 < length bytes = grind (arith, nat_tests, low, high) in slice_get-get_or bytes (a - 4096) 0 less)
    (λ low over. let past : length bytes ≤ a - 4096 = grind (arith, nat_tests, low, over) in slice_get_past bytes (a - 4096) past)

same_option : (a b : Option ℕ) → is_same a b ≡ true → a ≡ b
same_option None None is = refl
same_option None (Some y) is = absurd (cc)
same_option (Some x) None is = absurd (cc)
same_option (Some x) (Some y) is = ap (λ z. Some z) (grind (arith, nat_tests, is))

module _ (old new : List ℕ) where
  same_byte : (a : ℕ) → is_there new (seen_byte a old) ≡ true → bytes_at a new ≡ bytes_at a old
  same_byte a there = byte_listed a new ∙ ap listed (same_option (byte_if a new) (byte_if a old) there) ∙ sym (byte_listed a old)

  same_from : (n a : ℕ) → are_there new (seen_from n a old) ≡ true → bytes_from n a new ≡ bytes_from n a old
  same_from zero a there = refl
  same_from (suc n) a there =
      let both = and_parts (is_there new (seen_byte a old)) (are_there new (seen_from n (suc a) old)) there in
      ap (λ l. l ++ bytes_from n (suc a) new) (same_byte a both.0) ∙ ap (λ l. bytes_at a old ++ l) (same_from n (suc a) both.1)

  same_for : (k : WatchKind) (w : Watch) → are_there new (seen_for k w old) ≡ true → bytes_for k w new ≡ bytes_for k w old
  same_for Changes w there = same_from (width w) w.first there
  same_for Loads w there = refl
  same_for Accesses w there = refl

  -- the bytes under watches are the same where each byte seen there is
  pub same_watched : (ws : List Watch) → are_there new (seen_under ws old) ≡ true → watched ws new ≡ watched ws old
  same_watched [] there = refl
  same_watched (w ∷ ws) there =
      let both = and_parts (are_there new (seen_in old w)) (are_there new (seen_under ws old)) (sym (list_all-append (is_there new) (seen_in old w) (seen_under ws old)) ∙ there) in
      ap (λ l. l ++ watched ws new) (same_for w.kind w both.0) ∙ ap (λ l. bytes_in old w ++ l) (same_watched ws both.1)

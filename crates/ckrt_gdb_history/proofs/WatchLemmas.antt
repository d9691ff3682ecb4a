-- The bytes under watches.
use Rattle.std.proofs.Common.{◌≡◌, ℕ, zero, suc, ◌+◌, ◌-◌, ◌<◌, ◌≤◌, Bool, true, false, if◌then◌else◌, List, [], ◌∷◌, ◌++◌, drop, length, Some, None, refl, sym, ap, ◌∙◌, arith, append_assoc, add-zero, add-one, length-append, get_or}
use Rattle.std.proofs.Math.Seq.{drop-cons}
use Rattle.std.proofs.lemmas.List.{append-nil}
use Rattle.ckrt_rv32i.specs.Memory.{is_valid, byte_at}
use Rattle.ckrt_rv32i.specs.declared.memory_bus.Size.TheVariants as size
use Rattle.ckrt_gdb_history.specs.declared.stop.Watch.{Watch}
use Rattle.ckrt_gdb_history.specs.declared.stop.WatchKind.{WatchKind}
use Rattle.ckrt_gdb_history.specs.declared.stop.WatchKind.TheVariants.{Changes, Loads, Accesses}
use Rattle.ckrt_gdb_history.specs.Stops.{bytes_at, bytes_for, bytes_from, bytes_in, watched, width, widths}

-- A BYTE

pub there : (b : Bool) (v byte : ℕ) → Some byte ≡ (if b then Some v else None) → byte ∷ [] ≡ (if b then v ∷ [] else [])
there true v byte is = (let same : byte ≡ v = cc in ap (λ x. x ∷ []) same)
there false v byte is = absurd (cc)

pub nowhere : (b : Bool) (v : ℕ) → None ≡ (if b then Some v else None) → [] ≡ (if b then v ∷ [] else [])
nowhere true v is = absurd (cc)
nowhere false v is = refl

one_at_most : (b : Bool) (v : ℕ) → length (if b then v ∷ [] else []) ≤ 1
one_at_most true v = omega arith
one_at_most false v = omega arith

-- A RANGE

pub few_from : (n a : ℕ) (bytes : List ℕ) → length (bytes_from n a bytes) ≤ n
few_from zero a bytes = omega arith
few_from (suc n) a bytes =
    let one = one_at_most (is_valid bytes a size.Byte) (byte_at bytes a) in
    let rest = few_from n (suc a) bytes in
    let both = length-append (bytes_at a bytes) (bytes_from n (suc a) bytes) in
    omega (arith, one, rest, both)

one_more : (n a : ℕ) (bytes : List ℕ) → bytes_from (suc n) a bytes ≡ bytes_from n a bytes ++ bytes_at (a + n) bytes
one_more zero a bytes = append-nil (bytes_at a bytes) ∙ ap (λ x. bytes_at x bytes) (sym (add-zero a))
one_more (suc n) a bytes =
    let next : suc a + n ≡ a + suc n = omega arith in
    ap (λ l. bytes_at a bytes ++ l) (one_more n (suc a) bytes ∙ ap (λ x. bytes_from n (suc a) bytes ++ bytes_at x bytes) next)
    ∙ sym (append_assoc (bytes_at a bytes) (bytes_from n (suc a) bytes) (bytes_at (a + suc n) bytes))

-- an address more
pub goes_on : (first a : ℕ) (bytes old now new : List ℕ) → first ≤ a → now ≡ old ++ bytes_from (a - first) first bytes → new ≡ now ++ bytes_at a bytes → new ≡ old ++ bytes_from (a + 1 - first) first bytes
goes_on first a bytes old now new least so more =
    let next : suc (a - first) ≡ a + 1 - first = omega (arith, least) in
    let here : first + (a - first) ≡ a = omega (arith, least) in
    more ∙ ap (λ l. l ++ bytes_at a bytes) so
    ∙ append_assoc old (bytes_from (a - first) first bytes) (bytes_at a bytes)
    ∙ ap (λ l. old ++ l) (ap (λ x. bytes_from (a - first) first bytes ++ bytes_at x bytes) (sym here) ∙ sym (one_more (a - first) first bytes) ∙ ap (λ n. bytes_from n first bytes) next)

-- there is room for one
pub has_room : (first a last : ℕ) (bytes old now : List ℕ) → first ≤ a → a < last + 1 → length old + (last + 1 - first) ≤ 256 → now ≡ old ++ bytes_from (a - first) first bytes → length now < 256
has_room first a last bytes old now least most room so =
    let few = few_from (a - first) first bytes in
    let both : length now ≡ length old + length (bytes_from (a - first) first bytes) = ap length so ∙ length-append old (bytes_from (a - first) first bytes) in
    omega (arith, least, most, room, few, both)

-- under a watch there are as many as it has addresses, or none
few_for : (k : WatchKind) (w : Watch) (bytes : List ℕ) → length (bytes_for k w bytes) ≤ width w
few_for Changes w bytes = few_from (width w) w.first bytes
few_for Loads w bytes = omega arith
few_for Accesses w bytes = omega arith

-- A WATCH MORE

module _ (ws : List Watch) (i : ℕ) (d : Watch) (bytes now new : List ℕ) (less : i < length ws) (more : new ≡ now ++ bytes_in bytes (get_or ws i d)) where
  ahead : drop i ws ≡ get_or ws i d ∷ drop (i + 1) ws
  ahead = drop-cons ws i d less ∙ ap (λ j. get_or ws i d ∷ drop j ws) (sym (add-one i))

  pub more_watched : now ++ watched (drop i ws) bytes ≡ watched ws bytes → new ++ watched (drop (i + 1) ws) bytes ≡ watched ws bytes
  more_watched so =
      ap (λ l. l ++ watched (drop (i + 1) ws) bytes) more
      ∙ append_assoc now (bytes_in bytes (get_or ws i d)) (watched (drop (i + 1) ws) bytes)
      ∙ sym (ap (λ l. now ++ watched l bytes) ahead) ∙ so

  pub less_room : length now + widths (drop i ws) ≤ 256 → length new + widths (drop (i + 1) ws) ≤ 256
  less_room room =
      let few = few_for (get_or ws i d).kind (get_or ws i d) bytes in
      let both : length new ≡ length now + length (bytes_in bytes (get_or ws i d)) = ap length more ∙ length-append now (bytes_in bytes (get_or ws i d)) in
      let all : widths (drop i ws) ≡ width (get_or ws i d) + widths (drop (i + 1) ws) = ap widths ahead in
      omega (arith, room, few, both, all)

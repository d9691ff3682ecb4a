-- Lists of which the code makes replies.
use Rattle.std.proofs.Common.{◌≡◌, ◌⊎◌, inl, inr, Result, Ok, Err, ℕ, zero, suc, ◌+◌, ◌-◌, ◌*◌, ◌<◌, ◌≤◌, nat_le, Bool, true, false, if◌then◌else◌, List, [], ◌∷◌, ◌++◌, length, drop, Option, Some, None, slice_get, refl, sym, ap, subst, ◌∙◌, arith, length-append}
use Rattle.std.proofs.lemmas.Bool.{false≢true, leb-true}
use Rattle.std.specs.Prelude.{cond, IfSome, IsOk, OnOk, is_some}
use Rattle.ckrt_gdb_forms.specs.declared.payload.Full.{Full}
use Rattle.std.specs.List.{filter}
use Rattle.std.specs.Option.{option_flatten}
use Rattle.ckrt_thread.specs.State.{holds}
use Rattle.ckrt_gdb_history.specs.declared.stop.Watch.{Watch}
use Rattle.ckrt_gdb_history.specs.Stops.{widths}
use Rattle.ckrt_gdb_forms.specs.Numbers.{byte_text, hex_text}
use Rattle.ckrt_gdb_playback.specs.Look.{begin_with, byte_there, bytes_there, fitting}
use Rattle.ckrt_gdb_playback.specs.Standing.{hart_from}

-- LENGTHS

pub hex_length : (bytes : List ℕ) → length (hex_text bytes) ≡ 2 * length bytes
hex_length [] = refl
hex_length (b ∷ bytes) = omega (arith, length-append (byte_text b) (hex_text bytes), hex_length bytes)

fits_by : (b : Bool) (text : List ℕ) → b ≡ true → text ≡ (if b then text else [])
fits_by true text is = refl
fits_by false text is = absurd (cc)

-- what is in a payload fits
pub fits_in : (text out : List ℕ) → out ≡ text → nat_le (length text) 4096 ≡ true → out ≡ fitting text
fits_in text out same few = same ∙ fits_by (nat_le (length text) 4096) text few

too_long_by : (b : Bool) (text : List ℕ) → nat_le (length (hex_text text)) 4096 ≡ b → (length text ≤ 2048 → ⊥) → [] ≡ (if b then hex_text text else [])
too_long_by true text is long = absurd (long (omega (arith, hex_length text, leb-true (length (hex_text text)) 4096 is)))
too_long_by false text is long = refl

-- what was written, or was too long, is what is told
pub told : (r : Result (Unit {0}) Full) (text begun bytes out : List ℕ) → begun ≡ [] → OnOk r (bytes ≡ begun ++ text) → (length begun + length text ≤ 2048 → IsOk r)
    → OnOk r (out ≡ fitting (hex_text bytes)) → IsOk r ⊎ (out ≡ []) → out ≡ fitting (hex_text text)
told (Ok x) text begun bytes out none same fits done full = done ∙ ap (λ l. fitting (hex_text l)) (same ∙ ap (λ l. l ++ text) none)
told (Err e) text begun bytes out none same fits done (inl ok) = absurd (false≢true ok)
told (Err e) text begun bytes out none same fits done (inr empty) = empty ∙ too_long_by (nat_le (length (hex_text text)) 4096) text refl (λ few. false≢true (fits (omega (arith, few, ap length none))))

-- LOOKS, of what the code sees and of what is told

pub looked : (Q : Type 0) (there seen : Option (List ℕ)) (out : List ℕ) → Q → seen ≡ there → IfSome seen (λ t. out ≡ fitting t)
    → IfSome there (λ t. Q × (out ≡ fitting t))
looked Q None seen out q is payload = tt
looked Q (Some t) seen out q is payload = (q, subst (λ o. IfSome o (λ t. out ≡ fitting t)) is payload)

pub not_looked : (Q : Type 0) (there seen : Option (List ℕ)) (out : List ℕ) → seen ≡ there → is_some seen ≡ false → IfSome there (λ t. Q × (out ≡ fitting t))
not_looked Q None seen out is none = tt
not_looked Q (Some t) seen out is none = absurd (false≢true (sym none ∙ ap is_some is))

-- WATCHES

widths-append : (xs ys : List Watch) → widths (xs ++ ys) ≡ widths xs + widths ys
widths-append [] ys = omega arith
widths-append (x ∷ xs) ys = omega (arith, widths-append xs ys)

-- some watches of them have no more addresses
fewer_by : (test : Watch → Bool) (w : Watch) (ws : List Watch) (b : Bool) → widths (filter test ws) ≤ widths ws
    → widths (cond b (w ∷ filter test ws) (filter test ws)) ≤ widths (w ∷ ws)
fewer_by test w ws true few = omega (arith, few)
fewer_by test w ws false few = omega (arith, few)

pub fewer_widths : (test : Watch → Bool) (ws : List Watch) → widths (filter test ws) ≤ widths ws
fewer_widths test [] = omega arith
fewer_widths test (w ∷ ws) = fewer_by test w ws (test w) (fewer_widths test ws)

-- HARTS

-- the thread isn't on the first of these harts
pub not_there : (t k h : ℕ) (hs : List (Option ℕ)) → h < length hs → holds t (option_flatten (slice_get hs h)) ≡ false → hart_from k t (drop h hs) ≡ hart_from (suc k) t (drop (suc h) hs)
not_there t k h [] less off = absurd (omega (arith, less))
not_there t k zero (on ∷ more) less off = ap (λ (b : Bool). if b then Some k else hart_from (suc k) t more) off
not_there t k (suc h) (on ∷ more) less off = not_there t k h more (omega (arith, less)) off

-- it is on that
pub there : (t k h : ℕ) (hs : List (Option ℕ)) → h < length hs → holds t (option_flatten (slice_get hs h)) ≡ true → hart_from k t (drop h hs) ≡ Some k
there t k h [] less is_on = absurd (omega (arith, less))
there t k zero (on ∷ more) less is_on = ap (λ (b : Bool). if b then Some k else hart_from (suc k) t more) is_on
there t k (suc h) (on ∷ more) less is_on = there t k h more (omega (arith, less)) is_on

-- MEMORY

-- a byte is there, and those behind it
pub goes_on : (n a : ℕ) (memory : List ℕ) (b : ℕ) → 0 < n → byte_there a memory ≡ Some b → bytes_there n a memory ≡ b ∷ bytes_there (n - 1) (a + 1) memory
goes_on zero a memory b some there = absurd (omega (arith, some))
goes_on (suc n) a memory b some there =
    let less : suc n - 1 ≡ n = omega arith in
    ap (λ o. begin_with o (bytes_there n (a + 1) memory)) there ∙ ap (λ k. b ∷ bytes_there k (a + 1) memory) (sym less)

-- none is there
pub ends : (n a : ℕ) (memory : List ℕ) → byte_there a memory ≡ None → bytes_there n a memory ≡ []
ends zero a memory none = refl
ends (suc n) a memory none = ap (λ o. begin_with o (bytes_there n (a + 1) memory)) none

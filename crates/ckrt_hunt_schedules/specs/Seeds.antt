-- A range of seeds as a text (this project's own format): `A-B`, the first and the last one, in decimal.
use Rattle.std.specs.Prelude.{◌≡◌, ◌≤◌, ◌<◌, ℕ, ◌^◌, ◌==◌, ◌&&◌, nat_le, nat_lt, Bool, true, false, if◌then◌else◌, List, length, Option, Some, None, option_and_then}
use Rattle.std.specs.Char.{digit_value}
use Rattle.std.specs.List.{after_first, before_first, list_all}
use Rattle.std.specs.Str.Parse.{digits_value, without_leading_plus}
use Rattle.ckrt_hunt_schedules.specs.declared.seeds.Seeds.{Seeds}

-- decimal digits, one or more, after a plus or not, of a number of 64 bits
abbrev pub is_number : List ℕ → Bool
is_number t =
    let ds = without_leading_plus t in
    nat_lt 0 (length ds) && (list_all (λ d. nat_lt (digit_value d) 10) ds && nat_lt (digits_value 10 ds) (2 ^ 64))

abbrev pub number_of : List ℕ → Option ℕ
number_of t = if is_number t then Some (digits_value 10 (without_leading_plus t)) else None

-- the first isn't after the last, which has one more after it in 64 bits
abbrev pub range_of : (first last : ℕ) → Option (ℕ × ℕ)
range_of first last =
    if nat_le first last && nat_lt last 18446744073709551615 then Some (first, last) else None

-- the numbers before and after the first `-`
abbrev pub seeds_of : List ℕ → Option (ℕ × ℕ)
seeds_of t =
    option_and_then (λ first. option_and_then (range_of first) (number_of (after_first (λ b. b == 45) t)))
    (number_of (before_first (λ b. b == 45) t))

-- the ends of a range
abbrev pub ends_of : Seeds → ℕ × ℕ
ends_of s = (s.first, s.last)

-- a beginning of a range; all of it, where it may not end early
pub record IsBeginning (all : Seeds) (may_end : Bool) (some : Seeds) : Type 0 where
  pub first : some.first ≡ all.first
  pub last : some.last ≤ all.last
  pub whole : may_end ≡ false → some.last ≡ all.last

-- It ended where who looks on said so: behind each seed that has another one behind it there was time, and where seeds are left there was
-- none behind the last one that was run.
pub record IsEndedBy (Answers : (seed : ℕ) → (has_time : Bool) → Type 0) (all : Seeds) (may_end : Bool)
    (some : Seeds) : Type 0 where
  pub went_on : may_end ≡ true → (seed : ℕ) → all.first ≤ seed → seed < some.last → Answers seed true
  pub ended : some.last < all.last → Answers some.last false

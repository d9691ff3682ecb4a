-- What is known of words of memory and of registers, and which uses of values were found that hang on what was never stored.
use Rattle.std.specs.Prelude.{ℕ, zero, suc, ◌+◌, ◌-◌, ◌*◌, ◌/◌, ◌==◌, nat_lt, min, Bool, false, ◌&&◌, if◌then◌else◌, List, [], ◌∷◌, ◌++◌, length, get_or, slice_set, replicate, Option, Some, None}
use Rattle.std.specs.List.{list_any}
use Rattle.ckrt_look_heap.specs.Shadow.{one_more}
use Rattle.ckrt_look_calls.specs.declared.moment.Moment.{Moment}
use Rattle.ckrt_look_heap.specs.declared.block.Part.{Part}
use Rattle.ckrt_look_values.specs.declared.finding.Finding.{Finding}
use Rattle.ckrt_look_values.specs.declared.finding.TheConstants.{FINDINGS}
use Rattle.ckrt_look_values.specs.declared.found.Findings.{Findings}
use Rattle.ckrt_look_values.specs.declared.value.Deed.{Deed}
use Rattle.ckrt_look_values.specs.declared.value.Deed.TheVariants as deed
use Rattle.ckrt_look_values.specs.declared.value.Use.{Use}
use Rattle.ckrt_look_values.specs.declared.value.Value.{Value}
use Rattle.ckrt_look_values.specs.declared.values.Giving.{Giving}
use Rattle.ckrt_look_values.specs.declared.values.TheConstants.{REGISTERS}

-- A VALUE: its unknown bits, and whose memory they come from

abbrev pub known : Value
known = record {
  unknown = 0;
  is_block = false;
  thread = 0;
  place = record { event = 0; step = 0 };
}

abbrev pub with_unknown : Value → (unknown : ℕ) → Value
with_unknown v m = record v { unknown = m }

-- where two values may have unknown bits, these come from the first that has some
abbrev pub chosen : (a b : Value) → Value
chosen a b = if a.unknown == 0 then b else a

abbrev pub moment_of : Value → Moment
moment_of v = record { place = v.place; thread = v.thread }

-- FOUND: uses by what is done, its place in the program and where that was called from; of each the first one, and how often

abbrev pub number_of : Deed → ℕ
number_of deed.Branch = 0
number_of deed.Load = 1
number_of deed.Store = 2
number_of deed.Jump = 3
number_of deed.Call = 4

pub record Found : Type 0 where
  pub rows : List Finding
  pub others : ℕ

abbrev pub found_in : Findings → Found
found_in f = record { rows = f.rows.items; others = f.others }

abbrev pub no_findings : Found
no_findings = record { rows = []; others = 0 }

abbrev pub is_at : Use → Finding → Bool
is_at u f =
    number_of u.deed == number_of f.first.deed && (u.pc == f.first.pc && u.link == f.first.link)

-- the first row of this place counts one more
abbrev pub counted : Use → List Finding → List Finding
counted u [] = []
counted u (f ∷ fs) =
    if is_at u f then record f { count = one_more f.count } ∷ fs else f ∷ counted u fs

abbrev pub first_one : Use → Finding
first_one u = record { first = u; count = 1 }

-- a place gets a row as long as there is one left
abbrev pub with_row : Use → Found → Found
with_row u f =
    if nat_lt (length f.rows) FINDINGS then record f { rows = f.rows ++ first_one u ∷ [] }
    else record f { others = one_more f.others }

abbrev pub noted : Use → Found → Found
noted u f =
    if list_any (is_at u) f.rows then record f { rows = counted u f.rows } else with_row u f

-- ALL that is known: of each word of memory, of 32 registers for each number that a thread may have, the block that is just given, and what
-- was found

pub record Shadow : Type 0 where
  pub words : List Value
  pub registers : List Value
  pub giving : Option Giving
  pub found : Found

abbrev pub fresh : (words : ℕ) → Shadow
fresh words = record {
  words = replicate words known;
  registers = replicate REGISTERS known;
  giving = None;
  found = no_findings;
}

-- a place that there isn't has a known value, and is never put

abbrev pub get_value : ℕ → List Value → Value
get_value i vs = get_or vs i known

abbrev pub set_value : ℕ → Value → List Value → List Value
set_value i v vs = if nat_lt i (length vs) then slice_set vs i v else vs

abbrev pub register_of : (t r : ℕ) → Shadow → Value
register_of t r s = get_value (32 * t + r) s.registers

abbrev pub with_register : (t r : ℕ) → Value → Shadow → Shadow
with_register t r v s =
    if r == 0 then s else record s { registers = set_value (32 * t + r) v s.registers }

abbrev pub word_of : (address : ℕ) → Shadow → Value
word_of a s = get_value (a / 4) s.words

abbrev pub with_word : (address : ℕ) → Value → Shadow → Shadow
with_word a v s = record s { words = set_value (a / 4) v s.words }

-- the same value for words from the first one on, as far as there are some

abbrev pub few : Part → List Value → ℕ
few p vs = min p.count (length vs - p.first)

abbrev pub filled : (n first : ℕ) → Value → List Value → List Value
filled zero first v vs = vs
filled (suc n) first v vs = slice_set (filled n first v vs) (first + n) v

abbrev pub with_part : Part → Value → Shadow → Shadow
with_part p v s = record s { words = filled (few p s.words) p.first v s.words }

abbrev pub given : Giving → Shadow → Shadow
given g s = record s { giving = Some g }

abbrev pub without_giving : Shadow → Shadow
without_giving s = record s { giving = None }

-- a use is told
abbrev pub told : Use → Shadow → Shadow
told u s = record s { found = noted u s.found }

-- How races are found, operation by operation: vector clocks (Mattern 1989; Fidge 1988) tell what each holder has seen, and a
-- shadow of each word of memory has the accesses that a later one is compared with (this project's choice).
use Rattle.std.specs.Prelude.{ℕ, zero, suc, ◌+◌, ◌-◌, ◌/◌, ◌%◌, ◌==◌, nat_lt, min, Bool, false, ◌&&◌, ◌||◌, not, if◌then◌else◌, List, [], ◌∷◌, ◌++◌, length, get_or, slice_get, slice_set, replicate, take, Option, Some, None}
use Rattle.std.specs.List.{list_any}
use Rattle.ckrt_look_clocks.specs.declared.operation.Place.{Place}
use Rattle.ckrt_look_clocks.specs.declared.operation.Access.{Access}
use Rattle.ckrt_look_clocks.specs.declared.operation.Block.{Block}
use Rattle.ckrt_look_clocks.specs.declared.operation.Operation.{Operation}
use Rattle.ckrt_look_clocks.specs.declared.operation.Operation.TheVariants as operation
use Rattle.ckrt_look_clocks.specs.declared.operation.TheConstants.{THREADS}
use Rattle.ckrt_look_clocks.specs.declared.clock.Clock.{Clock}
use Rattle.ckrt_look_clocks.specs.declared.shadow.Cell.{Cell}
use Rattle.ckrt_look_clocks.specs.declared.found.Findings.{Findings}
use Rattle.ckrt_look_clocks.specs.declared.pair.Pair.{Pair}
use Rattle.ckrt_look_clocks.specs.declared.pair.TheConstants.{PAIRS}
use Rattle.ckrt_look_clocks.specs.Histories.{History, conflict, is_before}
use Rattle.ckrt_look_clocks.specs.LockHistories.{Ordered, behind_lock, no_orders}

-- CLOCKS: of each thread, the place before which all its accesses are seen

abbrev pub nothing : Place
nothing = record { event = 0; step = 0 }

abbrev pub no_clock : Clock
no_clock = record { seen = replicate 65 nothing }

abbrev pub later : Place → Place → Place
later p q = if is_before p q then q else p

-- what two have seen, together
abbrev pub joined : List Place → List Place → List Place
joined [] ys = ys
joined (x ∷ xs) [] = x ∷ xs
joined (x ∷ xs) (y ∷ ys) = later x y ∷ joined xs ys

abbrev pub clock_of : ℕ → List Clock → Clock
clock_of h clocks = get_or clocks h no_clock

-- what a holder has seen at a place: a thread has seen all that it did before
abbrev pub clock_at : ℕ → Place → List Clock → Clock
clock_at h p clocks =
    if nat_lt h THREADS then record { seen = slice_set (clock_of h clocks).seen h p }
    else clock_of h clocks

abbrev pub learned : ℕ → Clock → List Clock → List Clock
learned h c clocks = slice_set clocks h (record { seen = joined (clock_of h clocks).seen c.seen })

abbrev pub passed : (from to : ℕ) → Place → List Clock → List Clock
passed from to p clocks = learned to (clock_at from p clocks) clocks

-- a thread has seen an access
abbrev pub knows : List Clock → ℕ → Access → Bool
knows clocks t a =
    t == a.thread || is_before a.place (get_or (clock_of t clocks).seen a.thread nothing)

-- THE SHADOW of a word of memory: the last store to each of its bytes, the last loads of the two threads that loaded it last, and the
-- memory given anew that it was in last

-- n bytes of a word, from this one on, have this as their last store; bytes that the word hasn't got are passed over
abbrev pub stored : (n first : ℕ) → Access → List (Option Access) → List (Option Access)
stored zero first a stores = stores
stored (suc n) first a stores = slice_set (stored n first a stores) (first + n) (Some a)

abbrev pub is_by : ℕ → Option Access → Bool
is_by t None = false
is_by t (Some a) = t == a.thread

abbrev pub with_load : Access → Cell → Cell
with_load a c =
    if is_by a.thread c.load then record c { load = Some a }
    else record c { load = Some a; other = c.load }

abbrev pub kept : Access → Cell → Cell
kept a c =
    if a.is_store then record c { stores = stored a.size (a.address % 4) a c.stores }
    else with_load a c

-- WHAT WAS FOUND: pairs of places in the program, each with the first two accesses there that race, how often, and the memory given
-- anew last that has the word of both

pub record Found : Type 0 where
  pub pairs : List Pair
  pub others : ℕ

abbrev pub found_in : Findings → Found
found_in f = record { pairs = f.pairs.items; others = f.others }

abbrev pub no_findings : Found
no_findings = record { pairs = []; others = 0 }

-- one more, as far as 64 bits count
abbrev pub one_more : ℕ → ℕ
one_more n = min (n + 1) 18446744073709551615

-- two accesses stand at the places of a pair, in either order
abbrev pub is_at : Access → Access → Pair → Bool
is_at a b p =
    (p.first.pc == a.pc && p.second.pc == b.pc) || (p.first.pc == b.pc && p.second.pc == a.pc)

-- the first pair with these places counts one more
abbrev pub counted : Access → Access → List Pair → List Pair
counted a b [] = []
counted a b (p ∷ ps) =
    if is_at a b p then record p { count = one_more p.count } ∷ ps else p ∷ counted a b ps

abbrev pub first_pair : Option Block → Access → Access → Pair
first_pair m a b = record { first = a; second = b; count = 1; block = m }

-- a pair of places gets a row as long as there is one left
abbrev pub with_pair : Option Block → Access → Access → Found → Found
with_pair m a b f =
    if nat_lt (length f.pairs) PAIRS then record f { pairs = f.pairs ++ first_pair m a b ∷ [] }
    else record f { others = one_more f.others }

abbrev pub noted : Option Block → Access → Access → Found → Found
noted m a b f =
    if list_any (is_at a b) f.pairs then record f { pairs = counted a b f.pairs }
    else with_pair m a b f

-- an access races with one that was kept: they conflict, and its thread hasn't seen that
abbrev pub races : List Clock → Access → Access → Bool
races clocks b a = conflict a b && not (knows clocks b.thread a)

abbrev pub compared : Option Block → List Clock → Access → Option Access → Found → Found
compared m clocks b None f = f
compared m clocks b (Some a) f = if races clocks b a then noted m a b f else f

-- two bytes have the same last store: an access has its place alone
abbrev pub is_same : Option Access → Option Access → Bool
is_same None t = false
is_same (Some a) None = false
is_same (Some a) (Some b) = a.place.event == b.place.event && a.place.step == b.place.step

-- a byte's last store is that of an earlier byte, too
abbrev pub is_repeated : (byte : ℕ) → List (Option Access) → Bool
is_repeated k stores = list_any (is_same (get_or stores k None)) (take k stores)

-- an access is compared with the last stores of the first n bytes by rising address, with each store once
abbrev pub compared_stores : ℕ → Option Block → List Clock → Access → List (Option Access) → Found
    → Found
compared_stores zero m clocks b stores f = f
compared_stores (suc k) m clocks b stores f =
    if is_repeated k stores then compared_stores k m clocks b stores f
    else compared m clocks b (get_or stores k None) (compared_stores k m clocks b stores f)

-- with the stores first, then with the last load, then with the other one
abbrev pub compared_all : List Clock → Access → Cell → Found → Found
compared_all clocks b c f =
    compared c.block clocks b c.other
    (compared c.block clocks b c.load
    (compared_stores (length c.stores) c.block clocks b c.stores f))

-- OPERATION BY OPERATION

-- the clocks of all holders, the shadow of each word from address 0 on, what was found, and what is known of locks
pub record Watched : Type 0 where
  pub clocks : List Clock
  pub shadow : List Cell
  pub found : Found
  pub orders : Ordered

abbrev pub word_of : Access → ℕ
word_of a = a.address / 4

-- an access to a word with this shadow; a word outside the memory has none
abbrev pub access_at : Access → Option Cell → Watched → Watched
access_at a None w = w
access_at a (Some c) w = record w {
  shadow = slice_set w.shadow (word_of a) (kept a c);
  found = compared_all w.clocks a c w.found;
}

abbrev pub no_accesses : Cell
no_accesses = record { stores = replicate 4 None; load = None; other = None; block = None }

-- of a word that was given anew with this memory
abbrev pub given_with : Block → Cell
given_with m = record no_accesses { block = Some m }

-- so many words from its first one on have a shadow without an access
abbrev pub renewed : (n : ℕ) → Block → List Cell → List Cell
renewed zero m shadow = shadow
renewed (suc n) m shadow = slice_set (renewed n m shadow) (m.first + n) (given_with m)

-- as many of these as the memory has
abbrev pub few_words : Block → List Cell → ℕ
few_words m shadow = min m.count (length shadow - m.first)

-- memory is given anew
abbrev pub given_anew : Block → Watched → Watched
given_anew m w = record w { shadow = renewed (few_words m w.shadow) m w.shadow }

abbrev pub behind : Operation → Watched → Watched
behind (operation.Access a) w = access_at a (slice_get w.shadow (word_of a)) w
behind (operation.Pass from to p) w = record w { clocks = passed from to p w.clocks }
behind (operation.Renew m) w = given_anew m w
behind (operation.Lock l p) w = record w { orders = behind_lock l w.orders }

-- these operations in order
abbrev pub behind_all : List Operation → Watched → Watched
behind_all [] w = w
behind_all (o ∷ os) w = behind_all os (behind o w)

-- nothing was done yet by so many holders to so many words
abbrev pub fresh : (holders words : ℕ) → Watched
fresh holders words = record {
  clocks = replicate holders no_clock;
  shadow = replicate words no_accesses;
  found = no_findings;
  orders = no_orders;
}

-- the same of a whole history
abbrev pub watched : History → (holders words : ℕ) → Watched
watched [] holders words = fresh holders words
watched (o ∷ past) holders words = behind o (watched past holders words)

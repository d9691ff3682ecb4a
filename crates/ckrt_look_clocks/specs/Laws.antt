-- What the clocks tell, and what is found.
use Rattle.std.specs.Prelude.{◌≡◌, ◌⊎◌, ◌↔◌, ◌≤◌, ◌<◌, ℕ, ◌+◌, true, false, List, length, [], ◌∷◌, ◌++◌, get_or, slice_get, None, Some}
use Rattle.std.specs.List.{AllByRecursion, list_any}
use Rattle.ckrt_look_clocks.specs.declared.operation.Access.{Access}
use Rattle.ckrt_look_clocks.specs.declared.operation.Operation.{Operation}
use Rattle.ckrt_look_clocks.specs.declared.operation.Operation.TheVariants as operation
use Rattle.ckrt_look_clocks.specs.declared.operation.TheConstants.{THREADS}
use Rattle.ckrt_look_clocks.specs.declared.pair.Pair.{Pair}
use Rattle.ckrt_look_clocks.specs.declared.shadow.Cell.{Cell}
use Rattle.ckrt_look_clocks.specs.Histories.{History, IsChain, IsRace, conflict, moment, op_at, seen}
use Rattle.ckrt_look_clocks.specs.Detection.{Found, is_at, knows, watched, word_of}

-- WHAT IS SEEN IS WHAT CHAINS LEAD TO
abbrev pub SeenByChains : Type 0
SeenByChains =
    (past : History) (h i : ℕ)
    → (seen past h i ≡ true) ↔ ((passes : List ℕ) × IsChain past (length past) i passes h)

-- WHO HAS SEEN AN ACCESS HAS SEEN ALL THAT ITS THREAD HAD SEEN BY THEN. So where a store has taken another one's place in the shadow,
-- an access that isn't ordered behind the earlier one isn't ordered behind the later one either, or these two stores aren't ordered.
abbrev pub SeenBehindSeen : Type 0
SeenBehindSeen =
    (later earlier : History) (a : Access) (h i : ℕ)
    → seen (later ++ operation.Access a ∷ earlier) h (length earlier) ≡ true
    → seen earlier a.thread i ≡ true → seen (later ++ operation.Access a ∷ earlier) h i ≡ true

-- AN ORDERLY HISTORY: its numbers are those of threads and holders, and its places rise, an access having one alone

abbrev pub HasNumbers : (holders : ℕ) → Operation → Type 0
HasNumbers holders (operation.Access a) = a.thread < THREADS
HasNumbers holders (operation.Pass from to p) = (from < holders) × (to < holders)
HasNumbers holders (operation.Renew m) = Unit {0}
HasNumbers holders (operation.Lock l p) = Unit {0}

abbrev pub moment_of : Operation → ℕ
moment_of (operation.Access a) = moment a.place
moment_of (operation.Pass from to p) = moment p
moment_of (operation.Renew m) = moment m.place
moment_of (operation.Lock l p) = moment p

-- from when on another operation may come
abbrev pub next_moment : History → ℕ
next_moment [] = 0
next_moment (operation.Access a ∷ past) = moment a.place + 1
next_moment (operation.Pass from to p ∷ past) = moment p
next_moment (operation.Renew m ∷ past) = moment m.place
next_moment (operation.Lock l p ∷ past) = moment p

abbrev pub IsOrderly : (holders : ℕ) → History → Type 0
IsOrderly holders [] = Unit {0}
IsOrderly holders (o ∷ past) =
    IsOrderly holders past × HasNumbers holders o × (next_moment past ≤ moment_of o)

-- CLOCKS TELL JUST WHAT IS SEEN: at each moment, of each thread and each access before
abbrev pub ClocksAreExact : Type 0
ClocksAreExact =
    (holders words : ℕ) (past : History) (t i : ℕ) (a : Access) → THREADS ≤ holders
    → IsOrderly holders past → t < holders → op_at past i ≡ Some (operation.Access a)
    → knows (watched past holders words).clocks t a ≡ seen past t i

-- ONLY RACES ARE FOUND
abbrev pub IsRaceOf : History → Pair → Type 0
IsRaceOf past p = IsRace past p.first p.second

abbrev pub OnlyRacesAreFound : Type 0
OnlyRacesAreFound =
    (holders words : ℕ) (past : History) → THREADS ≤ holders → IsOrderly holders past
    → AllByRecursion (IsRaceOf past) (watched past holders words).found.pairs

-- EACH RACE WITH AN ACCESS THAT IS KEPT IS FOUND, and stays found

-- an access is one of those that the shadow keeps: the last store to some byte, or one of the loads
abbrev pub IsKept : Access → Cell → Type 0
IsKept a c =
    ((byte : ℕ) × (get_or c.stores byte None ≡ Some a))
    ⊎ ((c.load ≡ Some a) ⊎ (c.other ≡ Some a))

-- their places have a row, or some places found none left
abbrev pub AreFound : Access → Access → Found → Type 0
AreFound a b f = (list_any (is_at a b) f.pairs ≡ true) ⊎ (0 < f.others)

-- a second access comes, and races with a first that is kept of its word
pub record MeetsKept (holders words : ℕ) (past : History) (first second : Access) : Type 0 where
  pub orderly : IsOrderly holders (operation.Access second ∷ past)
  pub cell : Cell
  pub has : slice_get (watched past holders words).shadow (word_of second) ≡ Some cell
  pub kept : IsKept first cell
  pub i : ℕ
  pub at : op_at past i ≡ Some (operation.Access first)
  pub conflict : conflict first second ≡ true
  pub unseen : seen past second.thread i ≡ false

abbrev pub KeptRacesAreFound : Type 0
KeptRacesAreFound =
    (holders words : ℕ) (later past : History) (a b : Access) → THREADS ≤ holders
    → MeetsKept holders words past a b
    → AreFound a b (watched (later ++ operation.Access b ∷ past) holders words).found

-- A word of lists that std doesn't have.
use Rattle.std.specs.Prelude.{◌≡◌, List, ◌++◌}

-- a list begins with another
abbrev pub IsBeginningOf : {A : Type 0} → List A → List A → Type 0
IsBeginningOf {A} front all = (rest : List A) × (all ≡ front ++ rest)

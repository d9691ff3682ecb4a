-- What is told beside the rows of what was found, in all looks (this project's own format).
use Rattle.std.specs.Prelude.{ℕ, ◌==◌, if◌then◌else◌, List, [], ◌++◌, codes, decimal}

-- `once`, `N times`
abbrev pub times_text : ℕ → List ℕ
times_text n = if n == 1 then codes "once" else decimal n ++ codes " times"

-- how often there was something at places for which no row was left
abbrev pub others_text : ℕ → List ℕ
others_text n = codes "and " ++ times_text n ++ codes " at other places\n"

abbrev pub others_line : ℕ → List ℕ
others_line n = if n == 0 then [] else others_text n

-- where it was looked, behind a word: from behind so many events up to behind so many
abbrev pub stretch_text : (word : List ℕ) → (begin end : ℕ) → List ℕ
stretch_text word k l = (word ++ decimal k) ++ (codes " to " ++ decimal l)

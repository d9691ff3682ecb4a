-- What is said behind what was said before.
use Rattle.std.specs.Prelude.{ℕ, List, [], Option, OnOk, Ok, Err}
use Rattle.std.specs.Io.KnownBytes.{Appends}
use Rattle.std.proofs.Common.{Result}
use Rattle.std.proofs.KnownBytes.{Appends-nil, Appends-trans}
use Rattle.ckrt_cli_reports.specs.Lines.{EndsWith, Says}

pub on_ok : {A E : Type 0} (r : Result A E) (P Q : Type 0) → (P → Q) → OnOk r P → OnOk r Q
on_ok (Ok x) P Q f h = f h
on_ok (Err e) P Q f h = tt

pub says_nothing : (a : Option (List ℕ)) → Says a a
says_nothing a = ([], Appends-nil a)

pub says_more : (a b c : Option (List ℕ)) → Says a b → Says b c → Says a c
says_more a b c first more = (_, Appends-trans a b c first.0 more.0 first.1 more.1)

pub ends_with : (a b c : Option (List ℕ)) (line : List ℕ) → Says a b → Appends b c line → EndsWith a c line
ends_with a b c line first last = (first.0, Appends-trans a b c first.0 line first.1 last)

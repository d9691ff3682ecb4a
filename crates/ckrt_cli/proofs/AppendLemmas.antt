-- A writer that takes a piece, and is flushed.
use Rattle.std.proofs.Common.{ℕ, List, ◌∙◌, Option, Some, None}
use Rattle.std.specs.Io.KnownBytes.{Appends, Keeps}

pub appends_kept : (a b c : Option (List ℕ)) (x : List ℕ) → Appends a b x → Keeps b c → Appends a c x
appends_kept None b c x p q = tt
appends_kept (Some s) None c x p q = absurd p
appends_kept (Some s) (Some t) None x p q = absurd q
appends_kept (Some s) (Some t) (Some u) x p q = q ∙ p

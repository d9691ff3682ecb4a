-- Bytes decode to one thing only.
use Rattle.std.proofs.Common.{◌≡◌, ℕ, Option, Some, None, List, refl, sym, ap, ◌∙◌}
use Rattle.ckrt_calls.specs.declared.table.Tables.{Tables}
use Rattle.ckrt_tables.specs.Decoding.{Saved, DecodesTo}
use Rattle.ckrt_tables.proofs.Distinct.{distinct}

same_saved : (tables : Tables) (held : List ℕ) (t : Saved) → tables ≡ t.tables → held ≡ t.held → record { tables = tables; held = held } ≡ t
same_saved tables held t e₁ e₂ = rw (e₁, e₂) refl

pub decodes_once : (version harts : ℕ) (bytes : List ℕ) (a b : Option Saved) → DecodesTo version harts bytes a → DecodesTo version harts bytes b → a ≡ b
decodes_once version harts bytes None None f g = refl
decodes_once version harts bytes None (Some t) f g = absurd (f t g)
decodes_once version harts bytes (Some s) None f g = absurd (g s f)
decodes_once version harts bytes (Some s) (Some t) f g =
    let same = distinct version harts s.tables t.tables s.held t.held f.savable g.savable (sym f.encoded ∙ g.encoded) in
    ap (λ x. Some x) (same_saved s.tables s.held t same.0 same.1)

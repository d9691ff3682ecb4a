-- How wide a picture may be.
use Rattle.std.specs.Prelude.{ℕ, nat_le, ◌&&◌, Bool}

-- in pixels (this project's choice)
abbrev pub is_width : ℕ → Bool
is_width w = nat_le 400 w && nat_le w 4000

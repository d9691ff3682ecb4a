-- What meets the premises of the laws of saved tables.
use Rattle.std.specs.Prelude.{◌≡◌, ◌≢◌, ◌≤◌, ℕ, List, [], Some, None, take}
use Rattle.ckrt_calls.specs.WellFormed.{IsWellFormed}
use Rattle.ckrt_tables.specs.Decoding.{DecodesTo, Saved}
use Rattle.ckrt_tables.specs.Encoding.{AREA_VERSION, IsHeld}

-- Bytes that decode, in a version, to tables and held output of a program with so many harts, and others that decode to nothing. The tables
-- were encoded again, and decode to the same.
pub record SavedWitness (version harts : ℕ) (bytes torn : List ℕ) : Type 0 where
  pub few : harts ≤ 8
  pub saved : Saved
  pub decodes : DecodesTo version harts bytes (Some saved)
  pub well_formed : IsWellFormed saved.tables
  pub is_held : IsHeld saved.held
  pub some_held : saved.held ≢ []
  pub again : List ℕ
  pub decodes_again : DecodesTo AREA_VERSION harts again (Some saved)
  pub none : DecodesTo version harts torn None

-- How many pages and harts a program has that can be saved before it begins.
pub record FreshWitness (pages harts : ℕ) : Type 0 where
  pub some_pages : 16 ≤ pages
  pub few_pages : pages ≤ 65536
  pub some_harts : 1 ≤ harts
  pub few_harts : harts ≤ 8

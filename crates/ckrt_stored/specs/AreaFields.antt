-- The fields of an area's header as bytes (this project's own format).
use Rattle.std.specs.Prelude.{◌≡◌, ℕ, List, ◌++◌, length, take, drop}
use Rattle.byteorder.specs.Endian.{little_bytes}
use Rattle.ckrt_stored.specs.declared.header.Header.{Header}

-- bytes 8..40 of an area's header
abbrev pub header_fields : Header → List ℕ
header_fields h =
    little_bytes 8 h.generation ++ little_bytes 8 h.count ++ little_bytes 8 h.offset
    ++ little_bytes 4 h.tables ++ little_bytes 4 h.version

-- these bytes stand from an offset on
abbrev pub HasBytes : List ℕ → ℕ → List ℕ → Type 0
HasBytes content at bytes = take (length bytes) (drop at content) ≡ bytes

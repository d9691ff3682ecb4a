-- The words of a program, which its image gets where it takes some (docs/ABI.md, this project's choice): what `main` gets after its name, and
-- what `getenv` finds (POSIX.1-2017, exec: argv and envp).
use Rattle.std.specs.Prelude.{◌+◌, ◌-◌, ◌*◌, ◌++◌, ◌&&◌, ◌≡◌, ℕ, Bool, true, false, if◌then◌else◌, nat_eq, nat_lt, List, [], ◌∷◌, length, Option, Some, None, option_and_then, Result, Ok, Err}
use Rattle.byteorder.specs.Endian.{little_bytes}
use Rattle.ckrt_disk.specs.Disk.{IsOverwritten}
use Rattle.ckrt_stored.specs.Layout.{number_at}
use Rattle.ckrt_cli_files.specs.declared.file.FileFault.{FileFault}
use Rattle.ckrt_cli_files.specs.declared.file.FileFault.TheVariants.{LongWords, NoWords, OutOfMemory}

-- where an image begins in memory
abbrev pub BEGIN : ℕ
BEGIN = 4096

-- the bytes that the largest guest has from there on
abbrev pub MOST : ℕ
MOST = 4096 * 65535

-- "CKRTWORD" as a number, whose lowest byte comes first: it stands after the first word of an image that names a place for words
abbrev pub MARK : ℕ
MARK = 4923084579164801859

-- the image names a place by an address, which stands after the mark
abbrev pub address_in : List ℕ → Option ℕ
address_in image =
    if nat_lt (length image) 16 then None
    else if nat_eq (number_at 8 4 image) MARK then Some (number_at 4 12 image) else None

-- the place has 16 bytes of the image, and these don't say of words that it has already
abbrev pub is_free_place : List ℕ → (place : ℕ) → Bool
is_free_place image p =
    if nat_lt (length image) (p + 16) then false
    else nat_eq (number_at 8 p image) 0 && nat_eq (number_at 8 (p + 8) image) 0

abbrev pub place_at : List ℕ → (address : ℕ) → Option ℕ
place_at image a =
    if nat_lt a BEGIN then None
    else if is_free_place image (a - BEGIN) then Some (a - BEGIN) else None

-- where an image takes words, if it takes any
abbrev pub place_of : List ℕ → Option ℕ
place_of image = option_and_then (λ a. place_at image a) (address_in image)

-- texts, each with a zero after it
abbrev pub texts : List (List ℕ) → List ℕ
texts [] = []
texts (t ∷ ts) = t ++ (0 ∷ texts ts)

-- the image with the texts of arguments and variables after it
abbrev pub followed : (arguments variables : List (List ℕ)) → List ℕ → List ℕ
followed given set image = (image ++ texts given) ++ texts set

-- what the place has then: the address of the texts, how many bytes they are, and how many of them are arguments and variables
abbrev pub record_of : (size bytes arguments variables : ℕ) → List ℕ
record_of size bytes arguments variables =
    little_bytes 4 (BEGIN + size) ++ little_bytes 4 bytes ++ little_bytes 4 arguments
    ++ little_bytes 4 variables

-- It is written over that place, where the image is no longer then than the largest guest's memory.
abbrev pub PutsAt : (place : ℕ) → (arguments variables : List (List ℕ)) → (old new : List ℕ)
    → Result (Unit {0}) FileFault → Type 0
PutsAt place given set old new (Ok done) =
    (nat_lt MOST (length (followed given set old)) ≡ false)
    × IsOverwritten (followed given set old) place
    (record_of (length old) (length (followed given set old) - length old) (length given) (length set)) new
PutsAt place given set old new (Err LongWords) =
    nat_lt MOST (length (followed given set old)) ≡ true
PutsAt place given set old new (Err fault) = fault ≡ OutOfMemory

-- An image gets arguments and variables where it takes words.
abbrev pub GetsAt : Option ℕ → (arguments variables : List (List ℕ)) → (old new : List ℕ)
    → Result (Unit {0}) FileFault → Type 0
GetsAt None given set old new result = result ≡ Err NoWords
GetsAt (Some place) given set old new result = PutsAt place given set old new result

abbrev pub GetsWords : (arguments variables : List (List ℕ)) → (old new : List ℕ)
    → Result (Unit {0}) FileFault → Type 0
GetsWords given set old new result = GetsAt (place_of old) given set old new result

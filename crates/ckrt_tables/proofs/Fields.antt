-- The kind of a mutex and who owns it are known by the bytes that they have.
use Rattle.std.proofs.Common.{◌≡◌, ◌≢◌, ℕ, true, Option, Some, None, unwrap_or, refl, ap, arith}
use Rattle.std.proofs.lemmas.Bool.Decides.{nat_tests}
use Rattle.ckrt_mutex.specs.declared.records.Kind.{Kind}
use Rattle.ckrt_mutex.specs.declared.records.Kind.TheVariants as kind
use Rattle.ckrt_mutex.specs.Rows.{kind_of}
use Rattle.ckrt_tables.specs.Records.{id_or_0, mutex_kind_number}
use Rattle.ckrt_tables.specs.Savable.{if_there, is_byte, is_id}

pub kind_found : (k : Kind) → unwrap_or (kind_of (mutex_kind_number k)) kind.Normal ≡ k
kind_found kind.Normal = refl
kind_found kind.Recursive = refl
kind_found kind.ErrorCheck = refl

pub kind_fits : (k : Kind) → is_byte (mutex_kind_number k) ≡ true
kind_fits kind.Normal = refl
kind_fits kind.Recursive = refl
kind_fits kind.ErrorCheck = refl

pub id_fits : (o : Option ℕ) → if_there is_id o ≡ true → is_byte (id_or_0 o) ≡ true
id_fits None f = refl
id_fits (Some n) f = grind (arith, nat_tests, f)

-- 0 stands for none
pub none_found : (o : Option ℕ) → if_there is_id o ≡ true → id_or_0 o ≡ 0 → None ≡ o
none_found None f e = refl
none_found (Some n) f e = absurd (let z : n ≡ 0 = e in grind (arith, nat_tests, f, z))

-- and another number for the thread with that id
pub some_found : (o : Option ℕ) (n : ℕ) → n ≢ 0 → n ≡ id_or_0 o → Some n ≡ o
some_found None n f e = absurd (f e)
some_found (Some m) n f e = ap Some e

-- Each beginning of a table of locks is one.
use Rattle.std.proofs.Common.{List, ◌++◌}
use Rattle.ckrt_objects.specs.declared.address_map.Entry.{Entry}
use Rattle.ckrt_objects.specs.Appended.{IsTableUpTo}
use Rattle.ckrt_objects.proofs.Appended.{rising_beginning, all_beginning, size_beginning}
use Rattle.ckrt_rwlock.specs.declared.records.RwLock.{RwLock}
use Rattle.ckrt_rwlock.specs.RwLock.{is_held, is_proper, is_exclusive, IsTable}

pub table_beginning : (xs ys : List (Entry RwLock)) → IsTableUpTo 64 IsTable (xs ++ ys) → IsTableUpTo 64 IsTable xs
table_beginning xs ys t = record {
  table = record {
    rising = rising_beginning xs ys t.table.rising;
    canonical = all_beginning (λ e. is_held e.value) xs ys t.table.canonical;
    proper = all_beginning (λ e. is_proper e.value) xs ys t.table.proper;
    no_reader_beside_a_writer = all_beginning (λ e. is_exclusive e.value) xs ys t.table.no_reader_beside_a_writer;
  };
  size = size_beginning 64 xs ys t.size;
}

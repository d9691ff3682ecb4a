-- Why a file can't be used: what the system's error says of it.
use Rattle.std.specs.declared.io.ErrorKind.{ErrorKind}
use Rattle.std.specs.declared.io.ErrorKind.TheVariants as kind
use Rattle.ckrt_cli_files.specs.declared.file.FileFault.{FileFault}
use Rattle.ckrt_cli_files.specs.declared.file.FileFault.TheVariants as fault

-- what the system's error says of a file (POSIX.1-2017, open, read, write: ENOENT, EEXIST, EISDIR, EACCES and EPERM, ENOSPC, EROFS, ENOMEM; EWOULDBLOCK of
-- a lock that is held)
abbrev pub file_fault_of : ErrorKind → FileFault
file_fault_of kind.NotFound = fault.NotFound
file_fault_of kind.AlreadyExists = fault.IsThere
file_fault_of kind.IsADirectory = fault.IsADirectory
file_fault_of kind.PermissionDenied = fault.PermissionDenied
file_fault_of kind.WouldBlock = fault.InUse
file_fault_of kind.StorageFull = fault.StorageFull
file_fault_of kind.ReadOnlyFilesystem = fault.ReadOnly
file_fault_of kind.OutOfMemory = fault.OutOfMemory
file_fault_of _ = fault.Other

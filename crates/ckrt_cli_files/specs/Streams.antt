-- Files that are no standard stream (POSIX.1-2017, unistd.h: the descriptors of standard input, output and error are 0, 1 and 2).
use Rattle.std.specs.Prelude.{pos, ◌<ℤ◌}
use Rattle.std.specs.Fd.{file_raw_fd}
use Rattle.std.specs.declared.fs.File.{File}

abbrev pub IsBesideStreams : File → Type 0
IsBesideStreams file = pos 2 <ℤ file_raw_fd file

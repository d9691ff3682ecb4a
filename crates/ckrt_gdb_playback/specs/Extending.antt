-- A run that goes on by itself (this project's choice): by the schedule that a drive has without options.
use Rattle.std.specs.Prelude.{ℕ, None, Result, Err}
use Rattle.ckrt_schedule.specs.declared.next.ScheduleEnd.{ScheduleEnd}
use Rattle.ckrt_schedule.specs.declared.schedule.Schedule.{Schedule}
use Rattle.ckrt_gdb_history.specs.declared.forking.AppendFault.{AppendFault}
use Rattle.ckrt_gdb_history.specs.declared.forking.AppendFault.TheVariants.{NotAtEnd}
use Rattle.ckrt_gdb_history.specs.Positions.{History}
use Rattle.ckrt_gdb_history.specs.Extended.{Extended, extension}
use Rattle.ckrt_gdb_playback.specs.declared.view.View.{View}
use Rattle.ckrt_gdb_playback.specs.Told.{next_or, standing_in}

-- turns in their fixed order, of so many steps at most
abbrev pub in_turns : Schedule
in_turns = record { turn = 1000000; seed = None }

-- so many events more at most, in a history before which `first` were done
abbrev pub going_on : (most first : ℕ) → History → Extended
going_on most first h = extension most in_turns first h

-- whose step is next is shown then, but where it didn't stand at the end
abbrev pub view_behind : Result ScheduleEnd AppendFault → View → History → View
view_behind (Err NotAtEnd) v h = v
view_behind _ v h = standing_in v (next_or v.last.thread h)

-- The name that the program prints for a fault.
use Rattle.std.specs.Prelude.{ℕ, List, codes}
use Rattle.ckrt_cli_reports.specs.declared.fault.JobFault.{JobFault}
use Rattle.ckrt_cli_reports.specs.declared.fault.JobFault.TheVariants as job
use Rattle.ckrt_cli_files.specs.declared.file.FileFault.TheVariants as fault
use Rattle.ckrt_stored.specs.declared.fault.FormatFault.{FormatFault}
use Rattle.ckrt_stored.specs.declared.fault.FormatFault.TheVariants as format
use Rattle.ckrt_stored.specs.declared.fault.RecoverFault.{RecoverFault}
use Rattle.ckrt_stored.specs.declared.fault.RecoverFault.TheVariants as recover
use Rattle.ckrt_inspect.specs.declared.fault.InspectFault.{InspectFault}
use Rattle.ckrt_inspect.specs.declared.fault.InspectFault.TheVariants as look
use Rattle.ckrt_drive.specs.declared.fault.DriveFault.{DriveFault}
use Rattle.ckrt_drive.specs.declared.fault.DriveFault.TheVariants as drive
use Rattle.ckrt_history.specs.declared.fault.HistoryFault.{HistoryFault}
use Rattle.ckrt_history.specs.declared.fault.HistoryFault.TheVariants as history
use Rattle.ckrt_main.specs.declared.fault.ServeFault.{ServeFault}
use Rattle.ckrt_main.specs.declared.fault.ServeFault.TheVariants as serve

abbrev pub name_of_format : FormatFault → List ℕ
name_of_format format.AlreadyFormatted = codes "AlreadyFormatted"
name_of_format format.TooSmall = codes "TooSmall"
name_of_format format.BadConfig = codes "BadConfig"
name_of_format format.ImageTooLong = codes "ImageTooLong"
name_of_format format.Device = codes "Device"
name_of_format format.OutOfMemory = codes "OutOfMemory"

abbrev pub name_of_recover : RecoverFault → List ℕ
name_of_recover recover.NotFormatted = codes "NotFormatted"
name_of_recover recover.Version = codes "Version"
name_of_recover recover.Damaged = codes "Damaged"
name_of_recover recover.Device = codes "Device"
name_of_recover recover.OutOfMemory = codes "OutOfMemory"

abbrev pub name_of_serve : ServeFault → List ℕ
name_of_serve serve.Read = codes "Read"
name_of_serve serve.Write = codes "Write"
name_of_serve serve.OutOfMemory = codes "OutOfMemory"
name_of_serve serve.Format = codes "Format"

abbrev pub name_of_look : InspectFault → List ℕ
name_of_look look.NotFormatted = codes "NotFormatted"
name_of_look look.Version = codes "Version"
name_of_look look.Damaged = codes "Damaged"
name_of_look look.Device = codes "Device"
name_of_look look.OutOfMemory = codes "OutOfMemory"
name_of_look look.Write = codes "Write"
name_of_look look.Range = codes "Range"
name_of_look look.ShadowFull = codes "ShadowFull"

abbrev pub name_of_drive : DriveFault → List ℕ
name_of_drive drive.Device = codes "Device"
name_of_drive drive.Input = codes "Input"
name_of_drive drive.NoRecord = codes "NoRecord"
name_of_drive drive.Output = codes "Output"
name_of_drive drive.OutputFull = codes "OutputFull"
name_of_drive drive.GenerationsUsed = codes "GenerationsUsed"
name_of_drive (drive.Refused why) = codes "Refused"

abbrev pub name_of_history : HistoryFault → List ℕ
name_of_history history.NotAHistory = codes "NotAHistory"
name_of_history history.Version = codes "Version"
name_of_history history.Damaged = codes "Damaged"
name_of_history history.Device = codes "Device"
name_of_history history.OutOfMemory = codes "OutOfMemory"

abbrev pub name_of : JobFault → List ℕ
name_of (job.File at fault.OutOfMemory) = codes "OutOfMemory"
name_of (job.File at fault.NotADisk) = codes "NotADisk"
name_of (job.File at fault.NotAHistory) = codes "NotAHistory"
name_of (job.File at why) = codes "File"
name_of job.OutOfMemory = codes "OutOfMemory"
name_of job.ShadowFull = codes "ShadowFull"
name_of (job.Format f) = name_of_format f
name_of (job.Recover f) = name_of_recover f
name_of (job.Serve f) = name_of_serve f
name_of (job.Inspect f) = name_of_look f
name_of job.Range = codes "Range"
name_of (job.SizesDiffer c) = codes "BadConfig"
name_of (job.ImageDiffers n) = codes "ImageDiffers"
name_of (job.ScheduleDiffers n) = codes "ScheduleDiffers"
name_of (job.OutputDiffers l) = codes "OutputDiffers"
name_of job.NotRecorded = codes "NotRecorded"
name_of (job.OffsetDiffers taken) = codes "OffsetDiffers"
name_of (job.InputTooShort l) = codes "InputTooShort"
name_of (job.OutputFailed why) = codes "Output"
name_of (job.Drive f) = name_of_drive f
name_of job.Unrecorded = codes "Range"
name_of job.OlderDiffers = codes "OlderDiffers"
name_of job.RunTooLong = codes "RunTooLong"
name_of job.InputTooLong = codes "InputTooLong"
name_of (job.History f) = name_of_history f
name_of job.HistoryFull = codes "TooSmall"
name_of job.HistoryBehind = codes "HistoryBehind"
name_of job.HistoryDiffers = codes "HistoryDiffers"
name_of (job.Part f) = name_of_history f
name_of job.PartFull = codes "TooSmall"

-- How far a history is, behind what is told of its drive.
use Rattle.std.specs.Prelude.{ℕ, List, [], ◌++◌, codes, decimal, Option, Some, None}
use Rattle.ckrt_calls.specs.declared.table.Tables.{Tables}
use Rattle.ckrt_inspect.specs.Metrics.{all_metrics}
use Rattle.ckrt_inspect.specs.declared.metrics.Readings.{Readings}
use Rattle.ckrt_cli_reports.specs.declared.reach.Reach.{Reach}
use Rattle.ckrt_cli_reports.specs.declared.reach.ReachMetric.{ReachMetric}
use Rattle.ckrt_cli_reports.specs.declared.reach.ReachMetric.TheVariants.{First, Events, Bytes}

abbrev pub name_of : ReachMetric → List ℕ
name_of First = codes "ckrt_history_first_event"
name_of Events = codes "ckrt_history_events_total"
name_of Bytes = codes "ckrt_history_bytes"

abbrev pub help_of : ReachMetric → List ℕ
help_of First = codes "Events before the first one of the history."
help_of Events = codes "Events of the disk up to the last one that the history has."
help_of Bytes = codes "Bytes that the history takes, up to the gate that ends it."

-- a counter only grows, and a gauge goes up and down: another history may follow on the same disk
abbrev pub kind_of : ReachMetric → List ℕ
kind_of First = codes "gauge"
kind_of Events = codes "counter"
kind_of Bytes = codes "gauge"

abbrev pub help_line : ReachMetric → List ℕ
help_line m = codes "# HELP " ++ name_of m ++ codes " " ++ help_of m ++ codes "\n"

abbrev pub type_line : ReachMetric → List ℕ
type_line m = codes "# TYPE " ++ name_of m ++ codes " " ++ kind_of m ++ codes "\n"

abbrev pub value_line : ReachMetric → ℕ → List ℕ
value_line m value = name_of m ++ codes " " ++ decimal value ++ codes "\n"

-- one value: `# HELP NAME TEXT`, `# TYPE NAME KIND`, and after them `NAME VALUE`
abbrev pub metric_lines : ReachMetric → ℕ → List ℕ
metric_lines m value = help_line m ++ type_line m ++ value_line m value

abbrev pub reach_lines : Reach → List ℕ
reach_lines r = metric_lines First r.first ++ metric_lines Events r.end ++ metric_lines Bytes r.bytes

-- nothing where it isn't known how far the history is, or where there is none
abbrev pub optional_lines : Option Reach → List ℕ
optional_lines None = []
optional_lines (Some r) = reach_lines r

-- the text of a status: how a drive stands whose program has these tables, and how far its history is
abbrev pub status_text : Readings → Tables → Option Reach → List ℕ
status_text readings tables reach = all_metrics readings tables ++ optional_lines reach

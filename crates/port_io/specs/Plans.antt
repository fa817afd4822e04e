-- The plans of the objects in memory: which of their calls fail.
use Rattle.port_io.specs.declared.source.MemSource.{MemSource}
use Rattle.port_io.specs.declared.sink.MemSink.{MemSink}
use Rattle.port_io.specs.declared.folder.MemFolder.{MemFolder}
use Rattle.port_io.specs.Calls.{Plan, plan_of}

abbrev pub source_plan : MemSource → Plan
source_plan source = plan_of source.calls

abbrev pub sink_plan : MemSink → Plan
sink_plan sink = plan_of sink.calls

abbrev pub folder_plan : MemFolder → Plan
folder_plan folder = plan_of folder.calls

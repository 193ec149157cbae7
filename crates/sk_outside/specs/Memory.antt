-- What the sources and the sink in memory show.
use Rattle.std.specs.Prelude.{ℕ, ◌-◌, ◌<◌, ◌≡◌, ◌⊎◌, List, length, drop, IsTrue}
use Rattle.sk_outside.specs.declared.memory.MemSource.{MemSource}
use Rattle.sk_outside.specs.declared.memory.MemSink.{MemSink}
use Rattle.sk_outside.specs.declared.memory.SureSource.{SureSource}
use Rattle.sk_outside.specs.declared.calls.CallList.{CallList}
use Rattle.sk_outside.specs.Calls.{next_fails}

-- the bytes that are left to read
abbrev pub source_left : MemSource → List ℕ
source_left source = drop source.at source.bytes.items

abbrev pub source_calls : MemSource → CallList
source_calls source = source.calls

abbrev pub source_faults : MemSource → ℕ
source_faults source = source.faults

-- the bytes that are left to read
abbrev pub sure_left : SureSource → List ℕ
sure_left source = drop source.at source.bytes.items

-- the bytes that were written
abbrev pub sink_bytes : MemSink → List ℕ
sink_bytes sink = sink.bytes.items

abbrev pub sink_calls : MemSink → CallList
sink_calls sink = sink.calls

abbrev pub sink_faults : MemSink → ℕ
sink_faults sink = sink.faults

-- how many bytes still fit
abbrev pub room_of : MemSink → ℕ
room_of sink = sink.room - length sink.bytes.items

-- this piece is refused: by the list, or for want of room
abbrev pub Refuses : MemSink → List ℕ → Type 0
Refuses sink piece = IsTrue (next_fails sink.calls) ⊎ ((0 < length piece) × (room_of sink ≡ 0))

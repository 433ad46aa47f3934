-- What the devices over memory, and those over std, report of themselves.
use Rattle.std.specs.Prelude.{ℕ, List, Option}
use Rattle.pbf_frame.specs.declared.memory.Pieces.{Pieces}
use Rattle.pbf_frame.specs.declared.memory.Sink.{Sink}
use Rattle.pbf_frame.specs.declared.std_device.FromRead.{FromRead}
use Rattle.pbf_frame.specs.declared.std_device.ToWrite.{ToWrite}

-- the bytes still to supply
abbrev pub left_in_pieces : Pieces → List ℕ
left_in_pieces pieces = pieces.bytes.now

abbrev pub failures_of : Pieces → ℕ
failures_of pieces = pieces.failures

-- how it cuts them, and which call fails
abbrev pub lengths_of : Pieces → List ℕ
lengths_of pieces = pieces.lengths.now

abbrev pub failing_call_of : Pieces → Option ℕ
failing_call_of pieces = pieces.failing_call

-- the bytes taken
abbrev pub sink_bytes : Sink → List ℕ
sink_bytes sink = sink.bytes.items

-- how many bytes it has room for in all
abbrev pub room_of : Sink → ℕ
room_of sink = sink.room

-- the most that it takes at once, or 0
abbrev pub most_of : Sink → ℕ
most_of sink = sink.most

abbrev pub sink_failures : Sink → ℕ
sink_failures sink = sink.failures

-- the reader and the writer below
abbrev pub reader_of : {R : Type 0} → FromRead R → R
reader_of feed = feed.reader

abbrev pub writer_of : {W : Type 0} → ToWrite W → W
writer_of drain = drain.writer

abbrev pub reader_failures : {R : Type 0} → FromRead R → ℕ
reader_failures feed = feed.failures

abbrev pub writer_failures : {W : Type 0} → ToWrite W → ℕ
writer_failures drain = drain.failures

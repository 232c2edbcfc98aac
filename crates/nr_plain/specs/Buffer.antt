-- The model of a buffer.
use Rattle.nr_rev.specs.Socket.{Buffer}
use Rattle.nr_plain.specs.declared.buffer.PlainBuffer.{PlainBuffer}

-- the buffer with these bytes and this capacity
abbrev pub buffer_view : PlainBuffer → Buffer
buffer_view p = record { bytes = p.bytes.now; capacity = p.capacity }

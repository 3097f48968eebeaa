-- Laws of traces.
use Rattle.std.specs.Prelude.{◌≡◌, ℕ, List, Ok}
use Rattle.trace_text.specs.declared.trace.Trace.{Trace}
use Rattle.trace_text.specs.Text.{IsTrace, trace_of}
use Rattle.trace_text.specs.Reading.{reading_of}

-- what a trace's text says is that trace
abbrev pub WrittenIsRead : Type 0
WrittenIsRead = (trace : Trace) → IsTrace trace → reading_of (trace_of trace) ≡ Ok trace

-- and only its text says it
abbrev pub ReadIsWritten : Type 0
ReadIsWritten = (bytes : List ℕ) (trace : Trace) → reading_of bytes ≡ Ok trace → IsTrace trace × (bytes ≡ trace_of trace)

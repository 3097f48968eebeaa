-- Bytes have one reading.
use Rattle.std.proofs.Common.{◌≡◌, ◌≢◌, ◌⊎◌, inl, inr, ℕ, List, Result, Ok, Err, refl, sym, ap, ◌∙◌}
use Rattle.trace_text.specs.declared.fault.TraceFault.{TraceFault}
use Rattle.trace_text.specs.declared.fault.TraceFault.TheVariants.{Line, Order, End, NoMemory}
use Rattle.trace_text.specs.declared.trace.Trace.{Trace}
use Rattle.trace_text.specs.Text.{IsTrace, trace_of}
use Rattle.trace_text.specs.Reading.{HasTraceFault, reading_of}
use Rattle.trace_text.proofs.Agains.{written_is_read}

abbrev Is : Result Trace TraceFault → Result Trace TraceFault → Type 0
Is a b = a ≡ b

reads_as : (bytes : List ℕ) (trace : Trace) → IsTrace trace → bytes ≡ trace_of trace → reading_of bytes ≡ Ok trace
reads_as bytes trace is text = ap reading_of text ∙ written_is_read trace is

pub read_trace_is : (bytes : List ℕ) (read trace : Trace) → reading_of bytes ≡ Ok read → IsTrace trace → bytes ≡ trace_of trace → Is (Ok read) (Ok trace) ⊎ Is (Ok read) (Err NoMemory)
read_trace_is bytes read trace ok is text = inl (sym ok ∙ reads_as bytes trace is text)

pub read_is_faultless : (bytes : List ℕ) (read : Trace) (fault : TraceFault) → reading_of bytes ≡ Ok read → HasTraceFault bytes fault → Is (Ok read) (Err fault) ⊎ Is (Ok read) (Err NoMemory)
read_is_faultless bytes read fault ok has = inl (sym ok ∙ has)

pub refused_trace : (bytes : List ℕ) (fault : TraceFault) (trace : Trace) → (fault ≢ NoMemory → reading_of bytes ≡ Err fault) → IsTrace trace → bytes ≡ trace_of trace → Is (Err fault) (Ok trace) ⊎ Is (Err fault) (Err NoMemory)
refused_trace bytes (Line n) trace err is text = inl (sym (err (λ e. cc)) ∙ reads_as bytes trace is text)
refused_trace bytes (Order n) trace err is text = inl (sym (err (λ e. cc)) ∙ reads_as bytes trace is text)
refused_trace bytes End trace err is text = inl (sym (err (λ e. cc)) ∙ reads_as bytes trace is text)
refused_trace bytes NoMemory trace err is text = inr refl

pub refused_fault : (bytes : List ℕ) (fault first : TraceFault) → (fault ≢ NoMemory → reading_of bytes ≡ Err fault) → HasTraceFault bytes first → Is (Err fault) (Err first) ⊎ Is (Err fault) (Err NoMemory)
refused_fault bytes (Line n) first err has = inl (sym (err (λ e. cc)) ∙ has)
refused_fault bytes (Order n) first err has = inl (sym (err (λ e. cc)) ∙ has)
refused_fault bytes End first err has = inl (sym (err (λ e. cc)) ∙ has)
refused_fault bytes NoMemory first err has = inr refl

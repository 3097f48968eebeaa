use Rattle.trace_text.proofs.Accepted.{read_is_written}
use Rattle.trace_text.proofs.OneEnd.{read_trace_is, read_is_faultless, refused_trace, refused_fault}
use Rattle.trace_text.proofs.reading.read_trace.Goals as goal

pub returns-in-Ok-clause-trace : goal.returns-in-Ok-clause-trace
returns-in-Ok-clause-trace c = read_is_written c.args.bytes.now c.in-Ok.trace c.in-Ok.ensures.trace

pub returns-in-Ok-clause-reads : goal.returns-in-Ok-clause-reads
returns-in-Ok-clause-reads c trace is text = read_trace_is c.args.bytes.now c.in-Ok.trace trace c.in-Ok.ensures.trace is text

pub returns-in-Ok-clause-fails : goal.returns-in-Ok-clause-fails
returns-in-Ok-clause-fails c fault has = read_is_faultless c.args.bytes.now c.in-Ok.trace fault c.in-Ok.ensures.trace has

pub returns-in-Err-clause-reads : goal.returns-in-Err-clause-reads
returns-in-Err-clause-reads c trace is text = refused_trace c.args.bytes.now c.in-Err.fault trace c.in-Err.ensures.fault is text

pub returns-in-Err-clause-fails : goal.returns-in-Err-clause-fails
returns-in-Err-clause-fails c fault has = refused_fault c.args.bytes.now c.in-Err.fault fault c.in-Err.ensures.fault has

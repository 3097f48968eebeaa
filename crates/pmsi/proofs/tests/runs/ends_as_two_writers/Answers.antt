use Rattle.pmsi.proofs.tests.runs.ends_as_two_writers.Goals as goal

pub listing-requires-clause-kept : goal.listing-requires-clause-kept
listing-requires-clause-kept g c = let k = c.run.ensures.keeps _ c.requires in record { trace = λ asked. k.trace; touches = λ asked. k.touches }

-- A held line and its age.
use Rattle.std.specs.Prelude.{List, map}
use Rattle.std.specs.List.{filter}
use Rattle.cache_array.specs.declared.entry.Entry.{Entry}
use Rattle.cache_array.specs.declared.order.AgedLine.{AgedLine}

abbrev pub aged_line : Entry → AgedLine
aged_line e = record { age = e.age; line = e.cached.line; mode = e.cached.mode }

-- the held lines as they stand in the array
abbrev pub aged_lines : List Entry → List AgedLine
aged_lines es = map aged_line (filter (λ e. e.held) es)

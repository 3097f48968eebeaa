-- The listing of a run: what the program prints of a job.
use Rattle.std.specs.Prelude.{ℕ, zero, suc, ◌*◌, ◌/◌, List, [], ◌++◌, codes, ◌==◌, if◌then◌else◌}
use Rattle.std.specs.List.{flat_map, list_all}
use Rattle.pmsi_model.specs.declared.Keep.{Keep}
use Rattle.pmsi_model.specs.declared.Row.{Row}
use Rattle.pmsi_model.specs.Job.{JobValue}
use Rattle.pmsi_model.specs.Slots.{plan_of, bound_of}
use Rattle.pmsi_model.specs.Machine.{Machine, CoreState}
use Rattle.pmsi_model.specs.Phase.{bytes_from}
use Rattle.pmsi_model.specs.Run.{machine_at, records, touches_of}
use Rattle.pmsi_model.specs.Rows.{rows_of, open_rows_of}
use Rattle.pmsi_model.specs.Lines.{shape_line, core_line, regs_line, held_line, memory_line, row_line, open_row_line, waits_of, waits_line, bound_line, action_lines, touch_line}

-- the three lines of a core
abbrev pub core_text : ℕ → CoreState → List ℕ
core_text c k = core_line c k.pc k.retired k.status ++ regs_line k.regs ++ held_line k.held

abbrev pub core_texts : Machine → ℕ → List ℕ
core_texts x zero = []
core_texts x (suc count) = core_texts x count ++ core_text count (x.cores count)

-- sixteen bytes of memory, where they aren't all 0
abbrev pub sixteen_text : ℕ → List ℕ → List ℕ
sixteen_text address bytes = if list_all (λ byte. byte == 0) bytes then [] else memory_line address bytes

-- the first `count` sixteens of bytes
abbrev pub memory_texts : List ℕ → ℕ → List ℕ
memory_texts memory zero = []
memory_texts memory (suc count) = memory_texts memory count ++ sixteen_text (16 * count) (bytes_from (16 * count) 16 memory)

abbrev pub waits_texts : List Row → ℕ → List ℕ
waits_texts rows zero = []
waits_texts rows (suc count) = waits_texts rows count ++ waits_line count (waits_of count rows)

-- the actions of all slots, where they are asked for
abbrev pub trace_text : JobValue → Keep → List ℕ
trace_text job keep = if keep.trace then action_lines (plan_of job) 0 (records job job.shape.slots) else []

-- all accesses in bus order, where they are asked for
abbrev pub touches_text : JobValue → Keep → List ℕ
touches_text job keep = if keep.touches then flat_map touch_line (touches_of job job.shape.slots) else []

-- the listing of the machine at the end of a job's run, with the histories that are asked for
unfoldable pub listing_of : JobValue → Keep → List ℕ
listing_of job keep =
    codes "pmsi listing 1\n"
    ++ shape_line job.shape
    ++ core_texts (machine_at job job.shape.slots) job.shape.cores
    ++ memory_texts (machine_at job job.shape.slots).memory (job.shape.memory / 16)
    ++ flat_map row_line (rows_of job job.shape.slots)
    ++ flat_map (open_row_line job.shape.slots) (open_rows_of job job.shape.slots)
    ++ waits_texts (rows_of job job.shape.slots) job.shape.cores
    ++ bound_line (bound_of (plan_of job))
    ++ trace_text job keep
    ++ touches_text job keep
    ++ codes "end\n"

-- the summary of a run: of the listing's lines those of the shape, of the cores' waits at the end of the run, and of the bound
unfoldable pub summary_of : JobValue → List ℕ
summary_of job = shape_line job.shape ++ waits_texts (rows_of job job.shape.slots) job.shape.cores ++ bound_line (bound_of (plan_of job))

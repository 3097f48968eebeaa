-- Sections that follow one another.
use Rattle.std.proofs.Common.{◌≡◌, ℕ, ◌+◌, ◌/◌, List, ◌++◌, codes, refl, sym, ap, ◌∙◌, add-one}
use Rattle.std.specs.List.{flat_map}
use Rattle.pmsi_model.specs.declared.job.Geometry.{Geometry}
use Rattle.pmsi_model.specs.declared.Keep.{Keep}
use Rattle.pmsi_model.specs.declared.Row.{Row}
use Rattle.pmsi_model.specs.Job.{JobValue}
use Rattle.pmsi_model.specs.Slots.{SlotPlan, bound_of, plan_of}
use Rattle.pmsi_model.specs.Lines.{shape_line, row_line, open_row_line, bound_line}
use Rattle.pmsi_model.specs.Listing.{core_text, core_texts, memory_texts, waits_texts, trace_text, touches_text, listing_of, summary_of}
use Rattle.pmsi_model.specs.Rows.{rows_of, open_rows_in}
use Rattle.pmsi_model.specs.Machine.{CoreState, Machine}
use Rattle.pmsi_model.specs.Run.{machine_at}
use Rattle.text_out.proofs.Exports.{grown}

-- ---- the listing

pub all_parts : (job : JobValue) (keep : Keep) (shape given : Geometry) (plan : SlotPlan) (bound : ℕ) (old o1 o2 o3 o4 o5 o6 o7 o8 o9 o10 : List ℕ)
    → shape ≡ job.shape → given ≡ job.shape → plan ≡ plan_of job → bound ≡ bound_of plan
    → o1 ≡ old ++ codes "pmsi listing 1\n" → o2 ≡ o1 ++ shape_line given → o3 ≡ o2 ++ core_texts (machine_at job job.shape.slots) shape.cores
    → o4 ≡ o3 ++ memory_texts (machine_at job job.shape.slots).memory (shape.memory / 16) → o5 ≡ o4 ++ flat_map row_line (rows_of job job.shape.slots)
    → o6 ≡ o5 ++ flat_map (open_row_line job.shape.slots) (open_rows_in (machine_at job job.shape.slots) shape.cores)
    → o7 ≡ o6 ++ waits_texts (rows_of job job.shape.slots) shape.cores → o8 ≡ o7 ++ bound_line bound → o9 ≡ o8 ++ trace_text job keep → o10 ≡ o9 ++ touches_text job keep
    → o10 ++ codes "end\n" ≡ old ++ listing_of job keep
unfolding listing_of
all_parts job keep shape given plan bound old o1 o2 o3 o4 o5 o6 o7 o8 o9 o10 s g p b h1 h2 h3 h4 h5 h6 h7 h8 h9 h10 =
    let n : ℕ = job.shape.slots in
    let t1 : List ℕ = codes "pmsi listing 1\n" in
    let t2 : List ℕ = t1 ++ shape_line job.shape in
    let t3 : List ℕ = t2 ++ core_texts (machine_at job n) job.shape.cores in
    let t4 : List ℕ = t3 ++ memory_texts (machine_at job n).memory (job.shape.memory / 16) in
    let t5 : List ℕ = t4 ++ flat_map row_line (rows_of job n) in
    let t6 : List ℕ = t5 ++ flat_map (open_row_line n) (open_rows_in (machine_at job n) job.shape.cores) in
    let t7 : List ℕ = t6 ++ waits_texts (rows_of job n) job.shape.cores in
    let t8 : List ℕ = t7 ++ bound_line (bound_of (plan_of job)) in
    let t9 : List ℕ = t8 ++ trace_text job keep in
    let s2 : o2 ≡ old ++ t2 = grown old t1 o1 o2 (shape_line job.shape) h1 (h2 ∙ ap (λ (x : Geometry). o1 ++ shape_line x) g) in
    let s3 : o3 ≡ old ++ t3 = grown old t2 o2 o3 _ s2 (h3 ∙ ap (λ (x : Geometry). o2 ++ core_texts (machine_at job n) x.cores) s) in
    let s4 : o4 ≡ old ++ t4 = grown old t3 o3 o4 _ s3 (h4 ∙ ap (λ (x : Geometry). o3 ++ memory_texts (machine_at job n).memory (x.memory / 16)) s) in
    let s5 : o5 ≡ old ++ t5 = grown old t4 o4 o5 _ s4 h5 in
    let s6 : o6 ≡ old ++ t6 = grown old t5 o5 o6 _ s5 (h6 ∙ ap (λ (x : Geometry). o5 ++ flat_map (open_row_line n) (open_rows_in (machine_at job n) x.cores)) s) in
    let s7 : o7 ≡ old ++ t7 = grown old t6 o6 o7 _ s6 (h7 ∙ ap (λ (x : Geometry). o6 ++ waits_texts (rows_of job n) x.cores) s) in
    let s8 : o8 ≡ old ++ t8 = grown old t7 o7 o8 _ s7 (h8 ∙ ap (λ (x : ℕ). o7 ++ bound_line x) (b ∙ ap bound_of p)) in
    let s9 : o9 ≡ old ++ t9 = grown old t8 o8 o9 (trace_text job keep) s8 h9 in
    grown old (t9 ++ touches_text job keep) o10 (o10 ++ codes "end\n") (codes "end\n") (grown old t9 o9 o10 (touches_text job keep) s9 h10) refl

-- ---- the summary

pub summary_parts : (job : JobValue) (shape given : Geometry) (plan : SlotPlan) (bound : ℕ) (old o1 o2 : List ℕ) → shape ≡ job.shape → given ≡ job.shape → plan ≡ plan_of job → bound ≡ bound_of plan
    → o1 ≡ old ++ shape_line given → o2 ≡ o1 ++ waits_texts (rows_of job job.shape.slots) shape.cores → o2 ++ bound_line bound ≡ old ++ summary_of job
unfolding summary_of
summary_parts job shape given plan bound old o1 o2 s g p b h1 h2 =
    let rows : List Row = rows_of job job.shape.slots in
    let t1 : List ℕ = shape_line job.shape in
    let t2 : List ℕ = t1 ++ waits_texts rows job.shape.cores in
    let s1 : o1 ≡ old ++ t1 = h1 ∙ ap (λ (x : Geometry). old ++ shape_line x) g in
    let s2 : o2 ≡ old ++ t2 = grown old t1 o1 o2 (waits_texts rows job.shape.cores) s1 (h2 ∙ ap (λ (x : Geometry). o1 ++ waits_texts rows x.cores) s) in
    grown old t2 o2 (o2 ++ bound_line bound) (bound_line (bound_of (plan_of job))) s2 (ap (λ (x : ℕ). o2 ++ bound_line x) (b ∙ ap bound_of p))

-- ---- cores

-- the first cores, and then the next one
pub cores_further : (x : Machine) (c : ℕ) (k : CoreState) (start before after : List ℕ) → k ≡ x.cores c → before ≡ start ++ core_texts x c → after ≡ before ++ core_text c k
    → after ≡ start ++ core_texts x (c + 1)
cores_further x c k start before after is h g = let more : core_texts x (c + 1) ≡ core_texts x c ++ core_text c (x.cores c) = rw add-one refl in
    grown start (core_texts x c) before after (core_text c (x.cores c)) h (g ∙ ap (λ (j : CoreState). before ++ core_text c j) is)
    ∙ ap (λ (text : List ℕ). start ++ text) (sym more)

-- Reading in order, and what comes by the bytes alone.
use Rattle.std.proofs.Common.{inl, inr, ap, sym, refl, subst, ℕ, ◌+◌, List, [], ◌∷◌, ◌++◌, true, false, append_assoc}
use Rattle.std.specs.Prelude.{Option, None, ⊤}
use Rattle.pmsi_model.specs.declared.Keep.{Keep}
use Rattle.pmsi_model.specs.declared.job.Geometry.{Geometry}
use Rattle.pmsi_model.specs.Image.{ImageValue}
use Rattle.pmsi_model.specs.Job.{JobValue}
use Rattle.pmsi_model.specs.Listing.{listing_of, summary_of}
use Rattle.pmsi_outside.specs.Files.{Contents}
use Rattle.asm_print.specs.ListingText.{listing_text}
use Rattle.image_file.specs.Format.{image_bytes}
use Rattle.job_text.specs.declared.plan.JobPlan.{JobPlan}
use Rattle.job_text.specs.declared.plan.Program.{Program}
use Rattle.job_text.specs.declared.plan.Program.TheVariants.{Words, Asm, Image}
use Rattle.job_text.specs.Plans.{IsPlanOf, plan_text}
use Rattle.job_text.specs.Generating.{generated}
use Rattle.script_text.specs.declared.command.Command.{Command}
use Rattle.script_text.specs.Output.{output_of}
use Rattle.tool_words.specs.Meaning.{AskedValue, run, sim, trace, asm, dis, image, gen, debug}
use Rattle.tool_files.specs.declared.refusal.Place.{Place}
use Rattle.tool_files.specs.declared.refusal.Place.TheVariants.{Input, Core, Script}
use Rattle.tool_files.specs.declared.refusal.Detail.{Detail}
use Rattle.tool_files.specs.declared.refusal.Detail.TheVariants as detail
use Rattle.tool_files.specs.Parsed.{IsSource, SourceFails, IsImageFile, ImageFails, JobFails, image_of_words, IsMachine, MachineFails, IsScript, ScriptFails}
use Rattle.tool_files.specs.Course.{Step, opens, Reads, keeps_nothing, keeps_actions, actions_text, Comes}
use Rattle.tool_files.specs.Ordered.{Order, Helds, last, next_file, next_checked, next_program, next_programs, next_script, next_planned, next_job, IsNext, Follows}
use Rattle.tool_files.specs.Laws.{SameOrder}
use Rattle.tool_files.proofs.Sames.{same_course}
use Rattle.tool_files.proofs.Settled.{Settled, source_settled, image_settled, script_settled, plan_settled, machine_settled}

module _ {V : Type 0} (contents : Option Contents) where
  -- each of the bytes is that of the name that the order opens behind those before it
  abbrev Following : Order V → Helds → Helds → Type 0
  Following order before [] = ⊤
  Following order before (held ∷ helds) = (name : List ℕ) × order before (opens name) × Reads contents name held × Following order (before ++ held ∷ []) helds

  following_on : (order other : Order V) (front before helds : Helds) → ((read : Helds) (name : List ℕ) → order read (opens name) → other (front ++ read) (opens name))
      → Following order before helds → Following other (front ++ before) helds
  following_on order other front before [] on f = tt
  following_on order other front before (held ∷ helds) on (name, opened, reads, rest) =
      (name, on before name opened, reads, subst (λ (l : Helds). Following other l helds) (sym (append_assoc front before (held ∷ []))) (following_on order other front (before ++ held ∷ []) helds on rest))

  following_back : (order other : Order V) (front before helds : Helds) → ((read : Helds) (name : List ℕ) → other (front ++ read) (opens name) → order read (opens name))
      → Following other (front ++ before) helds → Following order before helds
  following_back order other front before [] back f = tt
  following_back order other front before (held ∷ helds) back (name, opened, reads, rest) =
      (name, back before name opened, reads, following_back order other front (before ++ held ∷ []) helds back (subst (λ (l : Helds). Following other l helds) (append_assoc front before (held ∷ [])) rest))

  -- the order with told contents, and by the bytes alone
  record Agree (told free : Order V) : Type 0 where
    there : (helds : Helds) (step : Step V) → told helds step → Following free [] helds × free helds step
    back : (helds : Helds) (step : Step V) → Following free [] helds → free helds step → told helds step

  last_agree : (value : V) → Agree (last value) (last value)
  last_agree value = record { there = λ helds step is. (subst (Following (last value) []) (sym is.0) tt, is); back = λ helds step f is. is }

  file_agree : (place : Place) (name : List ℕ) (told free : List ℕ → Order V) → ((held : List ℕ) → Agree (told held) (free held)) → Agree (next_file contents place name told) (next_file None place name free)
  file_agree place name told free agree = record { there = there; back = back }
    where
      there : (helds : Helds) (step : Step V) → next_file contents place name told helds step → Following (next_file None place name free) [] helds × next_file None place name free helds step
      there [] step is = (tt, is)
      there (held ∷ helds) step (reads, inl is) = ((name, refl, reads, subst (Following (next_file None place name free) (held ∷ [])) (sym is.1) tt), (tt, inl is))
      there (held ∷ helds) step (reads, inr is) =
          let t = (agree held).there helds step is.1 in
          ((name, refl, reads, following_on (free held) (next_file None place name free) (held ∷ []) [] helds (λ read n opened. (tt, inr (is.0, opened))) t.0), (tt, inr (is.0, t.1)))

      name_of : List ℕ → Step V → List ℕ
      name_of other (opens n) = n
      name_of other step = other

      back : (helds : Helds) (step : Step V) → Following (next_file None place name free) [] helds → next_file None place name free helds step → next_file contents place name told helds step
      back [] step f is = is
      back (held ∷ helds) step (n, opened, reads, rest) (u, inl is) = (subst (λ (m : List ℕ). Reads contents m held) (ap (name_of []) opened) reads, inl is)
      back (held ∷ helds) step (n, opened, reads, rest) (u, inr is) =
          (subst (λ (m : List ℕ). Reads contents m held) (ap (name_of []) opened) reads, inr (is.0, (agree held).back helds step (following_back (free held) (next_file None place name free) (held ∷ []) [] helds inner rest) is.1))
        where
          inner : (read : Helds) (n : List ℕ) → next_file None place name free (held ∷ read) (opens n) → free held read (opens n)
          inner read n (v, inl at) = absurd (cc)
          inner read n (v, inr at) = at.1

  checked_agree : {X : Type 0} (place : Place) (Is : X → Type 0) (Fails : Detail → Type 0) (told free : X → Order V) → Settled Is Fails → ((value : X) → Agree (told value) (free value))
      → Agree (next_checked place Is Fails told) (next_checked place Is Fails free)
  checked_agree {X} place Is Fails told free settled agree = record { there = there; back = back }
    where
      there : (helds : Helds) (step : Step V) → next_checked place Is Fails told helds step → Following (next_checked place Is Fails free) [] helds × next_checked place Is Fails free helds step
      there helds step (inl (d, fails, none, is)) = (subst (Following (next_checked place Is Fails free) []) (sym none) tt, inl (d, fails, none, is))
      there helds step (inr (value, valid, is)) =
          let t = (agree value).there helds step is in (following_on (free value) (next_checked place Is Fails free) [] [] helds (λ read n opened. inr (value, valid, opened)) t.0, inr (value, valid, t.1))

      back : (helds : Helds) (step : Step V) → Following (next_checked place Is Fails free) [] helds → next_checked place Is Fails free helds step → next_checked place Is Fails told helds step
      back helds step f (inl (d, fails, none, is)) = inl (d, fails, none, is)
      back helds step f (inr (value, valid, is)) =
          inr (value, valid, (agree value).back helds step (following_back (free value) (next_checked place Is Fails free) [] [] helds inner f) is)
        where
          inner : (read : Helds) (n : List ℕ) → next_checked place Is Fails free read (opens n) → free value read (opens n)
          inner read n (inl (d, fails, none, at)) = absurd (cc)
          inner read n (inr (value', valid', at)) = subst (λ (v : X). free v read (opens n)) (settled.one_value value' value valid' valid) at

  kind_agree : {X : Type 0} (place : Place) (name : List ℕ) (Is : List ℕ → X → Type 0) (Fails : List ℕ → Detail → Type 0) (told free : X → Order V) → ((held : List ℕ) → Settled (Is held) (Fails held)) → ((value : X) → Agree (told value) (free value))
      → Agree (next_file contents place name (λ held. next_checked place (Is held) (Fails held) told)) (next_file None place name (λ held. next_checked place (Is held) (Fails held) free))
  kind_agree place name Is Fails told free settled agree =
      file_agree place name (λ held. next_checked place (Is held) (Fails held) told) (λ held. next_checked place (Is held) (Fails held) free) (λ held. checked_agree place (Is held) (Fails held) told free (settled held) agree)

  script_agree : (name : List ℕ) (shape : Geometry) (told free : List Command → Order V) → ((c : List Command) → Agree (told c) (free c)) → Agree (next_script contents name shape told) (next_script None name shape free)
  script_agree name shape told free agree = kind_agree Script name (IsScript shape) (ScriptFails shape) told free (script_settled shape) agree

  program_agree : (core : ℕ) (given : Program) (told free : ImageValue → Order V) → ((i : ImageValue) → Agree (told i) (free i)) → Agree (next_program contents core given told) (next_program None core given free)
  program_agree core (Words words) told free agree = agree (image_of_words words)
  program_agree core (Asm name) told free agree = kind_agree (Core core) name IsSource SourceFails told free source_settled agree
  program_agree core (Image name) told free agree = kind_agree (Core core) name IsImageFile ImageFails told free image_settled agree

  programs_agree : (core : ℕ) (given : List Program) (images : List ImageValue) (told free : List ImageValue → Order V) → ((all : List ImageValue) → Agree (told all) (free all)) → Agree (next_programs contents core given images told) (next_programs None core given images free)
  programs_agree core [] images told free agree = agree images
  programs_agree core (g ∷ given) images told free agree =
      program_agree core g (λ i. next_programs contents (core + 1) given (images ++ i ∷ []) told) (λ i. next_programs None (core + 1) given (images ++ i ∷ []) free)
      (λ i. programs_agree (core + 1) given (images ++ i ∷ []) told free agree)

  planned_agree : (keep : Keep) (plan : JobPlan) (told free : JobValue → Order V) → ((j : JobValue) → Agree (told j) (free j)) → Agree (next_planned contents keep told plan) (next_planned None keep free plan)
  planned_agree keep plan told free agree = programs_agree 0 plan.programs [] (λ images. next_checked Input (IsMachine keep plan.shape images) (MachineFails keep plan.shape images) told)
      (λ images. next_checked Input (IsMachine keep plan.shape images) (MachineFails keep plan.shape images) free)
      (λ images. checked_agree Input (IsMachine keep plan.shape images) (MachineFails keep plan.shape images) told free (machine_settled keep plan.shape images) agree)

  job_agree : (keep : Keep) (name : List ℕ) (told free : JobValue → Order V) → ((j : JobValue) → Agree (told j) (free j)) → Agree (next_job contents keep name told) (next_job None keep name free)
  job_agree keep name told free agree = kind_agree Input name IsPlanOf JobFails (next_planned contents keep told) (next_planned None keep free) plan_settled (λ plan. planned_agree keep plan told free agree)

-- a row a command
agree_for : (contents : Option Contents) (asked : AskedValue) → Agree contents (IsNext contents asked) (IsNext None asked)
agree_for contents (run keep name) = job_agree contents keep name (λ j. last (listing_of j keep)) (λ j. last (listing_of j keep)) (λ j. last_agree contents (listing_of j keep))
agree_for contents (sim workers keep name) = job_agree contents keep name (λ j. last (listing_of j keep)) (λ j. last (listing_of j keep)) (λ j. last_agree contents (listing_of j keep))
agree_for contents (trace name) = job_agree contents keeps_actions name (λ j. last (actions_text j)) (λ j. last (actions_text j)) (λ j. last_agree contents (actions_text j))
agree_for contents (asm name) = kind_agree contents Input name IsSource SourceFails (λ i. last (image_bytes i)) (λ i. last (image_bytes i)) source_settled (λ i. last_agree contents (image_bytes i))
agree_for contents (dis name) = kind_agree contents Input name IsImageFile ImageFails (λ i. last (listing_text i)) (λ i. last (listing_text i)) image_settled (λ i. last_agree contents (listing_text i))
agree_for contents (image name) = kind_agree contents Input name IsImageFile ImageFails (λ i. last (image_bytes i)) (λ i. last (image_bytes i)) image_settled (λ i. last_agree contents (image_bytes i))
agree_for contents (gen seed cores slots false) = last_agree contents (plan_text (generated seed cores slots))
agree_for contents (gen seed cores slots true) =
    planned_agree contents keeps_nothing (generated seed cores slots) (λ j. last (summary_of j)) (λ j. last (summary_of j)) (λ j. last_agree contents (summary_of j))
agree_for contents (debug job script) =
    job_agree contents keeps_nothing job (λ j. next_script contents script j.shape (λ commands. last (output_of j commands)))
    (λ j. next_script None script j.shape (λ commands. last (output_of j commands)))
    (λ j. script_agree contents script j.shape (λ commands. last (output_of j commands)) (λ commands. last (output_of j commands)) (λ commands. last_agree contents (output_of j commands)))

same_follows : (contents : Option Contents) (asked : AskedValue) (before helds : Helds)
    → (Following contents (IsNext None asked) before helds → Follows contents asked before helds) × (Follows contents asked before helds → Following contents (IsNext None asked) before helds)
same_follows contents asked before [] = (λ f. tt, λ f. tt)
same_follows contents asked before (held ∷ helds) =
    let rest = same_follows contents asked (before ++ held ∷ []) helds in
    (λ f. (f.0, f.1, f.2, rest.0 f.3), λ f. (f.0, f.1, f.2, rest.1 f.3))

pub same_order : SameOrder
same_order contents asked helds step = (
  λ is. let t = (agree_for contents asked).there helds step is in ((same_follows contents asked [] helds).0 t.0, t.1),
  λ given. (agree_for contents asked).back helds step ((same_follows contents asked [] helds).1 given.0) given.1,
)

-- from a course to the bytes that were read, and back
pub comes_read : (contents : Option Contents) (asked : AskedValue) (step : Step (List ℕ)) → Comes contents asked step → (helds : Helds) × Follows contents asked [] helds × IsNext None asked helds step
comes_read contents asked step comes =
    let next = (same_course contents asked step).0 comes in
    let order = (same_order contents asked next.0 step).0 next.1 in (next.0, order.0, order.1)

pub read_comes : (contents : Option Contents) (asked : AskedValue) (helds : Helds) (step : Step (List ℕ)) → Follows contents asked [] helds → IsNext None asked helds step → Comes contents asked step
read_comes contents asked helds step follows next = (same_course contents asked step).1 (helds, (same_order contents asked helds step).1 (follows, next))

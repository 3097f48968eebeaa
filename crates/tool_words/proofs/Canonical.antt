-- What canonical words mean.
use Rattle.std.proofs.Common.{◌≡◌, ◌∙◌, ap, refl, subst, sym, List, [], ◌∷◌, Bool, true, false, ℕ, arith, rules}
use Rattle.std.specs.Prelude.{Option, Some, None, IfSome, codes, is_some, not, ◌==◌, option_and_then, option_map}
use Rattle.std.specs.Str.{bytes_eq}
use Rattle.std.proofs.lemmas.Slice.Eq.{bytes_eq-Decides}
use Rattle.clap.specs.Walk.{Text, Walk, walk_from, nothing_held, first_of, finished}
use Rattle.clap.specs.Simple.{built, names_of, argument_words}
use Rattle.clap.specs.Faults.{defaults_fault}
use Rattle.tool_words.specs.declared.table.Command.{Command}
use Rattle.tool_words.specs.declared.table.Command.TheVariants.{Run, Sim, Trace, Asm, Dis, Image, Gen, Debug}
use Rattle.tool_words.specs.declared.table.Choice.{Choice}
use Rattle.tool_words.specs.declared.table.Choice.TheVariants as choice
use Rattle.tool_words.specs.declared.table.Place.{Place}
use Rattle.tool_words.specs.declared.table.Place.TheVariants as place
use Rattle.tool_words.specs.Table.{word_of, choice_id, place_id}
use Rattle.tool_words.specs.Clap.{app_for}
use Rattle.tool_words.specs.Meaning.{AskedValue, answer_in, answer_of, asm, command_of, cores_in, debug, dis, gen, image, keep_in, is_number, meaning, meaning_by, number_in, number_of, run, seed_of, sim, slots_in, trace, values_in, workers_in}
use Rattle.tool_words.specs.Canonical.{AllowedAlwaysMean, AreAllowed, AreValues, CanonicalMeansTable, MeansTable, is_allowed, is_plain, with_choice}
use Rattle.tool_words.proofs.Walks.{IsPlain, end_fault, Goes, stays, over_choice, over_place, found_at}

plain_word : (word : Text) → is_plain word ≡ true → IsPlain word
plain_word [] e = absurd (cc)
plain_word (byte ∷ rest) e = record { byte = byte; rest = rest; spelt = refl; front = not_true (byte == 45) e }
  where
    not_true : (b : Bool) → not b ≡ true → b ≡ false
    not_true true e = cc
    not_true false e = refl

plain_choice : (value : Option Text) → IfSome value (λ v. is_plain v ≡ true) → IfSome value IsPlain
plain_choice None h = tt
plain_choice (Some v) h = plain_word v h

-- the values of a command, by what clap finds
abbrev values_by : Command → (Text → Option Text) → Option AskedValue
values_by command found = values_in command (λ choice. found (choice_id choice)) (λ place. found (place_id place))

-- a walk over a command's words that ends well gives their meaning
means_from : (command : Command) (words : List Text) (to : Walk) → command_of (word_of command) ≡ Some command
    → names_of (built (app_for command)) ≡ [] → argument_words (app_for command) (word_of command ∷ words) ≡ words
    → Goes (built (app_for command)).top (walk_from nothing_held) words to → end_fault (built (app_for command)) to [] ≡ []
    → meaning (word_of command ∷ words) ≡ values_by command (λ id. first_of id (finished (built (app_for command)).top.rules to.held))
means_from command words to named none rest goes good =
    ap {B = Option AskedValue} (λ (c : Option Command). meaning_by c (word_of command ∷ words)) named
    ∙ ap {B = Option AskedValue} (option_and_then (values_by command)) (found_at (app_for command) (word_of command) words to none rest goes good)

run_means : (a : Option Text) (b : Option Text) (j : Text) → IfSome a IsPlain → IfSome b IsPlain → IsPlain j
    → meaning (word_of Run ∷ with_choice choice.Trace a (with_choice choice.Touches b (j ∷ []))) ≡ option_map (λ keep. run keep j) (keep_in a b)
unfolding defaults_fault
run_means None None j _ _ pj = means_from Run _ _ refl refl refl (over_place _ place.Job _ _ 1 j _ _ refl refl refl pj (stays _ _)) refl
run_means None (Some b) j _ pb pj = means_from Run _ _ refl refl refl (over_choice _ choice.Touches _ _ 1 b _ _ refl refl refl pb (over_place _ place.Job _ _ 1 j _ _ refl refl refl pj (stays _ _))) refl
run_means (Some a) None j pa _ pj = means_from Run _ _ refl refl refl (over_choice _ choice.Trace _ _ 1 a _ _ refl refl refl pa (over_place _ place.Job _ _ 1 j _ _ refl refl refl pj (stays _ _))) refl
run_means (Some a) (Some b) j pa pb pj = means_from Run _ _ refl refl refl (over_choice _ choice.Trace _ _ 1 a _ _ refl refl refl pa (over_choice _ choice.Touches _ _ 1 b _ _ refl refl refl pb (over_place _ place.Job _ _ 1 j _ _ refl refl refl pj (stays _ _)))) refl

-- what `sim` is asked for, by the texts of its options
abbrev sim_in : Option Text → Option Text → Option Text → Text → Option AskedValue
sim_in w t u j = option_and_then (λ workers. option_and_then (λ keep. option_map (sim workers keep) (Some j)) (keep_in t u)) (workers_in w)

sim_means : (w t u : Option Text) (j : Text) → IfSome w IsPlain → IfSome t IsPlain → IfSome u IsPlain → IsPlain j
    → meaning (word_of Sim ∷ with_choice choice.Workers w (with_choice choice.Trace t (with_choice choice.Touches u (j ∷ [])))) ≡ sim_in w t u j
unfolding defaults_fault
sim_means None None None j _ _ _ pj = means_from Sim _ _ refl refl refl (over_place _ place.Job _ _ 1 j _ _ refl refl refl pj (stays _ _)) refl
sim_means None None (Some u) j _ _ pu pj = means_from Sim _ _ refl refl refl (over_choice _ choice.Touches _ _ 1 u _ _ refl refl refl pu (over_place _ place.Job _ _ 1 j _ _ refl refl refl pj (stays _ _))) refl
sim_means None (Some t) None j _ pt _ pj = means_from Sim _ _ refl refl refl (over_choice _ choice.Trace _ _ 1 t _ _ refl refl refl pt (over_place _ place.Job _ _ 1 j _ _ refl refl refl pj (stays _ _))) refl
sim_means None (Some t) (Some u) j _ pt pu pj = means_from Sim _ _ refl refl refl (over_choice _ choice.Trace _ _ 1 t _ _ refl refl refl pt (over_choice _ choice.Touches _ _ 1 u _ _ refl refl refl pu (over_place _ place.Job _ _ 1 j _ _ refl refl refl pj (stays _ _)))) refl
sim_means (Some w) None None j pw _ _ pj = means_from Sim _ _ refl refl refl (over_choice _ choice.Workers _ _ 1 w _ _ refl refl refl pw (over_place _ place.Job _ _ 1 j _ _ refl refl refl pj (stays _ _))) refl
sim_means (Some w) None (Some u) j pw _ pu pj = means_from Sim _ _ refl refl refl (over_choice _ choice.Workers _ _ 1 w _ _ refl refl refl pw (over_choice _ choice.Touches _ _ 1 u _ _ refl refl refl pu (over_place _ place.Job _ _ 1 j _ _ refl refl refl pj (stays _ _)))) refl
sim_means (Some w) (Some t) None j pw pt _ pj = means_from Sim _ _ refl refl refl (over_choice _ choice.Workers _ _ 1 w _ _ refl refl refl pw (over_choice _ choice.Trace _ _ 1 t _ _ refl refl refl pt (over_place _ place.Job _ _ 1 j _ _ refl refl refl pj (stays _ _)))) refl
sim_means (Some w) (Some t) (Some u) j pw pt pu pj = means_from Sim _ _ refl refl refl (over_choice _ choice.Workers _ _ 1 w _ _ refl refl refl pw (over_choice _ choice.Trace _ _ 1 t _ _ refl refl refl pt (over_choice _ choice.Touches _ _ 1 u _ _ refl refl refl pu (over_place _ place.Job _ _ 1 j _ _ refl refl refl pj (stays _ _))))) refl

-- what `gen` is asked for, by the texts of its options and of its seed
abbrev gen_in : Option Text → Option Text → Option Text → Text → Option AskedValue
gen_in a b c v =
    option_and_then (λ cores. option_and_then (λ slots. option_and_then (λ runs. option_map (λ seed. gen seed cores slots runs)
    (seed_of v)) (answer_in c)) (slots_in b)) (cores_in a)

gen_means : (a b c : Option Text) (v : Text) → IfSome a IsPlain → IfSome b IsPlain → IfSome c IsPlain → IsPlain v
    → meaning (word_of Gen ∷ with_choice choice.Cores a (with_choice choice.Slots b (with_choice choice.Run c (v ∷ [])))) ≡ gen_in a b c v
unfolding defaults_fault
gen_means None None None v _ _ _ pv = means_from Gen _ _ refl refl refl (over_place _ place.Seed _ _ 1 v _ _ refl refl refl pv (stays _ _)) refl
gen_means None None (Some c) v _ _ pc pv = means_from Gen _ _ refl refl refl (over_choice _ choice.Run _ _ 1 c _ _ refl refl refl pc (over_place _ place.Seed _ _ 1 v _ _ refl refl refl pv (stays _ _))) refl
gen_means None (Some b) None v _ pb _ pv = means_from Gen _ _ refl refl refl (over_choice _ choice.Slots _ _ 1 b _ _ refl refl refl pb (over_place _ place.Seed _ _ 1 v _ _ refl refl refl pv (stays _ _))) refl
gen_means None (Some b) (Some c) v _ pb pc pv = means_from Gen _ _ refl refl refl (over_choice _ choice.Slots _ _ 1 b _ _ refl refl refl pb (over_choice _ choice.Run _ _ 1 c _ _ refl refl refl pc (over_place _ place.Seed _ _ 1 v _ _ refl refl refl pv (stays _ _)))) refl
gen_means (Some a) None None v pa _ _ pv = means_from Gen _ _ refl refl refl (over_choice _ choice.Cores _ _ 1 a _ _ refl refl refl pa (over_place _ place.Seed _ _ 1 v _ _ refl refl refl pv (stays _ _))) refl
gen_means (Some a) None (Some c) v pa _ pc pv = means_from Gen _ _ refl refl refl (over_choice _ choice.Cores _ _ 1 a _ _ refl refl refl pa (over_choice _ choice.Run _ _ 1 c _ _ refl refl refl pc (over_place _ place.Seed _ _ 1 v _ _ refl refl refl pv (stays _ _)))) refl
gen_means (Some a) (Some b) None v pa pb _ pv = means_from Gen _ _ refl refl refl (over_choice _ choice.Cores _ _ 1 a _ _ refl refl refl pa (over_choice _ choice.Slots _ _ 1 b _ _ refl refl refl pb (over_place _ place.Seed _ _ 1 v _ _ refl refl refl pv (stays _ _)))) refl
gen_means (Some a) (Some b) (Some c) v pa pb pc pv = means_from Gen _ _ refl refl refl (over_choice _ choice.Cores _ _ 1 a _ _ refl refl refl pa (over_choice _ choice.Slots _ _ 1 b _ _ refl refl refl pb (over_choice _ choice.Run _ _ 1 c _ _ refl refl refl pc (over_place _ place.Seed _ _ 1 v _ _ refl refl refl pv (stays _ _))))) refl

trace_means : (file : Text) → IsPlain file → meaning (word_of Trace ∷ file ∷ []) ≡ Some (trace file)
unfolding defaults_fault
trace_means file plain = means_from Trace _ _ refl refl refl (over_place _ place.Job _ _ 1 file _ _ refl refl refl plain (stays _ _)) refl

debug_means : (job script : Text) → IsPlain job → IsPlain script → meaning (word_of Debug ∷ job ∷ script ∷ []) ≡ Some (debug job script)
unfolding defaults_fault
debug_means job script pj ps =
    means_from Debug _ _ refl refl refl
    (over_place _ place.Job _ _ 1 job _ _ refl refl refl pj (over_place _ place.Script _ _ 2 script _ _ refl refl refl ps (stays _ _))) refl

asm_means : (file : Text) → IsPlain file → meaning (word_of Asm ∷ file ∷ []) ≡ Some (asm file)
unfolding defaults_fault
asm_means file plain = means_from Asm _ _ refl refl refl (over_place _ place.Source _ _ 1 file _ _ refl refl refl plain (stays _ _)) refl

dis_means : (file : Text) → IsPlain file → meaning (word_of Dis ∷ file ∷ []) ≡ Some (dis file)
unfolding defaults_fault
dis_means file plain = means_from Dis _ _ refl refl refl (over_place _ place.Image _ _ 1 file _ _ refl refl refl plain (stays _ _)) refl

image_means : (file : Text) → IsPlain file → meaning (word_of Image ∷ file ∷ []) ≡ Some (image file)
unfolding defaults_fault
image_means file plain = means_from Image _ _ refl refl refl (over_place _ place.Image _ _ 1 file _ _ refl refl refl plain (stays _ _)) refl

pub canonical : CanonicalMeansTable
canonical Run chosen placed plain names =
    run_means (chosen choice.Trace) (chosen choice.Touches) (placed place.Job) (plain_choice _ (plain choice.Trace)) (plain_choice _ (plain choice.Touches)) (plain_word _ (names place.Job))
canonical Sim chosen placed plain names =
    sim_means (chosen choice.Workers) (chosen choice.Trace) (chosen choice.Touches) (placed place.Job)
    (plain_choice _ (plain choice.Workers)) (plain_choice _ (plain choice.Trace)) (plain_choice _ (plain choice.Touches)) (plain_word _ (names place.Job))
canonical Trace chosen placed plain names = trace_means (placed place.Job) (plain_word _ (names place.Job))
canonical Asm chosen placed plain names = asm_means (placed place.Source) (plain_word _ (names place.Source))
canonical Dis chosen placed plain names = dis_means (placed place.Image) (plain_word _ (names place.Image))
canonical Image chosen placed plain names = image_means (placed place.Image) (plain_word _ (names place.Image))
canonical Gen chosen placed plain names =
    gen_means (chosen choice.Cores) (chosen choice.Slots) (chosen choice.Run) (placed place.Seed)
    (plain_choice _ (plain choice.Cores)) (plain_choice _ (plain choice.Slots)) (plain_choice _ (plain choice.Run)) (plain_word _ (names place.Seed))
canonical Debug chosen placed plain names =
    debug_means (placed place.Job) (placed place.Script) (plain_word _ (names place.Job)) (plain_word _ (names place.Script))

-- ---- allowed values

plain_answer : (text : Text) (yes_here no_here : Bool) → bytes_eq text (codes "yes") ≡ yes_here → bytes_eq text (codes "no") ≡ no_here
    → is_some (answer_of text) ≡ true → is_plain text ≡ true
plain_answer text true no_here is_yes is_no some = subst (λ t. is_plain t ≡ true) (sym ((bytes_eq-Decides text (codes "yes")).0 is_yes)) refl
plain_answer text false true is_yes is_no some = subst (λ t. is_plain t ≡ true) (sym ((bytes_eq-Decides text (codes "no")).0 is_no)) refl
plain_answer text false false is_yes is_no some = let none : false ≡ true = rw (is_yes, is_no) at some in absurd (cc)

-- a number begins with a digit
plain_number : (text : Text) → is_number text ≡ true → is_plain text ≡ true
plain_number [] is = absurd (cc)
plain_number (byte ∷ rest) is = search rules

plain_within : (least most : ℕ) (text : Text) (here : Bool) → is_number text ≡ here → is_some (number_of least most text) ≡ true → is_plain text ≡ true
plain_within least most text true is some = plain_number text is
plain_within least most text false is some = let none : false ≡ true = rw is at some in absurd (cc)

plain_allowed : (choice : Choice) (text : Text) → is_allowed choice text ≡ true → is_plain text ≡ true
plain_allowed choice.Workers text allowed = plain_within _ _ text _ refl allowed
plain_allowed choice.Trace text allowed = plain_answer text _ _ refl refl allowed
plain_allowed choice.Touches text allowed = plain_answer text _ _ refl refl allowed
plain_allowed choice.Cores text allowed = plain_within _ _ text _ refl allowed
plain_allowed choice.Slots text allowed = plain_within _ _ text _ refl allowed
plain_allowed choice.Run text allowed = plain_answer text _ _ refl refl allowed

plain_given : (choice : Choice) (given : Option Text) → IfSome given (λ text. is_allowed choice text ≡ true) → IfSome given (λ text. is_plain text ≡ true)
plain_given choice None allowed = tt
plain_given choice (Some text) allowed = plain_allowed choice text allowed

answers : (given : Option Text) → IfSome given (λ text. is_some (answer_of text) ≡ true) → is_some (answer_in given) ≡ true
answers None allowed = refl
answers (Some text) allowed = allowed

both_kept : (t u : Option Bool) → is_some t ≡ true → is_some u ≡ true
    → (j : Text) → is_some (option_and_then (λ keep. option_map (run keep) (Some j)) (option_and_then (λ x. option_map (λ y. record { trace = x; touches = y }) u) t)) ≡ true
both_kept None u some others j = cc
both_kept (Some t) None some others j = cc
both_kept (Some t) (Some u) some others j = refl

number_some : (default least most : ℕ) (given : Option Text) → IfSome given (λ text. is_some (number_of least most text) ≡ true)
    → is_some (number_in default least most given) ≡ true
number_some default least most None allowed = refl
number_some default least most (Some text) allowed = allowed

with_workers : (workers : Option ℕ) (t u : Option Bool) → is_some workers ≡ true → is_some t ≡ true → is_some u ≡ true
    → (j : Text) → is_some (option_and_then (λ w. option_and_then (λ keep. option_map (sim w keep) (Some j)) (option_and_then (λ x. option_map (λ y. record { trace = x; touches = y }) u) t)) workers) ≡ true
with_workers None t u some others rest j = cc
with_workers (Some w) None u some others rest j = cc
with_workers (Some w) (Some t) None some others rest j = cc
with_workers (Some w) (Some t) (Some u) some others rest j = refl

with_seed : (cores slots : Option ℕ) (runs : Option Bool) (seed : Option ℕ)
    → is_some cores ≡ true → is_some slots ≡ true → is_some runs ≡ true → is_some seed ≡ true
    → is_some (option_and_then (λ c. option_and_then (λ s. option_and_then (λ r. option_map (λ n. gen n c s r) seed) runs) slots) cores) ≡ true
with_seed None slots runs seed a b c d = absurd (cc)
with_seed (Some x) None runs seed a b c d = absurd (cc)
with_seed (Some x) (Some y) None seed a b c d = absurd (cc)
with_seed (Some x) (Some y) (Some z) None a b c d = absurd (cc)
with_seed (Some x) (Some y) (Some z) (Some n) a b c d = refl

values_allowed : (command : Command) (chosen : Choice → Option Text) (placed : Place → Text) → AreAllowed chosen → AreValues command placed
    → is_some (values_in command chosen (λ place. Some (placed place))) ≡ true
values_allowed Run chosen placed allowed values = both_kept _ _ (answers _ (allowed choice.Trace)) (answers _ (allowed choice.Touches)) (placed place.Job)
values_allowed Sim chosen placed allowed values =
    with_workers _ _ _ (number_some _ _ _ _ (allowed choice.Workers)) (answers _ (allowed choice.Trace)) (answers _ (allowed choice.Touches)) (placed place.Job)
values_allowed Trace chosen placed allowed values = refl
values_allowed Asm chosen placed allowed values = refl
values_allowed Dis chosen placed allowed values = refl
values_allowed Image chosen placed allowed values = refl
values_allowed Gen chosen placed allowed values =
    with_seed _ _ _ _ (number_some _ _ _ _ (allowed choice.Cores)) (number_some _ _ _ _ (allowed choice.Slots)) (answers _ (allowed choice.Run)) (values 0 place.Seed (omega arith))
values_allowed Debug chosen placed allowed values = refl

pub allowed : AllowedAlwaysMean
allowed command chosen placed good names values =
    let means : MeansTable command chosen placed = canonical command chosen placed (λ choice. plain_given choice (chosen choice) (good choice)) names in
    (means, ap is_some means ∙ values_allowed command chosen placed good values)

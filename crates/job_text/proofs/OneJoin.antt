-- Images without a fault have one job.
use Rattle.std.proofs.Common.{◌≡◌, ◌≢◌, ◌⊎◌, inl, inr, ℕ, zero, suc, ◌<◌, ◌≤◌, List, [], ◌∷◌, map, length, get_or, Option, Some, None, Ok, Err, option_map, refl, sym, ◌∙◌, ap, subst, arith}
use Rattle.std.specs.Prelude.{Result, slice_get}
use Rattle.std.specs.List.{All}
use Rattle.std.specs.Option.{option_or, unwrap_or}
use Rattle.std.proofs.lemmas.List.{length-map}
use Rattle.std.proofs.lemmas.Option.{slice_get-map}
use Rattle.pmsi_model.specs.declared.job.Geometry.{Geometry}
use Rattle.pmsi_model.specs.Geometry.{IsGeometry}
use Rattle.pmsi_model.specs.Image.{ImageValue}
use Rattle.pmsi_model.specs.Job.{IsJob, JobValue}
use Rattle.job_text.specs.declared.job_fault.JobFault.{JobFault}
use Rattle.job_text.specs.declared.job_fault.JobFault.TheVariants as faults
use Rattle.job_text.specs.Joining.{AreWithin, DoDiffer, HasJoinFault, IsFirstDifference, IsFirstPast, IsJoined, IsPairUpTo, byte_in, byte_of}
use Rattle.job_text.specs.Joins.{AreFirst, AreTexts, first_byte}
use Rattle.job_text.specs.Laws.{JobOrFaultOnly, OneJob, OneJoinFault}
use Rattle.job_text.proofs.FirstDifferences.{in_memory, same_or}
use Rattle.job_text.proofs.ImageBytes.{first_core, first_next, first_none, next_core, past_cores}
use Rattle.job_text.proofs.OneEnd.{is_memory, lists_alike, only_memory}
use Rattle.job_text.proofs.PieceBytes.{below_or}

-- ---- the bytes of memory

agrees_by : (first : ImageValue) (images : List ImageValue) (address byte : ℕ) (here : Option ℕ) (core : ℕ) → byte_in first.pieces address ≡ here → byte_of (first ∷ images) core address ≡ Some byte
    → ((other : ℕ) → byte_of (first ∷ images) other address ≢ None → byte_of (first ∷ images) other address ≡ Some byte)
    → ((core : ℕ) → byte_of images core address ≡ Some byte → ((other : ℕ) → byte_of images other address ≢ None → byte_of images other address ≡ Some byte) → first_byte images address ≡ Some byte)
    → option_or (byte_in first.pieces address) (first_byte images address) ≡ Some byte
agrees_by first images address byte (Some b) core e is all others =
    let front = first_core first images address in
    rw e (sym e ∙ sym front ∙ all 0 (λ none. let both : Some b ≡ None = sym e ∙ sym front ∙ none in absurd cc))
agrees_by first images address byte None zero e is all others = let none : None ≡ Some byte = sym e ∙ sym (first_core first images address) ∙ is in absurd cc
agrees_by first images address byte None (suc core) e is all others =
    rw e (others core (sym (next_core first images core address) ∙ is)
    (λ other some. sym (next_core first images other address) ∙ all (suc other) (λ none. some (sym (next_core first images other address) ∙ none))))

first_agrees : (images : List ImageValue) (core address byte : ℕ) → byte_of images core address ≡ Some byte → ((other : ℕ) → byte_of images other address ≢ None → byte_of images other address ≡ Some byte)
    → first_byte images address ≡ Some byte
first_agrees [] core address byte is all = let none : None ≡ Some byte = sym (past_cores [] core address (omega arith)) ∙ is in absurd cc
first_agrees (first ∷ images) core address byte is all =
    first_next first images address
    ∙ agrees_by first images address byte (byte_in first.pieces address) core refl is all (λ core here others. first_agrees images core address byte here others)

none_first : (images : List ImageValue) (address : ℕ) → ((core : ℕ) → byte_of images core address ≡ None) → first_byte images address ≡ None
none_first [] address none = first_none address
none_first (first ∷ images) address none =
    let here : byte_in first.pieces address ≡ None = sym (first_core first images address) ∙ none 0 in
    first_next first images address ∙ rw here (none_first images address (λ core. sym (next_core first images core address) ∙ none (suc core)))

pub get_some : {X : Type 0} (xs : List X) (k : ℕ) (d : X) → k < length xs → slice_get xs k ≡ Some (get_or xs k d)
get_some [] k d low = absurd (omega arith)
get_some (x ∷ xs) zero d low = refl
get_some (x ∷ xs) (suc k) d low = get_some xs k d (omega arith)

module _ (shape : Geometry) (images : List ImageValue) (within : AreWithin shape images) (agree : (core other address : ℕ) → DoDiffer images core other address → ⊥) where
  same_bytes : (core other address : ℕ) → byte_of images core address ≢ None → byte_of images other address ≢ None → byte_of images core address ≡ byte_of images other address
  same_bytes core other address one two = by_order (same_or (byte_of images core address) (byte_of images other address)) (below_or core other) (below_or other core) where
    by_order : (byte_of images core address ≡ byte_of images other address) ⊎ (byte_of images core address ≢ byte_of images other address) → (core < other) ⊎ (other ≤ core) → (other < core) ⊎ (core ≤ other)
        → byte_of images core address ≡ byte_of images other address
    by_order (inl same) below above = same
    by_order (inr apart) (inl below) above = absurd (agree core other address (record { order = below; one = one; two = two; apart = apart }))
    by_order (inr apart) (inr low) (inl above) = absurd (agree other core address (record { order = above; one = two; two = one; apart = λ same. apart (sym same) }))
    by_order (inr apart) (inr low) (inr high) = let same : core ≡ other = omega arith in ap (λ c. byte_of images c address) same

  module _ (cells : List (Option ℕ)) (first : AreFirst images shape.memory cells) where
    start_at : (address : ℕ) → address < shape.memory → slice_get (map (λ cell. unwrap_or cell 0) cells) address ≡ Some (unwrap_or (first_byte images address) 0)
    start_at address low =
        slice_get-map (λ cell. unwrap_or cell 0) cells address ∙ ap (option_map (λ cell. unwrap_or cell 0)) (get_some cells address None (omega (arith, first.count)))
        ∙ ap (λ cell. Some (unwrap_or cell 0)) (first.each address low)

    named_at : (core address byte : ℕ) → byte_of images core address ≡ Some byte → slice_get (map (λ cell. unwrap_or cell 0) cells) address ≡ Some byte
    named_at core address byte is =
        let some : byte_of images core address ≢ None = λ none. let both : Some byte ≡ None = sym is ∙ none in absurd cc in
        start_at address (in_memory shape images cells within first core address some)
        ∙ ap (λ cell. Some (unwrap_or cell 0)) (first_agrees images core address byte is (λ other named. same_bytes other core address named some ∙ is))

    pub is_joined : (texts : List (List ℕ)) (start : List ℕ) (job : JobValue) → job ≡ record { shape = shape; texts = texts; start = start } → texts ≡ map (λ image. image.text) images
        → start ≡ map (λ cell. unwrap_or cell 0) cells → IsJoined shape images job
    is_joined texts start job made copied put = subst (IsJoined shape images) (sym made) (record {
      within = within;
      agree = agree;
      same_shape = refl;
      texts = copied;
      memory = ap length put ∙ length-map cells (λ cell. unwrap_or cell 0) ∙ first.count;
      named = λ core address byte is. ap (λ s. slice_get s address) put ∙ named_at core address byte is;
      zeros = λ address low none. ap (λ s. slice_get s address) put ∙ start_at address low ∙ ap (λ cell. Some (unwrap_or cell 0)) (none_first images address none);
    })

pub is_job : (shape : Geometry) (images : List ImageValue) (cells : List (Option ℕ)) (texts : List (List ℕ)) (start : List ℕ) → IsGeometry shape → length images ≡ shape.cores → AreFirst images shape.memory cells
    → texts ≡ map (λ image. image.text) images → AreTexts texts → start ≡ map (λ cell. unwrap_or cell 0) cells → All (λ byte. byte < 256) start → IsJob (record { shape = shape; texts = texts; start = start })
is_job shape images cells texts start within count first copied fit put bytes = record {
  shape = within;
  texts = ap length copied ∙ length-map images (λ image. image.text) ∙ count;
  text_words = fit.few;
  words = fit.words;
  start = ap length put ∙ length-map cells (λ cell. unwrap_or cell 0) ∙ first.count;
  bytes = bytes;
}

-- ---- one job

-- a core that names a byte at an address, or that none does
abbrev NamesOne : List ImageValue → ℕ → Type 0
NamesOne images address = ((core : ℕ) × (byte : ℕ) × (byte_of images core address ≡ Some byte)) ⊎ ((core : ℕ) → byte_of images core address ≡ None)

names_by : (first : ImageValue) (images : List ImageValue) (address : ℕ) (here : Option ℕ) → byte_in first.pieces address ≡ here → NamesOne images address → NamesOne (first ∷ images) address
names_by first images address (Some byte) e others = inl (0, byte, first_core first images address ∙ e)
names_by first images address None e (inl found) = inl (suc found.0, found.1, next_core first images found.0 address ∙ found.2)
names_by first images address None e (inr none) = inr none_of where
  none_of : (core : ℕ) → byte_of (first ∷ images) core address ≡ None
  none_of zero = first_core first images address ∙ e
  none_of (suc core) = next_core first images core address ∙ none core

pub names_one : (images : List ImageValue) (address : ℕ) → NamesOne images address
names_one [] address = inr (λ core. past_cores [] core address (omega arith))
names_one (first ∷ images) address = names_by first images address (byte_in first.pieces address) refl (names_one images address)

same_start : (shape : Geometry) (images : List ImageValue) (job other : JobValue) → IsJoined shape images job → IsJoined shape images other → (address : ℕ) → address < shape.memory → NamesOne images address
    → slice_get job.start address ≡ slice_get other.start address
same_start shape images job other is also address low (inl found) = is.named found.0 address found.1 found.2 ∙ sym (also.named found.0 address found.1 found.2)
same_start shape images job other is also address low (inr none) = is.zeros address low none ∙ sym (also.zeros address low none)

pub one_job : OneJob
one_job shape images job other is also =
    let same : job.shape ≡ other.shape = is.same_shape ∙ sym also.same_shape in
    let texts : job.texts ≡ other.texts = is.texts ∙ sym also.texts in
    let start : job.start ≡ other.start = lists_alike job.start other.start (is.memory ∙ sym also.memory) (λ address low.
    same_start shape images job other is also address (omega (arith, is.memory)) (names_one images address)) in
    λ i. record { shape = same i; texts = texts i; start = start i }

-- ---- one fault

pair_first : (a b c d : ℕ) → IsPairUpTo (a, b) (c, d) → IsPairUpTo (c, d) (a, b) → a ≡ c
pair_first a b c d (inl low) (inl high) = omega arith
pair_first a b c d (inl low) (inr same) = sym same.0
pair_first a b c d (inr same) back = same.0

pair_second : (a b c d : ℕ) → IsPairUpTo (a, b) (c, d) → IsPairUpTo (c, d) (a, b) → b ≡ d
pair_second a b c d (inl low) (inl high) = omega arith
pair_second a b c d (inl low) (inr same) = omega (arith, same.0)
pair_second a b c d (inr same) (inl high) = omega (arith, same.0)
pair_second a b c d (inr same) (inr back) = omega (arith, same.1, back.1)

one_past : (shape : Geometry) (images : List ImageValue) (a b c d : ℕ) → IsFirstPast shape images a b → IsFirstPast shape images c d → faults.Beyond a b ≡ faults.Beyond c d
one_past shape images a b c d is also =
    let one = is.first c d also.is in
    let two = also.first a b is.is in
    let core = pair_first a b c d one two in
    let address = pair_second a b c d one two in
    λ i. faults.Beyond (core i) (address i)

one_difference : (images : List ImageValue) (a b p c d q : ℕ) → IsFirstDifference images a b p → IsFirstDifference images c d q → faults.Overlap a b p ≡ faults.Overlap c d q
one_difference images a b p c d q is also =
    let low = is.least c d q also.is in
    let high = also.least a b p is.is in
    let address : p ≡ q = omega (arith, low, high) in
    let one = is.first c d (subst (DoDiffer images c d) (sym address) also.is) in
    let two = also.first a b (subst (DoDiffer images a b) address is.is) in
    let core = pair_first a b c d one two in
    let other = pair_second a b c d one two in
    λ i. faults.Overlap (core i) (other i) (address i)

pub one_join_fault : OneJoinFault
one_join_fault shape images (faults.Beyond a b) (faults.Beyond c d) is also = one_past shape images a b c d is also
one_join_fault shape images (faults.Beyond a b) (faults.Overlap c d q) is also = absurd (also.0 a b is.is)
one_join_fault shape images (faults.Overlap a b p) (faults.Beyond c d) is also = absurd (is.0 c d also.is)
one_join_fault shape images (faults.Overlap a b p) (faults.Overlap c d q) is also = one_difference images a b p c d q is.1 also.1
one_join_fault shape images faults.NotText other is also = absurd is
one_join_fault shape images (faults.Line number why) other is also = absurd is
one_join_fault shape images (faults.Twice word) other is also = absurd is
one_join_fault shape images (faults.Missing word) other is also = absurd is
one_join_fault shape images (faults.Limit word value) other is also = absurd is
one_join_fault shape images faults.NoMemory other is also = absurd is
one_join_fault shape images (faults.Beyond a b) faults.NotText is also = absurd also
one_join_fault shape images (faults.Beyond a b) (faults.Line number why) is also = absurd also
one_join_fault shape images (faults.Beyond a b) (faults.Twice word) is also = absurd also
one_join_fault shape images (faults.Beyond a b) (faults.Missing word) is also = absurd also
one_join_fault shape images (faults.Beyond a b) (faults.Limit word value) is also = absurd also
one_join_fault shape images (faults.Beyond a b) faults.NoMemory is also = absurd also
one_join_fault shape images (faults.Overlap a b p) faults.NotText is also = absurd also
one_join_fault shape images (faults.Overlap a b p) (faults.Line number why) is also = absurd also
one_join_fault shape images (faults.Overlap a b p) (faults.Twice word) is also = absurd also
one_join_fault shape images (faults.Overlap a b p) (faults.Missing word) is also = absurd also
one_join_fault shape images (faults.Overlap a b p) (faults.Limit word value) is also = absurd also
one_join_fault shape images (faults.Overlap a b p) faults.NoMemory is also = absurd also

pub not_both : JobOrFaultOnly
not_both shape images job (faults.Beyond core address) is has = is.within core address has.is
not_both shape images job (faults.Overlap core other address) is has = is.agree core other address has.1.is
not_both shape images job faults.NotText is has = has
not_both shape images job (faults.Line number why) is has = has
not_both shape images job (faults.Twice word) is has = has
not_both shape images job (faults.Missing word) is has = has
not_both shape images job (faults.Limit word value) is has = has
not_both shape images job faults.NoMemory is has = has

-- ---- what is answered

module _ (shape : Geometry) (images : List ImageValue) where
  abbrev IsAnswer : Result JobValue JobFault → Result JobValue JobFault → Type 0
  IsAnswer result answer = result ≡ answer

  pub joins_by : (found job : JobValue) → IsJoined shape images found → IsJoined shape images job → IsAnswer (Ok found) (Ok job) ⊎ IsAnswer (Ok found) (Err faults.NoMemory)
  joins_by found job is also = inl (ap Ok (one_job shape images found job is also))

  pub refuses_job : (fault : JobFault) (job : JobValue) → (fault ≢ faults.NoMemory → HasJoinFault shape images fault) → IsJoined shape images job
      → IsAnswer (Err fault) (Ok job) ⊎ IsAnswer (Err fault) (Err faults.NoMemory)
  refuses_job fault job has is = inr (ap Err (only_memory fault (λ free. not_both shape images job fault is (has free))))

  pub joins_faulty : (job : JobValue) (fault : JobFault) → IsJoined shape images job → HasJoinFault shape images fault → IsAnswer (Ok job) (Err fault) ⊎ IsAnswer (Ok job) (Err faults.NoMemory)
  joins_faulty job fault is has = absurd (not_both shape images job fault is has)

  refuses_by : (found fault : JobFault) → (found ≡ faults.NoMemory) ⊎ (found ≢ faults.NoMemory) → (found ≢ faults.NoMemory → HasJoinFault shape images found) → HasJoinFault shape images fault
      → IsAnswer (Err found) (Err fault) ⊎ IsAnswer (Err found) (Err faults.NoMemory)
  refuses_by found fault (inl memory) has is = inr (ap Err memory)
  refuses_by found fault (inr free) has is = inl (ap Err (one_join_fault shape images found fault (has free) is))

  pub refuses_faulty : (found fault : JobFault) → (found ≢ faults.NoMemory → HasJoinFault shape images found) → HasJoinFault shape images fault
      → IsAnswer (Err found) (Err fault) ⊎ IsAnswer (Err found) (Err faults.NoMemory)
  refuses_faulty found fault has is = refuses_by found fault (is_memory found) has is

-- What stands between two calls while a file is read or bytes are written.
use Rattle.std.proofs.Common.{◌≡◌, ℕ, ◌<◌, ◌≤◌, ◌⊎◌, inl, inr, List, [], ◌++◌, length, take, drop, refl, sym, ◌∙◌, arith, append_assoc, append-nil, length-append}
use Rattle.std.proofs.lemmas.Bool.{cases_lt}
use Rattle.std.proofs.lemmas.List.{take-append-drop}
use Rattle.std.proofs.Math.Seq.{take-append_seam}
use Rattle.std.specs.Prelude.{Option, None, Some, IsSomeAnd, Result, Ok, Err, IsOk}
use Rattle.std.specs.Io.KnownBytes.{Appends, Keeps, Consumes, IsAtEnd}
use Rattle.pmsi_outside.specs.Causes.{HasCause, Blames}
use Rattle.pmsi_outside.specs.Files.{Contents, Tells, Opens}
use Rattle.pmsi_outside.specs.Sink.{AppendsPart}

-- the front of the bytes is written, and these are left
pub record Writing (start now : Option (List ℕ)) (bytes rest : List ℕ) : Type 0 where
  pub done : List ℕ
  pub split : bytes ≡ done ++ rest
  pub held : Appends start now done

appends_more : (start now next : Option (List ℕ)) (done more : List ℕ) → Appends start now done → Appends now next more → Appends start next (done ++ more)
appends_more None now next done more a b = tt
appends_more (Some xs) None next done more a b = absurd a
appends_more (Some xs) (Some ys) None done more a b = absurd b
appends_more (Some xs) (Some ys) (Some zs) done more a b = rw (b, a) (append_assoc xs done more)

appends_kept : (start now next : Option (List ℕ)) (done : List ℕ) → Appends start now done → Keeps now next → Appends start next done
appends_kept None now next done a k = tt
appends_kept (Some xs) None next done a k = absurd a
appends_kept (Some xs) (Some ys) None done a k = absurd k
appends_kept (Some xs) (Some ys) (Some zs) done a k = k ∙ a

pub writing_goes_on : (start now next : Option (List ℕ)) (bytes rest behind : List ℕ) (count : ℕ) → behind ≡ drop count rest → Writing start now bytes rest → Appends now next (take count rest) → Writing start next bytes behind
writing_goes_on start now next bytes rest behind count e w a = record {
  done = w.done ++ take count rest;
  split = rw (e, append_assoc, take-append-drop) w.split;
  held = appends_more start now next w.done (take count rest) w.held a;
}

-- where some are left, there were some
pub writing_some : (start now : Option (List ℕ)) (bytes rest : List ℕ) → 0 < length rest → Writing start now bytes rest → 0 < length bytes
writing_some start now bytes rest some w = rw w.split (omega (arith, length-append w.done rest))

pub writing_stops : (start now next : Option (List ℕ)) (bytes rest : List ℕ) → 0 < length rest → Writing start now bytes rest → Keeps now next → AppendsPart start next bytes
writing_stops start now next bytes rest some w k =
    let front : take (length w.done) bytes ≡ w.done = rw w.split (take-append_seam w.done rest) in
    (length w.done, rw w.split (omega (arith, length-append w.done rest)), rw front (appends_kept start now next w.done w.held k))

-- where contents are told, these bytes and then what is left are those of the name
pub record Reading (contents : Option Contents) (name got : List ℕ) (left : Option (List ℕ)) : Type 0 where
  pub told : Tells contents name (λ bytes. Consumes (Some bytes) left got)

some_and : (P Q : List ℕ → Type 0) (o : Option (List ℕ)) → ((bytes : List ℕ) → P bytes → Q bytes) → IsSomeAnd o P → IsSomeAnd o Q
some_and P Q None f h = absurd h
some_and P Q (Some bytes) f h = f bytes h

tells : (P Q : List ℕ → Type 0) (contents : Option Contents) (name : List ℕ) → ((bytes : List ℕ) → P bytes → Q bytes) → Tells contents name P → Tells contents name Q
tells P Q None name f h = tt
tells P Q (Some contents) name f h = some_and P Q (contents name) f h

consumes_more : (bytes : List ℕ) (left next : Option (List ℕ)) (got chunk : List ℕ) → Consumes (Some bytes) left got → Consumes left next chunk → Consumes (Some bytes) next (got ++ chunk)
consumes_more bytes None next got chunk a b = absurd a
consumes_more bytes (Some xs) None got chunk a b = absurd b
consumes_more bytes (Some xs) (Some ys) got chunk a b = rw (a, b) (sym (append_assoc got chunk ys))

consumes_all : (bytes : List ℕ) (left : Option (List ℕ)) (got : List ℕ) → Consumes (Some bytes) left got → IsAtEnd left → bytes ≡ got
consumes_all bytes None got a end = absurd a
consumes_all bytes (Some xs) got a end = rw (a, end) (append-nil got)

consumes_within : (bytes : List ℕ) (left : Option (List ℕ)) (got : List ℕ) (n : ℕ) → n < length got → Consumes (Some bytes) left got → n < length bytes
consumes_within bytes None got n above a = absurd a
consumes_within bytes (Some xs) got n above a = rw a (omega (arith, length-append got xs))

opened : (bytes : List ℕ) (left : Option (List ℕ)) → left ≡ Some bytes → Consumes (Some bytes) left []
opened bytes left e = rw e refl

pub reading_begins : (contents : Option Contents) (name : List ℕ) (left : Option (List ℕ)) → Opens contents name left → Reading contents name [] left
reading_begins contents name left h = record { told = tells _ _ contents name (λ bytes. opened bytes left) h }

pub reading_goes_on : (contents : Option Contents) (name got : List ℕ) (left next : Option (List ℕ)) (chunk : List ℕ) → Reading contents name got left → Consumes left next chunk → Reading contents name (got ++ chunk) next
reading_goes_on contents name got left next chunk r took = record { told = tells _ _ contents name (λ bytes a. consumes_more bytes left next got chunk a took) r.told }

pub reading_ends : (contents : Option Contents) (name got : List ℕ) (left next : Option (List ℕ)) → Reading contents name got left → Consumes left next [] → IsAtEnd next → Tells contents name (λ held. held ≡ got)
reading_ends contents name got left next r took end = tells _ _ contents name (λ bytes a. rw (← append-nil got) (consumes_all bytes next (got ++ []) (consumes_more bytes left next got [] a took) end)) r.told

pub reading_passes : (contents : Option Contents) (name got : List ℕ) (left next : Option (List ℕ)) (chunk : List ℕ) (n : ℕ) → n < length (got ++ chunk) → Reading contents name got left → Consumes left next chunk → Tells contents name (λ held. n < length held)
reading_passes contents name got left next chunk n above r took = tells _ _ contents name (λ bytes a. consumes_within bytes next (got ++ chunk) n above (consumes_more bytes left next got chunk a took)) r.told

-- over some calls of one name, none of which failed: the count hasn't fallen; where it became greater the name is blamed,
-- else as before
pub record Blaming (start now : ℕ) (name before last : Option (List ℕ)) : Type 0 where
  pub later : start ≤ now
  pub risen : start < now → last ≡ name
  pub kept : now ≡ start → last ≡ before

le_cases : (m n : ℕ) → m ≤ n → (m < n) ⊎ (n ≡ m)
le_cases m n h = elim (cases_lt m n) [ inl below ↦ inl below | inr above ↦ inr (omega arith) ]

pub blaming_begins : (start : ℕ) (name before : Option (List ℕ)) → Blaming start start name before before
blaming_begins start name before = record { later = omega arith; risen = λ above. absurd (omega (arith, above)); kept = λ same. refl }

pub blaming_goes_on : {T E : Type 0} (start now next : ℕ) (name called before last latest : Option (List ℕ)) (result : Result T E) → IsOk result → called ≡ name → Blaming start now name before last → HasCause now next result → Blames now next result called last latest → Blaming start next name before latest
blaming_goes_on start now next name called before last latest (Err e) ok same b cause blame = absurd (cc)
blaming_goes_on start now next name called before last latest (Ok v) ok same b cause blame = record {
  later = omega (arith, b.later, cause.later);
  risen = λ above. elim (le_cases now next cause.later) [
    | inl rose ↦ blame.risen rose ∙ same
    | inr stayed ↦ blame.kept stayed ∙ b.risen (omega (arith, stayed, above))
  ];
  kept = λ stayed. let still : next ≡ now = omega (arith, b.later, cause.later, stayed) in
      blame.kept still ∙ b.kept (omega (arith, still, stayed));
}

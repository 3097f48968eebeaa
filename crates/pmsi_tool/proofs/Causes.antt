-- From the causes of an answer to the clauses of a call.
use Rattle.std.proofs.Common.{◌≡◌, ◌∙◌, ◌⊎◌, inl, inr, ap, sym, subst, refl, ℕ, List, [], true, false}
use Rattle.std.specs.Prelude.{Option, Some, None, IsSome, unwrap_or, ⊤, Result, Ok, Err, IfOk, IfErr}
use Rattle.pmsi_model.specs.Job.{JobValue, IsJob}
use Rattle.pmsi_outside.specs.Files.{Contents}
use Rattle.coherence_laws.proofs.Exports.{stays_coherent}
use Rattle.latest_laws.proofs.Exports.{always_reads_latest}
use Rattle.waiting_laws.proofs.Exports.{always_bounded}
use Rattle.tool_words.specs.Meaning.{AskedValue, meaning}
use Rattle.tool_files.specs.declared.refusal.Detail.{Detail}
use Rattle.tool_files.specs.declared.refusal.Place.{Place}
use Rattle.tool_files.specs.declared.refusal.Stop.{Stop}
use Rattle.tool_files.specs.declared.refusal.Stop.TheVariants as stop
use Rattle.tool_files.specs.Course.{Step, opens, refuses, gives, IsEnd}
use Rattle.tool_files.specs.Ordered.{Helds, Follows, IsNext, IsResultOf, IsRefused}
use Rattle.tool_files.specs.Stops.{FilesCall}
use Rattle.tool_files.proofs.Exports.{one_end, comes_read, read_comes}
use Rattle.pmsi_tool.specs.declared.complaint.Complaint.{Complaint}
use Rattle.pmsi_tool.specs.declared.complaint.Complaint.TheVariants.{Usage, Stopped}
use Rattle.pmsi_tool.specs.declared.ToolStatus.{ToolStatus}
use Rattle.pmsi_tool.specs.declared.ToolStatus.TheVariants as status
use Rattle.pmsi_tool.specs.Calls.{Call, meaning_for, serves, where_served}
use Rattle.pmsi_tool.specs.Answers.{ComplainsOn, IsFaithful, Gives, GivesText, Refuses, IsUnasked, Stands, StopsOn}
use Rattle.pmsi_tool.specs.Lines.{refused_line}
use Rattle.pmsi_tool.specs.Statuses.{SinkCall, GrowsBy, ErrFails, Holds, IsRefusal, IsTold, RefusesAlways, TakesAccepted, status_of}

pub faithful : (job : JobValue) → IsJob job → IsFaithful job
faithful job is = record {
  coherent = λ slot _. stays_coherent job is slot;
  latest = always_reads_latest job is;
  waits = always_bounded job is;
}

-- ---- what a call serves

served : (call : Call) (words : List (List ℕ)) (asked : AskedValue) → meaning words ≡ Some asked → serves call asked ≡ true → meaning_for call words ≡ Some asked
served call words asked means is = ap (where_served call) means ∙ rw is refl

unserved : (call : Call) (words : List (List ℕ)) (asked : AskedValue) → meaning words ≡ Some asked → serves call asked ≡ false → meaning_for call words ≡ None
unserved call words asked means is = ap (where_served call) means ∙ rw is refl

pub unasked : (call : Call) (words : List (List ℕ)) (files : FilesCall) (said : Complaint) → IsUnasked words said → Stands call words files said
unasked call words files Usage none = ap (where_served call) none
unasked call words files (Stopped stop.ReadFault) is = absurd (cc)
unasked call words files (Stopped (stop.Refused place detail)) is = absurd (cc)
unasked call words files (Stopped stop.NoMemory) is = tt

-- ---- what a command comes to, by the bytes that it read

module _ (call : Call) (words : List (List ℕ)) (asked : AskedValue) (means : meaning words ≡ Some asked) where
  gives_from : (contents : Option Contents) (text : List ℕ) → serves call asked ≡ true → GivesText contents asked text → Gives call words contents text
  gives_from contents text is given =
      let read = comes_read contents asked (gives text) given.comes in
      record { asked = asked; means = served call words asked means is; helds = read.0; follows = read.1; is_result = read.2; faithful = given.faithful }

  stands_from : (files : FilesCall) (said : Stop) → serves call asked ≡ true → StopsOn asked files said → Stands call words files (Stopped said)
  stands_from files stop.ReadFault is stops =
      let read = comes_read files.contents asked (opens stops.name) stops.opened in
      record { asked = asked; means = served call words asked means is; helds = read.0; follows = read.1; name = stops.name; opened = read.2; rose = stops.rose; blame = stops.blame }
  stands_from files (stop.Refused place detail) is stops =
      let read = comes_read files.contents asked (refuses place detail) stops in
      record { asked = asked; means = served call words asked means is; helds = read.0; follows = read.1; is_refused = read.2 }
  stands_from files stop.NoMemory is stops = tt

  complains_from : (files : FilesCall) (said : Complaint) → ComplainsOn call asked files said → Stands call words files said
  complains_from files Usage not_served = unserved call words asked means not_served
  complains_from files (Stopped said) stops = stands_from files said stops.0 stops.1

  pub given : {T E : Type 0} (contents : Option Contents) (r : Result T E) (bytes : T → List ℕ)
      → IfOk r (λ _. serves call asked ≡ true) → IfOk r (λ text. GivesText contents asked (bytes text)) → IfOk r (λ text. Gives call words contents (bytes text))
  given contents (Ok text) bytes is comes = gives_from contents (bytes text) is comes
  given contents (Err error) bytes is comes = tt

  pub complained : {T : Type 0} (files : FilesCall) (r : Result T Complaint) → IfErr r (ComplainsOn call asked files) → IfErr r (Stands call words files)
  complained files (Ok text) stops = tt
  complained files (Err said) stops = complains_from files said stops

-- ---- where contents are told, a call has one end

same_some : {A : Type 0} (x y : A) → ◌≡◌ {A = Option A} (Some x) (Some y) → x ≡ y
same_some x y e = ap (λ o. unwrap_or o x) e

same_end : (contents : Option Contents) (asked : AskedValue) (helds others : Helds) (step end : Step (List ℕ)) → IsSome contents → Follows contents asked [] helds → Follows contents asked [] others → IsEnd step → IsEnd end
    → IsNext None asked helds step → IsNext None asked others end → step ≡ end
same_end None asked helds others step end told f g e h comes goes = absurd (cc)
same_end (Some contents) asked helds others step end told f g e h comes goes =
    one_end contents asked step end e h (read_comes (Some contents) asked helds step f comes) (read_comes (Some contents) asked others end g goes)

module _ (call : Call) (words : List (List ℕ)) (contents : Option Contents) (asked : AskedValue) (helds : Helds) (holds : Holds call words contents asked helds) where
  -- two ends of one call
  ends_alike : (other : AskedValue) (others : Helds) (step end : Step (List ℕ)) → meaning_for call words ≡ Some other → Follows contents other [] others → IsEnd step → IsEnd end
      → IsNext None other others step → IsNext None asked helds end → step ≡ end
  ends_alike other others step end means follows e h comes goes =
      let same : other ≡ asked = same_some other asked (sym means ∙ holds.means) in
      same_end contents asked others helds step end holds.told (subst (λ (a : AskedValue). Follows contents a [] others) same follows) holds.follows e h
      (subst (λ (a : AskedValue). IsNext None a others step) same comes) goes

  text_in : List ℕ → Step (List ℕ) → List ℕ
  text_in other (gives text) = text
  text_in other step = other

  is_text : Step (List ℕ) → Type 0
  is_text (gives text) = ⊤
  is_text step = ⊥

  pub same_text : (text other : List ℕ) → Gives call words contents other → IsResultOf asked helds text → other ≡ text
  unfolding text_in
  same_text text other given is = ap (text_in text) (ends_alike given.asked given.helds (gives other) (gives text) given.means given.follows tt tt given.is_result is)

  pub no_text : (text : List ℕ) (place : Place) (detail : Detail) → Gives call words contents text → IsRefused asked helds place detail → ⊥
  unfolding is_text
  no_text text place detail given is = subst is_text (ends_alike given.asked given.helds (gives text) (refuses place detail) given.means given.follows tt tt given.is_result is) tt

  no_refusal : (text : List ℕ) (place : Place) (detail : Detail) → Refuses call words contents place detail → IsResultOf asked helds text → ⊥
  unfolding is_text
  no_refusal text place detail refused is = subst is_text (sym (ends_alike refused.asked refused.helds (refuses place detail) (gives text) refused.means refused.follows tt tt refused.is_refused is)) tt

  line_in : Step (List ℕ) → List ℕ
  line_in (refuses place detail) = refused_line place detail
  line_in step = []

  same_refusal : (place at : Place) (detail said : Detail) → Refuses call words contents at said → IsRefused asked helds place detail → refused_line at said ≡ refused_line place detail
  unfolding line_in
  same_refusal place at detail said refused is = ap line_in (ends_alike refused.asked refused.helds (refuses at said) (refuses place detail) refused.means refused.follows tt tt refused.is_refused is)

  no_usage : meaning_for call words ≡ None → ⊥
  no_usage none = absurd (cc)

-- ---- a complaint

module _ (call : Call) (words : List (List ℕ)) (files : FilesCall) (result : ToolStatus) (err : SinkCall) where
  -- where files are accepted
  complete_told : (out : SinkCall) (said : Complaint) → Stands call words files said → IsTold result err said → TakesAccepted call words files.contents out result
  complete_told out Usage stands told asked helds text holds is = absurd (no_usage call words files.contents asked helds holds stands)
  complete_told out (Stopped stop.ReadFault) stands (inl told) asked helds text holds is = inr (inr (inl told.0))
  complete_told out (Stopped (stop.Refused place detail)) stands (inl told) asked helds text holds is = absurd (no_refusal call words files.contents asked helds holds text place detail stands is)
  complete_told out (Stopped stop.NoMemory) stands (inl told) asked helds text holds is = inr (inl told.0)
  complete_told out said stands (inr told) asked helds text holds is = inr (inr (inr told.0))

  pub complete_complaint : (out : SinkCall) (said : Complaint) → Stands call words files said → IsTold result err said ⊎ IsTold result err (Stopped stop.NoMemory) → TakesAccepted call words files.contents out result
  complete_complaint out said stands (inl told) = complete_told out said stands told
  complete_complaint out said stands (inr told) = complete_told out (Stopped stop.NoMemory) tt told

  -- where they are refused
  refused_told : (out : SinkCall) (said : Complaint) → Stands call words files said → IsTold result err said → RefusesAlways call words files out err result
  refused_told out said stands (inr told) asked helds place detail holds is still out_still quiet = absurd (quiet told.1.0)
  refused_told out Usage stands (inl told) asked helds place detail holds is still out_still quiet = absurd (no_usage call words files.contents asked helds holds stands)
  refused_told out (Stopped stop.ReadFault) stands (inl told) asked helds place detail holds is still out_still quiet = absurd (still stands.rose)
  refused_told out (Stopped (stop.Refused at found)) stands (inl told) asked helds place detail holds is still out_still quiet =
      inl (told.0, subst (λ (l : List ℕ). GrowsBy err l) (same_refusal call words files.contents asked helds holds place at detail found stands is) told.1)
  refused_told out (Stopped stop.NoMemory) stands (inl told) asked helds place detail holds is still out_still quiet = inr told.0

  pub refused_complaint : (out : SinkCall) (said : Complaint) → Stands call words files said → IsTold result err said ⊎ IsTold result err (Stopped stop.NoMemory) → RefusesAlways call words files out err result
  refused_complaint out said stands (inl told) = refused_told out said stands told
  refused_complaint out said stands (inr told) = refused_told out (Stopped stop.NoMemory) tt told

  -- and that is told
  refusal_told : (said : Complaint) → result ≡ status.Refused → Stands call words files said → IsTold result err said → IsRefusal call words files.contents err
  refusal_told Usage is stands (inl told) = absurd (cc)
  refusal_told (Stopped stop.ReadFault) is stands (inl told) = absurd (cc)
  refusal_told (Stopped (stop.Refused place detail)) is stands (inl told) = (place, detail, stands, told.1)
  refusal_told (Stopped stop.NoMemory) is stands (inl told) = absurd (cc)
  refusal_told said is stands (inr told) = absurd (cc)

  pub refusal_complaint : (said : Complaint) → result ≡ status.Refused → Stands call words files said → IsTold result err said ⊎ IsTold result err (Stopped stop.NoMemory) → IsRefusal call words files.contents err
  refusal_complaint said is stands (inl told) = refusal_told said is stands told
  refusal_complaint said is stands (inr told) = refusal_told (Stopped stop.NoMemory) is tt told

  no_fault : (said : Complaint) → status_of said ≡ status.WriteFault → ⊥
  no_fault Usage e = absurd (cc)
  no_fault (Stopped stop.ReadFault) e = absurd (cc)
  no_fault (Stopped (stop.Refused place detail)) e = absurd (cc)
  no_fault (Stopped stop.NoMemory) e = absurd (cc)

  fault_told : (said : Complaint) → result ≡ status.WriteFault → Stands call words files said → IsTold result err said → ErrFails call words files err
  fault_told said is stands (inl told) = absurd (no_fault said (sym told.0 ∙ is))
  fault_told said is stands (inr told) = record { complaint = said; stands = stands; failed = told.1 }

  pub fault_complaint : (said : Complaint) → result ≡ status.WriteFault → Stands call words files said → IsTold result err said ⊎ IsTold result err (Stopped stop.NoMemory) → ErrFails call words files err
  fault_complaint said is stands (inl told) = fault_told said is stands told
  fault_complaint said is stands (inr told) = fault_told (Stopped stop.NoMemory) is tt told

-- ---- a result

module _ (call : Call) (words : List (List ℕ)) (contents : Option Contents) (result : ToolStatus) (out : SinkCall) (text : List ℕ) (given : Gives call words contents text) where
  pub complete_text : (result ≡ status.Done) ⊎ (result ≡ status.WriteFault) → (result ≡ status.Done → GrowsBy out text) → TakesAccepted call words contents out result
  complete_text (inl done) writes asked helds other holds is = inl (done, subst (λ (t : List ℕ). GrowsBy out t) (same_text call words contents asked helds holds other text given is) (writes done))
  complete_text (inr fault) writes asked helds other holds is = inr (inr (inr fault))

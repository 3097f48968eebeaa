-- What the words and the files of a call give: a result, a refusal, or a file that can't be read. The bytes of the files are
-- those that were read, in the order in which the command opens them; where contents are told, they are these.
use Rattle.std.specs.Prelude.{◌≡◌, ℕ, ◌≤◌, ⊤, List, [], Option, Some, None, true, false}
use Rattle.pmsi_model.specs.declared.Keep.{Keep}
use Rattle.pmsi_model.specs.Job.{JobValue}
use Rattle.pmsi_model.specs.Run.{machine_at}
use Rattle.pmsi_model.specs.Listing.{listing_of}
use Rattle.pmsi_model.specs.Coherent.{IsCoherent}
use Rattle.pmsi_model.specs.Latest.{ReadsLatestWrite}
use Rattle.pmsi_model.specs.Waiting.{WaitsAreBounded}
use Rattle.pmsi_outside.specs.Causes.{Rose}
use Rattle.pmsi_outside.specs.Files.{Contents}
use Rattle.tool_words.specs.Meaning.{AskedValue, run, sim, trace, asm, dis, image, gen, debug, meaning}
use Rattle.tool_files.specs.declared.refusal.Detail.{Detail}
use Rattle.tool_files.specs.declared.refusal.Place.{Place}
use Rattle.tool_files.specs.declared.refusal.Stop.{Stop}
use Rattle.tool_files.specs.declared.refusal.Stop.TheVariants.{ReadFault, Refused, NoMemory}
use Rattle.tool_files.specs.Course.{gives, ends, job_file, Comes}
use Rattle.tool_files.specs.Ordered.{Helds, Follows, Opens, IsResultOf, IsRefused}
use Rattle.tool_files.specs.Stops.{FilesCall, Stops}
use Rattle.pmsi_tool.specs.declared.complaint.Complaint.{Complaint}
use Rattle.pmsi_tool.specs.declared.complaint.Complaint.TheVariants.{Usage, Stopped}
use Rattle.pmsi_tool.specs.Calls.{Call, meaning_for, serves}

-- ---- the machine of a job

-- what holds of the written machine of a job, up to its slots: it is coherent at every slot boundary, every read takes the
-- latest write in bus order, and what is left for a request and its age are within the bound together
pub record IsFaithful (job : JobValue) : Type 0 where
  pub coherent : (slot : ℕ) → slot ≤ job.shape.slots → IsCoherent job.shape (machine_at job slot)
  pub latest : ReadsLatestWrite job
  pub waits : WaitsAreBounded job

-- the files of a name give this job, the text is its listing, and its machine is faithful
pub record IsRun (contents : Option Contents) (keep : Keep) (name text : List ℕ) : Type 0 where
  pub job : JobValue
  pub read : job_file contents keep name ends (gives job)
  pub listing : text ≡ listing_of job keep
  pub faithful : IsFaithful job

-- where a job is run, on one thread or on several
abbrev pub RunsFaithfully : Option Contents → AskedValue → List ℕ → Type 0
RunsFaithfully contents (run keep name) text = IsRun contents keep name text
RunsFaithfully contents (sim workers keep name) text = IsRun contents keep name text
RunsFaithfully contents (trace name) text = ⊤
RunsFaithfully contents (asm name) text = ⊤
RunsFaithfully contents (dis name) text = ⊤
RunsFaithfully contents (image name) text = ⊤
RunsFaithfully contents (gen seed cores slots runs) text = ⊤
RunsFaithfully contents (debug job script) text = ⊤

-- ---- answers

-- the words ask something of the call, and the text is its result on these bytes of its files; a machine that is run is faithful
pub record Gives (call : Call) (words : List (List ℕ)) (contents : Option Contents) (text : List ℕ) : Type 0 where
  pub asked : AskedValue
  pub means : meaning_for call words ≡ Some asked
  pub helds : Helds
  pub follows : Follows contents asked [] helds
  pub is_result : IsResultOf asked helds text
  pub faithful : RunsFaithfully contents asked text

-- the words ask something of the call that is refused on these bytes of its files
pub record Refuses (call : Call) (words : List (List ℕ)) (contents : Option Contents) (place : Place) (detail : Detail) : Type 0 where
  pub asked : AskedValue
  pub means : meaning_for call words ≡ Some asked
  pub helds : Helds
  pub follows : Follows contents asked [] helds
  pub is_refused : IsRefused asked helds place detail

-- the words ask something of the call that opens a name behind files of these bytes; the count of the files' faults rose, and
-- this name is blamed
pub record IsUnread (call : Call) (words : List (List ℕ)) (files : FilesCall) : Type 0 where
  pub asked : AskedValue
  pub means : meaning_for call words ≡ Some asked
  pub helds : Helds
  pub follows : Follows files.contents asked [] helds
  pub name : List ℕ
  pub opened : Opens asked helds name
  pub rose : Rose files.before files.now
  pub blame : files.blamed ≡ Some name

-- the cause of a complaint stands; want of memory needs none
abbrev pub Stands : Call → List (List ℕ) → FilesCall → Complaint → Type 0
Stands call words files Usage = meaning_for call words ≡ None
Stands call words files (Stopped ReadFault) = IsUnread call words files
Stands call words files (Stopped (Refused place detail)) = Refuses call words files.contents place detail
Stands call words files (Stopped NoMemory) = ⊤

-- ---- in terms of courses

-- what is asked for comes to this text, and a machine that is run is faithful
pub record GivesText (contents : Option Contents) (asked : AskedValue) (text : List ℕ) : Type 0 where
  pub comes : Comes contents asked (gives text)
  pub faithful : RunsFaithfully contents asked text

-- why what is asked for comes to no result
abbrev pub StopsOn : AskedValue → FilesCall → Stop → Type 0
StopsOn asked files stop = Stops (Comes files.contents asked) files stop

-- why a call gives no result of what is asked for
abbrev pub ComplainsOn : Call → AskedValue → FilesCall → Complaint → Type 0
ComplainsOn call asked files Usage = serves call asked ≡ false
ComplainsOn call asked files (Stopped stop) = (serves call asked ≡ true) × StopsOn asked files stop

-- why words by themselves ask for nothing that can be done
abbrev pub IsUnasked : List (List ℕ) → Complaint → Type 0
IsUnasked words Usage = meaning words ≡ None
IsUnasked words (Stopped stop) = stop ≡ NoMemory

-- What each state of a line means, in words of the machine alone, and that these meanings tell every line's state.
use Rattle.std.specs.Prelude.{◌≡◌, ◌≢◌, ℕ, ◌<◌, true, false, Some, None}
use Rattle.pmsi_model.specs.declared.Kind.{Kind}
use Rattle.pmsi_model.specs.declared.Kind.TheVariants.{Read, Write}
use Rattle.pmsi_model.specs.declared.Mode.{Mode}
use Rattle.pmsi_model.specs.declared.Mode.TheVariants.{Shared, Modified}
use Rattle.pmsi_model.specs.declared.State.{State}
use Rattle.pmsi_model.specs.declared.State.TheVariants.{I, S, M, ISD, ISDI, IMD, IMDS, IMDI, SMW, SMWS, MSWB, MIWB}
use Rattle.pmsi_model.specs.Job.{JobValue, IsJob}
use Rattle.pmsi_model.specs.Machine.{Machine, mode_in, has_line, has_request, has_write, request_of}
use Rattle.pmsi_model.specs.Bus.{keeps_line}
use Rattle.pmsi_model.specs.Named.{behind_of, state_of}
use Rattle.pmsi_model.specs.Run.{after_phases, machine_at}

-- ---- the words of the meanings

-- core c holds the line in this mode
abbrev pub Holds : Mode → Machine → ℕ → ℕ → Type 0
Holds mode x c line = mode_in x c line ≡ Some mode

abbrev pub HoldsNot : Machine → ℕ → ℕ → Type 0
HoldsNot x c line = mode_in x c line ≡ None

-- core c has posted a request of this kind for the line
abbrev pub HasPosted : Kind → Machine → ℕ → ℕ → Type 0
HasPosted kind x c line = request_of c x.posted ≡ Some (record { core = c; line = line; kind = kind })

-- core c has posted no request for the line
abbrev pub HasNotPosted : Machine → ℕ → ℕ → Type 0
HasNotPosted x c line = (kind : Kind) → request_of c x.posted ≢ Some (record { core = c; line = line; kind = kind })

-- a write of the line was posted after core c's request
abbrev pub WriteIsBehind : Machine → ℕ → ℕ → Type 0
WriteIsBehind x c line = has_write line (behind_of c x.posted) ≡ true

-- requests for the line were posted after core c's, and all of them are reads
abbrev pub ReadsAreBehind : Machine → ℕ → ℕ → Type 0
ReadsAreBehind x c line = (has_request line (behind_of c x.posted) ≡ true) × (has_write line (behind_of c x.posted) ≡ false)

-- no write of the line was posted after core c's request
abbrev pub NoWriteIsBehind : Machine → ℕ → ℕ → Type 0
NoWriteIsBehind x c line = has_write line (behind_of c x.posted) ≡ false

-- no request for the line was posted after core c's
abbrev pub NothingIsBehind : Machine → ℕ → ℕ → Type 0
NothingIsBehind x c line = has_request line (behind_of c x.posted) ≡ false

-- core c has the line in its write-back queue
abbrev pub Waits : Machine → ℕ → ℕ → Type 0
Waits x c line = has_line line (x.cores c).write_backs ≡ true

abbrev pub WaitsNot : Machine → ℕ → ℕ → Type 0
WaitsNot x c line = has_line line (x.cores c).write_backs ≡ false

-- a write-back of the line by core c, done now, would keep a shared copy
abbrev pub WouldKeep : Machine → ℕ → ℕ → Type 0
WouldKeep x c line = keeps_line x c line ≡ true

-- and this one would drop the copy
abbrev pub WouldDrop : Machine → ℕ → ℕ → Type 0
WouldDrop x c line = keeps_line x c line ≡ false

-- ---- the meanings

abbrev pub IsCase : State → Machine → ℕ → ℕ → Type 0
-- I: the core doesn't hold the line and has posted no request for it
IsCase I x c line = HoldsNot x c line × HasNotPosted x c line
-- S: the core holds the line shared and has posted no request for it
IsCase S x c line = Holds Shared x c line × HasNotPosted x c line
-- M: the core holds the line modified and hasn't to write it back
IsCase M x c line = Holds Modified x c line × WaitsNot x c line
-- ISD: the core has posted a read, and no write is behind it
IsCase ISD x c line = HasPosted Read x c line × NoWriteIsBehind x c line
-- ISDI: the core has posted a read, and a write is behind it
IsCase ISDI x c line = HasPosted Read x c line × WriteIsBehind x c line
-- IMD: the core has posted a write of a line that it doesn't hold, and nothing is behind it
IsCase IMD x c line = HasPosted Write x c line × HoldsNot x c line × NothingIsBehind x c line
-- IMDS: the core has posted a write of a line that it doesn't hold, and reads alone are behind it
IsCase IMDS x c line = HasPosted Write x c line × HoldsNot x c line × ReadsAreBehind x c line
-- IMDI: the core has posted a write, and a write is behind it
IsCase IMDI x c line = HasPosted Write x c line × WriteIsBehind x c line
-- SMW: the core has posted a write of a line that it holds shared, and nothing is behind it
IsCase SMW x c line = HasPosted Write x c line × Holds Shared x c line × NothingIsBehind x c line
-- SMWS: the core has posted a write of a line that it holds shared, and reads alone are behind it
IsCase SMWS x c line = HasPosted Write x c line × Holds Shared x c line × ReadsAreBehind x c line
-- MSWB: the core holds the line modified and has to write it back, which would keep a shared copy now
IsCase MSWB x c line = Holds Modified x c line × Waits x c line × WouldKeep x c line
-- MIWB: the core holds the line modified and has to write it back, which would drop the copy now
IsCase MIWB x c line = Holds Modified x c line × Waits x c line × WouldDrop x c line

-- ---- the law

-- a line in a core: its state's meaning holds, one meaning holds, and no two of different states do. Beside this the line of
-- a posted read isn't held, nor that of a posted write with a write behind it, and nothing is posted for an owned line
pub record IsNamed (x : Machine) (c line : ℕ) : Type 0 where
  pub meant : (s : State) → state_of x c line ≡ s → IsCase s x c line
  pub some : (s : State) × IsCase s x c line
  pub alone : (s t : State) → IsCase s x c line → IsCase t x c line → s ≡ t
  pub read_unheld : HasPosted Read x c line → HoldsNot x c line
  pub write_unheld : HasPosted Write x c line → WriteIsBehind x c line → HoldsNot x c line
  pub owned_unposted : Holds Modified x c line → HasNotPosted x c line

-- at each slot boundary, and when all cores have done their phases of the slot
abbrev pub StatesAreCases : Type 0
StatesAreCases = (job : JobValue) → IsJob job → (slot c line : ℕ) → c < job.shape.cores →
    IsNamed (machine_at job slot) c line × IsNamed (after_phases job (machine_at job slot)) c line

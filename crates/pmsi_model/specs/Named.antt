-- The named state of a line in a core: the three stable ones of MSI, and the transient ones of a request or a write-back on
-- its way. All are read off the machine; nothing of it is kept there. "Behind" means later in the line's queue than the
-- core's own request.
use Rattle.std.specs.Prelude.{ℕ, List, [], ◌∷◌, Bool, not, ◌==◌, ◌&&◌, Option, Some, None, if◌then◌else◌}
use Rattle.pmsi_model.specs.declared.Kind.{Kind}
use Rattle.pmsi_model.specs.declared.Kind.TheVariants.{Read, Write}
use Rattle.pmsi_model.specs.declared.Mode.{Mode}
use Rattle.pmsi_model.specs.declared.Mode.TheVariants.{Shared, Modified}
use Rattle.pmsi_model.specs.declared.State.{State}
use Rattle.pmsi_model.specs.declared.State.TheVariants.{I, S, M, ISD, ISDI, IMD, IMDS, IMDI, SMW, SMWS, MSWB, MIWB}
use Rattle.pmsi_model.specs.Machine.{Machine, CoreState, Request, mode_of, is_shared, has_line, has_request, has_write, request_of}
use Rattle.pmsi_model.specs.Bus.{has_victim_for}

-- the requests that were posted after the core's
unfoldable pub behind_of : ℕ → List Request → List Request
behind_of c [] = []
behind_of c (r ∷ rs) = if r.core == c then rs else behind_of c rs

-- what the core's request asks of the line, if it is for this line
abbrev pub asked_of : ℕ → Option Request → Option Kind
asked_of line None = None
asked_of line (Some r) = if r.line == line then Some r.kind else None

-- nothing is posted: the line isn't held, is held shared, or is held modified. In the last case it may have to be written
-- back, after which it stays shared or is dropped as things stand
abbrev pub stable_state : Option Mode → Bool → Bool → State
stable_state None waits stays = I
stable_state (Some Shared) waits stays = S
stable_state (Some Modified) waits stays = if waits then (if stays then MSWB else MIWB) else M

-- the core's request is posted: a read, with a write behind it or none; or a write, for a line that is held shared or isn't
-- held, with nothing behind it, with reads alone, or with a write
abbrev pub posted_state : Kind → Bool → Bool → Bool → State
posted_state Read shared behind write_behind = if write_behind then ISDI else ISD
posted_state Write shared behind write_behind =
    if write_behind then IMDI else (if shared then (if behind then SMWS else SMW) else (if behind then IMDS else IMD))

abbrev pub named : Option Kind → Option Mode → Bool → Bool → Bool → Bool → State
named None mode waits stays behind write_behind = stable_state mode waits stays
named (Some kind) mode waits stays behind write_behind = posted_state kind (is_shared mode) behind write_behind

-- a line that is written back stays shared where requests for it are queued, none of them a write, and it isn't the victim
abbrev pub stays_shared : List Request → CoreState → ℕ → Bool
stays_shared posted k line = has_request line posted && not (has_write line posted) && not (has_victim_for line k.want)

-- the state of a line in core c, by what is posted and by the core itself
unfoldable pub state_in : List Request → ℕ → CoreState → ℕ → State
state_in posted c k line =
    named (asked_of line (request_of c posted)) (mode_of line k.held) (has_line line k.write_backs) (stays_shared posted k line)
    (has_request line (behind_of c posted)) (has_write line (behind_of c posted))

abbrev pub state_of : Machine → ℕ → ℕ → State
state_of x c line = state_in x.posted c (x.cores c) line

-- The cells of the table, over plain values: what a line is asked for, its mode, whether it waits to be written back and would
-- stay shared then, and whether requests and writes are queued behind.
use Rattle.std.proofs.Common.{◌≡◌, ◌≢◌, Bool, true, false, not, ◌&&◌, ◌||◌, Option, Some, None, if◌then◌else◌, refl, arith}
use Rattle.pmsi_model.specs.declared.Kind.{Kind}
use Rattle.pmsi_model.specs.declared.Kind.TheVariants.{Read, Write}
use Rattle.pmsi_model.specs.declared.Mode.{Mode}
use Rattle.pmsi_model.specs.declared.Mode.TheVariants.{Shared, Modified}
use Rattle.pmsi_model.specs.Machine.{is_shared, is_modified, is_write}
use Rattle.pmsi_model.specs.Named.{named}
use Rattle.cache_ctrl.specs.declared.Event.TheVariants.{OwnFill, OwnBack, OtherGetS, OtherGetM}
use Rattle.cache_ctrl.specs.declared.Duty.TheVariants.{Nothing, Append, DropCopy}
use Rattle.cache_ctrl.specs.Table.{next_of}
use Rattle.cache_ctrl.specs.Duties.{other_event, own_event, other_duty}

-- the values of a line fit together; `seen` is whether the line would stay shared once another read is queued for it
pub record AreFit (asked : Option Kind) (mode : Option Mode) (waits stays seen write_behind : Bool) : Type 0 where
  pub fresh : mode ≡ Some Modified → waits ≡ false → seen ≡ true
  pub steady : waits ≡ true → seen ≡ stays
  pub unowned : asked ≢ None → mode ≢ Some Modified
  pub unheld : asked ≡ Some Read → mode ≡ None
  pub taken : asked ≢ None → write_behind ≡ true → mode ≢ Some Shared

-- ---- another core posts

-- nothing is posted by the core
cell_read : (mode : Option Mode) (waits stays seen b wb b' wb' : Bool) → AreFit None mode waits stays seen wb
    → next_of (named None mode waits stays b wb) OtherGetS ≡ Some (named None mode (is_modified mode || waits) seen b' wb', other_duty Read mode waits)
cell_read None waits stays seen b wb b' wb' f = refl
cell_read (Some Shared) waits stays seen b wb b' wb' f = refl
cell_read (Some Modified) waits stays seen b wb b' wb' f = grind (arith, f.fresh, f.steady)

cell_write : (mode : Option Mode) (waits stays b wb b' wb' : Bool)
    → next_of (named None mode waits stays b wb) OtherGetM
    ≡ Some (named None (if is_shared mode then None else mode) (is_modified mode || waits) false b' wb', other_duty Write mode waits)
cell_write None waits stays b wb b' wb' = refl
cell_write (Some Shared) waits stays b wb b' wb' = refl
cell_write (Some Modified) waits stays b wb b' wb' = grind arith

-- the core's request is posted
cell_behind_read : (kind : Kind) (mode : Option Mode) (waits stays seen b wb w' s' : Bool) → AreFit (Some kind) mode waits stays seen wb
    → next_of (named (Some kind) mode waits stays b wb) OtherGetS ≡ Some (named (Some kind) mode w' s' true wb, other_duty Read mode waits)
cell_behind_read Read mode waits stays seen b wb w' s' f = grind (arith, f.unheld)
cell_behind_read Write None waits stays seen b wb w' s' f = grind arith
cell_behind_read Write (Some Shared) waits stays seen b wb w' s' f = grind arith
cell_behind_read Write (Some Modified) waits stays seen b wb w' s' f = absurd (f.unowned (λ none. grind arith) refl)

cell_behind_write : (kind : Kind) (mode : Option Mode) (waits stays seen b wb w' s' b' : Bool) → AreFit (Some kind) mode waits stays seen wb
    → next_of (named (Some kind) mode waits stays b wb) OtherGetM
    ≡ Some (named (Some kind) (if is_shared mode then None else mode) w' s' b' true, other_duty Write mode waits)
cell_behind_write Read mode waits stays seen b wb w' s' b' f = grind (arith, f.unheld)
cell_behind_write Write None waits stays seen b wb w' s' b' f = grind arith
cell_behind_write Write (Some Shared) waits stays seen b wb w' s' b' f = grind (arith, f.taken)
cell_behind_write Write (Some Modified) waits stays seen b wb w' s' b' f = absurd (f.unowned (λ none. grind arith) refl)

-- in one
pub cell_other : (kind : Kind) (a : Option Kind) (mode : Option Mode) (waits stays seen b wb b' wb' : Bool) → AreFit a mode waits stays seen wb
    → (a ≢ None → b' ≡ true) → (a ≢ None → wb' ≡ (wb || is_write kind))
    → next_of (named a mode waits stays b wb) (other_event kind)
    ≡ Some (named a (if is_write kind && is_shared mode then None else mode) (is_modified mode || waits) (seen && not (is_write kind)) b' wb', other_duty kind mode waits)
cell_other Read None mode waits stays seen b wb b' wb' f more write = grind (arith, cell_read mode waits stays seen b wb b' wb' f)
cell_other Write None mode waits stays seen b wb b' wb' f more write = grind (arith, cell_write mode waits stays b wb b' wb')
cell_other Read (Some kind) mode waits stays seen b wb b' wb' f more write =
    grind (arith, more, write, cell_behind_read kind mode waits stays seen b wb (is_modified mode || waits) seen f)
cell_other Write (Some kind) mode waits stays seen b wb b' wb' f more write =
    grind (arith, more, write, cell_behind_write kind mode waits stays seen b wb (is_modified mode || waits) false b' f)

-- ---- the core itself

-- it writes back
pub cell_back : (stays b wb w' s' b' wb' : Bool)
    → next_of (named None (Some Modified) true stays b wb) OwnBack ≡ Some (named None (if stays then Some Shared else None) w' s' b' wb', if stays then Nothing else DropCopy)
cell_back true b wb w' s' b' wb' = refl
cell_back false b wb w' s' b' wb' = refl

-- it posts
cell_get_m : (mode : Option Mode) (waits stays b wb w' s' : Bool) → mode ≢ Some Modified
    → next_of (named None mode waits stays b wb) (own_event Write) ≡ Some (named (Some Write) mode w' s' false false, Nothing)
cell_get_m None waits stays b wb w' s' un = refl
cell_get_m (Some Shared) waits stays b wb w' s' un = refl
cell_get_m (Some Modified) waits stays b wb w' s' un = absurd (un refl)

pub cell_get : (kind : Kind) (mode : Option Mode) (waits stays b wb w' s' b' wb' : Bool) → (kind ≡ Read → mode ≡ None) → mode ≢ Some Modified → b' ≡ false → wb' ≡ false
    → next_of (named None mode waits stays b wb) (own_event kind) ≡ Some (named (Some kind) mode w' s' b' wb', Nothing)
cell_get Read mode waits stays b wb w' s' b' wb' read un none none' = rw (read refl) rw none' refl
cell_get Write mode waits stays b wb w' s' b' wb' read un none none' = rw none rw none' (cell_get_m mode waits stays b wb w' s' un)

-- its request is filled: what is left of the queue is what was behind
cell_fill_read : (mode : Option Mode) (waits stays b wb w' s' b' wb' : Bool) → mode ≡ None
    → next_of (named (Some Read) mode waits stays b wb) OwnFill ≡ Some (named None (if wb then mode else Some Shared) w' s' b' wb', Nothing)
cell_fill_read mode waits stays b wb w' s' b' wb' none = grind arith

cell_fill_write : (mode : Option Mode) (waits stays b wb b' wb' : Bool) → (wb ≡ true → b ≡ true)
    → next_of (named (Some Write) mode waits stays b wb) OwnFill ≡ Some (named None (Some Modified) b (b && not wb) b' wb', if b then Append else Nothing)
cell_fill_write mode waits stays b wb b' wb' more = grind arith

pub cell_fill : (kind : Kind) (mode mode' : Option Mode) (waits stays b wb w' s' b' wb' : Bool) → (kind ≡ Read → mode ≡ None) → (wb ≡ true → b ≡ true)
    → mode' ≡ (if is_write kind then Some Modified else (if wb then mode else Some Shared)) → (kind ≡ Write → w' ≡ b) → s' ≡ (b && not wb)
    → next_of (named (Some kind) mode waits stays b wb) OwnFill ≡ Some (named None mode' w' s' b' wb', if is_write kind && b then Append else Nothing)
cell_fill Read mode mode' waits stays b wb w' s' b' wb' none more is after kept = rw is (cell_fill_read mode waits stays b wb w' s' b' wb' (none refl))
cell_fill Write mode mode' waits stays b wb w' s' b' wb' none more is after kept = rw is rw (after refl) rw kept (cell_fill_write mode waits stays b wb b' wb' more)

-- ---- the same state

pub same_named : (a a' : Option Kind) (m m' : Option Mode) (w w' s s' b b' wb wb' : Bool) → a ≡ a' → m ≡ m' → w ≡ w' → s ≡ s' → b ≡ b' → wb ≡ wb'
    → named a m w s b wb ≡ named a' m' w' s' b' wb'
same_named a a' m m' w w' s s' b b' wb wb' ea em ew es eb ewb = rw ea rw em rw ew rw es rw eb rw ewb refl

-- a state in which nothing is posted doesn't depend on what is behind
pub same_state : (a a' : Option Kind) (m m' : Option Mode) (w w' s s' b b' wb wb' : Bool) → a' ≡ a → m' ≡ m → w' ≡ w → s' ≡ s
    → (a ≢ None → b' ≡ b) → (a ≢ None → wb' ≡ wb) → named a' m' w' s' b' wb' ≡ named a m w s b wb
same_state None a' m m' w w' s s' b b' wb wb' ea em ew es eb ewb = rw ea rw em rw ew rw es refl
same_state (Some kind) a' m m' w w' s s' b b' wb wb' ea em ew es eb ewb = rw ea rw em rw (eb (λ none. grind arith)) rw (ewb (λ none. grind arith)) refl

-- where nothing is asked and the line isn't owned, the state is that of the mode
pub plain_state : (m : Option Mode) (w w' s s' b b' wb wb' : Bool) → m ≢ Some Modified → named None m w' s' b' wb' ≡ named None m w s b wb
plain_state None w w' s s' b b' wb wb' un = refl
plain_state (Some Shared) w w' s s' b b' wb wb' un = refl
plain_state (Some Modified) w w' s s' b b' wb wb' un = absurd (un refl)

-- A core at its opening.
use Rattle.std.proofs.Common.{◌≡◌, ℕ, ◌*◌, ◌<◌, ◌≤◌, List, [], Bool, None, true, false, if◌then◌else◌, refl, ap, ◌∙◌, sym, subst, arith}
use Rattle.pmsi_model.specs.declared.job.Geometry.{Geometry}
use Rattle.pmsi_model.specs.declared.Row.{Row}
use Rattle.pmsi_model.specs.declared.Status.TheVariants.{Running}
use Rattle.pmsi_model.specs.declared.Touch.{Touch}
use Rattle.pmsi_model.specs.declared.Turn.TheVariants.{Request as RequestTurn}
use Rattle.pmsi_model.specs.Effect.{start_regs}
use Rattle.pmsi_model.specs.Job.{JobValue, IsJob, text_of}
use Rattle.pmsi_model.specs.Named.{behind_of, state_in}
use Rattle.pmsi_model.specs.Slots.{SlotPlan, own_slots, plain_plan, plan_of}
use Rattle.pmsi_model.specs.Run.{machine_at, start_of, touches_of}
use Rattle.pmsi_model.specs.Rows.{rows_of}
use Rattle.cache_ctrl.specs.declared.states.LineState.{LineState}
use Rattle.cache_array.specs.Cache.{CacheValue}
use Rattle.pend_buffers.specs.Pending.{PendingValue}
use Rattle.core_unit.specs.declared.state.State.{State}
use Rattle.core_unit.specs.Reserved.{Reserved}
use Rattle.core_unit.specs.Parts.{IsPart}

-- what a core is opened with
pub record Parts : Type 0 where
  pub plan : SlotPlan
  pub text : List ℕ
  pub regs : List ℕ
  pub cache : CacheValue
  pub pending : PendingValue
  pub states : List LineState
  pub rows : Reserved Row
  pub touches : Reserved Touch

-- a state before the first slot, by its parts
abbrev pub state_with : ℕ → Geometry → Bool → Parts → State
state_with c shape keeps p = record {
  number = c;
  shape = shape;
  plan = p.plan;
  text = p.text;
  slot = 0;
  phase_done = false;
  regs = p.regs;
  pc = 0;
  status = Running;
  retired = 0;
  cache = p.cache;
  pending = p.pending;
  states = p.states;
  rows = p.rows;
  keeps = keeps;
  touches = p.touches;
}

abbrev pub no_lines : Geometry → CacheValue
no_lines shape = record { shape = shape; lines = [] }

abbrev pub nothing_pending : Geometry → PendingValue
nothing_pending shape = record { cores = shape.cores; want = None; write_backs = []; turn = RequestTurn }

-- an empty list with room for so many items
abbrev pub room_for : (T : Type 0) → ℕ → Reserved T
room_for T room = record { items = []; room = room }

-- room is taken for all accesses that may come, where they are kept
abbrev pub RoomFor : Geometry → Bool → ℕ → Type 0
RoomFor shape keeps room = keeps ≡ true → shape.slots * shape.quantum ≤ room

-- the parts of a core before its first slot
abbrev pub parts_of : JobValue → ℕ → ℕ → ℕ → Parts
parts_of job c rows touches = record {
  plan = plan_of job;
  text = text_of job c;
  regs = start_regs c job.shape.cores;
  cache = no_lines job.shape;
  pending = nothing_pending job.shape;
  states = [];
  rows = room_for Row rows;
  touches = room_for Touch touches;
}

no_touches : (keeps : Bool) → (let none : List Touch = [] in none) ≡ (if keeps then [] else [])
no_touches true = refl
no_touches false = refl

opened : (job : JobValue) (c : ℕ) (keeps : Bool) (rows touches : ℕ) → IsJob job → c < job.shape.cores → own_slots (plan_of job) c job.shape.slots ≤ rows → RoomFor job.shape keeps touches →
    IsPart job 0 c (state_with c job.shape keeps (parts_of job c rows touches))
unfolding machine_at start_of rows_of touches_of state_in behind_of
opened job c keeps rows touches is below many room = record {
  in_slot = record {
    stands = record {
      carries = record {
        within = is;
        below = below;
        number = refl;
        shape = refl;
        plan = refl;
        cache = refl;
        cores = refl;
        text = refl;
        bytes = is.start;
        small = is.bytes;
        agree = record {
          words = λ line place inside held. absurd (held refl);
          sizes = λ line held. absurd (held refl);
          within = λ line held. absurd (held refl);
        };
        want = λ want none. absurd (grind arith);
      };
      core = refl;
    };
    knows = record { names = λ line. refl; once = tt };
    now = refl;
    within = omega arith;
    rows = record { rows = refl; few = omega arith; room = many };
  };
  fresh = refl;
  touches = record { touches = no_touches keeps; few = omega arith; room = room; retired = omega arith };
}

-- as the code opens a core
pub opened_by : (job : JobValue) (c rows touches : ℕ) (keeps : Bool) (shape : Geometry) (p : Parts) → IsJob job → c < job.shape.cores → shape ≡ job.shape →
    p ≡ parts_of job c rows touches → rows ≡ own_slots p.plan c shape.slots → RoomFor shape keeps touches → IsPart job 0 c (state_with c shape keeps p)
opened_by job c rows touches keeps shape p is below same parts counted room =
    let all : rows ≡ own_slots (plan_of job) c job.shape.slots =
    counted ∙ ap (λ (q : Parts). own_slots q.plan c shape.slots) parts ∙ ap (λ (g : Geometry). own_slots (plan_of job) c g.slots) same in
    subst (IsPart job 0 c) (sym (ap (λ (g : Geometry). state_with c g keeps p) same ∙ ap (state_with c job.shape keeps) parts))
    (opened job c keeps rows touches is below (omega arith) (subst (λ (g : Geometry). RoomFor g keeps touches) same room))

-- the parts as the code makes them
pub parts_by : (job : JobValue) (c rows touches : ℕ) (shape : Geometry) (plan : SlotPlan) (text regs : List ℕ) (cache : CacheValue) (pending : PendingValue) (states : List LineState)
    (served : Reserved Row) (done : Reserved Touch) → shape ≡ job.shape → plan ≡ plain_plan shape.cores → text ≡ text_of job c → regs ≡ start_regs c shape.cores
    → cache ≡ no_lines shape → pending ≡ nothing_pending shape → states ≡ [] → served ≡ room_for Row rows → done ≡ room_for Touch touches
    → (let p : Parts = record { plan = plan; text = text; regs = regs; cache = cache; pending = pending; states = states; rows = served; touches = done } in p)
    ≡ parts_of job c rows touches
parts_by job c rows touches shape plan text regs cache pending states served done s l t r m n k w d = rw (l, t, r, m, n, k, w, d, s) refl

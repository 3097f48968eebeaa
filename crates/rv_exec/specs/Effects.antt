-- What `exec` answers and the registers that it leaves, read as an effect of the written machine.
use Rattle.std.specs.Prelude.{◌≡◌, ℕ, ◌%◌, ◌^◌, ◌<◌, List}
use Rattle.pmsi_model.specs.declared.Access.{Access}
use Rattle.pmsi_model.specs.declared.AccessOp.{AccessOp}
use Rattle.pmsi_model.specs.declared.AccessOp.TheVariants.{Load, Store, Amo}
use Rattle.pmsi_model.specs.Access.{width_of}
use Rattle.pmsi_model.specs.Effect as model
use Rattle.rv_exec.specs.declared.effect.Effect.{Effect}
use Rattle.rv_exec.specs.declared.effect.Effect.TheVariants.{Next, Memory, Stop}

-- the effect that an answer and the registers beside it are
abbrev pub effect_with : Effect → List ℕ → model.Effect
effect_with (Next pc) regs = model.Next regs pc
effect_with (Memory access) regs = model.Memory access
effect_with (Stop halt) regs = model.Stop halt

-- registers are written only where the instruction goes on
abbrev pub WritesOnlyOnNext : Effect → List ℕ → List ℕ → Type 0
WritesOnlyOnNext (Next pc) old new = Unit {0}
WritesOnlyOnNext (Memory access) old new = new ≡ old
WritesOnlyOnNext (Stop halt) old new = new ≡ old

-- only a store has no register to write
abbrev pub NamesRegister : AccessOp → ℕ → Type 0
NamesRegister (Load op) rd = rd < 32
NamesRegister (Store op) rd = rd ≡ 0
NamesRegister (Amo op) rd = rd < 32

-- an access to a memory of so many bytes: its address is a multiple of its width, and within memory
pub record IsAccessTo (memory : ℕ) (access : Access) : Type 0 where
  pub aligned : access.address % width_of access.op ≡ 0
  pub within : access.address < memory
  pub operand : access.operand < 2 ^ 32
  pub register : NamesRegister access.op access.rd

-- what is asked for is an access to memory
abbrev pub AsksFor : ℕ → Effect → Type 0
AsksFor memory (Next pc) = Unit {0}
AsksFor memory (Memory access) = IsAccessTo memory access
AsksFor memory (Stop halt) = Unit {0}

-- Made plans: a seed gives the words of each core's program.
use Rattle.std.specs.Prelude.{ℕ, zero, suc, ◌+◌, ◌*◌, ◌/◌, ◌%◌, ◌^◌, List, [], ◌∷◌, ◌++◌, map, slice_index}
use Rattle.std.specs.List.{flat_map, range_with_len}
use Rattle.pmsi_model.specs.declared.job.Geometry.{Geometry}
use Rattle.job_text.specs.declared.plan.JobPlan.{JobPlan}
use Rattle.job_text.specs.declared.plan.Program.{Program}
use Rattle.job_text.specs.declared.plan.Program.TheVariants.{Words}

-- ---- draws

-- The state is a number of 64 bits. A draw moves it on, as a linear congruential generator does, and gives its upper half.
abbrev pub moved : ℕ → ℕ
moved state = (state * 6364136223846793005 + 1442695040888963407) % 2 ^ 64

-- the state after so many draws
unfoldable pub state_after : ℕ → ℕ → ℕ
state_after state zero = state
state_after state (suc count) = moved (state_after state count)

-- the draw of a place, from 0 on
abbrev pub draw_at : ℕ → ℕ → ℕ
draw_at state place = state_after state (place + 1) / 2 ^ 32

-- ---- programs

-- `addi x7, x0, OFFSET`, with the address of one of the first 256 words of memory
abbrev pub address_word : ℕ → ℕ
address_word draw = (4 * (draw % 256)) * 2 ^ 20 + 0x00000393

-- `lw x5, 0(x7)`, `sw x5, 0(x7)`, `amoadd.w x5, x11, (x7)` or `add x5, x5, x7`
abbrev pub access_word : ℕ → ℕ
access_word draw = slice_index (0x0003a283 ∷ 0x0053a023 ∷ 0x00b3a2af ∷ 0x007282b3 ∷ []) ((draw / 256) % 4)

abbrev pub pair_of : ℕ → List ℕ
pair_of draw = address_word draw ∷ access_word draw ∷ []

-- Two words for each of 31 draws, then `addi x6, x6, 1`, and `jal x0` back to the first word.
unfoldable pub text_from : ℕ → List ℕ
text_from state = flat_map (λ place. pair_of (draw_at state place)) (range_with_len 0 31) ++ 0x00130313 ∷ 0xf05ff06f ∷ []

-- ---- plans

abbrev pub made_shape : ℕ → ℕ → Geometry
made_shape cores slots = record { cores = cores; quantum = 4; line_words = 4; sets = 2; ways = 2; memory = 1024; slots = slots }

-- each core goes on with the draws behind those of the cores before it
abbrev pub made_program : ℕ → ℕ → Program
made_program seed core = Words (text_from (state_after seed (31 * core)))

-- the plan that a seed gives
unfoldable pub generated : ℕ → ℕ → ℕ → JobPlan
generated seed cores slots = record { shape = made_shape cores slots; programs = map (made_program seed) (range_with_len 0 cores) }

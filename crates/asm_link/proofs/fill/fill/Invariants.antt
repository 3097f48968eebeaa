use Rattle.std.proofs.Common.{◌≡◌, ℕ, ◌^◌, ◌<◌, take, None}
use Rattle.std.specs.Option.{option_or}
use Rattle.std.specs.List.{All, AllZip, flat_map}
use Rattle.asm_parse.specs.Assembly.{IsWordOf}
use Rattle.asm_link.specs.Bytes.{byte_of}
use Rattle.asm_link.specs.Values.{held}
use Rattle.asm_link.specs.Filled.{last_byte, step_fault, text_codes}
use Rattle.asm_link.proofs.fill.fill.Given as goal

abbrev pub invariant-loop-step : goal.invariant-loop-step
invariant-loop-step l =
    All (λ step. step_fault (held l.names) step ≡ None) (take l.step-index l.steps)
    × AllZip IsWordOf (flat_map (text_codes (held l.names)) (take l.step-index l.steps)) l.words.items
    × ((address : ℕ) → byte_of l.memory address ≡ option_or (last_byte (held l.names) (take l.step-index l.steps) address) (byte_of l.fn.memory address))
    × All (λ word. word < 2 ^ 32) l.words.items

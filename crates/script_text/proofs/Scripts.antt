-- Lines that are read one after another.
use Rattle.std.proofs.Common.{◌≡◌, ◌∙◌, ◌+◌, ℕ, Bool, true, false, List, [], ◌∷◌, ◌++◌, length, Result, Ok, Err, refl, ap, sym}
use Rattle.std.specs.Str.{IsUtf8, is_utf8}
use Rattle.std.proofs.lemmas.Str.{IsUtf8-from_is_utf8, is_utf8-from_IsUtf8}
use Rattle.std.specs.Str.Lines.{lines}
use Rattle.pmsi_model.specs.declared.job.Geometry.{Geometry}
use Rattle.job_text.specs.Cutting.{Row, fields_of, rows_from, rows_of, with_row}
use Rattle.script_text.specs.declared.command.Command.{Command}
use Rattle.script_text.specs.declared.fault.ScriptCause.{ScriptCause}
use Rattle.script_text.specs.declared.fault.ScriptFault.{ScriptFault}
use Rattle.script_text.specs.declared.fault.ScriptFault.TheVariants.{Line, NotText}
use Rattle.script_text.specs.Script.{command_in, commands_in, script_of}

abbrev row_of : ℕ → List (List ℕ) → Row
row_of number fields = record { number = number; fields = fields }

-- ---- one line

pub skips : (shape : Geometry) (commands : List Command) (number : ℕ) (fields : List (List ℕ)) (rows : List Row) → fields ≡ []
    → commands_in shape commands (with_row (row_of number fields) rows) ≡ commands_in shape commands rows
skips shape commands number fields rows none = rw none refl

pub takes : (shape : Geometry) (commands : List Command) (number : ℕ) (fields others : List (List ℕ)) (field : List ℕ) (command : Command) (rows : List Row) → fields ≡ field ∷ others
    → Ok command ≡ command_in shape (length commands) (field ∷ others)
    → commands_in shape commands (with_row (row_of number fields) rows) ≡ commands_in shape (commands ++ command ∷ []) rows
unfolding commands_in
takes shape commands number fields others field command rows some is = rw (some, sym is) refl

pub refuses : (shape : Geometry) (commands : List Command) (number : ℕ) (fields others : List (List ℕ)) (field : List ℕ) (why : ScriptCause) (rows : List Row) → fields ≡ field ∷ others
    → Err why ≡ command_in shape (length commands) (field ∷ others) → commands_in shape commands (with_row (row_of number fields) rows) ≡ Err (Line number why)
unfolding commands_in
refuses shape commands number fields others field why rows some is = rw (some, sym is) refl

pub counted : (result : Result Command ScriptCause) (shape : Geometry) (count size : ℕ) (fields : List (List ℕ)) → count ≡ size → result ≡ command_in shape count fields → result ≡ command_in shape size fields
counted result shape count size fields same is = is ∙ ap (λ n. command_in shape n fields) same

-- ---- all lines

pub begins : (shape : Geometry) (text : List ℕ) → commands_in shape [] (rows_of text) ≡ commands_in shape [] (rows_from 1 (lines text))
unfolding rows_of
begins shape text = refl

pub goes_on : (shape : Geometry) (commands more : List Command) (number : ℕ) (text line rest : List ℕ) → lines text ≡ line ∷ lines rest
    → ((rows : List Row) → commands_in shape commands (with_row (row_of number (fields_of line)) rows) ≡ commands_in shape more rows)
    → commands_in shape commands (rows_from number (lines text)) ≡ commands_in shape more (rows_from (number + 1) (lines rest))
unfolding rows_from
goes_on shape commands more number text line rest cut takes =
    ap (λ ls. commands_in shape commands (rows_from number ls)) cut ∙ takes (rows_from (number + 1) (lines rest))

pub stops : (shape : Geometry) (commands : List Command) (number : ℕ) (text line rest : List ℕ) (fault : ScriptFault) → lines text ≡ line ∷ lines rest
    → ((rows : List Row) → commands_in shape commands (with_row (row_of number (fields_of line)) rows) ≡ Err fault)
    → commands_in shape commands (rows_from number (lines text)) ≡ Err fault
unfolding rows_from
stops shape commands number text line rest fault cut refuses =
    ap (λ ls. commands_in shape commands (rows_from number ls)) cut ∙ refuses (rows_from (number + 1) (lines rest))

pub ends : (shape : Geometry) (commands : List Command) (number : ℕ) (text : List ℕ) → lines text ≡ [] → commands_in shape commands (rows_from number (lines text)) ≡ Ok commands
unfolding rows_from commands_in
ends shape commands number text none = rw none refl

-- ---- the whole

not_text_by : (shape : Geometry) (bytes : List ℕ) (text : Bool) → is_utf8 bytes ≡ text → (IsUtf8 bytes → ⊥) → script_of shape bytes ≡ Err NotText
unfolding script_of
not_text_by shape bytes true e other = absurd (other (IsUtf8-from_is_utf8 bytes e))
not_text_by shape bytes false e other = rw e refl

pub not_text : (shape : Geometry) (bytes : List ℕ) → (IsUtf8 bytes → ⊥) → script_of shape bytes ≡ Err NotText
not_text shape bytes other = not_text_by shape bytes (is_utf8 bytes) refl other

pub whole : (shape : Geometry) (bytes text : List ℕ) (read : Result (List Command) ScriptFault) → text ≡ bytes → IsUtf8 bytes → commands_in shape [] (rows_of text) ≡ read → script_of shape bytes ≡ read
unfolding script_of
whole shape bytes text read same fits e = rw (is_utf8-from_IsUtf8 bytes fits) (ap (λ t. commands_in shape [] (rows_of t)) (sym same) ∙ e)

-- How clap's walk goes over canonical words.
use Rattle.std.proofs.Common.{◌≡◌, ◌∙◌, ap, ap₂, refl, List, [], ◌∷◌, ℕ, ◌+◌, true, false}
use Rattle.std.specs.Prelude.{min}
use Rattle.clap.specs.Lexer.{usize_max}
use Rattle.std.specs.Prelude.{Option, Some, None, ◌==◌, fold, is_some}
use Rattle.clap.specs.Lexer.{long_of, short_of}
use Rattle.clap.specs.Kinds.{Kinds, or_else}
use Rattle.clap.specs.Walk.{rows_after, Held, Names, Row, Rule, Text, Walk, Waiting, Step, idle, option, positional, walked, walk, walk_from, nothing_held, word_met, plain_word, arg_by_long, arg_by_id, arg_by_index, settled, settled_rows, is_pending, first_of, finished, after_step, short_or_plain}
use Rattle.clap.specs.Simple.{App, Shape, built, filled, with_index, names_of, argument_words, matches_of, entered}
use Rattle.clap.specs.Faults.{built_fault, turn_fault, step_fault, word_fault, walk_fault, settle_fault, defaults_fault, check_fault, entered_fault, fault_of, bundle_fault}
use Rattle.std.specs.Option.{option_map_or}
use Rattle.std.specs.Str.{bytes_eq}
use Rattle.std.proofs.lemmas.Slice.Eq.{bytes_eq-Decides}
use Rattle.std.proofs.Math.Bool.{and-false}
use Rattle.tool_words.specs.declared.table.Choice.{Choice}
use Rattle.tool_words.specs.declared.table.Choice.TheVariants as choice
use Rattle.tool_words.specs.declared.table.Place.{Place}
use Rattle.tool_words.specs.Table.{choice_id, place_id}
use Rattle.tool_words.specs.Clap.{choice_rule, place_rule, found_where}

-- ---- words that don't begin with `-`

no_short : (byte : ℕ) (rest : Text) → (byte == 45) ≡ false → short_of (byte ∷ rest) ≡ None
no_short byte rest e = rw e refl

plain_met : (c : List Rule) (waiting : Waiting) (position byte : ℕ) (rest : Text) (h : Held) → (byte == 45) ≡ false
    → word_met c [] false waiting position (byte ∷ rest) h ≡ plain_word c waiting (byte ∷ rest) h
plain_met c idle position byte rest h e = rw e (ap (λ o. short_or_plain c idle (byte ∷ rest) o h) (no_short byte rest e))
plain_met c (option id) position byte rest h e = rw e (ap (λ o. short_or_plain c (option id) (byte ∷ rest) o h) (no_short byte rest e))
plain_met c positional position byte rest h e = rw e (ap (λ o. short_or_plain c positional (byte ∷ rest) o h) (no_short byte rest e))

plain_fault : (s : Shape) (waiting : Waiting) (byte : ℕ) (rest : Text) (h : Held) → (byte == 45) ≡ false
    → word_fault s [] false waiting (byte ∷ rest) h ≡ []
plain_fault s idle byte rest h e = rw e (ap (λ (o : Option Text). option_map_or (λ flags. bundle_fault s.rules s.args_override_self flags h) o []) (no_short byte rest e))
plain_fault s (option id) byte rest h e = rw e (ap (λ (o : Option Text). option_map_or (λ flags. bundle_fault s.rules s.args_override_self flags h) o []) (no_short byte rest e))
plain_fault s positional byte rest h e = rw e (ap (λ (o : Option Text). option_map_or (λ flags. bundle_fault s.rules s.args_override_self flags h) o []) (no_short byte rest e))

-- ---- the walk, between two words

abbrev pub Pending : Type 0
Pending = Option (Text × List Text)

abbrev pub held : List Row → Pending → Held
held rows pending = record { rows = rows; pending = pending; skip = 0 }

abbrev pub standing : List Row → Pending → ℕ → Walk
standing rows pending n = record { held = held rows pending; waiting = idle; position = n; is_trailing = false; stopped = None }

-- an option waits for its value
abbrev pub waits_for : List Rule → List Row → Pending → ℕ → Text → Walk
waits_for c rows pending n id =
    record { held = held (settled_rows c pending rows) (Some (id, [])); waiting = option id; position = n; is_trailing = false; stopped = None }

abbrev pub flag : Choice → Text
flag choice = 45 ∷ 45 ∷ choice_id choice

abbrev pub choice_filled : Choice → Rule
choice_filled choice = filled (choice_rule choice)

abbrev pub place_filled : ℕ → Place → Rule
place_filled n place = with_index n (filled (place_rule place))

flag_long : (choice : Choice) → long_of (flag choice) ≡ Some (choice_id choice, None)
flag_long choice.Workers = refl
flag_long choice.Trace = refl
flag_long choice.Touches = refl
flag_long choice.Cores = refl
flag_long choice.Slots = refl
flag_long choice.Run = refl

same_id : (id : Text) → bytes_eq id id ≡ true
same_id id = (bytes_eq-Decides id id).1 refl

not_dashes : (choice : Choice) → bytes_eq (flag choice) (45 ∷ 45 ∷ []) ≡ false
not_dashes choice.Workers = refl
not_dashes choice.Trace = refl
not_dashes choice.Touches = refl
not_dashes choice.Cores = refl
not_dashes choice.Slots = refl
not_dashes choice.Run = refl

nothing_more : (kinds : Kinds) → or_else kinds [] ≡ kinds
nothing_more [] = refl
nothing_more (kind ∷ kinds) = refl

walked_flag : (c : List Rule) (choice : Choice) (rows : List Row) (pending : Pending) (n : ℕ) → arg_by_long c (choice_id choice) ≡ Some (choice_filled choice)
    → walked c [] (standing rows pending n) (flag choice) ≡ waits_for c rows pending n (choice_id choice)
unfolding walked
walked_flag c choice rows pending n found = rw (not_dashes choice, flag_long choice, found) refl

fault_flag : (s : Shape) (choice : Choice) (rows : List Row) (pending : Pending) (n : ℕ) → arg_by_long s.rules (choice_id choice) ≡ Some (choice_filled choice)
    → turn_fault s [] (standing rows pending n) (flag choice) ≡ settle_fault s.rules s.args_override_self (held rows pending)
fault_flag s choice rows pending n found = rw (not_dashes choice, flag_long choice, found) (nothing_more (settle_fault s.rules s.args_override_self (held rows pending)))

walked_value : (c : List Rule) (choice : Choice) (rows : List Row) (pending : Pending) (n byte : ℕ) (rest : Text) → arg_by_id c (choice_id choice) ≡ Some (choice_filled choice) → (byte == 45) ≡ false
    → walked c [] (waits_for c rows pending n (choice_id choice)) (byte ∷ rest) ≡ standing (settled_rows c pending rows) (Some (choice_id choice, (byte ∷ rest) ∷ [])) n
unfolding walked
walked_value c choice rows pending n byte rest found plain =
    ap (λ (m : Held × Step). after_step c (byte ∷ rest) (waits_for c rows pending n (choice_id choice)) m.0 m.1) (plain_met c (option (choice_id choice)) n byte rest (held (settled_rows c pending rows) (Some (choice_id choice, []))) plain)
    ∙ rw (found, same_id (choice_id choice)) refl

fault_value : (s : Shape) (choice : Choice) (rows : List Row) (pending : Pending) (n byte : ℕ) (rest : Text) → (byte == 45) ≡ false
    → turn_fault s [] (waits_for s.rules rows pending n (choice_id choice)) (byte ∷ rest) ≡ []
fault_value s choice rows pending n byte rest plain =
    ap₂ (λ (f : Kinds) (m : Held × Step). or_else f (step_fault s n m.0 m.1)) (plain_fault s (option (choice_id choice)) byte rest (held (settled_rows s.rules pending rows) (Some (choice_id choice, []))) plain)
    (plain_met s.rules (option (choice_id choice)) n byte rest (held (settled_rows s.rules pending rows) (Some (choice_id choice, []))) plain)

walked_place : (c : List Rule) (place : Place) (rows : List Row) (pending : Pending) (n byte : ℕ) (rest : Text) → arg_by_index c n ≡ Some (place_filled n place) → min (n + 1) usize_max ≡ n + 1 → (byte == 45) ≡ false
    → walked c [] (standing rows pending n) (byte ∷ rest) ≡ standing (settled_rows c pending rows) (Some (place_id place, (byte ∷ rest) ∷ [])) (n + 1)
unfolding walked
walked_place c place rows pending n byte rest found small plain =
    ap (λ (m : Held × Step). after_step c (byte ∷ rest) (standing rows pending n) m.0 m.1) (plain_met c idle n byte rest (held rows pending) plain)
    ∙ rw (found, and-false (is_pending (place_filled n place) pending), small) refl

fault_place : (s : Shape) (place : Place) (rows : List Row) (pending : Pending) (n byte : ℕ) (rest : Text) → arg_by_index s.rules n ≡ Some (place_filled n place) → (byte == 45) ≡ false
    → turn_fault s [] (standing rows pending n) (byte ∷ rest) ≡ settle_fault s.rules s.args_override_self (held rows pending)
fault_place s place rows pending n byte rest found plain =
    ap₂ (λ (f : Kinds) (m : Held × Step). or_else f (step_fault s n m.0 m.1)) (plain_fault s idle byte rest (held rows pending) plain)
    (plain_met s.rules idle n byte rest (held rows pending) plain)
    ∙ rw (found, and-false (is_pending (place_filled n place) pending)) refl

-- ---- over several words

-- the walk goes from here to there over these words, with no fault
pub record Goes (s : Shape) (from : Walk) (words : List Text) (to : Walk) : Type 0 where
  pub ends : fold (walked s.rules []) from words ≡ to
  pub faultless : walk_fault s [] from words ≡ []

pub stays : (s : Shape) (w : Walk) → Goes s w [] w
unfolding walk_fault
stays s w = record { ends = refl; faultless = refl }

one_more : (s : Shape) (from after to : Walk) (word : Text) (words : List Text) → walked s.rules [] from word ≡ after → turn_fault s [] from word ≡ [] → Goes s after words to → Goes s from (word ∷ words) to
unfolding walk_fault
one_more s from after to word words is none goes = record {
  ends = ap (λ (w : Walk). fold (walked s.rules []) w words) is ∙ goes.ends;
  faultless = ap₂ (λ (f : Kinds) (w : Walk). or_else f (walk_fault s [] w words)) none is ∙ goes.faultless;
}

-- a word that doesn't begin with `-`
pub record IsPlain (word : Text) : Type 0 where
  pub byte : ℕ
  pub rest : Text
  pub spelt : word ≡ byte ∷ rest
  pub front : (byte == 45) ≡ false

pub over_choice : (s : Shape) (choice : Choice) (rows : List Row) (pending : Pending) (n : ℕ) (word : Text) (words : List Text) (to : Walk)
    → arg_by_long s.rules (choice_id choice) ≡ Some (choice_filled choice) → arg_by_id s.rules (choice_id choice) ≡ Some (choice_filled choice)
    → settle_fault s.rules s.args_override_self (held rows pending) ≡ [] → IsPlain word
    → Goes s (standing (settled_rows s.rules pending rows) (Some (choice_id choice, word ∷ [])) n) words to
    → Goes s (standing rows pending n) (flag choice ∷ word ∷ words) to
over_choice s choice rows pending n word words to long id none plain goes =
    let at : Goes s (standing (settled_rows s.rules pending rows) (Some (choice_id choice, (plain.byte ∷ plain.rest) ∷ [])) n) words to = rw plain.spelt at goes in
    rw plain.spelt (one_more s _ _ to (flag choice) ((plain.byte ∷ plain.rest) ∷ words) (walked_flag s.rules choice rows pending n long) (fault_flag s choice rows pending n long ∙ none)
    (one_more s _ _ to (plain.byte ∷ plain.rest) words (walked_value s.rules choice rows pending n plain.byte plain.rest id plain.front) (fault_value s choice rows pending n plain.byte plain.rest plain.front) at))

pub over_place : (s : Shape) (place : Place) (rows : List Row) (pending : Pending) (n : ℕ) (word : Text) (words : List Text) (to : Walk)
    → arg_by_index s.rules n ≡ Some (place_filled n place) → min (n + 1) usize_max ≡ n + 1
    → settle_fault s.rules s.args_override_self (held rows pending) ≡ [] → IsPlain word
    → Goes s (standing (settled_rows s.rules pending rows) (Some (place_id place, word ∷ [])) (n + 1)) words to
    → Goes s (standing rows pending n) (word ∷ words) to
over_place s place rows pending n word words to index small none plain goes =
    let at : Goes s (standing (settled_rows s.rules pending rows) (Some (place_id place, (plain.byte ∷ plain.rest) ∷ [])) (n + 1)) words to = rw plain.spelt at goes in
    rw plain.spelt (one_more s _ _ to (plain.byte ∷ plain.rest) words (walked_place s.rules place rows pending n plain.byte plain.rest index small plain.front) (fault_place s place rows pending n plain.byte plain.rest index plain.front ∙ none) at)

-- ---- after the walk

abbrev pub end_fault : App → Walk → Kinds → Kinds
end_fault a w before = or_else before (or_else (entered_fault a w.stopped) (or_else (settle_fault a.top.rules a.top.args_override_self w.held)
    (or_else (defaults_fault (settled a.top.rules w.held).rows a.top.rules) (check_fault a.top (finished a.top.rules w.held) (is_some (entered a w.stopped))))))

faults_at : (a : App) (words : List Text) (to : Walk) → names_of a ≡ [] → Goes a.top (walk_from nothing_held) words to → end_fault a to [] ≡ []
    → built_fault a nothing_held words ≡ []
faults_at a words to none goes good =
    ap (λ (names : Names). end_fault a (walk a.top.rules names nothing_held words) (walk_fault a.top names (walk_from nothing_held) words)) none
    ∙ ap₂ (end_fault a) goes.ends goes.faultless ∙ good

rows_at : (a : App) (words : List Text) (to : Walk) → names_of a ≡ [] → Goes a.top (walk_from nothing_held) words to
    → rows_after a.top.rules (names_of a) words ≡ finished a.top.rules to.held
rows_at a words to none goes = ap (λ (names : Names). rows_after a.top.rules names words) none ∙ ap (λ (w : Walk). finished a.top.rules w.held) goes.ends

pub found_at : (app : App) (word : Text) (words : List Text) (to : Walk) → names_of (built app) ≡ [] → argument_words app (word ∷ words) ≡ words
    → Goes (built app).top (walk_from nothing_held) words to → end_fault (built app) to [] ≡ []
    → found_where (fault_of app (word ∷ words)) (λ id. first_of id (matches_of app (word ∷ words))) ≡ Some (λ id. first_of id (finished (built app).top.rules to.held))
found_at app word words to names rest goes good =
    let faultless : fault_of app (word ∷ words) ≡ [] = ap (built_fault (built app) nothing_held) rest ∙ faults_at (built app) words to names goes good in
    let rows : matches_of app (word ∷ words) ≡ finished (built app).top.rules to.held = ap (rows_after (built app).top.rules (names_of (built app))) rest ∙ rows_at (built app) words to names goes in
    ap₂ found_where faultless (ap {B = Text → Option Text} (λ (r : List Row) (id : Text). first_of id r) rows)

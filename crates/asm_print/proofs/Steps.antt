-- The steps of lines whose statements are known.
use Rattle.std.proofs.Common.{◌≡◌, Bool, ℕ, ◌+◌, false, true, List, [], ◌∷◌, ◌++◌, map, None, refl, ap}
use Rattle.std.specs.Prelude.{not}
use Rattle.std.specs.List.{AllZip, filter, flat_map}
use Rattle.asm_parse.specs.declared.place.Place.{Place}
use Rattle.asm_parse.specs.Lines.{lines_of}
use Rattle.asm_operands.specs.Operands.{Lexeme}
use Rattle.asm_parse.specs.Mnemonics.{Item}
use Rattle.asm_parse.specs.Assembly.{Before, Statement, Nothing, Switch, Emit, Zeros, MoveTo, Define, Asks, Reads, Step, asked, first_of, labels_of, behind_labels, reading_fault, placing_fault, first_twice, text_fault, range_fault, overlap_fault, defined_by, step_of, after_step, steps_from, moved, run_by, names_of, placed, placed_from, later_fault, first_fault, codes_of, bytes_by, IsWordOf}
use Rattle.asm_print.proofs.Spelling.{IsRead}
use Rattle.asm_print.proofs.TextLines.{IsGood}

-- ---- one line

-- a line that has no label, and does this in a place
pub record IsPlain (line : List ℕ) (place : Place) (does : Statement) : Type 0 where
  pub found : List Lexeme
  pub read : IsRead line found
  pub labels : labels_of found ≡ []
  pub behind : behind_labels found ≡ found
  pub asks : asked place [] found ≡ Asks (Reads None does)

-- it fits behind the lines before, which have put these runs of bytes into memory
pub record IsPlaced (place : Place) (runs : List (ℕ × ℕ)) (does : Statement) : Type 0 where
  pub nameless : defined_by does ≡ []
  pub text : text_fault place does ≡ None
  pub range : range_fault place does ≡ None
  pub overlap : overlap_fault (record { place = place; names = []; equs = []; runs = runs }) does ≡ None

abbrev pub before : Place → List (ℕ × ℕ) → Before
before place runs = record { place = place; names = []; equs = []; runs = runs }

abbrev pub plain_step : ℕ → Place → Statement → Step
plain_step number place does = record { number = number; place = place; labels = []; does = does; fault = None }

placing_none : (place : Place) (runs : List (ℕ × ℕ)) (does : Statement) → IsPlaced place runs does → placing_fault (before place runs) [] does ≡ None
unfolding placing_fault first_of first_twice
placing_none place runs does placed = rw placed.nameless (rw placed.text (rw placed.range (rw placed.overlap refl)))

reading_none : (line : List ℕ) (found : List Lexeme) (does : Statement) → IsRead line found → reading_fault line (Asks (Reads None does)) ≡ None
unfolding reading_fault first_of
reading_none line found does read = rw read.code (rw read.plain refl)

step_is : (number : ℕ) (place : Place) (runs : List (ℕ × ℕ)) (line : List ℕ) (does : Statement) → IsPlain line place does → IsPlaced place runs does → step_of number (before place runs) line ≡ plain_step number place does
unfolding step_of first_of
step_is number place runs line does plain placed =
    rw plain.read.code (rw plain.read.lexemes (rw plain.labels (rw plain.behind (rw plain.asks (rw (reading_none line plain.found does plain.read) (rw (placing_none place runs does placed) refl))))))

-- what a step leaves, where it defines no name
after_is : (number : ℕ) (place : Place) (runs : List (ℕ × ℕ)) (does : Statement) → defined_by does ≡ [] →
    after_step (before place runs) (plain_step number place does) ≡ before (moved does place) (run_by (plain_step number place does) ++ runs)
unfolding after_step
after_is number place runs Nothing nameless = refl
after_is number place runs (Switch to_data) nameless = refl
after_is number place runs (Emit items) nameless = refl
after_is number place runs (Zeros count) nameless = refl
after_is number place runs (MoveTo address) nameless = refl
after_is number place runs (Define name n) nameless = absurd (cc)

-- the steps of a source that begins with such a line
pub steps_are : (number : ℕ) (place : Place) (runs : List (ℕ × ℕ)) (line rest : List ℕ) (does : Statement) → IsPlain line place does → IsPlaced place runs does →
    steps_from number (before place runs) (lines_of (line ++ 10 ∷ rest))
    ≡ plain_step number place does ∷ steps_from (number + 1) (before (moved does place) (run_by (plain_step number place does) ++ runs)) (lines_of rest)
unfolding steps_from
steps_are number place runs line rest does plain placed =
    rw (plain.read.lines rest) (rw (step_is number place runs line does plain placed) (rw (after_is number place runs does placed.nameless) refl))

-- ---- what steps give

-- steps without a fault, which define no name, give these words and runs of bytes
pub record Give (steps : List Step) (words : List ℕ) (bytes : List (ℕ × List ℕ)) : Type 0 where
  pub first : first_fault (λ step. step.fault) steps ≡ None
  pub names : names_of steps ≡ []
  pub later : first_fault (later_fault []) steps ≡ None
  pub text : AllZip IsWordOf (flat_map (codes_of []) (filter (λ step. not step.place.in_data) steps)) words
  pub runs : map (λ step. (step.place.data_at, bytes_by [] step)) (filter (λ step. step.place.in_data) steps) ≡ bytes

pub give_none : Give [] [] []
unfolding first_of names_of
give_none = record { first = refl; names = refl; later = refl; text = tt; runs = refl }

abbrev pub at_text : ℕ → Place
at_text address = record { in_data = false; text_at = address; data_at = 0 }

abbrev pub at_data : ℕ → ℕ → Place
at_data text address = record { in_data = true; text_at = text; data_at = address }

pub give_switch : (number address : ℕ) (to_data : Bool) (steps : List Step) (words : List ℕ) (bytes : List (ℕ × List ℕ)) → Give steps words bytes →
    Give (plain_step number (at_text address) (Switch to_data) ∷ steps) words bytes
unfolding first_of names_of later_fault placed placed_from
give_switch number address to_data steps words bytes give = record { first = give.first; names = give.names; later = give.later; text = give.text; runs = give.runs }

pub give_move : (number text address to : ℕ) (steps : List Step) (words : List ℕ) (bytes : List (ℕ × List ℕ)) → Give steps words bytes →
    Give (plain_step number (at_data text address) (MoveTo to) ∷ steps) words ((address, []) ∷ bytes)
unfolding first_of names_of later_fault placed placed_from
give_move number text address to steps words bytes give = record { first = give.first; names = give.names; later = give.later; text = give.text; runs = ap (λ runs. (address, []) ∷ runs) give.runs }

pub give_word : (number address word : ℕ) (item : Item) (steps : List Step) (words : List ℕ) (bytes : List (ℕ × List ℕ)) → IsGood address item word → Give steps words bytes →
    Give (plain_step number (at_text address) (Emit ((4, item) ∷ [])) ∷ steps) (word ∷ words) bytes
unfolding first_of names_of later_fault placed placed_from
give_word number address word item steps words bytes good give = record {
  first = give.first;
  names = give.names;
  later = rw good.known (rw good.fits (rw good.reached give.later));
  text = (good.stands, give.text);
  runs = give.runs;
}

-- What clap's answers say of the words.
use Rattle.std.proofs.Common.{◌≡◌, ◌∙◌, ◌⊎◌, ap, ap₂, sym, refl, List, [], ◌∷◌, ⊎_elim, true, subst, ℕ, ◌+◌, ◌<◌, length, get_or, take}
use Rattle.std.proofs.lemmas.List.Sums.{fold_more}
use Rattle.std.specs.Prelude.{Option, Some, None}
use Rattle.clap.specs.Words.{App, Text, Row, first_of, fault_of, is_simple, matches_of, is_simple_and_free, IsAmong, Kinds, with_rule}
use Rattle.tool_words.specs.declared.table.Choice.{Choice}
use Rattle.tool_words.specs.declared.table.Place.{Place}
use Rattle.clap.specs.declared.error.kind.ErrorKind.{ErrorKind}
use Rattle.clap.specs.declared.error.kind.ErrorKind.TheVariants.{OutOfMemory}
use Rattle.clap.proofs.WalkLemmas.{both}
use Rattle.tool_words.specs.declared.table.Command.{Command}
use Rattle.tool_words.specs.declared.table.Command.TheVariants.{Run, Sim, Trace, Asm, Dis, Image, Gen, Debug}
use Rattle.tool_words.specs.Clap.{app_for, found_where, found_in, with_choices, with_places, choice_rule, place_rule}

is_simple_line : (command : Command) → is_simple_and_free (app_for command) ≡ true
is_simple_line Run = refl
is_simple_line Sim = refl
is_simple_line Trace = refl
is_simple_line Asm = refl
is_simple_line Dis = refl
is_simple_line Image = refl
is_simple_line Gen = refl
is_simple_line Debug = refl

pub taken : {X : Type 0} (command : Command) (a : App) (words : List Text) (rows : List Row) → a ≡ app_for command
    → (is_simple_and_free a ≡ true → fault_of a words ≡ []) → (is_simple a ≡ true → (rows ≡ matches_of a words) × X)
    → found_in command words ≡ Some (λ id. first_of id rows)
taken command a words rows is faultless matched =
    let plain : is_simple_and_free a ≡ true = ap is_simple_and_free is ∙ is_simple_line command in
    let none : fault_of (app_for command) words ≡ [] = sym (ap {B = Kinds} (λ (b : App). fault_of b words) is) ∙ faultless plain in
    let found : matches_of (app_for command) words ≡ rows = sym ((matched (both (is_simple a) _ plain).0).0 ∙ ap {B = List Row} (λ (b : App). matches_of b words) is) in
    ap₂ found_where none (ap {B = Text → Option Text} (λ (r : List Row) (id : Text). first_of id r) found)

none_where : (kinds : Kinds) (found : Text → Option Text) (kind : ErrorKind) → IsAmong kind kinds → found_where kinds found ≡ None
none_where [] found kind among = absurd among
none_where (k ∷ kinds) found kind among = refl

pub untaken : (command : Command) (a : App) (words : List Text) (kind : ErrorKind) → a ≡ app_for command
    → (is_simple_and_free a ≡ true → (kind ≡ OutOfMemory) ⊎ IsAmong kind (fault_of a words)) → (kind ≡ OutOfMemory → ⊥)
    → found_in command words ≡ None
untaken command a words kind is faults other =
    let plain : is_simple_and_free a ≡ true = ap is_simple_and_free is ∙ is_simple_line command in
    ap {B = Option (Text → Option Text)} (λ (b : App). found_where (fault_of b words) (λ id. first_of id (matches_of b words))) (sym is)
    ∙ ⊎_elim (λ out. absurd (other out)) (λ among. none_where (fault_of a words) _ kind among) (faults plain)

pub more_choices : (app : App) (all choices : List Choice) (index : ℕ) (d : Choice) → all ≡ choices → index < length all
    → with_rule (with_choices app (take index choices)) (choice_rule (get_or all index d)) ≡ with_choices app (take (index + 1) choices)
more_choices app all choices index d same below =
    subst (λ (l : List Choice). with_rule (with_choices app (take index l)) (choice_rule (get_or all index d)) ≡ with_choices app (take (index + 1) l)) same
    (sym (fold_more (λ (a : App) (c : Choice). with_rule a (choice_rule c)) app all index d below))

pub more_places : (app : App) (all places : List Place) (index : ℕ) (d : Place) → all ≡ places → index < length all
    → with_rule (with_places app (take index places)) (place_rule (get_or all index d)) ≡ with_places app (take (index + 1) places)
more_places app all places index d same below =
    subst (λ (l : List Place). with_rule (with_places app (take index l)) (place_rule (get_or all index d)) ≡ with_places app (take (index + 1) l)) same
    (sym (fold_more (λ (a : App) (p : Place). with_rule a (place_rule p)) app all index d below))

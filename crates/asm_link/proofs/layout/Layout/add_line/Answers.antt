use Rattle.std.proofs.Common.{◌≡◌, ◌≢◌, ℕ, List, [], ◌++◌, refl, subst, arith}
use Rattle.std.proofs.lemmas.Result.{err_from_is_err_and}
use Rattle.asm_operands.specs.declared.lexeme.Lexeme as written
use Rattle.asm_parse.specs.declared.fault.AsmFault.TheVariants.{NoMemory}
use Rattle.asm_parse.specs.Assembly.{defined_by, equs_of, here}
use Rattle.asm_parse.specs.Items.{statement_of}
use Rattle.asm_operands.specs.Meanings.{lexemes}
use Rattle.asm_link.specs.Defined.{Defines, RefusesTwice, labelled}
use Rattle.asm_link.proofs.NameLaws.{refuses_more, refuses_first, labelled_named}
use Rattle.asm_link.proofs.Laying.{adds, defines_all, refuses_reading, refuses_names, refuses_room}
use Rattle.asm_link.proofs.Room.{kept_more, room_more, here_within, ends_within}
use Rattle.asm_link.proofs.layout.Layout.add_line.Goals as goal

pub returns-in_err-labels-clause-fault : goal.returns-in_err-labels-clause-fault
returns-in_err-labels-clause-fault c =
    let p = err_from_is_err_and c.from_residual.result c.from_residual.ensures.1 in
    rw (p.1, p.2) (λ free. refuses_reading c.args.self.now c.args.line.now _ (c.in_err-labels.ensures.fault free))

pub returns-in_err-define_labels-clause-fault : goal.returns-in_err-define_labels-clause-fault
returns-in_err-define_labels-clause-fault c =
    let p = err_from_is_err_and c.from_residual-in_err-define_labels.result c.from_residual-in_err-define_labels.ensures.1 in
    let read = c.in_ok-labels.field-0 in
    let same : c.deref.result.now ≡ read.labels.items = grind (arith, c.deref.ensures.value, c.in_ok-labels.labels-is) in
    rw (p.1, p.2) (λ free. refuses_names c.args.self.now c.args.line.now read _ c.in_ok-labels.ensures.line
    (refuses_first c.args.self.now.names c.args.self.now.number (lexemes read.labels.items) (defined_by (statement_of read.does)) _
    (subst (λ (k : List written.Lexeme). RefusesTwice c.args.self.now.names c.args.self.now.number (lexemes k) c.in_err-define_labels.field-0.0) same (c.in_err-define_labels.ensures.twice free))))

pub returns-in_err-define_constant-clause-fault : goal.returns-in_err-define_constant-clause-fault
returns-in_err-define_constant-clause-fault c =
    let p = err_from_is_err_and c.from_residual-in_err-define_constant.result c.from_residual-in_err-define_constant.ensures.1 in
    let read = c.in_ok-labels.field-0 in
    let old = c.args.self.now.names in
    let mid = c.define_labels.new.names in
    let same : c.deref.result.now ≡ read.labels.items = grind (arith, c.deref.ensures.value, c.in_ok-labels.labels-is) in
    let first : Defines old mid (lexemes read.labels.items) (labelled (lexemes read.labels.items) (here c.args.self.now.place)) [] =
    subst (λ (k : List written.Lexeme). Defines old mid (lexemes k) (labelled (lexemes k) (here c.args.self.now.place)) []) same (subst (λ (n : ℕ). Defines old mid (lexemes c.deref.result.now) (labelled (lexemes c.deref.result.now) n) []) c.here.ensures c.in_ok-define_labels.ensures.ok) in
    let second : c.in_err-define_constant.field-0.0 ≢ NoMemory → RefusesTwice mid c.args.self.now.number (defined_by (statement_of read.does)) c.in_err-define_constant.field-0.0 =
    λ free. c.in_err-define_constant.ensures.twice free in
    rw (p.1, p.2) (λ free. refuses_names c.args.self.now c.args.line.now read _ c.in_ok-labels.ensures.line
    (refuses_more old mid c.args.self.now.number (lexemes read.labels.items) (defined_by (statement_of read.does)) (labelled (lexemes read.labels.items) (here c.args.self.now.place)) [] _
    (labelled_named (lexemes read.labels.items) (here c.args.self.now.place)) first (second free)))

pub returns-in-Some-clause-fault : goal.returns-in-Some-clause-fault
returns-in-Some-clause-fault c _ =
    let read = c.in_ok-labels.field-0 in
    let labels = lexemes read.labels.items in
    let does = statement_of read.does in
    let address = here c.args.self.now.place in
    let first : Defines c.args.self.now.names c.define_labels.new.names labels (labelled labels address) [] =
    subst (λ (k : List written.Lexeme). Defines c.args.self.now.names c.define_labels.new.names (lexemes k) (labelled (lexemes k) address) []) c.deref.ensures.value
    (subst (λ (n : ℕ). Defines c.args.self.now.names c.define_labels.new.names (lexemes c.deref.result.now) (labelled (lexemes c.deref.result.now) n) []) c.here.ensures c.in_ok-define_labels.ensures.ok) in
    let both = defines_all c.args.self.now.names c.define_labels.new.names c.define_constant.new.names labels (defined_by does) address (equs_of does) first c.in_ok-define_constant.ensures.ok in
    refuses_room c.args.self.now c.args.line.now read c.in-Some.cause c.define_constant.new.names (labelled labels address ++ equs_of does) (equs_of does) c.in_ok-labels.ensures.line both c.in-Some.ensures.fault

pub returns-clause-line : goal.returns-clause-line
returns-clause-line c =
    let read = c.in_ok-labels.field-0 in
    let labels = lexemes read.labels.items in
    let does = statement_of read.does in
    let address = here c.args.self.now.place in
    let first : Defines c.args.self.now.names c.define_labels.new.names labels (labelled labels address) [] =
    subst (λ (k : List written.Lexeme). Defines c.args.self.now.names c.define_labels.new.names (lexemes k) (labelled (lexemes k) address) []) c.deref.ensures.value
    (subst (λ (n : ℕ). Defines c.args.self.now.names c.define_labels.new.names (lexemes c.deref.result.now) (labelled (lexemes c.deref.result.now) n) []) c.here.ensures c.in_ok-define_labels.ensures.ok) in
    let both = defines_all c.args.self.now.names c.define_labels.new.names c.define_constant.new.names labels (defined_by does) address (equs_of does) first c.in_ok-define_constant.ensures.ok in
    adds c.args.self.now _ c.args.line.now read c.in_ok-labels.ensures.line both c.in_default.ensures.fault refl c.moved-self.ensures c.in_ok-name_bytes.ensures.runs c.in_ok-keep.ensures c.in_ok-labels.ensures.sound

pub returns-clause-kept : goal.returns-clause-kept
returns-clause-kept c all =
    kept_more c.args.self.now.steps.items _ c.args.self.now.number c.args.self.now.place c.in_ok-labels.field-0.does c.in_ok-keep.ensures c.in_ok-labels.ensures.sound
    (here_within c.args.self.now.place c.requires.within) all

pub returns-clause-room : goal.returns-clause-room
returns-clause-room c all names =
    let does = c.in_ok-labels.field-0.does in
    let place = c.args.self.now.place in
    room_more names c.args.self.now.memory c.name_bytes.new.memory c.args.self.now.steps.items _ c.args.self.now.number place does c.in_ok-keep.ensures c.in_ok-labels.ensures.sound
    (here_within place c.requires.within) (λ k here lt. c.in_ok-name_bytes.ensures.named k here (rw c.size_of-size.ensures lt)) (ends_within place (statement_of does) c.requires.within (c.in_default.ensures.within refl)) c.in_ok-name_bytes.ensures.still (all names)

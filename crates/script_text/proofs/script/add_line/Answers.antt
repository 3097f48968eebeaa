use Rattle.std.proofs.Common.{◌≡◌, ◌∙◌, ◌∷◌, length, Ok, Err, true, sym, ap, subst, rules}
use Rattle.std.specs.List.{All}
use Rattle.std.proofs.lemmas.List.Elements.{All-push}
use Rattle.job_text.specs.Cutting.{fields_between, fields_of}
use Rattle.script_text.specs.declared.command.Command.{Command}
use Rattle.script_text.specs.Script.{commands_in, is_in_range}
use Rattle.script_text.proofs.Scripts.{skips, takes, refuses, counted}
use Rattle.script_text.proofs.script.add_line.Goals as goal

pub returns-in_default-clause-ok : goal.returns-in_default-clause-ok
returns-in_default-clause-ok c rows =
    skips c.args.shape.now c.args.commands.now.items c.args.number (fields_of c.args.line.now) rows (ap fields_between (sym c.code_of.ensures) ∙ c.in_default.ensures.end)

pub returns-in-Err-clause-err : goal.returns-in-Err-clause-err
returns-in-Err-clause-err c free rows =
    let size : c.len.result ≡ length c.args.commands.now.items = search rules in
    refuses c.args.shape.now c.args.commands.now.items c.args.number (fields_of c.args.line.now) (fields_between c.in-Some.rest.now) c.in-Some.first.now c.in-Err.why rows
    (ap fields_between (sym c.code_of.ensures) ∙ c.in-Some.ensures.field) (counted (Err c.in-Err.why) c.args.shape.now c.len.result (length c.args.commands.now.items) (c.in-Some.first.now ∷ fields_between c.in-Some.rest.now) size c.in-Err.ensures.value)

pub returns-clause-range : goal.returns-clause-range
returns-clause-range c =
    let P : Command → Type 0 = λ command. is_in_range c.args.shape.now command ≡ true in
    subst (All P) (sym c.in_ok-push-in-Ok.ensures.items) (All-push P c.args.commands.now.items c.in-Ok.command c.requires.range c.in-Ok.ensures.range)

pub returns-clause-ok : goal.returns-clause-ok
returns-clause-ok c rows =
    let size : c.len.result ≡ length c.args.commands.now.items = search rules in
    takes c.args.shape.now c.args.commands.now.items c.args.number (fields_of c.args.line.now) (fields_between c.in-Some.rest.now) c.in-Some.first.now c.in-Ok.command rows
    (ap fields_between (sym c.code_of.ensures) ∙ c.in-Some.ensures.field) (counted (Ok c.in-Ok.command) c.args.shape.now c.len.result (length c.args.commands.now.items) (c.in-Some.first.now ∷ fields_between c.in-Some.rest.now) size c.in-Ok.ensures.value)
    ∙ ap (λ commands. commands_in c.args.shape.now commands rows) (sym c.in_ok-push-in-Ok.ensures.items)

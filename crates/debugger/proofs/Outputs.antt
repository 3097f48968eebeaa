-- What commands print, one after another.
use Rattle.std.proofs.Common.{◌≡◌, ◌∙◌, ℕ, ◌+◌, ◌<◌, ◌≤◌, List, ◌++◌, length, drop, get_or, refl, ap, sym, append_assoc, append-nil}
use Rattle.std.proofs.lemmas.List.{drop_more, drop_all}
use Rattle.pmsi_model.specs.Job.{JobValue}
use Rattle.script_text.specs.declared.command.Command.{Command}
use Rattle.debugger.specs.declared.session.Session.{Session}
use Rattle.script_text.specs.Output.{Place, after, output_from, printed}
use Rattle.debugger.specs.Sessions.{IsAt}

-- a session has come so far from a place: what is still to be printed follows what was
pub record IsOnIts (job : JobValue) (place : Place) (commands rest : List Command) (start out : List ℕ) (session : Session) : Type 0 where
  pub now : Place
  pub at : IsAt job now session
  pub text : start ++ output_from job place commands ≡ out ++ output_from job now rest

pub begins : (job : JobValue) (place : Place) (commands : List Command) (out : List ℕ) (session : Session) → IsAt job place session → IsOnIts job place commands (drop 0 commands) out out session
begins job place commands out session at = record { now = place; at = at; text = refl }

pub goes_on : (job : JobValue) (place : Place) (commands : List Command) (i : ℕ) (other : Command) (start before more : List ℕ) (session next : Session) → i < length commands
    → IsOnIts job place commands (drop i commands) start before session
    → ((now : Place) → IsAt job now session → IsAt job (after job now (get_or commands i other)) next)
    → ((now : Place) → IsAt job now session → more ≡ before ++ printed job (after job now (get_or commands i other)).slot (get_or commands i other))
    → IsOnIts job place commands (drop (i + 1) commands) start more next
unfolding output_from
goes_on job place commands i other start before more session next low on moves prints =
    let now = on.now in
    let command : Command = get_or commands i other in
    let first : List ℕ = printed job (after job now command).slot command in
    let rest : List ℕ = output_from job (after job now command) (drop (i + 1) commands) in
    record {
      now = after job now command;
      at = moves now on.at;
      text = on.text ∙ ap (λ cs. before ++ output_from job now cs) (drop_more commands i other low) ∙ sym (append_assoc before first rest) ∙ ap (λ text. text ++ rest) (sym (prints now on.at));
    }

pub ends : (job : JobValue) (place : Place) (commands : List Command) (i : ℕ) (start out : List ℕ) (session : Session) → length commands ≤ i → IsOnIts job place commands (drop i commands) start out session
    → out ≡ start ++ output_from job place commands
unfolding output_from
ends job place commands i start out session end on =
    sym (on.text ∙ ap (λ cs. out ++ output_from job on.now cs) (drop_all i commands end) ∙ append-nil out)
